-- The encoded bytes of a node are read as that node.
use Rattle.std.proofs.Common.{◌≡◌, ℕ, zero, suc, ◌+◌, ◌/◌, ◌%◌, ◌^◌, ◌<◌, ◌≤◌, List, [], ◌∷◌, ◌++◌, length, length-append, flat_map, map, Option, None, Some, IfSome, inl, inr, refl, sym, ap, ◌∙◌, subst, arith, append_assoc, append-nil}
use Rattle.std.specs.List.{AllByRecursion}
use Rattle.std.proofs.lemmas.Bool.{cases_lt}
use Rattle.std.proofs.Math.Nat.{pow-succ'}
use Rattle.ipld_tree.specs.Cid.{varint, varint_groups, cid_bytes}
use Rattle.ipld_tree.proofs.Cids.{one_group, more_groups, varint_length}
use Rattle.dag_pb.specs.Varint.{number_of, AreGroups, IsVarint, BeginsWithVarint}
use Rattle.dag_pb.specs.Node.{BeginsWithBytes, MayBeginWithBytes, MayBeNumber, LinkParts, IsLink, NodeParts, Field, link_field, data_field, data_fields, BeginsWithField, BeginsWithFields, AreFieldsOf, IsNode}
use Rattle.dag_pb.specs.Spelling.{bytes_field, name_field, tsize_field, data_field_bytes, link_message, link_spelling, node_spelling, IsSpellableLink, IsSpellable}
use Rattle.dag_pb.proofs.Orders.{node_links_in}
use Rattle.dag_pb.proofs.Rows.{one_row}

-- ---- numbers

more_group : (g : ℕ) (t : List ℕ) → 128 ≤ g → AreGroups t → AreGroups (g ∷ t)
more_group g [] high h = absurd h
more_group g (a ∷ t) high h = (high, h)

-- the groups are a form of n
abbrev AreGroupsOf : List ℕ → ℕ → Type 0
AreGroupsOf b n = AreGroups b × (number_of b ≡ n)

last_group : (more n : ℕ) → n < 128 → AreGroupsOf (varint_groups (suc more) n) n
last_group more n low =
    let one : AreGroupsOf (n ∷ []) n = (low, omega arith) in
    subst (λ b. AreGroupsOf b n) (sym (one_group more n low)) one

group_before : (more n : ℕ) → 128 ≤ n → AreGroupsOf (varint_groups more (n / 128)) (n / 128) → AreGroupsOf (varint_groups (suc more) n) n
group_before more n high rest =
    let is = rest.1 in
    let all : AreGroupsOf ((128 + n % 128) ∷ varint_groups more (n / 128)) n = (more_group (128 + n % 128) (varint_groups more (n / 128)) (omega arith) rest.0, omega (arith, is)) in
    subst (λ b. AreGroupsOf b n) (sym (more_groups more n high)) all

groups_form : (more n : ℕ) → n < 128 ^ suc more → AreGroupsOf (varint_groups (suc more) n) n
groups_form zero n fits = last_group zero n (omega (arith, fits))
groups_form (suc more) n fits =
    let up = pow-succ' 128 (suc more) in
    let rest = groups_form more (n / 128) (omega (arith, fits, up)) in
    elim (cases_lt n 128) [ inl low ↦ last_group (suc more) n low | inr high ↦ group_before (suc more) n high rest ]

varint_form : (n : ℕ) → n < 2 ^ 64 → IsVarint (varint n) n
unfolding varint
varint_form n fits =
    let form = groups_form 9 n (omega (arith, fits)) in
    record { groups = form.0; short = varint_length n; number = sym form.1; fits = fits }

pub varint_begins : (n : ℕ) (rest : List ℕ) → n < 2 ^ 64 → BeginsWithVarint (varint n ++ rest) n rest
varint_begins n rest fits = (varint n, varint_form n fits, refl)

tag_form : (tag : ℕ) → tag < 128 → IsVarint (tag ∷ []) tag
tag_form tag low = record { groups = low; short = omega arith; number = omega (arith, low); fits = omega (arith, low) }

-- ---- fields

bytes_begin : (tag : ℕ) (inner rest : List ℕ) → tag < 128 → length inner < 2 ^ 64 → BeginsWithBytes tag (bytes_field tag inner ++ rest) inner rest
bytes_begin tag inner rest low fits = (
  varint (length inner) ++ (inner ++ rest),
  (tag ∷ [], tag_form tag low, ap (λ b. tag ∷ b) (append_assoc (varint (length inner)) inner rest)),
  varint_begins (length inner) (inner ++ rest) fits,
)

pub field_shorter : (tag : ℕ) (inner : List ℕ) → length inner < length (bytes_field tag inner)
field_shorter tag inner = let both = length-append (varint (length inner)) inner in omega (arith, both)

name_begins : (name : Option (List ℕ)) (rest : List ℕ) → length (name_field name) < 2 ^ 64 → MayBeginWithBytes 0x12 (name_field name ++ rest) name rest
name_begins None rest fits = refl
name_begins (Some name) rest fits = bytes_begin 0x12 name rest (omega arith) (omega (arith, field_shorter 0x12 name, fits))

tsize_is : (tsize : Option ℕ) → IfSome tsize (λ n. n < 2 ^ 64) → MayBeNumber 0x18 (tsize_field tsize) tsize
tsize_is None fits = refl
tsize_is (Some n) fits = (varint n, (0x18 ∷ [], tag_form 0x18 (omega arith), refl), (varint n, varint_form n fits, sym (append-nil (varint n))))

-- ---- links

link_is : (link : LinkParts) → IsSpellableLink link → IsLink (link_message link) link
link_is link s =
    let fits = s.fits in
    let whole = length-append (bytes_field 0x0a (cid_bytes link.hash)) (name_field link.name ++ tsize_field link.tsize) in
    let ends = length-append (name_field link.name) (tsize_field link.tsize) in
    record {
      following = name_field link.name ++ tsize_field link.tsize;
      valid = s.valid;
      hash = bytes_begin 0x0a (cid_bytes link.hash) (name_field link.name ++ tsize_field link.tsize) (omega arith) (omega (arith, field_shorter 0x0a (cid_bytes link.hash), whole, fits));
      ends = (tsize_field link.tsize, name_begins link.name (tsize_field link.tsize) (omega (arith, ends, whole, fits)), tsize_is link.tsize s.size);
    }

link_begins : (link : LinkParts) (rest : List ℕ) → IsSpellableLink link → BeginsWithField (link_spelling link ++ rest) (link_field link) rest
link_begins link rest s = (link_message link, bytes_begin 0x12 (link_message link) rest (omega arith) s.fits, link_is link s)

-- ---- nodes

fields_are : (links : List LinkParts) (inner : Option (List ℕ)) → AllByRecursion IsSpellableLink links → IfSome inner (λ d. length d < 2 ^ 64) → BeginsWithFields (flat_map link_spelling links ++ data_field_bytes inner) (map link_field links ++ data_fields inner) []
fields_are [] None all fits = refl
fields_are [] (Some inner) all fits = ([], subst (λ b. BeginsWithBytes 0x0a b inner []) (append-nil (bytes_field 0x0a inner)) (bytes_begin 0x0a inner [] (omega arith) fits), refl)
fields_are (link ∷ links) inner all fits = (
  flat_map link_spelling links ++ data_field_bytes inner,
  subst (λ b. BeginsWithField b (link_field link) (flat_map link_spelling links ++ data_field_bytes inner)) (sym (append_assoc (link_spelling link) (flat_map link_spelling links) (data_field_bytes inner)))
      (link_begins link (flat_map link_spelling links ++ data_field_bytes inner) all.0),
  fields_are links inner all.1 fits,
)

pub spelled_read : (node : NodeParts) → IsSpellable node → IsNode (node_spelling node) node
spelled_read node s = (map link_field node.links ++ data_fields node.«data», fields_are node.links node.«data» s.links s.inner, inl refl)

-- ---- a block is of one node

-- the first data among the fields
abbrev data_in : List Field → Option (List ℕ)
data_in [] = None
data_in (link_field link ∷ more) = data_in more
data_in (data_field inner ∷ more) = Some inner

data_after : (links : List LinkParts) (inner : Option (List ℕ)) → data_in (map link_field links ++ data_fields inner) ≡ inner
data_after [] None = refl
data_after [] (Some inner) = refl
data_after (link ∷ links) inner = data_after links inner

no_data : (links : List LinkParts) → data_in (map link_field links) ≡ None
no_data [] = refl
no_data (link ∷ links) = no_data links

data_before : (links : List LinkParts) (inner : Option (List ℕ)) → data_in (data_fields inner ++ map link_field links) ≡ inner
data_before links None = no_data links
data_before links (Some inner) = refl

node_data_in : (fields : List Field) (node : NodeParts) → AreFieldsOf fields node → data_in fields ≡ node.«data»
node_data_in fields node (inl e) = ap data_in e ∙ data_after node.links node.«data»
node_data_in fields node (inr e) = ap data_in e ∙ data_before node.links node.«data»

pub node_unique : (b : List ℕ) (node other : NodeParts) → IsNode b node → IsNode b other → node ≡ other
node_unique b node other (fields, row, is) (more, others, are) =
    let same = one_row b fields more row others in
    let links : node.links ≡ other.links = sym (node_links_in fields node is) ∙ node_links_in fields other (subst (λ r. AreFieldsOf r other) (sym same) are) in
    let inner : node.«data» ≡ other.«data» = sym (node_data_in fields node is) ∙ node_data_in fields other (subst (λ r. AreFieldsOf r other) (sym same) are) in
    λ i. record { links = links i; «data» = inner i }

pub spelling_unique : (node other : NodeParts) → IsSpellable node → IsSpellable other → node_spelling node ≡ node_spelling other → node ≡ other
spelling_unique node other s t e = node_unique (node_spelling node) node other (spelled_read node s) (subst (λ b. IsNode b other) (sym e) (spelled_read other t))
