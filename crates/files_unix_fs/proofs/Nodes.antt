-- Blocks of DAG-PB, read field by field, are the nodes of `dag_pb`.
use Rattle.std.proofs.Common.{◌≡◌, inl, inr, ℕ, zero, suc, ◌+◌, ◌*◌, ◌%◌, ◌/◌, ◌^◌, ◌<◌, ◌≤◌, List, [], ◌∷◌, ◌++◌, map, length, length-append, Option, None, Some, Ok, Err, refl, sym, ap, ◌∙◌, arith, append-nil, mod-eq_of_lt}
use Rattle.std.proofs.lemmas.Bool.{cases_lt}
use Rattle.std.proofs.lemmas.List.{take_at, drop_at}
use Rattle.ipld_tree.specs.Cid.{varint, varint_groups, CidParts, AreCidParts, cid_bytes}
use Rattle.ipld_tree.proofs.Cids.{one_group, more_groups, form_0, form_1}
use Rattle.dag_pb.specs.Varint.{number_of, AreGroups, BeginsWithVarint}
use Rattle.dag_pb.specs.Node.{BeginsWithBytes, LinkParts, IsLink, Field, link_field, data_field, data_fields, BeginsWithFields, NodeParts, AreFieldsOf}
use Rattle.dag_pb.specs.Reads.{links_in}
use Rattle.dag_pb.proofs.Orders.{node_links_in}
use Rattle.files_unix_fs.specs.Fields.{Front, after, Value, bytes, groups_of, varint_of, held_of, value_of, field_of, found_in}
use Rattle.files_unix_fs.specs.Nodes.{first_of, or_nothing, data_in, data_of, link_in, cids_of, ReadsNodes}
use Rattle.files_unix_fs.specs.Files.{number_or_0, codec_of}
use Rattle.files_unix_fs.proofs.Fronts.{with_group, nat_lt_yes, nat_lt_no}
use Rattle.files_unix_fs.proofs.Steps.{found_first, none_found, no_field, HasSame, one_found, no_more}
use Rattle.files_unix_fs.specs.declared.error.UnixFsCause.{UnixFsCause}
use Rattle.files_unix_fs.specs.declared.error.UnixFsCause.TheVariants.{Truncated}
use Rattle.std.proofs.Math.Nat.{pow-succ'}
use Rattle.std.proofs.lemmas.Nat.{div_below}

-- ---- numbers

ok_front : {A : Type 0} (a b : A) (x : List ℕ) → a ≡ b → ◌≡◌ {A = Front A} (Ok (a, x)) (Ok (b, x))
ok_front a b x e = ap (λ v. Ok (v, x)) e

groups_read : (more : ℕ) (form rest : List ℕ) → AreGroups form → length form ≤ more + 1 → number_of form < 2 * 128 ^ more → groups_of more (form ++ rest) ≡ Ok (number_of form, rest)
unfolding groups_of
groups_read more [] rest h short fits = absurd h
groups_read zero (g ∷ []) rest h short fits =
    let same : g ≡ g % 128 + 0 = omega (arith, mod-eq_of_lt h) in
    rw (nat_lt_yes g 2 (omega (arith, fits, same))) (ok_front g (g % 128 + 0) rest same)
groups_read (suc more) (g ∷ []) rest h short fits =
    let same : g ≡ g % 128 + 0 = omega (arith, mod-eq_of_lt h) in
    rw (nat_lt_yes g 128 h) (ok_front g (g % 128 + 0) rest same)
groups_read zero (g ∷ c ∷ t) rest h short fits = absurd (omega (arith, short))
groups_read (suc more) (g ∷ c ∷ t) rest h short fits =
    let below : number_of (c ∷ t) < 2 * 128 ^ more = omega (arith, fits, pow-succ' 128 more) in
    rw (nat_lt_no g 128 h.0) (ap (λ r. after r (with_group g)) (groups_read more (c ∷ t) rest h.1 (omega (arith, short)) below))

pub varint_read : (b : List ℕ) (n : ℕ) (rest : List ℕ) → BeginsWithVarint b n rest → varint_of b ≡ Ok (n, rest)
unfolding varint_of
varint_read b n rest (form, v, e) =
    ap (groups_of 9) e
    ∙ groups_read 9 form rest v.groups v.short (omega (arith, v.number, v.fits))
    ∙ ok_front (number_of form) n rest (sym v.number)

-- the shortest form
shortest_read : (more n : ℕ) (rest : List ℕ) → n < 2 * 128 ^ more → groups_of more (varint_groups (suc more) n ++ rest) ≡ Ok (n, rest)
unfolding groups_of
shortest_read zero n rest fits =
    ap (λ form. groups_of 0 (form ++ rest)) (one_group 0 n (omega (arith, fits))) ∙ rw (nat_lt_yes n 2 (omega (arith, fits))) refl
shortest_read (suc more) n rest fits = elim (cases_lt n 128) [
  | inl low ↦ ap (λ form. groups_of (suc more) (form ++ rest)) (one_group (suc more) n low) ∙ rw (nat_lt_yes n 128 low) refl
  | inr high ↦
      let below : n / 128 < 2 * 128 ^ more = div_below n 128 (2 * 128 ^ more) (omega arith) (omega (arith, fits, pow-succ' 128 more)) in
      let more_is = shortest_read more (n / 128) rest below in
      ap (λ form. groups_of (suc more) (form ++ rest)) (more_groups (suc more) n high)
      ∙ rw (nat_lt_no (128 + n % 128) 128 (omega arith)) (ap (λ r. after r (with_group (128 + n % 128))) more_is)
      ∙ ok_front ((128 + n % 128) % 128 + 128 * (n / 128)) n rest (omega arith)
]

pub codec_read : (c : CidParts) → AreCidParts c → codec_of (cid_bytes c) ≡ c.codec
unfolding varint_of varint
codec_read c (inl zero_is) = ap codec_of (form_0 c zero_is.0) ∙ sym zero_is.1
codec_read c (inr one_is) =
    ap codec_of (form_1 c one_is.0)
    ∙ ap number_or_0 (shortest_read 9 c.codec (varint c.hash_code ++ (varint (length c.digest) ++ c.digest)) (omega (arith, one_is.1)))

-- ---- fields of bytes

bytes_read : (inner rest : List ℕ) → held_of (length inner) (inner ++ rest) ≡ Ok (bytes inner, rest)
bytes_read inner rest =
    rw (nat_lt_no (length (inner ++ rest)) (length inner) (omega (arith, length-append inner rest)))
    (λ i. Ok (bytes (take_at inner rest (length inner) refl i), drop_at inner rest (length inner) refl i))

value_read : (tag : ℕ) (b inner rest : List ℕ) → tag % 8 ≡ 2 → BeginsWithVarint b (length inner) (inner ++ rest) → value_of tag b ≡ Ok (bytes inner, rest)
unfolding value_of
value_read tag b inner rest wire c =
    rw wire (ap (λ r. after r held_of) (varint_read b (length inner) (inner ++ rest) c) ∙ bytes_read inner rest)

pub field_read : (tag : ℕ) (b inner rest : List ℕ) → tag % 8 ≡ 2 → BeginsWithBytes tag b inner rest → field_of b ≡ Ok ((tag, bytes inner), rest)
unfolding field_of
field_read tag b inner rest wire (following, t, c) =
    ap (λ r. after r (λ found left. after (value_of found left) (tagged found))) (varint_read b tag following t)
    ∙ ap (λ r. after r (tagged tag)) (value_read tag following inner rest wire c)
  where
    tagged : ℕ → Value → List ℕ → Front (ℕ × Value)
    tagged found value left = Ok ((found, value), left)

pub hash_read : (m : List ℕ) (link : LinkParts) → IsLink m link → or_nothing (data_of m) ≡ cid_bytes link.hash
unfolding data_of
hash_read m link h =
    ap (λ found. or_nothing (first_of found)) (found_first data_in m (0x0a, bytes (cid_bytes link.hash)) h.following (field_read 0x0a m (cid_bytes link.hash) h.following refl h.hash))

-- ---- fields of a node in a row

abbrev datas_in : List Field → List (List ℕ)
datas_in [] = []
datas_in (link_field link ∷ more) = datas_in more
datas_in (data_field inner ∷ more) = inner ∷ datas_in more

nothing_in : {A : Type 0} (pick : ℕ × Value → List A) (b : List ℕ) → b ≡ [] → found_in pick b ≡ []
nothing_in pick b e = ap (found_in pick) e ∙ none_found pick [] Truncated no_field

row_datas : (b : List ℕ) (row : List Field) → BeginsWithFields b row [] → found_in data_in b ≡ datas_in row
row_datas b [] e = nothing_in data_in b e
row_datas b (link_field link ∷ more) (rest, (m, h, l), k) =
    found_first data_in b (0x12, bytes m) rest (field_read 0x12 b m rest refl h) ∙ row_datas rest more k
row_datas b (data_field inner ∷ more) (rest, h, k) =
    found_first data_in b (0x0a, bytes inner) rest (field_read 0x0a b inner rest refl h) ∙ ap (λ xs. inner ∷ xs) (row_datas rest more k)

pub row_cids : (b : List ℕ) (row : List Field) → BeginsWithFields b row [] → cids_of b ≡ map (λ link. cid_bytes link.hash) (links_in row)
unfolding cids_of
row_cids b [] e = nothing_in link_in b e
row_cids b (link_field link ∷ more) (rest, (m, h, l), k) =
    found_first link_in b (0x12, bytes m) rest (field_read 0x12 b m rest refl h)
    ∙ (λ i. hash_read m link l i ∷ row_cids rest more k i)
row_cids b (data_field inner ∷ more) (rest, h, k) =
    found_first link_in b (0x0a, bytes inner) rest (field_read 0x0a b inner rest refl h) ∙ row_cids rest more k

no_datas : (links : List LinkParts) (more : List Field) → datas_in (map link_field links ++ more) ≡ datas_in more
no_datas [] more = refl
no_datas (link ∷ links) more = no_datas links more

one_data : (d : Option (List ℕ)) (links : List LinkParts) → first_of (datas_in (data_fields d ++ map link_field links)) ≡ d
one_data None links = ap first_of (ap datas_in (sym (append-nil (map link_field links))) ∙ no_datas links [])
one_data (Some inner) links = refl

last_data : (d : Option (List ℕ)) (links : List LinkParts) → first_of (datas_in (map link_field links ++ data_fields d)) ≡ d
last_data None links = ap first_of (no_datas links [])
last_data (Some inner) links = ap first_of (no_datas links (data_field inner ∷ []))

node_data_read : (row : List Field) (node : NodeParts) → AreFieldsOf row node → first_of (datas_in row) ≡ node.«data»
node_data_read row node (inl e) = ap (λ r. first_of (datas_in r)) e ∙ last_data node.«data» node.links
node_data_read row node (inr e) = ap (λ r. first_of (datas_in r)) e ∙ one_data node.«data» node.links

pub nodes_read : ReadsNodes
unfolding data_of
nodes_read b node (row, h, is) = (
  ap first_of (row_datas b row h) ∙ node_data_read row node is,
  row_cids b row h ∙ ap (map (λ link. cid_bytes link.hash)) (node_links_in row node is),
)

-- ---- the walk to the data

pub data_found : (b rest following : List ℕ) (field : ℕ × Value) (inner : List ℕ) → HasSame data_in b rest → field_of rest ≡ Ok (field, following) → data_in field ≡ inner ∷ [] → data_of b ≡ Some inner
unfolding data_of
data_found b rest following field inner h e one = ap first_of (one_found data_in b rest field following inner h e one)

pub no_data : (b rest : List ℕ) (cause : UnixFsCause) → HasSame data_in b rest → field_of rest ≡ Err cause → data_of b ≡ None
unfolding data_of
no_data b rest cause h e = ap first_of (no_more data_in b rest cause h e)
