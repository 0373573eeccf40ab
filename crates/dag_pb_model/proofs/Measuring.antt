-- The walk that measures a node.
use Rattle.std.proofs.Common.{◌≡◌, ℕ, ◌+◌, ◌*◌, ◌^◌, ◌<◌, ◌≤◌, List, [], ◌∷◌, ◌++◌, length, Option, None, Some, option_map, map, codes, IfSome, IsUtf8, refl, sym, ap, ap₂, ◌∙◌, subst, arith, inl, inr, length-append}
use Rattle.std.specs.List.{AllByRecursion}
use Rattle.dagcbor_core.specs.Head.{head}
use Rattle.ipld_tree.specs.Spelling.{spelling, text_spelling}
use Rattle.dag_pb.specs.Node.{LinkParts, NodeParts, IsNode, Field, link_field, data_field, data_fields, BeginsWithFields, AreFieldsOf}
use Rattle.dag_pb.specs.Reads.{links_in}
use Rattle.dag_pb.proofs.Orders.{node_links_in}
use Rattle.dag_pb_model.specs.Model.{node_model, HasTextNames}
use Rattle.dag_pb_model.specs.Forms.{data_form, part_count, links_form, IsMeasured, Adds}
use Rattle.dag_pb_model.specs.declared.measure.Measure.{Measure}
use Rattle.dag_pb_model.proofs.Forms.{node_written}

-- ---- the whole

node_length : (node : NodeParts) → length (spelling (node_model node)) ≡ length (head 5 (1 + part_count node.«data»)) + (length (data_form node.«data») + (length (text_spelling (codes "Links")) + (length (head 4 (length node.links)) + length (links_form node.links))))
node_length node =
    let front = head 5 (1 + part_count node.«data») in
    let inner = data_form node.«data» in
    let key = text_spelling (codes "Links") in
    let count = head 4 (length node.links) in
    let links = links_form node.links in
    omega (arith, ap length (node_written node), length-append front (inner ++ (key ++ (count ++ links))), length-append inner (key ++ (count ++ links)), length-append key (count ++ links), length-append count links)

count_mapped : {A B : Type 0} (f : A → B) (o : Option A) → part_count (option_map f o) ≡ part_count o
count_mapped f None = refl
count_mapped f (Some a) = refl

pub total_length : (m : Measure) (parts : NodeParts) → IsMeasured m parts → length (spelling (node_model parts)) ≡ length (head 5 (1 + part_count m.«data»)) + (length (data_form (option_map (λ s. s.now) m.«data»)) + (length (text_spelling (codes "Links")) + (length (head 4 m.links) + m.length)))
total_length m parts h =
    let entries : part_count parts.«data» ≡ part_count m.«data» = ap part_count (sym h.0) ∙ count_mapped (λ s. s.now) m.«data» in
    omega (arith, node_length parts, ap (λ n. length (head 5 (1 + n))) entries, ap (λ d. length (data_form d)) h.0, ap (λ n. length (head 4 n)) h.1, h.2)

pub measured_form : (m : Measure) (parts : NodeParts) (n : ℕ) → IsMeasured m parts → n ≡ 1 + part_count m.«data» → spelling (node_model parts) ≡ head 5 n ++ (data_form (option_map (λ s. s.now) m.«data») ++ (text_spelling (codes "Links") ++ (head 4 m.links ++ links_form parts.links)))
measured_form m parts n h e =
    let links = links_form parts.links in
    let key = text_spelling (codes "Links") in
    let entries : 1 + part_count parts.«data» ≡ n = omega (arith, e, ap part_count (sym h.0), count_mapped (λ s. s.now) m.«data») in
    node_written parts
    ∙ ap₂ (λ k d. head 5 k ++ (data_form d ++ (key ++ (head 4 (length parts.links) ++ links)))) entries (sym h.0)
    ∙ ap (λ k. head 5 n ++ (data_form (option_map (λ s. s.now) m.«data») ++ (key ++ (head 4 k ++ links)))) (sym h.1)

-- ---- field by field

-- the last data among those found and the fields after them
abbrev pub data_with : Option (List ℕ) → List Field → Option (List ℕ)
data_with found [] = found
data_with found (link_field l ∷ more) = data_with found more
data_with found (data_field inner ∷ more) = data_with (Some inner) more

links_passed : (found : Option (List ℕ)) (ls : List LinkParts) (more : List Field) → data_with found (map link_field ls ++ more) ≡ data_with found more
links_passed found [] more = refl
links_passed found (l ∷ ls) more = links_passed found ls more

no_more_data : (found : Option (List ℕ)) (ls : List LinkParts) → data_with found (map link_field ls) ≡ found
no_more_data found [] = refl
no_more_data found (l ∷ ls) = no_more_data found ls

data_last : (inner : Option (List ℕ)) → data_with None (data_fields inner) ≡ inner
data_last None = refl
data_last (Some s) = refl

data_first : (inner : Option (List ℕ)) (ls : List LinkParts) → data_with None (data_fields inner ++ map link_field ls) ≡ inner
data_first None ls = no_more_data None ls
data_first (Some s) ls = no_more_data (Some s) ls

pub node_data : (row : List Field) (node : NodeParts) → AreFieldsOf row node → data_with None row ≡ node.«data»
node_data row node (inl e) = ap (data_with None) e ∙ links_passed None node.links (data_fields node.«data») ∙ data_last node.«data»
node_data row node (inr e) = ap (data_with None) e ∙ data_first node.«data» node.links

abbrev AreTexts : List LinkParts → Type 0
AreTexts ls = AllByRecursion (λ l. IfSome l.name IsUtf8) ls

-- the measured fields and those that are left are the node
pub record MeasuredTo (b rest : List ℕ) (m : Measure) : Type 0 where
  pub node : NodeParts
  pub row : List Field
  pub stands : BeginsWithFields b row []
  pub are : AreFieldsOf row node
  pub left : List Field
  pub begins : BeginsWithFields rest left []
  pub inner : data_with (option_map (λ s. s.now) m.«data») left ≡ data_with None row
  pub links : m.links + length (links_in left) ≡ length (links_in row)
  pub counted : m.length + length (links_form (links_in left)) ≡ length (links_form (links_in row))
  pub texts : AreTexts (links_in left) → AreTexts (links_in row)
  pub rests : AreTexts (links_in row) → AreTexts (links_in left)
  pub few : m.links + length rest ≤ length b
  pub fits : m.length + 2 ^ 64 * length rest ≤ 2 ^ 64 * length b

pub no_text_measured : (b rest : List ℕ) (f : Field) (more : List Field) (m : Measure) (g : MeasuredTo b rest m) → g.left ≡ f ∷ more → Adds m f None → (parts : NodeParts) × IsNode b parts × ¬ HasTextNames parts
no_text_measured b rest (link_field l) more m g is a = (
  g.node,
  (g.row, g.stands, g.are),
  λ t. a (subst (λ fs. AreTexts (links_in fs)) is (g.rests (subst AreTexts (sym (node_links_in g.row g.node g.are)) t))).0,
)
no_text_measured b rest (data_field s) more m g is a = absurd a

pub all_measured : (b rest : List ℕ) (m : Measure) (g : MeasuredTo b rest m) → g.left ≡ [] → length b < 2 ^ 63 → (parts : NodeParts) × IsNode b parts × HasTextNames parts × IsMeasured m parts × (m.length ≤ 2 ^ 127)
all_measured b rest m g is small =
    let same = node_links_in g.row g.node g.are in (
      g.node,
      (g.row, g.stands, g.are),
      subst AreTexts same (g.texts (subst (λ fs. AreTexts (links_in fs)) (sym is) tt)),
      (
        ap (data_with (option_map (λ s. s.now) m.«data»)) (sym is) ∙ g.inner ∙ node_data g.row g.node g.are,
        omega (arith, g.links, ap (λ fs. length (links_in fs)) is, ap length same),
        omega (arith, g.counted, ap (λ fs. length (links_form (links_in fs))) is, ap (λ ls. length (links_form ls)) same),
      ),
      omega (arith, g.fits, small),
    )
