-- A block, read field by field.
use Rattle.std.proofs.Common.{◌≡◌, ◌≢◌, ℕ, List, [], ◌∷◌, ◌++◌, map, Option, None, Some, refl, sym, ap, ◌∙◌, subst}
use Rattle.ipld_tree.specs.Cid.{cid_bytes}
use Rattle.dag_pb.specs.Node.{Field, BeginsWithField, BeginsNoField, BeginsWithFields, NodeParts, IsNode, HasNode, node_links}
use Rattle.dag_pb.specs.Reads.{links_in}
use Rattle.dag_pb.specs.Orders.{order_after}
use Rattle.dag_pb.specs.declared.node.Order.{Order}
use Rattle.dag_pb.specs.declared.node.Order.TheVariants.{Nothing}
use Rattle.dag_pb.proofs.Orders.{orders, orders-append, node_order, order_node, node_links_in}
use Rattle.dag_pb.proofs.Rows.{one_field, field_there, row_end, row_left, row_first, row_over, one_row}

-- the fields before the rest
pub record IsReadTo (b : List ℕ) (order : Order) (rest : List ℕ) : Type 0 where
  pub before : List Field
  pub row : BeginsWithFields b before rest
  pub order_is : orders (Some Nothing) before ≡ Some order

pub one_read : (b : List ℕ) (order next : Order) (rest following : List ℕ) (f : Field) → IsReadTo b order rest → BeginsWithField rest f following → ◌≡◌ {A = Option Order} (Some next) (order_after order f) → IsReadTo b next following
one_read b order next rest following f r h e = record {
  before = r.before ++ f ∷ [];
  row = row_end b r.before rest f following r.row h;
  order_is = orders-append (Some Nothing) r.before (f ∷ []) ∙ ap (λ o. orders o (f ∷ [])) r.order_is ∙ ap (λ o. orders o []) (sym e);
}

pub all_read : (b : List ℕ) (order : Order) (rest : List ℕ) → IsReadTo b order rest → rest ≡ [] → HasNode b
all_read b order rest r over =
    let k = order_node r.before order r.order_is in
    (k.0, (r.before, subst (BeginsWithFields b r.before) over r.row, k.1))

-- if bytes are left that begin with no field, the whole is not a node
pub no_node : (b : List ℕ) (order : Order) (rest : List ℕ) → IsReadTo b order rest → rest ≢ [] → BeginsNoField rest → HasNode b → ⊥
no_node b order rest r there none (node, (fields, row, is)) =
    let left = row_left b r.before fields rest r.row row in
    let first = row_first rest left.0 there left.2 in
    none first.0 first.2 first.4

-- if the next field may not come there, the whole is not a node
pub no_node_so : (b : List ℕ) (order : Order) (rest following : List ℕ) (f : Field) → IsReadTo b order rest → rest ≢ [] → BeginsWithField rest f following → ◌≡◌ {A = Option Order} None (order_after order f) → HasNode b → ⊥
no_node_so b order rest following f r there h none (node, (fields, row, is)) =
    let left = row_left b r.before fields rest r.row row in
    let first = row_first rest left.0 there left.2 in
    let same = (one_field rest first.0 f first.2 following first.4 h).0 in
    let has = node_order fields node is in
    let stuck : orders (Some Nothing) fields ≡ None =
    ap (orders (Some Nothing)) (left.1 ∙ ap (λ x. r.before ++ x) (first.3 ∙ ap (λ g. g ∷ first.1) same))
    ∙ orders-append (Some Nothing) r.before (f ∷ first.1)
    ∙ ap (λ o. orders o (f ∷ first.1)) r.order_is
    ∙ ap (λ o. orders o first.1) (sym none) in
    absurd (cc (sym has.1 ∙ stuck))

-- ---- the links

-- the field at the front is the first of the row
pub field_found : (b : List ℕ) (field : Field) (following : List ℕ) (row : List Field) → BeginsWithField b field following → BeginsWithFields b row [] → (more : List Field) × BeginsWithFields following more [] × (row ≡ field ∷ more)
field_found b field following row h k =
    let first = row_first b row (field_there b field following h) k in
    let one = one_field b first.0 field first.2 following first.4 h in
    (first.1, subst (λ x. BeginsWithFields x first.1 []) one.1 first.5, first.3 ∙ ap (λ g. g ∷ first.1) one.0)

-- if the bytes are fields, the rest is fields with the same links
abbrev pub HasSameLinks : List ℕ → List ℕ → Type 0
HasSameLinks b rest = (row : List Field) → BeginsWithFields b row []
    → (more : List Field) × BeginsWithFields rest more [] × (links_in row ≡ links_in more)

-- bytes that are fields, and are not empty, begin with a field
pub field_stands : (b : List ℕ) → b ≢ [] → BeginsNoField b → ((row : List Field) × BeginsWithFields b row []) → ⊥
field_stands b there none (row, k) = let first = row_first b row there k in none first.0 first.2 first.4

-- ---- a block has one node's links

pub row_of_node : (b : List ℕ) (node : NodeParts) → IsNode b node → (row : List Field) × BeginsWithFields b row [] × (node_links node ≡ map (λ l. cid_bytes l.hash) (links_in row))
row_of_node b node (row, h, is) = (row, h, ap (map (λ l. cid_bytes l.hash)) (sym (node_links_in row node is)))

pub one_node_links : (b : List ℕ) (m n : NodeParts) → IsNode b m → IsNode b n → node_links m ≡ node_links n
one_node_links b m n h k =
    let i = row_of_node b m h in
    let j = row_of_node b n k in
    i.2 ∙ ap (λ r. map (λ l. cid_bytes l.hash) (links_in r)) (one_row b i.0 j.0 i.1 j.1) ∙ sym j.2

-- no bytes are a node without links
pub empty_node_links : (n : NodeParts) → IsNode [] n → node_links n ≡ []
empty_node_links n h = let k = row_of_node [] n h in k.2 ∙ ap (λ r. map (λ l. cid_bytes l.hash) (links_in r)) (row_over [] k.0 refl k.1)
