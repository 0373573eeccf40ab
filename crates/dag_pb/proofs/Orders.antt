-- In which order the fields of a node stand.
use Rattle.std.proofs.Common.{◌≡◌, ℕ, List, [], ◌∷◌, ◌++◌, map, Option, None, Some, refl, sym, ap, ◌∙◌, subst, inl, inr}
use Rattle.dag_pb.specs.Node.{LinkParts, NodeParts, Field, link_field, data_field, data_fields, AreFieldsOf}
use Rattle.dag_pb.specs.Reads.{links_in}
use Rattle.dag_pb.specs.Orders.{order_after}
use Rattle.dag_pb.specs.declared.node.Order.{Order}
use Rattle.dag_pb.specs.declared.node.Order.TheVariants.{Nothing, Links, DataFirst, DataLast}

-- the order after these fields too; `None` if one of them may not come there
abbrev pub orders : Option Order → List Field → Option Order
orders None fields = None
orders (Some o) [] = Some o
orders (Some o) (f ∷ fields) = orders (order_after o f) fields

pub orders-append : (o : Option Order) (fs gs : List Field) → orders o (fs ++ gs) ≡ orders (orders o fs) gs
orders-append None fs gs = refl
orders-append (Some o) [] gs = refl
orders-append (Some o) (f ∷ fs) gs = orders-append (order_after o f) fs gs

-- ---- the fields of a node have an order

after_links : (ls : List LinkParts) → orders (Some Links) (map link_field ls) ≡ Some Links
after_links [] = refl
after_links (l ∷ ls) = after_links ls

after_data : (ls : List LinkParts) → orders (Some DataFirst) (map link_field ls) ≡ Some DataFirst
after_data [] = refl
after_data (l ∷ ls) = after_data ls

abbrev HasOrder : List Field → Type 0
HasOrder fs = (o : Order) × (orders (Some Nothing) fs ≡ Some o)

links_first : (ls : List LinkParts) (d : Option (List ℕ)) → HasOrder (map link_field ls ++ data_fields d)
links_first [] None = (Nothing, refl)
links_first [] (Some inner) = (DataFirst, refl)
links_first (l ∷ ls) None = (Links, orders-append (Some Links) (map link_field ls) [] ∙ ap (λ o. orders o []) (after_links ls))
links_first (l ∷ ls) (Some inner) = (DataLast, orders-append (Some Links) (map link_field ls) (data_field inner ∷ []) ∙ ap (λ o. orders o (data_field inner ∷ [])) (after_links ls))

data_first : (ls : List LinkParts) (d : Option (List ℕ)) → HasOrder (data_fields d ++ map link_field ls)
data_first [] None = (Nothing, refl)
data_first (l ∷ ls) None = (Links, after_links ls)
data_first ls (Some inner) = (DataFirst, after_data ls)

pub node_order : (fs : List Field) (node : NodeParts) → AreFieldsOf fs node → HasOrder fs
node_order fs node (inl e) = subst HasOrder (sym e) (links_first node.links node.«data»)
node_order fs node (inr e) = subst HasOrder (sym e) (data_first node.links node.«data»)

-- ---- fields that have an order are a node

nothing_after : (fs : List Field) (o : Order) → orders (Some DataLast) fs ≡ Some o → fs ≡ []
nothing_after [] o e = refl
nothing_after (f ∷ fs) o e = absurd (cc e)

all_links : (fs : List Field) (o : Order) → orders (Some DataFirst) fs ≡ Some o → fs ≡ map link_field (links_in fs)
all_links [] o e = refl
all_links (link_field l ∷ fs) o e = ap (λ x. link_field l ∷ x) (all_links fs o e)
all_links (data_field d ∷ fs) o e = absurd (cc e)

links_then_data : (fs : List Field) (o : Order) → orders (Some Links) fs ≡ Some o → (d : Option (List ℕ)) × (fs ≡ map link_field (links_in fs) ++ data_fields d)
links_then_data [] o e = (None, refl)
links_then_data (link_field l ∷ fs) o e = let k = links_then_data fs o e in (k.0, ap (λ x. link_field l ∷ x) k.1)
links_then_data (data_field d ∷ fs) o e = let none = nothing_after fs o e in (Some d, subst (λ x. data_field d ∷ x ≡ map link_field (links_in x) ++ data_fields (Some d)) (sym none) refl)

pub order_node : (fs : List Field) (o : Order) → orders (Some Nothing) fs ≡ Some o → (node : NodeParts) × AreFieldsOf fs node
order_node [] o e = (record { links = []; «data» = None }, inl refl)
order_node (link_field l ∷ fs) o e =
    let k = links_then_data fs o e in
    (record { links = l ∷ links_in fs; «data» = k.0 }, inl (ap (λ x. link_field l ∷ x) k.1))
order_node (data_field d ∷ fs) o e = (record { links = links_in fs; «data» = Some d }, inr (ap (λ x. data_field d ∷ x) (all_links fs o e)))

-- ---- the links of a node are those among its fields

links_of_links : (ls : List LinkParts) → links_in (map link_field ls) ≡ ls
links_of_links [] = refl
links_of_links (l ∷ ls) = ap (λ x. l ∷ x) (links_of_links ls)

links_before : (ls : List LinkParts) (d : Option (List ℕ)) → links_in (map link_field ls ++ data_fields d) ≡ ls
links_before [] None = refl
links_before [] (Some inner) = refl
links_before (l ∷ ls) d = ap (λ x. l ∷ x) (links_before ls d)

links_after : (ls : List LinkParts) (d : Option (List ℕ)) → links_in (data_fields d ++ map link_field ls) ≡ ls
links_after ls None = links_of_links ls
links_after ls (Some inner) = links_of_links ls

pub node_links_in : (fs : List Field) (node : NodeParts) → AreFieldsOf fs node → links_in fs ≡ node.links
node_links_in fs node (inl e) = ap links_in e ∙ links_before node.links node.«data»
node_links_in fs node (inr e) = ap links_in e ∙ links_after node.links node.«data»
