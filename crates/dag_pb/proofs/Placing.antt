-- Links, counted and put one by one.
use Rattle.std.proofs.Common.{◌≡◌, ℕ, ◌+◌, ◌<◌, ◌≤◌, List, [], ◌∷◌, ◌++◌, length, length-append, take, drop, length-drop, take-append-drop, take_all, map, flat_map, get_or, Option, sym, ap, ◌∙◌, subst, arith, append-nil}
use Rattle.std.proofs.lemmas.List.{take_more, map-append}
use Rattle.std.proofs.lemmas.Grind.{flat_map-append}
use Rattle.lent_memory.specs.Puts.{put_at, with_front, PutsAt}
use Rattle.lent_memory.proofs.Putting.{put_after, overwritten_where_room}
use Rattle.dag_pb.specs.Reads.{link_of, node_of}
use Rattle.dag_pb.specs.Spelling.{link_spelling, data_field_bytes, node_spelling}
use Rattle.dag_pb.specs.declared.link.PbLink.{PbLink}

-- the fields of the first links
abbrev pub first_links : List PbLink → ℕ → List ℕ
first_links xs i = flat_map link_spelling (map link_of (take i xs))

taken : (xs : List PbLink) (i : ℕ) (d : PbLink) → i < length xs → map link_of (take (i + 1) xs) ≡ map link_of (take i xs) ++ link_of (get_or xs i d) ∷ []
taken xs i d h = ap (map link_of) (take_more xs i d h) ∙ map-append link_of (take i xs) (get_or xs i d ∷ [])

one_more : (xs : List PbLink) (i : ℕ) (d : PbLink) → i < length xs → first_links xs (i + 1) ≡ first_links xs i ++ link_spelling (link_of (get_or xs i d))
one_more xs i d h =
    let l = link_of (get_or xs i d) in
    ap (flat_map link_spelling) (taken xs i d h) ∙ flat_map-append link_spelling (map link_of (take i xs)) (l ∷ []) ∙ ap (λ x. first_links xs i ++ x) (append-nil (link_spelling l))

-- the first links are no longer than the node
first_within : (xs : List PbLink) (i : ℕ) (inner : Option (List ℕ)) → length (first_links xs i) + length (data_field_bytes inner) ≤ length (node_spelling (node_of xs inner))
first_within xs i inner =
    let parts : flat_map link_spelling (map link_of xs) ≡ first_links xs i ++ flat_map link_spelling (map link_of (drop i xs)) =
    ap (λ x. flat_map link_spelling (map link_of x)) (sym (take-append-drop i xs)) ∙ ap (flat_map link_spelling) (map-append link_of (take i xs) (drop i xs)) ∙ flat_map-append link_spelling (map link_of (take i xs)) (map link_of (drop i xs)) in
    omega (arith, ap length parts, length-append (first_links xs i) (flat_map link_spelling (map link_of (drop i xs))), length-append (flat_map link_spelling (map link_of xs)) (data_field_bytes inner))

link_room : (xs : List PbLink) (i : ℕ) (d : PbLink) (inner : Option (List ℕ)) (at : ℕ) (old now : List ℕ) → i < length xs → length (node_spelling (node_of xs inner)) ≤ length old → at ≡ length (first_links xs i) → now ≡ first_links xs i ++ drop (length (first_links xs i)) old → at + length (link_spelling (link_of (get_or xs i d))) ≤ length now
link_room xs i d inner at old now h room place stands =
    let bs = first_links xs i in
    omega (arith, room, place, first_within xs (i + 1) inner, ap length (one_more xs i d h), length-append bs (link_spelling (link_of (get_or xs i d))), ap length stands, length-append bs (drop (length bs) old), length-drop (length bs) old)

-- bytes are put after those at the front
put_next : (bs s old now new : List ℕ) (at end : ℕ) → length bs + length s ≤ length old → at ≡ length bs → now ≡ bs ++ drop (length bs) old → PutsAt s at now new end → (end ≡ length (bs ++ s)) × (new ≡ (bs ++ s) ++ drop (length (bs ++ s)) old)
put_next bs s old now new at end room place stands p = (
  omega (arith, p.0, place, length-append bs s),
  p.1 ∙ ap (λ n. put_at n s now) place ∙ ap (put_at (length bs) s) stands ∙ put_after bs s old room,
)

one_put : (xs : List PbLink) (i : ℕ) (d : PbLink) (inner : Option (List ℕ)) (at end : ℕ) (old now new : List ℕ) → i < length xs → length (node_spelling (node_of xs inner)) ≤ length old → at ≡ length (first_links xs i) → now ≡ first_links xs i ++ drop (length (first_links xs i)) old → PutsAt (link_spelling (link_of (get_or xs i d))) at now new end
    → (end ≡ length (first_links xs (i + 1))) × (new ≡ first_links xs (i + 1) ++ drop (length (first_links xs (i + 1))) old)
one_put xs i d inner at end old now new h room place stands p =
    let bs = first_links xs i in
    let s = link_spelling (link_of (get_or xs i d)) in
    let more = one_more xs i d h in
    let few : length bs + length s ≤ length old = omega (arith, room, first_within xs (i + 1) inner, ap length more, length-append bs s) in
    let k = put_next bs s old now new at end few place stands p in
    (k.0 ∙ ap length (sym more), k.1 ∙ ap (λ x. x ++ drop (length x) old) (sym more))

all_taken : (xs : List PbLink) (i : ℕ) → length xs ≤ i → first_links xs i ≡ flat_map link_spelling (map link_of xs)
all_taken xs i h = ap (λ x. flat_map link_spelling (map link_of x)) (take_all i xs h)

pub data_room : (xs : List PbLink) (i : ℕ) (inner : Option (List ℕ)) (at : ℕ) (old now : List ℕ) → length (node_spelling (node_of xs inner)) ≤ length old → at ≡ length (first_links xs i) → now ≡ first_links xs i ++ drop (length (first_links xs i)) old → at + length (data_field_bytes inner) ≤ length now
data_room xs i inner at old now room place stands =
    let bs = first_links xs i in
    omega (arith, room, place, first_within xs i inner, ap length stands, length-append bs (drop (length bs) old), length-drop (length bs) old)

pub all_put : (xs : List PbLink) (i : ℕ) (inner : Option (List ℕ)) (at end : ℕ) (old now new : List ℕ) → length xs ≤ i → length (node_spelling (node_of xs inner)) ≤ length old → at ≡ length (first_links xs i) → now ≡ first_links xs i ++ drop (length (first_links xs i)) old → PutsAt (data_field_bytes inner) at now new end → new ≡ with_front (node_spelling (node_of xs inner)) old
all_put xs i inner at end old now new over room place stands p =
    let bs = first_links xs i in
    let s = data_field_bytes inner in
    let few : length bs + length s ≤ length old = omega (arith, room, first_within xs i inner) in
    let k = put_next bs s old now new at end few place stands p in
    k.1 ∙ ap (λ x. (x ++ s) ++ drop (length (x ++ s)) old) (all_taken xs i over) ∙ sym (overwritten_where_room (node_spelling (node_of xs inner)) old room)

-- the same of the link that the walk is at
pub item_room : (xs : List PbLink) (i : ℕ) (x : PbLink) (inner : Option (List ℕ)) (at : ℕ) (old now : List ℕ) → x ≡ get_or xs i x → i < length xs → length (node_spelling (node_of xs inner)) ≤ length old → at ≡ length (first_links xs i) → now ≡ first_links xs i ++ drop (length (first_links xs i)) old → at + length (link_spelling (link_of x)) ≤ length now
item_room xs i x inner at old now is h room place stands =
    subst (λ l. at + length (link_spelling (link_of l)) ≤ length now) (sym is) (link_room xs i x inner at old now h room place stands)

pub item_put : (xs : List PbLink) (i : ℕ) (x : PbLink) (inner : Option (List ℕ)) (at end : ℕ) (old now new : List ℕ) → x ≡ get_or xs i x → i < length xs → length (node_spelling (node_of xs inner)) ≤ length old → at ≡ length (first_links xs i) → now ≡ first_links xs i ++ drop (length (first_links xs i)) old → PutsAt (link_spelling (link_of x)) at now new end
    → (end ≡ length (first_links xs (i + 1))) × (new ≡ first_links xs (i + 1) ++ drop (length (first_links xs (i + 1))) old)
item_put xs i x inner at end old now new is h room place stands p =
    one_put xs i x inner at end old now new h room place stands (subst (λ l. PutsAt (link_spelling (link_of l)) at now new end) is p)
