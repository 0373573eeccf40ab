-- The items of a list, by their indices.
use Rattle.std.proofs.Common.{◌≡◌, ℕ, zero, suc, ◌<◌, ◌≤◌, List, ◌++◌, refl, subst, arith}
use Rattle.ipld_tree.specs.Tree.{Tree, Items, no_items, item, items_need}
use Rattle.ipld_tree.specs.Spelling.{item_count, items_spelling, IsFront, AreFronts}
use Rattle.ipld_tree.proofs.Fronts.{item_opened, item_closed, items_after}
use Rattle.ipld_paths.specs.Paths.{IsItemAt}
use Rattle.ipld_paths.specs.Parts.{BeginsWithTree}

-- an index is below the count
pub index_below : (n : ℕ) (ts : Items) (t : Tree) → IsItemAt n ts t → n < item_count ts
index_below n no_items t h = absurd h
index_below zero (item u us) t h = omega arith
index_below (suc n) (item u us) t h = omega (arith, index_below n us t h)

-- after n items, the item with the index n begins
pub item_begins : (n : ℕ) (ts us : Items) (b at rest : List ℕ) → AreFronts b ts rest → items_need ts ≤ 256 → AreFronts b us at → item_count us ≡ n → n < item_count ts
    → (t : Tree) × IsItemAt n ts t × BeginsWithTree at t
item_begins n no_items us b at rest f need g e few = absurd (omega (arith, few))
item_begins zero (item t ts) no_items b at rest f need g e few =
    let o = item_opened b rest t ts f in
    (t, refl, (_, subst (λ x. IsFront x t (items_spelling ts ++ rest)) g.is o.0, omega (arith, need)))
item_begins zero (item t ts) (item u us) b at rest f need g e few = absurd (omega (arith, e))
item_begins (suc n) (item t ts) no_items b at rest f need g e few = absurd (omega (arith, e))
item_begins (suc n) (item t ts) (item u us) b at rest f need g e few =
    let o = item_opened b rest t ts f in
    let a = items_after b (items_spelling ts ++ rest) at t u us o.0 g in
    item_begins n ts us (items_spelling ts ++ rest) at rest o.1 (omega (arith, need)) a.1 (omega (arith, e)) (omega (arith, few))

-- the first n items begin here, if there are at least n
pub some_items : (n : ℕ) (ts : Items) (b rest : List ℕ) → AreFronts b ts rest → items_need ts ≤ 256 → n ≤ item_count ts → (at : List ℕ) × ((us : Items) × (item_count us ≡ n) × AreFronts b us at × (items_need us ≤ 256))
some_items zero ts b rest f need few = (b, (no_items, refl, record { well_formed = tt; spellable = tt; is = refl }, omega arith))
some_items (suc n) no_items b rest f need few = absurd (omega (arith, few))
some_items (suc n) (item t ts) b rest f need few =
    let o = item_opened b rest t ts f in
    let k = some_items n ts (items_spelling ts ++ rest) rest o.1 (omega (arith, need)) (omega (arith, few)) in
    (k.0, (item t k.1.0, omega (arith, k.1.1), item_closed b (items_spelling ts ++ rest) k.0 t k.1.0 o.0 k.1.2, omega (arith, need, k.1.3)))
