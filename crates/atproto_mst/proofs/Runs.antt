-- Runs of lower leaves, and what follows them.
use Rattle.std.proofs.Common.{◌≡◌, ℕ, ◌<◌, ◌≤◌, Bool, true, false, List, [], ◌∷◌, ◌++◌, length, take, drop, refl, sym, ap, ◌∙◌}
use Rattle.std.specs.Prelude.{if◌then◌else◌, nat_lt, Option}
use Rattle.std.proofs.lemmas.Bool.{lt-ltb, le-ltb}
use Rattle.ipld_tree.specs.Cid.{CidParts}
use Rattle.files_car.specs.Car.{Section}
use Rattle.atproto_mst.specs.Trees.{Leaf, lower_run, entry_tree, entry_trees, nodes_between}
use Rattle.atproto_mst.specs.Placed.{told, all_told, upper_rest}
use Rattle.atproto_mst.specs.declared.leaves.Placed.{Placed}

pub lower_first : (n : ℕ) (e : Leaf) (es : List Leaf) → e.layer < n → lower_run n (e ∷ es) ≡ e ∷ lower_run n es
lower_first n e es lt = ap (λ b. if b then e ∷ lower_run n es else []) (lt-ltb e.layer n lt)

pub top_first : (n : ℕ) (e : Leaf) (es : List Leaf) → n ≤ e.layer → lower_run n (e ∷ es) ≡ []
top_first n e es le = ap (λ b. if b then e ∷ lower_run n es else []) (le-ltb e.layer n le)

lower_taken_by : (n : ℕ) (p : Placed) (ps : List Placed) (b : Bool) → all_told (take (length (lower_run n (all_told ps))) ps) ≡ lower_run n (all_told ps)
    → all_told (take (length (if b then told p ∷ lower_run n (all_told ps) else [])) (p ∷ ps)) ≡ (if b then told p ∷ lower_run n (all_told ps) else [])
lower_taken_by n p ps true ih = ap (λ t. told p ∷ t) ih
lower_taken_by n p ps false ih = refl

pub lower_taken : (n : ℕ) (ps : List Placed) → all_told (take (length (lower_run n (all_told ps))) ps) ≡ lower_run n (all_told ps)
lower_taken n [] = refl
lower_taken n (p ∷ ps) = lower_taken_by n p ps (nat_lt p.layer n) (lower_taken n ps)

upper_dropped_by : (n : ℕ) (p : Placed) (ps : List Placed) (b : Bool) → all_told (drop (length (lower_run n (all_told ps))) ps) ≡ upper_rest n (all_told ps)
    → all_told (drop (length (if b then told p ∷ lower_run n (all_told ps) else [])) (p ∷ ps)) ≡ (if b then upper_rest n (all_told ps) else told p ∷ all_told ps)
upper_dropped_by n p ps true ih = ih
upper_dropped_by n p ps false ih = refl

pub upper_dropped : (n : ℕ) (ps : List Placed) → all_told (drop (length (lower_run n (all_told ps))) ps) ≡ upper_rest n (all_told ps)
upper_dropped n [] = refl
upper_dropped n (p ∷ ps) = upper_dropped_by n p ps (nat_lt p.layer n) (upper_dropped n ps)

tops_by : (n : ℕ) (e : Leaf) (es : List Leaf) (b : Bool) → nat_lt e.layer n ≡ b → lower_run n (upper_rest n es) ≡ [] → lower_run n (if b then upper_rest n es else e ∷ es) ≡ []
tops_by n e es true q ih = ih
tops_by n e es false q ih = ap (λ x. if x then e ∷ lower_run n es else []) q

-- what follows the run begins with no lower leaf
pub upper_tops : (n : ℕ) (es : List Leaf) → lower_run n (upper_rest n es) ≡ []
upper_tops n [] = refl
upper_tops n (e ∷ es) = tops_by n e es (nat_lt e.layer n) refl (upper_tops n es)

skip_by : (sub : List Leaf → Option CidParts) (n : ℕ) (previous : List ℕ) (e : Leaf) (es : List Leaf) (b : Bool) → nat_lt e.layer n ≡ b
    → entry_trees sub n previous (upper_rest n es) ≡ entry_trees sub n previous es
    → entry_trees sub n previous (if b then upper_rest n es else e ∷ es) ≡ (if b then entry_trees sub n previous es else entry_tree previous e (sub (lower_run n es)) ∷ entry_trees sub n e.key es)
skip_by sub n previous e es true q ih = ih
skip_by sub n previous e es false q ih = ap (λ b. if b then entry_trees sub n previous es else entry_tree previous e (sub (lower_run n es)) ∷ entry_trees sub n e.key es) q

-- the entries of the leaves after the run are those of all
pub entries_skip : (sub : List Leaf → Option CidParts) (n : ℕ) (previous : List ℕ) (es : List Leaf) → entry_trees sub n previous (upper_rest n es) ≡ entry_trees sub n previous es
entries_skip sub n previous [] = refl
entries_skip sub n previous (e ∷ es) = skip_by sub n previous e es (nat_lt e.layer n) refl (entries_skip sub n previous es)

nodes_skip_by : (nodes : List Leaf → List Section) (n : ℕ) (e : Leaf) (es : List Leaf) (b : Bool) → nat_lt e.layer n ≡ b
    → nodes_between nodes n (upper_rest n es) ≡ nodes_between nodes n es
    → nodes_between nodes n (if b then upper_rest n es else e ∷ es) ≡ (if b then nodes_between nodes n es else nodes (lower_run n es) ++ nodes_between nodes n es)
nodes_skip_by nodes n e es true q ih = ih
nodes_skip_by nodes n e es false q ih = ap (λ b. if b then nodes_between nodes n es else nodes (lower_run n es) ++ nodes_between nodes n es) q

pub nodes_skip : (nodes : List Leaf → List Section) (n : ℕ) (es : List Leaf) → nodes_between nodes n (upper_rest n es) ≡ nodes_between nodes n es
nodes_skip nodes n [] = refl
nodes_skip nodes n (e ∷ es) = nodes_skip_by nodes n e es (nat_lt e.layer n) refl (nodes_skip nodes n es)

is_top_by : (n : ℕ) (e : Leaf) (es : List Leaf) (b : Bool) → (if b then e ∷ lower_run n es else []) ≡ [] → b ≡ false
is_top_by n e es true h = absurd (cc h)
is_top_by n e es false h = refl

-- a leaf that begins no run is not lower
pub is_top : (n : ℕ) (e : Leaf) (es : List Leaf) → lower_run n (e ∷ es) ≡ [] → nat_lt e.layer n ≡ false
is_top n e es h = is_top_by n e es (nat_lt e.layer n) h

-- the entries from a top leaf on
pub entries_next : (sub : List Leaf → Option CidParts) (n : ℕ) (previous : List ℕ) (e : Leaf) (es : List Leaf) → lower_run n (e ∷ es) ≡ []
    → entry_trees sub n previous (e ∷ es) ≡ entry_tree previous e (sub (lower_run n es)) ∷ entry_trees sub n e.key (upper_rest n es)
entries_next sub n previous e es h =
    ap (λ b. if b then entry_trees sub n previous es else entry_tree previous e (sub (lower_run n es)) ∷ entry_trees sub n e.key es) (is_top n e es h)
    ∙ ap (λ ts. entry_tree previous e (sub (lower_run n es)) ∷ ts) (sym (entries_skip sub n e.key es))

pub nodes_next : (nodes : List Leaf → List Section) (n : ℕ) (e : Leaf) (es : List Leaf) → lower_run n (e ∷ es) ≡ []
    → nodes_between nodes n (e ∷ es) ≡ nodes (lower_run n es) ++ nodes_between nodes n (upper_rest n es)
nodes_next nodes n e es h =
    ap (λ b. if b then nodes_between nodes n es else nodes (lower_run n es) ++ nodes_between nodes n es) (is_top n e es h)
    ∙ ap (λ ts. nodes (lower_run n es) ++ ts) (sym (nodes_skip nodes n es))
