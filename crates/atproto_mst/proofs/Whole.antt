-- The tree of entries, of its leaves.
use Rattle.std.proofs.Common.{◌≡◌, ℕ, List, [], sym, ap, ◌∙◌, subst, inl, inr, ◌⊎◌, Result, Ok, Err, IfErr}
use Rattle.std.specs.Prelude.{⊤}
use Rattle.ipld_tree.specs.Cid.{CidParts}
use Rattle.files_car.specs.Car.{Section}
use Rattle.ipld_links.specs.Sets.{Among}
use Rattle.atproto_mst.specs.Keys.{Entry, AreMstEntries}
use Rattle.atproto_mst.specs.Trees.{Leaf, node, nodes, top_layer, leaves, mst, nodes_of}
use Rattle.atproto_mst.specs.Entries.{EntriesRefused}
use Rattle.atproto_mst.specs.declared.error.MstError.{MstError}
use Rattle.atproto_mst.specs.declared.error.MstError.TheVariants.{OutOfMemory}

pub tree_is : (es : List Entry) (ls : List Leaf) (n : ℕ) → ls ≡ leaves es → n ≡ top_layer (leaves es) → node n ls ≡ mst es
unfolding mst
tree_is es ls n l k = ap (λ m. node m ls) k ∙ ap (node (top_layer (leaves es))) l

pub nodes_is : (es : List Entry) (ls : List Leaf) (n : ℕ) → ls ≡ leaves es → n ≡ top_layer (leaves es) → nodes n ls ≡ nodes_of es
unfolding nodes_of
nodes_is es ls n l k = ap (λ m. nodes m ls) k ∙ ap (nodes (top_layer (leaves es))) l

only_memory : (e : MstError) (es : List Entry) (all : List Section) → AreMstEntries es → ((world : Unit {0}) (before : List Section) → ⊤ → (e ≡ OutOfMemory) ⊎ ((s : Section) × Among s all × ⊥)) → EntriesRefused e es
only_memory e es all good r = elim (r tt [] tt) [
  | inl m ↦ subst (λ x. EntriesRefused x es) (sym m) good
  | inr x ↦ absurd x.2
]

pub err_only_memory : (A : Type 0) (r : Result CidParts MstError) (es : List Entry) (all : List Section)
    → IfErr r (λ e. (EntriesRefused e es × A) ⊎ (AreMstEntries es × ((world : Unit {0}) (before : List Section) → ⊤ → (e ≡ OutOfMemory) ⊎ ((s : Section) × Among s all × ⊥))))
    → IfErr r (λ e. EntriesRefused e es)
err_only_memory A (Ok x) es all h = tt
err_only_memory A (Err e) es all h = elim h [
  | inl r ↦ r.0
  | inr r ↦ only_memory e es all r.0 r.1
]
