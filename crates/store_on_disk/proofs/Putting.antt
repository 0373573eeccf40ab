-- Values that are stored.
use Rattle.std.proofs.Common.{◌≡◌, ℕ, List, [], ap, ◌∙◌, subst, Option, None, Some, IsSomeAnd}
use Rattle.sqlite_trees.specs.Tree.{Trees}
use Rattle.sqlite_trees.specs.View.{IsClean}
use Rattle.sqlite_trees.specs.declared.store.Store.{Ghosts}
use Rattle.ipld_tree.specs.Cid.{CidParts}
use Rattle.ipld_tree.specs.Tree.{Tree}
use Rattle.ipld_tree.specs.Spelling.{spelling}
use Rattle.ipld_tree.proofs.Fronts.{front_unique}
use Rattle.dagcbor_decode.specs.Blocks.{IsBlock}
use Rattle.dagcbor_items.proofs.SliceReads.{whole_front}
use Rattle.dagcbor_write.specs.Answers.{AreSpellingOf}
use Rattle.ipld_links.specs.Names.{block_name}
use Rattle.ipld_links.specs.Sound.{IsSound}
use Rattle.store_on_disk.specs.Stored.{IsPut, IsAddedTo}
use Rattle.store_on_disk.specs.Values.{PutsValue}

pub puts_value : {S : Type 0} (g : Ghosts S) (tree : Option Tree) (b : List ℕ) (name : CidParts) (old new : S) → AreSpellingOf tree b → name ≡ block_name b → IsSound (name, b) × (IsClean (g.view new) → IsPut (g.view old) (g.view new) name b) → PutsValue g tree old name new
puts_value g None b name old new a named h = absurd a
puts_value g (Some t) b name old new a named h =
    let has = h.0.read (ap (λ (c : CidParts). c.codec) named) in
    let same = front_unique b [] [] has.0 t (whole_front has.1.0) (whole_front a) in
    (subst (λ x. IsBlock x t) a.is (subst (IsBlock b) same.0 has.1), named ∙ ap block_name a.is, λ clean. subst (IsPut (g.view old) (g.view new) name) a.is (h.1 clean))

pub may_leave_value : (tree : Option Tree) (b : List ℕ) (name : CidParts) (C : Type 0) (old db : Trees) → AreSpellingOf tree b → name ≡ block_name b → (C → IsAddedTo old db name b) → IsSomeAnd tree (λ t. C → IsAddedTo old db (block_name (spelling t)) (spelling t))
may_leave_value None b name C old db a named f = absurd a
may_leave_value (Some t) b name C old db a named f = λ clean. subst (λ x. IsAddedTo old db (block_name x) x) a.is (subst (λ n. IsAddedTo old db n b) named (f clean))
