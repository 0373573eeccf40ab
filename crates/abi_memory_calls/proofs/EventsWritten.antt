-- The tree that is written of what is verified.
use Rattle.std.proofs.Common.{◌≡◌, ℕ, List, [], ◌∷◌, map, codes, refl, ap, ◌∙◌, subst, Option, None, Some, option_map}
use Rattle.ipld_tree.specs.Cid.{CidParts, cid_bytes}
use Rattle.ipld_tree.specs.Tree.{Tree, bytes, link, list, items_of, all_some, list_tree, entries_tree}
use Rattle.ipld_tree.specs.declared.bytes.ByteSlice.{ByteSlice}
use Rattle.dagcbor_write.specs.Trees.{field, option_tree}
use Rattle.dagcbor_write.specs.Answers.{AreSpellingOf}
use Rattle.atproto_mst.specs.Changes.{Changed, changes}
use Rattle.atproto_mst.specs.Commits.{commit_tree}
use Rattle.types_repository.specs.declared.repository.Commit.{Commit}
use Rattle.atproto_events.specs.declared.verify.Verified.{Verified}
use Rattle.abi_memory_calls.specs.EventBlocks.{link_or_null, change_tree, verified_tree, change_of_row}

-- ---- changes

abbrev pub Row : Type 0
Row = ByteSlice × Option CidParts × Option CidParts

abbrev pub link_written : Option CidParts → Option Tree
link_written o = option_tree (λ p. Some (link (cid_bytes p))) o

abbrev pub row_written : Row → Option Tree
row_written r = list_tree (Some (bytes r.0.0.now) ∷ link_written r.1 ∷ link_written r.2 ∷ [])

link_is : (o : Option CidParts) → link_written o ≡ Some (link_or_null o)
link_is None = refl
link_is (Some c) = refl

row_is : (r : Row) → row_written r ≡ Some (change_tree (change_of_row r))
row_is r = ap (λ o. list_tree (Some (bytes r.0.0.now) ∷ o ∷ link_written r.2 ∷ [])) (link_is r.1)
    ∙ ap (λ o. list_tree (Some (bytes r.0.0.now) ∷ Some (link_or_null r.1) ∷ o ∷ [])) (link_is r.2)

each_written : (rs : List Row) → all_some (map row_written rs) ≡ Some (map change_tree (map change_of_row rs))
each_written [] = refl
each_written (r ∷ rs) = ap (λ o. all_some (o ∷ map row_written rs)) (row_is r)
    ∙ ap (λ o. option_map (λ more. change_tree (change_of_row r) ∷ more) o) (each_written rs)

rows_written : (rs : List Row) (cs : List Changed) → map change_of_row rs ≡ cs → list_tree (map row_written rs) ≡ Some (list (items_of (map change_tree cs)))
rows_written rs cs is = ap (λ o. option_map (λ found. list (items_of found)) o) (each_written rs)
    ∙ ap (λ cs. Some (list (items_of (map change_tree cs)))) is

-- ---- the map

abbrev pub map_written : CidParts → CidParts → Commit → List ℕ → Option Tree → Option Tree
map_written name before c signed changes = entries_tree (
    field (codes "cid") (Some (link (cid_bytes name)))
    ∷ field (codes "before") (Some (link (cid_bytes before)))
    ∷ field (codes "commit") (commit_tree c)
    ∷ field (codes "signed") (Some (bytes signed))
    ∷ field (codes "changes") changes ∷ [])

pub block_of : (name : CidParts) (v : Verified) (signed : List ℕ) (rows : List Row) (block : List ℕ) → signed ≡ v.signed.items → map change_of_row rows ≡ changes v.changes.items → AreSpellingOf (map_written name v.before v.commit signed (list_tree (map row_written rows))) block → AreSpellingOf (verified_tree name v) block
block_of name v signed rows block same are h =
    subst (λ o. AreSpellingOf (map_written name v.before v.commit v.signed.items o) block)
    (rows_written rows (changes v.changes.items) are)
    (subst (λ s. AreSpellingOf (map_written name v.before v.commit s (list_tree (map row_written rows))) block) same h)
