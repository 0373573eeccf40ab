-- The tree that is written of a repository.
use Rattle.std.proofs.Common.{◌≡◌, ℕ, List, [], ◌∷◌, ◌++◌, map, codes, refl, ap, ◌∙◌, subst, Option, Some, option_map}
use Rattle.ipld_tree.specs.Cid.{CidParts, cid_bytes}
use Rattle.ipld_tree.specs.Tree.{Tree, bytes, link, list, items_of, all_some, list_tree, entries_tree}
use Rattle.ipld_tree.specs.declared.bytes.ByteSlice.{ByteSlice}
use Rattle.dagcbor_write.specs.Trees.{field}
use Rattle.dagcbor_write.specs.Answers.{AreSpellingOf}
use Rattle.atproto_mst.specs.Keys.{Entry}
use Rattle.atproto_mst.specs.Commits.{unsigned_tree}
use Rattle.atproto_mst.specs.Entries.{entries}
use Rattle.types_repository.specs.declared.repository.Commit.{Commit}
use Rattle.atproto_mst.specs.declared.entries.MstEntry.{MstEntry}
use Rattle.abi_memory_calls.specs.Blocks.{record_tree, commit_fields, repo_tree, IsBlockOf, entry_of_row}

-- ---- records

abbrev pub row_written : ByteSlice × CidParts → Option Tree
row_written r = list_tree (Some (bytes r.0.0.now) ∷ Some (link (cid_bytes r.1)) ∷ [])

each_written : (rs : List (ByteSlice × CidParts)) → all_some (map row_written rs) ≡ Some (map record_tree (map entry_of_row rs))
each_written [] = refl
each_written (r ∷ rs) = ap (λ o. option_map (λ more. record_tree (entry_of_row r) ∷ more) o) (each_written rs)

rows_written : (rs : List (ByteSlice × CidParts)) (es : List Entry) → map entry_of_row rs ≡ es → list_tree (map row_written rs) ≡ Some (list (items_of (map record_tree es)))
rows_written rs es is = ap (λ o. option_map (λ found. list (items_of found)) o) (each_written rs)
    ∙ ap (λ es. Some (list (items_of (map record_tree es)))) is

-- ---- the map

abbrev pub map_written : Commit → List ℕ → Option Tree → Option Tree
map_written c signed records = entries_tree (commit_fields c signed ++ field (codes "records") records ∷ [])

pub block_of : (c : Commit) (records : List MstEntry) (signed : List ℕ) (rows : List (ByteSlice × CidParts)) (block : List ℕ) → AreSpellingOf (unsigned_tree c) signed → map entry_of_row rows ≡ entries records → AreSpellingOf (map_written c signed (list_tree (map row_written rows))) block → IsBlockOf (λ s. repo_tree c s (entries records)) c block
block_of c records signed rows block unsigned are h =
    (signed, unsigned, subst (λ o. AreSpellingOf (map_written c signed o) block) (rows_written rows (entries records) are) h)
