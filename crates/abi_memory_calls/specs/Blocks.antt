-- The blocks that describe a repository, and its commit.
use Rattle.std.specs.Prelude.{ℕ, List, [], ◌∷◌, ◌++◌, map, codes, string_bytes, Option, Some}
use Rattle.ipld_tree.specs.Cid.{CidParts, cid_bytes}
use Rattle.ipld_tree.specs.Tree.{Tree, bytes, link, list, text, entries_tree, items_of}
use Rattle.ipld_tree.specs.declared.bytes.ByteSlice.{ByteSlice}
use Rattle.dagcbor_write.specs.Trees.{Pair, field, option_tree}
use Rattle.dagcbor_write.specs.Answers.{AreSpellingOf}
use Rattle.atproto_mst.specs.Keys.{Entry}
use Rattle.atproto_mst.specs.Commits.{unsigned_tree}
use Rattle.types_repository.specs.declared.repository.Commit.{Commit}

-- a record: a list of its key and of a link to it
abbrev pub record_tree : Entry → Tree
record_tree e = list (items_of (bytes e.0 ∷ link (cid_bytes e.1) ∷ []))

-- the commit's fields except its version, and the bytes that are signed
abbrev pub commit_fields : Commit → List ℕ → List Pair
commit_fields c signed =
    field (codes "did") (Some (text (string_bytes c.did)))
    ∷ field (codes "rev") (Some (text (string_bytes c.rev)))
    ∷ field (codes "sig") (Some (bytes c.sig.0.items))
    ∷ field (codes "data") (Some (link (cid_bytes c.data)))
    ∷ field (codes "prev") (option_tree (λ p. Some (link (cid_bytes p))) c.prev)
    ∷ field (codes "signed") (Some (bytes signed)) ∷ []

-- a map of these fields, and of the records in the order of their keys
abbrev pub repo_tree : Commit → List ℕ → List Entry → Option Tree
repo_tree c signed es = entries_tree (commit_fields c signed
    ++ field (codes "records") (Some (list (items_of (map record_tree es)))) ∷ [])

-- a map of these fields, and of the commit's name
abbrev pub commit_tree : CidParts → Commit → List ℕ → Option Tree
commit_tree name c signed = entries_tree (field (codes "cid") (Some (link (cid_bytes name)))
    ∷ commit_fields c signed)

-- the block is the spelling of such a map, made with the bytes that are signed
abbrev pub IsBlockOf : (List ℕ → Option Tree) → Commit → List ℕ → Type 0
IsBlockOf tree c block = (signed : List ℕ) × AreSpellingOf (unsigned_tree c) signed
    × AreSpellingOf (tree signed) block

-- ---- as records are held

-- a borrowed key, with its CID
abbrev pub entry_of_row : ByteSlice × CidParts → Entry
entry_of_row r = (r.0.0.now, r.1)
