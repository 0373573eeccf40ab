-- The block that describes what is verified of a commit.
use Rattle.std.specs.Prelude.{[], ◌∷◌, map, codes, Option, None, Some}
use Rattle.ipld_tree.specs.Cid.{CidParts, cid_bytes}
use Rattle.ipld_tree.specs.Tree.{Tree, null, bytes, link, list, entries_tree, items_of}
use Rattle.ipld_tree.specs.declared.bytes.ByteSlice.{ByteSlice}
use Rattle.dagcbor_write.specs.Trees.{field}
use Rattle.atproto_mst.specs.Changes.{Changed, changes}
use Rattle.atproto_mst.specs.Commits.{commit_tree}
use Rattle.atproto_events.specs.declared.verify.Verified.{Verified}

-- a link, or null
abbrev pub link_or_null : Option CidParts → Tree
link_or_null None = null
link_or_null (Some c) = link (cid_bytes c)

-- a change: a list of its key, and of its records before and after
abbrev pub change_tree : Changed → Tree
change_tree c = list (items_of (bytes c.0 ∷ link_or_null c.1.0 ∷ link_or_null c.1.1 ∷ []))

-- a map of the commit's name, of the root before, of the commit's fields as in its block, of the
-- bytes that are signed, and of the changes in their order
abbrev pub verified_tree : CidParts → Verified → Option Tree
verified_tree name v = entries_tree (
    field (codes "cid") (Some (link (cid_bytes name)))
    ∷ field (codes "before") (Some (link (cid_bytes v.before)))
    ∷ field (codes "commit") (commit_tree v.commit)
    ∷ field (codes "signed") (Some (bytes v.signed.items))
    ∷ field (codes "changes") (Some (list (items_of (map change_tree (changes v.changes.items))))) ∷ [])

-- ---- as changes are held

-- a borrowed key, with its records
abbrev pub change_of_row : ByteSlice × Option CidParts × Option CidParts → Changed
change_of_row r = (r.0.0.now, (r.1, r.2))
