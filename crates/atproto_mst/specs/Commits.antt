-- Commits (AT Protocol specification, repository).
use Rattle.std.specs.Prelude.{[], ◌∷◌, Option, Some, codes, pos, string_bytes}
use Rattle.ipld_tree.specs.Cid.{cid_bytes}
use Rattle.ipld_tree.specs.Tree.{Tree, bytes, integer, link, text, entries_tree}
use Rattle.dagcbor_write.specs.Trees.{field, option_tree}
use Rattle.types_repository.specs.declared.repository.Commit.{Commit}

-- the map of a commit's fields
abbrev pub commit_tree : Commit → Option Tree
commit_tree c = entries_tree (
    field (codes "did") (Some (text (string_bytes c.did)))
    ∷ field (codes "rev") (Some (text (string_bytes c.rev)))
    ∷ field (codes "sig") (Some (bytes c.sig.0.items))
    ∷ field (codes "data") (Some (link (cid_bytes c.data)))
    ∷ field (codes "prev") (option_tree (λ p. Some (link (cid_bytes p))) c.prev)
    ∷ field (codes "version") (Some (integer (pos c.version))) ∷ [])

-- the fields without the signature, which are what is signed
abbrev pub unsigned_tree : Commit → Option Tree
unsigned_tree c = entries_tree (
    field (codes "did") (Some (text (string_bytes c.did)))
    ∷ field (codes "rev") (Some (text (string_bytes c.rev)))
    ∷ field (codes "data") (Some (link (cid_bytes c.data)))
    ∷ field (codes "prev") (option_tree (λ p. Some (link (cid_bytes p))) c.prev)
    ∷ field (codes "version") (Some (integer (pos c.version))) ∷ [])
