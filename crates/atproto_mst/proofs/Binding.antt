-- A root determines the entries of its tree, and what is found for a key.
use Rattle.std.proofs.Common.{◌≡◌, inl, inr, ℕ, List, sym, ap, ◌∙◌, subst}
use Rattle.sha2.specs.Sha256.{sha256}
use Rattle.ipld_links.specs.Names.{block_name}
use Rattle.ipld_links.specs.Reaching.{Stored}
use Rattle.atproto_mst.specs.Nodes.{IsNode}
use Rattle.atproto_mst.specs.Walks.{most_layers}
use Rattle.atproto_mst.specs.Finding.{lookup}
use Rattle.atproto_mst.specs.Laws.{RootBinds, RecordsBind}
use Rattle.ipld_links.specs.Collisions.{Collides}
use Rattle.ipld_links.proofs.Colliding.{of_one_hash}
use Rattle.atproto_mst.proofs.Nodes.{same_node}
use Rattle.atproto_mst.proofs.Agreeing.{walks_agree}
use Rattle.atproto_mst.proofs.Canonical.{mst_walked}
use Rattle.atproto_mst.proofs.Seeking.{finds_walked}
use Rattle.atproto_mst.proofs.Searching.{NodesAgree, finds_agree}

one_digest : (x y : List ℕ) → block_name x ≡ block_name y → sha256 x ≡ sha256 y
one_digest x y e = ap (λ q. q.digest) e

-- under one name two stores have one node
nodes_agree : (stored others : Stored) → NodesAgree stored others Collides
nodes_agree stored others name p q h k = elim (of_one_hash h.block k.block (one_digest h.block k.block (sym h.named ∙ k.named))) [
  | inl is ↦ inl (same_node k.block p q (subst (λ b. IsNode b p) is h.node) k.node)
  | inr c ↦ inr c
]

pub root_binds : RootBinds
root_binds stored others root es fs h k = walks_agree Collides stored others (nodes_agree stored others) most_layers most_layers root es fs (mst_walked stored root es h) (mst_walked others root fs k)

pub records_bind : RecordsBind
records_bind stored others root key es found h k = finds_agree most_layers most_layers stored others Collides key root found (lookup key es) (nodes_agree stored others) h
    (finds_walked most_layers others root es key (mst_walked others root es k) k.valid.rise)
