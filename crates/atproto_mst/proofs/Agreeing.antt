-- Walks over nodes that agree have one listing.
use Rattle.std.proofs.Common.{◌≡◌, ◌⊎◌, inl, inr, ℕ, zero, suc, List, [], ◌∷◌, ◌++◌, sym, ap₂, ◌∙◌, subst, Option, Some, None}
use Rattle.ipld_tree.specs.Cid.{CidParts}
use Rattle.ipld_links.specs.Reaching.{Stored}
use Rattle.atproto_mst.specs.Keys.{Entry}
use Rattle.atproto_mst.specs.Nodes.{NodeRow, NodeParts, IsNodeAt, key_of_row}
use Rattle.atproto_mst.specs.Walks.{WalksLink, WalksRows, WalksNode, WalksTree}
use Rattle.atproto_mst.proofs.Nodes.{same_node_at}

-- two listings of one tree are the same, or something else holds
abbrev Agree : Type 0 → (CidParts → List Entry → Type 0) → (CidParts → List Entry → Type 0) → Type 0
Agree C V W = (name : CidParts) (es fs : List Entry) → V name es → W name fs → (es ≡ fs) ⊎ C

both : {A B C : Type 0} → A ⊎ C → (A → B ⊎ C) → B ⊎ C
both (inl a) f = f a
both (inr c) f = inr c

links_agree : (C : Type 0) (V W : CidParts → List Entry → Type 0) → Agree C V W → (l : Option CidParts) (es fs : List Entry)
    → WalksLink V l es → WalksLink W l fs → (es ≡ fs) ⊎ C
links_agree C V W same None es fs v w = inl (v ∙ sym w)
links_agree C V W same (Some name) es fs v w = same name es fs v.0 w.0

rows_agree : (C : Type 0) (V W : CidParts → List Entry → Type 0) → Agree C V W → (rows : List NodeRow) (previous : List ℕ) (es fs : List Entry)
    → WalksRows V previous rows es → WalksRows W previous rows fs → (es ≡ fs) ⊎ C
rows_agree C V W same [] previous es fs v w = inl (v ∙ sym w)
rows_agree C V W same (r ∷ rs) previous es fs (vs, (vb, vm, vl, vr, ve)) (ws, (wb, wm, wl, wr, we)) =
    both (links_agree C V W same r.after vb wb vl wl) (λ first. both (rows_agree C V W same rs (key_of_row previous r) vm wm vr wr) (λ more.
    inl (ve ∙ ap₂ (λ below following. (key_of_row previous r, r.value) ∷ (below ++ following)) first more ∙ sym we)))

node_agrees : (C : Type 0) (V W : CidParts → List Entry → Type 0) → Agree C V W → (p : NodeParts) (es fs : List Entry)
    → WalksNode V p es → WalksNode W p fs → (es ≡ fs) ⊎ C
node_agrees C V W same p es fs (vb, vm, vl, vr, ve) (wb, wm, wl, wr, we) =
    both (links_agree C V W same p.left vb wb vl wl) (λ first. both (rows_agree C V W same p.rows [] vm wm vr wr) (λ more.
    inl (ve ∙ ap₂ (λ below following. below ++ following) first more ∙ sym we)))

pub walks_agree : (C : Type 0) (stored others : Stored) → ((name : CidParts) (p q : NodeParts) → IsNodeAt stored name p → IsNodeAt others name q → (p ≡ q) ⊎ C)
    → (m n : ℕ) (name : CidParts) (es fs : List Entry) → WalksTree m stored name es → WalksTree n others name fs → (es ≡ fs) ⊎ C
walks_agree C stored others agree zero n name es fs v w = absurd v
walks_agree C stored others agree (suc m) zero name es fs v w = absurd w
walks_agree C stored others agree (suc m) (suc n) name es fs (p, vp, v) (q, wq, w) =
    both (agree name p q vp wq) (λ same.
    node_agrees C (WalksTree m stored) (WalksTree n others) (walks_agree C stored others agree m n) p es fs v (subst (λ x. WalksNode (WalksTree n others) x fs) (sym same) w))

-- the nodes of one store agree
pub one_store : (C : Type 0) (stored : Stored) (name : CidParts) (p q : NodeParts) → IsNodeAt stored name p → IsNodeAt stored name q → (p ≡ q) ⊎ C
one_store C stored name p q h k = inl (same_node_at stored name p q h k)

-- a walk has one listing
pub one_walk : (stored : Stored) (m n : ℕ) (name : CidParts) (es fs : List Entry) → WalksTree m stored name es → WalksTree n stored name fs → es ≡ fs
one_walk stored m n name es fs v w = elim (walks_agree ⊥ stored stored (one_store ⊥ stored) m n name es fs v w) [
  | inl same ↦ same
  | inr x ↦ absurd x
]
