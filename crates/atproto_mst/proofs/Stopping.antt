-- A walk that stops at a fault reaches no end.
use Rattle.std.proofs.Common.{◌≡◌, inl, inr, ℕ, zero, suc, ◌≤◌, length, List, [], ◌∷◌, ◌++◌, refl, sym, ap, ◌∙◌, subst, arith, Option, Some, None}
use Rattle.ipld_tree.specs.Cid.{CidParts}
use Rattle.ipld_links.specs.Names.{block_name}
use Rattle.ipld_links.specs.Reaching.{Stored}
use Rattle.atproto_mst.specs.Keys.{Entry}
use Rattle.atproto_mst.specs.Nodes.{NodeRow, NodeParts, IsNode, IsNodeAt, key_of_row}
use Rattle.atproto_mst.specs.Walks.{WalksLink, WalksRows, WalksNode, WalksTree}
use Rattle.atproto_mst.specs.Stops.{NodeFault, RowFault, IsRow, ComeAfter, last_entry_key, StopsAfter, StopsInRows, StopsInNode, StopsWalk}
use Rattle.atproto_mst.specs.declared.error.MstError.{MstError}
use Rattle.atproto_mst.specs.declared.error.MstError.TheVariants as error
use Rattle.atproto_mst.proofs.Nodes.{same_node_at}
use Rattle.atproto_mst.proofs.Agreeing.{one_walk}
use Rattle.atproto_mst.proofs.Rising.{after_left, after_right, after_first}

-- ---- faults

pub no_fault : (stored : Stored) (name : CidParts) (e : MstError) (p : NodeParts) → NodeFault stored name e → IsNodeAt stored name p → ⊥
no_fault stored name (error.MissingNode lost) p h k = absurd (cc (h.1, k.is))
no_fault stored name (error.OtherBytes other) p (o, (b, is, not)) k =
    let same : k.block ≡ b = cc (is, k.is) in
    not (k.named ∙ ap block_name same)
no_fault stored name (error.NoNode other) p (o, (b, is, named, not)) k =
    let same : k.block ≡ b = cc (is, k.is) in
    not p (subst (λ x. IsNode x p) same k.node)
no_fault stored name _ p h k = absurd h

no_row_fault : (previous before : List ℕ) (r : NodeRow) (es : List Entry) (e : MstError) → RowFault previous before r e → r.shared ≤ length previous
    → ComeAfter before ((key_of_row previous r, r.value) ∷ es) → ⊥
no_row_fault previous before r es error.KeyFront h k f = omega arith
no_row_fault previous before r es error.KeyLength h k f = h.1 f.keys.0
no_row_fault previous before r es error.KeyOrder h k f = h.2 f.following
no_row_fault previous before r es _ h k f = absurd h

-- ---- the walk

abbrev OneListing : (CidParts → List Entry → Type 0) → Type 0
OneListing W = (name : CidParts) (es fs : List Entry) → W name es → W name fs → es ≡ fs

abbrev NeverWalks : (CidParts → List Entry → Type 0) → (List ℕ → CidParts → MstError → Type 0) → Type 0
NeverWalks W S = (before : List ℕ) (name : CidParts) (e : MstError) (es : List Entry) → S before name e → W name es → ComeAfter before es → ⊥

one_after : (W : CidParts → List Entry → Type 0) → OneListing W → (l : Option CidParts) (es fs : List Entry) → WalksLink W l es → WalksLink W l fs → es ≡ fs
one_after W one None es fs v w = v ∙ sym w
one_after W one (Some name) es fs v w = one name es fs v.0 w.0

never_after : (W : CidParts → List Entry → Type 0) (S : List ℕ → CidParts → MstError → Type 0) → OneListing W → NeverWalks W S
    → (before : List ℕ) (l : Option CidParts) (e : MstError) (es : List Entry) → StopsAfter W S before l e → WalksLink W l es → ComeAfter before es → ⊥
never_after W S one never before None e es s w f = absurd s
never_after W S one never before (Some name) e es (inl s) w f = never before name e es s w.0 f
never_after W S one never before (Some name) e es (inr (is, none)) w f = w.1 (one name es [] w.0 none)

never_in_rows : (W : CidParts → List Entry → Type 0) (S : List ℕ → CidParts → MstError → Type 0) → OneListing W → NeverWalks W S
    → (rows : List NodeRow) (before previous : List ℕ) (e : MstError) (es : List Entry) → StopsInRows W S before previous rows e → WalksRows W previous rows es → ComeAfter before es → ⊥
never_in_rows W S one never [] before previous e es s w f = absurd s
never_in_rows W S one never (r ∷ rs) before previous e es (inl fault) (shares, (below, more, link, rows, is)) f =
    no_row_fault previous before r (below ++ more) e fault shares (subst (ComeAfter before) is f)
never_in_rows W S one never (r ∷ rs) before previous e es (inr (s, inl stop)) (shares, (below, more, link, rows, is)) f =
    never_after W S one never (key_of_row previous r) r.after e below stop link
    (after_left (key_of_row previous r) below more (after_first before (key_of_row previous r, r.value) (below ++ more) (subst (ComeAfter before) is f)))
never_in_rows W S one never (r ∷ rs) before previous e es (inr (s, inr (other, to, following, stop))) (shares, (below, more, link, rows, is)) f =
    never_in_rows W S one never rs (last_entry_key (key_of_row previous r) below) (key_of_row previous r) e more
    (subst (λ x. StopsInRows W S (last_entry_key (key_of_row previous r) x) (key_of_row previous r) rs e) (one_after W one r.after other below to link) stop) rows
    (after_right (key_of_row previous r) below more (after_first before (key_of_row previous r, r.value) (below ++ more) (subst (ComeAfter before) is f)))

never_in_node : (W : CidParts → List Entry → Type 0) (S : List ℕ → CidParts → MstError → Type 0) → OneListing W → NeverWalks W S
    → (p : NodeParts) (before : List ℕ) (e : MstError) (es : List Entry) → StopsInNode W S before p e → WalksNode W p es → ComeAfter before es → ⊥
never_in_node W S one never p before e es (inl stop) (below, more, link, rows, is) f =
    never_after W S one never before p.left e below stop link (after_left before below more (subst (ComeAfter before) is f))
never_in_node W S one never p before e es (inr (other, to, following, stop)) (below, more, link, rows, is) f =
    never_in_rows W S one never p.rows (last_entry_key before below) [] e more
    (subst (λ x. StopsInRows W S (last_entry_key before x) [] p.rows e) (one_after W one p.left other below to link) stop) rows
    (after_right before below more (subst (ComeAfter before) is f))

never : (stored : Stored) (m : ℕ) → NeverWalks (WalksTree m stored) (StopsWalk m stored)
never stored zero before name e es s w f = absurd w
never stored (suc m) before name e es (inl fault) (q, is, w) f = no_fault stored name e q fault is
never stored (suc m) before name e es (inr (p, at, s)) (q, is, w) f =
    never_in_node (WalksTree m stored) (StopsWalk m stored) (one_walk stored m m) (never stored m) q before e es
    (subst (λ x. StopsInNode (WalksTree m stored) (StopsWalk m stored) before x e) (same_node_at stored name p q at is) s) w f

pub stops_never_walks : (stored : Stored) (m : ℕ) (before : List ℕ) (name : CidParts) (e : MstError) (es : List Entry)
    → StopsWalk m stored before name e → WalksTree m stored name es → ComeAfter before es → ⊥
stops_never_walks stored m = never stored m

-- ---- there is one first fault

one_node_fault : (stored : Stored) (name : CidParts) (e f : MstError) → NodeFault stored name e → NodeFault stored name f → e ≡ f
one_node_fault stored name (error.MissingNode lost) (error.MissingNode other) h k = ap (λ x. error.MissingNode x) (h.0 ∙ sym k.0)
one_node_fault stored name (error.MissingNode lost) (error.OtherBytes other) h (o, (b, is, not)) = absurd (cc (h.1, is))
one_node_fault stored name (error.MissingNode lost) (error.NoNode other) h (o, (b, is, named, not)) = absurd (cc (h.1, is))
one_node_fault stored name (error.MissingNode lost) _ h k = absurd k
one_node_fault stored name (error.OtherBytes lost) (error.MissingNode other) (o, (b, is, not)) k = absurd (cc (k.1, is))
one_node_fault stored name (error.OtherBytes lost) (error.OtherBytes other) h k = ap (λ x. error.OtherBytes x) (h.0 ∙ sym k.0)
one_node_fault stored name (error.OtherBytes lost) (error.NoNode other) (o, (b, is, not)) (p, (c, there, named, no_node)) =
    let same : c ≡ b = cc (is, there) in
    absurd (not (named ∙ ap block_name same))
one_node_fault stored name (error.OtherBytes lost) _ h k = absurd k
one_node_fault stored name (error.NoNode lost) (error.MissingNode other) (o, (b, is, named, not)) k = absurd (cc (k.1, is))
one_node_fault stored name (error.NoNode lost) (error.OtherBytes other) (o, (b, is, named, no_node)) (p, (c, there, not)) =
    let same : b ≡ c = cc (is, there) in
    absurd (not (named ∙ ap block_name same))
one_node_fault stored name (error.NoNode lost) (error.NoNode other) h k = ap (λ x. error.NoNode x) (h.0 ∙ sym k.0)
one_node_fault stored name (error.NoNode lost) _ h k = absurd k
one_node_fault stored name _ f h k = absurd h

one_row_fault : (previous before : List ℕ) (r : NodeRow) (e f : MstError) → RowFault previous before r e → RowFault previous before r f → e ≡ f
one_row_fault previous before r error.KeyFront error.KeyFront h k = refl
one_row_fault previous before r error.KeyFront error.KeyLength h k = absurd (omega (arith, h, k.0))
one_row_fault previous before r error.KeyFront error.KeyOrder h k = absurd (omega (arith, h, k.0))
one_row_fault previous before r error.KeyFront _ h k = absurd k
one_row_fault previous before r error.KeyLength error.KeyFront h k = absurd (omega (arith, k, h.0))
one_row_fault previous before r error.KeyLength error.KeyLength h k = refl
one_row_fault previous before r error.KeyLength error.KeyOrder h k = absurd (h.1 k.1)
one_row_fault previous before r error.KeyLength _ h k = absurd k
one_row_fault previous before r error.KeyOrder error.KeyFront h k = absurd (omega (arith, k, h.0))
one_row_fault previous before r error.KeyOrder error.KeyLength h k = absurd (k.1 h.1)
one_row_fault previous before r error.KeyOrder error.KeyOrder h k = refl
one_row_fault previous before r error.KeyOrder _ h k = absurd k
one_row_fault previous before r _ f h k = absurd h

row_or_fault : (previous before : List ℕ) (r : NodeRow) (e : MstError) → RowFault previous before r e → IsRow previous before r → ⊥
row_or_fault previous before r error.KeyFront h k = omega (arith, h, k.shares)
row_or_fault previous before r error.KeyLength h k = h.1 k.is_key
row_or_fault previous before r error.KeyOrder h k = h.2 k.following
row_or_fault previous before r _ h k = absurd h

nothing_after : (before : List ℕ) → ComeAfter before []
nothing_after before = record { keys = tt; rise = tt; following = tt }

abbrev OneFault : (List ℕ → CidParts → MstError → Type 0) → Type 0
OneFault S = (before : List ℕ) (name : CidParts) (e f : MstError) → S before name e → S before name f → e ≡ f

module _ (W : CidParts → List Entry → Type 0) (S : List ℕ → CidParts → MstError → Type 0) (listing : OneListing W) (never_walks : NeverWalks W S) (one : OneFault S) where
  one_fault_after : (before : List ℕ) (l : Option CidParts) (e f : MstError) → StopsAfter W S before l e → StopsAfter W S before l f → e ≡ f
  one_fault_after before None e f s t = absurd s
  one_fault_after before (Some name) e f (inl s) (inl t) = one before name e f s t
  one_fault_after before (Some name) e f (inl s) (inr (is, none)) = absurd (never_walks before name e [] s none (nothing_after before))
  one_fault_after before (Some name) e f (inr (is, none)) (inl t) = absurd (never_walks before name f [] t none (nothing_after before))
  one_fault_after before (Some name) e f (inr (is, none)) (inr (same, empty)) = is ∙ sym same

  one_fault_in_rows : (rows : List NodeRow) (before previous : List ℕ) (e f : MstError) → StopsInRows W S before previous rows e → StopsInRows W S before previous rows f → e ≡ f
  one_fault_in_rows [] before previous e f s t = absurd s
  one_fault_in_rows (r ∷ rs) before previous e f (inl a) (inl b) = one_row_fault previous before r e f a b
  one_fault_in_rows (r ∷ rs) before previous e f (inl a) (inr (row, t)) = absurd (row_or_fault previous before r e a row)
  one_fault_in_rows (r ∷ rs) before previous e f (inr (row, s)) (inl b) = absurd (row_or_fault previous before r f b row)
  one_fault_in_rows (r ∷ rs) before previous e f (inr (row, inl a)) (inr (k, inl b)) = one_fault_after (key_of_row previous r) r.after e f a b
  one_fault_in_rows (r ∷ rs) before previous e f (inr (row, inl a)) (inr (k, inr (below, link, following, t))) =
      absurd (never_after W S listing never_walks (key_of_row previous r) r.after e below a link following)
  one_fault_in_rows (r ∷ rs) before previous e f (inr (row, inr (below, link, following, s))) (inr (k, inl b)) =
      absurd (never_after W S listing never_walks (key_of_row previous r) r.after f below b link following)
  one_fault_in_rows (r ∷ rs) before previous e f (inr (row, inr (below, link, following, s))) (inr (k, inr (other, to, h, t))) =
      one_fault_in_rows rs (last_entry_key (key_of_row previous r) below) (key_of_row previous r) e f s
      (subst (λ x. StopsInRows W S (last_entry_key (key_of_row previous r) x) (key_of_row previous r) rs f) (one_after W listing r.after other below to link) t)

  one_fault_in_node : (p : NodeParts) (before : List ℕ) (e f : MstError) → StopsInNode W S before p e → StopsInNode W S before p f → e ≡ f
  one_fault_in_node p before e f (inl a) (inl b) = one_fault_after before p.left e f a b
  one_fault_in_node p before e f (inl a) (inr (below, link, following, t)) = absurd (never_after W S listing never_walks before p.left e below a link following)
  one_fault_in_node p before e f (inr (below, link, following, s)) (inl b) = absurd (never_after W S listing never_walks before p.left f below b link following)
  one_fault_in_node p before e f (inr (below, link, following, s)) (inr (other, to, h, t)) =
      one_fault_in_rows p.rows (last_entry_key before below) [] e f s
      (subst (λ x. StopsInRows W S (last_entry_key before x) [] p.rows f) (one_after W listing p.left other below to link) t)

pub one_fault : (stored : Stored) (m : ℕ) → OneFault (StopsWalk m stored)
one_fault stored zero before name e f s t = s ∙ sym t
one_fault stored (suc m) before name e f (inl a) (inl b) = one_node_fault stored name e f a b
one_fault stored (suc m) before name e f (inl a) (inr (p, at, t)) = absurd (no_fault stored name e p a at)
one_fault stored (suc m) before name e f (inr (p, at, s)) (inl b) = absurd (no_fault stored name f p b at)
one_fault stored (suc m) before name e f (inr (p, at, s)) (inr (q, is, t)) =
    one_fault_in_node (WalksTree m stored) (StopsWalk m stored) (one_walk stored m m) (never stored m) (one_fault stored m) p before e f s
    (subst (λ x. StopsInNode (WalksTree m stored) (StopsWalk m stored) before x f) (same_node_at stored name q p is at) t)
