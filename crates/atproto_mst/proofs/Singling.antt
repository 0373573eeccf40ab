-- Two lists of entries have one list of changes.
use Rattle.std.proofs.Common.{◌≡◌, ◌≢◌, inl, inr, ℕ, List, [], ◌∷◌, refl, sym, ap, ◌∙◌, subst}
use Rattle.std.specs.List.{AllByRecursion}
use Rattle.atproto_mst.specs.Keys.{Entry}
use Rattle.atproto_mst.specs.Finding.{lookup}
use Rattle.atproto_mst.specs.Changes.{Changed, ComesBeforeChanges, ChangesRise, HasChange, IsChange, AreChanges}
use Rattle.atproto_mst.proofs.Seeking.{Below, below_trans, not_same}

following : (k q : List ℕ) (cs : List Changed) → ComesBeforeChanges k cs → ChangesRise cs → HasChange q cs → Below k q
following k q [] b r h = absurd h
following k q (c ∷ cs) b r (inl is) = subst (λ x. Below k x) is b
following k q (c ∷ cs) b r (inr h) = below_trans k c.0 q b (following c.0 q cs r.0 r.1 h)

same_change : (old new : List Entry) (c d : Changed) → IsChange old new c → IsChange old new d → c.0 ≡ d.0 → c ≡ d
same_change old new c d hc hd is =
    let before = hc.0 ∙ ap (λ k. lookup k old) is ∙ sym hd.0 in
    let after = hc.1 ∙ ap (λ k. lookup k new) is ∙ sym hd.1 in
    ap (λ k. (k, c.1)) is ∙ ap (λ b. (d.0, (b, c.1.1))) before ∙ ap (λ a. (d.0, (d.1.0, a))) after

abbrev Covers : List Changed → List Changed → Type 0
Covers cs ds = (k : List ℕ) → HasChange k cs → HasChange k ds

same_first : (c d : Changed) (cs ds : List Changed) → ChangesRise (c ∷ cs) → ChangesRise (d ∷ ds) → HasChange c.0 (d ∷ ds) → HasChange d.0 (c ∷ cs) → c.0 ≡ d.0
same_first c d cs ds r s (inl e) h = sym e
same_first c d cs ds r s (inr m) (inl e) = e
same_first c d cs ds r s (inr m) (inr n) =
    absurd (not_same c.0 c.0 (below_trans c.0 d.0 c.0 (following c.0 d.0 cs r.0 r.1 n) (following d.0 c.0 ds s.0 s.1 m)) refl)

past_first : (c d : Changed) (cs ds : List Changed) → ChangesRise (c ∷ cs) → c.0 ≡ d.0 → (k : List ℕ) → HasChange k cs → HasChange k (d ∷ ds) → HasChange k ds
past_first c d cs ds r is k m (inl e) = absurd (not_same c.0 k (following c.0 k cs r.0 r.1 m) (is ∙ e))
past_first c d cs ds r is k m (inr x) = x

one_way : (old new : List Entry) (cs ds : List Changed) → ChangesRise cs → AllByRecursion (IsChange old new) cs → ChangesRise ds → AllByRecursion (IsChange old new) ds
    → Covers cs ds → Covers ds cs → cs ≡ ds
one_way old new [] [] r h s g cv vc = refl
one_way old new [] (d ∷ ds) r h s g cv vc = absurd (vc d.0 (inl refl))
one_way old new (c ∷ cs) [] r h s g cv vc = absurd (cv c.0 (inl refl))
one_way old new (c ∷ cs) (d ∷ ds) r h s g cv vc =
    let is = same_first c d cs ds r s (cv c.0 (inl refl)) (vc d.0 (inl refl)) in
    let rest = one_way old new cs ds r.1 h.1 s.1 g.1 (λ k m. past_first c d cs ds r is k m (cv k (inr m))) (λ k m. past_first d c ds cs s (sym is) k m (vc k (inr m))) in
    ap (λ x. x ∷ cs) (same_change old new c d h.0 g.0 is) ∙ ap (λ xs. d ∷ xs) rest

differs : (old new : List Entry) (cs : List Changed) → AllByRecursion (IsChange old new) cs → (k : List ℕ) → HasChange k cs → lookup k old ≢ lookup k new
differs old new [] h k m e = absurd m
differs old new (c ∷ cs) h k (inl is) e =
    h.0.2 (h.0.0 ∙ ap (λ q. lookup q old) is ∙ e ∙ sym (ap (λ q. lookup q new) is) ∙ sym h.0.1)
differs old new (c ∷ cs) h k (inr m) e = differs old new cs h.1 k m e

pub told_once : (old new : List Entry) (cs ds : List Changed) → AreChanges old new cs → AreChanges old new ds → cs ≡ ds
told_once old new cs ds h g =
    one_way old new cs ds h.rise h.each g.rise g.each (λ k m. g.all k (differs old new cs h.each k m)) (λ k m. h.all k (differs old new ds g.each k m))
