-- Frames, one after the other.
use Rattle.std.proofs.Common.{◌≡◌, ℕ, zero, suc, ◌+◌, ◌-◌, ◌<◌, ◌≤◌, List, [], ◌∷◌, ◌++◌, length, length-append, Bool, true, ◌&&◌, refl, sym, ap, ◌∙◌, subst, arith, append_assoc, append-nil}
use Rattle.std.proofs.Math.Bool.{and-true, and_assoc}
use Rattle.std.proofs.lemmas.List.{nil_from_length}
use Rattle.dagcbor_decode.proofs.Rows.{token_shorter}
use Rattle.dagcbor_items.specs.Skips.{EndByHeads}
use Rattle.dagcbor_items.proofs.Skipping.{ends_within}
use Rattle.atproto_events.specs.Frames.{SplitsFrame, HasNoEnd}
use Rattle.atproto_events.specs.declared.frame_error.FrameError.TheVariants.{NoEnd}
use Rattle.program_events.specs.Causes.{unread_line}
use Rattle.program_events.specs.Seen.{Seen, nothing_seen}
use Rattle.program_events.specs.Frames.{IsToldAt, IsFrameSaid}
use Rattle.program_events.specs.Streams.{Items, AreFrames, IsEndSaid, AreFramesSaid, AreEventsSaid}

-- ---- a frame takes bytes

item_shorter : (b r : List ℕ) → EndByHeads b 1 r → length r < length b
item_shorter b r (zero, e) = absurd (omega (arith, e.0))
item_shorter b r (suc k, x) =
    let e = ends_within x.2 r (x.1 + (1 - 1)) (k, x.4) in
    omega (arith, token_shorter b x.3.following x.2 x.3.major x.3.argument x.3.split x.3.left, ap length e.1, length-append e.0 r)

pub frame_shorter : (b header body rest : List ℕ) → SplitsFrame b header body rest → length rest < length b
frame_shorter b header body rest h = omega (arith, item_shorter b (body ++ rest) h.first, length-append body rest)

pub frame_length : (b header body rest : List ℕ) → SplitsFrame b header body rest → length b ≡ (length header + length body) + length rest
frame_length b header body rest h = omega (arith, ap length h.is, length-append header (body ++ rest), length-append body rest)

-- ---- the frames so far

-- After `read` frames these bytes are left, at this place. The output for them completes the output
-- for all.
pub record SoFar (b : List ℕ) (read place : ℕ) (seen : Seen) (rest : List ℕ) (well : Bool) (out told : List ℕ) : Type 0 where
  pub counted : read + length rest ≤ length b
  pub placed : place + length rest ≡ length b
  pub on : (fs : List Items) (left : List ℕ) (w : Bool) (o t : List ℕ) → AreFrames rest fs left → AreFramesSaid (read + 1) place seen fs left w o t → AreEventsSaid b (well && w) (out ++ o) (told ++ t)

-- in other words
same_said : (b : List ℕ) (w x : Bool) (o p t u : List ℕ) → w ≡ x → o ≡ p → t ≡ u → AreEventsSaid b w o t → AreEventsSaid b x p u
same_said b w x o p t u e f g h = subst (λ y. y) (λ i. AreEventsSaid b (e i) (f i) (g i)) h

pub none_read : (b : List ℕ) (seen : Seen) (out told : List ℕ) → seen ≡ nothing_seen → out ≡ [] → told ≡ [] → SoFar b 0 0 seen b true out told
none_read b seen out told e f g = record {
  counted = omega arith;
  placed = omega arith;
  on = λ fs left w o t a k.
      same_said b w w o (out ++ o) t (told ++ t) refl (ap (λ x. x ++ o) (sym f)) (ap (λ x. x ++ t) (sym g)) (fs, left, a, subst (λ z. AreFramesSaid 1 0 z fs left w o t) e k);
}

pub one_read : (b rest header body next : List ℕ) (read place : ℕ) (old new : Seen) (well first all : Bool) (out line lines told text texts : List ℕ)
    → SoFar b read place old rest well out told → SplitsFrame rest header body next → IsFrameSaid (read + 1) place old header body new first line text
    → all ≡ (well && first) → lines ≡ out ++ line → texts ≡ told ++ text → SoFar b (read + 1) (place + (length header + length body)) new next all lines texts
one_read b rest header body next read place old new well first all out line lines told text texts h split said e f g = record {
  counted = omega (arith, h.counted, frame_shorter rest header body next split);
  placed = omega (arith, h.placed, frame_length rest header body next split);
  on = λ fs left w o t a k.
      same_said b (well && (first && w)) (all && w) (out ++ (line ++ o)) (lines ++ o) (told ++ (text ++ t)) (texts ++ t)
      (sym (ap (λ x. x && w) e ∙ and_assoc well first w))
      (sym (ap (λ x. x ++ o) f ∙ append_assoc out line o))
      (sym (ap (λ x. x ++ t) g ∙ append_assoc told text t))
      (h.on ((header, body) ∷ fs) left (first && w) (line ++ o) (text ++ t) (next, split, a) (new, first, w, line, o, text, t, said, k, refl, refl, refl));
}

pub all_read : (b rest : List ℕ) (read place : ℕ) (seen : Seen) (well : Bool) (out told : List ℕ) → SoFar b read place seen rest well out told → length rest ≡ 0 → AreEventsSaid b well out told
all_read b rest read place seen well out told h none =
    same_said b (well && true) well (out ++ []) out (told ++ []) told (and-true well) (append-nil out) (append-nil told)
    (h.on [] [] true [] [] (nil_from_length rest none) (refl, refl, refl))

end_of : (read place : ℕ) (rest : List ℕ) (w : Bool) (o t : List ℕ) → 0 < length rest → HasNoEnd rest → IsToldAt read place (unread_line NoEnd) w o t → IsEndSaid read place rest w o t
end_of read place [] w o t some none told = absurd (omega (arith, some))
end_of read place (x ∷ rest) w o t some none told = (none, told)

pub end_read : (b rest : List ℕ) (read place : ℕ) (seen : Seen) (well w all : Bool) (out o lines told t texts : List ℕ)
    → SoFar b read place seen rest well out told → 0 < length rest → HasNoEnd rest → IsToldAt (read + 1) place (unread_line NoEnd) w o t
    → all ≡ (well && w) → lines ≡ out ++ o → texts ≡ told ++ t → AreEventsSaid b all lines texts
end_read b rest read place seen well w all out o lines told t texts h some none at e f g =
    same_said b (well && w) all (out ++ o) lines (told ++ t) texts (sym e) (sym f) (sym g)
    (h.on [] rest w o t refl (end_of (read + 1) place rest w o t some none at))
