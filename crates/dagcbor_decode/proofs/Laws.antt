-- What the decoder says of blocks and of places.
use Rattle.std.proofs.Common.{◌≡◌, ◌⊎◌, inl, inr, ◌↔◌, ◌≢◌, ℕ, ◌<◌, List, Option, None, Result, Ok, Err, refl, [], ◌∷◌, ◌++◌, length, take, length-append, append-nil, arith, sym, ap, ◌∙◌, subst, append_assoc}
use Rattle.std.specs.Bool.{⊤}
use Rattle.std.proofs.Math.Seq.{take-append_seam}
use Rattle.std.proofs.lemmas.List.{take-append-le}
use Rattle.std.proofs.lemmas.Bool.{cases_lt}
use Rattle.ipld_tree.specs.Tree.{Tree}
use Rattle.dagcbor_decode.specs.Blocks.{IsBlock}
use Rattle.dagcbor_decode.specs.Decode.{Decoded, Why, got, refused, trailing_data, after, at_end, item_of, decode}
use Rattle.dagcbor_core.specs.declared.error.DecodeError.{DecodeError}
use Rattle.dagcbor_core.specs.declared.error.DecodeError.TheVariants.{OutOfMemory}
use Rattle.dagcbor_decode.specs.TreeKinds.{kind_of}
use Rattle.dagcbor_decode.specs.declared.kind.Kind.{Kind}
use Rattle.dagcbor_decode.specs.Told.{kind_told}
use Rattle.dagcbor_decode.specs.Verdicts.{answer, verdict, why_of, IsRefusedFor, IsRefusedAt}
use Rattle.dagcbor_decode.proofs.HeadLaws.{AreBytes}
use Rattle.dagcbor_decode.proofs.Sound.{block_got}
use Rattle.dagcbor_decode.proofs.Complete.{block_reads}
use Rattle.dagcbor_decode.proofs.Seen.{Seen, IsEndWhy, IsEnd, Decides, local_any}

-- Bytes decode to a tree if and only if they are a block of it.
pub decodes_blocks : (b : List ℕ) (t : Tree) → AreBytes b → (decode b ≡ got t []) ↔ IsBlock b t
decodes_blocks b t bytes = (λ e. let h = block_got b t [] bytes e in (h.0, h.1), λ h. block_reads b t h.0 h.1)

-- the result for a block is the kind of its tree
pub kind_judged : (b : List ℕ) (kind : Kind) → AreBytes b → Ok kind ≡ kind_told (decode b) → (t : Tree) × IsBlock b t × (kind ≡ kind_of t)
kind_judged b kind bytes e = by (decode b) refl e
  where
    by : (q : Decoded Tree) → decode b ≡ q → Ok kind ≡ kind_told q → (t : Tree) × IsBlock b t × (kind ≡ kind_of t)
    by (got t rest) is e = let h = block_got b t rest bytes is in (t, (h.0, h.1), cc e)
    by (refused why left) is e = absurd (cc e)

pub refused_no_block : {E : Type 0} (b : List ℕ) (e : DecodeError E) (t : Tree) → IsRefusedFor b e → IsBlock b t → ⊥
refused_no_block b e t h k = let read : answer (decode b) ≡ Ok (kind_of t) = ap answer (block_reads b t k.0 k.1) in cc (sym read ∙ h)

pub block_answered : (b : List ℕ) (t : Tree) → IsBlock b t → answer (decode b) ≡ Ok (kind_of t)
block_answered b t k = ap answer (block_reads b t k.0 k.1)

abbrev why_in : {P : Type 0} → (P → Option Why) → Result Kind P → Option Why
why_in why_from (Ok kind) = None
why_in why_from (Err p) = why_from p

some_why : (q : Decoded Tree) → answer q ≡ Err None → ⊥
some_why (got t rest) k = absurd (cc k)
some_why (refused why left) k = absurd (cc k)

-- the refusal is not out of memory
pub no_memory : {E : Type 0} (b : List ℕ) (e : DecodeError E) → IsRefusedFor b e → e ≢ OutOfMemory
no_memory b e h same = some_why (decode b) (h ∙ ap (λ x. Err (why_of x)) same)

same_refusal : {E : Type 0} (b : List ℕ) (e : DecodeError E) (place : ℕ) (q : Decoded Tree) → verdict b q ≡ Err (why_of e, place) → answer q ≡ Err (why_of e)
same_refusal b e place (got t rest) k = absurd (cc k)
same_refusal b e place (refused why left) k = ap Err (ap (why_in (λ p. p.0)) k)

-- with its place, it is refused for the same cause
pub refused_for : {E : Type 0} (b : List ℕ) (e : DecodeError E) (place : ℕ) → IsRefusedAt b e place → IsRefusedFor b e
refused_for b e place h = same_refusal b e place (decode b) h

-- the refusal, if there is one, is for missing bytes
abbrev pub IsSoFar : Decoded Tree → Type 0
IsSoFar (got t rest) = ⊤
IsSoFar (refused why left) = IsEndWhy why left

-- the bytes up to the place, whatever follows them, are refused for this cause at this place; fewer
-- of them are refused only for missing bytes
abbrev pub StandsThere : List ℕ → Why → ℕ → Type 0
StandsThere b why left = (s rest : List ℕ) × (b ≡ s ++ rest) × (length rest ≡ left)
    × ((x : List ℕ) → decode (s ++ x) ≡ refused why (length x))
    × ((j : ℕ) → j < length s → IsSoFar (decode (take j s)))

so_far : (q : Decoded Tree) → IsEnd q → IsSoFar (after q at_end)
so_far (got t rest) c = absurd c
so_far (refused w k) c = c

-- the bytes before the first surplus byte
before_last : (s : List ℕ) (x : ℕ) (t : Tree) → Decides (item_of 256) s (got t) → (j : ℕ) → j < length (s ++ x ∷ []) → IsSoFar (decode (take j (s ++ x ∷ [])))
before_last s x t d j l = elim (cases_lt j (length s)) [
  | inl few ↦ subst (λ z. IsSoFar (decode z)) (sym (take-append-le j s (x ∷ []) (omega (arith, few)))) (so_far (item_of 256 (take j s)) (d.less j few))
  | inr more ↦
      let all : take j (s ++ x ∷ []) ≡ s = ap (λ n. take n (s ++ x ∷ [])) {x = j} {y = length s} (omega (arith, more, l, length-append s (x ∷ []))) ∙ take-append_seam s (x ∷ []) in
      let read : item_of 256 s ≡ got t [] = ap (item_of 256) (sym (append-nil s)) ∙ d.same [] in
      subst (λ z. IsSoFar (decode z)) (sym all) (subst (λ q. IsSoFar (after q at_end)) (sym read) tt)
]

parted : (b : List ℕ) (why : Why) (left : ℕ) (q : Decoded Tree) → Seen (item_of 256) b q → after q at_end ≡ refused why left → IsEndWhy why left ⊎ StandsThere b why left
parted b why left (refused w k) (inl c) e =
    let a : w ≡ why = cc e in
    let d : k ≡ left = cc e in
    inl (subst (λ n. IsEndWhy why n) d (subst (λ v. IsEndWhy v k) a c))
parted b why left (refused w k) (inr h) e =
    let a : w ≡ why = cc e in
    let d : k ≡ left = cc e in
    inr (
      h.0,
      h.1,
      h.2,
      h.3 ∙ d,
      λ x. ap (λ q. after q at_end) (h.4.same x) ∙ ap (λ v. refused v (length x)) a,
      λ j l. so_far (item_of 256 (take j h.0)) (h.4.less j l),
    )
parted b why left (got t []) h e = absurd (cc e)
parted b why left (got t (x ∷ rest)) h e =
    let a : trailing_data ≡ why = cc e in
    let d : length rest ≡ left = cc e in
    inr (
      h.0 ++ x ∷ [],
      rest,
      h.1 ∙ sym (append_assoc h.0 (x ∷ []) rest),
      d,
      λ y. ap decode (append_assoc h.0 (x ∷ []) y) ∙ ap (λ q. after q at_end) (h.2.same (x ∷ y)) ∙ ap (λ v. refused v (length y)) a,
      before_last h.0 x t h.2,
    )

-- A refusal is for missing bytes, or its cause is at its place.
pub places : (b : List ℕ) (why : Why) (left : ℕ) → decode b ≡ refused why left → IsEndWhy why left ⊎ StandsThere b why left
places b why left e = parted b why left (item_of 256 b) (local_any 256 b) e
