-- Streams of items end: each item takes bytes, or is the last.
use Rattle.std.proofs.Common.{◌≡◌, inl, inr, ℕ, ◌+◌, ◌<◌, Bool, true, false, List, length, refl, sym, subst, arith, Option, None, Some, ◌⊎◌, MatchBool}
use Rattle.std.specs.Iterator.{Count, MakesProgress, IsFinite, size}
use Rattle.dagcbor_items.specs.ItemsLeft.{items_left_of}

-- at most this many items are left, and fewer than before
abbrev IsFewer : ℕ → Bool → Option (List ℕ) → Type 0
IsFewer n done left = IsFinite (items_left_of done left) × (size (items_left_of done left) < n)

-- if the bytes are known, fewer are left
abbrev pub LeavesFewer : Option (List ℕ) → Option (List ℕ) → Type 0
LeavesFewer old new = (b : List ℕ) → old ≡ Some b → (rest : List ℕ) × (new ≡ Some rest) × (length rest < length b)

none_left : (n : ℕ) (done : Bool) (left : Option (List ℕ)) → done ≡ true → 0 < n → IsFewer n done left
none_left n done left d some = subst (λ x. IsFewer n x left) (sym d) (tt, some)

some_left : (n : ℕ) (done : Bool) (left : Option (List ℕ)) (rest : List ℕ) → left ≡ Some rest → length rest + 1 < n → IsFewer n done left
some_left n true left rest l few = none_left n true left refl (omega (arith, few))
some_left n false left rest l few = subst (λ x. IsFewer n false x) (sym l) (tt, few)

fewer : (done done' : Bool) (left left' : Option (List ℕ)) → done ≡ false → IsFinite (items_left_of done left) → (done' ≡ true) ⊎ LeavesFewer left left' → IsFewer (size (items_left_of done left)) done' left'
fewer true done' left left' d finite h = absurd (cc d)
fewer false done' None left' d finite h = absurd finite
fewer false done' (Some b) left' d finite (inl last) = none_left (length b + 1) done' left' last (omega arith)
fewer false done' (Some b) left' d finite (inr less) =
    let k = less b refl in
    some_left (length b + 1) done' left' k.0 k.1 (omega (arith, k.2))

-- a stream that gave something was not done
pub goes_on : (A P Q : Type 0) (done : Bool) (r : A) → MatchBool done ((Some r ≡ None) × Q) P → (done ≡ false) × P
goes_on A P Q true r h = let e = h.0 in absurd (cc e)
goes_on A P Q false r h = (refl, h)

-- What contracts see of a stream: whether it is done, and the bytes left, if they are known.
module _ {S : Type 0} (done : S → Bool) (left : S → Option (List ℕ)) where
  abbrev items : S → Count
  items s = items_left_of (done s) (left s)

  ended : (s : S) → done s ≡ true → IsFinite (items s)
  ended s d = subst (λ x. IsFinite (items_left_of x (left s))) (sym d) tt

  at_rest : (Q P : Type 0) (d : Bool) (s t : S) → IsFinite (items s) → MatchBool d (Q × (t ≡ s)) ((done t ≡ true) × P) → IsFinite (items t)
  at_rest Q P true s t finite h = subst (λ x. IsFinite (items x)) (sym h.1) finite
  at_rest Q P false s t finite h = ended t h.0

  module _ {A X : Type 0} (can : X → Type 0) (may : (x : X) → can x) (see : X → S) where
    -- a stream that is done gives nothing and stays as it was; else the end was met
    pub rests : (Q P : Type 0) (old new : X) → MatchBool (done (see old)) (Q × (see new ≡ see old)) ((done (see new) ≡ true) × P) → MakesProgress {A = A} can (λ x. items (see x)) old None new
    rests Q P old new h = record {
      on = λ finite. tt;
      keeps = tt;
      rests = λ finite. at_rest Q P (done (see old)) (see old) (see new) finite h;
    }

    -- an item is the last, or takes bytes
    pub steps : (old new : X) (r : A) → done (see old) ≡ false → (done (see new) ≡ true) ⊎ LeavesFewer (left (see old)) (left (see new)) → MakesProgress can (λ x. items (see x)) old (Some r) new
    steps old new r d h = record {
      on = λ finite. (let k = fewer (done (see old)) (done (see new)) (left (see old)) (left (see new)) d finite h in (may new, k.0, k.1));
      keeps = may new;
      rests = λ finite. tt;
    }
