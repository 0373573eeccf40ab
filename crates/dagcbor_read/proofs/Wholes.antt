-- Reading a whole input as a value.
use Rattle.std.proofs.Common.{◌≡◌, ℕ, ◌<◌, ◌≤◌, ◌++◌, Option, Bool, true, false, List, [], length, inl, inr, refl, sym, ap, subst, ◌∙◌, arith, append-nil, ◌⊎◌, None, Some, IfSome, IfOk, IfErr, IsErrAnd, Result, Ok, Err, MatchResult, is_err, is_some}
use Rattle.std.specs.declared.convert.Infallible.{Infallible}
use Rattle.dagcbor_heads.specs.Reading.{Reading, Stays}
use Rattle.dagcbor_heads.specs.Fronts.{ShowsByte}
use Rattle.dagcbor_heads.specs.Refusals.{Refuses}
use Rattle.dagcbor_core.specs.declared.error.DecodeError.{DecodeError}
use Rattle.dagcbor_core.specs.declared.error.DecodeError.TheVariants.{Read, RequireBorrowed, OutOfMemory, Failed, TrailingData, DepthOverflow}
use Rattle.ipld_tree.specs.Tree.{Tree}
use Rattle.ipld_tree.specs.Spelling.{spelling, IsFront}
use Rattle.ipld_tree.proofs.Fronts.{front_unique}
use Rattle.dagcbor_read.specs.Deserializers.{DeState, Ends, TellsEnd}
use Rattle.dagcbor_items.proofs.SliceReads.{whole_front}
use Rattle.dagcbor_read.proofs.Progressing.{match_false}
use Rattle.dagcbor_items.specs.TypedReads.{RefusesRead, HasFront, TakesFront, MayLack, Anything}
use Rattle.dagcbor_read.specs.Values.{ReadsValue}
use Rattle.dagcbor_read.specs.Whole.{IsWhole, HoldsNoValue, IsFirst, TakesFirst, BeginsWithNoValue, IsReadExcuse, OfWhole, IsForAfter, LacksMemoryIf}
use Rattle.dagcbor_items.specs.Shapes.{Shape}

-- what holds of a refusal that `?` passes on
pub on_refusal : {T E : Type 0} (Q : DecodeError E → Type 0) (r : Result T (DecodeError E)) (e : DecodeError E) → IsErrAnd r (λ y. y ≡ e) → Q e → IfErr r Q
on_refusal Q (Ok v) e h q = tt
on_refusal Q (Err y) e h q = subst Q (sym h) q

pub not_answered : {T E : Type 0} (P : T → Type 0) (r : Result T (DecodeError E)) (e : DecodeError E) → IsErrAnd r (λ y. y ≡ e) → IfOk r P
not_answered P (Ok v) e h = absurd h
not_answered P (Err y) e h = tt

-- a result that is tested, and returned as it is
pub the_refusal : {T E : Type 0} (r : Result T E) → true ≡ is_err r → (e : E) × (r ≡ Err e)
the_refusal (Ok v) is = cc
the_refusal (Err e) is = (e, refl)

pub the_answer : {T E : Type 0} (r : Result T E) → false ≡ is_err r → (v : T) × (r ≡ Ok v)
the_answer (Ok v) is = (v, refl)
the_answer (Err e) is = cc

pub is_the_refusal : {T E : Type 0} (r : Result T E) (e : E) → r ≡ Err e → IsErrAnd r (λ y. y ≡ e)
is_the_refusal (Ok v) e is = cc
is_the_refusal (Err y) e is = cc

pub on_the_answer : {T E : Type 0} (P : T → Type 0) (r : Result T E) (v : T) → r ≡ Ok v → P v → IfOk r P
on_the_answer {T} {E} P r v is p = let Q : Result T E → Type 0 = λ x. IfOk x P in subst Q (sym is) p

pub no_refusal : {T E : Type 0} (Q : E → Type 0) (r : Result T E) → false ≡ is_err r → IfErr r Q
no_refusal Q (Ok v) is = tt
no_refusal Q (Err e) is = cc

-- what follows of a refusal
follows : {T E : Type 0} (P Q : DecodeError E → Type 0) → ((e : DecodeError E) → P e → Q e) → (r : Result T (DecodeError E)) → IfErr r P → IfErr r Q
follows P Q f (Ok v) h = tt
follows P Q f (Err e) h = f e h

-- a slice has no source that might fault
pub slice_excused : {P : Type 0} (e : DecodeError Infallible) → IsReadExcuse e ⊎ P → (e ≡ OutOfMemory) ⊎ P
slice_excused (Read x) r = elim x [ ]
slice_excused OutOfMemory r = inl refl
slice_excused _ r = elim r [ inl k ↦ absurd k | inr k ↦ inr k ]

-- what holds of the bytes, if they are known
if_known : (left : Option (List ℕ)) (P : List ℕ → Type 0) → ((b : List ℕ) → left ≡ Some b → P b) → IfSome left P
if_known None P f = tt
if_known (Some b) P f = f b refl

module _ {V : Type 0} (shape : Shape Tree V) (steps : ℕ) where
  first_front : (r : Reading) (b : List ℕ) (v : V) (rest : List ℕ) → r.left ≡ Some b → r.steps ≡ steps → IsFirst shape steps b v rest → HasFront shape r
  first_front r b v rest l s h = record { bytes = b; tree = h.0; rest = rest; left = l; front = h.1; accepted = ap is_some h.2; within = omega (arith, h.3, s) }

  whole_of_front : (r : Reading) (b : List ℕ) (v : V) → r.left ≡ Some b → r.steps ≡ steps → IsWhole shape steps b v → HasFront shape r
  whole_of_front r b v l s h = first_front r b v [] l s (h.0, whole_front h.1, h.2, h.3)

  no_whole : (b rest : List ℕ) (t : Tree) → IsFront b t rest → 0 < length rest → (v : V) → ¬ IsWhole shape steps b v
  no_whole b rest t f some v h = omega (arith, some, ap length (front_unique b rest [] t h.0 f (whole_front h.1)).1)

  value_trailing : {old mid new : Reading} (b : List ℕ) (v : V) (byte : ℕ) → old.left ≡ Some b → TakesFront shape old v mid → ShowsByte mid byte new → (w : V) → IsWhole shape steps b w → ⊥
  value_trailing b v byte l a h =
      let k = a.taken b l in
      let s = h.starts k.1 k.5 in
      let some : 0 < length k.1 = omega (arith, ap length s.1) in
      no_whole b k.1 k.0 k.2 some

  value_whole : (b : List ℕ) (v : V) (rest : List ℕ) (t : Tree) → IsFront b t rest → shape.view t ≡ Some v → shape.need t ≤ steps → rest ≡ [] → IsWhole shape steps b v
  value_whole b v rest t f e n none = (t, record { well_formed = f.well_formed; spellable = f.spellable; is = f.is ∙ ap (λ x. spelling t ++ x) none ∙ append-nil (spelling t) }, e, n)

  -- a value was read, and then the end was found
  pub value_answered : (E : Type 0) (left : Option (List ℕ)) (start : Reading) (mid end : DeState) (v : V) → start.left ≡ left → start.steps ≡ steps
      → (mid.failed ≡ false) × TakesFront shape start v mid.input → Ends {E = E} mid (Ok tt) end → IfSome left (λ b. IsWhole shape steps b v)
  value_answered E left start mid end v at s h k = if_known left (λ b. IsWhole shape steps b v) (λ b l.
      let taken = h.1.taken b (at ∙ l) in
      let found = match_false mid.failed _ _ h.0 k in
      value_whole b v taken.1 taken.0 taken.2 taken.3 (omega (arith, taken.4, s)) (found.1.none_left taken.1 taken.5))

  -- why the first value is not read
  abbrev NotFirst : {E : Type 0} → Option (List ℕ) → DecodeError E → Type 0
  NotFirst left e = (IsReadExcuse e ⊎ IfSome left (BeginsWithNoValue shape steps)) × OfWhole e × LacksMemoryIf (shape.memory false) e

  first_refused : {E : Type 0} (left : Option (List ℕ)) (old new : Reading) (e : DecodeError E) → old.left ≡ left → old.steps ≡ steps → shape.wants_loan ≡ false → old.lends ≡ false
      → RefusesRead (HasFront shape old) shape old e new → NotFirst left e
  first_refused left old new (Read x) at s o n r = (inl tt, tt, tt)
  first_refused left old new OutOfMemory at s o n r = (inl tt, tt, ap shape.memory (sym n) ∙ r.1)
  first_refused left old new (RequireBorrowed name) at s o n r = let differ = sym o ∙ r.1 in cc
  first_refused left old new Failed at s o n r = absurd r
  first_refused left old new (DepthOverflow name) at s o n r = (inr (if_known left _ (λ b l v rest h. r.1 (first_front old b v rest (at ∙ l) s h))), tt, tt)
  first_refused left old new _ at s o n r = (inr (if_known left _ (λ b l v rest h. r.1 (first_front old b v rest (at ∙ l) s h))), tt, tt)

  -- A value that borrows nothing was read. After a success the source has left what the reader has
  -- left.
  module _ {T E : Type 0} (meaning : T → V) (left after : Option (List ℕ)) (start mid : DeState) (r : Result T (DecodeError E))
      (sound : start.failed ≡ false) (at : start.input.left ≡ left) (s : start.input.steps ≡ steps) (o : shape.wants_loan ≡ false) (n : start.input.lends ≡ false) (h : ReadsValue meaning shape start r mid)
    where
      first_read : (Stays start.input mid.input → (b : List ℕ) → mid.input.left ≡ Some b → after ≡ Some b) → IfOk r (λ v. IfSome left (λ b. TakesFirst shape steps b (meaning v) after))
      first_read f = by r (h sound)
        where
          by : (r : Result T (DecodeError E)) → MatchResult r (λ v. (mid.failed ≡ false) × TakesFront shape start.input (meaning v) mid.input) (λ e. RefusesRead (HasFront shape start.input) shape start.input e mid.input)
              → IfOk r (λ v. IfSome left (λ b. TakesFirst shape steps b (meaning v) after))
          by (Ok v) k = if_known left _ (λ b l.
              let taken = k.1.taken b (at ∙ l) in
              (taken.1, (taken.0, taken.2, taken.3, omega (arith, taken.4, s)), f k.1.same taken.1 taken.5))
          by (Err e) k = tt

      first_not_read : IfErr r (NotFirst left)
      first_not_read = by r (h sound)
        where
          by : (r : Result T (DecodeError E)) → MatchResult r (λ v. (mid.failed ≡ false) × TakesFront shape start.input (meaning v) mid.input) (λ e. RefusesRead (HasFront shape start.input) shape start.input e mid.input)
              → IfErr r (NotFirst left)
          by (Ok v) k = tt
          by (Err e) k = first_refused left start.input mid.input e at s o n k

      -- all that is said of the first value alone
      pub first_told : (Stays start.input mid.input → (b : List ℕ) → mid.input.left ≡ Some b → after ≡ Some b)
          → IfOk r (λ v. IfSome left (λ b. TakesFirst shape steps b (meaning v) after)) × IfErr r (λ e. IsReadExcuse e ⊎ IfSome left (BeginsWithNoValue shape steps)) × IfErr r OfWhole × IfErr r (LacksMemoryIf (shape.memory false))
      first_told f = (
        first_read f,
        follows (NotFirst left) (λ e. IsReadExcuse e ⊎ IfSome left (BeginsWithNoValue shape steps)) (λ e h. h.0) r first_not_read,
        follows (NotFirst left) OfWhole (λ e h. h.1) r first_not_read,
        follows (NotFirst left) (LacksMemoryIf (shape.memory false)) (λ e h. h.2) r first_not_read,
      )

  -- why a whole input is not read
  abbrev NotWhole : {E : Type 0} → Option (List ℕ) → Bool → DecodeError E → Type 0
  NotWhole left lends e = (IsReadExcuse e ⊎ IfSome left (HoldsNoValue shape steps)) × OfWhole e × IfSome left (λ b. IsForAfter shape steps b e) × LacksMemoryIf (shape.memory lends) e

  module _ {E : Type 0} (left : Option (List ℕ)) (lends : Bool) where
    value_told : {old mid : Reading} (new : Reading) (v : V) (e : DecodeError E) (failed : Bool) → old.left ≡ left → TakesFront shape old v mid → TellsEnd mid (Err e) new failed → NotWhole left lends e
    value_told new v TrailingData failed at a h = (inr (if_known left _ (λ b l. value_trailing b v h.1 (at ∙ l) a h.2)), tt, if_known left _ (λ b l w rest f. inr refl), tt)
    value_told new v (Read x) failed at a h = (inl tt, tt, if_known left _ (λ b l w rest f. inl tt), tt)
    value_told new v _ failed at a h = absurd h

    -- a value was read, and then no end was found
    pub value_end_refused : (start : Reading) (mid end : DeState) (v : V) (e : DecodeError E) → start.left ≡ left
        → (mid.failed ≡ false) × TakesFront shape start v mid.input → Ends mid (Err e) end → NotWhole left lends e
    value_end_refused start mid end v e at h k = value_told end.input v e end.failed at h.1 (match_false mid.failed _ _ h.0 k)

    -- if there is no front
    no_front : (old : Reading) (e : DecodeError E) → old.left ≡ left → old.steps ≡ steps → (HasFront shape old → ⊥) → IfSome left (HoldsNoValue shape steps) × IfSome left (λ b. IsForAfter shape steps b e)
    no_front old e at s n = (if_known left _ (λ b l v h. n (whole_of_front old b v (at ∙ l) s h)), if_known left _ (λ b l v rest h. absurd (n (first_front old b v rest (at ∙ l) s h))))

    -- no value was read, and not for lack of a loan
    pub value_refused : (borrows : Type 0) (e : DecodeError E) (old new : Reading) → old.left ≡ left → old.steps ≡ steps → old.lends ≡ lends → (borrows → old.lends ≡ false → ⊥)
        → Refuses (record { could = HasFront shape old; lacks = MayLack shape.memory old; borrows = borrows; stands = Anything }) old e new → NotWhole left lends e
    value_refused borrows (Read x) old new at s o n r = (inl tt, tt, if_known left _ (λ b l v rest h. inl tt), tt)
    value_refused borrows OutOfMemory old new at s o n r = (inl tt, tt, if_known left _ (λ b l v rest h. inl tt), ap shape.memory (sym o) ∙ r.1)
    value_refused borrows (RequireBorrowed name) old new at s o n r = absurd (n r.1 r.2)
    value_refused borrows Failed old new at s o n r = absurd r
    value_refused borrows (DepthOverflow name) old new at s o n r = let none = no_front old (DepthOverflow name) at s r.1 in (inr none.0, tt, none.1, tt)
    value_refused borrows e old new at s o n r = let none = no_front old e at s r.1 in (inr none.0, tt, none.1, tt)
