-- What comes of runs of `next`, against the stream of the type on the bytes.
use Rattle.std.proofs.Common.{◌≡◌, ◌⊎◌, inl, inr, ℕ, ◌+◌, ◌<◌, ◌≤◌, Bool, true, false, List, [], ◌∷◌, length, map, refl, sym, ap, subst, ◌∙◌, arith, Option, None, Some, Result, Ok, Err, is_some, is_err, MatchBool}
use Rattle.std.specs.Prelude.{⊤}
use Rattle.std.specs.Iterator.{Yields, DrainsIf}
use Rattle.dagcbor_heads.specs.Reading.{Reading}
use Rattle.dagcbor_heads.specs.Refusals.{Refuses}
use Rattle.dagcbor_core.specs.declared.error.DecodeError.{DecodeError}
use Rattle.dagcbor_core.specs.declared.error.DecodeError.TheVariants.{Read, RequireBorrowed, OutOfMemory, Failed, DepthOverflow}
use Rattle.ipld_tree.specs.Tree.{Tree}
use Rattle.dagcbor_read.specs.Deserializers.{DeState, Call}
use Rattle.dagcbor_items.specs.TypedReads.{HasFront, MayLack}
use Rattle.dagcbor_read.specs.Streams.{StreamState, SomeLeft, AreSome, ReadsNext, as_answer, is_last, AreNextValues, values_before, AreStreamItems, GivesUp, GivesUpAt, NoneGivesUp, EndsAtError, stream_item, AreUpTo, IsOver, Gives, StreamsAreExact}
use Rattle.dagcbor_read.specs.Whole.{IsFirst, BeginsWithNoValue}
use Rattle.dagcbor_read.proofs.Progressing.{match_true, match_false, call_answered, call_told}
use Rattle.dagcbor_items.proofs.Fronts.{shorter}
use Rattle.dagcbor_items.proofs.Progress.{goes_on}
use Rattle.dagcbor_read.proofs.Streaming.{same_value, no_value_of_none, some_of_none}
use Rattle.dagcbor_items.specs.Shapes.{Shape}

-- ---- what came, against the bytes

-- bytes are left, and there is no value at their front
abbrev NoValue : {V : Type 0} → Shape Tree V → ℕ → List ℕ → Type 0
NoValue shape steps b = (0 < length b) × BeginsWithNoValue shape steps b

-- it gave up, and but for a fault bytes were left
abbrev GaveUp : {V : Type 0} (E : Type 0) → Shape Tree V → Bool → List ℕ → DecodeError E → Type 0
GaveUp E shape lends b (Read x) = ⊤
GaveUp E shape lends b e = GivesUp shape lends e × (0 < length b)

gave_up : {V E : Type 0} (shape : Shape Tree V) (lends : Bool) (b : List ℕ) (e : DecodeError E) → GaveUp E shape lends b e → GivesUp shape lends e
gave_up shape lends b (Read x) g = tt
gave_up shape lends b _ g = g.0

gave_up_at : {V E : Type 0} (shape : Shape Tree V) (lends : Bool) (steps : ℕ) (b : List ℕ) (items : List (Option V)) (e : DecodeError E) → AreStreamItems shape steps b items → GaveUp E shape lends b e → GivesUpAt shape lends items e
gave_up_at shape lends steps b items (Read x) k g = tt
gave_up_at shape lends steps b items _ k g = (g.0, λ none. some_of_none shape steps b (subst (λ x. AreStreamItems shape steps b x) none k) g.1)

module _ {T V : Type 0} (E : Type 0) (meaning : T → V) (shape : Shape Tree V) (lends : Bool) (steps : ℕ) (whole : Bool) where
  -- the values come one after another; then no byte is left, or no value, or one at which the read
  -- gave up
  abbrev Came : List ℕ → List (Result T (DecodeError E)) → Type 0
  Came b [] = whole ≡ true → b ≡ []
  Came b (Ok v ∷ xs) = (rest : List ℕ) × IsFirst shape steps b (meaning v) rest × Came rest xs
  Came b (Err e ∷ xs) = (xs ≡ []) × (GaveUp E shape lends b e ⊎ NoValue shape steps b)

  few : (b : List ℕ) (xs : List (Result T (DecodeError E))) → Came b xs → length xs ≤ length b + 1
  few b [] h = omega arith
  few b (Ok v ∷ xs) h = omega (arith, few h.0 xs h.2, shorter b h.0 h.1.0 h.1.1)
  few b (Err e ∷ xs) h = omega (arith, ap length h.0)

  in_a_row : (b : List ℕ) (xs : List (Result T (DecodeError E))) → Came b xs → (rest : List ℕ) × AreNextValues shape steps b (values_before meaning xs) rest
  in_a_row b [] h = (b, refl)
  in_a_row b (Ok v ∷ xs) h = let more = in_a_row h.0 xs h.2 in (more.0, (h.0, h.1, more.1))
  in_a_row b (Err e ∷ xs) h = (b, refl)

  alike : (b : List ℕ) (xs : List (Result T (DecodeError E))) (items : List (Option V)) → Came b xs → AreStreamItems shape steps b items → AreUpTo meaning shape lends whole xs items
  alike b [] [] h k = λ w. refl
  alike b [] (Some v ∷ items) h k = λ w. absurd (no_value_of_none shape steps b k.0 v (h w) k.1)
  alike b [] (None ∷ items) h k = λ w. absurd (some_of_none shape steps b (h w) k.1)
  alike b (Ok v ∷ xs) [] h k = absurd (no_value_of_none shape steps b h.0 (meaning v) k h.1)
  alike b (Ok v ∷ xs) (Some w ∷ items) h k =
      let same = same_value shape steps b (meaning v) w h.0 k.0 h.1 k.1 in
      (items, ap (λ x. x ∷ items) (sym same.0), alike h.0 xs items h.2 (subst (λ x. AreStreamItems shape steps x items) (sym same.1) k.2))
  alike b (Ok v ∷ xs) (None ∷ items) h k = absurd (k.2 (meaning v) h.0 h.1)
  alike b (Err e ∷ xs) items h k = (h.0, elim h.1 [ inl g ↦ inl (gave_up_at shape lends steps b items e k g) | inr n ↦ inr (alone items k n) ])
    where
      alone : (items : List (Option V)) → AreStreamItems shape steps b items → NoValue shape steps b → items ≡ None ∷ []
      alone [] k n = absurd (some_of_none shape steps b k n.0)
      alone (Some w ∷ items) k n = absurd (n.1 w k.0 k.1)
      alone (None ∷ items) k n = ap (λ x. None ∷ x) k.0

  all_of_it : (b : List ℕ) (xs : List (Result T (DecodeError E))) → whole ≡ true → NoneGivesUp shape lends xs → Came b xs → AreStreamItems shape steps b (map (stream_item meaning) xs)
  all_of_it b [] w n h = h w
  all_of_it b (Ok v ∷ xs) w n h = (h.0, h.1, all_of_it h.0 xs w n h.2)
  all_of_it b (Err e ∷ xs) w n h = elim h.1 [
    | inl g ↦ absurd (n.0 (gave_up shape lends b e g))
    | inr k ↦ (ap (map (stream_item meaning)) h.0, k.0, k.1)
  ]

-- ---- what came, against the calls

-- a stream over known bytes, with this many steps
record Over (b : List ℕ) (steps : ℕ) (lends : Bool) (s : StreamState) : Type 0 where
  is_over : IsOver b s
  steps_left : s.source.input.steps ≡ steps
  lending : s.source.input.lends ≡ lends

module _ {S T V : Type 0} (E : Type 0) (see : S → StreamState) (meaning : T → V) (shape : Shape Tree V) (lies : Bool → T → Type 0) where
  abbrev Step : S → Option (Result T (DecodeError E)) → S → Type 0
  Step = Gives E see meaning shape lies

  abbrev Reads : DeState → Result (Option T) (DecodeError E) → DeState → Type 0
  Reads = Call (ReadsNext {E = E} meaning shape)

  -- a call on what is not done
  told : (s u : S) (item : Option (Result T (DecodeError E))) → (see s).done ≡ false → Step s item u → ((see u).done ≡ is_last item) × Reads (see s).source (as_answer item) (see u).source
  told s u item sound h = match_false (see s).done _ _ sound h.0

  nothing_more : (s t : S) (xs : List (Result T (DecodeError E))) → (see s).done ≡ true → Yields Step s xs t → xs ≡ []
  nothing_more s t [] d h = refl
  nothing_more s t (x ∷ xs) d h = let k = match_true (see s).done _ _ d h.1.0 in let e = k.0 in absurd (cc e)

  ends : (s t : S) (xs : List (Result T (DecodeError E))) → Yields Step s xs t → EndsAtError xs
  ends s t [] h = tt
  ends s t (Ok v ∷ xs) h = ends h.0 t xs h.2
  ends s t (Err e ∷ xs) h = let k = goes_on (Result T (DecodeError E)) _ _ (see s).done (Err e) h.1.0 in nothing_more h.0 t xs k.1.0 h.2

  -- why there was no value
  no_value : (b : List ℕ) (old new : Reading) (e : DecodeError E) → old.left ≡ Some b → Refuses (record { could = HasFront shape old; lacks = MayLack shape.memory old × SomeLeft old; borrows = (shape.wants_loan ≡ true) × SomeLeft old; stands = AreSome }) old e new
      → GaveUp E shape old.lends b e ⊎ NoValue shape old.steps b
  no_value b old new (Read x) l r = inl tt
  no_value b old new OutOfMemory l r = inl (r.1.0, r.1.1 b l)
  no_value b old new (RequireBorrowed n) l r = inl ((r.1.0, r.2), r.1.1 b l)
  no_value b old new Failed l r = absurd r
  no_value b old new (DepthOverflow n) l r = inr (r.2 b l, λ v rest h. r.1 record { bytes = b; tree = h.0; rest = rest; left = l; front = h.1; accepted = ap is_some h.2; within = h.3 })
  no_value b old new _ l r = inr (r.2 b l, λ v rest h. r.1 record { bytes = b; tree = h.0; rest = rest; left = l; front = h.1; accepted = ap is_some h.2; within = h.3 })

  came : (b : List ℕ) (steps : ℕ) (lends whole : Bool) (s t : S) (xs : List (Result T (DecodeError E))) → Over b steps lends (see s) → Yields Step s xs t → (whole ≡ true → (u : S) × Step t None u)
      → Came E meaning shape lends steps whole b xs
  came b steps lends whole s t [] o h n = λ w.
      let last = n w in
      let k = told s last.0 None o.is_over.goes_on (subst (λ x. Step x None last.0) (sym h) last.1) in
      let a = call_answered (ReadsNext {E = E} meaning shape) (see s).source (see last.0).source None k.1 in
      a.2.none_left b o.is_over.left
  came b steps lends whole s t (Ok v ∷ xs) o h n =
      let k = told s h.0 (Some (Ok v)) o.is_over.goes_on h.1 in
      let a = call_answered (ReadsNext {E = E} meaning shape) (see s).source (see h.0).source (Some v) k.1 in
      let taken = a.2.taken b o.is_over.left in
      let over : Over taken.1 steps lends (see h.0) = record {
        is_over = record { goes_on = k.0; sound = a.1; left = taken.5 };
        steps_left = a.2.same.steps ∙ o.steps_left;
        lending = a.2.same.lends ∙ o.lending;
      } in
      (taken.1, (taken.0, taken.2, taken.3, omega (arith, taken.4, o.steps_left)), came taken.1 steps lends whole h.0 t xs over h.2 n)
  came b steps lends whole s t (Err e ∷ xs) o h n =
      let k = told s h.0 (Some (Err e)) o.is_over.goes_on h.1 in
      let r = call_told (ReadsNext {E = E} meaning shape) (see s).source (see h.0).source (Err e) o.is_over.sound k.1 in
      let why = no_value b (see s).source.input (see h.0).source.input e o.is_over.left r.1 in
      (nothing_more h.0 t xs k.0 h.2, subst (λ x. GaveUp E shape x b e ⊎ NoValue shape steps b) o.lending (subst (λ x. GaveUp E shape (see s).source.input.lends b e ⊎ NoValue shape x b) o.steps_left why))

  -- what had failed gives `Failed`
  failed_item : (failed : Bool) (x : Result T (DecodeError E)) (P Q : Type 0) → failed ≡ true → MatchBool failed ((as_answer (Some x) ≡ Err Failed) × P) Q → x ≡ Err Failed
  failed_item false x P Q f h = absurd (cc f)
  failed_item true (Ok v) P Q f h = let e = h.0 in absurd (cc e)
  failed_item true (Err e) P Q f h = let same : e ≡ Failed = cc h.0 in ap Err same

  failed_end : (failed : Bool) (P Q : Type 0) → failed ≡ true → MatchBool failed ((◌≡◌ {A = Result (Option T) (DecodeError E)} (Ok None) (Err Failed)) × P) Q → ⊥
  failed_end false P Q f h = absurd (cc f)
  failed_end true P Q f h = let e = h.0 in absurd (cc e)

  after_failure : (s t : S) (xs : List (Result T (DecodeError E))) → (see s).done ≡ false → (see s).source.failed ≡ true → Yields Step s xs t → (u : S) × Step t None u → xs ≡ Err Failed ∷ []
  after_failure s t [] d f h n =
      let k = told s n.0 None d (subst (λ x. Step x None n.0) (sym h) n.1) in
      absurd (failed_end (see s).source.failed _ _ f k.1)
  after_failure s t (x ∷ xs) d f h n =
      let k = told s h.0 (Some x) d h.1 in
      let first = failed_item (see s).source.failed x _ _ f k.1 in
      let none = nothing_more h.0 t xs (k.0 ∙ ap is_err first) h.2 in
      ap (λ y. y ∷ xs) first ∙ ap (λ y. Err Failed ∷ y) none

  from : (s : S) (whole : Bool) (xs : List (Result T (DecodeError E))) → DrainsIf Step (whole ≡ true) s xs → (b : List ℕ) → IsOver b (see s)
      → Came E meaning shape (see s).source.input.lends (see s).source.input.steps whole b xs
  from s whole xs h b o = came b (see s).source.input.steps (see s).source.input.lends whole s h.0 xs record { is_over = o; steps_left = refl; lending = refl } h.1 h.2

  pub exact : StreamsAreExact E see meaning shape lies
  exact s whole xs h =
      let lends = (see s).source.input.lends in
      let steps = (see s).source.input.steps in
      record {
        one_error = ends s h.0 xs h.1;
        bounded = λ b o. few E meaning shape lends steps whole b xs (from s whole xs h b o);
        values = λ b o. in_a_row E meaning shape lends steps whole b xs (from s whole xs h b o);
        same = λ b o items k. alike E meaning shape lends steps whole b xs items (from s whole xs h b o) k;
        exact = λ b o w n. all_of_it E meaning shape lends steps whole b xs w n (from s whole xs h b o);
        failed = λ d f w. after_failure s h.0 xs d f h.1 (h.2 w);
      }
