-- Streams: what comes of runs of `next`.
use Rattle.std.proofs.Common.{◌≡◌, inl, inr, ℕ, ◌<◌, Bool, true, List, [], ◌∷◌, length, refl, sym, ap, subst, ◌∙◌, arith, Option, None, Some, Result, Ok, Err, is_err, ◌⊎◌}
use Rattle.std.specs.Iterator.{MakesProgress}
use Rattle.dagcbor_core.specs.declared.error.DecodeError.{DecodeError}
use Rattle.ipld_tree.specs.Tree.{Tree}
use Rattle.ipld_tree.specs.Spelling.{IsFront}
use Rattle.ipld_tree.proofs.Fronts.{front_nonempty, front_unique}
use Rattle.dagcbor_items.proofs.Fronts.{shorter}
use Rattle.dagcbor_items.proofs.Progress.{LeavesFewer, goes_on, rests, steps}
use Rattle.dagcbor_read.specs.Deserializers.{DeState, Call}
use Rattle.dagcbor_read.specs.Streams.{StreamState, ReadsNext, as_answer, GivesNext, items_left, AreStreamItems}
use Rattle.dagcbor_read.specs.Whole.{IsFirst}
use Rattle.dagcbor_read.proofs.Progressing.{call_answered}
use Rattle.dagcbor_items.specs.Shapes.{Shape}

-- ---- a stream ends

module _ (E : Type 0) {T V : Type 0} (meaning : T → V) (shape : Shape Tree V) where
  abbrev Reads : DeState → Result (Option T) (DecodeError E) → DeState → Type 0
  Reads = Call (ReadsNext {E = E} meaning shape)

  abbrev Gives : StreamState → Option (Result T (DecodeError E)) → StreamState → Type 0
  Gives = GivesNext {E = E} meaning shape

  -- an error is the last, and a value leaves fewer bytes, and known bytes stay known
  after_item : (old new : DeState) (done : Bool) (r : Result T (DecodeError E)) → (done ≡ is_err r) × Reads old (as_answer (Some r)) new → (done ≡ true) ⊎ LeavesFewer old.input.left new.input.left
  after_item old new done (Err e) h = inl h.0
  after_item old new done (Ok v) h = inr (λ b l.
      let a = call_answered (ReadsNext {E = E} meaning shape) old new (Some v) h.1 in
      let taken = a.2.taken b l in
      (taken.1, taken.5, shorter b taken.1 taken.0 taken.2))

  pub progressing : {S : Type 0} (can : S → Type 0) → ((s : S) → can s) → (see : S → StreamState) (old new : S) (item : Option (Result T (DecodeError E))) → Gives (see old) item (see new) → MakesProgress can (λ s. items_left (see s)) old item new
  progressing can may see old new None h = rests (λ s. s.done) (λ s. s.source.input.left) can may see _ _ old new h
  progressing can may see old new (Some r) h =
      let k = goes_on (Result T (DecodeError E)) _ _ (see old).done r h in
      steps (λ s. s.done) (λ s. s.source.input.left) can may see old new r k.0 (after_item (see old).source (see new).source (see new).done r k.1)

-- ---- the stream of a type on bytes

module _ {V : Type 0} (shape : Shape Tree V) (steps : ℕ) where
  -- two fronts of the same bytes show the same value and leave the same rest
  pub same_value : (b : List ℕ) (v w : V) (rest others : List ℕ) → IsFirst shape steps b v rest → IsFirst shape steps b w others → (Some v ≡ Some w) × (rest ≡ others)
  same_value b v w rest others h k =
      let same = front_unique b rest others h.0 k.0 h.1 k.1 in
      (sym h.2 ∙ ap shape.view same.0 ∙ k.2, same.1)

  pub no_value_of_none : (b rest : List ℕ) (v : V) → b ≡ [] → IsFirst shape steps b v rest → ⊥
  no_value_of_none b rest v e h = front_nonempty rest h.0 (subst (λ x. IsFront x h.0 rest) e h.1)

  pub some_of_none : (b : List ℕ) → b ≡ [] → 0 < length b → ⊥
  some_of_none b e some = omega (arith, ap length e, some)

  pub unique : (b : List ℕ) (items others : List (Option V)) → AreStreamItems shape steps b items → AreStreamItems shape steps b others → items ≡ others
  unique b [] [] h k = refl
  unique b [] (Some w ∷ others) h k = absurd (no_value_of_none b k.0 w h k.1)
  unique b [] (None ∷ others) h k = absurd (some_of_none b h k.1)
  unique b (Some v ∷ items) [] h k = absurd (no_value_of_none b h.0 v k h.1)
  unique b (Some v ∷ items) (None ∷ others) h k = absurd (k.2 v h.0 h.1)
  unique b (Some v ∷ items) (Some w ∷ others) h k =
      let same = same_value b v w h.0 k.0 h.1 k.1 in
      let more = unique h.0 items others h.2 (subst (λ x. AreStreamItems shape steps x others) (sym same.1) k.2) in
      ap (λ x. x ∷ items) same.0 ∙ ap (λ x. Some w ∷ x) more
  unique b (None ∷ items) [] h k = absurd (some_of_none b k h.1)
  unique b (None ∷ items) (Some w ∷ others) h k = absurd (h.2 w k.0 k.1)
  unique b (None ∷ items) (None ∷ others) h k = ap (λ x. None ∷ x) (h.0 ∙ sym k.0)
