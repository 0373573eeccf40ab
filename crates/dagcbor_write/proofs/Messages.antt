-- Why a row of fields is refused with a message.
use Rattle.std.proofs.Common.{Bool, ◌≡◌, ℕ, ◌^◌, ◌<◌, List, length, get_or, Option, None, Some, Result, Ok, Err, inl, inr, refl, sym, ap, ◌∙◌, subst, IfErr, IsErrAnd}
use Rattle.std.specs.Fmt.{◌++?◌}
use Rattle.dagcbor_core.specs.declared.error.EncodeError.{EncodeError}
use Rattle.dagcbor_core.specs.declared.error.EncodeError.TheVariants.{Msg, Write, OutOfMemory}
use Rattle.dagcbor_heads.specs.Written.{Written, WroteAll, Writes, Stops, WantsMemoryOnlyIf}
use Rattle.ipld_tree.specs.Tree.{Tree, text}
use Rattle.ipld_tree.specs.Spelling.{text_spelling}
use Rattle.ipld_tree.specs.Spelled.{spelled_head, spelled_tree}
use Rattle.ipld_tree.proofs.Spelled.{spelled_is}
use Rattle.dagcbor_write.specs.Answers.{OnMessage, LacksBefore, IsPartMessage, IsMessageOfAny}
use Rattle.dagcbor_write.specs.Bounded.{WritesItem}
use Rattle.dagcbor_write.specs.Gathering.{Refused}
use Rattle.dagcbor_write.specs.Lending.{bounded_lent}
use Rattle.dagcbor_write.specs.declared.collect.bounded.BoundedCollect.{BoundedCollect}
use Rattle.dagcbor_write.specs.Trees.{Pair, variant_head}
use Rattle.dagcbor_write.specs.Maps.{LacksValue, RefusesAnyValue, RefusesKeys, RefusesPairs}

-- a variant's name has a spelling
pub variant_spelled : (name : List ℕ) → length name < 2 ^ 64 → variant_head name ≡ None → ⊥
variant_spelled name h e =
    let differ : Some _ ≡ None = sym (ap (λ x. spelled_head 5 1 ++? x) ((spelled_is (text name) (text_spelling name)).1 (h, refl))) ∙ e in absurd (cc differ)

module _ {T E : Type 0} where
  -- the exit of a `?`
  pub exit_message : (P : List ℕ → Type 0) (r : Result T (EncodeError E)) (e : EncodeError E) → IsErrAnd r (λ d. d ≡ e) → OnMessage P e → IfErr r (OnMessage P)
  exit_message P (Ok x) e is h = absurd is
  exit_message P (Err d) e is h = let Q : EncodeError E → Type 0 = λ y. OnMessage P y in subst Q (sym is) h

  -- a part without a message adds no message to the whole
  pub none_as : (P : List ℕ → Type 0) (r : Result T (EncodeError E)) → IfErr r (OnMessage (λ _. ⊥)) → IfErr r (OnMessage P)
  none_as P (Err (Msg m)) h = absurd h
  none_as P _ h = tt

  -- if P of a message implies Q, then Q holds of it too
  pub message_tells : (P Q : List ℕ → Type 0) (r : Result T (EncodeError E)) → ((m : List ℕ) → P m → Q m) → IfErr r (OnMessage P) → IfErr r (OnMessage Q)
  message_tells P Q (Err (Msg m)) more h = more _ h
  message_tells P Q _ more h = tt

  -- the exit of a `?`, if what holds of the part's message implies more
  pub exit_tells : (P Q : List ℕ → Type 0) (r : Result T (EncodeError E)) (e : EncodeError E) → IsErrAnd r (λ d. d ≡ e) → ((m : List ℕ) → P m → Q m) → OnMessage P e → IfErr r (OnMessage Q)
  exit_tells P Q r e is more h = exit_message Q r e is (by e h)
    where
      by : (e : EncodeError E) → OnMessage P e → OnMessage Q e
      by (Msg m) h = more _ h
      by _ h = tt

  -- the first of two facts about a message
  pub first_told : (P Q : List ℕ → Type 0) (r : Result T (EncodeError E)) → IfErr r (OnMessage (λ m. P m × Q m)) → IfErr r (OnMessage P)
  first_told P Q r h = message_tells (λ m. P m × Q m) P r (λ m k. k.0) h

  -- if the second is that the writer is as it was, nothing was written
  pub left_unsent : {Writer : Type 0} (written : Writer → Written) (P : List ℕ → Type 0) (s t : Writer) (r : Result T (EncodeError E)) → IfErr r (OnMessage (λ m. P m × (t ≡ s))) → IfErr r (OnMessage (λ m. written t ≡ written s))
  left_unsent written P s t r h = message_tells (λ m. P m × (t ≡ s)) (λ m. written t ≡ written s) r (λ m k. ap written k.1) h

  -- the same, if nothing was written before
  pub still_unsent : (s mid t : Written) (r : Result T (EncodeError E)) → mid ≡ s → IfErr r (OnMessage (λ m. t ≡ mid)) → IfErr r (OnMessage (λ m. t ≡ s))
  still_unsent s mid t r same h = message_tells (λ m. t ≡ mid) (λ m. t ≡ s) r (λ m k. k ∙ same) h

  -- a part that is refused with a message has no spelling
  pub part_told : {A : Type 0} (tree : A → Option Tree) (message : A → List ℕ → Type 0) (x : A) (s t : Written) (r : Result T (EncodeError E)) → Writes (spelled_tree (tree x)) s t r → IfErr r (OnMessage (message x)) → IfErr r (OnMessage (IsPartMessage tree message x))
  part_told tree message x s t (Err (Msg m)) w h = (w.0, h)
  part_told tree message x s t _ w h = tt

  -- the exit of a `?` at an item
  pub exit_item : {A W : Type 0} {written : W → Written} {may : Bool} {old new : BoundedCollect W} (tree : A → Option Tree) (message : A → List ℕ → Type 0) (xs : List A) (i : ℕ) (x : A) → i < length xs → x ≡ get_or xs i x → (r : Result T (EncodeError E)) (e : EncodeError E) → IsErrAnd r (λ d. d ≡ e)
      → WritesItem written may (tree x) (message x) old new (Err e) → IfErr r (OnMessage (IsMessageOfAny tree message xs))
  exit_item {A} {W} {written} {may} {old} {new} tree message xs i x inside at r e is w = exit_message (IsMessageOfAny tree message xs) r e is (by e w.item w.told)
    where
      by : (e : EncodeError E) → Stops (spelled_tree (tree x)) (written (bounded_lent old).now) (written (bounded_lent new).now) e → OnMessage (message x) e → OnMessage (IsMessageOfAny tree message xs) e
      by (Msg m) w h = (i, x, inside, sym at, (w.0, h))
      by _ w h = tt

-- ---- a row of fields, if the writer is as it was

module _ {T E : Type 0} (ps : List Pair) (r : Result T (EncodeError E)) where
  -- the exit of a `?` at the fields
  pub fields_message : {Writer : Type 0} {s t : Writer} (e : EncodeError E) → Refused (RefusesAnyValue ps) e → IsErrAnd r (λ d. d ≡ e) → s ≡ t → IfErr r (OnMessage (λ m. RefusesPairs ps m × (s ≡ t)))
  fields_message {Writer} {s} {t} e h is same = exit_message (λ m. RefusesPairs ps m × (s ≡ t)) r e is (by e h)
    where
      by : (e : EncodeError E) → Refused (RefusesAnyValue ps) e → OnMessage (λ m. RefusesPairs ps m × (s ≡ t)) e
      by (Msg m) h = (inl h, same)
      by _ h = tt

  -- after fields that were all taken, a message is that of the keys
  pub keys_message : {Writer : Type 0} {s t u v : Writer} → (LacksValue ps → ⊥) → IfErr r (OnMessage (λ m. RefusesKeys ps m × (u ≡ v))) → s ≡ u → v ≡ t → IfErr r (OnMessage (λ m. RefusesPairs ps m × (s ≡ t)))
  keys_message {Writer} {s} {t} {u} {v} all h earlier later = message_tells (λ m. RefusesKeys ps m × (u ≡ v)) (λ m. RefusesPairs ps m × (s ≡ t)) r (λ m k. (inr (k.0, all), earlier ∙ k.1 ∙ later)) h

  -- the exit of a `?` at a head that is written before the fields, and has a spelling
  pub exit_head : (head : Option (List ℕ)) (start t : Written) (e : EncodeError E) → (head ≡ None → ⊥) → Stops head start t e → IsErrAnd r (λ d. d ≡ e) → IfErr r (OnMessage (λ m. RefusesPairs ps m × WroteAll head start t))
  exit_head head start t e has h is = exit_message (λ m. RefusesPairs ps m × WroteAll head start t) r e is (by e h)
    where
      by : (e : EncodeError E) → Stops head start t e → OnMessage (λ m. RefusesPairs ps m × WroteAll head start t) e
      by (Msg m) h = absurd (has h.0)
      by _ h = tt

  -- after a head that was written before the fields
  pub after_head : {Writer : Type 0} (head : Option (List ℕ)) (written : Writer → Written) (start : Written) (s t : Writer) → WroteAll head start (written t) → IfErr r (OnMessage (λ m. RefusesPairs ps m × (s ≡ t))) → IfErr r (OnMessage (λ m. RefusesPairs ps m × WroteAll head start (written s)))
  after_head {Writer} head written start s t w h =
      let P : Writer → Type 0 = λ x. WroteAll head start (written x) in
      message_tells (λ m. RefusesPairs ps m × (s ≡ t)) (λ m. RefusesPairs ps m × WroteAll head start (written s)) r (λ m k. (k.0, subst P (sym k.1) w)) h

-- a call that may not take memory is not refused as out of memory
pub lacks_of_wants : {T E : Type 0} (may : Bool) (untouched : Type 0) (r : Result T (EncodeError E)) → WantsMemoryOnlyIf may r → LacksBefore may untouched r
lacks_of_wants may untouched (Ok x) h = tt
lacks_of_wants may untouched (Err (Msg m)) h = tt
lacks_of_wants may untouched (Err (Write e)) h = tt
lacks_of_wants may untouched (Err OutOfMemory) h = inl h
