-- What holds after calls that succeeded, or were refused, on a Deserializer that had not failed.
use Rattle.std.proofs.Common.{◌≡◌, ℕ, List, ◌++◌, length, append_assoc, ◌∙◌, Global, ◌<◌, ◌-◌, true, false, refl, subst, Option, None, Some, IfSome, Ok, Err}
use Rattle.std.specs.Cow.{cow_str_bytes}
use Rattle.std.specs.declared.borrow.CowStr.{CowStr}
use Rattle.dagcbor_core.specs.Head.{head}
use Rattle.dagcbor_heads.specs.Reading.{Reading}
use Rattle.dagcbor_heads.specs.Refusals.{RefusesOrLacksMemoryUnlent}
use Rattle.dagcbor_core.specs.declared.error.DecodeError.{DecodeError}
use Rattle.ipld_tree.specs.Tree.{Tree, text}
use Rattle.dagcbor_items.specs.Untyped.{TakesItem}
use Rattle.dagcbor_items.specs.Places.{Follows}
use Rattle.dagcbor_items.specs.ReadCauses.{KeyCause}
use Rattle.dagcbor_items.specs.Entries.{HasKey}
use Rattle.dagcbor_read.specs.Deserializers.{DeState, Call}
use Rattle.dagcbor_items.specs.TypedReads.{RefusesRead, HasFront, TakesFront}
use Rattle.dagcbor_read.proofs.Progressing.{call_answered, call_told}
use Rattle.dagcbor_read.specs.Accessors.{AccessorState, ReadsElement, after_element, ReadsNextKey, KeepsKey, after_key}
use Rattle.dagcbor_items.specs.Majors.{BeginsSomeString}
use Rattle.dagcbor_items.specs.Shapes.{Shape, leaf, view_text}
use Rattle.dagcbor_items.proofs.StringItems.{text_taken}

-- ---- the next item of a list

module _ (E : Type 0) {T V : Type 0} (meaning : T → V) (shape : Shape Tree V) where
  pub record ElementRead (left : ℕ) (old : DeState) (v : T) (new : DeState) : Type 0 where
    pub sound : new.failed ≡ false
    pub some : 0 < left
    pub takes : TakesFront shape old.input (meaning v) new.input

  pub element_read : (left : ℕ) (old new : DeState) (o : Option T) (v : T) → o ≡ Some v → Call (ReadsElement {E = E} meaning shape left) old (Ok o) new → ElementRead left old v new
  element_read left old new o v e h =
      let k = call_answered (ReadsElement meaning shape left) old new (Some v) (subst (λ x. Call (ReadsElement {E = E} meaning shape left) old (Ok x) new) e h) in
      record { sound = k.1; some = k.2.0; takes = k.2.1 }

  pub no_element : (left : ℕ) (old new : DeState) (o : Option T) → o ≡ None → Call (ReadsElement {E = E} meaning shape left) old (Ok o) new → (new.failed ≡ false) × (left ≡ 0) × (new.input ≡ old.input)
  no_element left old new o e h =
      let k = call_answered (ReadsElement meaning shape left) old new None (subst (λ x. Call (ReadsElement {E = E} meaning shape left) old (Ok x) new) e h) in
      (k.1, k.2.0, k.2.1)

  pub element_refused : (left : ℕ) (old new : DeState) (e : DecodeError E) → old.failed ≡ false → Call (ReadsElement {T = T} meaning shape left) old (Err e) new
      → (0 < left) × RefusesRead (HasFront shape old.input) shape old.input e new.input
  element_refused left old new e f h = (call_told (ReadsElement meaning shape left) old new (Err e) f h).1

  pub after_some : (o : Option T) (v : T) (c d : AccessorState) → o ≡ Some v → d ≡ after_element {E = E} (Ok o) c → d ≡ record c { left = c.left - 1 }
  after_some o v c d e h = subst (λ x. d ≡ after_element {E = E} (Ok x) c) e h

  pub after_none : (o : Option T) (c d : AccessorState) → o ≡ None → d ≡ after_element {E = E} (Ok o) c → d ≡ c
  after_none o c d e h = subst (λ x. d ≡ after_element {E = E} (Ok x) c) e h

-- ---- the next key of a map

pub record KeyRead (last : Option (List ℕ)) (left : ℕ) (old : DeState) (key : List ℕ) (new : DeState) : Type 0 where
  pub sound : new.failed ≡ false
  pub some : 0 < left
  pub follows : Follows last key
  pub takes : TakesItem 1 old.input (text key) new.input

pub key_read : (E : Type 0) (last : Option (List ℕ)) (left : ℕ) (old new : DeState) (o : Option (CowStr Global)) (k : CowStr Global) → o ≡ Some k → Call (ReadsNextKey {E = E} last left) old (Ok o) new → KeyRead last left old (cow_str_bytes k) new
key_read E last left old new o k e h =
    let r = call_answered (ReadsNextKey last left) old new (Some k) (subst (λ x. Call (ReadsNextKey {E = E} last left) old (Ok x) new) e h) in
    record { sound = r.1; some = r.2.0; follows = r.2.1; takes = text_taken _ r.2.2 }

pub no_key : (E : Type 0) (last : Option (List ℕ)) (left : ℕ) (old new : DeState) (o : Option (CowStr Global)) → o ≡ None → Call (ReadsNextKey {E = E} last left) old (Ok o) new → (new.failed ≡ false) × (left ≡ 0) × (new.input ≡ old.input)
no_key E last left old new o e h =
    let r = call_answered (ReadsNextKey last left) old new None (subst (λ x. Call (ReadsNextKey {E = E} last left) old (Ok x) new) e h) in
    (r.1, r.2.0, r.2.1)

pub key_refused : (E : Type 0) (last : Option (List ℕ)) (left : ℕ) (old new : DeState) (e : DecodeError E) → old.failed ≡ false → Call (ReadsNextKey last left) old (Err e) new
    → (0 < left) × RefusesOrLacksMemoryUnlent (HasKey last old.input) (KeyCause last) old.input e new.input
key_refused E last left old new e f h = (call_told (ReadsNextKey last left) old new (Err e) f h).1

pub after_some_key : (E : Type 0) (o : Option (CowStr Global)) (k : CowStr Global) (c d : AccessorState) → o ≡ Some k → d ≡ after_key {E = E} (Ok o) c → d ≡ record c { left = c.left - 1; last = Some (cow_str_bytes k); owes_value = true }
after_some_key E o k c d e h = subst (λ x. d ≡ after_key {E = E} (Ok x) c) e h

pub after_no_key : (E : Type 0) (o : Option (CowStr Global)) (c d : AccessorState) → o ≡ None → d ≡ after_key {E = E} (Ok o) c → d ≡ c
after_no_key E o c d e h = subst (λ x. d ≡ after_key {E = E} (Ok x) c) e h

-- memory may run out for a copy of a text that has bytes
pub copy_lacks : {old new : Reading} {k : List ℕ} → TakesFront (leaf view_text) old k new → 0 < length k → (b : List ℕ) → old.left ≡ Some b → BeginsSomeString 3 b
copy_lacks {old} {new} {k} h some b l =
    let q = (text_taken k h).taken b l in
    (length k, k ++ q.0, some, q.1.spellable, q.1.is ∙ append_assoc (head 3 (length k)) k q.0)

-- a key that was read and kept
pub kept_read : (E : Type 0) (last kept : Option (List ℕ)) (left : ℕ) (old new : DeState) (u : Unit {0}) → 0 < left → Call (KeepsKey {E = E} last kept) old (Ok u) new → (k : List ℕ) × (kept ≡ Some k) × KeyRead last left old k new
kept_read E last (Some k) left old new u some h =
    let r = call_answered (KeepsKey {E = E} last (Some k)) old new u h in
    (k, refl, record { sound = r.1; some = some; follows = r.2.0; takes = text_taken _ r.2.1 })
kept_read E last None left old new u some h = absurd (call_answered (KeepsKey {E = E} last None) old new u h).2

pub kept_refused : (E : Type 0) (last kept : Option (List ℕ)) (old new : DeState) (e : DecodeError E) → old.failed ≡ false → Call (KeepsKey last kept) old (Err e) new
    → RefusesOrLacksMemoryUnlent (HasKey last old.input) (KeyCause last) old.input e new.input
kept_refused E last (Some k) old new e f h = (call_told (KeepsKey last (Some k)) old new (Err e) f h).1
kept_refused E last None old new e f h = (call_told (KeepsKey last None) old new (Err e) f h).1

pub at_some : {o : Option (List ℕ)} {k : List ℕ} (P : List ℕ → Type 0) → o ≡ Some k → IfSome o P → P k
at_some {o} {k} P e h = subst (λ x. IfSome x P) e h
