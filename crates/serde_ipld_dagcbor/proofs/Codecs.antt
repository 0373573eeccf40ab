-- DAG-CBOR as a codec.
use Rattle.std.proofs.Common.{◌≡◌, ◌⊎◌, inl, inr, ℕ, List, sym, subst, Bool, Option, None, Some, IfSome}
use Rattle.std.specs.Prelude.{Err}
use Rattle.dagcbor_core.specs.declared.error.DecodeError.{DecodeError}
use Rattle.dagcbor_core.specs.declared.error.DecodeError.TheVariants.{Read, RequireBorrowed, OutOfMemory, TrailingData, Failed}
use Rattle.ipld_tree.specs.Codecs.{AreRead}
use Rattle.ipld_tree.specs.Tree.{Tree}
use Rattle.ipld_tree.specs.Spelling.{IsSpelling}
use Rattle.dagcbor_decode.specs.Blocks.{AreFirstLinks}
use Rattle.dagcbor_decode.specs.Decode.{decode_first}
use Rattle.dagcbor_decode.specs.Verdicts.{AnswersLinks}
use Rattle.dagcbor_decode.proofs.FirstLinks.{links_not_refused}
use Rattle.dagcbor_read.specs.Whole.{HoldsNoValue, IsReadExcuse, OfWhole, IsForAfter, LacksMemoryIf}
use Rattle.serde_ipld_dagcbor.specs.Codec.{IsReadAs, AreAlike, OfSlice}
use Rattle.dagcbor_items.specs.Shapes.{Shape}
use Rattle.dagcbor_core.specs.Steps.{default_steps}

module _ {V : Type 0} (shape : Shape Tree V) where
  unread : (left : Option (List ℕ)) → IfSome left (HoldsNoValue shape default_steps) → IfSome left (λ b. (v : V) → ¬ AreRead IsSpelling (IsReadAs shape) b v)
  unread None h = tt
  unread (Some b) h = λ v r. h v (r.0, r.1, r.2.0, r.2.1)

  -- what is refused without an excuse is read as no value
  pub not_decoded : {E : Type 0} (left : Option (List ℕ)) (e : DecodeError E) → IsReadExcuse e ⊎ IfSome left (HoldsNoValue shape default_steps)
      → IsReadExcuse e ⊎ IfSome left (λ b. (v : V) → ¬ AreRead IsSpelling (IsReadAs shape) b v)
  not_decoded left e r = elim r [ inl k ↦ inl k | inr k ↦ inr (unread left k) ]

  -- a slice is refused because memory ran out, or because it holds no value
  pub slice_not_decoded : {E F : Type 0} (b : List ℕ) (e : DecodeError E) (f : DecodeError F) → AreAlike e f → (e ≡ OutOfMemory) ⊎ HoldsNoValue shape default_steps b → OfWhole e
      → ((f ≡ OutOfMemory) ⊎ HoldsNoValue shape default_steps b) × OfSlice f
  slice_not_decoded b (Read x) f h r w = absurd h
  slice_not_decoded b OutOfMemory f h r w = (inl h, subst OfSlice (sym h) tt)
  slice_not_decoded b (RequireBorrowed name) f h r w = absurd w
  slice_not_decoded b Failed f h r w = absurd w
  slice_not_decoded b _ f h r w = (inr (elim r [ inl k ↦ absurd (cc k) | inr k ↦ k ]), subst OfSlice (sym h) tt)

  -- such a refusal is an excuse, or the slice is not read as a value
  pub slice_excused : {F : Type 0} (b : List ℕ) (f : DecodeError F) → (f ≡ OutOfMemory) ⊎ HoldsNoValue shape default_steps b → IsReadExcuse f ⊎ ((v : V) → ¬ AreRead IsSpelling (IsReadAs shape) b v)
  slice_excused b f r = elim r [ inl k ↦ inl (subst IsReadExcuse (sym k) tt) | inr k ↦ inr (unread (Some b) k) ]

  -- if a value is first and bytes come after it, a refusal of the same content is for these bytes
  pub alike_for_after : {E F : Type 0} (b : List ℕ) (e : DecodeError E) (f : DecodeError F) → AreAlike e f → IsForAfter shape default_steps b e → IsForAfter shape default_steps b f
  alike_for_after b (Read x) f h k = absurd h
  alike_for_after b OutOfMemory f h k = λ v rest first. inl (subst IsReadExcuse (sym h) tt)
  alike_for_after b TrailingData f h k = λ v rest first. inr h
  alike_for_after b _ f h k = λ v rest first. elim (k v rest first) [ inl i ↦ absurd i | inr i ↦ absurd (cc i) ]

-- a refusal of the same content is out of memory only if the first may be
pub alike_in_memory : {E F : Type 0} (may : Bool) (e : DecodeError E) (f : DecodeError F) → AreAlike e f → LacksMemoryIf may e → LacksMemoryIf may f
alike_in_memory may (Read x) f h k = absurd h
alike_in_memory may _ f h k = subst (LacksMemoryIf may) (sym h) k

-- bytes whose links are refused without an excuse begin with no item
pub links_excused : {E : Type 0} (b : List ℕ) (e : DecodeError E) → AnswersLinks (decode_first b) (Err e) → IsReadExcuse e ⊎ ((links : List (List ℕ)) → ¬ AreFirstLinks b links)
links_excused b (Read x) h = inl tt
links_excused b OutOfMemory h = inl tt
links_excused b e h = inr (λ links first. links_not_refused b e links h (λ k. absurd (cc k)) first)
