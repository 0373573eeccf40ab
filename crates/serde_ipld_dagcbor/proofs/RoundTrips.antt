-- Reading and writing undo each other.
use Rattle.std.proofs.Common.{◌≡◌, ◌⊎◌, inl, inr, ℕ, List, refl, sym, ap, subst, ◌∙◌, Ok, Err, Option, Some}
use Rattle.std.specs.declared.convert.Infallible.{Infallible}
use Rattle.dagcbor_core.specs.declared.error.DecodeError.{DecodeError}
use Rattle.dagcbor_core.specs.declared.error.DecodeError.TheVariants.{Read, RequireBorrowed, OutOfMemory, Failed}
use Rattle.dagcbor_core.specs.declared.error.EncodeError.TheVariants as unwritten
use Rattle.ipld_tree.specs.Tree.{Tree}
use Rattle.ipld_tree.specs.Ipld.{tree_of}
use Rattle.dagcbor_write.specs.Answers.{AreSpellingOf, HasNoSpelling}
use Rattle.dagcbor_read.specs.Whole.{IsWhole, HoldsNoValue, OfWhole}
use Rattle.serde_ipld_dagcbor.specs.Codec.{spellings_are_unique}
use Rattle.serde_ipld_dagcbor.specs.RoundTrips.{TypedReadThenWritten, ReadThenWritten, IsReadBack, TypedWrittenThenRead, WrittenThenRead, IsWrittenBack}
use Rattle.dagcbor_items.specs.Shapes.{Shape, any_tree}
use Rattle.dagcbor_core.specs.declared.error.EncodeError.{EncodeError}

some_same : {A : Type 0} (a b : A) → Some a ≡ Some b → a ≡ b
some_same a b e = cc e

module _ {T V : Type 0} (held : T → V) (shape : Shape Tree V) (tree : T → Option Tree) where
  pub typed_read_then_written : TypedReadThenWritten held shape tree
  typed_read_then_written steps b value (Ok v) own h w = let a = subst (λ o. AreSpellingOf o v.items) (own h.0 h.1 h.2) w in a.is ∙ sym h.1.is
  typed_read_then_written steps b value (Err e) own h w = by e w
    where
      by : (e : EncodeError Infallible) → (e ≡ unwritten.OutOfMemory) ⊎ HasNoSpelling (tree value) → IsWrittenBack b (Err e)
      by unwritten.OutOfMemory w = tt
      by (unwritten.Msg m) w = elim w [ inl k ↦ absurd (cc k) | inr k ↦ subst HasNoSpelling (own h.0 h.1 h.2) k h.1.spellable ]
      by (unwritten.Write x) w = elim x [ ]

  no_refusal : (steps : ℕ) (x : V) (b : List ℕ) (e : DecodeError Infallible) → IsWhole shape steps b x → ((e ≡ OutOfMemory) ⊎ HoldsNoValue shape steps b) × OfWhole e → IsReadBack held x (Err e)
  no_refusal steps x b (Read e) h r = elim e [ ]
  no_refusal steps x b OutOfMemory h r = tt
  no_refusal steps x b (RequireBorrowed name) h r = r.1
  no_refusal steps x b Failed h r = r.1
  no_refusal steps x b _ h r = elim r.0 [ inl k ↦ absurd (cc k) | inr k ↦ k x h ]

  pub typed_written_then_read : TypedWrittenThenRead held shape tree
  typed_written_then_read steps value t x v (Ok copy) is shows within w r =
      let same = spellings_are_unique v.items r.0 t r.1 (subst (λ o. AreSpellingOf o v.items) is w) in
      some_same _ _ (sym r.2 ∙ ap shape.view same ∙ shows)
  typed_written_then_read steps value t x v (Err e) is shows within w r = no_refusal steps x v.items e (t, subst (λ o. AreSpellingOf o v.items) is w, shows, within) r

pub read_then_written : ReadThenWritten
read_then_written steps b value written h w = typed_read_then_written tree_of any_tree (λ v. Some (tree_of v)) steps b value written (λ t s e. sym e) h w

pub written_then_read : WrittenThenRead
written_then_read steps value v read w within r = typed_written_then_read tree_of any_tree (λ v. Some (tree_of v)) steps value (tree_of value) (tree_of value) v read refl refl within w r
