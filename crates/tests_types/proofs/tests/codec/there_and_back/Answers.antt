use Rattle.std.proofs.Common.{◌⊎◌, inl, inr, ℕ, List, sym, subst, Option, None, Some, IfSome, IsSomeAnd}
use Rattle.ipld_tree.specs.Codecs.{AreRead}
use Rattle.tests_types.proofs.tests.codec.there_and_back.Goals as goal

-- bytes that are not read are the encoding of data that is not read
not_read : {D V Excuse : Type 0} (is_encoding : List ℕ → D → Type 0) (is_read : D → V → Type 0) (datum : Option D) (bytes : List ℕ) → IsSomeAnd datum (λ d. is_encoding bytes d)
    → Excuse ⊎ ((v : V) → AreRead is_encoding is_read bytes v → ⊥) → Excuse ⊎ IfSome datum (λ d. (b : List ℕ) (v : V) → is_encoding b d → is_read d v → ⊥)
not_read is_encoding is_read None bytes h r = absurd h
not_read is_encoding is_read (Some d) bytes h r = elim r [ inl e ↦ inl e | inr n ↦ inr (λ b v e s. n v (d, h, s)) ]

pub returns-in-Err-decode_from_slice : goal.returns-in-Err-decode_from_slice
returns-in-Err-decode_from_slice g c = not_read g.C.Codec.is_encoding g.C.Codec.is_read (g.C.Codec.data_of c.args.value.now) c.deref.result.now (subst (λ b. IsSomeAnd (g.C.Codec.data_of c.args.value.now) (λ d. g.C.Codec.is_encoding b d)) (sym c.deref.ensures.value) c.in-Ok.ensures.answers) c.in-Err-decode_from_slice.ensures.answers
