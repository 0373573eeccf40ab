-- What a value's own encoding is read back as, for any codec.
use Rattle.std.specs.Prelude.{◌⊎◌, ℕ, List, Option, IfSome, IsSomeAnd, Result, MatchResult, Vec}
use Rattle.std.specs.declared.alloc.Global.{Global}

-- The bytes are an encoding of the value's data, and this data is read as the value that came back.
-- A value that is refused without an excuse has no encoding, or its data is not read.
abbrev pub IsThereAndBack : {T D V E : Type 0} → (List ℕ → D → Type 0) → (D → V → Type 0) → (T → V)
    → (E → Type 0) → Option D → Result (Vec ℕ Global × T) E → Type 0
IsThereAndBack {V = V} is_encoding is_read held is_excuse datum result = MatchResult result
    (λ p. IsSomeAnd datum (λ d. is_encoding p.0.items d × is_read d (held p.1)))
    (λ e. is_excuse e ⊎ IfSome datum (λ d. (b : List ℕ) (v : V) → is_encoding b d → ¬ is_read d v))
