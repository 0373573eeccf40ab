-- How a file is written, piece by piece.
use Rattle.std.specs.Prelude.{◌≡◌, ◌⊎◌, List, ℕ, [], ◌++◌, Bool, Option, Result, MatchResult}
use Rattle.std.specs.Io.KnownBytes.{Appends}
use Rattle.program_shared.specs.declared.fault.ToolError.{ToolError}
use Rattle.program_shared.specs.declared.fault.ToolError.TheVariants.{Output}

-- The output of a run that broke off. Either the output for the first sections, whole or, if the
-- device failed, a prefix of it, and no error line; or the whole output, and a prefix of the error
-- lines, because the error output failed.
abbrev pub BreaksSent : (List ℕ → Type 0) → (Bool → List ℕ → List ℕ → Type 0) → Option (List ℕ)
    → Option (List ℕ) → ToolError → Option (List ℕ) → Option (List ℕ) → Type 0
BreaksSent IsFirst IsSaid old heard e new after =
    ((front back : List ℕ) × IsFirst (front ++ back) × ((back ≡ []) ⊎ (e ≡ Output))
    × Appends old new front × Appends heard after [])
    ⊎ ((well : Bool) × (said told others : List ℕ) × IsSaid well said (told ++ others)
    × (e ≡ Output) × Appends old new said × Appends heard after told)

-- The output and the error lines were written, and the answer is whether all is well; or the run
-- broke off.
abbrev pub SaysSent : (List ℕ → Type 0) → (Bool → List ℕ → List ℕ → Type 0) → Option (List ℕ)
    → Option (List ℕ) → Result Bool ToolError → Option (List ℕ) → Option (List ℕ) → Type 0
SaysSent IsFirst IsSaid old heard result new after = MatchResult result
    (λ well. (said told : List ℕ) × IsSaid well said told × Appends old new said
    × Appends heard after told)
    (λ e. BreaksSent IsFirst IsSaid old heard e new after)
