-- Where the CARv1 payload is in a file of version 2.
use Rattle.std.specs.Prelude.{◌≡◌, ℕ, List, Option, MatchOption}
use Rattle.files_car.specs.Versions.{begin_of, length_of, HasSpan}
use Rattle.files_car.specs.declared.version.Span.{Span}

-- the payload is there; or the bytes are not such a file
abbrev pub IsSpanOf : List ℕ → Option Span → Type 0
IsSpanOf b found = MatchOption found (¬ HasSpan b)
    (λ s. HasSpan b × (s.begin ≡ begin_of b) × (s.length ≡ length_of b))
