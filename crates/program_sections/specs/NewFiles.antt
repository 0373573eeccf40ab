-- New files, each with a name and its bytes.
use Rattle.std.specs.Prelude.{◌≡◌, ℕ, List, ◌++◌, Option, Some}

-- the name of a file, and its bytes
abbrev pub Named : Type 0
Named = List ℕ × List ℕ

-- these files were finished after the others, if it is known which are
abbrev pub AddsFiles : Option (List Named) → Option (List Named) → List Named → Type 0
AddsFiles old new files = (before : List Named) → old ≡ Some before → new ≡ Some (before ++ files)
