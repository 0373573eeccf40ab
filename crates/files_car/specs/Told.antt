-- Verdicts on the sections of a CAR file.
use Rattle.std.specs.Prelude.{List, map}
use Rattle.std.specs.List.{AllByRecursion}
use Rattle.ipld_links.specs.Verdicts.{IsVerdict}
use Rattle.files_car.specs.Car.{Section}
use Rattle.ipld_links.specs.declared.verdict.Verdict.{Verdict}

-- a section, and the verdict on its block
abbrev pub Told : Type 0
Told = Section × Verdict

-- the sections of these verdicts
abbrev pub sections_of : List Told → List Section
sections_of told = map (λ p. p.0) told

-- each verdict is that on its section
abbrev pub AreTold : List Told → Type 0
AreTold told = AllByRecursion (λ p. IsVerdict p.0 p.1) told
