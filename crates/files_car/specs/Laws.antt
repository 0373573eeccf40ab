-- Laws of all CAR files.
use Rattle.std.specs.Prelude.{◌≡◌, ℕ, List}
use Rattle.files_car.specs.Car.{Section, IsCar}
use Rattle.files_car.specs.Versions.{IsFile}

-- The same bytes are never the files of two different lists of roots or sections.
abbrev pub CarsAreUnique : Type 0
CarsAreUnique = (b : List ℕ) (roots others : List (List ℕ)) (sections more : List Section)
    → IsCar b roots sections → IsCar b others more → (roots ≡ others) × (sections ≡ more)

-- The same bytes, of either version, are never files of two lists of roots or of sections.
abbrev pub FilesAreUnique : Type 0
FilesAreUnique = (b : List ℕ) (roots others : List (List ℕ)) (sections more : List Section)
    → IsFile b roots sections → IsFile b others more → (roots ≡ others) × (sections ≡ more)

-- A file of version 1 is a CAR file.
abbrev pub CarsAreFiles : Type 0
CarsAreFiles = (b : List ℕ) (roots : List (List ℕ)) (sections : List Section)
    → IsCar b roots sections → IsFile b roots sections
