-- What the program says of IPFS files and directories in a CAR file.
use Rattle.std.specs.Prelude.{◌≡◌, ◌⊎◌, ℕ, List, [], Bool, false, Option, Result, ⊤}
use Rattle.ipld_tree.specs.Cid.{CidParts}
use Rattle.files_car.specs.Car.{Section}
use Rattle.files_car.specs.Versions.{IsFile}
use Rattle.ipld_links.specs.Reaching.{Stored}
use Rattle.program_parts.specs.Lines.{SaysBoth}
use Rattle.program_parts.specs.FileNames.{SaysFile}
use Rattle.program_parts.specs.Entries.{IsListing}
use Rattle.program_parts.specs.Holding.{Stores, TellsFault}
use Rattle.program_parts.specs.declared.holding.Kept.TheVariants as which
use Rattle.program_shared.specs.declared.fault.ToolError.{ToolError}

-- the bytes are not a CAR file: the output is empty, and an error line says why
abbrev pub IsNoFileOfBlocks : List ℕ → Bool → List ℕ → List ℕ → Type 0
IsNoFileOfBlocks b well out told = (well ≡ false) × (out ≡ []) × TellsFault (λ sections. ⊤) b told

-- what `ls` says of a CAR file: the entries under the path from the root, over its sections
abbrev pub IsListingOfFile : CidParts → List (List ℕ) → List ℕ → Bool → List ℕ → List ℕ → Type 0
IsListingOfFile root path b well out told = ((roots : List (List ℕ)) × (sections : List Section)
    × IsFile b roots sections × ((stored : Stored) × Stores which.All sections stored
    × IsListing stored root path well out told))
    ⊎ IsNoFileOfBlocks b well out told

-- what `cat` writes for a CAR file: the IPFS file to which the path leads from the root, over the
-- sections
abbrev pub SaysFileOf : CidParts → List (List ℕ) → List ℕ → Option (List ℕ) → Option (List ℕ)
    → Result Bool ToolError → Option (List ℕ) → Option (List ℕ) → Type 0
SaysFileOf root path b old heard result new after = ((roots : List (List ℕ)) × (sections : List Section)
    × IsFile b roots sections × ((stored : Stored) × Stores which.All sections stored
    × SaysFile stored root path old heard result new after))
    ⊎ SaysBoth (IsNoFileOfBlocks b) old heard result new after
