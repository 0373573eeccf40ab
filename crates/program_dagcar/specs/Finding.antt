-- What is found in a CAR file: one block, or those that links lead to.
use Rattle.std.specs.Prelude.{◌≡◌, ◌⊎◌, ◌↔◌, ℕ, List, [], ◌∷◌, ◌++◌, Bool, true, false, IsTrue, Option, ⊤, Result, Ok, Err, flat_map}
use Rattle.ipld_tree.specs.Cid.{CidParts, cid_bytes}
use Rattle.files_car.specs.Car.{Section, car_bytes}
use Rattle.files_car.specs.Versions.{IsFile}
use Rattle.ipld_links.specs.Verdicts.{IsVerified}
use Rattle.files_car.specs.Checks.{IsFileFront, IsHeldInFile}
use Rattle.ipld_links.specs.Reaching.{Stored, IsLost, ReachesKnown, IsHiddenFrom}
use Rattle.ipld_links.specs.declared.verdict.Verdict.{Verdict}
use Rattle.files_car.specs.Reached.{sections_at}
use Rattle.program_parts.specs.Lines.{verdict_line, missing_line, SaysText}
use Rattle.program_shared.specs.declared.fault.ToolError.{ToolError}
use Rattle.program_parts.specs.Holding.{Stores, TellsFault}
use Rattle.program_parts.specs.declared.holding.Kept.TheVariants as which
use Rattle.program_dagcar.specs.declared.get.Search.{Search}
use Rattle.program_dagcar.specs.declared.get.Stop.{Stop}
use Rattle.program_dagcar.specs.declared.get.Stop.TheVariants as stops

-- ---- one block

-- what `get` writes: the block of the first section that has this CID and matches it, from a file
-- that is valid up to there; or nothing, and an error line: the file has no such block, or is
-- refused before one comes
abbrev pub IsGot : CidParts → List ℕ → Bool → List ℕ → List ℕ → Type 0
IsGot name b well out told = ((roots : List (List ℕ)) × (sections : List Section) × (n : ℕ)
    × (rest : List ℕ) × IsFileFront b roots (sections ++ (name, out) ∷ []) n rest
    × ¬ IsHeldInFile name sections × IsVerified (name, out) × (well ≡ true) × (told ≡ []))
    ⊎ ((well ≡ false) × (out ≡ []) × (((roots : List (List ℕ)) × (sections : List Section)
    × IsFile b roots sections × ¬ IsHeldInFile name sections × (told ≡ missing_line name))
    ⊎ TellsFault (λ sections. ¬ IsHeldInFile name sections) b told))

-- a section that is not the block looked for is passed over; if it is the block, it is kept, unless
-- memory runs out
abbrev pub Seeks : Section → Search → Result (Unit {0}) Stop → Search → Type 0
Seeks s old (Ok u) new = (new ≡ old) × ¬ ((s.0 ≡ old.name) × IsVerified s)
Seeks s old (Err stops.Enough) new = (s.0 ≡ old.name) × IsVerified s × (new.block.items ≡ s.1)
Seeks s old (Err stops.OutOfMemory) new = ⊤

-- ---- the blocks that links lead to

-- the CAR file of the root and the stored blocks of these names; empty if the root is missing
abbrev pub IsTreeFile : Stored → CidParts → List CidParts → List ℕ → Type 0
IsTreeFile stored root names out = (IsLost stored root × (out ≡ []))
    ⊎ ((¬ IsLost stored root) × (out ≡ car_bytes (cid_bytes root ∷ []) (sections_at stored names)))

-- what `tree` writes if the links of each block on the way are known: the CAR file of the blocks
-- that links lead to from the root, and an error line for each missing name
pub record IsTreeFound (stored : Stored) (root : CidParts) (well : Bool) (out told : List ℕ) : Type 0 where
  pub found : List CidParts
  pub lost : List CidParts
  pub reaches : ReachesKnown stored root found lost
  pub tree : IsTreeFile stored root found out
  pub lines : told ≡ flat_map missing_line lost
  pub wellness : IsTrue well ↔ (lost ≡ [])

-- what `tree` writes for stored blocks: `IsTreeFound`; or nothing, and the line of a block on the
-- way whose links are unknown
abbrev pub IsTreeOf : Stored → CidParts → Bool → List ℕ → List ℕ → Type 0
IsTreeOf stored root well out told = IsTreeFound stored root well out told
    ⊎ ((well ≡ false) × (out ≡ []) × ((p : CidParts × Verdict) × IsHiddenFrom stored root p
    × (told ≡ verdict_line ((p.0, []), p.1))))

-- what `tree` writes for a CAR file: the tree over those sections whose bytes match their CIDs; or
-- nothing, and a line that says why the bytes are not a CAR file
abbrev pub IsTreeOfFile : CidParts → List ℕ → Bool → List ℕ → List ℕ → Type 0
IsTreeOfFile root b well out told = ((roots : List (List ℕ)) × (sections : List Section)
    × IsFile b roots sections × ((stored : Stored) × Stores which.Verified sections stored
    × IsTreeOf stored root well out told))
    ⊎ ((well ≡ false) × (out ≡ []) × TellsFault (λ sections. ⊤) b told)

-- ---- its steps

-- the file of the root and these names was written, or not all of it
abbrev pub SendsTree : Stored → CidParts → List CidParts → Option (List ℕ)
    → Result (Unit {0}) ToolError → Option (List ℕ) → Type 0
SendsTree stored root names old result new = (out : List ℕ) × IsTreeFile stored root names out
    × SaysText out old result new
