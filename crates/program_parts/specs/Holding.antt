-- The blocks of a CAR file, held in memory, and why bytes are not a CAR file.
use Rattle.std.specs.Prelude.{◌≡◌, ◌⊎◌, ℕ, List, [], ◌∷◌, ◌++◌, true, Option, None, Some, is_some, ⊤, Result, MatchResult, OnOk, Vec}
use Rattle.std.specs.declared.alloc.Global.{Global}
use Rattle.std.specs.declared.alloc.AllocError.{AllocError}
use Rattle.std.specs.declared.convert.Infallible.{Infallible}
use Rattle.ipld_tree.specs.Cid.{CidParts}
use Rattle.dagcbor_items.specs.Walks.{forms}
use Rattle.files_car.specs.Car.{Section}
use Rattle.files_car.specs.Each.{SinkTakes}
use Rattle.ipld_links.specs.Verdicts.{IsVerified}
use Rattle.files_car.specs.Sources.{RefusesStart, RefusesSection}
use Rattle.files_car.specs.Versions.{IsFile}
use Rattle.ipld_links.specs.Sets.{Among}
use Rattle.files_car.specs.Checks.{IsFileFront, IsNoFile}
use Rattle.ipld_links.specs.Reaching.{Stored, stored_in, IsThere}
use Rattle.files_car.specs.declared.error.CarError.{CarError}
use Rattle.program_parts.specs.Lines.{refused_line}
use Rattle.program_parts.specs.declared.holding.Kept.{Kept}
use Rattle.program_parts.specs.declared.holding.Kept.TheVariants as which
use Rattle.program_parts.specs.declared.holding.Holding.{Holding}
use Rattle.program_parts.specs.declared.holding.Held.{Held}

-- ---- bytes that are not a CAR file

-- the bytes are not a CAR file for this cause: the header is refused; or what follows the first
-- sections is not a whole section, and these sections satisfy this
abbrev pub IsFileFault : (List Section → Type 0) → CarError Infallible → List ℕ → Type 0
IsFileFault IsSo e b = IsNoFile b × (RefusesStart e b
    ⊎ ((roots : List (List ℕ)) × (sections : List Section) × (n : ℕ) × (rest : List ℕ)
    × IsFileFront b roots sections n rest × IsSo sections × RefusesSection n e rest))

-- the same for some cause, and a line says which
abbrev pub TellsFault : (List Section → Type 0) → List ℕ → List ℕ → Type 0
TellsFault IsSo b told = (e : CarError Infallible) × IsFileFault IsSo e b × (told ≡ refused_line e)

-- ---- the blocks held

-- which sections are kept: all, or those whose bytes match their CID by SHA-256
abbrev pub IsKeptSection : Kept → Section → Type 0
IsKeptSection which.All s = ⊤
IsKeptSection which.Verified s = (s.0.hash_code ≡ 0x12) × IsVerified s

-- each CID of a kept section has the bytes of such a section: bytes that match it, if a section has
-- them. No other CID has any.
pub record Stores (kept : Kept) (sections : List Section) (stored : Stored) : Type 0 where
  pub some : (q : CidParts) (b : List ℕ) → stored q ≡ Some b
      → Among (q, b) sections × IsKeptSection kept (q, b)
  pub all : (s : Section) → Among s sections → IsKeptSection kept s → IsThere stored s.0
  pub named : (s : Section) → Among s sections → IsVerified s → (b : List ℕ) → stored s.0 ≡ Some b
      → IsVerified (s.0, b)

-- the roots of a file, and the sections kept; or the bytes are not a CAR file, and a line says why
abbrev pub HoldsFile : Kept → List ℕ → Result Held (Vec ℕ Global) → Type 0
HoldsFile kept b held = MatchResult held
    (λ h. (sections : List Section) × IsFile b (forms h.roots.items) sections
    × Stores kept sections (stored_in h.blocks))
    (λ line. TellsFault (λ sections. ⊤) b line.items)

-- ---- its steps

-- no section with the same CID is better than this one
abbrev pub IsBest : Kept → Section → Type 0
IsBest which.All s = IsVerified s
IsBest which.Verified s = (s.0.hash_code ≡ 0x12) × IsVerified s

-- a section replaces what is held under its CID: none is better; or nothing is held, and it is kept
abbrev pub Replaces : Kept → Option (List ℕ) → Section → Type 0
Replaces kept held s = IsBest kept s ⊎ ((held ≡ None) × IsKeptSection kept s)

-- it does not: the same bytes are held; or others may be better, and if it is kept, a block is held
-- under its CID
abbrev pub Yields : Kept → Option (List ℕ) → Section → Type 0
Yields kept held s = (held ≡ Some s.1)
    ⊎ (¬ IsBest kept s × (IsKeptSection kept s → is_some held ≡ true))

-- one more section was taken, of those of which some are kept
abbrev pub KeepsSection : {E : Type 0} → Kept → Section → Stored → Result (Unit {0}) E → Stored → Type 0
KeepsSection kept s old result new = OnOk result ((sections : List Section) → Stores kept sections old
    → Stores kept (sections ++ s ∷ []) new)

-- the blocks held are those of one more section, by the same rule
abbrev pub KeepsNext : SinkTakes Holding AllocError
KeepsNext s old result new = (new.kept ≡ old.kept)
    × KeepsSection old.kept s (stored_in old.blocks) result (stored_in new.blocks)
