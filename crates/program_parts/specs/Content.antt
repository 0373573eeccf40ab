-- An IPFS file that is read block by block from stored blocks.
use Rattle.std.specs.Prelude.{◌≡◌, ◌⊎◌, ℕ, List, [], ◌∷◌, ◌++◌, Bool, true, false, Option, Some, Result, MatchResult, MatchOption}
use Rattle.std.specs.Io.KnownBytes.{Appends}
use Rattle.ipld_tree.specs.Cid.{CidParts, AreCidParts, cid_bytes}
use Rattle.ipld_links.specs.Reaching.{Stored, AreBytesOf}
use Rattle.ipld_links.specs.Verdicts.{IsVerified, IsVerdict}
use Rattle.program_parts.specs.Lines.{is_well}
use Rattle.files_unix_fs.specs.Files.{joined, bytes_under}
use Rattle.files_unix_fs.specs.Reading.{Asked, stack_bytes, IsTaken, IsCause}
use Rattle.program_shared.specs.declared.fault.ToolError.{ToolError}
use Rattle.program_parts.specs.declared.stop.Stop.{Stop}
use Rattle.program_parts.specs.declared.stop.Stop.TheVariants as stops
use Rattle.program_parts.specs.Stops.{is_of_file, stop_line}

-- Each stored block that matches its CID is held under the CID's binary form. More may be held.
abbrev pub HoldsStored : Stored → (List ℕ → Option (List ℕ)) → Type 0
HoldsStored stored blocks = (name : CidParts) (b : List ℕ) → AreCidParts name
    → AreBytesOf stored name b → IsVerified (name, b) → blocks (cid_bytes name) ≡ Some b

-- the most levels of links in a file, the root included
abbrev pub most_depth : ℕ
most_depth = 256

-- The bytes under the root are these, followed by those of the blocks still wanted, whatever else
-- is held.
abbrev pub IsReadTo : Stored → CidParts → List ℕ → List Asked → Type 0
IsReadTo stored root out wanted = (blocks : List ℕ → Option (List ℕ)) → HoldsStored stored blocks
    → bytes_under blocks most_depth (cid_bytes root) ≡ joined (Some out) (stack_bytes blocks wanted)

-- ---- one block

-- the block of this CID is wanted next
abbrev pub IsNextName : List Asked → List Asked → Asked → CidParts → Type 0
IsNextName wanted below w name = AreCidParts name × (wanted ≡ below ++ w ∷ []) × (w.cid ≡ cid_bytes name)

-- These bytes are handed out, whatever else is held.
abbrev pub IsReadOn : Stored → List Asked → List ℕ → List Asked → Type 0
IsReadOn stored old out new = (blocks : List ℕ → Option (List ℕ)) → HoldsStored stored blocks
    → IsTaken blocks old out new

-- why reading stops at the block of this CID
abbrev pub IsStopAt : Stored → CidParts → Asked → Stop → Type 0
IsStopAt stored name w stops.Missing = (b : List ℕ) → ¬ AreBytesOf stored name b
IsStopAt stored name w (stops.NoBlock verdict) = (b : List ℕ) × AreBytesOf stored name b
    × IsVerdict (name, b) verdict × (is_well verdict ≡ false)
IsStopAt stored name w (stops.NoPart e) = (b : List ℕ) × AreBytesOf stored name b
    × IsVerified (name, b) × IsCause e w b

-- a prefix of what is handed out
abbrev pub IsFrontOfPart : Stored → List Asked → List ℕ → Type 0
IsFrontOfPart stored wanted front = (more : List ℕ) × (new : List Asked)
    × IsReadOn stored wanted (front ++ more) new

-- A line says why reading stops at the block of this CID; or memory ran out, or the device failed
-- after a prefix of the line.
abbrev pub TellsStop : CidParts → Stop → Option (List ℕ) → Result (Unit {0}) ToolError
    → Option (List ℕ) → Type 0
TellsStop name stop old result new = MatchResult result
    (λ _. (is_of_file stop ≡ true) × Appends old new (stop_line name stop))
    (λ e. Appends old new [] ⊎ ((is_of_file stop ≡ true) × ((front back : List ℕ)
    × (stop_line name stop ≡ front ++ back) × Appends old new front)))

-- ---- a file

-- The file is read to its end; or the next block is not a part of it, and a line says why.
abbrev pub EndsAt : Stored → List Asked → Bool → List ℕ → Type 0
EndsAt stored wanted well told = ((wanted ≡ []) × (well ≡ true) × (told ≡ []))
    ⊎ ((below : List Asked) × (w : Asked) × (name : CidParts) × (stop : Stop)
    × IsNextName wanted below w name × IsStopAt stored name w stop × (is_of_file stop ≡ true)
    × (well ≡ false) × (told ≡ stop_line name stop))

-- What is written for the next block: its bytes; or none, and whether the file is read to its end,
-- or a line that says why not; or writing broke off after a prefix of both.
abbrev pub SaysNext : {E : Type 0} → Stored → List Asked → List Asked → Option (List ℕ) → Option (List ℕ)
    → Result (Option Bool) E → Option (List ℕ) → Option (List ℕ) → Type 0
SaysNext stored wanted left old heard result new after = MatchResult result
    (λ o. MatchOption o
    ((out : List ℕ) × IsReadOn stored wanted out left × Appends old new out × Appends heard after [])
    (λ well. (told : List ℕ) × EndsAt stored wanted well told × Appends old new []
    × Appends heard after told))
    (λ e. (out told : List ℕ) × IsFrontOfPart stored wanted out
    × ((told ≡ []) ⊎ ((out ≡ []) × ((more : List ℕ) × EndsAt stored wanted false (told ++ more))))
    × Appends old new out × Appends heard after told)

-- what is written for the file under the root, and the error output
abbrev pub IsContent : Stored → CidParts → Bool → List ℕ → List ℕ → Type 0
IsContent stored root well out told = (wanted : List Asked) × IsReadTo stored root out wanted
    × EndsAt stored wanted well told

-- the bytes are a prefix of the file under the root
abbrev pub IsFrontOfContent : Stored → CidParts → List ℕ → Type 0
IsFrontOfContent stored root front = (more : List ℕ) × (wanted : List Asked)
    × IsReadTo stored root (front ++ more) wanted

-- a prefix of the error output
abbrev pub TellsFront : Stored → CidParts → List ℕ → List ℕ → Type 0
TellsFront stored root out told = (told ≡ [])
    ⊎ ((more : List ℕ) × IsContent stored root false out (told ++ more))

-- The bytes of the file were written as they were read, and a line says why they end early; or
-- writing broke off after a prefix of both.
abbrev pub SaysContent : {E : Type 0} → Stored → CidParts → Option (List ℕ) → Option (List ℕ)
    → Result Bool E → Option (List ℕ) → Option (List ℕ) → Type 0
SaysContent stored root old heard result new after = MatchResult result
    (λ well. (out told : List ℕ) × IsContent stored root well out told × Appends old new out
    × Appends heard after told)
    (λ e. (out told : List ℕ) × IsFrontOfContent stored root out × TellsFront stored root out told
    × Appends old new out × Appends heard after told)
