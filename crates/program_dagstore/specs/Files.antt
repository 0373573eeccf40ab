-- What is written of a store as a CAR file, and what is reported of one that is read into it.
use Rattle.std.specs.Prelude.{◌≡◌, ◌≢◌, ◌⊎◌, ℕ, List, ◌++◌, length, Bool, true, Option, Result, Ok, Err, MatchResult, codes, decimal, flat_map}
use Rattle.std.specs.Io.KnownBytes.{Appends}
use Rattle.sqlite_trees.specs.View.{View, IsClean}
use Rattle.sqlite_trees.specs.declared.store.Store.{Ghosts}
use Rattle.dagcbor_heads.specs.Reading.{Reading}
use Rattle.dagcbor_core.specs.Appends.{AppendsFront}
use Rattle.dagcbor_core.specs.declared.error.EncodeError.TheVariants as unsent
use Rattle.ipld_tree.specs.Cid.{CidParts}
use Rattle.text_cid.specs.Texts.{cid_text}
use Rattle.dagcbor_items.specs.Walks.{forms}
use Rattle.files_car.specs.Car.{Section, car_bytes, IsCar}
use Rattle.files_car.specs.declared.error.CarError.{CarError}
use Rattle.files_car.specs.declared.error.CarError.TheVariants as file
use Rattle.program_shared.specs.declared.fault.ToolError.TheVariants.{Input, Output, OutOfMemory}
use Rattle.program_parts.specs.Lines.{line, root_line, TextFails}
use Rattle.program_parts.specs.Names.{fault_name}
use Rattle.store_on_disk.specs.Stored.{FindsSo, IsUndone}
use Rattle.store_on_disk.specs.Cars.{IsFileRead, IsFilled, ReadRefused}
use Rattle.store_on_disk.specs.Roots.{GainsRoots, MayKeepRoots}
use Rattle.store_on_disk.specs.Walking.{AreAllNamed, AreBlocks, AreFirstBlocks, WalkRefused}
use Rattle.store_on_disk.specs.declared.car_error.ReadCarError.{ReadCarError}
use Rattle.store_on_disk.specs.declared.car_error.ReadCarError.TheVariants as car
use Rattle.store_on_disk.specs.declared.car_error.WriteCarError.{WriteCarError}
use Rattle.store_on_disk.specs.declared.car_error.WriteCarError.TheVariants as unwritten
use Rattle.program_dagstore.specs.Lines.{stored_line}
use Rattle.program_dagstore.specs.Refusals.{dagstore_line, tool_text, refusal_text, refusal_lines, refusal_status, status_of, TellsRunFault}
use Rattle.program_dagstore.specs.declared.fault.Fault.{Fault}
use Rattle.program_dagstore.specs.declared.fault.Fault.TheVariants as fault

-- ---- export

-- the fault of a CAR file that is not written
abbrev pub fault_of : {E : Type 0} → WriteCarError E → Fault
fault_of (unwritten.Write (unsent.Write e)) = fault.Tool Output
fault_of (unwritten.Write e) = fault.Tool OutOfMemory
fault_of (unwritten.Store told) = fault.Store told

-- The CAR file of these roots and of sections that are so was written, and nothing has changed.
pub record SendsFile {S : Type 0} (g : Ghosts S) (roots : List (List ℕ))
    (AreSo : View → List Section → Type 0)
    (old : S) (before : Option (List ℕ)) (new : S) (after : Option (List ℕ)) : Type 0 where
  pub sections : List Section
  pub named : AreAllNamed sections
  pub is_car : IsCar (car_bytes roots sections) roots sections
  pub sent : Appends before after (car_bytes roots sections)
  pub are_so : FindsSo g old new (λ v. AreSo v sections)

-- A CAR file of these roots and of first sections that are so was written, and no more.
pub record SendsFirst {S : Type 0} (g : Ghosts S) (roots : List (List ℕ))
    (AreSo : View → List Section → Type 0)
    (old : S) (before : Option (List ℕ)) (new : S) (after : Option (List ℕ)) : Type 0 where
  pub sections : List Section
  pub named : AreAllNamed sections
  pub sent : Appends before after (car_bytes roots sections)
  pub are_so : IsClean (g.view new) → AreSo (g.view old) sections

-- A prefix of the CAR file of these roots and of first sections that are so was written, and
-- nothing has changed.
pub record SendsFront {S : Type 0} (g : Ghosts S) (roots : List (List ℕ))
    (AreSo : View → List Section → Type 0)
    (old : S) (before : Option (List ℕ)) (new : S) (after : Option (List ℕ)) : Type 0 where
  pub sections : List Section
  pub named : AreAllNamed sections
  pub sent : AppendsFront before after (car_bytes roots sections)
  pub are_so : FindsSo g old new (λ v. AreSo v sections)

-- the CAR file of some first blocks was written, and the store refused; or a prefix of such a file
-- was written, and the device failed, or memory ran out
abbrev pub ExportFails : {S : Type 0} → Ghosts S → List (List ℕ)
    → S → Option (List ℕ) → Fault → S → Option (List ℕ) → Type 0
ExportFails g roots old before (fault.Store told) new after =
    SendsFirst g roots AreFirstBlocks old before new after × WalkRefused g old new told
ExportFails g roots old before (fault.Tool e) new after =
    (e ≢ Input) × SendsFront g roots AreFirstBlocks old before new after

-- The CAR file of these roots and of all blocks was written.
abbrev pub Exports : {S : Type 0} → Ghosts S → List (List ℕ)
    → S → Option (List ℕ) → Result Bool Fault → S → Option (List ℕ) → Type 0
Exports g roots old before result new after = MatchResult result
    (λ well. (well ≡ true) × SendsFile g roots AreBlocks old before new after)
    (λ e. ExportFails g roots old before e new after)

-- ---- import

-- the message for input that is not a CAR file, or was not read
abbrev pub file_text : {E : Type 0} → CarError E → List ℕ
file_text (file.Read e) = tool_text Input
file_text e = codes "the input is not a CAR file: " ++ fault_name e

-- status 1 if the bytes are the cause, else 2
abbrev pub file_status : {E : Type 0} → CarError E → ℕ
file_status (file.Read e) = 2
file_status e = 1

-- the line of how many sections come before the place where a file stopped
abbrev pub after_line : ℕ → List ℕ
after_line count = line (codes "dagstore: after " ++ (decimal count ++ codes " sections"))

-- the lines for a file that is not stored
abbrev pub unread_lines : {E : Type 0} → ReadCarError E → List ℕ
unread_lines (car.Header e) = dagstore_line (file_text e)
unread_lines (car.Section count e) = after_line count ++ dagstore_line (file_text e)
unread_lines (car.Block count name told) =
    after_line count ++ (dagstore_line (codes "of " ++ cid_text name)
    ++ dagstore_line (refusal_text told))
unread_lines (car.Store told) = refusal_lines told
unread_lines car.OutOfMemory = dagstore_line (tool_text OutOfMemory)

-- status 1 if the bytes, or the blocks in them, are the cause, else 2
abbrev pub unread_status : {E : Type 0} → ReadCarError E → ℕ
unread_status (car.Header e) = file_status e
unread_status (car.Section count e) = file_status e
unread_status (car.Block count name told) = refusal_status told
unread_status (car.Store told) = refusal_status told
unread_status car.OutOfMemory = 2

-- the lines of the roots, and of how many sections are stored
abbrev pub stored_lines : List (List ℕ) → ℕ → List ℕ
stored_lines roots count = flat_map root_line roots ++ stored_line count

-- these lines were written; or cut short, because a device failed, or memory ran out
abbrev pub SaysStored : List (List ℕ) → ℕ
    → Option (List ℕ) → Result Bool Fault → Option (List ℕ) → Type 0
SaysStored roots count before (Ok well) after = (well ≡ true)
    × Appends before after (stored_lines roots count)
SaysStored roots count before (Err (fault.Store told)) after = ⊥
SaysStored roots count before (Err (fault.Tool e)) after =
    TextFails (stored_lines roots count) before e after

-- The file was read, and its blocks and roots are committed; then its lines were written, or cut
-- short.
pub record IsImported {S : Type 0} (g : Ghosts S) (source left : Reading)
    (old : S) (before heard : Option (List ℕ)) (status : ℕ)
    (new : S) (after told : Option (List ℕ)) : Type 0 where
  pub roots : List CidParts
  pub sections : List Section
  pub read : IsFileRead (forms roots) sections source left
  pub filled : IsClean (g.view new) → IsFilled (g.view old) (g.view new) sections
  pub gains : IsClean (g.view new) → GainsRoots (g.view old).trees (g.view new).trees roots
  pub keeps : MayKeepRoots (g.view old) roots
  pub ended : Result Bool Fault
  pub says : SaysStored (forms roots) (length sections) before ended after
  pub is_status : status ≡ status_of ended
  pub tells : TellsRunFault ended heard told

-- The file was refused, and what was not committed is undone; there is no output, and the cause is
-- reported.
pub record IsNotImported {S : Type 0} (E : Type 0) (g : Ghosts S) (source left : Reading)
    (old : S) (before heard : Option (List ℕ)) (status : ℕ)
    (new : S) (after told : Option (List ℕ)) : Type 0 where
  pub error : ReadCarError E
  pub refused : ReadRefused g source old error left new
  pub undone : IsClean (g.view new) → IsUndone (g.view old) (g.view new)
  pub nothing : after ≡ before
  pub is_status : status ≡ unread_status error
  pub tells : AppendsFront heard told (unread_lines error)

-- the source was imported, or not, in one of these ways
abbrev pub Imports : {S : Type 0} → Type 0 → Ghosts S → Reading
    → S → Option (List ℕ) → Option (List ℕ) → ℕ
    → S → Option (List ℕ) → Option (List ℕ) → Type 0
Imports E g source old before heard status new after told = (left : Reading)
    × (IsImported g source left old before heard status new after told
    ⊎ IsNotImported E g source left old before heard status new after told)
