-- Writing a CAR file section by section.
use Rattle.std.specs.Prelude.{◌≡◌, List, ℕ, Bool, false, Option, None, Some, Result, Ok, Err, ⊤, is_err, option_map, MatchBool, MatchResult, IsSomeAnd}
use Rattle.dagcbor_heads.specs.Written.{Written, WroteAll, Stops, Writes, WantsMemoryOnlyIf}
use Rattle.dagcbor_core.specs.declared.error.EncodeError.{EncodeError}
use Rattle.dagcbor_core.specs.declared.error.EncodeError.TheVariants as unsent
use Rattle.files_car.specs.Car.{Section, section_bytes, IsSection, header_bytes, IsHeader}
use Rattle.files_car.specs.declared.error.CarWriteError.{CarWriteError}
use Rattle.files_car.specs.declared.error.CarWriteError.TheVariants.{Write, OutOfMemory, Failed}

-- if the writer takes no memory, memory runs out only before anything is sent
abbrev pub UnsentWithoutMemory : {T E : Type 0} → Bool → Written → Result T (EncodeError E) → Written → Type 0
UnsentWithoutMemory takes_memory old (Err unsent.OutOfMemory) new = takes_memory ≡ false → new ≡ old
UnsentWithoutMemory takes_memory old (Err e) new = ⊤
UnsentWithoutMemory takes_memory old (Ok x) new = ⊤

-- what contracts see of a file that is being written
pub record WriterState (W : Type 0) : Type 0 where
  -- what it is written to
  pub writer : W
  -- whether a section was refused
  pub failed : Bool

-- the writer's refusal that is passed on; `None` if the writer was not called
abbrev pub writer_refusal : {E : Type 0} → CarWriteError E → Option (EncodeError E)
writer_refusal (Write e) = Some (unsent.Write e)
writer_refusal OutOfMemory = Some unsent.OutOfMemory
writer_refusal Failed = None

-- the writer's answer that is passed on
abbrev pub writer_answer : {T E : Type 0} → Result T (CarWriteError E)
    → Option (Result T (EncodeError E))
writer_answer (Ok x) = Some (Ok x)
writer_answer (Err e) = option_map Err (writer_refusal e)

-- What `new` does: the header was appended; or the writer refused it, and may have a beginning of
-- the header. That writer is dropped.
abbrev pub BeginsCar : {W E : Type 0} → (W → Written) → W → List (List ℕ)
    → Result (WriterState W) (CarWriteError E) → Type 0
BeginsCar {W} written old roots result = MatchResult result
    (λ file. IsHeader roots × (file.failed ≡ false)
    × WroteAll (Some (header_bytes roots)) (written old) (written file.writer))
    (λ e. (last : W) × IsSomeAnd (writer_refusal e)
    (Stops (Some (header_bytes roots)) (written old) (written last)))

-- What `write` does: after a refusal nothing is sent. Else the section is appended; or a beginning
-- of it, and the writer's refusal is passed on.
abbrev pub WritesSection : {W T E : Type 0} → (W → Written) → Bool → Section → WriterState W
    → Result T (CarWriteError E) → WriterState W → Type 0
WritesSection written takes_memory s old result new = MatchBool old.failed
    ((result ≡ Err Failed) × (new ≡ old))
    (IsSection s × (new.failed ≡ is_err result) × IsSomeAnd (writer_answer result)
    (λ answer. Writes (Some (section_bytes s)) (written old.writer) (written new.writer) answer
    × WantsMemoryOnlyIf takes_memory answer))
