-- What is sent to a device, and what it holds after a refusal.
use Rattle.std.specs.Prelude.{◌≡◌, ℕ, Bool, IsTrue, List, Option, Some, ⊤}
use Rattle.std.specs.Io.KnownBytes.{Appends}
use Rattle.serde.specs.Event.{Log}
use Rattle.dagcbor_core.specs.Appends.{AppendsFront}
use Rattle.dagcbor_heads.specs.Written.{Written, WroteAll, Stops}
use Rattle.dagcbor_core.specs.declared.error.EncodeError.TheVariants.{Write, OutOfMemory}
use Rattle.types_serde.specs.Blocks.{IsBlockOfLog}
use Rattle.types_serde.specs.declared.error.DeviceError.{DeviceError}
use Rattle.types_serde.specs.declared.error.DeviceError.TheVariants.{Value, Device}

-- the block of the events was sent
abbrev pub SendsBlock : Log → Written → Written → Type 0
SendsBlock log old new = (b : List ℕ) × IsBlockOfLog log b × WroteAll (Some b) old new

-- the value was refused, and nothing was sent; or the writer refused the block of its events
abbrev pub IsUnsent : {E : Type 0} → (Log → Type 0) → Written → Written → DeviceError E → Type 0
IsUnsent writes old new (Value e) = new ≡ old
IsUnsent writes old new (Device e) = (log : Log) × (b : List ℕ) × writes log × IsBlockOfLog log b
    × Stops (Some b) old new e

-- the writer runs out of memory only if it may take some
abbrev pub LacksDeviceMemoryIf : {E : Type 0} → Bool → DeviceError E → Type 0
LacksDeviceMemoryIf may (Device OutOfMemory) = IsTrue may
LacksDeviceMemoryIf may _ = ⊤

-- the block of the events was appended to known bytes
abbrev pub GrowsByBlock : Log → Option (List ℕ) → Option (List ℕ) → Type 0
GrowsByBlock log old new = (b : List ℕ) × IsBlockOfLog log b × Appends old new b

-- the value was refused, and nothing was written; or the device faulted, and holds a beginning of
-- the block of its events after what it held before
abbrev pub IsUnsentTo : {E : Type 0} → (Log → Type 0) → Option (List ℕ) → Option (List ℕ)
    → DeviceError E → Type 0
IsUnsentTo writes old new (Value e) = new ≡ old
IsUnsentTo writes old new (Device (Write e)) = (log : Log) × (b : List ℕ) × writes log
    × IsBlockOfLog log b × AppendsFront old new b
IsUnsentTo writes old new (Device _) = ⊥
