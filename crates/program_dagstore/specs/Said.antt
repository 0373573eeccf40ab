-- What was written, and why no more was.
use Rattle.std.specs.Prelude.{ℕ, List, [], Bool, Option, Result, Ok, Err}
use Rattle.std.specs.Io.KnownBytes.{Appends}
use Rattle.sqlite_trees.specs.declared.store.Store.{Ghosts}
use Rattle.program_parts.specs.Lines.{BreaksLine, SaysBoth}
use Rattle.store_on_disk.specs.Stored.{StaysSame, FailsByStore}
use Rattle.program_dagstore.specs.declared.fault.Fault.{Fault}
use Rattle.program_dagstore.specs.declared.fault.Fault.TheVariants as fault

-- the store failed; or it is as it was, and a device failed, or memory ran out
abbrev pub StoreFails : {S : Type 0} → Ghosts S → S → S → Fault → Type 0
StoreFails g old new (fault.Store told) = FailsByStore g ⊥ old new told
StoreFails g old new (fault.Tool e) = StaysSame g old new

-- nothing more was written; or the device failed, and a prefix of one of these lines was written
abbrev pub Breaks : (List ℕ → Type 0) → Option (List ℕ) → Option (List ℕ) → Fault → Type 0
Breaks IsLine old new (fault.Store told) = Appends old new []
Breaks IsLine old new (fault.Tool e) = BreaksLine IsLine old new e

-- the output and the messages were written; or neither was; or a device failed, and a prefix of
-- each was written
abbrev pub SaysAll : (Bool → List ℕ → List ℕ → Type 0) → Option (List ℕ) → Option (List ℕ)
    → Result Bool Fault → Option (List ℕ) → Option (List ℕ) → Type 0
SaysAll IsSaid old heard (Ok well) new after = SaysBoth IsSaid old heard (Ok well) new after
SaysAll IsSaid old heard (Err (fault.Store told)) new after =
    Appends old new [] × Appends heard after []
SaysAll IsSaid old heard (Err (fault.Tool e)) new after =
    SaysBoth IsSaid old heard (Err e) new after
