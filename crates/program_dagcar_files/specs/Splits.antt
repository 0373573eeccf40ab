-- The exit status of a split.
use Rattle.std.specs.Prelude.{◌≡◌, ℕ, Result, Ok, Err}
use Rattle.program_sections.specs.declared.split.SplitEnd.{SplitEnd}
use Rattle.program_sections.specs.declared.split.SplitEnd.TheVariants as ends
use Rattle.program_shared.specs.declared.fault.ToolError.{ToolError}

-- the exit status of a split: 0 if all parts were finished, 1 if the file has a fault, 2 if the
-- name of a part is taken or the run broke off
abbrev pub SplitEndsSo : Result SplitEnd ToolError → ℕ → Type 0
SplitEndsSo (Ok ends.Whole) status = status ≡ 0
SplitEndsSo (Ok ends.Fault) status = status ≡ 1
SplitEndsSo (Ok ends.Exists) status = status ≡ 2
SplitEndsSo (Err e) status = status ≡ 2
