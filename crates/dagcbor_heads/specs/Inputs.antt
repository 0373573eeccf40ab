-- What contracts see of an input.
use Rattle.std.specs.Prelude.{false}
use Rattle.dagcbor_heads.specs.Reading.{Reading}
use Rattle.dagcbor_heads.specs.declared.input.Input.{Input}
use Rattle.dagcbor_heads.specs.declared.input.Input.TheVariants.{Slice, Reader}

-- the reading of a reader in an input, which does not lend
abbrev pub not_lending : Reading → Reading
not_lending r = record r { lends = false }

-- the reading of an input: that of the slice, or that of the reader, which does not lend
abbrev pub input_reading : {R : Type 0} → (R → Reading) → Input R → Reading
input_reading reading (Slice reader) = reader
input_reading reading (Reader reader) = not_lending (reading reader)

-- what a call does to an input, given as what it does to the input's reading
abbrev pub OverInput : {R A : Type 0} → (R → Reading) → (Reading → A → Reading → Type 0) → Input R
    → A → Input R → Type 0
OverInput reading does old result new = does (input_reading reading old) result (input_reading reading new)
