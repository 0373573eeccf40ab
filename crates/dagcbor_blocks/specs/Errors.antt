-- How errors of reading and writing become those of a store.
use Rattle.std.specs.Prelude.{◌≡◌}
use Rattle.std.specs.declared.convert.Infallible.{Infallible}
use Rattle.serde_ipld_dagcbor.specs.DecodeError.{DecodeError}
use Rattle.serde_ipld_dagcbor.specs.DecodeError.TheVariants as unread
use Rattle.serde_ipld_dagcbor.specs.EncodeError.{EncodeError}
use Rattle.serde_ipld_dagcbor.specs.EncodeError.TheVariants as unwritten
use Rattle.dagcbor_blocks.specs.declared.error.BlockError.{BlockError}
use Rattle.dagcbor_blocks.specs.declared.error.BlockError.TheVariants.{Encode, Decode, OutOfMemory}

-- out of memory becomes `OutOfMemory`, and any other error a `Decode`
abbrev pub TellsOfDecoding : DecodeError Infallible → BlockError → Type 0
TellsOfDecoding unread.OutOfMemory told = told ≡ OutOfMemory
TellsOfDecoding error told = told ≡ Decode error

-- out of memory becomes `OutOfMemory`, and any other error an `Encode`
abbrev pub TellsOfEncoding : EncodeError Infallible → BlockError → Type 0
TellsOfEncoding unwritten.OutOfMemory told = told ≡ OutOfMemory
TellsOfEncoding error told = told ≡ Encode error
