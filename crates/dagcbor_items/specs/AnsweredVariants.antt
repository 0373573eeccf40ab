-- Which variants of refusal a call can return, whether or not its bytes are known: those of its
-- causes, and those with no cause in the bytes.
use Rattle.std.specs.Prelude.{⊤}
use Rattle.dagcbor_core.specs.declared.error.DecodeError.{DecodeError}
use Rattle.dagcbor_core.specs.declared.error.DecodeError.TheVariants.{Msg, Read, Eof, Mismatch, Unsupported, RequireUtf8, CastOverflow, DepthOverflow, IndefiniteSize, NonMinimal, UnorderedKey, OutOfMemory, RequireBorrowed, Failed}

-- no cause in the bytes: `Refuses` says when these may come. Only reads of types return the last
-- two.
abbrev pub OfNoCause : {E : Type 0} → DecodeError E → Type 0
OfNoCause (Read e) = ⊤
OfNoCause OutOfMemory = ⊤
OfNoCause (RequireBorrowed name) = ⊤
OfNoCause Failed = ⊤
OfNoCause _ = ⊥

-- refusals of a byte
abbrev pub OfByte : {E : Type 0} → DecodeError E → Type 0
OfByte (Eof name expect) = ⊤
OfByte (Mismatch name found) = ⊤
OfByte e = OfNoCause e

-- refusals of a head of some major types, or of a byte string
abbrev pub OfHead : {E : Type 0} → DecodeError E → Type 0
OfHead (Unsupported name found) = ⊤
OfHead IndefiniteSize = ⊤
OfHead (NonMinimal name found) = ⊤
OfHead e = OfByte e

-- refusals of a number of some size
abbrev pub OfNumber : {E : Type 0} → DecodeError E → Type 0
OfNumber (CastOverflow name) = ⊤
OfNumber e = OfHead e

-- refusals of a text
abbrev pub OfText : {E : Type 0} → DecodeError E → Type 0
OfText (RequireUtf8 name) = ⊤
OfText e = OfHead e

-- refusals of a character
abbrev pub OfChar : {E : Type 0} → DecodeError E → Type 0
OfChar (Msg message) = ⊤
OfChar e = OfText e

-- refusals of a key
abbrev pub OfKey : {E : Type 0} → DecodeError E → Type 0
OfKey UnorderedKey = ⊤
OfKey e = OfText e

-- refusals of a link
abbrev pub OfLink : {E : Type 0} → DecodeError E → Type 0
OfLink (Msg message) = ⊤
OfLink e = OfHead e

-- refusals of an item of any kind
abbrev pub OfItem : {E : Type 0} → DecodeError E → Type 0
OfItem (Msg message) = ⊤
OfItem (DepthOverflow name) = ⊤
OfItem e = OfKey e
