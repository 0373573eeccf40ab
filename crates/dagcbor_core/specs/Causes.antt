-- The causes for which heads and payloads are refused, each by the bytes at the place (RFC 8949,
-- section 3).
use Rattle.std.specs.Prelude.{◌≡◌, ◌==◌, ℕ, ◌%◌, ◌^◌, ◌<◌, ◌≤◌, List, [], ◌∷◌, ◌++◌, length, if◌then◌else◌, ⊤}
use Rattle.std.specs.Int.{bytes_high_first}
use Rattle.dagcbor_core.specs.Lengths.{len_of}
use Rattle.dagcbor_core.specs.Names.{Names}
use Rattle.dagcbor_core.specs.declared.error.Len.TheVariants.{Small}
use Rattle.dagcbor_core.specs.declared.error.DecodeError.{DecodeError}
use Rattle.dagcbor_core.specs.declared.error.DecodeError.TheVariants.{Read, Eof, Unsupported, DepthOverflow, OutOfMemory, IndefiniteSize, NonMinimal}

-- the width of the argument after a first byte with this additional information, in bytes
abbrev pub argument_width : ℕ → ℕ
argument_width information =
    if information == 24 then 1
    else if information == 25 then 2
    else if information == 26 then 4
    else if information == 27 then 8
    else 0

-- the least argument that needs this width, in bytes
abbrev pub least_argument : ℕ → ℕ
least_argument width =
    if width == 1 then 24
    else if width == 2 then 2 ^ 8
    else if width == 4 then 2 ^ 16
    else if width == 8 then 2 ^ 32
    else 0

-- a byte is missing: the bytes are empty
abbrev pub ByteCause : {E : Type 0} → DecodeError E → List ℕ → Type 0
ByteCause (Eof name expect) b = (expect ≡ Small 1) × (b ≡ [])
ByteCause _ b = ⊥

-- an argument is cut: fewer bytes are left than its width
abbrev pub ArgumentCause : {E : Type 0} → ℕ → DecodeError E → List ℕ → Type 0
ArgumentCause width (Eof name expect) b = (expect ≡ Small width) × (length b < width)
ArgumentCause width _ b = ⊥

-- the head at the front is missing, cut, reserved, of indefinite length, or not the
-- shortest
abbrev pub HeadCause : {E : Type 0} → DecodeError E → List ℕ → Type 0
HeadCause (Eof name expect) [] = expect ≡ Small 1
HeadCause (Eof name expect) (first ∷ more) = (expect ≡ Small (argument_width (first % 32)))
    × (length more < argument_width (first % 32))
HeadCause (Unsupported name found) (first ∷ more) = (found ≡ first) × (28 ≤ first % 32)
    × (first % 32 ≤ 30)
HeadCause IndefiniteSize (first ∷ more) = first % 32 ≡ 31
HeadCause (NonMinimal name found) (first ∷ more) = (found ≡ first)
    × ((n : ℕ) × (rest : List ℕ) × (n < least_argument (argument_width (first % 32))) × (more ≡ bytes_high_first (argument_width (first % 32)) n ++ rest))
HeadCause _ b = ⊥

-- a payload is cut: fewer than n bytes are left
abbrev pub PayloadCause : {E : Type 0} → ℕ → DecodeError E → List ℕ → Type 0
PayloadCause n (Eof name expect) b = (expect ≡ len_of n) × (length b < n)
PayloadCause n _ b = ⊥

-- a fault of the source, or out of memory
abbrev pub IsFaultOrLack : {E : Type 0} → DecodeError E → Type 0
IsFaultOrLack (Read e) = ⊤
IsFaultOrLack OutOfMemory = ⊤
IsFaultOrLack _ = ⊥

-- the refusal is for missing bytes, under this name, or a fault of the source
abbrev pub IsEndNamed : {E : Type 0} → List ℕ → DecodeError E → Type 0
IsEndNamed text (Eof name expect) = Names name text
IsEndNamed text (Read e) = ⊤
IsEndNamed text _ = ⊥

-- the refusal is for a cut payload, under this name, out of memory, or a fault of the source
abbrev pub IsPayloadNamed : {E : Type 0} → List ℕ → DecodeError E → Type 0
IsPayloadNamed text OutOfMemory = ⊤
IsPayloadNamed text e = IsEndNamed text e

-- the refusal is for a head, under this name if the variant has one, or a fault of the source
abbrev pub IsNamed : {E : Type 0} → List ℕ → DecodeError E → Type 0
IsNamed text (Unsupported name found) = Names name text
IsNamed text IndefiniteSize = ⊤
IsNamed text (NonMinimal name found) = Names name text
IsNamed text e = IsEndNamed text e

-- the refusal is for the depth, under this name
abbrev pub IsDepthNamed : {E : Type 0} → List ℕ → DecodeError E → Type 0
IsDepthNamed text (DepthOverflow name) = Names name text
IsDepthNamed text e = ⊥
