-- The numbers that callers in other languages get.
use Rattle.std.specs.Prelude.{ℕ, ℤ, pos, negsuc, List, Result, Ok, Err}
use Rattle.dagcbor_core.specs.declared.error.DecodeError.{DecodeError}
use Rattle.dagcbor_core.specs.declared.error.DecodeError.TheVariants as refusals
use Rattle.ipld_tree.specs.Tree.{Tree}
use Rattle.dagcbor_decode.specs.Decode.{Decoded, Why, got, refused, eof, mismatch, unsupported, non_minimal, indefinite_size, require_utf8, msg, unordered_key, depth_overflow, trailing_data, cast_overflow, decode}
use Rattle.dagcbor_decode.specs.TreeKinds.{kind_of}
use Rattle.dagcbor_decode.specs.declared.kind.Kind.{Kind}
use Rattle.dagcbor_decode.specs.declared.kind.Kind.TheVariants as kinds
use Rattle.text_cid.specs.declared.error.CidTextError.{CidTextError}
use Rattle.text_cid.specs.declared.error.CidTextError.TheVariants as texts
use Rattle.files_car.specs.declared.error.CarError.{CarError}
use Rattle.files_car.specs.declared.error.CarError.TheVariants as faults
use Rattle.ipld_links.specs.declared.verdict.Verdict.{Verdict}
use Rattle.ipld_links.specs.declared.verdict.Verdict.TheVariants as verdicts

-- the number of a kind, from 0
abbrev pub kind_code : Kind → ℤ
kind_code kinds.Null = pos 0
kind_code kinds.Bool = pos 1
kind_code kinds.Integer = pos 2
kind_code kinds.String = pos 3
kind_code kinds.Bytes = pos 4
kind_code kinds.List = pos 5
kind_code kinds.Map = pos 6
kind_code kinds.Link = pos 7

-- the number of why bytes are refused, below 0; `negsuc n` is - 1 - n
abbrev pub why_code : Why → ℤ
why_code (msg message) = negsuc 0
why_code (eof name expect) = negsuc 2
why_code (mismatch name found) = negsuc 3
why_code (unsupported name found) = negsuc 4
why_code (require_utf8 name) = negsuc 7
why_code (cast_overflow name) = negsuc 9
why_code (depth_overflow name) = negsuc 11
why_code trailing_data = negsuc 13
why_code indefinite_size = negsuc 14
why_code (non_minimal name found) = negsuc 15
why_code unordered_key = negsuc 16

-- the number of what is decoded: that of its kind, or of why it is refused
abbrev pub decoded_code : Decoded Tree → ℤ
decoded_code (got t rest) = kind_code (kind_of t)
decoded_code (refused why left) = why_code why

-- the number that is returned for bytes
abbrev pub check_code : List ℕ → ℤ
check_code b = decoded_code (decode b)

-- the number of a refusal's variant: that of why bytes are refused, if it says why (`why_of`)
abbrev pub refusal_code : {E : Type 0} → DecodeError E → ℤ
refusal_code (refusals.Msg message) = negsuc 0
refusal_code (refusals.Read e) = negsuc 1
refusal_code (refusals.Eof name expect) = negsuc 2
refusal_code (refusals.Mismatch name found) = negsuc 3
refusal_code (refusals.Unsupported name found) = negsuc 4
refusal_code (refusals.RequireLength name found) = negsuc 5
refusal_code (refusals.RequireBorrowed name) = negsuc 6
refusal_code (refusals.RequireUtf8 name) = negsuc 7
refusal_code (refusals.LengthOverflow name found) = negsuc 8
refusal_code (refusals.CastOverflow name) = negsuc 9
refusal_code (refusals.ArithmeticOverflow name ty) = negsuc 10
refusal_code (refusals.DepthOverflow name) = negsuc 11
refusal_code (refusals.LengthMismatch name expect value) = negsuc 12
refusal_code refusals.TrailingData = negsuc 13
refusal_code refusals.IndefiniteSize = negsuc 14
refusal_code (refusals.NonMinimal name found) = negsuc 15
refusal_code refusals.UnorderedKey = negsuc 16
refusal_code refusals.OutOfMemory = negsuc 17
refusal_code refusals.Failed = negsuc 18

-- the number of a kind, at least 0, or of a refusal, below 0
abbrev pub answer_code : {E : Type 0} → Result Kind (DecodeError E) → ℤ
answer_code (Ok kind) = kind_code kind
answer_code (Err e) = refusal_code e

-- The number of a verdict on a block under a name: below 0 if the block does not match the name,
-- the name's hash function is not known, or its DAG-CBOR is refused. Blocks of DAG-PB, valid or
-- not, have that of blocks that are not read.
abbrev pub verdict_code : Verdict → ℤ
verdict_code (verdicts.Block kind) = kind_code kind
verdict_code verdicts.NotRead = pos 9
verdict_code verdicts.LinksNotRead = pos 9
verdict_code verdicts.Node = pos 9
verdict_code (verdicts.NoNode e) = pos 9
verdict_code (verdicts.Refused e) = refusal_code e
verdict_code verdicts.OtherBytes = negsuc 21
verdict_code verdicts.Unverified = negsuc 22

-- the number of a cause for which there is no section, or no file of version 1; the last is for all
-- other causes, such as a header that is a block of other data
abbrev pub fault_code : {E : Type 0} → CarError E → ℤ
fault_code faults.Truncated = negsuc 23
fault_code faults.InvalidLength = negsuc 24
fault_code (faults.InvalidCid e) = negsuc 25
fault_code faults.InvalidOffset = negsuc 34
fault_code _ = negsuc 26

-- the number of a cause for which there is no header: that of the refusal if its bytes are not a
-- block; the last is for a block of other data
abbrev pub header_code : {E : Type 0} → CarError E → ℤ
header_code (faults.NoBlock e) = refusal_code e
header_code e = fault_code e

-- the number of a fault in the text of a CID; bytes that are not a CID have the same number as in a
-- section
abbrev pub text_fault_code : CidTextError → ℤ
text_fault_code (texts.InvalidCid e) = negsuc 25
text_fault_code texts.UnknownBase = negsuc 27
text_fault_code texts.TooLong = negsuc 28
text_fault_code texts.InvalidCharacter = negsuc 29
text_fault_code texts.InvalidLength = negsuc 30
text_fault_code texts.TrailingBits = negsuc 31
text_fault_code texts.LeadingZero = negsuc 32
text_fault_code texts.InvalidVersion = negsuc 33
