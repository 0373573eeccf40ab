-- The names of kinds and of refusals, as the programs print them.
use Rattle.std.specs.Prelude.{ℕ, List, codes}
use Rattle.dagcbor_core.specs.declared.error.DecodeError.{DecodeError}
use Rattle.dagcbor_core.specs.declared.error.DecodeError.TheVariants as refusals
use Rattle.dagcbor_decode.specs.declared.kind.Kind.{Kind}
use Rattle.dagcbor_decode.specs.declared.kind.Kind.TheVariants as kinds

-- the name of a kind
abbrev pub kind_name : Kind → List ℕ
kind_name kinds.Null = codes "null"
kind_name kinds.Bool = codes "bool"
kind_name kinds.Integer = codes "integer"
kind_name kinds.String = codes "string"
kind_name kinds.Bytes = codes "bytes"
kind_name kinds.List = codes "list"
kind_name kinds.Map = codes "map"
kind_name kinds.Link = codes "link"

-- the name of a refusal's variant
abbrev pub variant_name : {E : Type 0} → DecodeError E → List ℕ
variant_name (refusals.Msg message) = codes "Msg"
variant_name (refusals.Read e) = codes "Read"
variant_name (refusals.Eof name expect) = codes "Eof"
variant_name (refusals.Mismatch name found) = codes "Mismatch"
variant_name (refusals.Unsupported name found) = codes "Unsupported"
variant_name (refusals.RequireLength name found) = codes "RequireLength"
variant_name (refusals.RequireBorrowed name) = codes "RequireBorrowed"
variant_name (refusals.RequireUtf8 name) = codes "RequireUtf8"
variant_name (refusals.LengthOverflow name found) = codes "LengthOverflow"
variant_name (refusals.CastOverflow name) = codes "CastOverflow"
variant_name (refusals.ArithmeticOverflow name ty) = codes "ArithmeticOverflow"
variant_name (refusals.DepthOverflow name) = codes "DepthOverflow"
variant_name (refusals.LengthMismatch name expect value) = codes "LengthMismatch"
variant_name refusals.TrailingData = codes "TrailingData"
variant_name refusals.IndefiniteSize = codes "IndefiniteSize"
variant_name (refusals.NonMinimal name found) = codes "NonMinimal"
variant_name refusals.UnorderedKey = codes "UnorderedKey"
variant_name refusals.OutOfMemory = codes "OutOfMemory"
variant_name refusals.Failed = codes "Failed"
