-- The names of the causes for which a file, a DAG-PB block, or a text as a CID is refused.
use Rattle.std.specs.Prelude.{ℕ, List, codes}
use Rattle.files_car.specs.declared.error.CarError.{CarError}
use Rattle.files_car.specs.declared.error.CarError.TheVariants as faults
use Rattle.dag_pb.specs.declared.error.PbCause.{PbCause}
use Rattle.dag_pb.specs.declared.error.PbCause.TheVariants as causes
use Rattle.text_cid.specs.declared.error.CidTextError.{CidTextError}
use Rattle.text_cid.specs.declared.error.CidTextError.TheVariants as texts

-- the name of the cause for which a file is refused
abbrev pub fault_name : {E : Type 0} → CarError E → List ℕ
fault_name (faults.Read e) = codes "Read"
fault_name faults.Truncated = codes "Truncated"
fault_name faults.InvalidLength = codes "InvalidLength"
fault_name (faults.InvalidCid e) = codes "InvalidCid"
fault_name (faults.NoBlock e) = codes "NoBlock"
fault_name faults.OtherHeader = codes "OtherHeader"
fault_name faults.InvalidOffset = codes "InvalidOffset"
fault_name faults.OutOfMemory = codes "OutOfMemory"

-- the name of the cause for which a block is not DAG-PB
abbrev pub pb_cause_name : PbCause → List ℕ
pb_cause_name causes.Truncated = codes "Truncated"
pb_cause_name causes.InvalidVarint = codes "InvalidVarint"
pb_cause_name (causes.UnexpectedField tag) = codes "UnexpectedField"
pb_cause_name causes.NoHash = codes "NoHash"
pb_cause_name (causes.InvalidCid e) = codes "InvalidCid"

-- the name of the cause for which a text is not a CID
abbrev pub cid_fault_name : CidTextError → List ℕ
cid_fault_name texts.UnknownBase = codes "UnknownBase"
cid_fault_name texts.TooLong = codes "TooLong"
cid_fault_name texts.InvalidCharacter = codes "InvalidCharacter"
cid_fault_name texts.InvalidLength = codes "InvalidLength"
cid_fault_name texts.TrailingBits = codes "TrailingBits"
cid_fault_name texts.LeadingZero = codes "LeadingZero"
cid_fault_name (texts.InvalidCid e) = codes "InvalidCid"
cid_fault_name texts.InvalidVersion = codes "InvalidVersion"
