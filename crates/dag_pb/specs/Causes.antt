-- Why bytes are not a block of DAG-PB, and where.
use Rattle.std.specs.Prelude.{◌≡◌, ◌⊎◌, ℕ, ◌+◌, ◌<◌, List, [], ◌++◌, length}
use Rattle.ipld_tree.specs.CidFault.{IsFault}
use Rattle.dag_pb.specs.Varint.{BeginsWithVarint, BeginsNoVarint}
use Rattle.dag_pb.specs.Node.{HasNode}
use Rattle.dag_pb.specs.declared.error.PbCause.{PbCause}
use Rattle.dag_pb.specs.declared.error.PbCause.TheVariants.{Truncated, InvalidVarint, UnexpectedField, NoHash, InvalidCid}
use Rattle.dag_pb.specs.declared.error.PbError.{PbError}
use Rattle.dag_pb.specs.declared.stop.Stop.{Stop}

-- the bytes end inside a number, or before the bytes that it counts end
abbrev pub IsCut : List ℕ → Type 0
IsCut at = (BeginsNoVarint at × ((n : ℕ) × (more : List ℕ) × BeginsWithVarint (at ++ more) n []))
    ⊎ ((n : ℕ) × (rest : List ℕ) × BeginsWithVarint at n rest × (length rest < n))

-- the cause is at the front of these bytes, the rest of a message
abbrev pub IsCause : PbCause → List ℕ → Type 0
IsCause Truncated at = IsCut at
IsCause InvalidVarint at = (more : List ℕ) → BeginsNoVarint (at ++ more)
IsCause (UnexpectedField tag) at = (rest : List ℕ) × BeginsWithVarint at tag rest
IsCause NoHash at = at ≡ []
IsCause (InvalidCid fault) at = IsFault fault at

-- `left` bytes are left, and the cause is at their front: in the rest of a message, or of the CID
-- in it, after which other bytes follow
abbrev pub CauseIn : PbCause → List ℕ → ℕ → Type 0
CauseIn cause b left = (before at following : List ℕ) × (b ≡ before ++ (at ++ following))
    × (left ≡ length at + length following) × IsCause cause at

abbrev pub StopsIn : List ℕ → Stop → Type 0
StopsIn b stop = CauseIn stop.cause b stop.left

-- the bytes are not a block of DAG-PB, for this cause at this place
abbrev pub IsNoNode : List ℕ → PbError → Type 0
IsNoNode b e = ¬ HasNode b × ((left : ℕ) × (e.place + left ≡ length b) × CauseIn e.cause b left)
