-- The names of the causes for which a text is refused.
use Rattle.std.specs.Prelude.{ℕ, List, codes}
use Rattle.text_dag_json.specs.declared.error.DagJsonError.{DagJsonError}
use Rattle.text_dag_json.specs.declared.error.DagJsonError.TheVariants as causes

-- the name of this cause
abbrev pub cause_name : DagJsonError → List ℕ
cause_name causes.NoText = codes "NoText"
cause_name causes.NoJson = codes "NoJson"
cause_name causes.TrailingData = codes "TrailingData"
cause_name causes.TooDeep = codes "TooDeep"
cause_name causes.Float = codes "Float"
cause_name causes.OutOfRange = codes "OutOfRange"
cause_name causes.RepeatedKey = codes "RepeatedKey"
cause_name causes.ReservedKey = codes "ReservedKey"
cause_name (causes.NoCid e) = codes "NoCid"
cause_name causes.NoBase64 = codes "NoBase64"
cause_name causes.OutOfMemory = codes "OutOfMemory"
