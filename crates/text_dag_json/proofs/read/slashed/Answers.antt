use Rattle.std.proofs.Common.{Ok, Err}
use Rattle.ipld_tree.specs.Ipld.{tree_of}
use Rattle.text_dag_json.proofs.Members.{slashed_object, on_ok, on_err}
use Rattle.text_dag_json.proofs.read.slashed.Goals as goal

pub returns-in-Object-clause-data : goal.returns-in-Object-clause-data
returns-in-Object-clause-data c = on_ok c.slashed_bytes.result (λ v. slashed_object c.args.value.now c.in-Object.inner c.deref.result.now (Ok (tree_of v)) c.in-Object.is c.deref.ensures.value) c.slashed_bytes.ensures.«data»

pub returns-in-Object-clause-refused : goal.returns-in-Object-clause-refused
returns-in-Object-clause-refused c = on_err c.slashed_bytes.result (λ e h other. slashed_object c.args.value.now c.in-Object.inner c.deref.result.now (Err e) c.in-Object.is c.deref.ensures.value (h other)) c.slashed_bytes.ensures.refused
