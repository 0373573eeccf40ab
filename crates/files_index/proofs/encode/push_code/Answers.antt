use Rattle.std.proofs.lemmas.Result.{IfOk-equal}
use Rattle.files_index.proofs.Pushed.{code_pushed}
use Rattle.files_index.proofs.encode.push_code.Goals as goal

pub returns : goal.returns
returns c = IfOk-equal c.push_buckets.result _ _ _ c.push_buckets.ensures (code_pushed c.args.out.now.items _ c.args.code c.args.entries.now c.in_ok-push_number.ensures)
