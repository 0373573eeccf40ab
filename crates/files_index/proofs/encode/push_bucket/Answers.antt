use Rattle.std.proofs.Common.{rules}
use Rattle.std.proofs.lemmas.Result.{IfOk-equal}
use Rattle.files_index.proofs.Pushed.{bucket_pushed}
use Rattle.files_index.proofs.encode.push_bucket.Goals as goal

pub returns : goal.returns
returns c = IfOk-equal c.push_entries.result _ _ _ c.push_entries.ensures (bucket_pushed c.args.out.now.items _ _ c.args.width c.in-Some.length c.args.entries.now c.in_ok-push_count.ensures c.in_ok-push_number.ensures (search rules))
