use Rattle.std.proofs.Common.{rules}
use Rattle.program_inspect.specs.Facts.{row_json}
use Rattle.program_inspect.proofs.Joined.{joined_more}
use Rattle.program_inspect.proofs.json.joined_rows.Goals as goal

pub returns-in_ok-extend_from_slice-in-Some : goal.returns-in_ok-extend_from_slice-in-Some
returns-in_ok-extend_from_slice-in-Some c = joined_more (row_json c.args.kind) c.args.rows.now c.in-Some.first.now c.in-Some.others.now _ c.in_ok-out-in-Some.out.items c.in_ok-more_rows-in-Some.field-0.items (search rules) c.in_ok-out-in-Some.ensures c.in_ok-more_rows-in-Some.ensures (search rules)
