use Rattle.std.proofs.Common.{◌∙◌}
use Rattle.dagcbor_heads.specs.Inputs.{input_reading}
use Rattle.program_sections.proofs.Merging.{begun_one, refuses_start}
use Rattle.program_sections.proofs.merge.begin.Goals as goal

pub returns-in-Ok-push : goal.returns-in-Ok-push
returns-in-Ok-push g c = λ b l.
    begun_one g.R.Read.reading b (input_reading g.R.Read.reading c.args.input) c.in-Ok.roots.items c.deref.result.now
    (record { number = c.args.number; input = c.pull_header.new.input; extent = c.in-Ok.extent }) c.args.begun.now
    (record { roots = c.add_all.new.self; files = c.push.new.self }) c.in-Ok.ensures.taken l c.in-Ok-push.ensures.items c.in_ok-add_all-in-Ok.ensures c.deref.ensures.value

pub returns : goal.returns
returns g c = λ b l.
    refuses_start (input_reading g.R.Read.reading c.args.input) (input_reading g.R.Read.reading c.pull_header.new.input) c.in-Err.error c.args.number b c.deref-in-Err.result.now c.in_ok-file_line-in-Err.field-0.items
    c.in-Err.ensures.taken c.in_ok-line-in-Err.ensures.0 (c.deref-in-Err.ensures.value ∙ c.in_ok-line-in-Err.ensures.1) c.in_ok-file_line-in-Err.ensures l
