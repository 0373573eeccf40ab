use Rattle.program_serve.proofs.file.answer_export.Goals as goal

pub returns-clause-exports : goal.returns-clause-exports
returns-clause-exports g c = (
  c.export_meant-ended.result,
  c.is_ok-is_out.result,
  g.F.Write.contents c.export_meant-ended.new.output,
  rw c.new.ensures.items at c.export_meant-ended.ensures.exports,
  c.flush.ensures.bytes,
  c.write_exported.ensures.says,
  c.write_exported.ensures.whole,
)
