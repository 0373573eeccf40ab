use Rattle.program_serve.proofs.give.reply_get.Goals as goal

pub returns-in-Ok-Some-clause-replies : goal.returns-in-Ok-Some-clause-replies
returns-in-Ok-Some-clause-replies g c = (
  rw c.in-Ok-Some.field-0-is at c.in-Ok-Some.ensures.verified,
  rw c.in-Ok-Some.field-0-is at c.in-Ok-Some.ensures.found,
  c.in-Ok-Some.ensures.reads.same,
)
