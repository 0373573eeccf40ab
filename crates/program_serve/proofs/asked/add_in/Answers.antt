use Rattle.program_serve.proofs.asked.add_in.Goals as goal

pub returns-in_default : goal.returns-in_default
returns-in_default c asked h = c.in_default.ensures h.0 h.1 h.2
