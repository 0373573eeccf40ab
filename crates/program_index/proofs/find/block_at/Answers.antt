use Rattle.program_index.proofs.Finding.{all_known, at_least, sought_far}
use Rattle.program_index.proofs.find.block_at.Goals as goal

pub returns-in_default-checked_add-clause-sought : goal.returns-in_default-checked_add-clause-sought
returns-in_default-checked_add-clause-sought g c = all_known (g.S.ReadAt.bytes c.args.source.now) (λ b below. sought_far c.args.name.now c.args.layout.now c.args.offset b below (at_least _ _ c.in_default-checked_add.ensures))
