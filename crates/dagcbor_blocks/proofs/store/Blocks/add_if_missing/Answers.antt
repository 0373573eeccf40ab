use Rattle.std.proofs.Common.{rules}
use Rattle.dagcbor_blocks.proofs.Missing.{held_link, put_link, unheld}
use Rattle.dagcbor_blocks.proofs.store.Blocks.add_if_missing.Goals as goal

pub returns-then-is_held : goal.returns-then-is_held
returns-then-is_held c = held_link c.args.self.now.blocks c.args.link.now c.args.missing.now c.version-version.ensures.valid (search rules)

pub returns : goal.returns
returns c = put_link c.add.result c.args.self.now.blocks c.args.link.now c.args.missing.now c.add.new.self (unheld _ (search rules)) c.add.ensures
