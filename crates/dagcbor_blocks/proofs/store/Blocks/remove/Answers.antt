use Rattle.std.proofs.Common.{ap, ◌∙◌, is_some}
use Rattle.std.specs.BTreeMap.{is_at}
use Rattle.serde_ipld_dagcbor.specs.Cid.{cid_cmp}
use Rattle.dagcbor_blocks.proofs.Holding.{still_sound_without, held_of, others_held}
use Rattle.dagcbor_blocks.proofs.store.Blocks.remove.Goals as goal

pub invariant_of-self : goal.invariant_of-self
invariant_of-self c = record { sound = still_sound_without (is_at (cid_cmp c.args.name.now)) c.args.self.now.blocks.entries c.remove.new.self.entries c.remove.ensures.entries c.args.self.now.sound }

pub returns-clause-answer : goal.returns-clause-answer
returns-clause-answer c = c.is_some.ensures ∙ ap is_some c.remove.ensures.value ∙ held_of c.args.name.now c.args.self.now.blocks.entries

pub returns-clause-others : goal.returns-clause-others
returns-clause-others c = others_held c.args.self.now.blocks c.remove.new.self c.args.name.now c.remove.ensures.updates
