use Rattle.std.proofs.Common.{subst, sym}
use Rattle.ipld_links.specs.Blocks.{IsBlockOf}
use Rattle.files_car.proofs.Checking.{linked_noted}
use Rattle.files_car.proofs.check.CarCheck.hold_linked.Goals as goal

pub follow-requires : goal.follow-requires
follow-requires c = subst (λ n. IsBlockOf n c.args.section.now.block.now) (sym c.codec.ensures) c.requires.linked

pub returns-clause-after : goal.returns-clause-after
returns-clause-after c =
    linked_noted (c.args.section.now.cid, c.args.section.now.block.now) c.codec.result c.follow.result c.args.self.now c.hold.new.self c.follow.new.self c.codec.ensures c.requires.verified c.in_ok-hold.ensures.held c.follow.ensures.followed
