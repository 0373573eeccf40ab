use Rattle.std.proofs.Common.{arith}
use Rattle.text_cid.proofs.Grouping.{left_length, five_out}
use Rattle.text_cid.proofs.groups.push_32.Goals as goal

pub push_eight-requires : goal.push_eight-requires
push_eight-requires c =
    let long = left_length c.args.symbols.now c.args.out.now.items c.loop-five.out.items c.loop-five.rest.now c.args.bytes.now c.loop-five.invariant in
    record { base = c.requires.base; room = omega (arith, long, c.requires.room, c.in-Some.ensures.cases) }

pub loop-five-preserved : goal.loop-five-preserved
loop-five-preserved c =
    let parts = c.in-Some.ensures.cases in
    rw c.push_eight.ensures (five_out c.args.symbols.now c.args.out.now.items c.loop-five.out.items c.loop-five.rest.now c.args.bytes.now c.in-Some.five.now c.in-Some.following.now parts.0 parts.1 parts.2 c.loop-five.invariant)

pub push_groups-requires : goal.push_groups-requires
push_groups-requires c =
    let long = left_length c.args.symbols.now c.args.out.now.items c.loop-five.out.items c.loop-five.rest.now c.args.bytes.now c.loop-five.invariant in
    record { base = c.requires.base; room = omega (arith, long, c.requires.room) }
