use Rattle.std.proofs.Common.{rules, inl}
use Rattle.atproto_events.specs.Frames.{IsFrame}
use Rattle.abi_memory_calls.proofs.verify.put_event.Goals as goal

pub returns-in-Ok : goal.returns-in-Ok
returns-in-Ok c =
    let is : IsFrame c.args.bytes.now c.in-Ok.frame c.in-Ok._rest.now = search rules in
    inl (c.in-Some.known, c.in-Some.ensures, inl (c.in-Ok.frame, c.in-Ok._rest.now, is, search rules))
