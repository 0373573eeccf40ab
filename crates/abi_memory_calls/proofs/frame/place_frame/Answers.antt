use Rattle.std.proofs.Common.{rules, ◌≡◌, ◌+◌, ◌-◌, inl, refl, ap, arith, length, ◌++◌}
use Rattle.std.proofs.lemmas.List.{length-append}
use Rattle.abi_memory_calls.proofs.frame.place_frame.Goals as goal

pub returns : goal.returns
returns c =
    let header = c.in-Some.parts.header.now in
    let body = c.in-Some.parts.body.now in
    let rest = c.in-Some.parts.rest.now in
    let end : length c.args.bytes.now - length rest ≡ length header + length body = omega (
      arith,
      ap length c.in-Some.ensures.is,
      length-append header (body ++ rest),
      length-append body rest,
    ) in
    inl (header, body, rest, c.in-Some.ensures, refl, end, search rules)
