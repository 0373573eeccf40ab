use Rattle.std.proofs.Common.{rules, ◌≡◌, ap, length, arith, ◌∙◌, subst}
use Rattle.abi_calls.specs.Packed.{Packs}
use Rattle.abi_calls.proofs.Putting.{none_packed, one_packed, all_packed, some_left_packed}
use Rattle.abi_calls.proofs.links.pack.Goals as goal

pub loop-found-init : goal.loop-found-init
loop-found-init c = none_packed c.args.items.now c.new-packed.result c.requires c.new-packed.ensures.needed (omega (arith, ap length c.new-packed.ensures.bytes))

pub next_link-requires : goal.next_link-requires
next_link-requires c = some_left_packed c.loop-found.invariant

pub loop-found-preserved : goal.loop-found-preserved
loop-found-preserved c = one_packed _ _ _ _ _ _ _ _ c.loop-found.invariant c.put_cid.ensures c.in-Some.ensures.link

pub returns : goal.returns
returns c links h =
    let packed = c.loop-found.packed in
    let chain = c.loop-found.invariant.put.same_reference ∙ c.new-packed.ensures.reference in
    let bytes : c.new-packed.result.out.now ≡ c.args.out.now = c.new-packed.ensures.bytes in
    let now = all_packed c.args.items.now c.new-packed.result.out.ghost_name c.new-packed.result.out.now c.loop-found.rest.now packed (omega arith) c.loop-found.invariant c.in_default.ensures.link in
    let k = subst (λ old. Packs c.args.items.now old packed.out.now packed.needed) bytes now links h in
    (k.0, λ room. (search (rules, chain)) ∙ k.1 room)
