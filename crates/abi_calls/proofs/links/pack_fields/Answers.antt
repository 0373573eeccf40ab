use Rattle.std.proofs.Common.{rules, ◌≡◌, ap, length, arith, ◌∙◌, subst}
use Rattle.abi_calls.specs.Packed.{PacksFields}
use Rattle.abi_calls.proofs.PackedFields.{no_field_packed, one_field_packed, all_fields_packed}
use Rattle.abi_calls.proofs.links.pack_fields.Goals as goal

pub loop-link-init : goal.loop-link-init
loop-link-init c = no_field_packed c.args.fields.now c.new-packed.result c.requires c.new-packed.ensures.needed (omega (arith, ap length c.new-packed.ensures.bytes))

pub next_link-requires : goal.next_link-requires
next_link-requires c = c.loop-link.invariant.left

pub loop-link-preserved : goal.loop-link-preserved
loop-link-preserved c = one_field_packed _ _ _ _ _ _ _ _ c.loop-link.invariant c.put_cid.ensures c.in-Some.ensures.link c.in-Some.ensures.shorter

pub returns : goal.returns
returns c row h =
    let packed = c.loop-link.packed in
    let chain = c.loop-link.invariant.put.same_reference ∙ c.new-packed.ensures.reference in
    let bytes : c.new-packed.result.out.now ≡ c.args.out.now = c.new-packed.ensures.bytes in
    let now = all_fields_packed c.args.fields.now c.new-packed.result.out.ghost_name c.new-packed.result.out.now c.loop-link.rest.now packed (omega arith) c.loop-link.invariant c.in_default.ensures.link in
    let k = subst (λ old. PacksFields c.args.fields.now old packed.out.now packed.needed) bytes now row h in
    (k.0, λ room. (search (rules, chain)) ∙ k.1 room)
