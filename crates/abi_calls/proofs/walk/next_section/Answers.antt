use Rattle.std.proofs.Common.{rules, w32, subst, sym, ℤ}
use Rattle.std.proofs.lemmas.Int.{to_z-of_z}
use Rattle.abi_calls.specs.Walks.{IsSectionCode}
use Rattle.abi_calls.proofs.Walking.{section_next}
use Rattle.abi_calls.proofs.walk.next_section.Goals as goal

pub returns-in-Ok : goal.returns-in-Ok
returns-in-Ok c =
    let judged = subst (λ (z : ℤ). IsSectionCode c.args.is_unjudged (c.in-Ok.section.cid, c.in-Ok.section.block.now) z) (sym (to_z-of_z w32 c.section_code.result (search rules))) c.section_code.ensures in
    section_next c.args.is_last c.args.is_unjudged c.args.walk.now c.args.bytes.now c.shown-shown.result.now c.in-Ok.rest.now c.args.places.now c.places_of.result (c.in-Ok.section.cid, c.in-Ok.section.block.now) _ c.shown-shown.ensures c.in-Ok.ensures judged c.places_of.ensures
