use Rattle.std.proofs.Common.{arith, sym, ◌∙◌, subst}
use Rattle.ipld_tree.specs.CidFault.{IsVarintFault, IsCutVarint}
use Rattle.files_car.specs.Splits.{CountFault}
use Rattle.files_car.specs.Sources.{IsShort}
use Rattle.dagcbor_heads.proofs.Looking.{some_then, taken_left}
use Rattle.files_car.proofs.Pulling.{handed_on, refused_off, no_group, cut_there, length_taken, length_most, no_length, group_more, last_looked, no_more_groups}
use Rattle.files_car.proofs.pull.pull_length.Goals as goal

pub loop-place-init : goal.loop-place-init
loop-place-init g c = no_group _ _ _ c.new-groups.ensures

pub returns-in_err-byte-clause-taken : goal.returns-in_err-byte-clause-taken
returns-in_err-byte-clause-taken g c =
    let h = c.loop-place.invariant in
    handed_on _ _ _ _ c.from_residual.ensures.1 (refused_off (IsShort 1) CountFault _ _ h.takes (λ rest s. cut_there _ _ rest h.cut s) c.in_err-byte.ensures.taken)

pub returns-in-Ok-clause-taken : goal.returns-in-Ok-clause-taken
returns-in-Ok-clause-taken g c = (c.in-Ok.ensures.0, length_taken c.in-Ok._rest.now c.loop-place.invariant c.in_ok-byte.ensures.taken c.in-Ok.ensures.0 (sym c.push.ensures.items ∙ sym c.deref.ensures.0 ∙ c.in-Ok.ensures.1))

pub returns-in_default-clause-taken : goal.returns-in_default-clause-taken
returns-in_default-clause-taken g c = no_length c.loop-place.invariant c.in_ok-byte.ensures.taken c.in-Err.fault c.in-Err.ensures c.in_default.not-Truncated (c.deref.ensures.0 ∙ c.push.ensures.items)

pub returns-in_err-byte-clause-looked : goal.returns-in_err-byte-clause-looked
returns-in_err-byte-clause-looked g c = handed_on _ _ _ _ c.from_residual.ensures.1 (some_then c.loop-place.invariant.looked c.in_err-byte.ensures.looked)

pub returns-in-Ok-clause-looked : goal.returns-in-Ok-clause-looked
returns-in-Ok-clause-looked g c = last_looked c.loop-place.invariant.looked c.in_ok-byte.ensures.looked

pub returns-in-Ok-clause-at_most : goal.returns-in-Ok-clause-at_most
returns-in-Ok-clause-at_most g c = length_most (g.R.Read.reading c.pull_next.new.reader) c.in_ok-byte.byte c.in-Ok.number c.in-Ok._rest.now c.loop-place.invariant c.in_ok-byte.ensures.at_most c.in-Ok.ensures.0 (sym c.push.ensures.items ∙ sym c.deref.ensures.0 ∙ c.in-Ok.ensures.1)

pub returns-in_default-clause-looked : goal.returns-in_default-clause-looked
returns-in_default-clause-looked g c = taken_left (last_looked c.loop-place.invariant.looked c.in_ok-byte.ensures.looked)

pub returns-clause-looked : goal.returns-clause-looked
returns-clause-looked g c = absurd (no_more_groups c.loop-place.invariant (omega arith))

pub loop-place-preserved : goal.loop-place-preserved
loop-place-preserved g c = group_more c.loop-place.invariant c.in_ok-byte.ensures.taken c.in_ok-byte.ensures.looked c.in_ok-byte.ensures.at_most c.push.ensures.items (subst IsCutVarint c.deref.ensures.0 (subst (λ f. IsVarintFault f c.deref.result.now) c.in-Truncated.is c.in-Err.ensures))

pub returns-clause-taken : goal.returns-clause-taken
returns-clause-taken g c = absurd (no_more_groups c.loop-place.invariant (omega arith))
