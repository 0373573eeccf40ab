use Rattle.std.proofs.Common.{rules, arith, ap, length, map, Ok, subst, ◌+◌}
use Rattle.std.specs.Vec.Iter.{into_iter_items}
use Rattle.dagcbor_heads.specs.Inputs.{input_reading}
use Rattle.program_sections.specs.MergeSteps.{BeginsOne}
use Rattle.program_sections.proofs.Merging.{begun_none, begun_more, begun_told, begun_all, none_told, nil_of}
use Rattle.program_sections.proofs.merge.begin_all.Goals as goal

pub loop-input-init : goal.loop-input-init
loop-input-init g c =
    let gives = c.into_iter-input-iterator.ensures.into_iter_gives in
    let source = input_reading g.R.Read.reading in
    record {
      can_next = tt;
      is_finite = tt;
      count = search rules;
      room = omega (arith, gives.2);
      begun = begun_none g.R.Read.reading (map source c.args.inputs.items) (map source (into_iter_items c.into_iter-input-iterator.result)) (record { roots = c.new.result; files = c.new-2.result }) (ap (map source) gives.0) c.new-2.ensures.items c.new.ensures.listed c.new.ensures.seen;
    }

pub returns-in-Some-2 : goal.returns-in-Some-2
returns-in-Some-2 g c =
    let source = input_reading g.R.Read.reading in
    begun_told g.R.Read.reading (map source c.args.inputs.items) (map source (into_iter_items c.loop-input.input-iterator)) (map source (into_iter_items c.next.new.self)) (source c.in-Some.input) c.loop-input.number c.loop-input.begun c.begin.new.begun c.in-Some-2.line
    c.loop-input.invariant.begun (ap (map source) c.in-Some.ensures.steps.0) (subst (λ x. BeginsOne g.R.Read.reading (c.loop-input.number + 1) (source c.in-Some.input) c.loop-input.begun (Ok x) c.begin.new.begun) c.in-Some-2.is c.in_ok-line.ensures)

pub loop-input-preserved : goal.loop-input-preserved
loop-input-preserved g c =
    let source = input_reading g.R.Read.reading in
    let count = ap length c.in-Some.ensures.steps.0 in
    record {
      can_next = tt;
      is_finite = tt;
      count = omega (arith, c.in-Some.ensures.steps.1, c.loop-input.invariant.count, count);
      room = omega (arith, c.in-Some.ensures.steps.1, c.loop-input.invariant.room);
      begun = begun_more g.R.Read.reading (map source c.args.inputs.items) (map source (into_iter_items c.loop-input.input-iterator)) (map source (into_iter_items c.next.new.self)) (source c.in-Some.input) c.loop-input.number c.loop-input.begun c.begin.new.begun
          c.loop-input.invariant.begun (ap (map source) c.in-Some.ensures.steps.0) (subst (λ x. BeginsOne g.R.Read.reading (c.loop-input.number + 1) (source c.in-Some.input) c.loop-input.begun (Ok x) c.begin.new.begun) (none_told c.in_ok-line.field-0 (search rules)) c.in_ok-line.ensures);
    }

pub returns : goal.returns
returns g c =
    let source = input_reading g.R.Read.reading in
    begun_all g.R.Read.reading (map source c.args.inputs.items) (map source (into_iter_items c.loop-input.input-iterator)) c.loop-input.number c.loop-input.begun c.loop-input.invariant.begun (ap (map source) (nil_of (into_iter_items c.loop-input.input-iterator) _ c.in-None.ensures.steps.0 c.loop-input.invariant.count))
