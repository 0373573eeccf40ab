use Rattle.std.proofs.Common.{refl}
use Rattle.dagcbor_heads.proofs.Writing.{next_part, exit_part, all_written}
use Rattle.dagcbor_write.specs.declared.places.Place.{Place}
use Rattle.dagcbor_write.specs.Rows.{pair_at}
use Rattle.dagcbor_write.proofs.PlaceOrder.{begin_places, at_pair, no_pair_left, good_pair, all_good}
use Rattle.dagcbor_write.proofs.structs.write_places.Goals as goal

pub loop-place-init : goal.loop-place-init
loop-place-init g c = record {
  written = begin_places (g.F.FieldRow.pairs c.args.fields.now) c.args.places.now _;
  well_formed = λ all. all;
}

pub returns-in_err-write_field-clause-written : goal.returns-in_err-write_field-clause-written
returns-in_err-write_field-clause-written g c =
    let pair = λ (e : Place). pair_at (g.F.FieldRow.pairs c.args.fields.now) e.at in
    exit_part
    (at_pair pair c.args.places.now _ _ _ c.loop-place-test.true refl
    c.loop-place.invariant.written) _ _ _ c.from_residual.ensures.1 c.in_err-write_field.ensures.written

pub loop-place-preserved : goal.loop-place-preserved
loop-place-preserved g c =
    let pair = λ (e : Place). pair_at (g.F.FieldRow.pairs c.args.fields.now) e.at in
    let good = c.in_ok-write_field.ensures.well_formed in
    record {
      written = next_part
          (at_pair pair c.args.places.now _ _ _ c.loop-place-test.true refl c.loop-place.invariant.written)
          _ c.in_ok-write_field.ensures.written;
      well_formed = good_pair pair c.args.places.now _ _ _ c.loop-place-test.true refl
          c.loop-place.invariant.well_formed good;
    }

pub returns-clause-written : goal.returns-clause-written
returns-clause-written g c =
    let pair = λ (e : Place). pair_at (g.F.FieldRow.pairs c.args.fields.now) e.at in
    all_written (no_pair_left pair c.args.places.now _ c.loop-place-test.false
    c.loop-place.invariant.written)

pub returns-clause-well_formed : goal.returns-clause-well_formed
returns-clause-well_formed g c =
    all_good (λ (e : Place). pair_at (g.F.FieldRow.pairs c.args.fields.now) e.at)
    c.args.places.now _ c.loop-place-test.false c.loop-place.invariant.well_formed
