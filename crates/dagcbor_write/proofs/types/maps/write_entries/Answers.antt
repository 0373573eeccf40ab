use Rattle.std.proofs.Common.{rules, ap, sym, refl, inl, inr, arith}
use Rattle.dagcbor_write.proofs.Fields.{begin_map, next_pair, exit_key, all_given, left_as}
use Rattle.dagcbor_write.proofs.KeyOrder.{IsKeyedBy, keyed_pair, keyed_written, keyed_well_formed, keyed_none}
use Rattle.dagcbor_write.proofs.Refusals.{stops_with, on_message_with}
use Rattle.dagcbor_write.proofs.Messages.{message_tells}
use Rattle.dagcbor_write.proofs.MapMessages.{key_message, keyed_twice, keyed_lacks}
use Rattle.dagcbor_write.specs.Keyed.{RefusesKeyedValue}
use Rattle.dagcbor_write.specs.Maps.{RefusesMap}
use Rattle.dagcbor_write.proofs.types.maps.write_entries.Goals as goal

pub loop-key-init : goal.loop-key-init
loop-key-init g c =
    record {
      can_next = search rules;
      is_finite = search rules;
      given = λ rest shows. left_as (ap rest (sym c.into_iter-key-iterator.ensures.into_iter_gives)) (begin_map (IsKeyedBy g.V.Serialize.tree) (rest c.args.entries) _ c.in-Ok.ensures);
    }

pub loop-key-preserved : goal.loop-key-preserved
loop-key-preserved g c =
    record {
      can_next = search rules;
      is_finite = search rules;
      given = λ rest shows. next_pair (left_as (shows _ _ _ c.in-Some.ensures.steps) (c.loop-key.invariant.given rest shows)) _ _ (keyed_pair g.V.Serialize.tree _ _ _ _ c.in_ok-take.ensures) c.in_ok-take.ensures.2;
    }

pub returns-in_err-take-clause-written : goal.returns-in_err-take-clause-written
returns-in_err-take-clause-written g c rest shows =
    exit_key (left_as (shows _ _ _ c.in-Some.ensures.steps) (c.loop-key.invariant.given rest shows)) _ _ _ _ c.in_err-take.ensures c.from_residual.ensures.1 refl

pub returns-then-not-put_in_order-clause-written : goal.returns-then-not-put_in_order-clause-written
returns-then-not-put_in_order-clause-written g c rest shows =
    let given = all_given (left_as (shows _ _ _ c.in-None.ensures.steps).0 (c.loop-key.invariant.given rest shows)) in
    stops_with c.custom.ensures _ _ (keyed_none g.V.Serialize.tree _ _ _ _ given c.put_in_order.ensures (search rules))

pub returns-clause-written : goal.returns-clause-written
returns-clause-written g c rest shows =
    let given = all_given (left_as (shows _ _ _ c.in-None.ensures.steps).0 (c.loop-key.invariant.given rest shows)) in
    keyed_written g.V.Serialize.tree _ _ _ _ given c.put_in_order.ensures _ _ _ (search rules) c.write.ensures.written

pub returns-clause-well_formed : goal.returns-clause-well_formed
returns-clause-well_formed g c rest shows =
    let given = all_given (left_as (shows _ _ _ c.in-None.ensures.steps).0 (c.loop-key.invariant.given rest shows)) in
    keyed_well_formed g.V.Serialize.tree _ _ _ _ given c.put_in_order.ensures _ (search rules) c.write.ensures.well_formed

pub returns-in_err-take-clause-message : goal.returns-in_err-take-clause-message
returns-in_err-take-clause-message g c rest shows =
    key_message (left_as (shows _ _ _ c.in-Some.ensures.steps) (c.loop-key.invariant.given rest shows)) _ _ c.in_err-take.ensures c.from_residual.ensures.1 refl

pub returns-then-not-put_in_order-clause-message : goal.returns-then-not-put_in_order-clause-message
returns-then-not-put_in_order-clause-message g c rest shows =
    let given = all_given (left_as (shows _ _ _ c.in-None.ensures.steps).0 (c.loop-key.invariant.given rest shows)) in
    let twice = keyed_twice g.V.Serialize.tree _ _ _ _ given c.put_in_order.ensures (search rules) in
    on_message_with c.custom.ensures (omega arith) (RefusesMap c.args.ser.now c.args.ser.now (rest c.args.entries)) (inl (inr (refl, twice), refl))

pub returns-clause-message : goal.returns-clause-message
returns-clause-message g c rest shows =
    let given = all_given (left_as (shows _ _ _ c.in-None.ensures.steps).0 (c.loop-key.invariant.given rest shows)) in
    let lacks = keyed_lacks g.V.Serialize.tree _ _ _ _ given c.put_in_order.ensures in
    message_tells (RefusesKeyedValue g.V.Serialize.tree c.put_in_order.new.self) (RefusesMap c.args.ser.now c.write.new.ser (rest c.args.entries)) _ (λ m h. inr (h.0, lacks h.1)) c.write.ensures.message
