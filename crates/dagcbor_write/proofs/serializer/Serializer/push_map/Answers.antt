use Rattle.std.proofs.Common.{◌≡◌, refl, lit≤, is_some}
use Rattle.dagcbor_write.specs.Maps.{RefusesKeys}
use Rattle.dagcbor_write.proofs.Mapping.{in_order_written, in_order_good, no_order_written}
use Rattle.dagcbor_write.proofs.Refusals.{stops_with, on_message_with}
use Rattle.dagcbor_write.proofs.serializer.Serializer.push_map.Goals as goal

pub returns-then-put_in_order-clause-written : goal.returns-then-put_in_order-clause-written
returns-then-put_in_order-clause-written g c given h =
    in_order_written given c.args.state.entries c.put_in_order.new.self.entries _ h c.put_in_order.ensures.order (is_some c.args.state.announced) _ _ _ c.if-put_in_order.true (rw c.put_in_order.ensures.announced at c.push_entries.ensures.written)

pub returns-then-put_in_order-clause-well_formed : goal.returns-then-put_in_order-clause-well_formed
returns-then-put_in_order-clause-well_formed g c given h =
    in_order_good given c.args.state.entries c.put_in_order.new.self.entries _ h c.put_in_order.ensures.order _ c.if-put_in_order.true

pub returns-clause-written : goal.returns-clause-written
returns-clause-written g c given h =
    stops_with c.custom.ensures _ _ (no_order_written given c.args.state.entries c.put_in_order.new.self.entries _ h c.put_in_order.ensures.order (is_some c.args.state.announced) c.if-put_in_order.false).0

pub returns-clause-message : goal.returns-clause-message
returns-clause-message g c given h =
    on_message_with c.custom.ensures (lit≤ tt) (λ m. RefusesKeys given m × (c.args.self.now ≡ c.args.self.now)) ((refl, (no_order_written given c.args.state.entries c.put_in_order.new.self.entries _ h c.put_in_order.ensures.order (is_some c.args.state.announced) c.if-put_in_order.false).1), refl)
