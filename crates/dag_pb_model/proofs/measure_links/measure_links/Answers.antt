use Rattle.std.proofs.Common.{arith, ap, ◌+◌}
use Rattle.dag_pb.specs.Reads.{link_of}
use Rattle.dag_pb_model.proofs.Walking.{no_link_walked, one_fits, one_walked, all_walked, left_after}
use Rattle.dag_pb.proofs.Fields.{empty_there, some_there}
use Rattle.dag_pb_model.proofs.measure_links.measure_links.Goals as goal

pub returns-in_default : goal.returns-in_default
returns-in_default c = no_link_walked _ c.loop-left.rest.now _ _ _ _ _ c.loop-left-test.true c.in_default.ensures c.loop-left.invariant

pub overflow_add-size : goal.overflow_add-size
overflow_add-size c = omega (arith, one_fits c.args.links.now c.loop-left.rest.now c.in-Some.following.now c.args.count c.loop-left.left c.loop-left.size c.loop-left.sorted c.loop-left.last.now (link_of c.in-Some.link) c.in-Some.ensures c.link_length-size.ensures.spellable c.loop-left.invariant, c.link_length-size.ensures.length)

pub loop-left-preserved : goal.loop-left-preserved
loop-left-preserved c = one_walked c.args.links.now c.loop-left.rest.now c.in-Some.following.now c.args.count c.loop-left.left _ c.loop-left.size _ c.loop-left.sorted _ c.loop-left.last.now _ (link_of c.in-Some.link) (omega (arith, c.loop-left-test.true)) c.in-Some.ensures c.link_length-size.ensures.spellable (ap (λ n. c.loop-left.size + n) c.link_length-size.ensures.length) c.sort_name-name.ensures c.are_still_sorted-sorted.ensures c.loop-left.invariant

pub returns-then-not-is_empty : goal.returns-then-not-is_empty
returns-then-not-is_empty c = left_after _ c.loop-left.rest.now _ c.loop-left.left _ _ _ (omega (arith, c.loop-left-test.false)) (some_there c.loop-left.rest.now c.is_empty.result c.is_empty.ensures c.if-not-is_empty.true) c.loop-left.invariant

pub returns : goal.returns
returns c = all_walked _ c.loop-left.rest.now _ c.loop-left.left _ _ _ (omega (arith, c.loop-left-test.false)) (empty_there c.loop-left.rest.now c.is_empty.result c.is_empty.ensures c.if-not-is_empty.false) c.loop-left.invariant
