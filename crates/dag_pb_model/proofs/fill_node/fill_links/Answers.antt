use Rattle.dag_pb.specs.Reads.{link_of}
use Rattle.dag_pb.proofs.Fields.{empty_there, some_there}
use Rattle.dag_pb_model.proofs.NodeFilling.{none_filled, link_there, link_room, one_filled, all_filled}
use Rattle.dag_pb_model.proofs.fill_node.fill_links.Goals as goal

pub loop-rest-init : goal.loop-rest-init
loop-rest-init c = none_filled c.args.links.now c.args.out.now c.requires

pub unreachable-requires : goal.unreachable-requires
unreachable-requires c = link_there _ c.loop-rest.rest.now _ _ _ (some_there c.loop-rest.rest.now c.is_empty.result c.is_empty.ensures c.loop-rest-test.true) c.loop-rest.invariant c.in_default.ensures

pub put_link-at-requires : goal.put_link-at-requires
put_link-at-requires c = link_room c.args.links.now c.loop-rest.rest.now c.in-Some.following.now c.args.out.now c.loop-rest.out c.loop-rest.at (link_of c.in-Some.link) (some_there c.loop-rest.rest.now c.is_empty.result c.is_empty.ensures c.loop-rest-test.true) c.in-Some.ensures c.loop-rest.invariant

pub loop-rest-preserved : goal.loop-rest-preserved
loop-rest-preserved c = one_filled c.args.links.now c.loop-rest.rest.now c.in-Some.following.now c.args.out.now c.loop-rest.out c.put_link-at.new.out c.loop-rest.at c.put_link-at.result (link_of c.in-Some.link) (some_there c.loop-rest.rest.now c.is_empty.result c.is_empty.ensures c.loop-rest-test.true) c.in-Some.ensures c.put_link-at.ensures c.loop-rest.invariant

pub returns : goal.returns
returns c = all_filled c.args.links.now c.loop-rest.rest.now c.args.out.now c.loop-rest.out c.loop-rest.at (empty_there c.loop-rest.rest.now c.is_empty.result c.is_empty.ensures c.loop-rest-test.false) c.loop-rest.invariant
