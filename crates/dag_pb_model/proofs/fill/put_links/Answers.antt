use Rattle.dag_pb.specs.Reads.{link_of}
use Rattle.dag_pb_model.proofs.Filling.{one_placed, all_placed}
use Rattle.dag_pb_model.proofs.fill.put_links.Goals as goal

pub loop-link-preserved : goal.loop-link-preserved
loop-link-preserved c =
    let g = c.loop-link.invariant in
    let found = c.in-Some.ensures.link g.left g.begins in
    one_placed c.args.fields.now c.loop-link.rest.now c.in-Some.following.now c.args.out.now c.loop-link.out c.put_model_of-place.new.out c.args.at c.loop-link.place c.put_model_of-place.result (link_of c.in-Some.link) found.0 g found.2 found.1 c.put_model_of-place.ensures

pub returns : goal.returns
returns c row h =
    let g = c.loop-link.invariant in
    all_placed c.args.fields.now c.loop-link.rest.now c.args.out.now c.loop-link.out c.args.at c.loop-link.place g (c.in_default.ensures.link g.left g.begins) row h
