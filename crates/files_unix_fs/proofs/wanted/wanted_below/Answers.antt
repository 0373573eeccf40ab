use Rattle.std.proofs.Common.{map, sym, ap, ◌∙◌, subst}
use Rattle.std.proofs.lemmas.Result.{err_from_is_err_and}
use Rattle.dag_pb.specs.Reads.{link_of}
use Rattle.files_unix_fs.specs.Reading.{asked}
use Rattle.files_unix_fs.proofs.Pairing.{IsPairedTo, next_cid, no_cids, one_paired, too_few_sizes, too_many_sizes, some_cids, all_paired, asked-append}
use Rattle.files_unix_fs.proofs.wanted.wanted_below.Goals as goal

pub loop-link-preserved : goal.loop-link-preserved
loop-link-preserved c =
    let k = next_cid c.loop-link.links.now c.in-Some.more_links.now (link_of c.in-Some.link) c.loop-link.invariant.row c.in-Some.ensures.link in
    subst (λ before. IsPairedTo c.args.depth c.args.block.now c.args.sizes.now before c.in-Some.more_links.now c.in-Some-next_size.more_sizes.now)
    (sym (ap (map asked) c.in_ok-push_one.ensures ∙ asked-append c.loop-link.wanted.items _))
    (one_paired c.args.depth c.args.block.now c.args.sizes.now (map asked c.loop-link.wanted.items) c.loop-link.links.now c.loop-link.rest.now c.in-Some.more_links.now c.in-Some-next_size.more_sizes.now _ c.in-Some-next_size.size c.loop-link.invariant k.0 k.1 c.in-Some-next_size.ensures.size)

pub returns-in_default-next_size : goal.returns-in_default-next_size
returns-in_default-next_size c =
    let k = next_cid c.loop-link.links.now c.in-Some.more_links.now (link_of c.in-Some.link) c.loop-link.invariant.row c.in-Some.ensures.link in
    too_few_sizes c.args.depth c.args.block.now c.args.sizes.now (map asked c.loop-link.wanted.items) c.loop-link.links.now c.loop-link.rest.now _ _ c.loop-link.invariant k.1 c.in_default-next_size.ensures.size

pub returns-in-None : goal.returns-in-None
returns-in-None c =
    all_paired c.args.depth c.args.block.now c.args.sizes.now (map asked c.loop-link.wanted.items) c.loop-link.links.now c.loop-link.rest.now c.loop-link.invariant
    (no_cids c.loop-link.links.now c.loop-link.invariant.row c.in_default.ensures.link) c.in-None.ensures.size

pub returns-in-Some-next_size-2 : goal.returns-in-Some-next_size-2
returns-in-Some-next_size-2 c =
    too_many_sizes c.args.depth c.args.block.now c.args.sizes.now (map asked c.loop-link.wanted.items) c.loop-link.links.now c.loop-link.rest.now _ _ c.loop-link.invariant
    (no_cids c.loop-link.links.now c.loop-link.invariant.row c.in_default.ensures.link) c.in-Some-next_size-2.ensures.size

pub returns-in_err-push_one : goal.returns-in_err-push_one
returns-in_err-push_one c =
    let k = next_cid c.loop-link.links.now c.in-Some.more_links.now (link_of c.in-Some.link) c.loop-link.invariant.row c.in-Some.ensures.link in
    let p = err_from_is_err_and c.from_residual.result c.from_residual.ensures.1 in
    rw (p.1, p.2, c.in_err-push_one.ensures.0) (some_cids c.args.depth c.args.block.now c.args.sizes.now (map asked c.loop-link.wanted.items) c.loop-link.links.now c.loop-link.rest.now _ _ c.loop-link.invariant k.1)
