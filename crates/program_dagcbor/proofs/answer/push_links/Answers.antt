use Rattle.std.proofs.Common.{◌∙◌, map, take}
use Rattle.hex.specs.Hex.{encode_lower}
use Rattle.ipld_tree.specs.Cid.{cid_bytes}
use Rattle.program_dagcbor.specs.Answers.{after_spaces}
use Rattle.program_dagcbor.proofs.LinkLines.{link_after, links_ended, all_kept, kept_front, kept_before, kept_before_space, no_answer}
use Rattle.program_dagcbor.proofs.answer.push_links.Goals as goal

pub loop-link-preserved : goal.loop-link-preserved
loop-link-preserved c = link_after _ _ c.link-item.result _ _ _ _ c.loop-link-test.true c.link-item.is c.loop-link.invariant c.in_ok-push.ensures.items c.in_ok-push_link-2.ensures.written

pub returns-clause-kept : goal.returns-clause-kept
returns-clause-kept c = kept_front c.args.out.now.items _ (links_ended c.args.others.now c.loop-link.link-index c.args.out.now.items (encode_lower (cid_bytes c.args.first.now)) _ _ c.loop-link-test.false c.loop-link.invariant c.in_ok-push-2.ensures.items)

pub returns-clause-written : goal.returns-clause-written
returns-clause-written c = links_ended c.args.others.now c.loop-link.link-index c.args.out.now.items (encode_lower (cid_bytes c.args.first.now)) _ _ c.loop-link-test.false c.loop-link.invariant c.in_ok-push-2.ensures.items

pub returns-in_err-push : goal.returns-in_err-push
returns-in_err-push c = record { kept = kept_before c.args.out.now.items _ _ (c.in_err-push.ensures.items ∙ c.loop-link.invariant); written = no_answer _ _ c.from_residual-in_err-push.ensures.0 }

pub returns-in_err-push-2 : goal.returns-in_err-push-2
returns-in_err-push-2 c = record { kept = kept_before c.args.out.now.items _ _ (c.in_err-push-2.ensures.items ∙ c.loop-link.invariant); written = no_answer _ _ c.from_residual-in_err-push-2.ensures.0 }

pub returns-in_err-push_link : goal.returns-in_err-push_link
returns-in_err-push_link c = record { kept = all_kept c.args.out.now.items c.in_err-push_link.ensures.same; written = no_answer _ _ c.from_residual.ensures.0 }

pub returns-in_err-push_link-2 : goal.returns-in_err-push_link-2
returns-in_err-push_link-2 c = record {
  kept = kept_before_space c.args.out.now.items (encode_lower (cid_bytes c.args.first.now)) (after_spaces (map cid_bytes (take c.loop-link.link-index c.args.others.now))) c.loop-link.invariant c.in_ok-push.ensures.items c.in_err-push_link-2.ensures.same;
  written = no_answer _ _ c.from_residual-in_err-push_link-2.ensures.0;
}
