use Rattle.std.proofs.Common.{drop, ◌+◌, ◌∷◌, ap, sym, ◌∙◌, subst}
use Rattle.std.proofs.lemmas.List.{at_drop_more, at_drop_all}
use Rattle.ipld_links.specs.Reaching.{stored_in}
use Rattle.atproto_mst.specs.Entries.{entries, entry_of}
use Rattle.program_records.proofs.AsJson.{SoFar, one_said, all_said}
use Rattle.program_records.proofs.json.records_said.Goals as goal

pub loop-found-preserved : goal.loop-found-preserved
loop-found-preserved c =
    let stored = stored_in c.args.blocks.now in
    let all = entries c.args.records.now in
    one_said stored all (entry_of c.found-item.result) (entries (drop (c.loop-found.found-index + 1) c.args.records.now)) c.loop-found.all.0.1 c.in_ok-next.next.0.1 _ c.loop-found.all.0.0.items c.in_ok-next.next.0.0.items _ c.loop-found.all.1.items c.in_ok-next.next.1.items _
    (subst (λ rest. SoFar stored all rest c.loop-found.all.0.1 c.loop-found.all.0.0.items c.loop-found.all.1.items) (at_drop_more entries c.args.records.now c.loop-found.found-index c.found-item.result c.loop-found-test.true ∙ ap (λ e. entry_of e ∷ entries (drop (c.loop-found.found-index + 1) c.args.records.now)) (sym c.found-item.is)) c.loop-found.invariant)
    c.in_ok-next.ensures c.in_ok-append_answer.ensures.0 c.in_ok-append_answer.ensures.1 c.in_ok-append_answer.ensures.2

pub returns : goal.returns
returns c =
    let stored = stored_in c.args.blocks.now in
    let all = entries c.args.records.now in
    all_said stored all _ _ _ (subst (λ rest. SoFar stored all rest c.loop-found.all.0.1 c.loop-found.all.0.0.items c.loop-found.all.1.items) (at_drop_all entries c.args.records.now c.loop-found.found-index c.loop-found-test.false) c.loop-found.invariant)
