use Rattle.std.proofs.Common.{inl, sym, ◌∙◌, subst}
use Rattle.sqlite_trees.specs.View.{IsClean}
use Rattle.ipld_links.specs.Blocks.{IsBlockOf}
use Rattle.ipld_links.specs.Verdicts.{IsVerdictOn}
use Rattle.store_on_disk.specs.Lost.{AddsLost}
use Rattle.program_dagstore.specs.Checks.{AddsUnlistedLinks}
use Rattle.program_dagstore.proofs.Missing.{linked_by, unlinked_by, adds_block, adds_refused}
use Rattle.program_dagstore.proofs.check.judged_said.Goals as goal
use Rattle.program_dagstore.proofs.check.judged_said.Goals.{then-is_linked+in_ok-add_lost, else-is_linked}

pub add_lost-requires : goal.add_lost-requires
add_lost-requires g c =
    subst (λ n. IsBlockOf n c.args.block.now) (c.codec.ensures ∙ sym c.codec-then-is_linked.ensures) (linked_by c.codec.result c.args.block.now c.verdict_on-verdict.result c.verdict_on-verdict.ensures (sym c.is_linked.ensures ∙ c.if-is_linked.true))

pub returns-clause-said : goal.returns-clause-said
returns-clause-said g c = λ named given.
    inl (c.args.block.now, c.verdict_on-verdict.result, named, subst (λ n. IsVerdictOn n c.args.block.now c.verdict_on-verdict.result) c.codec.ensures c.verdict_on-verdict.ensures, given, c.in_ok-verdict_line.ensures.well, c.in_ok-verdict_line.ensures.line c.args.block.now)

pub returns-clause-missing : goal.returns-clause-missing
returns-clause-missing g c = λ named clean only.
    let v = g.S.Store.view c.args.store.now in
    let name = c.args.name.now in
    let block = c.args.block.now in
    let old = c.args.missing.now in
    elim c.if-is_linked.branch [
      | then-is_linked+in_ok-add_lost w ↦ subst (AddsUnlistedLinks v name old) (sym w.missing-is)
          (adds_block v name block old w.add_lost.new.lost only named (subst (λ n. AddsLost v n block old w.add_lost.new.lost) w.codec-then-is_linked.ensures (w.in_ok-add_lost.ensures.ok (subst (λ s. IsClean (g.S.Store.view s)) w.store-is clean))))
      | else-is_linked w ↦ subst (AddsUnlistedLinks v name old) (sym w.missing-is)
          (adds_refused v name block old only (λ k. unlinked_by c.codec.result block c.verdict_on-verdict.result c.verdict_on-verdict.ensures (sym c.is_linked.ensures ∙ w.if-is_linked.false) (subst (λ n. IsBlockOf n block) (sym c.codec.ensures) k)))
    ]
