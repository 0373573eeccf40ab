use Rattle.std.proofs.Common.{◌≡◌, ◌++◌, ◌&&◌, true, arith, ap, sym, subst, ◌∙◌}
use Rattle.std.proofs.lemmas.Result.{err_from_is_err_and}
use Rattle.dag_pb.specs.Reads.{link_of}
use Rattle.program_parts.specs.Entries.{KnowsWords, IsEntry}
use Rattle.program_parts.specs.Lines.{IsSaidOfEach}
use Rattle.program_parts.proofs.Listing.{IsListedTo, knows_none, none_listed, one_listed, all_listed}
use Rattle.store_on_disk.proofs.Adding.{quiet_itself, quiet_then}
use Rattle.store_on_disk.proofs.Walking.{same_itself, same_then}
use Rattle.program_dagstore.specs.Directories.{IsLinked}
use Rattle.program_dagstore.proofs.Contents.{got_nothing, got_so, got_on, got_stored_so, fails_at}
use Rattle.program_dagstore.proofs.Directories.{linked}
use Rattle.program_dagstore.proofs.directory.entries_got.Goals as goal
use Rattle.program_dagstore.proofs.directory.entries_got.Goals.{then-well, else-well}

pub loop-link-init : goal.loop-link-init
loop-link-init g c =
    let store = g.S.Store.view c.args.store.now in
    let block = c.args.block.now in (
      c.requires,
      quiet_itself g.S.Store c.args.store.now,
      λ clean. same_itself store,
      got_nothing store store (λ stored. KnowsWords stored c.new-known.result × IsListedTo stored block block true c.new-lines.result.items)
          (λ stored. (knows_none stored c.new-known.result c.new-known.ensures.empty, subst (λ x. IsListedTo stored block block true x) (sym c.new-lines.ensures.items) (none_listed stored block c.requires))),
    )

pub loop-link-preserved : goal.loop-link-preserved
loop-link-preserved g c =
    let old = g.S.Store.view c.args.store.now in
    let mid = g.S.Store.view c.loop-link.store in
    let new = g.S.Store.view c.entry_got.new.store in
    let block = c.args.block.now in
    let link = link_of c.in-Some.link in
    let line = c.in_ok-line.line.items in
    let kind = c.in_ok-line.has_kind in
    let both : c.if-well.well ≡ (c.loop-link.well && kind) = elim c.if-well.branch [ then-well w ↦ w.well-is ∙ sym (ap (λ t. t && kind) w.if-well.true) | else-well w ↦ w.well-is ∙ w.if-well.false ∙ sym (ap (λ t. t && kind) w.if-well.false) ] in
    let lines : c.extend_from_slice.new.self.items ≡ c.loop-link.lines.items ++ line = c.in_ok-extend_from_slice.ensures.items ∙ ap (λ x. c.loop-link.lines.items ++ x) c.deref.ensures.value in
    let row = c.in-Some.ensures.link c.loop-link.invariant.0.0 c.loop-link.invariant.0.1 in (
      (row.0, row.1),
      quiet_then g.S.Store c.args.store.now c.loop-link.store c.entry_got.new.store c.loop-link.invariant.1 c.entry_got.ensures.reads.quiet,
      λ clean. same_then old mid new (c.loop-link.invariant.2 (omega (arith, c.entry_got.ensures.reads.quiet.clean))) (c.in_ok-line.ensures.reads.same clean),
      got_on g.S.Store c.args.store.now c.loop-link.store c.entry_got.new.store
          (λ stored. KnowsWords stored c.loop-link.known × IsListedTo stored block c.loop-link.links.now c.loop-link.well c.loop-link.lines.items)
          (λ stored. KnowsWords stored c.loop-link.known → KnowsWords stored c.entry_got.new.known × IsEntry stored link kind line)
          (λ stored. KnowsWords stored c.entry_got.new.known × IsListedTo stored block c.in-Some.more.now c.if-well.well c.extend_from_slice.new.self.items)
          c.loop-link.invariant.2 c.entry_got.ensures.reads.quiet c.loop-link.invariant.3 c.in_ok-line.ensures.says
          (λ stored h f.
          let k = f h.0 in
          let listed = one_listed stored block c.loop-link.links.now c.in-Some.more.now link c.loop-link.well kind c.loop-link.lines.items line h.1 c.in-Some.ensures.link k.1 in
          (k.0, subst (λ w. IsListedTo stored block c.in-Some.more.now w c.extend_from_slice.new.self.items) (sym both) (subst (IsListedTo stored block c.in-Some.more.now (c.loop-link.well && kind)) (sym lines) listed))),
    )

pub returns-in_err-line-clause-fault : goal.returns-in_err-line-clause-fault
returns-in_err-line-clause-fault g c = λ node is.
    let p = err_from_is_err_and c.from_residual.result c.from_residual.ensures.1 in
    let block = c.args.block.now in
    let link = link_of c.in-Some.link in
    rw (p.1, p.2) (fails_at g.S.Store c.args.store.now c.loop-link.store c.entry_got.new.store link.hash (IsLinked node.links) c.in_err-line.field-0.0
    c.loop-link.invariant.1 c.loop-link.invariant.2 c.entry_got.ensures.reads.quiet
    (λ clean stored shows.
    let h = got_stored_so g.S.Store c.args.store.now c.loop-link.store (λ s. KnowsWords s c.loop-link.known × IsListedTo s block c.loop-link.links.now c.loop-link.well c.loop-link.lines.items) c.loop-link.invariant.3 clean stored shows in
    linked stored block c.loop-link.links.now c.in-Some.more.now link c.loop-link.well c.loop-link.lines.items node is h.1 c.in-Some.ensures.link)
    c.in_err-line.ensures.fault)

pub returns-clause-says : goal.returns-clause-says
returns-clause-says g c = λ node is.
    let block = c.args.block.now in
    got_so (g.S.Store.view c.args.store.now) (g.S.Store.view c.loop-link.store)
    (λ stored. KnowsWords stored c.loop-link.known × IsListedTo stored block c.loop-link.links.now c.loop-link.well c.loop-link.lines.items)
    (λ stored. IsSaidOfEach (IsEntry stored) node.links c.loop-link.well c.loop-link.lines.items)
    c.loop-link.invariant.3
    (λ stored h. all_listed stored block c.loop-link.links.now c.loop-link.well c.loop-link.lines.items h.1 c.in_default.ensures.link node is)
