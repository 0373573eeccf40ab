use Rattle.std.proofs.Common.{◌≡◌, ap, sym, ◌∙◌, Some, subst, arith, OnOk, IfOk, IfErr}
use Rattle.std.proofs.lemmas.Result.{err_from_is_err_and}
use Rattle.atproto_mst.specs.Entries.{entries}
use Rattle.atproto_mst.specs.Finding.{lookup}
use Rattle.atproto_mst.specs.Changes.{SetRefused, set_entry}
use Rattle.atproto_mst.proofs.Changing.{stands_in, would_in, set_at, insert_at, record_at, no_record_at}
use Rattle.atproto_mst.proofs.change.put_entry.Goals as goal
use Rattle.atproto_mst.proofs.change.put_entry.Goals.{in-Ok-insert, in-Err-insert}

pub returns-in_err-entry-in-Err-clause-refused : goal.returns-in_err-entry-in-Err-clause-refused
returns-in_err-entry-in-Err-clause-refused c =
    let p = err_from_is_err_and c.from_residual.result c.from_residual.ensures.1 in
    rw (p.1, p.2) (
      (omega (arith, c.if-length-lt1.false), omega (arith, c.if-length-gt-LONGEST_KEY.false)),
      λ rise. no_record_at c.args.key.now (entries c.args.all.now.items) c.in-Err.at (would_in c.args.key.now c.in-Err.at c.deref.result.now c.args.all.now.items c.deref.ensures.value c.in-Err.ensures.place rise)
          rise,
    )

pub returns-in-Ok-clause-put : goal.returns-in-Ok-clause-put
returns-in-Ok-clause-put c rise = set_at c.args.key.now c.args.value c.args.all.now.items c.in-Ok.at _ c.index_mut.result.now (stands_in c.args.key.now c.in-Ok.at c.deref.result.now c.args.all.now.items c.deref.ensures.value c.in-Ok.ensures.place rise)
    (ap (λ e. e.key.items) c.index_mut.ensures.value) c.replace.ensures.after

pub returns-in-Ok-clause-before : goal.returns-in-Ok-clause-before
returns-in-Ok-clause-before c rise = ap Some (c.replace.ensures.value ∙ ap (λ e. e.value) c.index_mut.ensures.value)
    ∙ sym (record_at c.args.key.now c.args.all.now.items c.in-Ok.at c.index_mut.result.now (stands_in c.args.key.now c.in-Ok.at c.deref.result.now c.args.all.now.items c.deref.ensures.value c.in-Ok.ensures.place rise) rise)

pub returns-after-insert-clause-put : goal.returns-after-insert-clause-put
returns-after-insert-clause-put c rise = elim c.match-insert.branch [
  | in-Ok-insert w ↦ subst (λ r. OnOk r (entries c.insert.new.self.items ≡ set_entry c.args.key.now c.args.value (entries c.args.all.now.items))) (sym w.result-is)
      (ap entries w.in-Ok-insert.ensures.items
      ∙ insert_at c.args.key.now c.args.value c.args.all.now.items c.in-Err.at c.in_ok-entry-in-Err.entry (would_in c.args.key.now c.in-Err.at c.deref.result.now c.args.all.now.items c.deref.ensures.value c.in-Err.ensures.place rise) c.in_ok-entry-in-Err.ensures.0 c.in_ok-entry-in-Err.ensures.1)
  | in-Err-insert w ↦ subst (λ r. OnOk r (entries c.insert.new.self.items ≡ set_entry c.args.key.now c.args.value (entries c.args.all.now.items))) (sym w.result-is) tt
]

pub returns-after-insert-clause-before : goal.returns-after-insert-clause-before
returns-after-insert-clause-before c rise = elim c.match-insert.branch [
  | in-Ok-insert w ↦ subst (λ r. IfOk r (λ before. before ≡ lookup c.args.key.now (entries c.args.all.now.items))) (sym w.result-is)
      (sym (no_record_at c.args.key.now (entries c.args.all.now.items) c.in-Err.at (would_in c.args.key.now c.in-Err.at c.deref.result.now c.args.all.now.items c.deref.ensures.value c.in-Err.ensures.place rise) rise))
  | in-Err-insert w ↦ subst (λ r. IfOk r (λ before. before ≡ lookup c.args.key.now (entries c.args.all.now.items))) (sym w.result-is) tt
]

pub returns-after-insert-clause-refused : goal.returns-after-insert-clause-refused
returns-after-insert-clause-refused c = elim c.match-insert.branch [
  | in-Ok-insert w ↦ subst (λ r. IfErr r (SetRefused c.args.key.now (entries c.args.all.now.items))) (sym w.result-is) tt
  | in-Err-insert w ↦ subst (λ r. IfErr r (SetRefused c.args.key.now (entries c.args.all.now.items))) (sym w.result-is) (
    (omega (arith, c.if-length-lt1.false), omega (arith, c.if-length-gt-LONGEST_KEY.false)),
    λ rise. no_record_at c.args.key.now (entries c.args.all.now.items) c.in-Err.at (would_in c.args.key.now c.in-Err.at c.deref.result.now c.args.all.now.items c.deref.ensures.value c.in-Err.ensures.place rise) rise,
  )
]
