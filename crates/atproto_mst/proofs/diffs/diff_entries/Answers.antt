use Rattle.std.proofs.Common.{◌≡◌, ◌≢◌, ◌⊎◌, inl, inr, [], ◌∷◌, ◌++◌, Some, None, sym, ap, ◌∙◌, subst, arith, length, drop}
use Rattle.std.specs.declared.cmp.Ordering.TheVariants.{Less, Equal, Greater}
use Rattle.atproto_mst.specs.Entries.{entries}
use Rattle.atproto_mst.specs.Changes.{changes, AreChanges}
use Rattle.atproto_mst.specs.Merging.{removed, added}
use Rattle.atproto_mst.proofs.Merging.{diff_of, order_of, merged_less, merged_equal, merged_greater, merged_end, others_less, others_greater, same_after, rest_all, none_left, are_changes}
use Rattle.atproto_mst.proofs.Refusals.{err_so}
use Rattle.atproto_mst.proofs.diffs.diff_entries.Goals as goal
use Rattle.atproto_mst.proofs.diffs.diff_entries.Goals.{then-loop-i-test+else-j-new, else-loop-i-test}

pub returns-in_err-add_change-in-Less-clause-memory : goal.returns-in_err-add_change-in-Less-clause-memory
returns-in_err-add_change-in-Less-clause-memory c =
    let e = c.index-old-i.result in
    let f = c.index-new-j.result in
    err_so (entries c.args.old.now ≢ entries c.args.new.now) c.from_residual.result
    (others_less c.args.old.now c.args.new.now c.loop-i.i c.loop-i.j e f c.index-old-i.is c.index-new-j.is (omega (arith, c.loop-i-test.true)) (omega (arith, c.if-j-new.true)) c.loop-i.invariant.same
    (order_of e.key.items f.key.items c.as_slice.result.now c.as_slice-in-loop-i.result.now c.cmp.result Less c.cmp.ensures c.as_slice.ensures.value c.as_slice-in-loop-i.ensures.value c.in-Less.is))

pub returns-in_err-add_change-in-Greater-clause-memory : goal.returns-in_err-add_change-in-Greater-clause-memory
returns-in_err-add_change-in-Greater-clause-memory c =
    let e = c.index-old-i.result in
    let f = c.index-new-j.result in
    err_so (entries c.args.old.now ≢ entries c.args.new.now) c.from_residual-in_err-add_change-in-Greater.result
    (others_greater c.args.old.now c.args.new.now c.loop-i.i c.loop-i.j e f c.index-old-i.is c.index-new-j.is (omega (arith, c.loop-i-test.true)) (omega (arith, c.if-j-new.true)) c.loop-i.invariant.same
    (order_of e.key.items f.key.items c.as_slice.result.now c.as_slice-in-loop-i.result.now c.cmp.result Greater c.cmp.ensures c.as_slice.ensures.value c.as_slice-in-loop-i.ensures.value c.in-Greater.is))

pub loop-i-preserved-in-Less : goal.loop-i-preserved-in-Less
loop-i-preserved-in-Less c =
    let e = c.index-old-i.result in
    let f = c.index-new-j.result in
    record {
      same = λ is. absurd (others_less c.args.old.now c.args.new.now c.loop-i.i c.loop-i.j e f c.index-old-i.is c.index-new-j.is (omega (arith, c.loop-i-test.true)) (omega (arith, c.if-j-new.true)) c.loop-i.invariant.same
          (order_of e.key.items f.key.items c.as_slice.result.now c.as_slice-in-loop-i.result.now c.cmp.result Less c.cmp.ensures c.as_slice.ensures.value c.as_slice-in-loop-i.ensures.value c.in-Less.is) is);
      i_bound = omega (arith, c.loop-i-test.true);
      j_bound = c.loop-i.invariant.j_bound;
      merged = merged_less (diff_of (entries c.args.old.now) (entries c.args.new.now)) (changes c.loop-i.found.items) (changes c.add_change.new.found.items) c.args.old.now c.args.new.now c.loop-i.i c.loop-i.j e f
          c.index-old-i.is c.index-new-j.is (omega (arith, c.loop-i-test.true)) (omega (arith, c.if-j-new.true)) c.loop-i.invariant.merged
          (order_of e.key.items f.key.items c.as_slice.result.now c.as_slice-in-loop-i.result.now c.cmp.result Less c.cmp.ensures c.as_slice.ensures.value c.as_slice-in-loop-i.ensures.value c.in-Less.is)
          (c.in_ok-add_change-in-Less.ensures ∙ ap (λ k. changes c.loop-i.found.items ++ (k, (Some e.value, None)) ∷ []) c.deref.ensures.value);
    }

pub loop-i-preserved-in-Equal : goal.loop-i-preserved-in-Equal
loop-i-preserved-in-Equal c =
    let e = c.index-old-i.result in
    let f = c.index-new-j.result in
    record {
      same = same_after c.args.old.now c.args.new.now c.loop-i.i c.loop-i.j e f c.index-old-i.is c.index-new-j.is (omega (arith, c.loop-i-test.true)) (omega (arith, c.if-j-new.true)) c.loop-i.invariant.same;
      i_bound = omega (arith, c.loop-i-test.true);
      j_bound = omega (arith, c.if-j-new.true);
      merged = merged_equal (diff_of (entries c.args.old.now) (entries c.args.new.now)) (changes c.loop-i.found.items) (changes c.add_if_changed.new.found.items) c.args.old.now c.args.new.now c.loop-i.i c.loop-i.j e f
          c.index-old-i.is c.index-new-j.is (omega (arith, c.loop-i-test.true)) (omega (arith, c.if-j-new.true)) c.loop-i.invariant.merged
          (order_of e.key.items f.key.items c.as_slice.result.now c.as_slice-in-loop-i.result.now c.cmp.result Equal c.cmp.ensures c.as_slice.ensures.value c.as_slice-in-loop-i.ensures.value c.in-Equal.is)
          c.in_ok-add_if_changed-in-Equal.ensures.added;
    }

pub loop-i-preserved : goal.loop-i-preserved
loop-i-preserved c =
    let e = c.index-old-i.result in
    let f = c.index-new-j.result in
    record {
      same = λ is. absurd (others_greater c.args.old.now c.args.new.now c.loop-i.i c.loop-i.j e f c.index-old-i.is c.index-new-j.is (omega (arith, c.loop-i-test.true)) (omega (arith, c.if-j-new.true)) c.loop-i.invariant.same
          (order_of e.key.items f.key.items c.as_slice.result.now c.as_slice-in-loop-i.result.now c.cmp.result Greater c.cmp.ensures c.as_slice.ensures.value c.as_slice-in-loop-i.ensures.value c.in-Greater.is) is);
      i_bound = c.loop-i.invariant.i_bound;
      j_bound = omega (arith, c.if-j-new.true);
      merged = merged_greater (diff_of (entries c.args.old.now) (entries c.args.new.now)) (changes c.loop-i.found.items) (changes c.add_change-in-Greater.new.found.items) c.args.old.now c.args.new.now c.loop-i.i c.loop-i.j e f
          c.index-old-i.is c.index-new-j.is (omega (arith, c.loop-i-test.true)) (omega (arith, c.if-j-new.true)) c.loop-i.invariant.merged
          (order_of e.key.items f.key.items c.as_slice.result.now c.as_slice-in-loop-i.result.now c.cmp.result Greater c.cmp.ensures c.as_slice.ensures.value c.as_slice-in-loop-i.ensures.value c.in-Greater.is)
          (c.in_ok-add_change-in-Greater.ensures ∙ ap (λ k. changes c.loop-i.found.items ++ (k, (None, Some f.value)) ∷ []) c.deref-in-Greater.ensures.value);
    }

pub returns-clause-found : goal.returns-clause-found
returns-clause-found c rise rises =
    let left : (length (drop c.loop-i.i c.args.old.now) ≡ 0) ⊎ (length (drop c.loop-i.j c.args.new.now) ≡ 0) = elim c.loop-i-test.branch [
      | then-loop-i-test+else-j-new w ↦ inr (none_left c.loop-i.j c.args.new.now (omega (arith, w.if-j-new.false)))
      | else-loop-i-test w ↦ inl (none_left c.loop-i.i c.args.old.now (omega (arith, w.loop-i-test.false)))
    ] in
    subst (AreChanges (entries c.args.old.now) (entries c.args.new.now))
    (sym (merged_end (diff_of (entries c.args.old.now) (entries c.args.new.now)) (changes c.loop-i.found.items) (changes c.add_removed.new.found.items) (changes c.add_added.new.found.items)
    (drop c.loop-i.i c.args.old.now) (drop c.loop-i.j c.args.new.now) c.loop-i.invariant.merged left
    (c.in_ok-add_removed.ensures.added ∙ ap (λ l. changes c.loop-i.found.items ++ removed (entries l)) (rest_all c.loop-i.i c.args.old.now))
    (c.in_ok-add_added.ensures.added ∙ ap (λ l. changes c.add_removed.new.found.items ++ added (entries l)) (rest_all c.loop-i.j c.args.new.now))))
    (are_changes (entries c.args.old.now) (entries c.args.new.now) rise rises)
