-- What was committed is moved into the file.
use Rattle.std.proofs.Common.{◌≡◌, arith, inl, inr, ap, ◌∙◌, subst, IsTrue}
use Rattle.sqlite_disk.specs.declared.Disk.{Ghosts}
use Rattle.sqlite_trees.specs.View.{View, IsClean, IsRolledBack}
use Rattle.sqlite_store.specs.declared.store.FileStore.{FileStore}
use Rattle.sqlite_store.specs.FileStore.{view, HasSpilled, log_frames}
use Rattle.sqlite_store.specs.Calls.{IsQuietCall}
use Rattle.store_on_disk.specs.Opened.{IsMoved}

module _ {D : Type 0} {g : Ghosts D} where
  pub both_quiet : (a b c : FileStore D g) → IsQuietCall a b → IsQuietCall b c → IsQuietCall a c
  both_quiet a b c p q = record {
    shield = λ h. q.shield (p.shield h);
    clean = omega (arith, p.clean, q.clean);
    counts = omega (arith, p.counts, q.counts);
    closes = λ now on. elim (p.closes (omega (arith, q.clean, now)) on) [
      | inl still ↦ elim (q.closes now still) [ inl last ↦ inl last | inr more ↦ inr (omega (arith, more, p.counts)) ]
      | inr more ↦ inr (omega (arith, more, q.counts))
    ];
    outcomes = λ db h. p.outcomes db (q.outcomes db h);
  }

  pub is_moved : (old rolled new : FileStore D g) → IsRolledBack (view old) (view rolled) → (IsTrue (view old).is_open → ¬ HasSpilled rolled)
      → IsTrue (view new).is_open → view new ≡ view rolled → (¬ HasSpilled rolled → log_frames new ≡ 0) → IsClean (view new) → IsMoved old new
  is_moved old rolled new undone logged on same emptied clean =
      let before = subst (λ (v : View). IsTrue v.is_open) same on in
      let kept = undone.kept (subst IsClean same clean) in
      record {
        is_open = on;
        trees = ap (λ (v : View). v.trees) same ∙ (undone.undone before).0;
        committed = ap (λ (v : View). v.committed) same ∙ kept.committed before;
        log = emptied (logged (kept.was_open before));
      }
