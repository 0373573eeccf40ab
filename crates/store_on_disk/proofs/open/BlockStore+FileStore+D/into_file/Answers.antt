use Rattle.std.proofs.Common.{subst}
use Rattle.sqlite_store.specs.Calls.{IsQuietCall}
use Rattle.store_on_disk.specs.Opened.{IsMoved}
use Rattle.store_on_disk.proofs.Moving.{both_quiet, is_moved}
use Rattle.store_on_disk.proofs.open.BlockStore+FileStore+D.into_file.Goals as goal

pub returns-in-Ok : goal.returns-in-Ok
returns-in-Ok g c =
    let old = c.self.inside.store in
    let new = c.checkpoint.new.self in
    let undone = c.rollback.ensures in
    let done = c.in-Ok.ensures in
    record {
      moved = λ clean. subst (λ s. IsMoved s new) c.self.view_is
          (let on = done.«open» clean in is_moved old c.rollback.new.self new undone.undone undone.logged on (done.same on) done.moved clean);
      kept = subst (λ s. IsQuietCall s new) c.self.view_is (both_quiet old c.rollback.new.self new undone.quiet done.quiet);
      unharmed = tt;
    }

pub returns-clause-unharmed : goal.returns-clause-unharmed
returns-clause-unharmed g c = subst (λ s. IsQuietCall s c.checkpoint.new.self) c.self.view_is (both_quiet c.self.inside.store c.rollback.new.self c.checkpoint.new.self c.rollback.ensures.quiet c.checkpoint.ensures.quiet)
