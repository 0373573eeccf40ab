use Rattle.std.proofs.Common.{arith}
use Rattle.dagcbor_heads.specs.Inputs.{input_reading}
use Rattle.store_on_disk.proofs.Reading.{read_refused, commit_refused, may_leave}
use Rattle.store_on_disk.proofs.Leaving.{still_quiet, still_then}
use Rattle.store_on_disk.proofs.store.BlockStore.read_car.Goals as goal

pub returns-in-Err-commit-clause-refused : goal.returns-in-Err-commit-clause-refused
returns-in-Err-commit-clause-refused g c =
    let a = c.in-Ok.ensures.adds in
    rw c.of_refusal.ensures (commit_refused g.S.Store c.in-Ok.read.0.items a.sections a.extent a.more (input_reading g.R.Read.reading c.args.input.now) a.mid (input_reading g.R.Read.reading c.add_car.new.input)
    c.args.self.now c.add_car.new.self c.commit.new.self c.in-Err-commit.refusal a.taken a.ends a.adds (λ clean. omega (arith, c.commit.ensures.kept.clean)) c.in-Err-commit.ensures.refused)

pub returns-in-Err-clause-refused : goal.returns-in-Err-clause-refused
returns-in-Err-clause-refused g c =
    read_refused g.S.Store (input_reading g.R.Read.reading c.args.input.now) (input_reading g.R.Read.reading c.add_car.new.input) c.args.self.now c.add_car.new.self c.rollback.new.self c.in-Err.error
    c.rollback.ensures.quiet c.rollback.ensures.blame c.rollback.ensures.undone c.in-Err.ensures.adds

pub returns-in-Ok-commit-clause-crash : goal.returns-in-Ok-commit-clause-crash
returns-in-Ok-commit-clause-crash g c =
    let a = c.in-Ok.ensures.adds in
    may_leave g.S.Store c.in-Ok.read.0.items a.sections (input_reading g.R.Read.reading c.args.input.now) (input_reading g.R.Read.reading c.add_car.new.input) c.args.self.now c.add_car.new.self c.commit.new.self a.read a.adds
    (λ clean. omega (arith, c.commit.ensures.kept.clean)) c.commit.ensures.crash

pub returns-in-Err-commit-clause-crash : goal.returns-in-Err-commit-clause-crash
returns-in-Err-commit-clause-crash g c =
    let a = c.in-Ok.ensures.adds in
    may_leave g.S.Store c.in-Ok.read.0.items a.sections (input_reading g.R.Read.reading c.args.input.now) (input_reading g.R.Read.reading c.add_car.new.input) c.args.self.now c.add_car.new.self c.commit.new.self a.read a.adds
    (λ clean. omega (arith, c.commit.ensures.kept.clean)) c.commit.ensures.crash

pub returns-in-Ok-commit-clause-leaves : goal.returns-in-Ok-commit-clause-leaves
returns-in-Ok-commit-clause-leaves g c =
    let added = c.add_car.new.self in
    still_then g.S.Store c.args.self.now added c.commit.new.self (λ clean. omega (arith, c.commit.ensures.kept.clean)) (still_quiet g.S.Store c.args.self.now added c.add_car.ensures.quiet) c.commit.ensures.leaves

pub returns-in-Err-commit-clause-leaves : goal.returns-in-Err-commit-clause-leaves
returns-in-Err-commit-clause-leaves g c =
    let added = c.add_car.new.self in
    still_then g.S.Store c.args.self.now added c.commit.new.self (λ clean. omega (arith, c.commit.ensures.kept.clean)) (still_quiet g.S.Store c.args.self.now added c.add_car.ensures.quiet) c.commit.ensures.leaves
