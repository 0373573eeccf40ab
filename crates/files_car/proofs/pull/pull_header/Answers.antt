use Rattle.std.proofs.Common.{ℕ, None}
use Rattle.std.specs.Cow.{cow_slice_items}
use Rattle.dagcbor_heads.specs.Inputs.{input_reading}
use Rattle.files_car.proofs.Starting.{is_other, start_uncounted, start_unread, start_taken, start_enclosed, start_unlent, unread_lacks, start_block, enclosed_lacks, left_wider, twice_after}
use Rattle.files_car.proofs.Pulling.{handed_on, lacks_more}
use Rattle.files_car.proofs.pull.pull_header.Goals as goal

pub returns-in_err-inner-clause-taken : goal.returns-in_err-inner-clause-taken
returns-in_err-inner-clause-taken g c = handed_on _ _ _ _ c.from_residual.ensures.1 (start_uncounted _ (input_reading g.R.Read.reading c.args.input.now) (input_reading g.R.Read.reading c.pull_counted.new.input) c.in_err-inner.ensures.taken)

pub returns-in_err-inner-clause-memory : goal.returns-in_err-inner-clause-memory
returns-in_err-inner-clause-memory g c = lacks_more ℕ _ _ _ _ c.from_residual.ensures.1 (start_unlent (input_reading g.R.Read.reading c.args.input.now)) c.in_err-inner.ensures.memory

pub returns-in_err-inner-clause-looked : goal.returns-in_err-inner-clause-looked
returns-in_err-inner-clause-looked g c = handed_on _ _ _ _ c.from_residual.ensures.1 (left_wider None c.pull_counted.new.left (input_reading g.R.Read.reading c.args.input.now) (input_reading g.R.Read.reading c.pull_counted.new.input) c.in_err-inner.ensures.looked)

pub returns-then-is_version_2-clause-taken : goal.returns-then-is_version_2-clause-taken
returns-then-is_version_2-clause-taken g c =
    let is = rw c.deref.ensures.value at c.is_version_2.ensures in
    start_enclosed (cow_slice_items c.in_ok-inner.inner) c.pull_enclosed.result (input_reading g.R.Read.reading c.args.input.now) (input_reading g.R.Read.reading c.pull_counted.new.input) (input_reading g.R.Read.reading c.pull_enclosed.new.input) (is.0 c.if-is_version_2.true) c.in_ok-inner.ensures.taken.1.takes c.in_ok-inner.ensures.at_most c.pull_enclosed.ensures.taken

pub returns-then-is_version_2-clause-memory : goal.returns-then-is_version_2-clause-memory
returns-then-is_version_2-clause-memory g c =
    let is = rw c.deref.ensures.value at c.is_version_2.ensures in
    enclosed_lacks (cow_slice_items c.in_ok-inner.inner) c.pull_enclosed.result (is.0 c.if-is_version_2.true) c.in_ok-inner.ensures.taken.1.takes c.pull_enclosed.ensures.memory

pub returns-then-is_version_2-clause-looked : goal.returns-then-is_version_2-clause-looked
returns-then-is_version_2-clause-looked g c = twice_after c.pull_enclosed.result (input_reading g.R.Read.reading c.pull_enclosed.new.input) c.in_ok-inner.ensures.taken.1.takes c.in_ok-inner.ensures.at_most c.in_ok-inner.ensures.looked.grows c.pull_enclosed.ensures.looked

pub returns-clause-taken : goal.returns-clause-taken
returns-clause-taken g c = start_taken (cow_slice_items c.in_ok-inner.inner) _ c.in_ok-inner.ensures.taken.0 c.in_ok-inner.ensures.taken.1.takes (rw c.deref-2.ensures.value at c.in_ok-roots.ensures) c.in_ok-inner.ensures.at_most c.in_ok-inner.ensures.looked.none_shown

pub returns-in_err-roots-clause-taken : goal.returns-in_err-roots-clause-taken
returns-in_err-roots-clause-taken g c =
    let is = rw c.deref.ensures.value at c.is_version_2.ensures in
    handed_on _ _ _ _ c.from_residual-in_err-roots.ensures.1 (start_unread _ (cow_slice_items c.in_ok-inner.inner) c.in_ok-inner.ensures.taken.0 c.in_ok-inner.ensures.taken.1.takes (is_other _ _ is c.if-is_version_2.false) (rw c.deref-2.ensures.value at c.in_err-roots.ensures))

pub returns-in_err-roots-clause-memory : goal.returns-in_err-roots-clause-memory
returns-in_err-roots-clause-memory g c =
    let is = rw c.deref.ensures.value at c.is_version_2.ensures in
    lacks_more ℕ _ _ _ _ c.from_residual-in_err-roots.ensures.1 (λ p. p) (unread_lacks ℕ _ _ (cow_slice_items c.in_ok-inner.inner) (start_block (cow_slice_items c.in_ok-inner.inner) c.in_ok-inner.ensures.taken.0 c.in_ok-inner.ensures.taken.1.takes (is_other _ _ is c.if-is_version_2.false)) (rw c.deref-2.ensures.value at c.in_err-roots.ensures))
