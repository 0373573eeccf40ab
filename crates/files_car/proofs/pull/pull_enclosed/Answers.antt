use Rattle.std.proofs.Common.{ℕ, Some}
use Rattle.std.specs.Cow.{cow_slice_items}
use Rattle.dagcbor_heads.specs.Inputs.{input_reading}
use Rattle.dagcbor_heads.proofs.Looking.{taken_left}
use Rattle.files_car.proofs.Starting.{enclosed_uncounted, enclosed_unread, enclosed_taken, unread_lacks, enclosed_block, left_wider, left_after}
use Rattle.files_car.proofs.Pulling.{handed_on, lacks_more}
use Rattle.files_car.proofs.pull.pull_enclosed.Goals as goal

pub returns-in_err-length-clause-taken : goal.returns-in_err-length-clause-taken
returns-in_err-length-clause-taken g c = handed_on _ _ _ _ c.from_residual.ensures.1 c.in_err-length.ensures.taken

pub returns-in_err-inner-clause-taken : goal.returns-in_err-inner-clause-taken
returns-in_err-inner-clause-taken g c = handed_on _ _ _ _ c.from_residual-in_err-inner.ensures.1 (enclosed_uncounted _ c.in_ok-length.length (input_reading g.R.Read.reading c.pull_counted.new.input) c.in_ok-length.ensures.taken c.in_err-inner.ensures.taken)

pub returns-clause-taken : goal.returns-clause-taken
returns-clause-taken g c = enclosed_taken c.in_ok-length.length (cow_slice_items c.in_ok-inner.inner) _ c.in_ok-length.ensures.taken c.in_ok-inner.ensures.taken.0 c.in_ok-inner.ensures.taken.1 (rw c.deref.ensures.value at c.in_ok-roots.ensures) c.in_ok-inner.ensures.at_most c.in_ok-inner.ensures.looked.none_shown

pub returns-in_err-inner-clause-looked : goal.returns-in_err-inner-clause-looked
returns-in_err-inner-clause-looked g c =
    let h = c.in_ok-length.ensures.taken in
    handed_on _ _ _ _ c.from_residual-in_err-inner.ensures.1 (left_after (input_reading g.R.Read.reading c.pull_counted.new.input) h.takes h.looked c.in_ok-length.ensures.looked.grows (left_wider (Some c.in_ok-length.length) c.pull_counted.new.left (input_reading g.R.Read.reading c.pull_span.new.input) (input_reading g.R.Read.reading c.pull_counted.new.input) c.in_err-inner.ensures.looked))

pub returns-in_err-roots-clause-taken : goal.returns-in_err-roots-clause-taken
returns-in_err-roots-clause-taken g c = handed_on _ _ _ _ c.from_residual-in_err-roots.ensures.1 (enclosed_unread _ c.in_ok-length.length (cow_slice_items c.in_ok-inner.inner) c.in_ok-length.ensures.taken c.in_ok-inner.ensures.taken.0 c.in_ok-inner.ensures.taken.1 (rw c.deref.ensures.value at c.in_err-roots.ensures))

pub returns-in_err-roots-clause-memory : goal.returns-in_err-roots-clause-memory
returns-in_err-roots-clause-memory g c =
    let h = c.in_ok-length.ensures.taken in
    lacks_more ℕ _ _ _ _ c.from_residual-in_err-roots.ensures.1 (λ p. p) (unread_lacks ℕ _ _ (cow_slice_items c.in_ok-inner.inner) (λ has. enclosed_block c.in_ok-length.length (cow_slice_items c.in_ok-inner.inner) h c.in_ok-inner.ensures.taken.0 c.in_ok-inner.ensures.taken.1 has) (rw c.deref.ensures.value at c.in_err-roots.ensures))

pub returns-in_err-roots-clause-looked : goal.returns-in_err-roots-clause-looked
returns-in_err-roots-clause-looked g c =
    let h = c.in_ok-length.ensures.taken in
    handed_on _ _ _ _ c.from_residual-in_err-roots.ensures.1 (left_after (input_reading g.R.Read.reading c.pull_counted.new.input) h.takes h.looked c.in_ok-length.ensures.looked.grows (left_wider (Some c.in_ok-length.length) c.pull_counted.new.left (input_reading g.R.Read.reading c.pull_span.new.input) (input_reading g.R.Read.reading c.pull_counted.new.input) (taken_left c.in_ok-inner.ensures.looked)))
