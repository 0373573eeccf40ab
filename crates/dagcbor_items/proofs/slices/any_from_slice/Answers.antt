use Rattle.std.proofs.Common.{ap}
use Rattle.dagcbor_heads.proofs.Refusing.{as_refusal}
use Rattle.dagcbor_items.proofs.SliceReads.{ReadsSlice, if_ok, if_err, slice_refused, end_refused, block_taken}
use Rattle.dagcbor_items.proofs.slices.any_from_slice.Goals as goal

pub returns-in_err-value : goal.returns-in_err-value
returns-in_err-value c =
    let start = c.lent-input.ensures in
    let read : ReadsSlice c.args.bytes.now c.from_residual.result = as_refusal _ _ _ _ c.from_residual.ensures.1 (slice_refused _ _ _ c.args.bytes.now (ap (λ r. r.left) start) (ap (λ r. r.steps) start) c.in_err-value.ensures.item) in
    record { value = if_ok _ _ c.from_residual.result read; refused = if_err _ _ c.from_residual.result read }

pub returns-in_err-pull_end : goal.returns-in_err-pull_end
returns-in_err-pull_end c =
    let start = c.lent-input.ensures in
    let read : ReadsSlice c.args.bytes.now c.from_residual-in_err-pull_end.result = as_refusal _ _ _ _ c.from_residual-in_err-pull_end.ensures.1 (end_refused c.args.bytes.now _ _ _ _ _ (ap (λ r. r.left) start) (ap (λ r. r.steps) start) c.in_ok-value.ensures.item c.in_err-pull_end.ensures).0 in
    record { value = if_ok _ _ c.from_residual-in_err-pull_end.result read; refused = if_err _ _ c.from_residual-in_err-pull_end.result read }

pub returns-clause-value : goal.returns-clause-value
returns-clause-value c =
    let start = c.lent-input.ensures in
    block_taken c.args.bytes.now _ _ _ _ (ap (λ r. r.left) start) (ap (λ r. r.steps) start) c.in_ok-value.ensures.item c.in_ok-pull_end.ensures
