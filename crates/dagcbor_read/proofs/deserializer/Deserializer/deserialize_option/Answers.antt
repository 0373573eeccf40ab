use Rattle.std.proofs.Common.{inl, inr}
use Rattle.dagcbor_read.specs.Values.{ReadsPart}
use Rattle.dagcbor_read.specs.Options.{ReadsOption, EntersOption}
use Rattle.dagcbor_read.proofs.Progressing.{match_true, match_false, call_answered, call_told, call_of, call_refused, call_passed_on}
use Rattle.dagcbor_read.proofs.Nullable.{not_entered, null_entered, some_entered, some_refused}
use Rattle.dagcbor_read.proofs.deserializer.Deserializer.deserialize_option.Goals as goal

pub returns-in_err-enter_option-clause-option : goal.returns-in_err-enter_option-clause-option
returns-in_err-enter_option-clause-option g c = call_refused (ReadsOption g.T.Shown.meaning g.T.Shown.shape) _ _ _ _ c.from_residual.ensures.1
    (call_passed_on EntersOption (ReadsOption g.T.Shown.meaning g.T.Shown.shape) _ _ _ (λ r. (not_entered g.T.Shown.shape _ _ _ _ r.0, inl r)) c.in_err-enter_option.ensures.entered)

pub returns-then-branch-clause-option : goal.returns-then-branch-clause-option
returns-then-branch-clause-option g c =
    let a = call_answered EntersOption _ _ _ c.in_ok-enter_option.ensures.entered in
    call_of (ReadsOption g.T.Shown.meaning g.T.Shown.shape) _ _ _ a.0 (a.1, null_entered g.T.Shown.shape (match_true _ _ _ c.if-branch.true a.2))

pub returns-in_err-value-clause-option : goal.returns-in_err-value-clause-option
returns-in_err-value-clause-option g c =
    let a = call_answered EntersOption _ _ _ c.in_ok-enter_option.ensures.entered in
    let enters = match_false _ _ _ c.if-branch.false a.2 in
    let t = call_told (ReadsPart g.T.Shown.meaning g.T.Shown.shape) _ _ _ a.1 c.in_err-value.ensures.part in
    call_refused (ReadsOption g.T.Shown.meaning g.T.Shown.shape) _ _ _ _ c.from_residual-in_err-value.ensures.1
    (call_of (ReadsOption g.T.Shown.meaning g.T.Shown.shape) _ _ _ a.0 (t.0, (some_refused g.T.Shown.shape _ _ _ enters t.1, inr (_, enters, t.1))))

pub returns-clause-option : goal.returns-clause-option
returns-clause-option g c =
    let a = call_answered EntersOption _ _ _ c.in_ok-enter_option.ensures.entered in
    let enters = match_false _ _ _ c.if-branch.false a.2 in
    let t = call_told (ReadsPart g.T.Shown.meaning g.T.Shown.shape) _ _ _ a.1 c.in_ok-value.ensures.part in
    call_of (ReadsOption g.T.Shown.meaning g.T.Shown.shape) _ _ _ a.0 (t.0, some_entered g.T.Shown.shape _ enters t.1 c.step_out.ensures)
