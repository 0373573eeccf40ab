use Rattle.std.proofs.Common.{rules, w32, inr, refl, ◌∙◌, subst}
use Rattle.std.proofs.lemmas.Int.{to_z-of_z}
use Rattle.files_car.specs.Splits.{BeginsNoHeader, HeaderFault}
use Rattle.abi_calls.specs.Walks.{code_or_more}
use Rattle.abi_calls.proofs.Walking.{header_refused}
use Rattle.abi_calls.proofs.walk.next_header.Goals as goal

pub returns-in-Err : goal.returns-in-Err
returns-in-Err c =
    let e = c.in-Err.fault in
    let h = header_refused e c.shown-shown.result.now c.in-Err.ensures.header c.in-Err.ensures.memory in
    let k = subst (λ x. BeginsNoHeader x × HeaderFault e x) c.shown-shown.ensures h in
    inr (e, k.0, k.1, to_z-of_z w32 c.code_or_more.result (search rules) ∙ c.code_or_more.ensures ∙ (λ i. code_or_more e (c.may_grow.ensures i) ((to_z-of_z w32 c.header_code.result (search rules) ∙ c.header_code.ensures) i)), refl, refl)
