use Rattle.std.proofs.Common.{false, inl, inr, refl, sym, ◌∙◌, subst}
use Rattle.program_parts.proofs.Known.{if_known, if_some}
use Rattle.program_sections.specs.Filtering.{IsFiltered, IsFilteredFront}
use Rattle.program_sections.specs.Lists.{IsFilteredByList, IsFilteredByListFront, ListsNames, TellsWrongLine}
use Rattle.program_sections.specs.declared.filter.Filter.{Filter}
use Rattle.program_sections.specs.declared.kept.Kept.TheVariants.{Named}
use Rattle.program_sections.proofs.Sending.{none_said, both_sent, sent_as}
use Rattle.program_sections.proofs.filter.write_listed.Goals as goal

pub returns-in_err-text : goal.returns-in_err-text
returns-in_err-text g c = if_known (g.L.Read.remaining c.args.list.now) (λ text m. if_known (g.R.Read.remaining c.args.input.now) (λ b l. none_said (IsFilteredByListFront c.args.roots.items text b) (IsFilteredByList c.args.roots.items text b) _ _ c.from_residual.result c.in_err-text.field-0.0 (inl refl) c.from_residual.ensures.1))

pub returns-in-Ok : goal.returns-in-Ok
returns-in-Ok g c = if_some (g.L.Read.remaining c.args.list.now) c.in_ok-text.ensures (λ text same. if_some (g.R.Read.remaining c.args.input.now) c.write_named.ensures (λ b said.
    let f : Filter = record { roots = c.args.roots; kept = Named c.in-Ok.names } in
    let lists = subst (λ t. ListsNames t c.in-Ok.names.keys) (c.deref.ensures.value ∙ same) (rw c.in-Ok.is at c.in_ok-names.ensures) in
    sent_as (IsFilteredFront f b) (IsFilteredByListFront c.args.roots.items text b) (IsFiltered f b) (IsFilteredByList c.args.roots.items text b) (g.W.Write.contents c.args.output.now) (g.V.Write.contents c.args.errors.now) c.write_named.result _ _
    (λ out h. inr (f, (c.in-Ok.names, lists, refl, refl), h)) (λ well out told h. inl (f, (c.in-Ok.names, lists, refl, refl), h)) said))

pub returns-in-Err : goal.returns-in-Err
returns-in-Err g c = if_some (g.L.Read.remaining c.args.list.now) c.in_ok-text.ensures (λ text same. if_known (g.R.Read.remaining c.args.input.now) (λ b l.
    let wrong = subst (λ t. TellsWrongLine t c.in-Err.line.items) (c.deref.ensures.value ∙ same) (rw c.in-Err.is at c.in_ok-names.ensures) in
    both_sent (IsFilteredByListFront c.args.roots.items text b) (IsFilteredByList c.args.roots.items text b) c.new.result.items c.deref-in-Err.result.now false _ _ c.say_both.result _ _ c.new.ensures.items (inl refl)
    (inr (refl, refl, subst (TellsWrongLine text) (sym c.deref-in-Err.ensures.value) wrong)) c.say_both.ensures))
