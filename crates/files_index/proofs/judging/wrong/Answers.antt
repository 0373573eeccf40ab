use Rattle.std.proofs.Common.{◌∙◌, ap, sym, subst, map, not, IsPermutation}
use Rattle.std.specs.List.{filter}
use Rattle.files_index.specs.Judging.{listed_as, is_entry_of}
use Rattle.files_index.proofs.Judged.{if_ok, wrong_by}
use Rattle.files_index.proofs.judging.wrong.Goals as goal

pub returns : goal.returns
returns c =
    let right = map (listed_as c.args.listing.now.format) c.args.sections.now in
    if_ok c.wrong_among.result c.wrong_among.ensures (λ v h.
    wrong_by right c.deref-2.result.now c.deref.result.now v.items (subst (IsPermutation right) (sym c.deref-2.ensures.value) c.in_ok-right.ensures.same) h
    ∙ ap (filter (λ e. not (is_entry_of right e))) c.deref.ensures.value)
