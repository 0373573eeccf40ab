use Rattle.std.proofs.Common.{sym, subst, map, IsPermutation}
use Rattle.files_index.specs.Judging.{multihash_of, listed}
use Rattle.files_index.proofs.Judged.{if_ok, unlisted_by}
use Rattle.files_index.proofs.judging.unlisted.Goals as goal

pub returns : goal.returns
returns c =
    let f = c.args.listing.format in
    let names = c.deref-2.result.now in
    let named = subst (IsPermutation (map multihash_of (listed f c.deref.result.now c.args.sections.now))) (sym c.deref-2.ensures.value) c.in_ok-names.ensures.same in
    if_ok c.unlisted_among.result c.unlisted_among.ensures (λ v h.
    unlisted_by f c.args.listing.entries.items c.deref.result.now names c.args.sections.now v.items (subst (IsPermutation c.args.listing.entries.items) (sym c.deref.ensures.value) c.sort_unstable.ensures.permutation) named h)
