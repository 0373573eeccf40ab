use Rattle.std.proofs.Common.{List, ℕ, length, drop, ◌≡◌, ◌∷◌, sym, ap, ◌∙◌, subst, arith}
use Rattle.ipld_tree.specs.Cid.{IsCid, cid_bytes}
use Rattle.dagcbor_decode.specs.Fronts.{SplitsCid}
use Rattle.dagcbor_decode.proofs.Rows.{link_parts}
use Rattle.dagcbor_decode.proofs.links.split_link.Goals as goal

pub split_at-requires : goal.split_at-requires
split_at-requires c = (link_parts c.args.bytes.now c.in-Some.more.now c.in-Some._major c.in-Some.count c.in-Some.ensures c.requires).0

pub unreachable-requires-in_default-split_first : goal.unreachable-requires-in_default-split_first
unreachable-requires-in_default-split_first c =
    let k = link_parts c.args.bytes.now c.in-Some.more.now c.in-Some._major c.in-Some.count c.in-Some.ensures c.requires in
    omega (arith, c.in_default-split_first.ensures.cases, ap length (c.split_at.ensures.front ∙ k.2))

-- what follows the zero
form_is : (payload form cid : List ℕ) (first : ℕ) → payload ≡ first ∷ form → payload ≡ 0x00 ∷ cid → form ≡ cid
form_is payload form cid first e f = let both : first ∷ form ≡ 0x00 ∷ cid = sym e ∙ f in cc both

pub unreachable-requires-in_default-try_from : goal.unreachable-requires-in_default-try_from
unreachable-requires-in_default-try_from c =
    let k = link_parts c.args.bytes.now c.in-Some.more.now c.in-Some._major c.in-Some.count c.in-Some.ensures c.requires in
    let form = form_is c.split_at.result.0.now c.in-Some-split_first.form.now k.1 c.in-Some-split_first._zero.now c.in-Some-split_first.ensures.cases.0 (c.split_at.ensures.front ∙ k.2) in
    c.in_default-try_from.ensures.0 (subst IsCid (sym form) k.3.0)

pub returns : goal.returns
returns c =
    let k = link_parts c.args.bytes.now c.in-Some.more.now c.in-Some._major c.in-Some.count c.in-Some.ensures c.requires in
    let form = form_is c.split_at.result.0.now c.in-Some-split_first.form.now k.1 c.in-Some-split_first._zero.now c.in-Some-split_first.ensures.cases.0 (c.split_at.ensures.front ∙ k.2) in
    subst (SplitsCid c.args.bytes.now (cid_bytes c.in-Ok.cid)) (sym c.split_at.ensures.back) (subst (λ f. SplitsCid c.args.bytes.now f (drop c.in-Some.count c.in-Some.more.now)) (sym form ∙ c.in-Ok.ensures.1) k.3)
