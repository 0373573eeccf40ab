use Rattle.std.proofs.Common.{sym, ◌∙◌, ap, bytes_eq}
use Rattle.dagcbor_items.proofs.Names.{bytes_agree, bytes_differ}
use Rattle.files_car.proofs.HeaderShape.{other_beginning, no_roots, header_decided, split_joins}
use Rattle.files_car.proofs.header.is_header.Goals as goal

pub returns-then-ne : goal.returns-then-ne
returns-then-ne c = (
  λ yes. absurd (cc yes),
  λ h. absurd (other_beginning _ c.in-Some.front.now c.in-Some.list.now (split_joins _ _ _ _ c.in-Some.ensures.cases) c.in-Some.ensures.cases.3 (λ same. bytes_differ {t = c.as_slice.result.now} c.if-ne.ensures (same ∙ sym c.as_slice.ensures)) h),
)

pub returns-in_default-after_link_list : goal.returns-in_default-after_link_list
returns-in_default-after_link_list c = (
  λ yes. absurd (cc yes),
  λ h. absurd (no_roots _ c.in-Some.front.now c.in-Some.list.now (split_joins _ _ _ _ c.in-Some.ensures.cases) (bytes_agree {t = c.as_slice.result.now} c.if-ne.ensures ∙ c.as_slice.ensures) c.in_default-after_link_list.ensures h),
)

pub returns : goal.returns
returns c = header_decided _ c.in-Some.front.now c.in-Some.list.now _ _ (split_joins _ _ _ _ c.in-Some.ensures.cases) (bytes_agree {t = c.as_slice.result.now} c.if-ne.ensures ∙ c.as_slice.ensures) c.in-Some-after_link_list.ensures
    (c.eq.ensures ∙ ap (λ x. bytes_eq c.in-Some-after_link_list.version.now x) c.as_slice-2.ensures)
