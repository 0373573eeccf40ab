use Rattle.std.proofs.Common.{ℕ, List, ◌∷◌, ◌++◌, [], sym, ap, ◌∙◌, subst}
use Rattle.text_cid.specs.Rfc4648.{text_in_groups}
use Rattle.text_cid.specs.Base58.{text_in_58}
use Rattle.text_cid.specs.Alphabets.{AreBytes}
use Rattle.text_cid.specs.Texts.{lower_32}
use Rattle.text_cid.proofs.Texting.{written_0, written_1, text_0, text_1}
use Rattle.text_cid.proofs.write.cid_text.Goals as goal

pub returns-then-version-eq0-clause-text : goal.returns-then-version-eq0-clause-text
returns-then-version-eq0-clause-text c =
    let other = c.deref-then-version-eq0.ensures.0 ∙ c.write_bytes.ensures.bytes in
    c.push_58.ensures ∙ ap (λ (s : List ℕ). s ++ text_in_58 c.deref-then-version-eq0.result.now) c.new-text.ensures ∙ ap text_in_58 other ∙ sym (text_0 c.args.cid.now (sym c.version.ensures.version ∙ c.if-version-eq0.true))

pub returns-then-version-eq0-clause-told : goal.returns-then-version-eq0-clause-told
returns-then-version-eq0-clause-told c =
    let bytes = c.deref.ensures.0 ∙ c.write_bytes.ensures.bytes in
    let other = c.deref-then-version-eq0.ensures.0 ∙ c.write_bytes.ensures.bytes in
    written_0 c.args.cid.now c.push_58.new.out.items c.write_bytes.ensures.valid (subst AreBytes bytes c.are_bytes.ensures) (sym c.version.ensures.version ∙ c.if-version-eq0.true)
    (c.push_58.ensures ∙ ap (λ (s : List ℕ). s ++ text_in_58 c.deref-then-version-eq0.result.now) c.new-text.ensures ∙ ap text_in_58 other)

pub returns-else-version-eq0-clause-text : goal.returns-else-version-eq0-clause-text
returns-else-version-eq0-clause-text c =
    let other = c.deref-else-version-eq0.ensures.0 ∙ c.write_bytes.ensures.bytes in
    c.push_32.ensures ∙ ap (λ (s : List ℕ). s ++ text_in_groups 5 lower_32 c.deref-else-version-eq0.result.now) (c.push.ensures.items ∙ ap (λ (s : List ℕ). s ++ 98 ∷ []) c.new-text.ensures)
    ∙ ap (λ b. 98 ∷ text_in_groups 5 lower_32 b) other ∙ sym (text_1 c.args.cid.now c.write_bytes.ensures.valid (λ e. c.if-version-eq0.false (c.version.ensures.version ∙ e)))

pub returns-else-version-eq0-clause-told : goal.returns-else-version-eq0-clause-told
returns-else-version-eq0-clause-told c =
    let bytes = c.deref.ensures.0 ∙ c.write_bytes.ensures.bytes in
    let other = c.deref-else-version-eq0.ensures.0 ∙ c.write_bytes.ensures.bytes in
    written_1 c.args.cid.now c.push_32.new.out.items c.write_bytes.ensures.valid (subst AreBytes bytes c.are_bytes.ensures) (λ e. c.if-version-eq0.false (c.version.ensures.version ∙ e))
    (c.push_32.ensures ∙ ap (λ (s : List ℕ). s ++ text_in_groups 5 lower_32 c.deref-else-version-eq0.result.now) (c.push.ensures.items ∙ ap (λ (s : List ℕ). s ++ 98 ∷ []) c.new-text.ensures)
    ∙ ap (λ b. 98 ∷ text_in_groups 5 lower_32 b) other)
