use Rattle.std.proofs.Common.{◌≡◌, ◌≢◌, ◌∙◌, sym, arith, length, get_or}
use Rattle.ipld_paths.proofs.Cutting.{no_first, first_is, some_first}
use Rattle.ipld_paths.proofs.Indices.{no_empty_index, no_sign, no_zero_in_front, index_read}
use Rattle.ipld_paths.proofs.segments.index_of.Goals as goal
use Rattle.ipld_paths.proofs.segments.index_of.Goals.{else-first-eq48-via-then-first-eq48+else-digits-gt1, else-first-eq48-via-else-first-eq48}

pub returns-in_err-first : goal.returns-in_err-first
returns-in_err-first c =
    let none = no_first c.args.segment.now (rw c.as_bytes-digits.ensures.value at c.in_err-first.ensures.value) in
    rw c.from_residual.ensures (λ n small is. no_empty_index n c.args.segment.now none small is)

pub returns-then-first-eq43 : goal.returns-then-first-eq43
returns-then-first-eq43 c =
    let first = first_is c.args.segment.now _ (rw c.as_bytes-digits.ensures.value at c.in_ok-first.ensures.value) in
    λ n small is. no_sign n c.args.segment.now (first ∙ c.if-first-eq43.true) small is

pub returns-then-digits-gt1 : goal.returns-then-digits-gt1
returns-then-digits-gt1 c =
    let first = first_is c.args.segment.now _ (rw c.as_bytes-digits.ensures.value at c.in_ok-first.ensures.value) in
    λ n small is. no_zero_in_front n c.args.segment.now (first ∙ c.if-first-eq48.true) (omega arith) small is

pub returns : goal.returns
returns c =
    let at = rw c.as_bytes-digits.ensures.value at c.in_ok-first.ensures.value in
    let first = first_is c.args.segment.now _ at in
    let plain : get_or c.args.segment.now 0 0 ≢ 43 = λ is. c.if-first-eq43.false (sym first ∙ is) in
    rw c.ok.ensures.value (index_read c.args.segment.now c.parse.result (some_first c.args.segment.now _ at) plain (alone first) c.parse.ensures.value.0)
  where
    alone : get_or c.args.segment.now 0 0 ≡ c.in_ok-first.field-0.now → get_or c.args.segment.now 0 0 ≡ 48 → length c.args.segment.now ≡ 1
    alone first zero = elim c.else-first-eq48.branch [
      | else-first-eq48-via-then-first-eq48+else-digits-gt1 w ↦ omega (arith, w.if-digits-gt1.false, some_first c.args.segment.now _ (rw c.as_bytes-digits.ensures.value at c.in_ok-first.ensures.value))
      | else-first-eq48-via-else-first-eq48 w ↦ absurd (w.if-first-eq48.false (sym first ∙ zero))
    ]
