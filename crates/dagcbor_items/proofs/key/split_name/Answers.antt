use Rattle.std.proofs.Common.{rules, arith, ap, length-append, ◌≡◌, ◌<◌, ◌∙◌, sym, length}
use Rattle.dagcbor_items.proofs.Names.{name_not_there, name_opened, name_cut, name_found}
use Rattle.dagcbor_items.proofs.key.split_name.Goals as goal

pub returns-in_err-first : goal.returns-in_err-first
returns-in_err-first c = rw c.from_residual.ensures (λ h k. name_not_there c.args.name.now k.0 h c.in_err-first.ensures.cases k.1)

pub returns-then-from-wanted : goal.returns-then-from-wanted
returns-then-from-wanted c = λ h k.
    let opened = name_opened c.args.name.now k.0 h c.in_ok-first.ensures.cases.0 k.1 in
    omega (arith, opened.0, c.if-from-wanted.true, c.from.ensures, c.as_bytes-wanted.ensures.len)

pub returns-in_err-text : goal.returns-in_err-text
returns-in_err-text c = rw c.from_residual-in_err-text.ensures (λ h k.
    let opened = name_opened c.args.name.now k.0 h c.in_ok-first.ensures.cases.0 k.1 in
    omega (arith, ap length opened.1, length-append c.args.name.now k.0, c.in_err-text.ensures.cases, c.as_bytes-wanted.ensures.len))

pub returns-then-not-is_same : goal.returns-then-not-is_same
returns-then-not-is_same c = λ h k.
    let name = c.args.name.now in
    let wanted = c.as_bytes-wanted.ensures.value in
    let opened = name_opened name k.0 h c.in_ok-first.ensures.cases.0 k.1 in
    c.if-not-is_same.ensures (name_cut _ name k.0 (ap length wanted) opened.1 c.in_ok-text.ensures.cases ∙ sym wanted)

pub returns : goal.returns
returns c =
    let name = c.args.name.now in
    let short : length name < 24 = omega (arith, c.if-wanted-gt23.false, c.as_bytes-wanted.ensures.len) in
    let is : c.in_ok-text.text.now ≡ name = c.if-not-is_same.ensures ∙ c.as_bytes-wanted.ensures.value in
    (short, search rules, name_found _ name short c.in_ok-first.ensures.cases.0 (omega (arith, c.if-from-wanted.false, c.from.ensures, c.as_bytes-wanted.ensures.len)) c.in_ok-text.ensures.cases is)
