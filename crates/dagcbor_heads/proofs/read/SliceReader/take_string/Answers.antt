use Rattle.std.proofs.Common.{◌≡◌, ◌++◌, length, rules, refl, arith, ap, length-append}
use Rattle.dagcbor_core.specs.Head.{head}
use Rattle.dagcbor_heads.proofs.Slices.{head_of_first, slice_looked, slice_payload, slice_takes}
use Rattle.dagcbor_heads.proofs.read.SliceReader.take_string.Goals as goal

pub returns-clause-taken : goal.returns-clause-taken
returns-clause-taken c =
    let h = head_of_first _ c.in_ok-_major._major _ _ _ c.in_ok-first.ensures.cases.0 c.if-first-kind.false c.in_ok-_major.ensures in
    let payload = c.split_at.result.0.now in
    let long : length payload ≡ c.in_ok-_major.count = search rules in
    let whole = slice_payload (head c.args.kind c.in_ok-_major.count) c.in_ok-_major.following.now c.in_ok-_major.count h.2 c.split_at.ensures.front c.split_at.ensures.back in
    (h.0, omega (arith, long, h.1), slice_takes {b = c.self.inside.rest.now} (search rules) refl (search rules) (rw long whole))

pub returns-clause-looked : goal.returns-clause-looked
returns-clause-looked c =
    let front = head c.in_ok-_major._major c.in_ok-_major.count in
    let taken = front ++ c.split_at.result.0.now in
    let whole = slice_payload front c.in_ok-_major.following.now c.in_ok-_major.count c.in_ok-_major.ensures.2 c.split_at.ensures.front c.split_at.ensures.back in
    slice_looked taken (search rules) refl whole (omega (arith, c.add.ensures, ap length whole, length-append taken c.split_at.result.1.now, ap (λ r. r.looked) c.self.view_is)) refl
