use Rattle.std.proofs.Common.{◌≡◌, ◌++◌, ◌-◌, ℕ, List, length, take, drop, arith, ap, sym, append_assoc, ◌∙◌, take-append-drop, take_all, length-drop}
use Rattle.std.proofs.KnownBytes.{Appends-trans}
use Rattle.program_shared.proofs.output.write_all.Goals as goal

pub loop-rest-preserved : goal.loop-rest-preserved
loop-rest-preserved g c =
    let inv = c.loop-rest.invariant in
    let n = c.in-Ok.n in
    let rest = c.loop-rest.rest.now in
    let tail : take (length rest - n) (drop n rest) ≡ drop n rest = take_all (length rest - n) (drop n rest) (omega (arith, length-drop n rest)) in
    let parts : c.args.bytes.now ≡ (inv.0 ++ take n rest) ++ take (length rest - n) (drop n rest) =
    inv.1 ∙ ap (λ (s : List ℕ). inv.0 ++ s) (sym (take-append-drop n rest) ∙ ap (λ (s : List ℕ). take n rest ++ s) (sym tail)) ∙ sym (append_assoc inv.0 (take n rest) (take (length rest - n) (drop n rest))) in
    (inv.0 ++ take n rest, parts, Appends-trans _ _ _ _ _ inv.2 c.in-Ok.ensures.bytes)
