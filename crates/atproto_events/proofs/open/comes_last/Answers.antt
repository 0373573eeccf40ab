use Rattle.std.proofs.Common.{◌≡◌, ◌-◌, None, suc, sym, ap, ◌∙◌, subst, arith, rules}
use Rattle.std.specs.Prelude.{option_map, drop}
use Rattle.atproto_events.specs.Pieces.{piece_of, pieces}
use Rattle.atproto_events.specs.Opening.{last_key, comes_after}
use Rattle.atproto_events.proofs.Opening.{last_found, none_found, none_after_all}
use Rattle.atproto_events.proofs.open.comes_last.Goals as goal

pub loop-at-init : goal.loop-at-init
loop-at-init c = record { bound = omega arith; none = none_after_all c.args.found.now }

pub returns-in-Some : goal.returns-in-Some
returns-in-Some c =
    let at = c.loop-at.at - 1 in
    let next : c.loop-at.at ≡ suc at = omega (arith, c.loop-at-test.true) in
    let none = subst (λ k. last_key (drop k (pieces c.args.found.now)) ≡ None) next c.loop-at.invariant.none in
    let last = last_found at c.args.found.now c.index-found-at.result c.in-Some.other.items (omega (arith, c.loop-at-test.true, c.loop-at.invariant.bound)) (sym c.index-found-at.is) (ap (λ p. (piece_of p).key) c.index-found-at.is ∙ ap (option_map (λ k. k.items)) c.in-Some.is) none in
    subst (λ o. c.is_lt.result ≡ comes_after c.args.key.now o) (sym last) (search rules)

pub loop-at-preserved : goal.loop-at-preserved
loop-at-preserved c =
    let at = c.loop-at.at - 1 in
    let next : c.loop-at.at ≡ suc at = omega (arith, c.loop-at-test.true) in
    let none = subst (λ k. last_key (drop k (pieces c.args.found.now)) ≡ None) next c.loop-at.invariant.none in
    record {
      bound = omega (arith, c.loop-at.invariant.bound);
      none = none_found at c.args.found.now c.index-found-at.result (omega (arith, c.loop-at-test.true, c.loop-at.invariant.bound)) (sym c.index-found-at.is) (ap (λ p. (piece_of p).key) c.index-found-at.is ∙ ap (option_map (λ k. k.items)) c.in_default.is) none;
    }
