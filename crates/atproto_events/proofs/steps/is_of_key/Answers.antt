use Rattle.std.proofs.Common.{◌≡◌, Bool, true, false, List, ℕ, Some, sym, ap, ◌∙◌, arith, MatchBool, bytes_eq, ◌<◌, length, get_or}
use Rattle.std.specs.Prelude.{option_map}
use Rattle.std.proofs.lemmas.Slice.Eq.{bytes_eq-Decides}
use Rattle.atproto_events.specs.Pieces.{piece_of, pieces}
use Rattle.atproto_events.specs.Undone.{IsOfKey}
use Rattle.atproto_events.specs.declared.pieces.Piece.{Piece}
use Rattle.atproto_events.proofs.Places.{of_key_within}
use Rattle.atproto_events.proofs.Stepping.{of_key_at, key_there}
use Rattle.atproto_events.proofs.steps.is_of_key.Goals as goal

by : (key other : List ℕ) (i : ℕ) (ps : List Piece) (d : Piece) (b : Bool) → i < length ps → get_or ps i d ≡ d → (piece_of d).key ≡ Some other → b ≡ bytes_eq other key
    → MatchBool b (IsOfKey key i (pieces ps)) (¬ IsOfKey key i (pieces ps))
by key other i ps d true lt is k e = of_key_at key i ps d is lt (k ∙ ap Some ((bytes_eq-Decides other key).0 (sym e)))
by key other i ps d false lt is k e = λ h. let same : other ≡ key = cc (k, key_there key i ps d is h) in let yes = (bytes_eq-Decides other key).1 same in absurd (cc (e, yes))

pub returns-in-Some-key : goal.returns-in-Some-key
returns-in-Some-key c =
    let found = c.in-Some.ensures.lookup in
    by c.args.key.now c.as_slice.result.now c.args.at c.args.all.now c.in-Some.piece.now c.eq.result found.3.0 (sym found.1) (ap (option_map (λ k. k.items)) c.in-Some-key.is ∙ ap Some (sym c.as_slice.ensures.value)) c.eq.ensures

pub returns-in-None-key : goal.returns-in-None-key
returns-in-None-key c h =
    let none = ap (option_map (λ k. k.items)) c.in-None-key.is in
    let some = key_there c.args.key.now c.args.at c.args.all.now c.in-Some.piece.now (sym c.in-Some.ensures.lookup.1) h in
    absurd (cc (none, some))

pub returns-in-None : goal.returns-in-None
returns-in-None c h = absurd (omega (arith, c.in-None.ensures.lookup.3, of_key_within c.args.key.now c.args.at c.args.all.now h))
