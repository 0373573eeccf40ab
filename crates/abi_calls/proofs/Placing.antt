-- A refusal is placed in the bytes, or after them.
use Rattle.std.proofs.Common.{◌≡◌, ℕ, ◌≤◌, List, length, take, Option, Result, Ok, Err, sym, ap, subst, arith}
use Rattle.ipld_tree.specs.Tree.{Tree}
use Rattle.dagcbor_decode.specs.Decode.{Decoded, Why, got, refused, eof, decode}
use Rattle.dagcbor_decode.specs.Verdicts.{judged, verdict, place_of}
use Rattle.dagcbor_decode.specs.declared.kind.Kind.{Kind}
use Rattle.dagcbor_decode.specs.declared.slices.Refused.{Refused}
use Rattle.abi_calls.specs.Standing.{AreTokens, AreFrontTokens, end_of}
use Rattle.abi_calls.specs.declared.tape.Token.{Token}

abbrev place_in : Result Kind (Option Why × ℕ) → ℕ
place_in (Ok kind) = 0
place_in (Err p) = p.1

of_place : (b : List ℕ) (why : Why) (left : ℕ) → place_of b why left ≤ length b
of_place b (eof name expect) left = omega arith
of_place b why left = omega arith

pub placed_within : (b : List ℕ) (r : Refused) → judged (Err r) ≡ verdict b (decode b) → r.place ≤ length b
placed_within b r e = by (decode b) e
  where
    by : (q : Decoded Tree) → judged (Err r) ≡ verdict b q → r.place ≤ length b
    by (got t rest) e = absurd (cc e)
    by (refused why left) e = subst (λ n. n ≤ length b) (sym (ap place_in e)) (of_place b why left)

-- the tokens before the place are those before the end
pub placed_end : (b : List ℕ) (r : Refused) (q : Decoded Tree) → judged (Err r) ≡ verdict b q → (tokens : List Token) → AreTokens (take r.place b) tokens → (r.place ≡ end_of b q) × AreFrontTokens b q tokens
placed_end b r (got t rest) e tokens h = absurd (cc e)
placed_end b r (refused why left) e tokens h = let same : r.place ≡ place_of b why left = ap place_in e in (same, subst (λ n. AreTokens (take n b) tokens) same h)
