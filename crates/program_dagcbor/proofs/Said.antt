-- Why each line is answered as it is.
use Rattle.std.proofs.Common.{◌≡◌, ◌≢◌, ◌++◌, ℕ, List, codes, Bool, true, false, IsTrue, if◌then◌else◌, Some, Result, Ok, Err, MatchOption, MatchResult, refl, ap, subst, ◌∙◌}
use Rattle.std.specs.Prelude.{⊤}
use Rattle.dagcbor_core.specs.declared.error.DecodeError.{DecodeError}
use Rattle.dagcbor_core.specs.declared.error.DecodeError.TheVariants as refusals
use Rattle.ipld_tree.specs.Tree.{Tree}
use Rattle.dagcbor_decode.specs.Decode.{Decoded, got, refused}
use Rattle.dagcbor_decode.specs.PrintedNames.{variant_name}
use Rattle.dagcbor_decode.specs.Verdicts.{why_of, answered, answer, linked, AnswersLinks}
use Rattle.program_dagcbor.specs.declared.command.Command.{Command}
use Rattle.program_shared.specs.declared.fault.ToolError.{ToolError}
use Rattle.program_dagcbor.specs.Answers.{variant, told, said, said_of, PushesLine}

-- the name of a refusal is that of why bytes are refused
named : {E : Type 0} (e : DecodeError E) → MatchOption (why_of e) ⊤ (λ why. variant_name e ≡ variant why)
named (refusals.Eof name expect) = refl
named (refusals.Mismatch name found) = refl
named (refusals.Unsupported name found) = refl
named (refusals.NonMinimal name found) = refl
named refusals.IndefiniteSize = refl
named (refusals.RequireUtf8 name) = refl
named (refusals.Msg message) = refl
named refusals.UnorderedKey = refl
named (refusals.DepthOverflow name) = refl
named refusals.TrailingData = refl
named (refusals.CastOverflow name) = refl
named _ = tt

refusal_told : {E : Type 0} (word : Tree → List ℕ) (d : Decoded Tree) (e : DecodeError E) → linked d ≡ Err (why_of e) → codes "refused " ++ variant_name e ≡ told word d
refusal_told word (got t rest) e is = absurd cc
refusal_told word (refused why left) e is =
    let same : why_of e ≡ Some why = cc in
    ap (λ (name : List ℕ). codes "refused " ++ name) (subst (λ o. MatchOption o ⊤ (λ w. variant_name e ≡ variant w)) same (named e))

-- `check` reports the refusal of a block
pub check_refused : {E : Type 0} (word : Tree → List ℕ) (d : Decoded Tree) (e : DecodeError E) {old new : List ℕ} {r : Result Unit ToolError} → answered (Err e) ≡ answer d
    → PushesLine (codes "refused " ++ variant_name e) old new r → PushesLine (told word d) old new r
check_refused {E} word d e {old} {new} {r} is pushed = subst (λ (line : List ℕ). PushesLine line old new r) (refusal_told word d e (found d is)) pushed
  where
    found : (d : Decoded Tree) → answered (Err e) ≡ answer d → linked d ≡ Err (why_of e)
    found (got t rest) is = absurd cc
    found (refused why left) is = cc

-- `links` reports the refusal of a block
pub links_refused : {E : Type 0} (word : Tree → List ℕ) (d : Decoded Tree) (e : DecodeError E) {old new : List ℕ} {r : Result Unit ToolError} → e ≢ refusals.OutOfMemory → AnswersLinks d (Err e)
    → PushesLine (codes "refused " ++ variant_name e) old new r → PushesLine (told word d) old new r
links_refused {E} word d e {old} {new} {r} other is pushed = subst (λ (line : List ℕ). PushesLine line old new r) (refusal_told word d e (found e other is)) pushed
  where
    found : (e : DecodeError E) → e ≢ refusals.OutOfMemory → AnswersLinks d (Err e) → linked d ≡ Err (why_of e)
    found refusals.OutOfMemory other is = absurd (other refl)
    found _ other is = is

-- what is said of a line, given whether it is hexadecimal
pub line_said : {E : Type 0} (command : Command) (text : Result (List ℕ) E) (is_text : Bool) (block shown : List ℕ) → shown ≡ block
    → MatchResult text (λ bytes. IsTrue is_text × (block ≡ bytes)) (λ _. is_text ≡ false) → (if is_text then said command shown else codes "refused hex") ≡ said_of command text
line_said command (Ok bytes) true block shown same is = ap (said command) (same ∙ is.1)
line_said command (Ok bytes) false block shown same is = let never : false ≡ true = is.0 in absurd (cc never)
line_said command (Err e) true block shown same is = absurd (cc is)
line_said command (Err e) false block shown same is = refl
