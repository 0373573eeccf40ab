-- The command that words name, and how its run ended.
use Rattle.std.proofs.Common.{◌≡◌, ℕ, List, [], refl, sym, ap, ◌∙◌, get_or, arith, Option, None, Some, IfSome, Result, Ok, Err, MatchResult}
use Rattle.program_dagcbor.specs.declared.command.Command.{Command}
use Rattle.program_dagcbor.specs.declared.command.Command.TheVariants.{Check, Links}
use Rattle.program_dagcbor.specs.Commands.{IsCommand}

-- words name one command at most
pub same_command : (words : List (List ℕ)) (c d : Command) → IsCommand words c → IsCommand words d → c ≡ d
same_command words Check Check h k = refl
same_command words Links Links h k = refl
same_command words Check Links h k = let first : 99 ≡ 108 = ap (λ (ws : List (List ℕ)). get_or (get_or ws 0 []) 0 0) (sym h ∙ k) in absurd (omega (arith, first))
same_command words Links Check h k = let first : 108 ≡ 99 = ap (λ (ws : List (List ℕ)). get_or (get_or ws 0 []) 0 0) (sym h ∙ k) in absurd (omega (arith, first))

-- a run with status 0 ended well, and one with status 1 did not
module _ {T E : Type 0} (X : Type 0) (before : Option (List ℕ)) (Q : List ℕ → Type 0) (P : E → List ℕ → Type 0) where
  pub ended_well : (r : Result T E) (status : ℕ) → MatchResult r (λ _. (status ≡ 0) × X) (λ _. status ≡ 1) → status ≡ 0 → IfSome before (λ b. MatchResult r (λ _. Q b) (λ e. P e b)) → IfSome before Q
  ended_well (Ok v) status h e q = q
  ended_well (Err x) status h e q = absurd (omega (arith, h, e))

  pub ended_badly : (r : Result T E) (status : ℕ) → MatchResult r (λ _. (status ≡ 0) × X) (λ _. status ≡ 1) → status ≡ 1 → IfSome before (λ b. MatchResult r (λ _. Q b) (λ e. P e b)) → IfSome before (λ b. (e : E) × P e b)
  ended_badly (Ok v) status h e q = absurd (omega (arith, h.0, e))
  ended_badly (Err x) status h e q = for before q
    where
      for : (before : Option (List ℕ)) → IfSome before (P x) → IfSome before (λ b. (e : E) × P e b)
      for None q = tt
      for (Some b) q = (x, q)
