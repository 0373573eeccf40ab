-- The made bytes are put, or the line.
use Rattle.std.proofs.Common.{◌≡◌, inl, inr, ℕ, ℤ, pos, List, Bool, true, false, sym, subst, Result, Ok, Err, IfOk, MatchResult, Vec}
use Rattle.std.specs.declared.alloc.Global.{Global}
use Rattle.std.specs.declared.alloc.AllocError.{AllocError}
use Rattle.program_records.specs.Commits.{OfFile}
use Rattle.program_records.specs.Proofs.{IsProofAt}
use Rattle.program_records.proofs.Either.{file_given, line_told}
use Rattle.abi_calls.specs.CidTexts.{IsPutText}
use Rattle.abi_memory_calls.specs.Answers.{IsMadeOrTold, IsProofFile, IsNoProofFile, WantsMemory, IsEitherPut}

pub made_so : (b key : List ℕ) (answer : (Vec ℕ Global × Bool) × Vec ℕ Global) (made : Result (Vec ℕ Global) (Vec ℕ Global)) → OfFile (IsProofAt key) b answer.0.1 answer.0.0.items answer.1.items → MatchResult made (λ v. (answer.0.1 ≡ true) × (v.items ≡ answer.0.0.items)) (λ line. (answer.0.1 ≡ false) × (line.items ≡ answer.1.items)) → IsMadeOrTold (IsProofFile b key) (IsNoProofFile b key) made
made_so b key answer (Ok v) h is = subst (IsProofFile b key) (sym is.1) (file_given key b _ _ _ h is.0)
made_so b key answer (Err line) h is = subst (IsNoProofFile b key) (sym is.1) (line_told key b _ _ _ h is.0)

pub put_so : {IsMade IsTold : List ℕ → Type 0} (answer : Result (Result (Vec ℕ Global) (Vec ℕ Global)) AllocError) (old new : List ℕ) (needed : ℕ) (code : ℤ) → IfOk answer (IsMadeOrTold IsMade IsTold) → MatchResult answer (λ it. MatchResult it (λ made. IsPutText (pos 0) made.items old new needed code) (λ line. IsPutText (pos 1) line.items old new needed code)) (λ _. WantsMemory old new needed code) → IsEitherPut IsMade IsTold old new needed code
put_so (Ok (Ok made)) old new needed code is put = inl (made.items, is, put)
put_so (Ok (Err line)) old new needed code is put = inr (inl (line.items, is, put))
put_so (Err e) old new needed code is put = inr (inr put)
