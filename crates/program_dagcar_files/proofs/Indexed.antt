-- What the program says about an index.
use Rattle.std.proofs.Common.{◌≡◌, ℕ, List, [], inl, Bool, Option, None, Some, IfSome, Result, Ok, Err, IfOk, refl, subst, string_bytes, String, Global}
use Rattle.std.proofs.KnownBytes.{Appends-nil}
use Rattle.program_parts.specs.Lines.{SaysBoth}
use Rattle.program_dagcar.specs.Speeches.{Speech, SaysBytes}
use Rattle.program_dagcar.specs.Answers.{check_speech, SaysWithPlaces}
use Rattle.program_shared.specs.declared.fault.ToolError.{ToolError}
use Rattle.program_dagcar_files.specs.Indexes.{IsIndexBeside, SaysChecked, and_well}

-- a text of an offset and a digest, which are these
pub text_of_both : {E : Type 0} (f : ℕ → List ℕ → List ℕ) (r : Result (String Global) E) (o p : ℕ) (d e : List ℕ) → o ≡ p → d ≡ e → IfOk r (λ t. string_bytes t ≡ f o d) → IfOk r (λ t. string_bytes t ≡ f p e)
text_of_both f r o p d e offset digest h = subst (λ x. x) (λ i. IfOk r (λ t. string_bytes t ≡ f (offset i) (digest i))) h

-- nothing was said
pub nothing_said : (speech : Speech) (b : List ℕ) (old : Option (List ℕ)) (e : ToolError) → SaysBytes speech b old (Err e) old
nothing_said speech b old e = record { whole = []; front = []; first = inl refl; out = Appends-nil old; next = inl refl }

pub checked_failed : (bytes old heard mid known : Option (List ℕ)) (e : ToolError) → IfSome bytes (λ b. SaysWithPlaces check_speech b old heard (Err e) mid known) → IfSome bytes (λ b. SaysChecked b old heard (Err e) mid known)
checked_failed None old heard mid known e h = tt
checked_failed (Some b) old heard mid known e h = (Err e, mid, known, h, (refl, refl, refl))

pub checked_so : (bytes old heard mid known new after : Option (List ℕ)) (well : Bool) (second ended : Result Bool ToolError) → ended ≡ and_well well second → IfSome bytes (λ b. SaysWithPlaces check_speech b old heard (Ok well) mid known) → IfSome bytes (λ b. SaysBoth (IsIndexBeside b) mid known second new after) → IfSome bytes (λ b. SaysChecked b old heard ended new after)
checked_so None old heard mid known new after well second ended is h k = tt
checked_so (Some b) old heard mid known new after well second ended is h k = (Ok well, mid, known, h, (second, k, is))
