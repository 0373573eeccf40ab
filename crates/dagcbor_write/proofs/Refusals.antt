-- Refusals with a message of our own, and those of calls that may take memory.
use Rattle.std.proofs.Common.{◌≡◌, ℕ, ◌≤◌, List, length, Option, None, Result, Err, true, refl, sym, subst}
use Rattle.dagcbor_core.specs.Messages.{Says, message_bytes}
use Rattle.dagcbor_heads.specs.Written.{Written, Stops, WantsMemoryOnlyIf}
use Rattle.dagcbor_heads.proofs.Writing.{appends_nothing}
use Rattle.dagcbor_core.specs.declared.error.EncodeError.{EncodeError}
use Rattle.dagcbor_core.specs.declared.error.EncodeError.TheVariants.{Msg, OutOfMemory}
use Rattle.dagcbor_core.specs.declared.name.Message.{Message}
use Rattle.dagcbor_write.specs.Answers.{OnMessage}
use Rattle.dagcbor_write.specs.Gathering.{Refused}

module _ {E : Type 0} {e : EncodeError E} {text : List ℕ} (made : (kept : Message) × (e ≡ Msg kept) × Says kept text × (length text ≤ 63 → message_bytes kept ≡ text)) where
  -- a cause of this message
  pub refused_with : length text ≤ 63 → (Cause : List ℕ → Type 0) → Cause text → Refused Cause e
  refused_with short Cause h = let at = subst Cause (sym (made.3 short)) h in subst (λ x. Refused Cause x) (sym made.1) at

  pub on_message_with : length text ≤ 63 → (P : List ℕ → Type 0) → P text → OnMessage P e
  on_message_with short P h = let at = subst P (sym (made.3 short)) h in subst (λ x. OnMessage P x) (sym made.1) at

  -- before anything was written
  pub stops_with : (whole : Option (List ℕ)) (s : Written) → whole ≡ None → Stops whole s s e
  stops_with whole s none = subst (λ x. Stops whole s s x) (sym made.1) (none, appends_nothing s.bytes, refl, refl)

-- a call that may take memory may be out of it
pub may_want : {T E : Type 0} (r : Result T (EncodeError E)) → WantsMemoryOnlyIf true r
may_want (Err OutOfMemory) = cc
may_want _ = tt
