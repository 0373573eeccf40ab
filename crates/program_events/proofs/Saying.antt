-- The output for one frame.
use Rattle.std.proofs.Common.{◌≡◌, inl, inr, ℕ, List, refl, sym, subst, Bool, Option, Some, option_map, codes, string_bytes, String, Result, Ok, Err, IfOk}
use Rattle.std.specs.Global.{Global}
use Rattle.types_events.specs.declared.events.ErrorEvent.{ErrorEvent}
use Rattle.atproto_events.specs.declared.body.CommitFrame.{CommitFrame}
use Rattle.atproto_events.specs.declared.body.Frame.{Frame}
use Rattle.atproto_events.specs.declared.body.Frame.TheVariants as frame
use Rattle.atproto_events.specs.Verifying.{IsVerifiedEvent, EventRefused}
use Rattle.atproto_events.specs.declared.verify.Known.{Known}
use Rattle.atproto_events.specs.declared.verify.Verified.{Verified}
use Rattle.atproto_events.specs.declared.refusal.EventError.{EventError}
use Rattle.program_events.specs.Lines.{word_line, commit_lines}
use Rattle.program_events.specs.Causes.{IsOfEvent, refused_line}
use Rattle.program_events.specs.Seen.{Seen, see, root_given}
use Rattle.program_events.specs.Frames.{IsSaidAlone, IsToldAt, IsCommitSaid, IsReadSaid}

-- what holds for an answer holds for it in other words
pub if_ok : {A E : Type 0} {P Q : A → Type 0} (r : Result A E) → IfOk r P → ((a : A) → P a → Q a) → IfOk r Q
if_ok (Ok a) h f = f a h
if_ok (Err e) h f = tt

told_as : (n p : ℕ) (line text : List ℕ) (well : Bool) (out told : List ℕ) → line ≡ text → IsToldAt n p line well out told → IsToldAt n p text well out told
told_as n p line text well out told is h = subst (λ l. IsToldAt n p l well out told) is h

pub commit_verified : (n p : ℕ) (seen next : Seen) (f : CommitFrame) (known : Option Known) (v : Verified) (well : Bool) (out told : List ℕ)
    → option_map root_given known ≡ seen (string_bytes f.event.repo) → IsVerifiedEvent f known v
    → (next ≡ see seen (string_bytes f.event.repo) (Some (v.commit.data, string_bytes f.event.rev))) × IsSaidAlone (commit_lines f.event) well out told
    → IsCommitSaid n p seen f next well out told
commit_verified n p seen next f known v well out told is verified (e, s) = (known, is, inl (v, verified, e, s))

pub commit_refused : (n p : ℕ) (seen : Seen) (f : CommitFrame) (known : Option Known) (e : EventError) (line : List ℕ) (well : Bool) (out told : List ℕ)
    → option_map root_given known ≡ seen (string_bytes f.event.repo) → EventRefused f known e → IsOfEvent e → line ≡ refused_line f.event.commit e
    → IsToldAt n p line well out told → IsCommitSaid n p seen f seen well out told
commit_refused n p seen f known e line well out told is refused of same h =
    (known, is, inr (e, refused, of, refl, told_as n p line (refused_line f.event.commit e) well out told same h))

pub error_said : (n p : ℕ) (seen : Seen) (f : Frame) (e : ErrorEvent) (line : List ℕ) (well : Bool) (out told : List ℕ)
    → f ≡ frame.Error e → line ≡ word_line (codes "the host ends the stream:") (string_bytes e.error) → IsToldAt n p line well out told → IsReadSaid n p seen f seen well out told
error_said n p seen f e line well out told is same h = subst (λ x. IsReadSaid n p seen x seen well out told) (sym is) (refl, told_as n p line _ well out told same h)

pub other_said : (n p : ℕ) (seen : Seen) (f : Frame) (name : String Global) (line : List ℕ) (well : Bool) (out told : List ℕ)
    → f ≡ frame.Other name → line ≡ word_line (codes "a kind that is not known:") (string_bytes name) → IsToldAt n p line well out told → IsReadSaid n p seen f seen well out told
other_said n p seen f name line well out told is same h = subst (λ x. IsReadSaid n p seen x seen well out told) (sym is) (refl, told_as n p line _ well out told same h)
