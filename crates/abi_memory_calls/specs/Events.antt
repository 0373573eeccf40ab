-- What is returned for a commit in a frame of a host's stream.
use Rattle.std.specs.Prelude.{◌≡◌, ◌⊎◌, ℕ, ℤ, pos, negsuc, List, Option}
use Rattle.dagcbor_write.specs.Answers.{AreSpellingOf}
use Rattle.abi_calls.specs.CidTexts.{IsPutText, PutsNone}
use Rattle.atproto_events.specs.Frames.{IsFrame, FrameRefused, BeginsNoFrameFor}
use Rattle.atproto_events.specs.declared.body.CommitFrame.{CommitFrame}
use Rattle.atproto_events.specs.declared.body.Frame.{Frame}
use Rattle.atproto_events.specs.declared.body.Frame.TheVariants as frame
use Rattle.atproto_events.specs.declared.frame_error.FrameError.{FrameError}
use Rattle.atproto_events.specs.Verifying.{IsVerifiedEvent, EventRefused}
use Rattle.atproto_events.specs.declared.verify.Known.{Known}
use Rattle.atproto_events.specs.declared.verify.Verified.{Verified}
use Rattle.atproto_events.specs.declared.refusal.EventError.{EventError}
use Rattle.abi_memory_calls.specs.Codes.{frame_code, event_code, node_of, form_of}
use Rattle.abi_memory_calls.specs.EventBlocks.{verified_tree}
use Rattle.abi_memory_calls.specs.Knowing.{IsKnown, SaysNoKnown}

-- a number is returned, nothing is needed, and nothing is changed
abbrev pub TellsOnly : ℤ → List ℕ → List ℕ → ℕ → ℤ → Type 0
TellsOnly told old new needed code = (code ≡ told) × PutsNone old new needed

-- the number of why it is not verified, and the name of the node that is the cause
abbrev pub IsRefusalPut : EventError → List ℕ → List ℕ → ℕ → ℤ → Type 0
IsRefusalPut e old new needed code = IsPutText (event_code e) (form_of (node_of e)) old new needed code

-- the block that describes what is verified is put
abbrev pub IsVerifiedPut : CommitFrame → Option Known → List ℕ → List ℕ → ℕ → ℤ → Type 0
IsVerifiedPut f known old new needed code = (v : Verified) × (block : List ℕ)
    × IsVerifiedEvent f known v × AreSpellingOf (verified_tree f.event.commit v) block
    × IsPutText (pos 0) block old new needed code

-- it is verified, or the number of why it is not is returned; or memory ran out, and -42 is
-- returned
abbrev pub IsJudged : CommitFrame → Option Known → List ℕ → List ℕ → ℕ → ℤ → Type 0
IsJudged f known old new needed code = IsVerifiedPut f known old new needed code
    ⊎ (((e : EventError) × EventRefused f known e × IsRefusalPut e old new needed code)
    ⊎ TellsOnly (negsuc 41) old new needed code)

-- the commit is verified or not; for a frame of another kind that is returned
abbrev pub IsFrameJudged : Frame → Option Known → List ℕ → List ℕ → ℕ → ℤ → Type 0
IsFrameJudged (frame.Commit f) known old new needed code = IsJudged f known old new needed code
IsFrameJudged _ known old new needed code = TellsOnly (negsuc 65) old new needed code

-- the frame at the front is judged; or there is none, and the number of why is returned
abbrev pub IsJudgedAgainst : Option Known → List ℕ → List ℕ → List ℕ → ℕ → ℤ → Type 0
IsJudgedAgainst known b old new needed code =
    ((f : Frame) × (rest : List ℕ) × IsFrame b f rest × IsFrameJudged f known old new needed code)
    ⊎ ((e : FrameError) × FrameRefused b e × BeginsNoFrameFor b e
    × TellsOnly (frame_code e) old new needed code)

-- it is judged against what is known; or that is not a root and a revision, and its number is
-- returned
abbrev pub IsEventAnswer : List ℕ → (root rev : List ℕ) → List ℕ → List ℕ → ℕ → ℤ → Type 0
IsEventAnswer b root rev old new needed code =
    ((known : Option Known) × IsKnown root rev known × IsJudgedAgainst known b old new needed code)
    ⊎ (SaysNoKnown root rev × TellsOnly (negsuc 66) old new needed code)
