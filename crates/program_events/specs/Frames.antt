-- The output for one frame.
use Rattle.std.specs.Prelude.{◌≡◌, ◌⊎◌, ℕ, List, [], ◌++◌, codes, decimal, string_bytes, Bool, true, Option, None, Some, option_map}
use Rattle.program_records.specs.Records.{IsToldAlone}
use Rattle.atproto_events.specs.Frames.{IsFrameOf, PartsRefused}
use Rattle.atproto_events.specs.declared.frame_error.FrameError.{FrameError}
use Rattle.atproto_events.specs.declared.body.CommitFrame.{CommitFrame}
use Rattle.atproto_events.specs.declared.body.Frame.{Frame}
use Rattle.atproto_events.specs.declared.body.Frame.TheVariants as frame
use Rattle.atproto_events.specs.Verifying.{IsVerifiedEvent, EventRefused}
use Rattle.atproto_events.specs.declared.verify.Known.{Known}
use Rattle.atproto_events.specs.declared.verify.Verified.{Verified}
use Rattle.atproto_events.specs.declared.refusal.EventError.{EventError}
use Rattle.program_events.specs.Lines.{word_line, commit_lines, sync_line, identity_line, info_line, account_line}
use Rattle.program_events.specs.Causes.{IsOfFrame, IsOfEvent, unread_line, refused_line}
use Rattle.program_events.specs.Seen.{Seen, see, root_given}

-- the number of a frame, and the offset of its first byte
abbrev pub place_text : (number place : ℕ) → List ℕ
place_text number place = codes "frame " ++ (decimal number ++ (codes " at byte " ++ (decimal place ++ codes ": ")))

-- these lines are output, without an error message
abbrev pub IsSaidAlone : List ℕ → Bool → List ℕ → List ℕ → Type 0
IsSaidAlone lines well out told = (well ≡ true) × (out ≡ lines) × (told ≡ [])

-- the line is the error message for the frame at this place, without output
abbrev pub IsToldAt : (number place : ℕ) → List ℕ → Bool → List ℕ → List ℕ → Type 0
IsToldAt number place line well out told = IsToldAlone (place_text number place ++ line) well out told

-- For a commit: its lines, if it is verified against what is known of its repository, whose root
-- and revision are known from then on; or why it is refused.
abbrev pub IsCommitSaid : (number place : ℕ) → Seen → CommitFrame → Seen → Bool → List ℕ → List ℕ → Type 0
IsCommitSaid number place seen f next well out told =
    (known : Option Known) × (option_map root_given known ≡ seen (string_bytes f.event.repo))
    × (((v : Verified) × IsVerifiedEvent f known v
    × (next ≡ see seen (string_bytes f.event.repo) (Some (v.commit.data, string_bytes f.event.rev)))
    × IsSaidAlone (commit_lines f.event) well out told)
    ⊎ ((e : EventError) × EventRefused f known e × IsOfEvent e × (next ≡ seen)
    × IsToldAt number place (refused_line f.event.commit e) well out told))

-- For a frame that is read. After a sync nothing is known of its repository, whose commit is a new
-- one whatever came before. An error, and a frame of another kind, are error messages.
abbrev pub IsReadSaid : (number place : ℕ) → Seen → Frame → Seen → Bool → List ℕ → List ℕ → Type 0
IsReadSaid number place seen (frame.Commit f) next well out told = IsCommitSaid number place seen f next well out told
IsReadSaid number place seen (frame.Sync f) next well out told =
    (next ≡ see seen (string_bytes f.event.did) None) × IsSaidAlone (sync_line f.event) well out told
IsReadSaid number place seen (frame.Identity e) next well out told =
    (next ≡ seen) × IsSaidAlone (identity_line e) well out told
IsReadSaid number place seen (frame.Account e) next well out told =
    (next ≡ seen) × IsSaidAlone (account_line e) well out told
IsReadSaid number place seen (frame.Info e) next well out told =
    (next ≡ seen) × IsSaidAlone (info_line e) well out told
IsReadSaid number place seen (frame.Error e) next well out told =
    (next ≡ seen) × IsToldAt number place (word_line (codes "the host ends the stream:") (string_bytes e.error)) well out told
IsReadSaid number place seen (frame.Other name) next well out told =
    (next ≡ seen) × IsToldAt number place (word_line (codes "a kind that is not known:") (string_bytes name)) well out told

-- for two items: the output for the frame that they are; or why they are not one
abbrev pub IsFrameSaid : (number place : ℕ) → Seen → (header body : List ℕ) → Seen → Bool → List ℕ → List ℕ → Type 0
IsFrameSaid number place seen header body next well out told =
    ((it : Frame) × IsFrameOf header body it × IsReadSaid number place seen it next well out told)
    ⊎ ((e : FrameError) × PartsRefused header body e × IsOfFrame e × (next ≡ seen)
    × IsToldAt number place (unread_line e) well out told)
