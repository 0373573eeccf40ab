-- The output for a stream of frames.
use Rattle.std.specs.Prelude.{◌≡◌, ℕ, ◌+◌, List, [], ◌∷◌, ◌++◌, length, Bool, true, ◌&&◌}
use Rattle.atproto_events.specs.Frames.{SplitsFrame, HasNoEnd}
use Rattle.atproto_events.specs.declared.frame_error.FrameError.TheVariants.{NoEnd}
use Rattle.program_events.specs.Causes.{unread_line}
use Rattle.program_events.specs.Seen.{Seen, nothing_seen}
use Rattle.program_events.specs.Frames.{IsToldAt, IsFrameSaid}

-- the two items of a frame: its header and its body
abbrev pub Items : Type 0
Items = List ℕ × List ℕ

-- the bytes are these frames, in order, and then the rest
abbrev pub AreFrames : List ℕ → List Items → List ℕ → Type 0
AreFrames b [] rest = b ≡ rest
AreFrames b (f ∷ fs) rest = (next : List ℕ) × SplitsFrame b f.0 f.1 next × AreFrames next fs rest

-- after the last frame: no output if no bytes are left; otherwise a message that no frame begins
abbrev pub IsEndSaid : (number place : ℕ) → List ℕ → Bool → List ℕ → List ℕ → Type 0
IsEndSaid number place [] well out told = (well ≡ true) × (out ≡ []) × (told ≡ [])
IsEndSaid number place rest well out told = HasNoEnd rest
    × IsToldAt number place (unread_line NoEnd) well out told

-- For frames from this number and offset on, and the bytes after them: the output for each, in
-- order, given what is known after those before it; and whether all is well.
abbrev pub AreFramesSaid : (number place : ℕ) → Seen → List Items → List ℕ → Bool → List ℕ → List ℕ → Type 0
AreFramesSaid number place seen [] rest well out told = IsEndSaid number place rest well out told
AreFramesSaid number place seen (f ∷ fs) rest well out told =
    (next : Seen) × (first others : Bool) × (line lines text texts : List ℕ)
    × IsFrameSaid number place seen f.0 f.1 next first line text
    × AreFramesSaid (number + 1) (place + (length f.0 + length f.1)) next fs rest others lines texts
    × (well ≡ (first && others)) × (out ≡ line ++ lines) × (told ≡ text ++ texts)

-- What `event` writes for a stream: the output for all frames, with no repository known at first.
abbrev pub AreEventsSaid : List ℕ → Bool → List ℕ → List ℕ → Type 0
AreEventsSaid b well out told = (fs : List Items) × (rest : List ℕ) × AreFrames b fs rest
    × AreFramesSaid 1 0 nothing_seen fs rest well out told
