-- What is returned for bytes as a frame of a host's stream.
use Rattle.std.specs.Prelude.{◌≡◌, ◌⊎◌, ℕ, ◌+◌, ℤ, List, length}
use Rattle.atproto_events.specs.Frames.{SplitsFrame, IsFrameOf, HasNoEnd, PartsRefused}
use Rattle.atproto_events.specs.declared.body.Frame.{Frame}
use Rattle.atproto_events.specs.declared.frame_error.FrameError.{FrameError}
use Rattle.atproto_events.specs.declared.frame_error.FrameError.TheVariants.{NoEnd}
use Rattle.abi_memory_calls.specs.Codes.{frame_kind, frame_code}

-- the two items are a frame, whose kind is returned; or they are not, and the number of why is
abbrev pub IsPartsAnswer : (header body : List ℕ) → ℤ → Type 0
IsPartsAnswer header body code =
    ((frame : Frame) × IsFrameOf header body frame × (code ≡ frame_kind frame))
    ⊎ ((e : FrameError) × PartsRefused header body e × (code ≡ frame_code e))

-- by their heads, two items are at the front: where the second begins and ends is returned, and
-- what they are; or there are not two, and that is returned
abbrev pub IsFrameAnswer : List ℕ → (body end : ℕ) → ℤ → Type 0
IsFrameAnswer b body end code =
    ((first second rest : List ℕ) × SplitsFrame b first second rest × (body ≡ length first)
    × (end ≡ length first + length second) × IsPartsAnswer first second code)
    ⊎ (HasNoEnd b × (code ≡ frame_code NoEnd) × (body ≡ 0) × (end ≡ 0))
