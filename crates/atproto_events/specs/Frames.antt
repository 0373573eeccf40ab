-- Frames, in sequence (AT Protocol specification, event stream).
use Rattle.std.specs.Prelude.{◌≡◌, ◌≢◌, ◌⊎◌, ℕ, ℤ, List, ◌++◌, Option, ⊤}
use Rattle.dagcbor_core.specs.Steps.{default_steps}
use Rattle.dagcbor_core.specs.declared.error.DecodeError.TheVariants as unread
use Rattle.dagcbor_read.specs.Whole.{IsWhole, HoldsNoValue}
use Rattle.dagcbor_items.specs.Skips.{EndByHeads}
use Rattle.types_events.specs.Events.{frame_header_shape}
use Rattle.atproto_events.specs.Kinds.{IsKind, NoKindFor}
use Rattle.atproto_events.specs.Bodies.{IsBody, IsNoBody, BodyRefused}
use Rattle.atproto_events.specs.declared.frame_error.FrameError.{FrameError}
use Rattle.atproto_events.specs.declared.frame_error.FrameError.TheVariants as error
use Rattle.atproto_events.specs.declared.kind.Kind.{Kind}
use Rattle.atproto_events.specs.declared.body.Frame.{Frame}

-- the bytes are a header that names this kind
abbrev pub IsHeader : List ℕ → Kind → Type 0
IsHeader header kind = (op : ℤ) × (name : Option (List ℕ))
    × IsWhole frame_header_shape default_steps header (op, (name, tt)) × IsKind op name kind

-- the bytes begin with two items by their heads, and then the rest
pub record SplitsFrame (b header body rest : List ℕ) : Type 0 where
  pub is : b ≡ header ++ (body ++ rest)
  pub first : EndByHeads b 1 (body ++ rest)
  pub second : EndByHeads (body ++ rest) 1 rest

-- the two items are a header and a body of its kind
abbrev pub IsFrameOf : (header body : List ℕ) → Frame → Type 0
IsFrameOf header body frame = (kind : Kind) × IsHeader header kind × IsBody kind body frame

-- the bytes begin with a header and a body of its kind, and then the rest
pub record IsFrame (b : List ℕ) (frame : Frame) (rest : List ℕ) : Type 0 where
  pub header : List ℕ
  pub body : List ℕ
  pub is : b ≡ header ++ (body ++ rest)
  pub told : IsFrameOf header body frame

-- the bytes do not begin with an item by its heads
abbrev pub HasNoItem : List ℕ → Type 0
HasNoItem b = (rest : List ℕ) → ¬ EndByHeads b 1 rest

-- the bytes do not begin with two items
abbrev pub HasNoEnd : List ℕ → Type 0
HasNoEnd b = HasNoItem b ⊎ ((body : List ℕ) × EndByHeads b 1 body × HasNoItem body)

-- the bytes are a header that names no known operation or kind, for this reason
abbrev pub HasNoKind : List ℕ → FrameError → Type 0
HasNoKind header e = (op : ℤ) × (name : Option (List ℕ))
    × IsWhole frame_header_shape default_steps header (op, (name, tt)) × NoKindFor op name e

-- why the bytes are not a header of a kind; or out of memory
abbrev pub HeaderRefused : List ℕ → FrameError → Type 0
HeaderRefused header error.OutOfMemory = ⊤
HeaderRefused header (error.NoHeader e) = HoldsNoValue frame_header_shape default_steps header × (e ≢ unread.OutOfMemory)
HeaderRefused header e = HasNoKind header e

-- why the two items are not a frame: the header is refused, or the body is not of its kind
abbrev pub PartsRefused : (header body : List ℕ) → FrameError → Type 0
PartsRefused header body e = HeaderRefused header e
    ⊎ ((kind : Kind) × IsHeader header kind × BodyRefused (IsNoBody kind body) e)

-- why the bytes do not begin with a frame
abbrev pub FrameRefused : List ℕ → FrameError → Type 0
FrameRefused b e = ((e ≡ error.NoEnd) × HasNoEnd b)
    ⊎ ((header body rest : List ℕ) × SplitsFrame b header body rest × PartsRefused header body e)

-- the bytes do not begin with a frame
abbrev pub BeginsNoFrame : List ℕ → Type 0
BeginsNoFrame b = (frame : Frame) (rest : List ℕ) → ¬ IsFrame b frame rest

-- the bytes do not begin with a frame, unless memory ran out, which says nothing about them
abbrev pub BeginsNoFrameFor : List ℕ → FrameError → Type 0
BeginsNoFrameFor b error.OutOfMemory = ⊤
BeginsNoFrameFor b e = BeginsNoFrame b
