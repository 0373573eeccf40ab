-- The kind that a frame's header names (AT Protocol specification, event stream).
use Rattle.std.specs.Prelude.{◌≡◌, ◌≢◌, ℕ, ℤ, pos, negsuc, List, Option, None, Some, codes, string_bytes}
use Rattle.atproto_events.specs.declared.frame_error.FrameError.{FrameError}
use Rattle.atproto_events.specs.declared.frame_error.FrameError.TheVariants as error
use Rattle.atproto_events.specs.declared.kind.Kind.{Kind}
use Rattle.atproto_events.specs.declared.kind.Kind.TheVariants as kind

-- a name that is not one of the known kinds
abbrev pub IsOtherName : List ℕ → Type 0
IsOtherName name = (name ≢ codes "#commit") × (name ≢ codes "#sync") × (name ≢ codes "#identity")
    × (name ≢ codes "#account") × (name ≢ codes "#info")

-- the kind of an operation and a name: 1 has a kind by its name, and -1 is an error
abbrev pub IsKind : ℤ → Option (List ℕ) → Kind → Type 0
IsKind op name kind.Commit = (op ≡ pos 1) × (name ≡ Some (codes "#commit"))
IsKind op name kind.Sync = (op ≡ pos 1) × (name ≡ Some (codes "#sync"))
IsKind op name kind.Identity = (op ≡ pos 1) × (name ≡ Some (codes "#identity"))
IsKind op name kind.Account = (op ≡ pos 1) × (name ≡ Some (codes "#account"))
IsKind op name kind.Info = (op ≡ pos 1) × (name ≡ Some (codes "#info"))
IsKind op name kind.Error = op ≡ negsuc 0
IsKind op name (kind.Other other) = (op ≡ pos 1) × (name ≡ Some (string_bytes other)) × IsOtherName (string_bytes other)

-- why there is no kind
abbrev pub NoKindFor : ℤ → Option (List ℕ) → FrameError → Type 0
NoKindFor op name error.NoKind = (op ≡ pos 1) × (name ≡ None)
NoKindFor op name (error.OtherOperation n) = (op ≡ n) × (n ≢ pos 1) × (n ≢ negsuc 0)
NoKindFor op name _ = ⊥
