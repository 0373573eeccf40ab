-- What a caller knows of a repository, given as two byte strings.
use Rattle.std.specs.Prelude.{◌≡◌, ◌≢◌, ◌⊎◌, ℕ, List, [], Option, None, Some, IsUtf8}
use Rattle.ipld_tree.specs.Cid.{AreCidParts, cid_bytes, IsCid}
use Rattle.atproto_events.specs.declared.verify.Known.{Known}

-- nothing, if the root has no bytes; else the root of this name, and the revision
abbrev pub IsKnown : (root rev : List ℕ) → Option Known → Type 0
IsKnown root rev None = root ≡ []
IsKnown root rev (Some k) = AreCidParts k.root × (root ≡ cid_bytes k.root) × IsUtf8 rev × (rev ≡ k.rev.now)

-- the root has bytes, and they are not a CID, or those of the revision are not UTF-8
abbrev pub SaysNoKnown : (root rev : List ℕ) → Type 0
SaysNoKnown root rev = (root ≢ []) × ((¬ IsCid root) ⊎ (¬ IsUtf8 rev))
