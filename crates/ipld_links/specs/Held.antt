-- The names of the stored blocks.
use Rattle.std.specs.Prelude.{◌≡◌, ◌↔◌, ◌⊎◌, ℕ, List, length, take, Option, None, Some, slice_get, if◌then◌else◌, nat_le}
use Rattle.std.specs.Int.{w64, from_le_bytes}
use Rattle.std.specs.Ordering.{nat_cmp}
use Rattle.std.specs.BTreeMap.{get}
use Rattle.ipld_tree.specs.Cid.{CidParts, AreCidParts}
use Rattle.ipld_links.specs.Sets.{Among, members}
use Rattle.ipld_links.specs.declared.held.HeldNames.{HeldNames}

-- the first eight bytes of a digest as a little-endian number, or 0 if it has fewer
abbrev pub front : List ℕ → ℕ
front digest = if nat_le 8 (length digest) then from_le_bytes w64 (take 8 digest) else 0

-- the name at this place, if there is one
abbrev pub name_at : List CidParts → Option ℕ → Option CidParts
name_at names None = None
name_at names (Some i) = slice_get names i

-- the name in the list whose digest has these first bytes
abbrev pub name_in_row : HeldNames → ℕ → Option CidParts
name_in_row s n = name_at s.names.items (get nat_cmp s.places n)

-- the set has the name: in the list, or among the others
abbrev pub IsHeldName : CidParts → HeldNames → Type 0
IsHeldName c s = (name_in_row s (front c.digest) ≡ Some c) ⊎ Among c (members s.others)

-- the set has no name
abbrev pub HoldsNone : HeldNames → Type 0
HoldsNone s = (c : CidParts) → ¬ IsHeldName c s

-- the new names are the old ones and this CID
abbrev pub AddsName : CidParts → HeldNames → HeldNames → Type 0
AddsName c old new = AreCidParts c
    × ((q : CidParts) → IsHeldName q new ↔ (IsHeldName q old ⊎ (q ≡ c)))

-- all names are CIDs
abbrev pub AreNames : HeldNames → Type 0
AreNames s = (q : CidParts) → IsHeldName q s → AreCidParts q
