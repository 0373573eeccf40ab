-- What an index yields for the blocks on a path's way.
use Rattle.std.specs.Prelude.{◌≡◌, ℕ, List, Bool, None, Some, Option, ⊤, IfSome, MatchBool}
use Rattle.ipld_tree.specs.Cid.{CidParts}
use Rattle.ipld_links.specs.Verdicts.{IsVerified}
use Rattle.ipld_links.specs.Reaching.{Stored, stored_in}
use Rattle.ipld_paths.specs.Resolving.{Resolves}
use Rattle.ipld_paths.specs.declared.resolution.End.{End}
use Rattle.ipld_paths.specs.declared.resolution.End.TheVariants as ends
use Rattle.ipld_paths.specs.declared.resolution.Resolved.{Resolved}
use Rattle.program_index.specs.Finds.{IsListed}
use Rattle.program_index.specs.Layouts.{HasIndex}
use Rattle.program_index.specs.declared.way.Gathered.{Gathered}
use Rattle.program_index.specs.declared.way.Gathered.TheVariants as gathered

-- each block matches its CID
abbrev pub AreVerified : Stored → Type 0
AreVerified stored = (q : CidParts) (b : List ℕ) → stored q ≡ Some b → IsVerified (q, b)

-- the end of a path is not for lack of a block
abbrev pub IsSettled : End → Type 0
IsSettled ends.NotHeld = ⊥
IsSettled ends.Endless = ⊥
IsSettled _ = ⊤

-- Each block matches its CID, and no block on the path's way is missing.
pub record HoldsWay (stored : Stored) (root : CidParts) (path : List (List ℕ)) : Type 0 where
  pub verified : AreVerified stored
  pub settled : (r : Resolved) → Resolves stored root path r → IsSettled r.end

-- A block on the path's way is not listed: the path leads to it over blocks that match their CIDs,
-- and the index does not list it.
pub record LeavesIndex (b : List ℕ) (root : CidParts) (path : List (List ℕ)) : Type 0 where
  pub stored : Stored
  pub verified : AreVerified stored
  pub last : Resolved
  pub led : Resolves stored root path last
  pub wanting : last.end ≡ ends.NotHeld
  pub unlisted : ¬ IsListed b last.block

-- the blocks on the way, in a file with an index; or one of them is not listed; or there is no
-- index
abbrev pub IsGathered : Option (List ℕ) → CidParts → List (List ℕ) → Gathered → Type 0
IsGathered known root path (gathered.Blocks blocks) = HoldsWay (stored_in blocks) root path × IfSome known HasIndex
IsGathered known root path gathered.NoEntry = IfSome known (λ b. HasIndex b × LeavesIndex b root path)
IsGathered known root path gathered.NoIndex = IfSome known (λ b. ¬ HasIndex b)

-- ---- the steps

-- each block matches its CID, and the file has an index
abbrev pub AreLedTo : Option (List ℕ) → Stored → Type 0
AreLedTo known stored = (q : CidParts) (b : List ℕ) → stored q ≡ Some b → IsVerified (q, b) × IfSome known HasIndex

-- the blocks are such, and include the earlier ones; if the name has none, the index lists none
pub record HoldsMore (known : Option (List ℕ)) (name : CidParts) (old new : Stored) : Type 0 where
  pub led : AreLedTo known new
  pub keeps : (q : CidParts) (b : List ℕ) → old q ≡ Some b → new q ≡ Some b
  pub index : IfSome known HasIndex
  pub unlisted : new name ≡ None → IfSome known (λ b. ¬ IsListed b name)

-- the name was looked up; or the file has no index
abbrev pub LooksUp : Option (List ℕ) → CidParts → Stored → Bool → Stored → Type 0
LooksUp known name old has new = AreLedTo known old
    → MatchBool has (HoldsMore known name old new) (IfSome known (λ b. ¬ HasIndex b))
