-- What is written of the blocks of a store that links lead to.
use Rattle.std.specs.Prelude.{◌≡◌, ◌≢◌, ◌⊎◌, ◌↔◌, ℕ, List, [], ◌∷◌, Bool, false, IsTrue, Option, Result, MatchResult, flat_map}
use Rattle.std.specs.Io.KnownBytes.{Appends}
use Rattle.sqlite_trees.specs.declared.store.Store.{Ghosts}
use Rattle.dagcbor_core.specs.Appends.{AppendsFront}
use Rattle.ipld_tree.specs.Cid.{CidParts, cid_bytes}
use Rattle.ipld_links.specs.Reaching.{IsLost}
use Rattle.program_shared.specs.declared.fault.ToolError.{ToolError}
use Rattle.program_shared.specs.declared.fault.ToolError.TheVariants.{Input}
use Rattle.program_parts.specs.Lines.{missing_line}
use Rattle.store_on_disk.specs.Stored.{FindsSo}
use Rattle.store_on_disk.specs.Trees.{AreFirstOf, AreTreeOf, OfStored, ReachRefused}
use Rattle.program_dagstore.specs.Files.{SendsFile, SendsFirst, SendsFront}
use Rattle.program_dagstore.specs.Lines.{no_block_line}
use Rattle.program_dagstore.specs.declared.fault.Fault.{Fault}
use Rattle.program_dagstore.specs.declared.fault.Fault.TheVariants as fault

-- The CAR file of the root and of the blocks that links lead to from there was written; these names
-- are the links that lead to no block.
abbrev pub SendsStoredTree : {S : Type 0} → Ghosts S → CidParts
    → S → Option (List ℕ) → List CidParts → S → Option (List ℕ) → Type 0
SendsStoredTree g root old before lost new after =
    SendsFile g (cid_bytes root ∷ []) (AreTreeOf root lost) old before new after

-- nothing was written, because nothing is stored under the root
abbrev pub NamesNothing : {S : Type 0} → Ghosts S → CidParts
    → S → Option (List ℕ) → S → Option (List ℕ) → Type 0
NamesNothing g root old before new after = (after ≡ before)
    × FindsSo g old new (λ v. OfStored v (λ stored. IsLost stored root))

-- what is reported: the links that lead to no block; or that the root has no block
abbrev pub TellsTree : {S : Type 0} → Ghosts S → CidParts
    → S → Option (List ℕ) → S → Option (List ℕ) → Bool → List ℕ → Type 0
TellsTree g root old before new after well told = ((lost : List CidParts)
    × SendsStoredTree g root old before lost new after
    × (told ≡ flat_map missing_line lost) × (IsTrue well ↔ (lost ≡ [])))
    ⊎ (NamesNothing g root old before new after × (told ≡ no_block_line) × (well ≡ false))

-- only a prefix of what is to be reported was written
pub record BreaksTold {S : Type 0} (g : Ghosts S) (root : CidParts)
    (old : S) (before heard : Option (List ℕ))
    (new : S) (after said : Option (List ℕ)) : Type 0 where
  pub well : Bool
  pub told : List ℕ
  pub tells : TellsTree g root old before new after well told
  pub front : AppendsFront heard said told

-- Why not all was written: the store refused, before anything was written, or after the CAR file of
-- some first blocks; or a device failed, or memory ran out, after a prefix of such a file, or of
-- what is reported.
abbrev pub TreeFails : {S : Type 0} → Ghosts S → CidParts
    → S → Option (List ℕ) → Option (List ℕ) → Fault
    → S → Option (List ℕ) → Option (List ℕ) → Type 0
TreeFails g root old before heard (fault.Store told) new after said = (said ≡ heard)
    × ReachRefused g root old new told
    × ((after ≡ before)
    ⊎ SendsFirst g (cid_bytes root ∷ []) (AreFirstOf root) old before new after)
TreeFails g root old before heard (fault.Tool e) new after said = (e ≢ Input)
    × (((said ≡ heard) × SendsFront g (cid_bytes root ∷ []) (AreFirstOf root) old before new after)
    ⊎ BreaksTold g root old before heard new after said)

-- All was written and reported, and all is well if each link leads to a block; or not all was.
abbrev pub SaysTree : {S : Type 0} → Ghosts S → CidParts
    → S → Option (List ℕ) → Option (List ℕ) → Result Bool Fault
    → S → Option (List ℕ) → Option (List ℕ) → Type 0
SaysTree g root old before heard result new after said = MatchResult result
    (λ well. (told : List ℕ)
    × TellsTree g root old before new after well told × Appends heard said told)
    (λ e. TreeFails g root old before heard e new after said)

-- ---- its steps

-- the text was reported; or a prefix of it was, and the device failed, or memory ran out
abbrev pub TellsText : List ℕ → (Bool → Type 0)
    → Option (List ℕ) → Result Bool Fault → Option (List ℕ) → Type 0
TellsText text IsSo heard result said = MatchResult result
    (λ well. IsSo well × Appends heard said text)
    (λ e. (kind : ToolError) × (e ≡ fault.Tool kind) × (kind ≢ Input)
    × AppendsFront heard said text)
