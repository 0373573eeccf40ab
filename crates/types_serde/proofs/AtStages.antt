-- What is open, by what it expects next.
use Rattle.std.proofs.Common.{◌≡◌, ℕ, List, Some, None, sym, ◌∙◌, subst}
use Rattle.ipld_tree.specs.Tree.{Tree}
use Rattle.dagcbor_write.specs.Trees.{Pair}
use Rattle.types_serde.specs.Building.{Level, whole, in_list, in_map, in_link, rests, for_key, for_value, for_map}
use Rattle.types_serde.specs.Holds.{HoldsLevel, Part}
use Rattle.types_serde.specs.declared.frame.Stage.{Stage}
use Rattle.types_serde.specs.declared.frame.Stage.TheVariants as stage

-- the property is shown of each level that is represented at this stage
abbrev pub ShownAt : Stage → Part → (Level → Type 0) → Type 0
ShownAt stage.Vacant f P = HoldsLevel (whole None) f → P (whole None)
ShownAt stage.Full f P = (u : Tree) → HoldsLevel (whole (Some u)) f → P (whole (Some u))
ShownAt stage.List f P = (ts : List Tree) → HoldsLevel (in_list ts) f → P (in_list ts)
ShownAt stage.Rests f P = (ps : List Pair) (n : ℕ) → HoldsLevel (in_map ps rests n) f → P (in_map ps rests n)
ShownAt stage.WantsKey f P = (ps : List Pair) (n : ℕ) → HoldsLevel (in_map ps for_key n) f → P (in_map ps for_key n)
ShownAt stage.WantsValue f P = (ps : List Pair) (k : List ℕ) (n : ℕ) → HoldsLevel (in_map ps (for_value k) n) f → P (in_map ps (for_value k) n)
ShownAt stage.WantsMap f P = (ps : List Pair) (n : ℕ) → HoldsLevel (in_map ps for_map n) f → P (in_map ps for_map n)
ShownAt stage.Link f P = HoldsLevel (in_link None) f → P (in_link None)
ShownAt stage.Linked f P = (c : List ℕ) → HoldsLevel (in_link (Some c)) f → P (in_link (Some c))

-- a level is represented only at its own stage
pub at_stage : (s : Stage) (f : Part) (P : Level → Type 0) → f.frame.stage ≡ s → ShownAt s f P → (l : Level) → HoldsLevel l f → P l
at_stage s f P at g l h = by l h
  where
    shown : (r : Stage) → f.frame.stage ≡ r → ShownAt r f P
    shown r is = subst (λ x. ShownAt x f P) (sym at ∙ is) g

    by : (l : Level) → HoldsLevel l f → P l
    by (whole None) h = shown stage.Vacant h.0 h
    by (whole (Some u)) h = shown stage.Full h.0 u h
    by (in_list ts) h = shown stage.List h.0 ts h
    by (in_map ps rests n) h = shown stage.Rests h.0.0 ps n h
    by (in_map ps for_key n) h = shown stage.WantsKey h.0.0 ps n h
    by (in_map ps (for_value k) n) h = shown stage.WantsValue h.0.0 ps k n h
    by (in_map ps for_map n) h = shown stage.WantsMap h.0.0 ps n h
    by (in_link None) h = shown stage.Link h.0 h
    by (in_link (Some c)) h = shown stage.Linked h.0 c h
