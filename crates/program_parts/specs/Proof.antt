-- A CAR file that proves what a path leads to.
use Rattle.std.specs.Prelude.{◌≡◌, ◌⊎◌, ℕ, List, [], ◌∷◌, Bool, true, false, ⊤}
use Rattle.ipld_tree.specs.Cid.{CidParts, cid_bytes}
use Rattle.ipld_links.specs.Reaching.{Stored}
use Rattle.files_car.specs.Car.{IsCar}
use Rattle.files_car.specs.Reached.{sections_at}
use Rattle.ipld_paths.specs.Resolving.{Resolves, AreOnTheWay, AreOnceEach}
use Rattle.ipld_paths.specs.declared.resolution.End.{End}
use Rattle.ipld_paths.specs.declared.resolution.End.TheVariants as ends
use Rattle.ipld_paths.specs.declared.resolution.Resolved.{Resolved}
use Rattle.program_parts.specs.Ends.{end_line}

-- the blocks on the way decide the path: it leads to an item, or to nothing at a segment
abbrev pub IsDecided : End → Type 0
IsDecided (ends.Item kind place end) = ⊤
IsDecided (ends.NoSuchPath left) = ⊤
IsDecided _ = ⊥

-- The CAR file (version 1) of the root and the stored blocks on the path's way, each once. An
-- identity CID without a stored block holds its block itself, and has no section.
pub record IsProofFile (stored : Stored) (root : CidParts) (path : List (List ℕ)) (out : List ℕ) : Type 0 where
  pub way : List CidParts
  pub once : List CidParts
  pub passed : AreOnTheWay stored root path way
  pub each : AreOnceEach way once
  pub file : IsCar out (cid_bytes root ∷ []) (sections_at stored once)

-- what `prove` writes over stored blocks: that file, if it decides the path; else nothing, and a
-- line that says where the path ended
abbrev pub IsProofOf : Stored → CidParts → List (List ℕ) → Bool → List ℕ → List ℕ → Type 0
IsProofOf stored root path well out told = (r : Resolved) × Resolves stored root path r
    × ((IsDecided r.end × IsProofFile stored root path out × (well ≡ true) × (told ≡ []))
    ⊎ ((¬ IsDecided r.end) × (well ≡ false) × (out ≡ []) × (told ≡ end_line r.block r.end)))
