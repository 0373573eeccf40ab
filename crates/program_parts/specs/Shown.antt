-- What programs say of bytes as a block: its data, or why they are not one.
use Rattle.std.specs.Prelude.{◌≡◌, ◌⊎◌, ℕ, List, [], ◌++◌, codes, Bool, true, false, decimal, if◌then◌else◌}
use Rattle.std.specs.declared.convert.Infallible.{Infallible}
use Rattle.dagcbor_core.specs.declared.error.DecodeError.{DecodeError}
use Rattle.ipld_tree.specs.Tree.{Tree}
use Rattle.text_dag_json.specs.DagJson.{dag_json, has_reserved_key}
use Rattle.dagcbor_decode.specs.Verdicts.{IsRefusedAt}
use Rattle.dagcbor_decode.specs.Blocks.{IsBlock}
use Rattle.dagcbor_decode.specs.PrintedNames.{variant_name}
use Rattle.program_parts.specs.Lines.{line}

-- the error line for bytes that are not a block, with the offset of the fault
abbrev pub fault_place_line : {E : Type 0} → DecodeError E → ℕ → List ℕ
fault_place_line e place =
    line (codes "refused " ++ (variant_name e ++ (codes " at byte " ++ decimal place)))

-- the warning for data with a map that has the key `/`
abbrev pub reserved_line : List ℕ
reserved_line = line (codes "dagcar: a map with the key / looks like a link or like bytes")

-- what is said of bytes that are not a block, and on the error output the offset of the fault
abbrev pub IsSaidOfNoBlock : List ℕ → Bool → List ℕ → List ℕ → Type 0
IsSaidOfNoBlock b well out told = (e : DecodeError Infallible) × (place : ℕ) × IsRefusedAt b e place × (well ≡ false)
    × (out ≡ line (codes "refused " ++ variant_name e)) × (told ≡ fault_place_line e place)

-- what `show` says of bytes: the data of the block as DAG-JSON, with a warning if a map in it has
-- the key `/`; or why they are not a block
abbrev pub IsShown : List ℕ → Bool → List ℕ → List ℕ → Type 0
IsShown b well out told = ((t : Tree) × IsBlock b t × (well ≡ true) × (out ≡ line (dag_json t))
    × (told ≡ (if has_reserved_key t then reserved_line else [])))
    ⊎ IsSaidOfNoBlock b well out told
