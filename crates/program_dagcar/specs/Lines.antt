-- The lines that only this program writes.
use Rattle.std.specs.Prelude.{ℕ, List, ◌∷◌, ◌++◌, codes, decimal}
use Rattle.ipld_tree.specs.Cid.{CidParts}
use Rattle.text_cid.specs.Texts.{cid_text}
use Rattle.program_parts.specs.Lines.{line}
use Rattle.program_parts.specs.Shown.{fault_place_line}
use Rattle.program_dagcar.specs.Names.{cause_name}
use Rattle.text_dag_json.specs.declared.error.DagJsonError.{DagJsonError}
use Rattle.dagcbor_core.specs.declared.error.DecodeError.{DecodeError}

-- the line of a text that is refused at this byte
abbrev pub cause_line : DagJsonError → ℕ → List ℕ
cause_line e offset = line (codes "refused " ++ (cause_name e ++ (32 ∷ decimal offset)))

-- the line of a section whose block is refused at this byte
abbrev pub section_place_line : {E : Type 0} → CidParts → DecodeError E → ℕ → List ℕ
section_place_line name e place = cid_text name ++ (58 ∷ (32 ∷ fault_place_line e place))
