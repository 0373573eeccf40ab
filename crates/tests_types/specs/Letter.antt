-- The view of an enum of two unit variants.
use Rattle.std.specs.Prelude.{ℕ, List, Option, Some, None, if◌then◌else◌, codes, false, bytes_eq}
use Rattle.serde_ipld_dagcbor.specs.Tree.{Tree}
use Rattle.serde_ipld_dagcbor.specs.Shapes.{Shape, takes_none}
use Rattle.serde_ipld_dagcbor.specs.EnumViews.{EnumShape, enum_of}

-- The view's type. A spec of a test crate cannot name a type that is declared only in the tests.
pub data Letter : Type 0 where
  is_a : Letter
  is_b : Letter

-- the view of a variant's name alone
abbrev pub unit_letter : List ℕ → Option Letter
unit_letter name = if bytes_eq name (codes "A") then Some is_a else if bytes_eq name (codes "B") then Some is_b else None

-- the view of the tree at a variant's name
abbrev pub part_letter : List ℕ → Tree → Option Letter
part_letter name t = None

-- the steps that reading that tree takes
abbrev pub need_part_letter : List ℕ → Tree → ℕ
need_part_letter name t = 0

-- the views of the variants
abbrev pub letter_variants : EnumShape Letter
letter_variants = record { unit = unit_letter; part = part_letter; need = need_part_letter; wants_loan = false; memory = takes_none }

-- the shape of the enum
abbrev pub letter_shape : Shape Tree Letter
letter_shape = enum_of letter_variants
