-- The view of an enum whose variants hold a value, two values, and fields.
use Rattle.std.specs.Prelude.{ℕ, ◌^◌, Bool, List, Option, None, option_map, if◌then◌else◌, codes, false, bytes_eq}
use Rattle.serde_ipld_dagcbor.specs.Tree.{Tree}
use Rattle.serde_ipld_dagcbor.specs.Shapes.{view_unsigned, view_bool, view_text, Shape, leaf, owned_leaf, takes_some}
use Rattle.serde_ipld_dagcbor.specs.Collections.{list_of, no_more, first_then}
use Rattle.serde_ipld_dagcbor.specs.Structs.{required_field, no_fields, struct_shape}
use Rattle.serde_ipld_dagcbor.specs.EnumViews.{EnumShape, enum_of}

-- the view's type
pub data DataView : Type 0 where
  is_a : ℕ → DataView
  is_b : Bool → ℕ → DataView
  is_c : ℕ → List ℕ → DataView

-- the fields of C
abbrev pub c_shape : Shape Tree (ℕ × (List ℕ × Unit {0}))
c_shape = struct_shape (required_field (codes "x") (leaf (view_unsigned (2 ^ 8)))
    (required_field (codes "y") (owned_leaf view_text) no_fields))

-- a truth value and a number in a list
abbrev pub b_shape : Shape Tree (Bool × (ℕ × Unit {0}))
b_shape = list_of (first_then (leaf view_bool) (first_then (leaf (view_unsigned (2 ^ 8))) no_more))

-- no variant is its name alone
abbrev pub unit_data : List ℕ → Option DataView
unit_data name = None

-- the view of the tree at a variant's name
abbrev pub part_data : List ℕ → Tree → Option DataView
part_data name t =
    if bytes_eq name (codes "A") then option_map is_a (view_unsigned (2 ^ 32) t)
    else if bytes_eq name (codes "B") then option_map (λ p. is_b p.0 p.1.0) (b_shape.view t)
    else if bytes_eq name (codes "C") then option_map (λ p. is_c p.0 p.1.0) (c_shape.view t)
    else None

-- the steps that reading that tree takes
abbrev pub need_part_data : List ℕ → Tree → ℕ
need_part_data name t =
    if bytes_eq name (codes "B") then b_shape.need t
    else if bytes_eq name (codes "C") then c_shape.need t
    else 0

-- the views of the variants
abbrev pub data_variants : EnumShape DataView
data_variants = record { unit = unit_data; part = part_data; need = need_part_data; wants_loan = false; memory = takes_some }

-- the shape of the enum
abbrev pub data_shape : Shape Tree DataView
data_shape = enum_of data_variants
