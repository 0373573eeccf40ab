-- The view of an enum whose one variant holds three fields.
use Rattle.std.specs.Prelude.{ℕ, ◌^◌, List, Option, None, if◌then◌else◌, codes, false, bytes_eq}
use Rattle.serde_ipld_dagcbor.specs.Tree.{Tree}
use Rattle.serde_ipld_dagcbor.specs.Shapes.{view_unsigned, leaf, Shape}
use Rattle.serde_ipld_dagcbor.specs.Structs.{required_field, no_fields, struct_shape}
use Rattle.serde_ipld_dagcbor.specs.EnumViews.{EnumShape, enum_of}

-- the view's type
abbrev pub SecondView : Type 0
SecondView = ℕ × (ℕ × (ℕ × Unit {0}))

-- the fields of the variant
abbrev pub fields_shape : Shape Tree SecondView
fields_shape = struct_shape (required_field (codes "b") (leaf (view_unsigned (2 ^ 8)))
    (required_field (codes "abc") (leaf (view_unsigned (2 ^ 8)))
    (required_field (codes "a") (leaf (view_unsigned (2 ^ 8))) no_fields)))

-- no variant is its name alone
abbrev pub unit_second : List ℕ → Option SecondView
unit_second name = None

-- the view of the tree at a variant's name
abbrev pub part_second : List ℕ → Tree → Option SecondView
part_second name t = if bytes_eq name (codes "Data") then fields_shape.view t else None

-- the steps that reading that tree takes
abbrev pub need_part_second : List ℕ → Tree → ℕ
need_part_second name t = fields_shape.need t

-- the views of the variants
abbrev pub second_variants : EnumShape SecondView
second_variants = record { unit = unit_second; part = part_second; need = need_part_second; wants_loan = false; memory = fields_shape.memory }

-- the shape of the enum
abbrev pub second_shape : Shape Tree SecondView
second_shape = enum_of second_variants
