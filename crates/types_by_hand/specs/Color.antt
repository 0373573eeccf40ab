-- The view of an enum with unit variants and variants that hold one or two numbers.
use Rattle.std.specs.Prelude.{ℕ, ◌^◌, List, Option, Some, None, option_map, if◌then◌else◌, codes, false, bytes_eq}
use Rattle.serde_ipld_dagcbor.specs.Tree.{Tree}
use Rattle.serde_ipld_dagcbor.specs.Shapes.{view_unsigned, Shape, leaf, takes_none}
use Rattle.serde_ipld_dagcbor.specs.Collections.{list_of, no_more, first_then}
use Rattle.serde_ipld_dagcbor.specs.EnumViews.{EnumShape, enum_of}
use Rattle.types_by_hand.specs.declared.color.Color.{Color}
use Rattle.types_by_hand.specs.declared.color.Color.TheVariants.{Red, Blue, Yellow, Other, Alpha}

abbrev pub unit_color : List ℕ → Option Color
unit_color name =
    if bytes_eq name (codes "Red") then Some Red
    else if bytes_eq name (codes "Blue") then Some Blue
    else if bytes_eq name (codes "Yellow") then Some Yellow
    else None

-- two numbers in a list
abbrev pub two_numbers : Shape Tree (ℕ × (ℕ × Unit {0}))
two_numbers = list_of (first_then (leaf (view_unsigned (2 ^ 64))) (first_then (leaf (view_unsigned (2 ^ 8))) no_more))

abbrev pub part_color : List ℕ → Tree → Option Color
part_color name t =
    if bytes_eq name (codes "Other") then option_map Other (view_unsigned (2 ^ 64) t)
    else if bytes_eq name (codes "Alpha") then option_map (λ p. Alpha p.0 p.1.0) (two_numbers.view t)
    else None

abbrev pub need_part_color : List ℕ → Tree → ℕ
need_part_color name t = if bytes_eq name (codes "Alpha") then two_numbers.need t else 0

abbrev pub color_variants : EnumShape Color
color_variants = record { unit = unit_color; part = part_color; need = need_part_color; wants_loan = false; memory = takes_none }

abbrev pub color_shape : Shape Tree Color
color_shape = enum_of color_variants
