-- The view of an enum whose one variant holds a link.
use Rattle.std.specs.Prelude.{ℕ, List, Option, None, option_map, if◌then◌else◌, codes, false, bytes_eq}
use Rattle.serde_ipld_dagcbor.specs.Tree.{Tree}
use Rattle.serde_ipld_dagcbor.specs.Shapes.{view_link, Shape, takes_none}
use Rattle.serde_ipld_dagcbor.specs.EnumViews.{EnumShape, enum_of}

-- the view of a variant's name alone
abbrev pub unit_link : List ℕ → Option (List ℕ)
unit_link name = None

-- the view of the tree at a variant's name
abbrev pub part_link : List ℕ → Tree → Option (List ℕ)
part_link name t = if bytes_eq name (codes "Cid") then option_map (λ cid. cid) (view_link t) else None

-- the steps that reading that tree takes
abbrev pub need_part_link : List ℕ → Tree → ℕ
need_part_link name t = 0

-- the views of the variants
abbrev pub named_link_variants : EnumShape (List ℕ)
named_link_variants = record { unit = unit_link; part = part_link; need = need_part_link; wants_loan = false; memory = takes_none }

-- the shape of the enum
abbrev pub named_link_shape : Shape Tree (List ℕ)
named_link_shape = enum_of named_link_variants
