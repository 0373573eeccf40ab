-- The views of an album, of its tracks and of its format.
use Rattle.std.specs.Prelude.{ℕ, ◌^◌, List, Option, Some, None, if◌then◌else◌, codes, false, bytes_eq}
use Rattle.serde_ipld_dagcbor.specs.Tree.{Tree}
use Rattle.serde_ipld_dagcbor.specs.Shapes.{view_text, view_unsigned, leaf, owned_leaf, Shape, takes_none}
use Rattle.serde_ipld_dagcbor.specs.Collections.{list_of, all_of}
use Rattle.serde_ipld_dagcbor.specs.Structs.{required_field, optional_field, no_fields, struct_shape}
use Rattle.serde_ipld_dagcbor.specs.EnumViews.{EnumShape, enum_of}
use Rattle.types_by_hand.specs.declared.album.Format.{Format}
use Rattle.types_by_hand.specs.declared.album.Format.TheVariants.{Vinyl, Tape, Disc}

-- a format that is its name alone
abbrev pub unit_format : List ℕ → Option Format
unit_format name =
    if bytes_eq name (codes "Vinyl") then Some Vinyl
    else if bytes_eq name (codes "Tape") then Some Tape
    else if bytes_eq name (codes "Disc") then Some Disc
    else None

-- no variant holds anything
abbrev pub format_variants : EnumShape Format
format_variants = record {
  unit = unit_format;
  part = λ name t. None;
  need = λ name t. 0;
  wants_loan = false;
  memory = takes_none;
}

abbrev pub format_shape : Shape Tree Format
format_shape = enum_of format_variants

-- the note, if there is one, the title, and the seconds
abbrev pub TrackView : Type 0
TrackView = Option (List ℕ) × (List ℕ × (ℕ × Unit {0}))

abbrev pub track_shape : Shape Tree TrackView
track_shape = struct_shape (optional_field (codes "note") (owned_leaf view_text)
    (required_field (codes "title") (owned_leaf view_text)
    (required_field (codes "seconds") (leaf (view_unsigned (2 ^ 32))) no_fields)))

-- the year, if it is known, the title, the format, and the tracks
abbrev pub AlbumView : Type 0
AlbumView = Option ℕ × (List ℕ × (Format × (List TrackView × Unit {0})))

abbrev pub album_shape : Shape Tree AlbumView
album_shape = struct_shape (optional_field (codes "year") (leaf (view_unsigned (2 ^ 16)))
    (required_field (codes "title") (owned_leaf view_text)
    (required_field (codes "format") format_shape
    (required_field (codes "tracks") (list_of (all_of track_shape)) no_fields))))
