-- What a tree shows to the types of album.ipldsch, by ./dagcbor-types.
use Rattle.std.specs.Prelude.{ℕ, ◌^◌, List, Option, Some, None, if◌then◌else◌, codes, false}
use Rattle.std.specs.Str.{bytes_eq}
use Rattle.serde_ipld_dagcbor.specs.Tree.{Tree}
use Rattle.serde_ipld_dagcbor.specs.Shapes.{Shape, leaf, owned_leaf, view_text, view_unsigned}
use Rattle.serde_ipld_dagcbor.specs.Shapes.{takes_none}
use Rattle.serde_ipld_dagcbor.specs.Collections.{list_of, all_of}
use Rattle.serde_ipld_dagcbor.specs.Structs.{required_field, omissible_field, no_other_fields}
use Rattle.serde_ipld_dagcbor.specs.Structs.{struct_shape}
use Rattle.serde_ipld_dagcbor.specs.EnumViews.{EnumShape, enum_of}
use Rattle.types_album.specs.declared.album.Format.{Format}
use Rattle.types_album.specs.declared.album.Format.TheVariants as in_format

-- Format: a name
abbrev pub format_unit : List ℕ → Option Format
format_unit name =
    if bytes_eq name (codes "Vinyl") then Some in_format.Vinyl
    else if bytes_eq name (codes "Tape") then Some in_format.Tape
    else if bytes_eq name (codes "Disc") then Some in_format.Disc
    else None

abbrev pub format_variants : EnumShape Format
format_variants = record {
  unit = format_unit;
  part = λ name t. None;
  need = λ name t. 0;
  wants_loan = false;
  memory = takes_none;
}

abbrev pub format_shape : Shape Tree Format
format_shape = enum_of format_variants

-- Track: a map of note, title and seconds
abbrev pub TrackView : Type 0
TrackView = Option (List ℕ) × (List ℕ × (ℕ × Unit {0}))

abbrev pub track_shape : Shape Tree TrackView
track_shape = struct_shape (
    omissible_field (codes "note") (owned_leaf view_text) (
    required_field (codes "title") (owned_leaf view_text) (
    required_field (codes "seconds") (leaf (view_unsigned (2 ^ 32))) no_other_fields)))

-- Album: a map of year, title, format and tracks
abbrev pub AlbumView : Type 0
AlbumView = Option ℕ × (List ℕ × (Format × (List TrackView × Unit {0})))

abbrev pub album_shape : Shape Tree AlbumView
album_shape = struct_shape (
    omissible_field (codes "year") (leaf (view_unsigned (2 ^ 16))) (
    required_field (codes "title") (owned_leaf view_text) (
    required_field (codes "format") format_shape (
    required_field (codes "tracks") (list_of (all_of track_shape)) no_other_fields))))
