-- The bytes that are left of a source, beginning at a place.
use Rattle.std.specs.Prelude.{ℕ, List, Option, drop}
use Rattle.std.specs.Option.{option_map}
use Rattle.files_index.specs.declared.read_at.Rest.{Rest}

-- the known bytes, beginning at the reader's place
abbrev pub rest_remaining : {S : Type 0} → (S → Option (List ℕ)) → Rest S → Option (List ℕ)
rest_remaining bytes r = option_map (drop r.place) (bytes r.source.now)
