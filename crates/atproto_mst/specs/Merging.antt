-- Changes made of one entry, or of two entries of one key.
use Rattle.std.specs.Prelude.{ℕ, Bool, true, false, List, [], ◌∷◌, map, Option, None, Some, if◌then◌else◌}
use Rattle.std.specs.Ordering.{eq_by_cmp}
use Rattle.ipld_tree.specs.Cid.{CidParts, cid_cmp}
use Rattle.atproto_mst.specs.Keys.{Entry}
use Rattle.atproto_mst.specs.Changes.{Changed}

-- the changes of entries that only the first list has
abbrev pub removed : List Entry → List Changed
removed es = map (λ e. (e.0, (Some e.1, None))) es

-- the changes of entries that only the second list has
abbrev pub added : List Entry → List Changed
added es = map (λ e. (e.0, (None, Some e.1))) es

abbrev pub same_record : Option CidParts → Option CidParts → Bool
same_record None None = true
same_record (Some x) (Some y) = eq_by_cmp cid_cmp x y
same_record _ _ = false

-- the change of a key with these records, if they differ
abbrev pub changes_of_key : List ℕ → Option CidParts → Option CidParts → List Changed
changes_of_key key x y = if same_record x y then [] else (key, (x, y)) ∷ []
