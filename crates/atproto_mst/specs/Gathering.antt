-- What a walk adds to the entries found before.
use Rattle.std.specs.Prelude.{◌≡◌, ℕ, List, [], ◌∷◌, ◌++◌, take, Vec}
use Rattle.std.specs.declared.alloc.Global.{Global}
use Rattle.atproto_mst.specs.Keys.{Entry}
use Rattle.atproto_mst.specs.Entries.{entries}
use Rattle.atproto_mst.specs.Nodes.{NodeRow, key_of_row}
use Rattle.atproto_mst.specs.Stops.{last_entry_key, ComeAfter, IsRow}
use Rattle.atproto_mst.specs.declared.entries.MstEntry.{MstEntry}

-- appends entries that satisfy W, whose keys come after the last key
pub record GathersEntries (W : List Entry → Type 0) (old new : Vec MstEntry Global) : Type 0 where
  pub found : List Entry
  pub walked : W found
  pub following : ComeAfter (last_entry_key [] (entries old.items)) found
  pub all : entries new.items ≡ entries old.items ++ found

-- the key of the last of the first n entries
abbrev pub key_after : ℕ → List MstEntry → List ℕ
key_after n es = last_entry_key [] (entries (take n es))

-- appends the row's entry
pub record AddsRow (r : NodeRow) (previous : List ℕ) (old new : Vec MstEntry Global) : Type 0 where
  pub row : IsRow previous (last_entry_key [] (entries old.items)) r
  pub all : entries new.items ≡ entries old.items ++ (key_of_row previous r, r.value) ∷ []
