-- Changes of entries, and the differences between the entries of two trees.
use Rattle.std.specs.Prelude.{◌≡◌, ◌≢◌, ◌⊎◌, ℕ, zero, suc, List, [], ◌∷◌, map, Option, None, if◌then◌else◌, bytes_eq, ⊤}
use Rattle.std.specs.List.{AllByRecursion}
use Rattle.std.specs.declared.cmp.Ordering.TheVariants.{Less}
use Rattle.std.specs.Ordering.{nat_cmp}
use Rattle.std.specs.Cmp.Lexicographic.{slice_cmp}
use Rattle.ipld_tree.specs.Cid.{CidParts}
use Rattle.atproto_mst.specs.Keys.{Entry, IsKey, ComesBefore, Rise}
use Rattle.atproto_mst.specs.Finding.{lookup, by_order}
use Rattle.atproto_mst.specs.declared.diffs.Change.{Change}
use Rattle.atproto_mst.specs.declared.error.MstError.{MstError}
use Rattle.atproto_mst.specs.declared.error.MstError.TheVariants.{OutOfMemory, KeyLength}

-- ---- one record

-- the entries with the key's record set to this one, which keeps rising keys in order
abbrev pub set_entry : List ℕ → CidParts → List Entry → List Entry
set_entry key value [] = (key, value) ∷ []
set_entry key value (e ∷ es) = by_order (slice_cmp nat_cmp key e.0) ((key, value) ∷ (e ∷ es))
    ((key, value) ∷ es) (e ∷ set_entry key value es)

-- the entries without the key
abbrev pub unset_entry : List ℕ → List Entry → List Entry
unset_entry key [] = []
unset_entry key (e ∷ es) = if bytes_eq e.0 key then es else e ∷ unset_entry key es

-- why a record is not set: the key is not valid; or out of memory, for a new key
abbrev pub SetRefused : List ℕ → List Entry → MstError → Type 0
SetRefused key es KeyLength = ¬ IsKey key
SetRefused key es OutOfMemory = IsKey key × (Rise es → lookup key es ≡ None)
SetRefused key es _ = ⊥

-- the key is at this index, after smaller keys
abbrev pub IsKeyAt : List ℕ → ℕ → List Entry → Type 0
IsKeyAt key i [] = ⊥
IsKeyAt key zero (e ∷ es) = e.0 ≡ key
IsKeyAt key (suc i) (e ∷ es) = (slice_cmp nat_cmp e.0 key ≡ Less) × IsKeyAt key i es

-- the key would be inserted at this index: smaller keys come before, greater ones after
abbrev pub WouldBeKeyAt : List ℕ → ℕ → List Entry → Type 0
WouldBeKeyAt key zero es = ComesBefore key es
WouldBeKeyAt key (suc i) [] = ⊥
WouldBeKeyAt key (suc i) (e ∷ es) = (slice_cmp nat_cmp e.0 key ≡ Less) × WouldBeKeyAt key i es

-- ---- all that differs

-- a key, its record in the first list, and its record in the second
abbrev pub Changed : Type 0
Changed = List ℕ × (Option CidParts × Option CidParts)

abbrev pub change_of : Change → Changed
change_of c = (c.key.items, (c.old, c.new))

abbrev pub changes : List Change → List Changed
changes cs = map change_of cs

-- the key comes before that of the first change
abbrev pub ComesBeforeChanges : List ℕ → List Changed → Type 0
ComesBeforeChanges key [] = ⊤
ComesBeforeChanges key (c ∷ cs) = slice_cmp nat_cmp key c.0 ≡ Less

-- the keys rise in the order of bytes
abbrev pub ChangesRise : List Changed → Type 0
ChangesRise [] = ⊤
ChangesRise (c ∷ cs) = ComesBeforeChanges c.0 cs × ChangesRise cs

-- one of the changes is of the key
abbrev pub HasChange : List ℕ → List Changed → Type 0
HasChange key [] = ⊥
HasChange key (c ∷ cs) = (c.0 ≡ key) ⊎ HasChange key cs

-- the change has the records that the key has in each list, and they differ
abbrev pub IsChange : List Entry → List Entry → Changed → Type 0
IsChange old new c = (c.1.0 ≡ lookup c.0 old) × (c.1.1 ≡ lookup c.0 new) × (c.1.0 ≢ c.1.1)

-- exactly the keys whose records differ, in key order
pub record AreChanges (old new : List Entry) (cs : List Changed) : Type 0 where
  pub rise : ChangesRise cs
  pub each : AllByRecursion (IsChange old new) cs
  pub all : (key : List ℕ) → lookup key old ≢ lookup key new → HasChange key cs
