-- Values that are kept in a store and read again.
use Rattle.std.specs.Prelude.{◌≡◌, ◌⊎◌, ℕ, false, List, ⊤, Option, None, Some, IsSomeAnd}
use Rattle.std.specs.declared.convert.Infallible.{Infallible}
use Rattle.sqlite_trees.specs.View.{View, IsClean}
use Rattle.sqlite_trees.specs.declared.store.Store.{Ghosts}
use Rattle.dagcbor_core.specs.Steps.{default_steps}
use Rattle.dagcbor_core.specs.declared.error.EncodeError.TheVariants as unwritten
use Rattle.dagcbor_core.specs.declared.error.DecodeError.{DecodeError}
use Rattle.dagcbor_core.specs.declared.error.DecodeError.TheVariants as unread
use Rattle.ipld_tree.specs.Cid.{CidParts}
use Rattle.ipld_tree.specs.Tree.{Tree}
use Rattle.ipld_tree.specs.Spelling.{spelling}
use Rattle.dagcbor_items.specs.Shapes.{Shape}
use Rattle.dagcbor_decode.specs.Blocks.{IsBlock}
use Rattle.dagcbor_write.specs.Answers.{HasNoSpelling}
use Rattle.dagcbor_read.specs.Whole.{IsWhole, HoldsNoValue, OfWhole, LacksMemoryIf}
use Rattle.ipld_links.specs.Names.{block_name}
use Rattle.ipld_links.specs.Verdicts.{IsDagCbor}
use Rattle.store_on_disk.specs.Stored.{ListsName, HoldsOnly, IsNamedBy, FindsSo, IsPut, GetRefused}
use Rattle.store_on_disk.specs.Stored.{PutRefused}
use Rattle.store_on_disk.specs.declared.value.PutError.{PutError}
use Rattle.store_on_disk.specs.declared.value.PutError.TheVariants as put
use Rattle.store_on_disk.specs.declared.value.GetError.{GetError}
use Rattle.store_on_disk.specs.declared.value.GetError.TheVariants as got

-- the spelling of the value's tree is a block, which is stored under its name, and committed
abbrev pub PutsValue : {S : Type 0} → Ghosts S → Option Tree → S → CidParts → S → Type 0
PutsValue g tree old name new = IsSomeAnd tree (λ t.
    IsBlock (spelling t) t × (name ≡ block_name (spelling t))
    × (IsClean (g.view new) → IsPut (g.view old) (g.view new) name (spelling t)))

-- the value cannot be encoded; or its spelling is not a block, or not stored
abbrev pub PutValueRefused : {S : Type 0} → Ghosts S → Option Tree → S → PutError → S → Type 0
PutValueRefused g tree old (put.Encode e) new =
    (new ≡ old) × ((e ≡ unwritten.OutOfMemory) ⊎ HasNoSpelling tree)
PutValueRefused g tree old (put.Store told) new =
    IsSomeAnd tree (λ t. PutRefused g (block_name (spelling t), spelling t) old new told)

-- the name has the codec DAG-CBOR, and the value is what the type reads in bytes that match the
-- name
abbrev pub ShowsNamed : {T V : Type 0} → (T → V) → Shape Tree V → CidParts → Option T → Type 0
ShowsNamed show shape name None = ⊤
ShowsNamed show shape name (Some x) = IsDagCbor name
    × ((b : List ℕ) × IsNamedBy name b × IsWhole shape default_steps b (show x))

-- `None` if nothing is listed under the name, else what the type reads in the bytes stored under it
abbrev pub GetsValue : {T V : Type 0} → (T → V) → Shape Tree V → View → CidParts → Option T → Type 0
GetsValue show shape v name None = ListsName v name → ⊥
GetsValue show shape v name (Some x) = IsDagCbor name
    × ((b : List ℕ) × HoldsOnly v name b × IsWhole shape default_steps b (show x))

-- bytes that match the name are stored under it
abbrev pub HoldsNamed : {S : Type 0} → Ghosts S → CidParts → List ℕ → S → S → Type 0
HoldsNamed g name b old new = IsNamedBy name b × FindsSo g old new (λ v. HoldsOnly v name b)

-- the type reads nothing in the bytes, or memory ran out and the type may take some
pub record ShowsNothing {V : Type 0} (shape : Shape Tree V) (b : List ℕ)
    (e : DecodeError Infallible) : Type 0 where
  pub of_whole : OfWhole e
  pub memory : LacksMemoryIf (shape.memory false) e
  pub why : (e ≡ unread.OutOfMemory) ⊎ HoldsNoValue shape default_steps b

-- a block of another codec is stored under the name; or the type reads nothing in the bytes stored
-- under a DAG-CBOR name; or the bytes were not read
abbrev pub GetValueRefused : {S V : Type 0} → Ghosts S → Shape Tree V → CidParts
    → S → GetError → S → Type 0
GetValueRefused g shape name old (got.Decode e) new = IsDagCbor name
    × ((b : List ℕ) × HoldsNamed g name b old new × ShowsNothing shape b e)
GetValueRefused g shape name old got.OtherCodec new = (¬ IsDagCbor name)
    × ((b : List ℕ) × HoldsNamed g name b old new)
GetValueRefused g shape name old (got.Store told) new = GetRefused g name old new told
