-- What is read from a source, and why it is refused.
use Rattle.std.specs.Prelude.{◌≡◌, ℕ, ◌+◌, ◌≤◌, List, length, Option, Some, Result, MatchResult, Vec, ⊤}
use Rattle.std.specs.declared.alloc.Global.{Global}
use Rattle.dagcbor_heads.specs.Reading.{Reading}
use Rattle.dagcbor_heads.specs.Refusals.{RefusesOrLacksMemory}
use Rattle.dagcbor_core.specs.declared.error.DecodeError.{DecodeError}
use Rattle.dagcbor_core.specs.declared.error.DecodeError.TheVariants.{Read, OutOfMemory}
use Rattle.ipld_tree.specs.Tree.{Tree}
use Rattle.ipld_tree.specs.Spelling.{IsFront, IsSpelling}
use Rattle.dagcbor_items.specs.ReadCauses.{ItemCause}
use Rattle.dagcbor_decode.specs.Blocks.{IsBlock}
use Rattle.dagcbor_decode.specs.Decode.{decode, decode_first}
use Rattle.dagcbor_decode.specs.Verdicts.{IsRefusal}
use Rattle.dagcbor_items.specs.Untyped.{TakesItem, HasItem}
use Rattle.types_serde.specs.declared.error.Error.{Error}
use Rattle.types_serde.specs.declared.error.Error.TheVariants.{NoBlock, Misfit}

-- An item is taken and its spelling returned exactly if one is at the front, within the steps.
abbrev pub PullsBlock : {E : Type 0} → Reading → Result (Vec ℕ Global) (DecodeError E) → Reading
    → Type 0
PullsBlock old result new = MatchResult result
    (λ v. (t : Tree) × TakesItem 0 old t new × IsSpelling v.items t)
    (λ e. RefusesOrLacksMemory (HasItem 0 old) (ItemCause (old.steps + 0)) old e new)

-- ---- the whole source

-- the bytes are a block
abbrev pub IsSomeBlock : List ℕ → Type 0
IsSomeBlock b = (t : Tree) × IsBlock b t

-- the bytes are a block, and v is the same bytes
abbrev pub IsBlockWith : List ℕ → List ℕ → Type 0
IsBlockWith b v = (v ≡ b) × IsSomeBlock b

-- why a source is refused: it faulted, memory ran out, or the format's function rejects its bytes
-- for this cause
abbrev pub SourceRefused : {E : Type 0} → DecodeError E → List ℕ → Type 0
SourceRefused (Read e) b = ⊤
SourceRefused OutOfMemory b = ⊤
SourceRefused e b = IsRefusal (decode b) e

-- no block was read, for this cause; or the bytes are one, and the type does not accept it
abbrev pub IsSourceMisfit : {E : Type 0} → Error E → List ℕ → Type 0
IsSourceMisfit (NoBlock e) b = SourceRefused e b
IsSourceMisfit (Misfit m at) b = IsSomeBlock b × (at ≤ length b)

-- ---- its first block

-- the bytes v of a block are first, and exactly what comes after them is left
abbrev pub TakesBlockBytes : List ℕ → List ℕ → Option (List ℕ) → Type 0
TakesBlockBytes b v left = (t : Tree) × (rest : List ℕ) × IsFront b t rest × IsBlock v t
    × (left ≡ Some rest)

-- some block is first, and exactly what comes after it is left
abbrev pub TakesSomeBlock : List ℕ → Option (List ℕ) → Type 0
TakesSomeBlock b left = (v : List ℕ) × TakesBlockBytes b v left

-- why a first block is not read
abbrev pub FirstRefused : {E : Type 0} → DecodeError E → List ℕ → Type 0
FirstRefused (Read e) b = ⊤
FirstRefused OutOfMemory b = ⊤
FirstRefused e b = IsRefusal (decode_first b) e

-- why a first block is not read; or one was taken, and the type does not accept it
abbrev pub IsFirstMisfit : {E : Type 0} → Error E → List ℕ → Option (List ℕ) → Type 0
IsFirstMisfit (NoBlock e) b left = FirstRefused e b
IsFirstMisfit (Misfit m at) b left = (v : List ℕ) × TakesBlockBytes b v left × (at ≤ length v)
