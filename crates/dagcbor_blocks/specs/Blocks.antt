-- The blocks of a store, and the answers of its calls.
use Rattle.std.specs.Prelude.{◌≡◌, ◌≢◌, ◌↔◌, ◌⊎◌, [], ◌∷◌, ℕ, ◌<◌, List, map, Option, None, Some, IfSome, IsSomeAnd, Result, MatchResult, Vec, ⊤, true, Err}
use Rattle.std.specs.List.Sorted.{IsStrictlySortedBy}
use Rattle.std.specs.Map.{lookup}
use Rattle.std.specs.BTreeMap.{is_at}
use Rattle.std.specs.declared.alloc.Global.{Global}
use Rattle.sha2.specs.Sha256.{sha256}
use Rattle.std.specs.declared.convert.Infallible.{Infallible}
use Rattle.serde_ipld_dagcbor.specs.DecodeError.{DecodeError}
use Rattle.serde_ipld_dagcbor.specs.DecodeError.TheVariants as unread
use Rattle.serde_ipld_dagcbor.specs.Cid.{CidParts, cid_bytes, cid_cmp}
use Rattle.serde_ipld_dagcbor.specs.Tree.{Tree, any_need}
use Rattle.serde_ipld_dagcbor.specs.Spelling.{IsSpellable, spelling}
use Rattle.serde_ipld_dagcbor.specs.Shapes.{Shape}
use Rattle.dagcbor_decode.specs.Blocks.{IsBlock}
use Rattle.dagcbor_decode.specs.Decode.{decode_first}
use Rattle.dagcbor_decode.specs.Verdicts.{AnswersLinks}
use Rattle.serde_ipld_dagcbor.specs.Whole.{IsWhole}
use Rattle.serde_ipld_dagcbor.specs.Walks.{forms}
use Rattle.serde_ipld_dagcbor.specs.EncodeError.{EncodeError}
use Rattle.serde_ipld_dagcbor.specs.EncodeError.TheVariants as unwritten
use Rattle.ipld_links.specs.Names.{block_name}
use Rattle.ipld_links.specs.Sets.{Among}
use Rattle.ipld_links.specs.Verdicts.{IsDagCbor}
use Rattle.ipld_links.specs.Blocks.{HasLinks}
use Rattle.dagcbor_blocks.specs.declared.error.BlockError.{BlockError}
use Rattle.dagcbor_blocks.specs.declared.error.BlockError.TheVariants.{Encode, Decode, Collision, OutOfMemory, OtherCodec}
use Rattle.dagcbor_blocks.specs.declared.store.Blocks.{Blocks}
use Rattle.serde_ipld_dagcbor.specs.Steps.{default_steps}

-- the names of blocks, and their bytes
abbrev pub Held : Type 0
Held = List (CidParts × List ℕ)

-- the blocks of the store: the entries of its map
abbrev pub held_blocks : Blocks → Held
held_blocks s = map (λ e. (e.0, e.1.items)) s.blocks.entries

-- the block under the name
abbrev pub block_at : CidParts → Held → Option (List ℕ)
block_at name blocks = lookup (is_at (cid_cmp name)) blocks

-- A look-up finds a block under a name exactly if the two are among the stored blocks.
abbrev pub FindsMembers : Held → Type 0
FindsMembers blocks = (name : CidParts) (b : List ℕ)
    → (block_at name blocks ≡ Some b) ↔ Among (name, b) blocks

-- ---- refusals

-- a refusal because of the value, not of memory or of a device
abbrev pub IsRefusalOfValue : {E : Type 0} → EncodeError E → Type 0
IsRefusalOfValue (unwritten.Msg m) = ⊤
IsRefusalOfValue (unwritten.Write e) = ⊥
IsRefusalOfValue unwritten.OutOfMemory = ⊥

-- a refusal because of the bytes, not of memory, a source, a loan or earlier calls
abbrev pub IsRefusalOfBytes : {E : Type 0} → DecodeError E → Type 0
IsRefusalOfBytes (unread.Read e) = ⊥
IsRefusalOfBytes unread.OutOfMemory = ⊥
IsRefusalOfBytes (unread.RequireBorrowed name) = ⊥
IsRefusalOfBytes unread.Failed = ⊥
IsRefusalOfBytes _ = ⊤

-- the tree needs more than 256 steps, and its spelling is refused for this cause
abbrev pub ExceedsSteps : DecodeError Infallible → Tree → Type 0
ExceedsSteps e t = (default_steps < any_need t) × (e ≢ unread.OutOfMemory)
    × AnswersLinks (decode_first (spelling t)) (Err e)

-- other bytes than these are stored under the name
abbrev pub HoldsOther : CidParts → List ℕ → Held → Type 0
HoldsOther name b blocks = (c : List ℕ) × (block_at name blocks ≡ Some c) × (c ≢ b)

-- ---- storing

-- the new blocks are the old ones and these, each under its name
abbrev pub HoldsAlso : Held → Held → Held → Type 0
HoldsAlso old these new = (q : CidParts) (b : List ℕ)
    → (block_at q new ≡ Some b) ↔ (Among (q, b) these ⊎ (block_at q old ≡ Some b))

-- why a value is not stored: it has no tree, or its tree no spelling; or the tree needs more than
-- 256 steps; or other bytes are stored under its name
abbrev pub ValueRefused : Option Tree → Held → BlockError → Type 0
ValueRefused tree old (Encode e) = IsRefusalOfValue e × IfSome tree (λ t. ¬ IsSpellable t)
ValueRefused tree old (Decode e) = IsSomeAnd tree (ExceedsSteps e)
ValueRefused tree old Collision = IsSomeAnd tree (λ t. HoldsOther (block_name (spelling t)) (spelling t) old)
ValueRefused tree old OutOfMemory = ⊤
ValueRefused tree old OtherCodec = ⊥

-- The spelling of the value's tree is stored under its name. A refusal changes nothing.
abbrev pub Puts : Option Tree → Held → Result CidParts BlockError → Held → Type 0
Puts tree old result new = MatchResult result
    (λ name. IsSomeAnd tree (λ t. IsBlock (spelling t) t × (name ≡ block_name (spelling t))
    × HoldsAlso old ((name, spelling t) ∷ []) new))
    (λ e. (new ≡ old) × ValueRefused tree old e)

-- ---- reading

-- the bytes are stored under the name, so their SHA-256 is its digest
abbrev pub HoldsBytes : CidParts → List ℕ → Held → Type 0
HoldsBytes name b blocks = (block_at name blocks ≡ Some b) × (name.digest ≡ sha256 b)

-- a block is stored under the name, and its codec is not DAG-CBOR
abbrev pub HoldsUnread : CidParts → Held → Type 0
HoldsUnread name blocks = ((b : List ℕ) × HoldsBytes name b blocks) × ¬ IsDagCbor name

-- a block of DAG-CBOR is stored under the name
abbrev pub HoldsRead : CidParts → List ℕ → Held → Type 0
HoldsRead name b blocks = HoldsBytes name b blocks × IsDagCbor name

-- why a stored block is not read: the type does not accept it; or memory ran out, which needs a
-- type that takes memory; or its codec is not DAG-CBOR
abbrev pub NotReadAs : {V : Type 0} → Shape Tree V → CidParts → Held → BlockError → Type 0
NotReadAs shape name blocks (Encode e) = ⊥
NotReadAs {V} shape name blocks (Decode e) = IsRefusalOfBytes e
    × ((b : List ℕ) × HoldsRead name b blocks × ((v : V) → ¬ IsWhole shape default_steps b v))
NotReadAs shape name blocks Collision = ⊥
NotReadAs shape name blocks OutOfMemory = ((b : List ℕ) × HoldsRead name b blocks)
    × (shape.memory true ≡ true)
NotReadAs shape name blocks OtherCodec = HoldsUnread name blocks

-- `None` if no block has the name; else the value that the stored block shows to the type
abbrev pub GetsHeld : {T V : Type 0} → (T → V) → Shape Tree V → CidParts → Held → Option T → Type 0
GetsHeld show shape name blocks None = block_at name blocks ≡ None
GetsHeld show shape name blocks (Some v) = (b : List ℕ) × HoldsRead name b blocks
    × IsWhole shape default_steps b (show v)

-- The answer is `None` exactly if no block has the name; else the value that the tree of the stored
-- spelling shows. It is refused only if the codec is not DAG-CBOR, the type does not accept that
-- tree within 256 steps, or memory runs out.
abbrev pub Gets : {T V : Type 0} → (T → V) → Shape Tree V → CidParts → Held
    → Result (Option T) BlockError → Type 0
Gets show shape name blocks result = MatchResult result (GetsHeld show shape name blocks) (NotReadAs shape name blocks)

-- ---- links

-- the binary form is that of a link in a stored block of DAG-CBOR or DAG-PB
abbrev pub IsHeldLink : List ℕ → Held → Type 0
IsHeldLink form blocks = (e : CidParts × List ℕ) × (links : List (List ℕ)) × Among e blocks
    × HasLinks e.0.codec e.1 links × Among form links

-- the binary form is not that of a stored block's name
abbrev pub NamesNoneHeld : List ℕ → Held → Type 0
NamesNoneHeld form blocks = (e : CidParts × List ℕ) → Among e blocks → cid_bytes e.0 ≢ form

-- The links in stored DAG-CBOR and DAG-PB blocks that name no stored block: each once, in order.
abbrev pub ListsUnheld : Held → Result (Vec CidParts Global) BlockError → Type 0
ListsUnheld blocks result = MatchResult result
    (λ v. IsStrictlySortedBy cid_cmp v.items × ((form : List ℕ) → Among form (forms v.items) ↔ (IsHeldLink form blocks × NamesNoneHeld form blocks)))
    (λ e. e ≡ OutOfMemory)
