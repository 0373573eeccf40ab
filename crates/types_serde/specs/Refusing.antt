-- Why the writer refuses an event, depending on what is open; for private clauses.
use Rattle.std.specs.Prelude.{◌≡◌, ◌≢◌, ◌⊎◌, ℕ, List, ⊤}
use Rattle.ipld_tree.specs.Cid.{IsCid}
use Rattle.types_serde.specs.declared.error.Refusal.{Refusal}
use Rattle.types_serde.specs.declared.error.Refusal.TheVariants as refusal
use Rattle.types_serde.specs.declared.frame.Stage.{Stage}
use Rattle.types_serde.specs.declared.frame.Stage.TheVariants as stage

-- the allocator refused memory
abbrev pub LacksMemory : Refusal → Type 0
LacksMemory r = r ≡ refusal.OutOfMemory

-- the allocator refused memory, or a place is outside the bytes
abbrev pub LacksMemoryOrPlace : Refusal → Type 0
LacksMemoryOrPlace r = (r ≡ refusal.OutOfMemory) ⊎ (r ≡ refusal.Misplaced)

-- no item may come at this stage
abbrev pub TakesNone : Stage → Type 0
TakesNone stage.Full = ⊤
TakesNone stage.Rests = ⊤
TakesNone stage.Link = ⊤
TakesNone stage.Linked = ⊤
TakesNone _ = ⊥

-- An item is refused if it is not a text where a key is expected, or not a map where one is
-- flattened, or if none may come; or the allocator refused memory.
abbrev pub ItemRefused : Stage → Refusal → Type 0
ItemRefused s refusal.OutOfMemory = ⊤
ItemRefused s refusal.KeyIsNoText = s ≡ stage.WantsKey
ItemRefused s refusal.FlattensNoMap = s ≡ stage.WantsMap
ItemRefused s refusal.Misplaced = TakesNone s
ItemRefused s _ = ⊥

-- the same for a text, which may be a key
abbrev pub TextRefused : Stage → Refusal → Type 0
TextRefused s refusal.KeyIsNoText = ⊥
TextRefused s r = ItemRefused s r

-- the same for a number, which may also be outside this range
abbrev pub NumberRefused : Type 0 → Stage → Refusal → Type 0
NumberRefused outside s refusal.OutOfRange = outside
NumberRefused outside s r = ItemRefused s r

-- the bytes of a link are not a CID, or the allocator refused memory
abbrev pub CidRefused : List ℕ → Refusal → Type 0
CidRefused v refusal.OutOfMemory = ⊤
CidRefused v refusal.NoCid = ¬ IsCid v
CidRefused v _ = ⊥

-- bytes are refused as the CID of a link, or as an item
abbrev pub BytesRefused : List ℕ → Stage → Refusal → Type 0
BytesRefused v s refusal.NoCid = (s ≡ stage.Link) × ¬ IsCid v
BytesRefused v s r = ItemRefused s r

-- a call that is right only at this stage is refused at others, or the allocator refused memory
abbrev pub OnlyAt : Stage → Stage → Refusal → Type 0
OnlyAt wanted s refusal.OutOfMemory = ⊤
OnlyAt wanted s refusal.Misplaced = s ≢ wanted
OnlyAt wanted s _ = ⊥
