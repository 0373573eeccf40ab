-- What reading a value promises beside the law of its type, and how a call that reads a part passes
-- that on.
use Rattle.std.specs.Prelude.{◌≡◌, ◌⊎◌, ℕ, ◌+◌, ◌-◌, ◌<◌, min, Bool, true, false, List, Option, None, Some, Result, Ok, Err, IfErr, IfSome, MatchResult, codes, ⊤}
use Rattle.dagcbor_heads.specs.Reading.{Reading, Stays, with_steps}
use Rattle.dagcbor_core.specs.Names.{Names}
use Rattle.dagcbor_core.specs.declared.error.DecodeError.{DecodeError}
use Rattle.dagcbor_core.specs.declared.error.DecodeError.TheVariants.{Msg, Read, RequireBorrowed, OutOfMemory, TrailingData}
use Rattle.ipld_tree.specs.Tree.{text, Items, Entries, no_entries, entry}
use Rattle.ipld_tree.specs.Spelling.{item_count, entry_count, IsFront, AreFronts}
use Rattle.dagcbor_items.specs.Majors.{LacksForString}
use Rattle.dagcbor_items.specs.Places.{Follows}
use Rattle.dagcbor_read.specs.Deserializers.{DeState, Call}
use Rattle.dagcbor_read.specs.Options.{EntersSome, RefusesToEnter}
use Rattle.dagcbor_read.specs.Enums.{EnumState, SpendsEnum, ReadsName, BeginsHeld}
use Rattle.dagcbor_read.specs.Accessors.{AccessorState, accessor_state, BeginsItems, KeepsKey, EndsItems}
use Rattle.dagcbor_read.specs.declared.access.accessor.Accessor.{Accessor}
use Rattle.dagcbor_read.specs.declared.access.enum_accessor.EnumAccessor.{EnumAccessor}

-- ---- what types promise

-- One call reads the value, with these looks at the bytes and these variants of a refusal.
abbrev pub ReadsOnce : {T E : Type 0} → (Reading → Result T (DecodeError E) → Reading → Type 0)
    → (Reading → Result T (DecodeError E) → Reading → Type 0) → (DecodeError E → Type 0) → DeState
    → Result T (DecodeError E) → DeState → Type 0
ReadsOnce reads looks of old result new = Call reads old result new
    × looks old.input result new.input × IfErr result of

-- One call reads a string of this major type, and runs out of memory only if the string has bytes.
abbrev pub ReadsStringOnce : {T E : Type 0} → ℕ
    → (Reading → Result T (DecodeError E) → Reading → Type 0)
    → (Reading → Result T (DecodeError E) → Reading → Type 0) → (DecodeError E → Type 0) → DeState
    → Result T (DecodeError E) → DeState → Type 0
ReadsStringOnce kind reads looks of old result new = ReadsOnce reads looks of old result new
    × IfErr result (LacksForString kind old.input.left)

-- What another type promises, for a value that holds one of that type.
abbrev pub ReadsAs : {A T E : Type 0} → (A → T)
    → (DeState → Result T (DecodeError E) → DeState → Type 0) → DeState
    → Result A (DecodeError E) → DeState → Type 0
ReadsAs held answers old result new = MatchResult result
    (λ a. answers old (Ok (held a)) new)
    (λ e. answers old (Err e) new)

-- What another type promises, for a value that holds one of that type; or that one was read, and
-- memory to hold it ran out.
abbrev pub ReadsInMemory : {A T E : Type 0} → (A → T)
    → (DeState → Result T (DecodeError E) → DeState → Type 0) → DeState
    → Result A (DecodeError E) → DeState → Type 0
ReadsInMemory {A} {T} held answers old result new = ReadsAs held answers old result new
    ⊎ ((result ≡ Err OutOfMemory) × ((v : T) × answers old (Ok v) new))

-- the refusal asks for a loan, under this name
abbrev pub WantsLoan : {E : Type 0} → List ℕ → DecodeError E → Type 0
WantsLoan said (RequireBorrowed name) = Names name said
WantsLoan said _ = ⊥

-- What another type promises, if its value is lent. If it is not, the refusal that asks for a loan
-- changes nothing more.
abbrev pub ReadsLent : {A T X E : Type 0} → (A → X) → (T → X) → (T → Type 0) → List ℕ
    → (DeState → Result T (DecodeError E) → DeState → Type 0) → DeState
    → Result A (DecodeError E) → DeState → Type 0
ReadsLent {A} {T} seen shown is_lent said answers old result new = MatchResult result
    (λ a. (v : T) × is_lent v × (shown v ≡ seen a) × answers old (Ok v) new)
    (λ e. answers old (Err e) new
    ⊎ (WantsLoan said e × ((v : T) × (¬ is_lent v) × answers old (Ok v) new)))

-- ---- how the result of a part is passed on

-- The part was refused as its type says. After that the whole has failed.
abbrev pub IsPartsRefusal : {T E : Type 0} → (DeState → Result T (DecodeError E) → DeState → Type 0)
    → DeState → DecodeError E → DeState → Type 0
IsPartsRefusal answers old e new = (mid : DeState) × answers old (Err e) mid
    × (new ≡ record mid { failed = true })

-- the part's own promise, if nothing had failed
abbrev pub HandsOn : {T E : Type 0} → (DeState → Result T (DecodeError E) → DeState → Type 0)
    → DeState → Result T (DecodeError E) → DeState → Type 0
HandsOn answers old result new = old.failed ≡ false → MatchResult result
    (λ v. answers old (Ok v) new)
    (λ e. IsPartsRefusal answers old e new)

-- the part's own promise, if there is a part and nothing had failed
abbrev pub HandsSomeOn : {T E : Type 0} → (DeState → Result T (DecodeError E) → DeState → Type 0)
    → DeState → Result (Option T) (DecodeError E) → DeState → Type 0
HandsSomeOn answers old result new = old.failed ≡ false → MatchResult result
    (λ o. IfSome o (λ v. answers old (Ok v) new))
    (λ e. IsPartsRefusal answers old e new)

-- the part's own promise, with its value in the place
abbrev pub FillsAs : {T E : Type 0} → (DeState → Result T (DecodeError E) → DeState → Type 0)
    → Option T → DeState → Result (Unit {0}) (DecodeError E) → DeState → Type 0
FillsAs answers place old result new = MatchResult result
    (λ _. IfSome place (λ v. answers old (Ok v) new))
    (λ e. answers old (Err e) new)

-- a step was spent on a value that may be null, and is not
abbrev pub EntersPart : DeState → DeState → Type 0
EntersPart old mid = EntersSome old.input mid.input × (mid.failed ≡ false)

-- `steps` steps were given back
abbrev pub GivesBack : ℕ → DeState → DeState → Type 0
GivesBack steps now new = (new.failed ≡ now.failed)
    × (new.input ≡ with_steps (now.input.steps + steps) now.input)

-- What the part promises after the step; or the part was not reached.
abbrev pub HandsOptionOn : {T E : Type 0} → (DeState → Result T (DecodeError E) → DeState → Type 0)
    → DeState → Result (Option T) (DecodeError E) → DeState → Type 0
HandsOptionOn answers old result new = old.failed ≡ false → MatchResult result
    (λ o. IfSome o (λ v. (mid now : DeState) × EntersPart old mid × answers mid (Ok v) now × GivesBack 1 now new))
    (λ e. RefusesToEnter old.input e new.input
    ⊎ ((mid : DeState) × EntersPart old mid × IsPartsRefusal answers mid e new))

-- What the variant's content promises, if the enum has the form of a map. Its steps are given back.
abbrev pub HandsHeldOn : {T E : Type 0} → (DeState → Result T (DecodeError E) → DeState → Type 0)
    → EnumState → DeState → Result T (DecodeError E) → DeState → Type 0
HandsHeldOn answers e old result new = old.failed ≡ false → e.in_map ≡ true → MatchResult result
    (λ v. (now : DeState) × answers old (Ok v) now × GivesBack e.steps now new)
    (λ r. IsPartsRefusal answers old r new)

-- a fault of the reader
abbrev pub IsReaderFault : {E : Type 0} → DecodeError E → Type 0
IsReaderFault (Read e) = ⊤
IsReaderFault _ = ⊥

-- bytes after the value, or a fault of the reader
abbrev pub IsNoEnd : {E : Type 0} → DecodeError E → Type 0
IsNoEnd TrailingData = ⊤
IsNoEnd e = IsReaderFault e

-- nothing was read so far
pub record IsStart (bytes : Option (List ℕ)) (budget : ℕ) (are_lent : Bool) (start : DeState) : Type 0 where
  pub sound : start.failed ≡ false
  pub left : start.input.left ≡ bytes
  pub steps : start.input.steps ≡ budget
  pub lends : start.input.lends ≡ are_lent

-- What the value promises from a start on these bytes with this many steps; or the value was read,
-- but the end was not found.
abbrev pub HandsWholeOn : {T E : Type 0} → (DeState → Result T (DecodeError E) → DeState → Type 0)
    → Option (List ℕ) → ℕ → Bool → Result T (DecodeError E) → Type 0
HandsWholeOn {T} answers left steps lends result = (start now : DeState)
    × IsStart left steps lends start × MatchResult result
    (λ v. answers start (Ok v) now)
    (λ e. answers start (Err e) now ⊎ (IsNoEnd e × ((v : T) × answers start (Ok v) now)))

-- What the first value promises from a start on these bytes with this many steps. The end is not
-- checked.
abbrev pub HandsFirstOn : {T E : Type 0} → (DeState → Result T (DecodeError E) → DeState → Type 0)
    → Option (List ℕ) → ℕ → Bool → Result T (DecodeError E) → Type 0
HandsFirstOn answers left steps lends result = (start now : DeState)
    × IsStart left steps lends start × answers start result now

-- ---- how the result of one of many parts is passed on

-- If the bytes are known, whole parts were there and were passed, as `passes` says of the bytes
-- left before and after. The reader is otherwise as it was, and nothing has failed.
pub record IsPast (passes : List ℕ → List ℕ → Type 0) (old now : DeState) : Type 0 where
  pub sound : now.failed ≡ false
  pub same : Stays old.input now.input
  pub passed : (b : List ℕ) → old.input.left ≡ Some b
      → (c : List ℕ) × passes b c × (now.input.left ≡ Some c)

-- The refusal came after these parts.
abbrev pub RefusesPast : {E : Type 0} → (List ℕ → List ℕ → Type 0)
    → (DeState → DecodeError E → DeState → Type 0) → DeState → DecodeError E → DeState → Type 0
RefusesPast passes refuses old e new = (now : DeState) × IsPast passes old now × refuses now e new

-- from b on there are `count` whole items, and then c is left
abbrev pub PassesItems : ℕ → List ℕ → List ℕ → Type 0
PassesItems count b c = (ts : Items) × (item_count ts ≡ count) × AreFronts b ts c

-- from b on there is this text, whole, and then c is left
abbrev pub PassesText : List ℕ → List ℕ → List ℕ → Type 0
PassesText s b c = IsFront b (text s) c

-- from b on there is a whole key that may come after the last one, and then c is left
abbrev pub PassesKey : Option (List ℕ) → List ℕ → List ℕ → Type 0
PassesKey last b c = (key : List ℕ) × Follows last key × PassesText key b c

-- A group of fields was refused, or what comes after it.
abbrev pub RefusesEither : {E : Type 0} → (DeState → DecodeError E → DeState → Type 0)
    → (DeState → DecodeError E → DeState → Type 0) → DeState → DecodeError E → DeState → Type 0
RefusesEither first second old e new = first old e new ⊎ second old e new

-- The value was refused; or it was read, and memory to keep it ran out.
abbrev pub RefusesToKeep : {T E : Type 0} → (DeState → Result T (DecodeError E) → DeState → Type 0)
    → DeState → DecodeError E → DeState → Type 0
RefusesToKeep {T} answers old e new = answers old (Err e) new
    ⊎ ((e ≡ OutOfMemory) × ((v : T) × answers old (Ok v) new))

-- A list or map was not begun; or it was, and its content was refused.
abbrev pub RefusesWithin : {E : Type 0}
    → (Reading → Result Accessor (DecodeError E) → Reading → Type 0)
    → (AccessorState → DeState → DecodeError E → DeState → Type 0) → DeState → DecodeError E
    → DeState → Type 0
RefusesWithin begins refuses old e new = ((new.failed ≡ true) × begins old.input (Err e) new.input)
    ⊎ ((a : Accessor) × (mid : DeState) × (mid.failed ≡ false) × begins old.input (Ok a) mid.input
    × refuses (accessor_state a) mid e new)

-- from b on there are these entries, whole, the first after the key `before`; then c is left, and
-- `last` is the last key
abbrev pub PassesEntries : Entries → List ℕ → Option (List ℕ) → List ℕ → Option (List ℕ) → Type 0
PassesEntries no_entries b before c last = (c ≡ b) × (last ≡ before)
PassesEntries (entry k t es) b before c last = (at d : List ℕ) × IsFront b (text k) at
    × Follows before k × IsFront at t d × PassesEntries es d (Some k) c last

-- from b on there are whole entries, fewer than the map has left, up to the key `last`; c is left
abbrev pub PassesFewer : AccessorState → Option (List ℕ) → List ℕ → List ℕ → Type 0
PassesFewer begun last b c = (es : Entries) × (entry_count es < begun.left)
    × PassesEntries es b begun.last c last

-- a key after the last one was refused; memory runs out only for a text that has bytes
abbrev pub RefusesKeyHere : {E : Type 0} → Option (List ℕ) → DeState → DecodeError E → DeState
    → Type 0
RefusesKeyHere last old e new = ((kept : Option (List ℕ)) × Call (KeepsKey last kept) old (Err e) new)
    × LacksForString 3 old.input.left e

-- an entry after the last key was refused: its own key, or the value after it
abbrev pub RefusesEntry : {E : Type 0} → (DeState → DecodeError E → DeState → Type 0)
    → Option (List ℕ) → DeState → DecodeError E → DeState → Type 0
RefusesEntry refuses last old e new = RefusesKeyHere last old e new
    ⊎ RefusesPast (PassesKey last) refuses old e new

-- one of the entries left of a map was refused, after whole ones
abbrev pub RefusesEntries : {E : Type 0} → (DeState → DecodeError E → DeState → Type 0)
    → AccessorState → DeState → DecodeError E → DeState → Type 0
RefusesEntries refuses begun old e new = (last : Option (List ℕ))
    × RefusesPast (PassesFewer begun last) (RefusesEntry refuses last) old e new

-- A map of this name was not begun; or one of its entries was refused.
abbrev pub RefusesFieldsAs : {E : Type 0} → (DeState → DecodeError E → DeState → Type 0)
    → List ℕ → DeState → DecodeError E → DeState → Type 0
RefusesFieldsAs refuses name = RefusesWithin (BeginsItems 5 name 1) (RefusesEntries refuses)

-- the refusal is this message
abbrev pub HasMessage : {E : Type 0} → List ℕ → DecodeError E → Type 0
HasMessage said (Msg message) = Names message said
HasMessage said _ = ⊥

-- a field is missing, after all entries were read
abbrev pub IsMissingField : {E : Type 0} → DecodeError E → DeState → Type 0
IsMissingField e new = HasMessage (codes "missing field") e × (new.failed ≡ false)

-- A field is missing: all entries were read, as `takes` says, and do not make a value.
abbrev pub LacksField : {S V E : Type 0} → (Reading → S → Reading → Type 0) → (S → Option V)
    → DeState → DecodeError E → DeState → Type 0
LacksField {S} takes finish old e new = IsMissingField e new
    × ((s : S) × (finish s ≡ None) × takes old.input s new.input)

-- a key of no field
abbrev pub IsUnknownField : {E : Type 0} → DeState → DecodeError E → DeState → Type 0
IsUnknownField old e new = HasMessage (codes "unknown field") e × (new ≡ old)

-- a promise about refusals alone, if nothing had failed
abbrev pub IfRefused : {T E : Type 0} → (DeState → DecodeError E → DeState → Type 0) → DeState
    → Result T (DecodeError E) → DeState → Type 0
IfRefused refuses old result new = old.failed ≡ false → IfErr result (λ e. refuses old e new)

-- ---- how the result of an item of a list is passed on

-- An item was refused; or it was read, and memory to keep it ran out.
abbrev pub RefusesItem : {T E : Type 0} → (DeState → Result T (DecodeError E) → DeState → Type 0)
    → DeState → DecodeError E → DeState → Type 0
RefusesItem answers old e new = IsPartsRefusal answers old e new
    ⊎ ((e ≡ OutOfMemory) × IsPast (PassesItems 1) old new)

-- one of the items left was refused, after whole ones
abbrev pub RefusesItems : {T E : Type 0} → (DeState → Result T (DecodeError E) → DeState → Type 0)
    → ℕ → DeState → DecodeError E → DeState → Type 0
RefusesItems answers left old e new = (count : ℕ) × (count < left)
    × RefusesPast (PassesItems count) (RefusesItem answers) old e new

-- The first item was refused, or none is left for it; or those after it were refused.
abbrev pub RefusesFirstPart : {T E : Type 0} → (DeState → Result T (DecodeError E) → DeState → Type 0)
    → (ℕ → DeState → DecodeError E → DeState → Type 0) → ℕ → DeState → DecodeError E → DeState
    → Type 0
RefusesFirstPart answers others left old e new = ((0 < left) × IsPartsRefusal answers old e new)
    ⊎ (((left ≡ 0) × HasMessage (codes "Too few elements") e × (new.failed ≡ false) × (new.input ≡ old.input)) ⊎ ((0 < left) × RefusesPast (PassesItems 1) (others (left - 1)) old e new))

-- The part that may be absent was refused; or the others were, after it if an item is left for it.
abbrev pub RefusesOptional : {T E : Type 0}
    → (DeState → Result T (DecodeError E) → DeState → Type 0)
    → (ℕ → DeState → DecodeError E → DeState → Type 0) → ℕ → DeState → DecodeError E → DeState
    → Type 0
RefusesOptional answers others left old e new = ((0 < left) × IsPartsRefusal answers old e new)
    ⊎ RefusesPast (PassesItems (min 1 left)) (others (left - 1)) old e new

-- items of a list or map that was begun are unread, after `count` that were read
abbrev pub RefusesUnread : {E : Type 0} → ℕ → AccessorState → DeState → DecodeError E → DeState
    → Type 0
RefusesUnread count begun old e new = (new.failed ≡ true)
    × EndsItems (record begun { left = begun.left - count }) old.input (Err e) new.input

-- The row of items was refused; or items are unread after those that it takes.
abbrev pub RefusesRest : {E : Type 0} → (ℕ → ℕ)
    → (ℕ → DeState → DecodeError E → DeState → Type 0) → AccessorState → DeState → DecodeError E
    → DeState → Type 0
RefusesRest takes refuses begun old e new = refuses begun.left old e new
    ⊎ RefusesPast (PassesItems (takes begun.left)) (RefusesUnread (takes begun.left) begun) old e new

-- A list of this name was not begun; or its row of items was refused, or items are unread.
abbrev pub RefusesListAs : {E : Type 0} → (ℕ → ℕ)
    → (ℕ → DeState → DecodeError E → DeState → Type 0) → List ℕ → DeState → DecodeError E → DeState
    → Type 0
RefusesListAs takes refuses name = RefusesWithin (BeginsItems 4 name 1) (RefusesRest takes refuses)

-- ---- how the result of what a variant holds is passed on

-- a variant's name was refused, or what comes after it
abbrev pub RefusesNamed : {E : Type 0} → (DeState → DecodeError E → DeState → Type 0) → DeState
    → DecodeError E → DeState → Type 0
RefusesNamed refuses old e new = ((new.failed ≡ true) × ReadsName old.input (Err e) new.input)
    ⊎ RefusesPast (PassesKey None) refuses old e new

-- An enum of this name was not begun; or it was, and its variant was refused.
abbrev pub RefusesEnumAs : {E : Type 0} → (DeState → DecodeError E → DeState → Type 0) → List ℕ
    → DeState → DecodeError E → DeState → Type 0
RefusesEnumAs {E} refuses name old e new = ((new.failed ≡ true) × SpendsEnum name old.input (Err e) new.input)
    ⊎ ((a : EnumAccessor) × (mid : DeState) × (mid.failed ≡ false) × SpendsEnum {E = E} name old.input (Ok a) mid.input
    × RefusesNamed refuses mid e new)

-- The fields that a variant holds were not begun; or one of their entries was refused.
abbrev pub RefusesHeldFields : {E : Type 0} → (DeState → DecodeError E → DeState → Type 0)
    → EnumState → DeState → DecodeError E → DeState → Type 0
RefusesHeldFields refuses variant = RefusesWithin (BeginsHeld 5 (codes "map") variant) (RefusesEntries refuses)
