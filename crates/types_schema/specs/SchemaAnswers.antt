-- What reading these values promises in addition to the law: why it is refused, and the state then.
use Rattle.std.specs.Prelude.{◌≡◌, ◌≢◌, ◌⊎◌, ◌-◌, ◌<◌, ℕ, List, Option, None, Some, Result, Ok, Err, IfErr, IsErrAnd, MatchResult, codes}
use Rattle.std.specs.Cow.{cow_str_bytes}
use Rattle.std.specs.declared.borrow.CowStr.{CowStr}
use Rattle.std.specs.declared.alloc.Global.{Global}
use Rattle.dagcbor_heads.specs.Looking.{Looks, LooksOnce}
use Rattle.dagcbor_core.specs.declared.error.DecodeError.{DecodeError}
use Rattle.dagcbor_items.specs.AnsweredVariants.{OfText, OfKey}
use Rattle.dagcbor_items.specs.LeafReads.{ReadsStr}
use Rattle.dagcbor_items.specs.Majors.{LacksForString}
use Rattle.dagcbor_decode.specs.declared.kind.Kind.{Kind}
use Rattle.dagcbor_decode.specs.declared.kind.Kind.TheVariants as kinds
use Rattle.dagcbor_read.specs.Accessors.{AccessorState, BeginsItems, ReadsNextKey}
use Rattle.dagcbor_read.specs.Deserializers.{DeState, Call}
use Rattle.dagcbor_read.specs.Kinds.{PeeksKind, OfPeek}
use Rattle.dagcbor_read.specs.Parts.{ReadsOnce, ReadsStringOnce, IsPartsRefusal, PassesItems, PassesText, RefusesPast, RefusesWithin, RefusesUnread, HasMessage}
use Rattle.types_schema.specs.declared.by_kind.ByKind.{ByKind}
use Rattle.types_schema.specs.declared.by_kind.ByKind.TheVariants as told

-- ---- a value made of what was read

-- What the parts promise, if they make the value; or the parts were read, and do not make a value,
-- and this message says so.
abbrev pub Makes : {A T V E : Type 0} → (T → V) → (A → Option V) → List ℕ
    → (DeState → Result A (DecodeError E) → DeState → Type 0) → DeState
    → Result T (DecodeError E) → DeState → Type 0
Makes {A} meaning made message answers old result new = MatchResult result
    (λ v. (a : A) × (made a ≡ Some (meaning v)) × answers old (Ok a) new)
    (λ e. answers old (Err e) new
    ⊎ (HasMessage message e × ((a : A) × (made a ≡ None) × answers old (Ok a) new)))

-- What another type promises, if this value is made from a value of that type.
abbrev pub ReadsFrom : {A T E : Type 0} → (A → T)
    → (DeState → Result A (DecodeError E) → DeState → Type 0) → DeState
    → Result T (DecodeError E) → DeState → Type 0
ReadsFrom {A} make answers old result new = MatchResult result
    (λ v. (a : A) × (v ≡ make a) × answers old (Ok a) new)
    (λ e. answers old (Err e) new)

-- ---- a value whose type depends on its kind

-- the kind is read with one look
abbrev pub PeeksOnce : {E : Type 0} → DeState → Result Kind (DecodeError E) → DeState → Type 0
PeeksOnce = ReadsOnce PeeksKind (λ old result new. LooksOnce old new) OfPeek

-- null is not accepted
abbrev pub TellsNothing : {T E : Type 0} → DeState → Result T (DecodeError E) → DeState → Type 0
TellsNothing old result new = IsErrAnd result (HasMessage (codes "unknown kind")) × (new ≡ old)

module _ {E B I T Y L M K : Type 0} (of_bool : DeState → Result B (DecodeError E) → DeState → Type 0) (of_integer : DeState → Result I (DecodeError E) → DeState → Type 0) (of_text : DeState → Result T (DecodeError E) → DeState → Type 0)
    (of_bytes : DeState → Result Y (DecodeError E) → DeState → Type 0) (of_list : DeState → Result L (DecodeError E) → DeState → Type 0) (of_map : DeState → Result M (DecodeError E) → DeState → Type 0) (of_link : DeState → Result K (DecodeError E) → DeState → Type 0)
  where
    -- what the type for each kind promises
    abbrev pub AnswersOfKind : Kind → DeState → Result (ByKind B I T Y L M K) (DecodeError E) → DeState → Type 0
    AnswersOfKind kinds.Null = TellsNothing
    AnswersOfKind kinds.Bool = ReadsFrom (λ x. told.Bool x) of_bool
    AnswersOfKind kinds.Integer = ReadsFrom (λ x. told.Integer x) of_integer
    AnswersOfKind kinds.String = ReadsFrom (λ x. told.Text x) of_text
    AnswersOfKind kinds.Bytes = ReadsFrom (λ x. told.Bytes x) of_bytes
    AnswersOfKind kinds.List = ReadsFrom (λ x. told.List x) of_list
    AnswersOfKind kinds.Map = ReadsFrom (λ x. told.Map x) of_map
    AnswersOfKind kinds.Link = ReadsFrom (λ x. told.Link x) of_link

    -- The kind was not read; or the type for the kind promises this after the look.
    abbrev pub AnswersByKind : DeState → Result (ByKind B I T Y L M K) (DecodeError E) → DeState → Type 0
    AnswersByKind old result new = IsErrAnd result (λ e. PeeksOnce old (Err e) new)
        ⊎ ((kind : Kind) × (mid : DeState) × PeeksOnce {E = E} old (Ok kind) mid × AnswersOfKind kind mid result new)

-- ---- a key that is known in advance

-- a key is read if `left` are left, with bounded looks; it runs out of memory only for some bytes
abbrev pub ReadsKeyOnce : {E : Type 0} → Option (List ℕ) → ℕ → DeState
    → Result (Option (CowStr Global)) (DecodeError E) → DeState → Type 0
ReadsKeyOnce last left old result new = Call (ReadsNextKey last left) old result new
    × (0 < left → Looks 3 old.input result new.input) × IfErr result OfKey
    × IfErr result (LacksForString 3 old.input.left)

-- no key is left, or the key is another one
abbrev pub IsOtherKey : {E : Type 0} → List ℕ → Option (CowStr Global) → DecodeError E → Type 0
IsOtherKey name None e = HasMessage (codes "missing field") e
IsOtherKey name (Some key) e = HasMessage (codes "unknown field") e × (cow_str_bytes key ≢ name)

-- The key after the last one was refused; or it was read, and is not the expected one.
abbrev pub RefusesNamedKey : {E : Type 0} → List ℕ → Option (List ℕ) → ℕ → DeState → DecodeError E
    → DeState → Type 0
RefusesNamedKey {E} name last left old e new = ReadsKeyOnce last left old (Err e) new
    ⊎ ((key : Option (CowStr Global)) × ReadsKeyOnce {E = E} last left old (Ok key) new × IsOtherKey name key e)

-- the content was refused; or it was read, and entries are unread after these two
abbrev pub RefusesContent : {E : Type 0} → (DeState → DecodeError E → DeState → Type 0)
    → AccessorState → DeState → DecodeError E → DeState → Type 0
RefusesContent refuses begun old e new = refuses old e new
    ⊎ RefusesPast (PassesItems 1) (RefusesUnread 2 begun) old e new

-- the content's key was refused, or what comes after it
abbrev pub RefusesTagged : {E : Type 0} → (tag content : List ℕ)
    → (DeState → DecodeError E → DeState → Type 0) → AccessorState → DeState → DecodeError E
    → DeState → Type 0
RefusesTagged tag content refuses begun old e new = RefusesNamedKey content (Some tag) (begun.left - 1) old e new
    ⊎ RefusesPast (PassesText content) (RefusesContent refuses begun) old e new

-- the tag was refused, or what comes after it
abbrev pub RefusesTag : {E : Type 0} → (tag content : List ℕ)
    → (DeState → DecodeError E → DeState → Type 0) → AccessorState → DeState → DecodeError E
    → DeState → Type 0
RefusesTag tag content refuses begun old e new = IsPartsRefusal (ReadsStringOnce 3 (ReadsStr (codes "string")) (Looks 3) OfText) old e new
    ⊎ RefusesPast (PassesItems 1) (RefusesTagged tag content refuses begun) old e new

-- the first key was refused, or is not the tag's; or what comes after it was refused
abbrev pub RefusesTold : {E : Type 0} → (tag content : List ℕ)
    → (DeState → DecodeError E → DeState → Type 0) → AccessorState → DeState → DecodeError E
    → DeState → Type 0
RefusesTold tag content refuses begun old e new = RefusesNamedKey tag begun.last begun.left old e new
    ⊎ RefusesPast (PassesText tag) (RefusesTag tag content refuses begun) old e new

-- The map was not begun, or its content was refused.
abbrev pub RefusesEnvelope : {E : Type 0} → (tag content : List ℕ)
    → (DeState → DecodeError E → DeState → Type 0) → DeState → DecodeError E → DeState → Type 0
RefusesEnvelope tag content refuses = RefusesWithin (BeginsItems 5 (codes "map") 1) (RefusesTold tag content refuses)
