-- Streams: values one after another.
use Rattle.std.specs.Prelude.{◌≡◌, ◌≢◌, ℕ, ◌+◌, ◌<◌, ◌≤◌, ◌⊎◌, Bool, true, false, List, [], ◌∷◌, length, map, Option, None, Some, Result, Ok, Err, is_err, MatchBool, MatchOption, MatchResult, IfSome, IfOk, ⊤}
use Rattle.std.specs.Iterator.{Count, DrainsIf}
use Rattle.dagcbor_heads.specs.Reading.{Reading}
use Rattle.dagcbor_heads.specs.Fronts.{FindsEnd}
use Rattle.dagcbor_heads.specs.Refusals.{Refuses}
use Rattle.dagcbor_core.specs.declared.error.DecodeError.{DecodeError}
use Rattle.dagcbor_core.specs.declared.error.DecodeError.TheVariants.{Read, RequireBorrowed, OutOfMemory, Failed}
use Rattle.ipld_tree.specs.Tree.{Tree}
use Rattle.dagcbor_read.specs.Deserializers.{DeState, de_state, Call}
use Rattle.dagcbor_items.specs.ItemsLeft.{items_left_of}
use Rattle.dagcbor_items.specs.TypedReads.{HasFront, TakesFront, MayLack}
use Rattle.dagcbor_read.specs.declared.stream.StreamDeserializer.{StreamDeserializer}
use Rattle.dagcbor_items.specs.Shapes.{Shape}
use Rattle.dagcbor_read.specs.Whole.{IsFirst, BeginsWithNoValue}

-- ---- the stream of a type on bytes

-- The stream of a type on bytes, with `None` for a refusal. It is empty if there are no bytes; else
-- a value at the front, then the stream of the rest; else one refusal, and the end.
abbrev pub AreStreamItems : {V : Type 0} → Shape Tree V → ℕ → List ℕ → List (Option V) → Type 0
AreStreamItems shape steps b [] = b ≡ []
AreStreamItems shape steps b (Some v ∷ items) = (rest : List ℕ) × IsFirst shape steps b v rest
    × AreStreamItems shape steps rest items
AreStreamItems shape steps b (None ∷ items) = (items ≡ []) × (0 < length b)
    × BeginsWithNoValue shape steps b

-- The values are those of trees that come one after another at the front of the bytes, before the
-- rest. Each is accepted within the steps.
abbrev pub AreNextValues : {V : Type 0} → Shape Tree V → ℕ → List ℕ → List V → List ℕ → Type 0
AreNextValues shape steps b [] rest = b ≡ rest
AreNextValues shape steps b (v ∷ vs) rest = (mid : List ℕ) × IsFirst shape steps b v mid
    × AreNextValues shape steps mid vs rest

-- The same bytes have at most one stream.
abbrev pub StreamsAreUnique : {V : Type 0} → Shape Tree V → Type 0
StreamsAreUnique {V} shape = (steps : ℕ) (b : List ℕ) (items others : List (Option V))
    → AreStreamItems shape steps b items → AreStreamItems shape steps b others → items ≡ others

-- ---- what contracts see of a stream

-- what contracts see of a stream
pub record StreamState : Type 0 where
  -- its reader
  pub source : DeState
  -- whether an error, or the end, was met
  pub done : Bool

-- the state of a stream over a reader
abbrev pub stream_state : {R T : Type 0} → (R → Reading) → StreamDeserializer R T → StreamState
stream_state reading s = record { source = de_state reading s.de; done = s.done }

-- ---- what one call does

-- if the bytes left are known, there are some
abbrev pub SomeLeft : Reading → Type 0
SomeLeft r = (b : List ℕ) → r.left ≡ Some b → 0 < length b

-- the bytes left are not empty
abbrev pub AreSome : {E : Type 0} → DecodeError E → List ℕ → Type 0
AreSome e b = 0 < length b

-- The end is found; or a value is read from the bytes left, or refused. A fault may come before it
-- is known whether bytes are left.
abbrev pub ReadsNext : {T V E : Type 0} → (T → V) → Shape Tree V → Reading
    → Result (Option T) (DecodeError E) → Reading → Type 0
ReadsNext meaning shape old result new = MatchResult result
    (λ next. MatchOption next (FindsEnd old new) (λ v. TakesFront shape old (meaning v) new))
    (λ e. Refuses (record {
      could = HasFront shape old;
      lacks = MayLack shape.memory old × SomeLeft old;
      borrows = (shape.wants_loan ≡ true) × SomeLeft old;
      stands = AreSome;
    }) old e new)

-- the result of reading the next value, from what `next` gave
abbrev pub as_answer : {T E : Type 0} → Option (Result T (DecodeError E))
    → Result (Option T) (DecodeError E)
as_answer None = Ok None
as_answer (Some (Ok v)) = Ok (Some v)
as_answer (Some (Err e)) = Err e

-- whether nothing comes after what `next` gave
abbrev pub is_last : {T E : Type 0} → Option (Result T (DecodeError E)) → Bool
is_last None = true
is_last (Some r) = is_err r

-- What `next` does: a stream that is done gives nothing; otherwise it gives the result of reading
-- the next value.
abbrev pub GivesNext : {T V E : Type 0} → (T → V) → Shape Tree V → StreamState
    → Option (Result T (DecodeError E)) → StreamState → Type 0
GivesNext meaning shape old item new = MatchBool old.done
    ((item ≡ None) × (new ≡ old))
    ((new.done ≡ is_last item)
    × Call (ReadsNext meaning shape) old.source (as_answer item) new.source)

-- A value that is given is in memory where its type says, depending on whether the input lends.
abbrev pub LiesNext : {T E : Type 0} → (Bool → T → Type 0) → StreamState
    → Option (Result T (DecodeError E)) → Type 0
LiesNext lies old item = IfSome item (λ r. IfOk r (lies old.source.input.lends))

-- how many items may still come
abbrev pub items_left : StreamState → Count
items_left s = items_left_of s.done s.source.input.left

-- ---- what comes of runs of `next`

-- an error that says nothing about the bytes: a fault; out of memory, if the type may take memory;
-- or a refusal that asks for a loan, if the type wants one and the input does not lend
abbrev pub GivesUp : {V E : Type 0} → Shape Tree V → Bool → DecodeError E → Type 0
GivesUp shape lends (Read e) = ⊤
GivesUp shape lends OutOfMemory = shape.memory lends ≡ true
GivesUp shape lends (RequireBorrowed name) = (shape.wants_loan ≡ true) × (lends ≡ false)
GivesUp shape lends _ = ⊥

-- an error that says nothing about the bytes is in the place of the first of these items; unless it
-- is a fault, there is such an item
abbrev pub GivesUpAt : {V E : Type 0} → Shape Tree V → Bool → List (Option V) → DecodeError E
    → Type 0
GivesUpAt shape lends items (Read e) = ⊤
GivesUpAt shape lends items e = GivesUp shape lends e × (items ≢ [])

-- no error says nothing about the bytes
abbrev pub NoneGivesUp : {T V E : Type 0} → Shape Tree V → Bool → List (Result T (DecodeError E))
    → Type 0
NoneGivesUp shape lends [] = ⊤
NoneGivesUp shape lends (Ok v ∷ xs) = NoneGivesUp shape lends xs
NoneGivesUp shape lends (Err e ∷ xs) = (¬ GivesUp shape lends e) × NoneGivesUp shape lends xs

-- nothing comes after an error
abbrev pub EndsAtError : {T E : Type 0} → List (Result T (DecodeError E)) → Type 0
EndsAtError [] = ⊤
EndsAtError (Ok v ∷ xs) = EndsAtError xs
EndsAtError (Err e ∷ xs) = xs ≡ []

-- the item of the stream that a result is
abbrev pub stream_item : {T V E : Type 0} → (T → V) → Result T (DecodeError E) → Option V
stream_item meaning (Ok v) = Some (meaning v)
stream_item meaning (Err e) = None

-- the values before the first error
abbrev pub values_before : {T V E : Type 0} → (T → V) → List (Result T (DecodeError E)) → List V
values_before meaning [] = []
values_before meaning (Ok v ∷ xs) = meaning v ∷ values_before meaning xs
values_before meaning (Err e ∷ xs) = []

-- What came is the stream's items: all of them if the run is whole. Or they go up to an item in
-- whose place an error came that says nothing about the bytes.
abbrev pub AreUpTo : {T V E : Type 0} → (T → V) → Shape Tree V → (lends whole : Bool)
    → List (Result T (DecodeError E)) → List (Option V) → Type 0
AreUpTo meaning shape lends whole [] items = whole ≡ true → items ≡ []
AreUpTo {T} {V} meaning shape lends whole (Ok v ∷ xs) items = (more : List (Option V))
    × (items ≡ Some (meaning v) ∷ more) × AreUpTo meaning shape lends whole xs more
AreUpTo meaning shape lends whole (Err e ∷ xs) items = (xs ≡ [])
    × (GivesUpAt shape lends items e ⊎ (items ≡ None ∷ []))

-- a stream over known bytes that is not done, and has not failed
pub record IsOver (b : List ℕ) (s : StreamState) : Type 0 where
  pub goes_on : s.done ≡ false
  pub sound : s.source.failed ≡ false
  pub left : s.source.input.left ≡ Some b

module _ {S T V : Type 0} (E : Type 0) (see : S → StreamState) (meaning : T → V) (shape : Shape Tree V) (lies : Bool → T → Type 0) where
  -- one call of `next`
  abbrev pub Gives : S → Option (Result T (DecodeError E)) → S → Type 0
  Gives s item t = GivesNext meaning shape (see s) item (see t) × LiesNext lies (see s) item

  -- what holds of the items that calls of `next` from s gave
  pub record IsStreamRun (s : S) (whole : Bool) (xs : List (Result T (DecodeError E))) : Type 0 where
    -- at most one error came, and nothing after it
    pub one_error : EndsAtError xs
    -- of n known bytes at most n + 1 items came
    pub bounded : (b : List ℕ) → IsOver b (see s) → length xs ≤ length b + 1
    -- however the run ended, the values came one after another at the front of the bytes
    pub values : (b : List ℕ) → IsOver b (see s) → (rest : List ℕ)
        × AreNextValues shape (see s).source.input.steps b (values_before meaning xs) rest
    -- they are the stream of the type on the bytes, up to an error that says nothing of the bytes
    pub same : (b : List ℕ) → IsOver b (see s) → (items : List (Option V))
        → AreStreamItems shape (see s).source.input.steps b items
        → AreUpTo meaning shape (see s).source.input.lends whole xs items
    -- if no such error came, and the run is whole, they are a stream of the type
    pub exact : (b : List ℕ) → IsOver b (see s) → whole ≡ true
        → NoneGivesUp shape (see s).source.input.lends xs
        → AreStreamItems shape (see s).source.input.steps b (map (stream_item meaning) xs)
    -- if a call had failed before, only `Failed` comes
    pub failed : (see s).done ≡ false → (see s).source.failed ≡ true → whole ≡ true
        → xs ≡ Err Failed ∷ []

  -- This holds of whatever calls of `next` gave, followed by one that gave nothing if the run is
  -- whole.
  abbrev pub StreamsAreExact : Type 0
  StreamsAreExact = (s : S) (whole : Bool) (xs : List (Result T (DecodeError E)))
      → DrainsIf Gives (whole ≡ true) s xs → IsStreamRun s whole xs
