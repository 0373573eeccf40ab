-- DAG-CBOR as a codec: bytes belong to the tree whose spelling they are.
use Rattle.std.proofs.Common.{sym, ◌∙◌, ap}
use Rattle.std.specs.Prelude.{◌≡◌, ◌⊎◌, ℕ, ◌≤◌, List, [], Option, Some, IfSome, IfErr, Result, Ok, Err, MatchResult, Bool, false, ⊤, Vec}
use Rattle.std.specs.declared.convert.Infallible.{Infallible}
use Rattle.std.specs.declared.alloc.Global.{Global}
use Rattle.dagcbor_core.specs.declared.error.DecodeError.{DecodeError}
use Rattle.dagcbor_core.specs.declared.error.DecodeError.TheVariants as unread
use Rattle.dagcbor_core.specs.declared.error.EncodeError.TheVariants as unwritten
use Rattle.ipld_tree.specs.Codecs.{EncodingsAreUnique, DataHasOneEncoding, BytesHaveOneList}
use Rattle.ipld_tree.specs.Tree.{Tree, links_of}
use Rattle.ipld_tree.specs.Spelling.{IsSpelling}
use Rattle.ipld_tree.specs.declared.cid_iter.CidIter.{CidIter}
use Rattle.ipld_tree.proofs.Fronts.{front_unique}
use Rattle.dagcbor_items.proofs.SliceReads.{whole_front}
use Rattle.dagcbor_write.specs.Answers.{HasNoSpelling, GrewByFront, IsWriteExcuse, OnMessage}
use Rattle.dagcbor_heads.specs.Written.{WantsMemoryOnlyIf}
use Rattle.dagcbor_read.specs.Deserializers.{DeState}
use Rattle.dagcbor_read.specs.Parts.{HandsWholeOn}
use Rattle.dagcbor_read.specs.Whole.{HoldsNoValue, IsReadExcuse, OfWhole}
use Rattle.std.specs.declared.io.Error.{Error}
use Rattle.dagcbor_decode.specs.Blocks.{AreFirstLinks}
use Rattle.dagcbor_decode.specs.Decode.{decode_first}
use Rattle.dagcbor_decode.specs.Verdicts.{AnswersLinks}
use Rattle.serde_ipld_dagcbor.specs.declared.error.CodecError.{CodecError}
use Rattle.serde_ipld_dagcbor.specs.declared.error.CodecError.TheVariants.{Decode, Encode, DecodeIo, EncodeIo}
use Rattle.dagcbor_items.specs.Shapes.{Shape}
use Rattle.dagcbor_core.specs.Steps.{default_steps}

-- the tree has the view v, within 256 steps
abbrev pub IsReadAs : {V : Type 0} → Shape Tree V → Tree → V → Type 0
IsReadAs shape t v = (shape.view t ≡ Some v) × (shape.need t ≤ default_steps)

-- ---- excuses

-- the error says nothing about the value or the bytes
abbrev pub IsExcuse : CodecError → Type 0
IsExcuse (Decode e) = IsReadExcuse e
IsExcuse (Encode e) = IsWriteExcuse e
IsExcuse (DecodeIo e) = IsReadExcuse e
IsExcuse (EncodeIo e) = IsWriteExcuse e

-- ---- which call returns which error, and what it says

-- the error is a `DecodeIo`, and this holds of its cause
abbrev pub IsDecodeIo : (DecodeError Error → Type 0) → CodecError → Type 0
IsDecodeIo holds (DecodeIo e) = holds e
IsDecodeIo holds _ = ⊥

-- why the bytes of a source are not read, if they are known
abbrev pub NotDecoded : {V : Type 0} → Shape Tree V → Option (List ℕ) → CodecError → Type 0
NotDecoded shape left (DecodeIo e) = (IsReadExcuse e ⊎ IfSome left (HoldsNoValue shape default_steps))
    × OfWhole e
NotDecoded shape left _ = ⊥

-- why `decode` refused
abbrev pub DecodeRefused : {T V : Type 0} → Shape Tree V → Option (List ℕ) → Result T CodecError
    → Type 0
DecodeRefused shape left result = IfErr result (NotDecoded shape left)

-- both refusals have the same variant and content, and neither is a fault of the source
abbrev pub AreAlike : {E F : Type 0} → DecodeError E → DecodeError F → Type 0
AreAlike (unread.Msg name) f = f ≡ unread.Msg name
AreAlike (unread.Read e) f = ⊥
AreAlike (unread.Eof name expect) f = f ≡ unread.Eof name expect
AreAlike (unread.Mismatch name found) f = f ≡ unread.Mismatch name found
AreAlike (unread.Unsupported name found) f = f ≡ unread.Unsupported name found
AreAlike (unread.RequireLength name found) f = f ≡ unread.RequireLength name found
AreAlike (unread.RequireBorrowed name) f = f ≡ unread.RequireBorrowed name
AreAlike (unread.RequireUtf8 name) f = f ≡ unread.RequireUtf8 name
AreAlike (unread.LengthOverflow name found) f = f ≡ unread.LengthOverflow name found
AreAlike (unread.CastOverflow name) f = f ≡ unread.CastOverflow name
AreAlike (unread.ArithmeticOverflow name ty) f = f ≡ unread.ArithmeticOverflow name ty
AreAlike (unread.DepthOverflow name) f = f ≡ unread.DepthOverflow name
AreAlike (unread.LengthMismatch name expect value) f = f ≡ unread.LengthMismatch name expect value
AreAlike unread.TrailingData f = f ≡ unread.TrailingData
AreAlike unread.IndefiniteSize f = f ≡ unread.IndefiniteSize
AreAlike (unread.NonMinimal name found) f = f ≡ unread.NonMinimal name found
AreAlike unread.UnorderedKey f = f ≡ unread.UnorderedKey
AreAlike unread.OutOfMemory f = f ≡ unread.OutOfMemory
AreAlike unread.Failed f = f ≡ unread.Failed

-- which variants the refusal of a slice may have: a slice has no source that might fault
abbrev pub OfSlice : {E : Type 0} → DecodeError E → Type 0
OfSlice (unread.Read e) = ⊥
OfSlice e = OfWhole e

-- why the bytes of a slice are not read: memory ran out, or they do not hold a value
abbrev pub NotDecodedFromSlice : {V : Type 0} → Shape Tree V → List ℕ → CodecError → Type 0
NotDecodedFromSlice shape b (DecodeIo e) = ((e ≡ unread.OutOfMemory) ⊎ HoldsNoValue shape default_steps b)
    × OfSlice e
NotDecodedFromSlice shape b _ = ⊥

-- why `decode_from_slice` refused
abbrev pub DecodeFromSliceRefused : {T V : Type 0} → Shape Tree V → List ℕ → Result T CodecError
    → Type 0
DecodeFromSliceRefused shape b result = IfErr result (NotDecodedFromSlice shape b)

-- what the type's own read of a source promises is passed on
abbrev pub HandsDecodedOn : {T : Type 0}
    → (DeState → Result T (DecodeError Error) → DeState → Type 0) → Option (List ℕ)
    → Result T CodecError → Type 0
HandsDecodedOn answers left result = MatchResult result
    (λ v. HandsWholeOn answers left default_steps false (Ok v))
    (IsDecodeIo (λ e. HandsWholeOn answers left default_steps false (Err e)))

-- what its read of a slice promises is passed on, with a refusal of the same content
abbrev pub HandsSliceDecodedOn : {T : Type 0}
    → (DeState → Result T (DecodeError Infallible) → DeState → Type 0) → List ℕ
    → Result T CodecError → Type 0
HandsSliceDecodedOn answers b result = MatchResult result
    (λ v. HandsWholeOn answers (Some b) default_steps false (Ok v))
    (IsDecodeIo (λ e. (told : DecodeError Infallible) × AreAlike told e
    × HandsWholeOn answers (Some b) default_steps false (Err told)))

-- why a value is not sent to a device, and what was sent before
abbrev pub NotEncoded : Option Tree → Option (List ℕ) → Option (List ℕ) → CodecError → Type 0
NotEncoded tree old new (EncodeIo e) = (IsWriteExcuse e ⊎ HasNoSpelling tree)
    × GrewByFront tree old new
NotEncoded tree old new _ = ⊥

-- why `encode` refused
abbrev pub EncodeRefused : Option Tree → Option (List ℕ) → Result (Unit {0}) CodecError
    → Option (List ℕ) → Type 0
EncodeRefused tree old result new = IfErr result (NotEncoded tree old new)

-- it runs out of memory only if writing the value may take memory
abbrev pub EncodeLacksMemoryIf : Bool → CodecError → Type 0
EncodeLacksMemoryIf may (EncodeIo e) = WantsMemoryOnlyIf {T = Unit {0}} may (Err e)
EncodeLacksMemoryIf may _ = ⊤

-- the message of a value that is not written
abbrev pub EncodeTells : (List ℕ → Type 0) → CodecError → Type 0
EncodeTells message (Encode e) = OnMessage message e
EncodeTells message (EncodeIo e) = OnMessage message e
EncodeTells message _ = ⊤

-- why a value is not written
abbrev pub NotEncodedAsVec : Option Tree → CodecError → Type 0
NotEncodedAsVec tree (Encode e) = (e ≡ unwritten.OutOfMemory) ⊎ HasNoSpelling tree
NotEncodedAsVec tree _ = ⊥

-- why `encode_to_vec` refused
abbrev pub EncodeToVecRefused : Option Tree → Result (Vec ℕ Global) CodecError → Type 0
EncodeToVecRefused tree result = IfErr result (NotEncodedAsVec tree)

-- why links are not found
abbrev pub NoLinks : List ℕ → CodecError → Type 0
NoLinks b (Decode e) = AnswersLinks (decode_first b) (Err e)
NoLinks b _ = ⊥

-- why `links` refused
abbrev pub LinksNotFound : List ℕ → Result CidIter CodecError → Type 0
LinksNotFound b result = IfErr result (NoLinks b)

-- ---- laws

-- No two trees share a spelling.
pub spellings_are_unique : EncodingsAreUnique IsSpelling
spellings_are_unique b t u h k = (front_unique b [] [] t u (whole_front h) (whole_front k)).0

-- A tree has at most one spelling.
pub trees_have_one_spelling : DataHasOneEncoding IsSpelling
trees_have_one_spelling b c t h k = h.is ∙ sym k.is

-- Bytes begin with at most one list of links.
pub bytes_have_one_list : BytesHaveOneList AreFirstLinks
bytes_have_one_list b links others h k = h.4 ∙ ap links_of (front_unique b h.1 k.1 h.0 k.0 h.2 k.2).0 ∙ sym k.4
