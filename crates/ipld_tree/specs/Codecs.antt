-- What the calls of a codec return, whatever its format. One relation, that of encodings, ties
-- bytes to data, for writing and for reading.
use Rattle.std.specs.Prelude.{◌≡◌, ◌⊎◌, ℕ, List, map, Option, IfSome, IsSomeAnd, Result, MatchResult, Vec}
use Rattle.std.specs.Io.KnownBytes.{Appends}
use Rattle.std.specs.declared.alloc.Global.{Global}
use Rattle.dagcbor_core.specs.Appends.{AppendsSome, AppendsFront}
use Rattle.ipld_tree.specs.Cid.{cid_bytes}
use Rattle.ipld_tree.specs.CidIters.{cids_left}
use Rattle.ipld_tree.specs.declared.cid_iter.CidIter.{CidIter}

-- all of these bytes are an encoding of data that is read as v
abbrev pub AreRead : {D V : Type 0} → (List ℕ → D → Type 0) → (D → V → Type 0) → List ℕ → V → Type 0
AreRead {D} is_encoding is_read b v = (d : D) × is_encoding b d × is_read d v

-- Bytes that were read, if known, encode data that is read as what the value holds. Bytes that are
-- refused without an excuse encode no data that is read at all.
abbrev pub Decodes : {T D V E : Type 0} → (List ℕ → D → Type 0) → (D → V → Type 0) → (T → V)
    → (E → Type 0) → Option (List ℕ) → Result T E → Type 0
Decodes {V = V} is_encoding is_read held is_excuse left result = MatchResult result
    (λ v. IfSome left (λ b. AreRead is_encoding is_read b (held v)))
    (λ e. is_excuse e ⊎ IfSome left (λ b. (v : V) → ¬ AreRead is_encoding is_read b v))

-- the value has no data, or its data has no encoding
abbrev pub HasNoEncoding : {D : Type 0} → (List ℕ → D → Type 0) → Option D → Type 0
HasNoEncoding is_encoding datum = IfSome datum (λ d. (b : List ℕ) → ¬ is_encoding b d)

-- An encoding of the value's data was appended to the device's bytes, if known. A value is refused
-- without an excuse only if it has no encoding; else a beginning of each encoding was appended.
-- What the device held stays after each refusal.
abbrev pub Encodes : {D E : Type 0} → (List ℕ → D → Type 0) → (E → Type 0) → Option D
    → Option (List ℕ) → Result (Unit {0}) E → Option (List ℕ) → Type 0
Encodes is_encoding is_excuse datum old result new = MatchResult result
    (λ _. IsSomeAnd datum (λ d. (b : List ℕ) × is_encoding b d × Appends old new b))
    (λ e. AppendsSome old new × (HasNoEncoding is_encoding datum
    ⊎ (is_excuse e × IfSome datum (λ d. (b : List ℕ) → is_encoding b d → AppendsFront old new b))))

-- The call returns an encoding of the value's data. A value is refused without an excuse only if it
-- has no encoding.
abbrev pub EncodesAsVec : {D E : Type 0} → (List ℕ → D → Type 0) → (E → Type 0) → Option D
    → Result (Vec ℕ Global) E → Type 0
EncodesAsVec is_encoding is_excuse datum result = MatchResult result
    (λ v. IsSomeAnd datum (λ d. is_encoding v.items d))
    (λ e. HasNoEncoding is_encoding datum ⊎ is_excuse e)

-- Bytes are an encoding of at most one datum.
abbrev pub EncodingsAreUnique : {D : Type 0} → (List ℕ → D → Type 0) → Type 0
EncodingsAreUnique {D} is_encoding = (b : List ℕ) (d e : D) → is_encoding b d → is_encoding b e
    → d ≡ e

-- A datum has at most one encoding.
abbrev pub DataHasOneEncoding : {D : Type 0} → (List ℕ → D → Type 0) → Type 0
DataHasOneEncoding {D} is_encoding = (b c : List ℕ) (d : D) → is_encoding b d → is_encoding c d
    → b ≡ c

-- The links of the data at the front are found. Bytes that are refused without an excuse do not
-- begin with such data.
abbrev pub FindsLinks : {E : Type 0} → (List ℕ → List (List ℕ) → Type 0) → (E → Type 0) → List ℕ
    → Result CidIter E → Type 0
FindsLinks has_links is_excuse b result = MatchResult result
    (λ cids. has_links b (map cid_bytes (cids_left cids)))
    (λ e. is_excuse e ⊎ ((links : List (List ℕ)) → ¬ has_links b links))

-- Bytes have at most one list of links.
abbrev pub BytesHaveOneList : (List ℕ → List (List ℕ) → Type 0) → Type 0
BytesHaveOneList has_links = (b : List ℕ) (links others : List (List ℕ)) → has_links b links
    → has_links b others → links ≡ others
