-- Why bytes are refused by each read, as a refusal says: for what `Decode.antt` refuses them.
use Rattle.std.specs.Prelude.{ℕ, ℤ, List, Option, None}
use Rattle.dagcbor_core.specs.Texts.{IsKept}
use Rattle.dagcbor_core.specs.declared.error.DecodeError.{DecodeError}
use Rattle.dagcbor_decode.specs.Decode.{Decoded, item_of, items_of, entries_of, key_of, cid_of}
use Rattle.dagcbor_decode.specs.Verdicts.{IsRefusal}
use Rattle.dagcbor_items.specs.Leaves.{head_at, string_at, text_at, char_at, number_at, big_head_at, big_number_at, byte_at, bool_at, link_at}

-- ---- items, with this many steps of depth

abbrev pub ItemCause : {E : Type 0} → ℕ → DecodeError E → List ℕ → Type 0
ItemCause steps e b = IsRefusal (item_of steps b) e

abbrev pub ItemsCause : {E : Type 0} → (count steps : ℕ) → DecodeError E → List ℕ → Type 0
ItemsCause count steps e b = IsRefusal (items_of (item_of steps) count b) e

abbrev pub EntriesCause : {E : Type 0} → (count steps : ℕ) → DecodeError E → List ℕ → Type 0
EntriesCause count steps e b = IsRefusal (entries_of (item_of steps) count None b) e

-- ---- keys and links

abbrev pub KeyCause : {E : Type 0} → Option (List ℕ) → DecodeError E → List ℕ → Type 0
KeyCause previous e b = IsRefusal (key_of previous b) e

abbrev pub LinkCause : {E : Type 0} → DecodeError E → List ℕ → Type 0
LinkCause e b = IsRefusal (link_at b) e

-- the cause of a refused byte string after the tag
abbrev pub CidCause : {E : Type 0} → DecodeError E → List ℕ → Type 0
CidCause e b = IsRefusal (cid_of b) e

-- ---- leaves, under a name: a refusal keeps of it what fits

abbrev pub IsNamedRefusal : {A E : Type 0} → List ℕ → (List ℕ → Decoded A) → DecodeError E → Type 0
IsNamedRefusal name read e = (kept : List ℕ) → IsKept 31 kept name → IsRefusal (read kept) e

abbrev pub MajorCause : {E : Type 0} → List ℕ → (low high : ℕ) → DecodeError E → List ℕ → Type 0
MajorCause name low high e b = IsNamedRefusal name (λ kept. head_at kept low high b) e

abbrev pub StringCause : {E : Type 0} → List ℕ → ℕ → DecodeError E → List ℕ → Type 0
StringCause name kind e b = IsNamedRefusal name (λ kept. string_at kept kind b) e

abbrev pub TextCause : {E : Type 0} → List ℕ → DecodeError E → List ℕ → Type 0
TextCause name e b = IsNamedRefusal name (λ kept. text_at kept b) e

abbrev pub NumberCause : {V E : Type 0} → List ℕ → (ℤ → Option V) → DecodeError E → List ℕ → Type 0
NumberCause name accepted e b = IsNamedRefusal name (λ kept. number_at kept accepted b) e

abbrev pub BigCause : {E : Type 0} → List ℕ → DecodeError E → List ℕ → Type 0
BigCause name e b = IsNamedRefusal name (λ kept. big_head_at kept b) e

abbrev pub BigNumberCause : {V E : Type 0} → List ℕ → (ℤ → Option V) → DecodeError E → List ℕ → Type 0
BigNumberCause name accepted e b = IsNamedRefusal name (λ kept. big_number_at kept accepted b) e

abbrev pub CharCause : {E : Type 0} → DecodeError E → List ℕ → Type 0
CharCause e b = IsRefusal (char_at b) e

abbrev pub BoolCause : {E : Type 0} → DecodeError E → List ℕ → Type 0
BoolCause e b = IsRefusal (bool_at b) e

-- the byte is missing, or is not the wanted one: each is refused under its own name
abbrev pub WantedCause : {E : Type 0} → (name other : List ℕ) → ℕ → DecodeError E → List ℕ → Type 0
WantedCause name other wanted e b = (kept also : List ℕ) → IsKept 31 kept name → IsKept 31 also other
    → IsRefusal (byte_at kept also wanted b) e
