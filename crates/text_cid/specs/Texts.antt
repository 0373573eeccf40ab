-- CIDs as text (CID specification, "human-readable form"; multibase).
use Rattle.std.specs.Prelude.{◌≡◌, ◌≢◌, ◌⊎◌, ℕ, ◌<◌, ◌≤◌, List, ◌∷◌, codes, length, slice_index, if◌then◌else◌, ◌==◌, Result, Ok, Err, MatchResult}
use Rattle.arrayvec.specs.ArrayVec.{ArrayVec}
use Rattle.ipld_tree.specs.Cid.{CidParts, AreCidParts, cid_bytes}
use Rattle.ipld_tree.specs.CidFault.{IsFault}
use Rattle.text_cid.specs.Rfc4648.{text_in_groups}
use Rattle.text_cid.specs.Base58.{text_in_58, BeginsAboveZero}
use Rattle.text_cid.specs.Alphabets.{AreBytes}
use Rattle.text_cid.specs.Reads.{IsGroupFault, Is58Fault}
use Rattle.text_cid.specs.declared.base.Base.{Base}
use Rattle.text_cid.specs.declared.base.Base.TheVariants as bases
use Rattle.text_cid.specs.declared.error.CidTextError.{CidTextError}
use Rattle.text_cid.specs.declared.error.CidTextError.TheVariants as faults

-- ---- bases

-- the alphabets of RFC 4648: base16, and base32 with lower-case and with upper-case letters
abbrev pub lower_16 : List ℕ
lower_16 = codes "0123456789abcdef"

abbrev pub lower_32 : List ℕ
lower_32 = codes "abcdefghijklmnopqrstuvwxyz234567"

abbrev pub upper_32 : List ℕ
upper_32 = codes "ABCDEFGHIJKLMNOPQRSTUVWXYZ234567"

-- the first character of a text in the base (multibase table): f, b, B and z
abbrev pub prefix_of : Base → ℕ
prefix_of bases.Base16Lower = 102
prefix_of bases.Base32Lower = 98
prefix_of bases.Base32Upper = 66
prefix_of bases.Base58Btc = 122

-- the bytes in the base, without a prefix
abbrev pub text_in : Base → List ℕ → List ℕ
text_in bases.Base16Lower bytes = text_in_groups 4 lower_16 bytes
text_in bases.Base32Lower bytes = text_in_groups 5 lower_32 bytes
text_in bases.Base32Upper bytes = text_in_groups 5 upper_32 bytes
text_in bases.Base58Btc bytes = text_in_58 bytes

-- ---- CIDs

-- a CID as it is written, from its binary form: version 0, which begins with 12, in base58btc
-- without a prefix; version 1 in base32, after b
unfoldable pub text_of_form : List ℕ → List ℕ
text_of_form form = if slice_index form 0 == 0x12 then text_in_58 form
    else 98 ∷ text_in_groups 5 lower_32 form

-- a CID as it is written
abbrev pub cid_text : CidParts → List ℕ
cid_text c = text_of_form (cid_bytes c)

-- version 0 is in base58btc without a prefix; version 1 is in any of the bases, after its prefix
abbrev pub IsTold : List ℕ → CidParts → Type 0
IsTold text c = ((c.version ≡ 0) × (text ≡ text_in_58 (cid_bytes c)))
    ⊎ ((c.version ≡ 1) × ((base : Base) × (text ≡ prefix_of base ∷ text_in base (cid_bytes c))))

-- the text is a text of this CID
pub record IsTextOf (text : List ℕ) (c : CidParts) : Type 0 where
  pub valid : AreCidParts c
  pub are_bytes : AreBytes (cid_bytes c)
  pub told : IsTold text c

-- ---- refusals

-- after the prefix, if there is one, the text spells this CID's bytes in a base
pub record IsTextIn (base : Base) (text : List ℕ) (c : CidParts) : Type 0 where
  pub valid : AreCidParts c
  pub are_bytes : AreBytes (cid_bytes c)
  pub is : text ≡ text_in base (cid_bytes c)

-- the first character is Q, as in each CID of version 0
abbrev pub BeginsWithQ : List ℕ → Type 0
BeginsWithQ text = (rest : List ℕ) × (text ≡ 81 ∷ rest)

-- the text is read in this base: after its prefix, or without one if it begins with Q
abbrev pub IsInBase : List ℕ → Base → List ℕ → Type 0
IsInBase text base rest = (text ≡ prefix_of base ∷ rest)
    ⊎ ((base ≡ bases.Base58Btc) × (text ≡ rest) × BeginsWithQ text)

-- why a text does not spell bytes in a base
abbrev pub IsBaseFault : Base → CidTextError → List ℕ → Type 0
IsBaseFault bases.Base16Lower e text = IsGroupFault 4 lower_16 e text
IsBaseFault bases.Base32Lower e text = IsGroupFault 5 lower_32 e text
IsBaseFault bases.Base32Upper e text = IsGroupFault 5 upper_32 e text
IsBaseFault bases.Base58Btc e text = Is58Fault e text

-- the text spells these bytes in a base, and in base58btc the first byte is not zero
pub record IsInBytes (base : Base) (text bytes : List ℕ) : Type 0 where
  pub are_bytes : AreBytes bytes
  pub first : base ≡ bases.Base58Btc → BeginsAboveZero bytes
  pub is : text ≡ text_in base bytes

-- why a text does not spell a CID's bytes in this base; if it is too long, that is the cause
abbrev pub IsBytesFault : Base → CidTextError → List ℕ → Type 0
IsBytesFault base faults.TooLong text = 172 < length text
IsBytesFault base (faults.InvalidCid f) text = (length text ≤ 172)
    × ((b : List ℕ) × IsInBytes base text b × IsFault f b)
IsBytesFault base e text = (length text ≤ 172) × IsBaseFault base e text

-- why a text is not that of a CID; at most one of them holds (`TextFaultsAreUnique`)
abbrev pub IsTextFault : CidTextError → List ℕ → Type 0
IsTextFault faults.UnknownBase text = ((base : Base) (rest : List ℕ) → text ≢ prefix_of base ∷ rest)
    × ¬ BeginsWithQ text
IsTextFault faults.InvalidVersion text = (base : Base) × (rest : List ℕ) × IsInBase text base rest
    × ((c : CidParts) × IsTextIn base rest c × ¬ IsTold text c)
IsTextFault e text = (base : Base) × (rest : List ℕ) × IsInBase text base rest × IsBytesFault base e rest

-- ---- what the calls return

-- A text is read exactly if it is not too long and spells bytes in the base.
abbrev pub ReadsIn : Base → List ℕ → Result (ArrayVec ℕ) CidTextError → Type 0
ReadsIn base text result = MatchResult result
    (λ v. (length text ≤ 172) × IsInBytes base text v.items)
    (λ e. ((c : CidParts) → ¬ IsTextIn base text c) × IsBytesFault base e text)

-- A text is read exactly if it spells a CID's bytes in the base.
abbrev pub ReadsCidIn : Base → List ℕ → Result CidParts CidTextError → Type 0
ReadsCidIn base text result = MatchResult result
    (λ c. IsTextIn base text c)
    (λ e. ((c : CidParts) → ¬ IsTextIn base text c) × IsBytesFault base e text)

-- a CID that was read is returned, if it has this version
abbrev pub IsOfVersion : ℕ → Result CidParts CidTextError → Result CidParts CidTextError → Type 0
IsOfVersion version (Ok c) result = MatchResult result (λ d. (d ≡ c) × (c.version ≡ version))
    (λ e. (e ≡ faults.InvalidVersion) × (c.version ≢ version))
IsOfVersion version (Err e) result = result ≡ Err e

-- A text is read exactly if it is a text of a CID.
abbrev pub ReadsCidText : List ℕ → Result CidParts CidTextError → Type 0
ReadsCidText text result = MatchResult result
    (λ c. IsTextOf text c)
    (λ e. ((c : CidParts) → ¬ IsTextOf text c) × IsTextFault e text)

-- A text has at most one fault, and a text of a CID has none.
abbrev pub TextFaultsAreUnique : Type 0
TextFaultsAreUnique = (text : List ℕ) (e : CidTextError) → IsTextFault e text
    → ((c : CidParts) → ¬ IsTextOf text c) × ((f : CidTextError) → IsTextFault f text → e ≡ f)

-- A text is that of at most one CID.
abbrev pub TextsTellCids : Type 0
TextsTellCids = (text : List ℕ) (c d : CidParts) → IsTextOf text c → IsTextOf text d → c ≡ d
