-- What reading a text in one base returns.
use Rattle.std.specs.Prelude.{◌≡◌, ◌≢◌, ℕ, ◌*◌, ◌%◌, ◌^◌, ◌<◌, ◌≤◌, List, ◌∷◌, ◌++◌, length, Result, MatchResult, Contains, map, slice_index, replicate, flat_map}
use Rattle.arrayvec.specs.ArrayVec.{ArrayVec}
use Rattle.text_cid.specs.Rfc4648.{bits, text_in_groups}
use Rattle.std.specs.Int.Digits.{AllBelowBase, number_from_digits}
use Rattle.text_cid.specs.Base58.{symbols_58, text_in_58, BeginsAboveZero, AreDigits}
use Rattle.text_cid.specs.Alphabets.{AreBytes, IsNoSymbol}
use Rattle.text_cid.specs.declared.error.CidTextError.{CidTextError}
use Rattle.text_cid.specs.declared.error.CidTextError.TheVariants.{InvalidCharacter, InvalidLength, TrailingBits, LeadingZero}

-- a character of the text is not among the symbols
abbrev pub HasOtherCharacter : List ℕ → List ℕ → Type 0
HasOtherCharacter symbols text = (s : ℕ) × Contains text s × IsNoSymbol symbols s

-- after the last whole byte of a text of these symbols there are the bits `last`, fewer than w
pub record EndsIn (w : ℕ) (symbols text last : List ℕ) : Type 0 where
  pub values : List ℕ
  pub below : AllBelowBase (2 ^ w) values
  pub bytes : List ℕ
  pub is : text ≡ map (slice_index symbols) values
  pub same : flat_map (bits w) values ≡ flat_map (bits 8) bytes ++ last
  pub few : length last < w

-- why a text does not spell bytes in groups of w bits: its end is checked only if each character
-- before it is a symbol
abbrev pub IsGroupFault : ℕ → List ℕ → CidTextError → List ℕ → Type 0
IsGroupFault w symbols InvalidCharacter text = HasOtherCharacter symbols text
IsGroupFault w symbols InvalidLength text = (¬ HasOtherCharacter symbols text)
    × (w ≤ (w * length text) % 8)
IsGroupFault w symbols TrailingBits text = (last : List ℕ) × EndsIn w symbols text last
    × (last ≢ replicate (length last) 0)
IsGroupFault w symbols _ text = ⊥

-- A text is read exactly if it spells bytes in groups of w bits.
abbrev pub ReadsGroups : ℕ → List ℕ → List ℕ → Result (ArrayVec ℕ) CidTextError → Type 0
ReadsGroups w symbols text result = MatchResult result
    (λ v. AreBytes v.items × (text ≡ text_in_groups w symbols v.items))
    (λ e. ((b : List ℕ) → text ≢ text_in_groups w symbols b) × IsGroupFault w symbols e text)

-- the first character is 1, the symbol of zero
abbrev pub BeginsWith1 : List ℕ → Type 0
BeginsWith1 text = (rest : List ℕ) × (text ≡ 49 ∷ rest)

-- why a text does not spell bytes in base58btc that begin with a byte other than zero
abbrev pub Is58Fault : CidTextError → List ℕ → Type 0
Is58Fault InvalidCharacter text = HasOtherCharacter symbols_58 text × ¬ BeginsWith1 text
Is58Fault LeadingZero text = BeginsWith1 text
Is58Fault _ text = ⊥

-- the text spells these digits in base58btc, and they are those of n
pub record Writes58 (text values : List ℕ) (n : ℕ) : Type 0 where
  pub below : AllBelowBase 58 values
  pub is : text ≡ map (slice_index symbols_58) values
  pub number : n ≡ number_from_digits 58 values

-- the number that the text spells is read, or a character is not among the symbols
abbrev pub ReadsDigits58 : List ℕ → Result (ArrayVec ℕ) CidTextError → Type 0
ReadsDigits58 text result = MatchResult result
    (λ v. AllBelowBase 256 v.items × (length v.items ≤ 346) × ((values : List ℕ) × (n : ℕ) × Writes58 text values n
    × AreDigits 256 n v.items))
    (λ e. (e ≡ InvalidCharacter) × HasOtherCharacter symbols_58 text)

-- A text is read exactly if it spells such bytes in base58btc.
abbrev pub Reads58 : List ℕ → Result (ArrayVec ℕ) CidTextError → Type 0
Reads58 text result = MatchResult result
    (λ v. AreBytes v.items × BeginsAboveZero v.items × (text ≡ text_in_58 v.items))
    (λ e. ((b : List ℕ) → text ≢ text_in_58 b) × Is58Fault e text)
