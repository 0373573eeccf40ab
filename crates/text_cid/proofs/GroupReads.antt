-- A text in groups of bits: what is read so far.
use Rattle.std.proofs.Common.{◌≡◌, ◌≢◌, ℕ, ◌+◌, ◌*◌, ◌/◌, ◌%◌, ◌^◌, ◌<◌, ◌≤◌, List, [], ◌∷◌, ◌++◌, length, take, get_or, replicate, map, refl, sym, ap, ◌∙◌, subst, arith, append_assoc, length-append, slice_index, Contains, take_all, pow_pos, pow-add, flat_map}
use Rattle.std.proofs.lemmas.List.Elements.{Contains-get_or}
use Rattle.std.proofs.lemmas.List.{length-map, take_more}
use Rattle.std.proofs.lemmas.Nat.{mul-le, mul-add-lt}
use Rattle.std.specs.Int.Digits.{AllBelowBase}
use Rattle.text_cid.specs.Rfc4648.{bits, text_in_groups}
use Rattle.text_cid.specs.Alphabets.{IsBase, IsNoSymbol, AreBytes}
use Rattle.text_cid.specs.Reads.{EndsIn, HasOtherCharacter}
use Rattle.text_cid.proofs.Alphabet.{no_other_symbol, alphabet_length}
use Rattle.text_cid.proofs.Bits.{all_push, same_front, length-bits, join, same_number, bits_of_zero, length-all_bits}
use Rattle.text_cid.proofs.Grouping.{grouping_length, grouping_of_text, text_of_grouping, no_bytes_of_others, one_more, pushed, parts}

-- the bytes that were read, and the bits that do not fill a byte yet, are the bits of the text
pub record IsRead (w : ℕ) (symbols text bytes : List ℕ) (held rest : ℕ) : Type 0 where
  pub values : List ℕ
  pub below : AllBelowBase (2 ^ w) values
  pub is : text ≡ map (slice_index symbols) values
  pub same : flat_map (bits 8) bytes ++ bits held rest ≡ flat_map (bits w) values
  pub small : rest < 2 ^ held
  pub are_bytes : AreBytes bytes

pub none_read : (w : ℕ) (symbols : List ℕ) → IsRead w symbols [] [] 0 0
unfolding bits
none_read w symbols = record { values = []; below = tt; is = refl; same = refl; small = omega arith; are_bytes = tt }

pub symbol_read : {w : ℕ} {symbols text bytes : List ℕ} {held rest : ℕ} (v : ℕ) → IsRead w symbols text bytes held rest → v < 2 ^ w → IsRead w symbols (text ++ slice_index symbols v ∷ []) bytes (held + w) (rest * 2 ^ w + v)
symbol_read {w} {symbols} {text} {bytes} {held} {rest} v g h = record {
  values = g.values ++ v ∷ [];
  below = all_push (λ u. u < 2 ^ w) g.values v g.below h;
  is = pushed symbols [] text g.values v g.is;
  same =
      ap (λ x. flat_map (bits 8) bytes ++ x) (join held w (held + w) rest v (rest * 2 ^ w + v) refl refl h)
      ∙ sym (append_assoc (flat_map (bits 8) bytes) (bits held rest) (bits w v))
      ∙ ap (λ x. x ++ bits w v) g.same
      ∙ sym (one_more w v g.values);
  small =
      let fits = g.small in
      let product = mul-add-lt rest (2 ^ w) v (2 ^ held) fits h in
      let power = pow-add 2 held w in
      omega arith;
  are_bytes = g.are_bytes;
}

pub byte_read : {w : ℕ} {symbols text bytes : List ℕ} {held rest : ℕ} (more unit : ℕ) → IsRead w symbols text bytes held rest → held ≡ 8 + more → unit ≡ 2 ^ more → IsRead w symbols text (bytes ++ (rest / unit) ∷ []) more (rest % unit)
byte_read {w} {symbols} {text} {bytes} {held} {rest} more unit g eh eu =
    let p = parts 8 held more rest unit eh eu g.small in
    record {
      values = g.values;
      below = g.below;
      is = g.is;
      same =
          ap (λ x. x ++ bits more (rest % unit)) (one_more 8 (rest / unit) bytes)
          ∙ append_assoc (flat_map (bits 8) bytes) (bits 8 (rest / unit)) (bits more (rest % unit))
          ∙ ap (λ x. flat_map (bits 8) bytes ++ x) (sym p.2)
          ∙ g.same;
      small = p.1;
      are_bytes = all_push (λ b. b < 256) bytes (rest / unit) g.are_bytes (omega (arith, p.0));
    }

pub byte_below : {w : ℕ} {symbols text bytes : List ℕ} {held rest : ℕ} (more unit : ℕ) → IsRead w symbols text bytes held rest → held ≡ 8 + more → unit ≡ 2 ^ more → rest / unit < 256
byte_below {w} {symbols} {text} {bytes} {held} {rest} more unit g eh eu = omega (arith, (parts 8 held more rest unit eh eu g.small).0)

pub read_length : {w : ℕ} {symbols text bytes : List ℕ} {held rest : ℕ} (g : IsRead w symbols text bytes held rest) → (length text ≡ length g.values) × (length bytes * 8 + held ≡ length g.values * w)
read_length {w} {symbols} {text} {bytes} {held} {rest} g = (
  ap length g.is ∙ length-map g.values (slice_index symbols),
  sym ((λ i. length-all_bits 8 bytes i + length-bits held rest i)) ∙ sym (length-append (flat_map (bits 8) bytes) (bits held rest)) ∙ ap length g.same ∙ length-all_bits w g.values,
)

-- a text of at most n symbols of at most five bits has fewer bytes
pub room_for_byte : {w : ℕ} {symbols text bytes : List ℕ} {held rest : ℕ} (n : ℕ) → IsRead w symbols text bytes held rest → w ≤ 5 → length text ≤ n → 8 ≤ held → length bytes < n
room_for_byte {w} {symbols} {text} {bytes} {held} {rest} n g few long more =
    let lengths = read_length g in
    let product = mul-le (length g.values) w n 5 (omega (arith, lengths.0)) few in
    omega (arith, lengths.1)

-- the whole text is read, and zero bits are left that fill no symbol
pub all_read : {w : ℕ} {symbols text bytes : List ℕ} {held rest : ℕ} → IsRead w symbols text bytes held rest → held < w → rest ≡ 0 → text ≡ text_in_groups w symbols bytes
all_read {w} {symbols} {text} {bytes} {held} {rest} g few none =
    g.is ∙ text_of_grouping w symbols bytes g.values (omega arith) (record {
      below = g.below;
      fill = held;
      short = few;
      same = sym g.same ∙ ap (λ x. flat_map (bits 8) bytes ++ x) (ap (bits held) none ∙ bits_of_zero held);
    })

-- what is left of a text of these bytes
left_of : (w : ℕ) (symbols text bytes : List ℕ) (held rest : ℕ) (b : List ℕ) → IsBase w symbols → IsRead w symbols text bytes held rest → held < 8 → text ≡ text_in_groups w symbols b → (held < w) × (bits held rest ≡ replicate held 0)
left_of w symbols text bytes held rest b base g few e =
    let h = grouping_of_text w symbols b g.values text base g.below g.is e in
    let five = base.few in
    let short = h.short in
    let one = grouping_length w b g.values h in
    let other = read_length g in
    let same_left : held ≡ h.fill = omega (arith, other.1) in
    let long : length bytes ≡ length b = omega (arith, other.1) in
    let fronts = same_front (flat_map (bits 8) bytes) (flat_map (bits 8) b) (bits held rest) (replicate h.fill 0) (length-all_bits 8 bytes ∙ ap (λ n. n * 8) long ∙ sym (length-all_bits 8 b)) (g.same ∙ h.same) in
    (omega arith, fronts.1 ∙ ap (λ n. replicate n 0) (sym same_left))

-- a text of the symbols of some numbers has no other character
pub only_symbols : (w : ℕ) (symbols text values : List ℕ) → IsBase w symbols → AllBelowBase (2 ^ w) values → text ≡ map (slice_index symbols) values → HasOtherCharacter symbols text → ⊥
only_symbols w symbols text values base below is h =
    no_other_symbol symbols values h.0 (subst (λ n. AllBelowBase n values) (sym (alphabet_length symbols (2 ^ w) base.alphabet)) below) (subst (λ t. Contains t h.0) is h.1) h.2

-- too many bits are left
pub too_many_left : (w : ℕ) (symbols text bytes : List ℕ) (held rest : ℕ) → IsBase w symbols → IsRead w symbols text bytes held rest → held < 8 → w ≤ held → ((b : List ℕ) → text ≢ text_in_groups w symbols b) × ((HasOtherCharacter symbols text → ⊥) × (w ≤ (w * length text) % 8))
too_many_left w symbols text bytes held rest base g few many =
    let lengths = read_length g in
    let product : w * length text ≡ length bytes * 8 + held = ap (λ n. w * n) lengths.0 ∙ omega (arith, lengths.1) in
    (λ b e. absurd (omega (arith, (left_of w symbols text bytes held rest b base g few e).0)), (only_symbols w symbols text g.values base g.below g.is, omega arith))

-- bits are left that are not all zero
pub other_bits_left : (w : ℕ) (symbols text bytes : List ℕ) (held rest : ℕ) → IsBase w symbols → IsRead w symbols text bytes held rest → held < w → rest ≢ 0
    → ((b : List ℕ) → text ≢ text_in_groups w symbols b) × ((last : List ℕ) × EndsIn w symbols text last × (last ≢ replicate (length last) 0))
other_bits_left w symbols text bytes held rest base g few some =
    let five = base.few in
    let nonzero : bits held rest ≢ replicate held 0 = λ e. some (same_number held rest 0 g.small (pow_pos held) (e ∙ sym (bits_of_zero held))) in (
      λ b e. nonzero (left_of w symbols text bytes held rest b base g (omega arith) e).1,
      (bits held rest, record { values = g.values; below = g.below; bytes = bytes; is = g.is; same = sym g.same; few = omega (arith, length-bits held rest) }, λ e. nonzero (e ∙ ap (λ n. replicate n 0) (length-bits held rest))),
    )

-- ---- symbol by symbol

pub symbol_taken : {w : ℕ} {symbols bytes : List ℕ} {held rest : ℕ} (text : List ℕ) (i v : ℕ) → IsRead w symbols (take i text) bytes held rest → i < length text → v < 2 ^ w → slice_index symbols v ≡ get_or text i 0 → IsRead w symbols (take (i + 1) text) bytes (held + w) (rest * 2 ^ w + v)
symbol_taken {w} {symbols} {bytes} {held} {rest} text i v g here small symbol =
    subst (λ t. IsRead w symbols t bytes (held + w) (rest * 2 ^ w + v)) (ap (λ s. take i text ++ s ∷ []) symbol ∙ sym (take_more text i 0 here)) (symbol_read v g small)

pub whole_read : {w : ℕ} {symbols bytes : List ℕ} {held rest : ℕ} (text : List ℕ) (i : ℕ) → IsRead w symbols (take i text) bytes held rest → length text ≤ i → IsRead w symbols text bytes held rest
whole_read {w} {symbols} {bytes} {held} {rest} text i g past = subst (λ t. IsRead w symbols t bytes held rest) (take_all i text past) g

-- a character that is not a symbol
pub other_symbol : (w : ℕ) (symbols text : List ℕ) (i x : ℕ) → IsBase w symbols → i < length text → x ≡ get_or text i 0 → IsNoSymbol symbols x → ((b : List ℕ) → text ≢ text_in_groups w symbols b) × HasOtherCharacter symbols text
other_symbol w symbols text i x base here is none =
    let there = subst (Contains text) (sym is) (Contains-get_or text i 0 here) in
    (λ b e. no_bytes_of_others w symbols text b x base there none e, (x, there, none))
