-- Bytes in groups of bits: what is written and read so far.
use Rattle.std.proofs.Common.{◌≡◌, ℕ, zero, suc, ◌+◌, ◌-◌, ◌*◌, ◌/◌, ◌%◌, ◌^◌, ◌<◌, ◌≤◌, List, [], ◌∷◌, ◌++◌, length, take, replicate, map, refl, sym, ap, ◌∙◌, subst, arith, append_assoc, append-nil, length-append, slice_index, Contains, length-take-le, take_all, pow-add, pow_pos, div-add-mod', flat_map, get_or, drop, take-append-drop}
use Rattle.std.proofs.lemmas.List.{length-map, map-append, length-replicate, take_more}
use Rattle.std.proofs.lemmas.List.Concat.{flat_map-append}
use Rattle.std.proofs.lemmas.Nat.{div_below, mod_below, le-div, same_from_place, mul-le}
use Rattle.std.specs.Int.Digits.{AllBelowBase}
use Rattle.text_cid.specs.Rfc4648.{bits, groups, group_count, lacking, message_bits, text_in_groups}
use Rattle.text_cid.specs.Alphabets.{IsBase, IsNoSymbol, AreBytes}
use Rattle.text_cid.proofs.Bits.{all_append, all_push, same_front, length-bits, join, bits_of_zero, length-all_bits, all_bits_below, same_from_bits, bits_of_groups, groups_below}
use Rattle.text_cid.proofs.Alphabet.{same_from_symbols, no_other_symbol, alphabet_length}

-- the numbers are those of the bytes' bits in groups of w, with some zero bits after
pub record IsGrouping (w : ℕ) (bytes values : List ℕ) : Type 0 where
  pub below : AllBelowBase (2 ^ w) values
  pub fill : ℕ
  pub short : fill < w
  pub same : flat_map (bits w) values ≡ flat_map (bits 8) bytes ++ replicate fill 0

zeros_below : (n : ℕ) → AllBelowBase 2 (replicate n 0)
zeros_below zero = tt
zeros_below (suc n) = (omega arith, zeros_below n)

-- the number of groups is right
pub count_fits : (w n : ℕ) → 0 < w → (8 * n ≤ group_count w n * w) × (group_count w n * w < 8 * n + w)
count_fits w n some =
    let whole = div-add-mod' (8 * n + (w - 1)) w in
    let rest = mod_below (8 * n + (w - 1)) w some in
    (omega arith, omega arith)

message_length : (w : ℕ) (bytes : List ℕ) → 0 < w → length (message_bits w bytes) ≡ group_count w (length bytes) * w
message_length w bytes some =
    let fits = count_fits w (length bytes) some in
    omega (arith, length-append (flat_map (bits 8) bytes) (replicate (lacking w (length bytes)) 0), length-all_bits 8 bytes, length-replicate {A = ℕ} (lacking w (length bytes)) 0)

pub grouping_of : (w : ℕ) (bytes : List ℕ) → 0 < w → IsGrouping w bytes (groups w (group_count w (length bytes)) (message_bits w bytes))
grouping_of w bytes some =
    let all = all_append (λ d. d < 2) (flat_map (bits 8) bytes) (replicate (lacking w (length bytes)) 0) (all_bits_below 8 bytes) (zeros_below (lacking w (length bytes))) in
    let long = message_length w bytes some in
    let fits = count_fits w (length bytes) some in
    record {
      below = groups_below w (group_count w (length bytes)) (message_bits w bytes) long all;
      fill = lacking w (length bytes);
      short = omega arith;
      same = bits_of_groups w (group_count w (length bytes)) (message_bits w bytes) long all;
    }

pub grouping_length : (w : ℕ) (bytes values : List ℕ) (g : IsGrouping w bytes values) → length values * w ≡ length bytes * 8 + g.fill
grouping_length w bytes values g =
    sym (length-all_bits w values) ∙ ap length g.same ∙ length-append (flat_map (bits 8) bytes) (replicate g.fill 0) ∙ (λ i. length-all_bits 8 bytes i + length-replicate {A = ℕ} g.fill 0 i)

-- bytes are grouped in one way
pub one_grouping : (w : ℕ) (bytes vs us : List ℕ) → 0 < w → IsGrouping w bytes vs → IsGrouping w bytes us → vs ≡ us
one_grouping w bytes vs us some g h =
    let crossed : length vs * w + h.fill ≡ length us * w + g.fill = omega (arith, grouping_length w bytes vs g, grouping_length w bytes us h) in
    let same_fill : h.fill ≡ g.fill = (same_from_place (length vs) h.fill (length us) g.fill w h.short g.short crossed).1 in
    same_from_bits w vs us some g.below h.below (g.same ∙ ap (λ n. flat_map (bits 8) bytes ++ replicate n 0) (sym same_fill) ∙ sym h.same)

-- a text of these bytes is one of their groups
pub text_of_grouping : (w : ℕ) (symbols bytes values : List ℕ) → 0 < w → IsGrouping w bytes values → map (slice_index symbols) values ≡ text_in_groups w symbols bytes
unfolding text_in_groups
text_of_grouping w symbols bytes values some g = ap (map (slice_index symbols)) (one_grouping w bytes values _ some g (grouping_of w bytes some))

-- if the text spells the bytes, its numbers are those of their groups
pub grouping_of_text : (w : ℕ) (symbols bytes values text : List ℕ) → IsBase w symbols → AllBelowBase (2 ^ w) values → text ≡ map (slice_index symbols) values → text ≡ text_in_groups w symbols bytes → IsGrouping w bytes values
unfolding text_in_groups
grouping_of_text w symbols bytes values text base below is e =
    let g = grouping_of w bytes base.some in
    subst (IsGrouping w bytes) (sym (same_from_symbols symbols (2 ^ w) values _ base.alphabet below g.below (sym is ∙ e))) g

-- a text with another character is that of no bytes
pub no_bytes_of_others : (w : ℕ) (symbols text bytes : List ℕ) (x : ℕ) → IsBase w symbols → Contains text x → IsNoSymbol symbols x → text ≡ text_in_groups w symbols bytes → ⊥
unfolding text_in_groups
no_bytes_of_others w symbols text bytes x base c n e =
    let g = grouping_of w bytes base.some in
    no_other_symbol symbols _ x (subst (λ k. AllBelowBase k (groups w (group_count w (length bytes)) (message_bits w bytes))) (sym (alphabet_length symbols (2 ^ w) base.alphabet)) g.below) (subst (λ t. Contains t x) e c) n

-- bytes of one text are the same
pub same_bytes_from_groups : (w : ℕ) (symbols a b : List ℕ) → IsBase w symbols → AreBytes a → AreBytes b → text_in_groups w symbols a ≡ text_in_groups w symbols b → a ≡ b
unfolding text_in_groups
same_bytes_from_groups w symbols a b base ha hb e =
    let g = grouping_of w a base.some in
    let h = grouping_of_text w symbols b _ _ base g.below refl e in
    let few = base.few in
    let short = g.short in
    let other = h.short in
    let long : length a ≡ length b = omega (arith, grouping_length w a _ g, grouping_length w b _ h) in
    let fronts = same_front (flat_map (bits 8) a) (flat_map (bits 8) b) _ _ (length-all_bits 8 a ∙ ap (λ n. n * 8) long ∙ sym (length-all_bits 8 b)) (sym g.same ∙ h.same) in
    same_from_bits 8 a b (omega arith) ha hb fronts.0

-- ---- writing

-- the groups that were appended, and the bits that do not fill a group yet, are these bits
pub record IsGrouped (w : ℕ) (symbols start out b : List ℕ) (held rest : ℕ) : Type 0 where
  pub values : List ℕ
  pub below : AllBelowBase (2 ^ w) values
  pub is : out ≡ start ++ map (slice_index symbols) values
  pub same : flat_map (bits w) values ++ bits held rest ≡ b
  pub small : rest < 2 ^ held

pub none_grouped : (w : ℕ) (symbols start : List ℕ) → IsGrouped w symbols start start [] 0 0
unfolding bits
none_grouped w symbols start = record { values = []; below = tt; is = sym (append-nil start); same = refl; small = omega arith }

pub byte_held : {w : ℕ} {symbols start out b : List ℕ} {held rest : ℕ} (byte : ℕ) → IsGrouped w symbols start out b held rest → byte < 256 → IsGrouped w symbols start out (b ++ bits 8 byte) (held + 8) (rest * 256 + byte)
byte_held {w} {symbols} {start} {out} {b} {held} {rest} byte g h = record {
  values = g.values;
  below = g.below;
  is = g.is;
  same = ap (λ x. flat_map (bits w) g.values ++ x) (join held 8 (held + 8) rest byte (rest * 256 + byte) refl refl h) ∙ sym (append_assoc (flat_map (bits w) g.values) (bits held rest) (bits 8 byte)) ∙ ap (λ x. x ++ bits 8 byte) g.same;
  small =
      let power = pow-add 2 held 8 in
      let fits = g.small in
      omega arith;
}

pub one_more : (w v : ℕ) (vs : List ℕ) → flat_map (bits w) (vs ++ v ∷ []) ≡ flat_map (bits w) vs ++ bits w v
one_more w v vs = flat_map-append (bits w) vs (v ∷ []) ∙ ap (λ x. flat_map (bits w) vs ++ x) (append-nil (bits w v))

pub pushed : (symbols start out : List ℕ) (vs : List ℕ) (v : ℕ) → out ≡ start ++ map (slice_index symbols) vs → out ++ slice_index symbols v ∷ [] ≡ start ++ map (slice_index symbols) (vs ++ v ∷ [])
pushed symbols start out vs v e =
    ap (λ x. x ++ slice_index symbols v ∷ []) e ∙ append_assoc start (map (slice_index symbols) vs) (slice_index symbols v ∷ []) ∙ ap (λ x. start ++ x) (sym (map-append (slice_index symbols) vs (v ∷ [])))

-- the first n bits of a rest, and the others
pub parts : (n held more rest unit : ℕ) → held ≡ n + more → unit ≡ 2 ^ more → rest < 2 ^ held → (rest / unit < 2 ^ n) × (rest % unit < 2 ^ more) × (bits held rest ≡ bits n (rest / unit) ++ bits more (rest % unit))
parts n held more rest unit eh eu small =
    let some : 0 < unit = omega (arith, pow_pos more) in
    let power : 2 ^ held ≡ 2 ^ n * unit = ap (λ k. 2 ^ k) eh ∙ pow-add 2 n more ∙ ap (λ u. 2 ^ n * u) (sym eu) in
    let low : rest % unit < 2 ^ more = omega (arith, mod_below rest unit some) in
    let whole : rest ≡ rest / unit * 2 ^ more + rest % unit = sym (div-add-mod' rest unit) ∙ ap (λ u. rest / unit * u + rest % unit) eu in
    (div_below rest unit (2 ^ n) some (omega arith), low, join n more held (rest / unit) (rest % unit) rest eh whole low)

pub group_out : {w : ℕ} {symbols start out b : List ℕ} {held rest : ℕ} (more unit : ℕ) → IsGrouped w symbols start out b held rest → held ≡ w + more → unit ≡ 2 ^ more → IsGrouped w symbols start (out ++ slice_index symbols (rest / unit) ∷ []) b more (rest % unit)
group_out {w} {symbols} {start} {out} {b} {held} {rest} more unit g eh eu =
    let p = parts w held more rest unit eh eu g.small in
    record {
      values = g.values ++ (rest / unit) ∷ [];
      below = all_push (λ v. v < 2 ^ w) g.values (rest / unit) g.below p.0;
      is = pushed symbols start out g.values (rest / unit) g.is;
      same = ap (λ x. x ++ bits more (rest % unit)) (one_more w (rest / unit) g.values) ∙ append_assoc (flat_map (bits w) g.values) (bits w (rest / unit)) (bits more (rest % unit)) ∙ ap (λ x. flat_map (bits w) g.values ++ x) (sym p.2) ∙ g.same;
      small = p.1;
    }

pub group_below : {w : ℕ} {symbols start out b : List ℕ} {held rest : ℕ} (more unit : ℕ) → IsGrouped w symbols start out b held rest → held ≡ w + more → unit ≡ 2 ^ more → rest / unit < 2 ^ w
group_below {w} {symbols} {start} {out} {b} {held} {rest} more unit g eh eu = (parts w held more rest unit eh eu g.small).0

pub grouped_length : {w : ℕ} {symbols start out b : List ℕ} {held rest : ℕ} (g : IsGrouped w symbols start out b held rest) → (length out ≡ length start + length g.values) × (length g.values * w + held ≡ length b)
grouped_length {w} {symbols} {start} {out} {b} {held} {rest} g = (
  ap length g.is ∙ length-append start (map (slice_index symbols) g.values) ∙ ap (λ n. length start + n) (length-map g.values (slice_index symbols)),
  sym (sym (ap length g.same) ∙ length-append (flat_map (bits w) g.values) (bits held rest) ∙ (λ i. length-all_bits w g.values i + length-bits held rest i)),
)

-- a group that is to come is within the count
pub room_for_group : {w : ℕ} {symbols start out b : List ℕ} {held rest : ℕ} (n : ℕ) → IsGrouped w symbols start out b held rest → 0 < w → length b ≤ 8 * n → 0 < held → length b + w ≤ 8 * n + (w - 1) + held → length out < length start + group_count w n
room_for_group {w} {symbols} {start} {out} {b} {held} {rest} n g some fits more whole =
    let long = grouped_length g in
    let product : suc (length g.values) * w ≤ 8 * n + (w - 1) = omega (arith, long.1) in
    omega (arith, long.0, le-div (suc (length g.values)) (8 * n + (w - 1)) w some product)

-- no bits are left over
pub all_grouped : {w : ℕ} {symbols start out : List ℕ} {held rest : ℕ} (bytes : List ℕ) → IsGrouped w symbols start out (flat_map (bits 8) bytes) held rest → 0 < w → held ≡ 0 → out ≡ start ++ text_in_groups w symbols bytes
unfolding bits
all_grouped {w} {symbols} {start} {out} {held} {rest} bytes g some none =
    g.is ∙ ap (λ x. start ++ x) (text_of_grouping w symbols bytes g.values some (record {
      below = g.below;
      fill = 0;
      short = some;
      same = sym (append-nil (flat_map (bits w) g.values)) ∙ subst (λ k. flat_map (bits w) g.values ++ bits k rest ≡ flat_map (bits 8) bytes) none g.same ∙ sym (append-nil (flat_map (bits 8) bytes));
    }))

-- the last group is filled
pub last_grouped : {w : ℕ} {symbols start out : List ℕ} {held rest : ℕ} (bytes : List ℕ) (v : ℕ) → IsGrouped w symbols start out (flat_map (bits 8) bytes) held rest → 0 < held → held < w → v ≡ rest * 2 ^ (w - held) → (v < 2 ^ w) × (out ++ slice_index symbols v ∷ [] ≡ start ++ text_in_groups w symbols bytes)
last_grouped {w} {symbols} {start} {out} {held} {rest} bytes v g some few is =
    let power : 2 ^ w ≡ 2 ^ held * 2 ^ (w - held) = ap (λ k. 2 ^ k) (omega arith) ∙ pow-add 2 held (w - held) in
    let fits : v < 2 ^ w =
    let product = mul-le (suc rest) (2 ^ (w - held)) (2 ^ held) (2 ^ (w - held)) g.small (omega arith) in
    let positive = pow_pos (w - held) in
    omega arith in
    let filled : bits w v ≡ bits held rest ++ replicate (w - held) 0 = join held (w - held) w rest 0 v (omega arith) (omega arith) (pow_pos (w - held)) ∙ ap (λ x. bits held rest ++ x) (bits_of_zero (w - held)) in (
      fits,
      pushed symbols start out g.values v g.is ∙ ap (λ x. start ++ x) (text_of_grouping w symbols bytes (g.values ++ v ∷ []) (omega arith) (record {
        below = all_push (λ u. u < 2 ^ w) g.values v g.below fits;
        fill = w - held;
        short = omega arith;
        same = one_more w v g.values ∙ ap (λ x. flat_map (bits w) g.values ++ x) filled ∙ sym (append_assoc (flat_map (bits w) g.values) (bits held rest) (replicate (w - held) 0)) ∙ ap (λ x. x ++ replicate (w - held) 0) g.same;
      })),
    )

-- ---- byte by byte

pub bits_so_far : (bytes : List ℕ) (i byte : ℕ) → i < length bytes → length (flat_map (bits 8) (take i bytes) ++ bits 8 byte) ≡ 8 * i + 8
bits_so_far bytes i byte h = omega (arith, length-append (flat_map (bits 8) (take i bytes)) (bits 8 byte), length-all_bits 8 (take i bytes), length-bits 8 byte, length-take-le i bytes (omega arith))

pub whole_grouped : {w : ℕ} {symbols start out : List ℕ} {held rest : ℕ} (bytes : List ℕ) (i : ℕ) → IsGrouped w symbols start out (flat_map (bits 8) (take i bytes)) held rest → length bytes ≤ i → IsGrouped w symbols start out (flat_map (bits 8) bytes) held rest
whole_grouped {w} {symbols} {start} {out} {held} {rest} bytes i g past = subst (λ b. IsGrouped w symbols start out (flat_map (bits 8) b) held rest) (take_all i bytes past) g

pub room_for_last : {w : ℕ} {symbols start out : List ℕ} {held rest : ℕ} (bytes : List ℕ) → IsGrouped w symbols start out (flat_map (bits 8) bytes) held rest → 0 < held → held < w → length out < length start + group_count w (length bytes)
room_for_last {w} {symbols} {start} {out} {held} {rest} bytes g some few =
    let long = length-all_bits 8 bytes in
    room_for_group (length bytes) g (omega arith) (omega arith) some (omega arith)

-- one byte more
pub byte_next : {symbols start out : List ℕ} {rest : ℕ} (bytes : List ℕ) (i : ℕ) → i < length bytes → get_or bytes i 0 < 256 → IsGrouped 5 symbols start out (flat_map (bits 8) (take i bytes)) (8 * i) rest → IsGrouped 5 symbols start out (flat_map (bits 8) (take (i + 1) bytes)) (8 * (i + 1)) (rest * 256 + get_or bytes i 0)
byte_next {symbols} {start} {out} {rest} bytes i here small g =
    let more = ap (flat_map (bits 8)) (take_more bytes i 0 here) ∙ one_more 8 (get_or bytes i 0) (take i bytes) in
    let held : 8 * i + 8 ≡ 8 * (i + 1) = omega arith in
    subst (λ h. IsGrouped 5 symbols start out (flat_map (bits 8) (take (i + 1) bytes)) h (rest * 256 + get_or bytes i 0)) held
    (subst (λ b. IsGrouped 5 symbols start out b (8 * i + 8) (rest * 256 + get_or bytes i 0)) (sym more) (byte_held (get_or bytes i 0) g small))

-- ---- five bytes, eight groups

-- the groups of the bytes
abbrev own_groups : List ℕ → List ℕ
own_groups bytes = groups 5 (group_count 5 (length bytes)) (message_bits 5 bytes)

-- a text of five bytes, and the one of what follows them
pub text_joins : (symbols five rest : List ℕ) → length five ≡ 5 → text_in_groups 5 symbols (five ++ rest) ≡ text_in_groups 5 symbols five ++ text_in_groups 5 symbols rest
unfolding text_in_groups
text_joins symbols five rest whole =
    let some : 0 < 5 = omega arith in
    let g = grouping_of 5 five some in
    let h = grouping_of 5 rest some in
    let long = grouping_length 5 five (own_groups five) g in
    let short = g.short in
    let full : g.fill ≡ 0 = omega (arith, long, short, whole) in
    let same_five : flat_map (bits 5) (own_groups five) ≡ flat_map (bits 8) five = g.same ∙ ap (λ n. flat_map (bits 8) five ++ replicate n 0) full ∙ append-nil (flat_map (bits 8) five) in
    sym (text_of_grouping 5 symbols (five ++ rest) (own_groups five ++ own_groups rest) some (record {
      below = all_append (λ v. v < 2 ^ 5) (own_groups five) (own_groups rest) g.below h.below;
      fill = h.fill;
      short = h.short;
      same = flat_map-append (bits 5) (own_groups five) (own_groups rest) ∙ (λ i. same_five i ++ h.same i) ∙ sym (append_assoc (flat_map (bits 8) five) (flat_map (bits 8) rest) (replicate h.fill 0)) ∙ ap (λ b. b ++ replicate h.fill 0) (sym (flat_map-append (bits 8) five rest));
    })) ∙ map-append (slice_index symbols) (own_groups five) (own_groups rest)

groups_count : (w n : ℕ) (b : List ℕ) → length (groups w n b) ≡ n
unfolding groups
groups_count w zero b = refl
groups_count w (suc n) b = ap suc (groups_count w n (drop w b))

pub text_length : (w : ℕ) (symbols bytes : List ℕ) → length (text_in_groups w symbols bytes) ≡ group_count w (length bytes)
unfolding text_in_groups
text_length w symbols bytes = length-map (groups w (group_count w (length bytes)) (message_bits w bytes)) (slice_index symbols) ∙ groups_count w (group_count w (length bytes)) (message_bits w bytes)

-- what is out and the text of what is left have the length of the whole
pub left_length : (symbols start out left bytes : List ℕ) → out ++ text_in_groups 5 symbols left ≡ start ++ text_in_groups 5 symbols bytes → length out + group_count 5 (length left) ≡ length start + group_count 5 (length bytes)
left_length symbols start out left bytes e =
    omega (arith, ap length e, length-append out (text_in_groups 5 symbols left), length-append start (text_in_groups 5 symbols bytes), text_length 5 symbols left, text_length 5 symbols bytes)

-- the text of the next five bytes is out
pub five_out : (symbols start out left bytes five following : List ℕ) → five ≡ take 5 left → following ≡ drop 5 left → length following + 5 ≡ length left → out ++ text_in_groups 5 symbols left ≡ start ++ text_in_groups 5 symbols bytes → (out ++ text_in_groups 5 symbols five) ++ text_in_groups 5 symbols following ≡ start ++ text_in_groups 5 symbols bytes
five_out symbols start out left bytes five following front back long e =
    let whole : length five ≡ 5 = ap length front ∙ length-take-le 5 left (omega (arith, long)) in
    let parts : five ++ following ≡ left = (λ i. front i ++ back i) ∙ take-append-drop 5 left in
    append_assoc out (text_in_groups 5 symbols five) (text_in_groups 5 symbols following) ∙ ap (λ t. out ++ t) (sym (text_joins symbols five following whole) ∙ ap (text_in_groups 5 symbols) parts) ∙ e
