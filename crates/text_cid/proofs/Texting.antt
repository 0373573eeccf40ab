-- Texts of CIDs.
use Rattle.std.proofs.Common.{◌≡◌, ◌≢◌, inl, inr, ℕ, zero, suc, ◌+◌, ◌*◌, ◌/◌, ◌%◌, ◌^◌, ◌<◌, ◌≤◌, List, [], ◌∷◌, ◌++◌, length, drop, map, refl, sym, ap, ◌∙◌, subst, arith, eq-eqb, append_assoc, append-nil, ne_eqb, slice_index, Result, Ok, Err, pow-suc}
use Rattle.std.proofs.Math.Nat.{pow-succ', pow-le-pow_right, div-div-eq-div-mul}
use Rattle.std.proofs.lemmas.List.{length-map}
use Rattle.std.proofs.lemmas.Int.Digits.{number_after_lt, number_lt, digits_of_step, length-digits_of-le}
use Rattle.std.specs.Int.Digits.{digits_of, number_from_digits, number_from_digits_after}
use Rattle.arrayvec.specs.ArrayVec.{ArrayVec}
use Rattle.ipld_tree.specs.Cid.{CidParts, AreCidParts, cid_bytes, IsCid}
use Rattle.ipld_tree.specs.CidFault.{IsFault}
use Rattle.ipld_tree.specs.declared.cid_error.CidError.{CidError}
use Rattle.ipld_tree.proofs.Cids.{cid_length, cid_unique, form_0, form_1}
use Rattle.text_cid.specs.Rfc4648.{groups, group_count, message_bits, text_in_groups}
use Rattle.text_cid.specs.Base58.{symbols_58, text_in_58, BeginsAboveZero}
use Rattle.text_cid.specs.Alphabets.{IsBase, AreBytes}
use Rattle.text_cid.specs.Texts.{lower_16, lower_32, upper_32, prefix_of, text_in, text_of_form, cid_text, IsTold, IsTextOf, IsTextIn, IsInBytes, BeginsWithQ, IsInBase, IsBytesFault, IsTextFault, ReadsIn, ReadsCidIn, ReadsCidText, IsOfVersion}
use Rattle.text_cid.specs.Reads.{ReadsGroups, Reads58}
use Rattle.text_cid.specs.declared.base.Base.{Base}
use Rattle.text_cid.specs.declared.base.Base.TheVariants as bases
use Rattle.text_cid.specs.declared.error.CidTextError.{CidTextError}
use Rattle.text_cid.specs.declared.error.CidTextError.TheVariants as faults
use Rattle.text_cid.proofs.Grouping.{same_bytes_from_groups}
use Rattle.text_cid.proofs.Numbers58.{same_bytes_from_58}

-- ---- the bases

pub base_lower_16 : IsBase 4 lower_16
base_lower_16 = record { some = omega arith; few = omega arith; alphabet = refl }

pub base_lower_32 : IsBase 5 lower_32
base_lower_32 = record { some = omega arith; few = omega arith; alphabet = refl }

pub base_upper_32 : IsBase 5 upper_32
base_upper_32 = record { some = omega arith; few = omega arith; alphabet = refl }

-- ---- lengths

length-groups : (w n : ℕ) (b : List ℕ) → length (groups w n b) ≡ n
unfolding groups
length-groups w zero b = refl
length-groups w (suc n) b = ap suc (length-groups w n (drop w b))

pub length-text : (w : ℕ) (symbols bytes : List ℕ) → length (text_in_groups w symbols bytes) ≡ group_count w (length bytes)
unfolding text_in_groups
length-text w symbols bytes = length-map (groups w (group_count w (length bytes)) (message_bits w bytes)) (slice_index symbols) ∙ length-groups w (group_count w (length bytes)) (message_bits w bytes)

length-text_58 : (bytes : List ℕ) → AreBytes bytes → length bytes ≤ 86 → length (text_in_58 bytes) ≤ 118
unfolding text_in_58
length-text_58 bytes h few =
    let power = pow-le-pow_right {n = 256} (omega arith) {i = length bytes} {j = 86} few in
    let small : number_from_digits 256 bytes < 58 ^ 118 = omega (arith, number_lt 256 bytes h, power) in
    omega (arith, length-map (digits_of 58 (number_from_digits 256 bytes)) (slice_index symbols_58), length-digits_of-le 58 118 (number_from_digits 256 bytes) (omega arith) small)

pub short_text : (base : Base) (c : CidParts) → AreCidParts c → AreBytes (cid_bytes c) → length (text_in base (cid_bytes c)) ≤ 172
short_text bases.Base16Lower c h bytes = omega (arith, length-text 4 lower_16 (cid_bytes c), cid_length (cid_bytes c) (c, h, refl))
short_text bases.Base32Lower c h bytes = omega (arith, length-text 5 lower_32 (cid_bytes c), cid_length (cid_bytes c) (c, h, refl))
short_text bases.Base32Upper c h bytes = omega (arith, length-text 5 upper_32 (cid_bytes c), cid_length (cid_bytes c) (c, h, refl))
short_text bases.Base58Btc c h bytes = omega (arith, length-text_58 (cid_bytes c) bytes (cid_length (cid_bytes c) (c, h, refl)))

-- ---- the first byte and the first character

pub cid_above_zero : (c : CidParts) → AreCidParts c → BeginsAboveZero (cid_bytes c)
cid_above_zero c (inl h) = subst BeginsAboveZero (sym (form_0 c h.0)) (omega arith)
cid_above_zero c (inr h) = subst BeginsAboveZero (sym (form_1 c h.0)) (omega arith)

number_at_least : (n : ℕ) (ds : List ℕ) → n * 256 ^ length ds ≤ number_from_digits_after 256 n ds
number_at_least n [] = omega arith
number_at_least n (d ∷ ds) =
    let power : n * 256 ^ suc (length ds) ≡ n * (256 ^ length ds * 256) = ap (λ p. n * p) (pow-suc 256 (length ds)) in
    omega (arith, power, number_at_least (n * 256 + d) ds)

-- the digits of a number begin with those of its upper part
digits_begin : (k n : ℕ) → 0 < n / 58 ^ k → (rest : List ℕ) × (digits_of 58 n ≡ digits_of 58 (n / 58 ^ k) ++ rest)
digits_begin zero n h = let whole : n ≡ n / 58 ^ 0 = omega arith in ([], ap (digits_of 58) whole ∙ sym (append-nil (digits_of 58 (n / 58 ^ 0))))
digits_begin (suc k) n h =
    let apart : n / 58 ^ suc k ≡ n / 58 / 58 ^ k = ap (λ p. n / p) (pow-succ' 58 k) ∙ sym (div-div-eq-div-mul n 58 (58 ^ k)) in
    let some : 0 < n / 58 / 58 ^ k = omega (arith, h, apart) in
    let positive : 0 < n = above n some in
    let inner = digits_begin k (n / 58) some in
    (inner.0 ++ n % 58 ∷ [], digits_of_step 58 n (omega arith) positive ∙ ap (λ x. x ++ n % 58 ∷ []) inner.1 ∙ append_assoc (digits_of 58 (n / 58 / 58 ^ k)) inner.0 (n % 58 ∷ []) ∙ ap (λ m. digits_of 58 m ++ (inner.0 ++ n % 58 ∷ [])) (sym apart))
  where
    above : (n : ℕ) → 0 < n / 58 / 58 ^ k → 0 < n
    above zero h = absurd (omega (arith, h))
    above (suc n) h = omega arith

-- a CID of version 0 begins with Q
pub begins_with_q : (c : CidParts) → AreBytes (cid_bytes c) → AreCidParts c → c.version ≡ 0 → BeginsWithQ (text_in_58 (cid_bytes c))
unfolding text_in_58
begins_with_q c bytes (inr h) is = absurd (omega (arith, h.0, is))
begins_with_q c bytes (inl h) is = by (cid_bytes c) (form_0 c h.0) bytes
  where
    by : (b : List ℕ) → b ≡ 0x12 ∷ 0x20 ∷ c.digest → AreBytes b → BeginsWithQ (map (slice_index symbols_58) (digits_of 58 (number_from_digits 256 b)))
    by b e bytes =
        let n : ℕ = number_from_digits_after 256 4640 c.digest in
        let all = subst AreBytes e bytes in
        let power : 256 ^ length c.digest ≡ 256 ^ 32 = ap (λ k. 256 ^ k) h.3 in
        let least = number_at_least 4640 c.digest in
        let most = number_after_lt 256 4640 c.digest all.1.1 in
        let first : n / 58 ^ 45 ≡ 23 = omega (arith, power, least, most) in
        let digits = digits_begin 45 n (omega (arith, first)) in (
          map (slice_index symbols_58) digits.0,
          ap (λ x. map (slice_index symbols_58) (digits_of 58 (number_from_digits 256 x))) e
              ∙ ap (map (slice_index symbols_58)) (digits.1 ∙ ap (λ m. digits_of 58 m ++ digits.0) first),
        )

pub no_q : (base : Base) → prefix_of base ≢ 81
no_q bases.Base16Lower e = omega (arith, e)
no_q _ e = omega (arith, e)

pub same_base : (b d : Base) → prefix_of b ≡ prefix_of d → b ≡ d
same_base bases.Base16Lower bases.Base16Lower e = refl
same_base bases.Base32Lower bases.Base32Lower e = refl
same_base bases.Base32Upper bases.Base32Upper e = refl
same_base bases.Base58Btc bases.Base58Btc e = refl
same_base _ _ e = absurd (omega (arith, e))

-- ---- one CID a text

-- the same text spells the same bytes, if in base58btc the first byte is not zero
pub same_bytes_in : (base : Base) (text a b : List ℕ) → IsInBytes base text a → IsInBytes base text b → a ≡ b
same_bytes_in bases.Base16Lower text a b h k = same_bytes_from_groups 4 lower_16 a b base_lower_16 h.are_bytes k.are_bytes (sym h.is ∙ k.is)
same_bytes_in bases.Base32Lower text a b h k = same_bytes_from_groups 5 lower_32 a b base_lower_32 h.are_bytes k.are_bytes (sym h.is ∙ k.is)
same_bytes_in bases.Base32Upper text a b h k = same_bytes_from_groups 5 upper_32 a b base_upper_32 h.are_bytes k.are_bytes (sym h.is ∙ k.is)
same_bytes_in bases.Base58Btc text a b h k = same_bytes_from_58 a b h.are_bytes k.are_bytes (h.first refl) (k.first refl) (sym h.is ∙ k.is)

pub in_bytes_of_cid : {base : Base} {text : List ℕ} {c : CidParts} → IsTextIn base text c → IsInBytes base text (cid_bytes c)
in_bytes_of_cid {base} {text} {c} h = record { are_bytes = h.are_bytes; first = λ _. cid_above_zero c h.valid; is = h.is }

pub same_cid_in : (base : Base) (text : List ℕ) (c d : CidParts) → IsTextIn base text c → IsTextIn base text d → c ≡ d
same_cid_in base text c d h k = cid_unique c d h.valid k.valid (same_bytes_in base text (cid_bytes c) (cid_bytes d) (in_bytes_of_cid h) (in_bytes_of_cid k))

q_has_no_prefix : (base : Base) (text rest : List ℕ) (c : CidParts) → IsTextOf text c → c.version ≡ 0 → text ≡ text_in_58 (cid_bytes c) → text ≡ prefix_of base ∷ rest → ⊥
q_has_no_prefix base text rest c h zero_is is e =
    let q = begins_with_q c h.are_bytes h.valid zero_is in
    let clash : 81 ∷ q.0 ≡ prefix_of base ∷ rest = sym q.1 ∙ sym is ∙ e in
    let first : 81 ≡ prefix_of base = cc clash in
    no_q base (sym first)

-- the text of a CID, seen in a base
pub text_of : {base : Base} {text whole : List ℕ} {c : CidParts} → IsTextOf whole c → text ≡ text_in base (cid_bytes c) → IsTextIn base text c
text_of h is = record { valid = h.valid; are_bytes = h.are_bytes; is = is }

pub one_cid : (text : List ℕ) (c d : CidParts) → IsTextOf text c → IsTextOf text d → c ≡ d
one_cid text c d h k = by h.told k.told
  where
    by : IsTold text c → IsTold text d → c ≡ d
    by (inl p) (inl q) = same_cid_in bases.Base58Btc text c d (text_of h p.1) (text_of k q.1)
    by (inl p) (inr q) = absurd (q_has_no_prefix q.1.0 text _ c h p.0 p.1 q.1.1)
    by (inr p) (inl q) = absurd (q_has_no_prefix p.1.0 text _ d k q.0 q.1 p.1.1)
    by (inr p) (inr q) =
        let both : prefix_of p.1.0 ∷ text_in p.1.0 (cid_bytes c) ≡ prefix_of q.1.0 ∷ text_in q.1.0 (cid_bytes d) = sym p.1.1 ∙ q.1.1 in
        let prefix : prefix_of p.1.0 ≡ prefix_of q.1.0 = cc both in
        let rest : text_in p.1.0 (cid_bytes c) ≡ text_in q.1.0 (cid_bytes d) = cc both in
        same_cid_in p.1.0 (text_in p.1.0 (cid_bytes c)) c d (text_of h refl) (text_of k (rest ∙ ap (λ b. text_in b (cid_bytes d)) (sym (same_base p.1.0 q.1.0 prefix))))

-- ---- reading

fault_told : (base : Base) (text rest : List ℕ) (e : CidTextError) → IsInBase text base rest → IsBytesFault base e rest → IsTextFault e text
fault_told bases.Base16Lower text rest faults.UnknownBase is h = absurd h.1
fault_told _ text rest faults.UnknownBase is h = absurd h.1
fault_told bases.Base16Lower text rest faults.InvalidVersion is h = absurd h.1
fault_told _ text rest faults.InvalidVersion is h = absurd h.1
fault_told base text rest _ is h = (base, rest, is, h)

-- after its prefix the text is that of no other CID
pub only_in : (base : Base) (text rest : List ℕ) (c : CidParts) → text ≡ prefix_of base ∷ rest → IsTextOf text c → (c.version ≡ 1) × IsTextIn base rest c
only_in base text rest c e h = by h.told
  where
    by : IsTold text c → (c.version ≡ 1) × IsTextIn base rest c
    by (inl p) = absurd (q_has_no_prefix base text rest c h p.0 p.1 e)
    by (inr p) =
        let both : prefix_of base ∷ rest ≡ prefix_of p.1.0 ∷ text_in p.1.0 (cid_bytes c) = sym e ∙ p.1.1 in
        let prefix : prefix_of base ≡ prefix_of p.1.0 = cc both in
        let same : rest ≡ text_in p.1.0 (cid_bytes c) = cc both in
        (p.0, text_of h (same ∙ ap (λ b. text_in b (cid_bytes c)) (sym (same_base base p.1.0 prefix))))

-- a CID of no text is not told by it
not_told : {base : Base} {rest text : List ℕ} {c : CidParts} → IsTextIn base rest c → ((d : CidParts) → IsTextOf text d → ⊥) → IsTold text c → ⊥
not_told {base} {rest} {text} {c} r none t = none c record { valid = r.valid; are_bytes = r.are_bytes; told = t }

pub read_prefixed : (base : Base) (text rest : List ℕ) (read result : Result CidParts CidTextError) → text ≡ prefix_of base ∷ rest → ReadsCidIn base rest read → IsOfVersion 1 read result → ReadsCidText text result
read_prefixed base text rest (Ok c) (Ok d) e r v =
    subst (IsTextOf text) (sym v.0) (record { valid = r.valid; are_bytes = r.are_bytes; told = inr (v.1, (base, e ∙ ap (λ x. prefix_of base ∷ x) r.is)) })
read_prefixed base text rest (Ok c) (Err f) e r v = (none, subst (λ x. IsTextFault x text) (sym v.0) (base, rest, inl e, (c, r, not_told r none)))
  where
    none : (d : CidParts) → IsTextOf text d → ⊥
    none d h = let k = only_in base text rest d e h in v.1 (ap (λ (x : CidParts). x.version) (same_cid_in base rest c d r k.1) ∙ k.0)
read_prefixed base text rest (Err f) (Ok d) e r v = absurd (cc v)
read_prefixed base text rest (Err f) (Err g) e r v =
    let same : f ≡ g = cc v in (
      λ d h. r.0 d (only_in base text rest d e h).1,
      subst (λ x. IsTextFault x text) same (fault_told base text rest f (inl e) r.1),
    )

-- a text that begins with Q is of version 0
pub only_version_0 : (text rest : List ℕ) (c : CidParts) → text ≡ 81 ∷ rest → IsTextOf text c → (c.version ≡ 0) × IsTextIn bases.Base58Btc text c
only_version_0 text rest c e h = by h.told
  where
    by : IsTold text c → (c.version ≡ 0) × IsTextIn bases.Base58Btc text c
    by (inl p) = (p.0, text_of h p.1)
    by (inr p) =
        let both : 81 ∷ rest ≡ prefix_of p.1.0 ∷ text_in p.1.0 (cid_bytes c) = sym e ∙ p.1.1 in
        let first : 81 ≡ prefix_of p.1.0 = cc both in
        absurd (no_q p.1.0 (sym first))

pub read_unprefixed : (text rest : List ℕ) (read result : Result CidParts CidTextError) → text ≡ 81 ∷ rest → ReadsCidIn bases.Base58Btc text read → IsOfVersion 0 read result → ReadsCidText text result
read_unprefixed text rest (Ok c) (Ok d) e r v = subst (IsTextOf text) (sym v.0) (record { valid = r.valid; are_bytes = r.are_bytes; told = inl (v.1, r.is) })
read_unprefixed text rest (Ok c) (Err f) e r v = (none, subst (λ x. IsTextFault x text) (sym v.0) (bases.Base58Btc, text, inr (refl, refl, (rest, e)), (c, r, not_told r none)))
  where
    none : (d : CidParts) → IsTextOf text d → ⊥
    none d h = let k = only_version_0 text rest d e h in v.1 (ap (λ (x : CidParts). x.version) (same_cid_in bases.Base58Btc text c d r k.1) ∙ k.0)
read_unprefixed text rest (Err f) (Ok d) e r v = absurd (cc v)
read_unprefixed text rest (Err f) (Err g) e r v =
    let same : f ≡ g = cc v in (
      λ d h. r.0 d (only_version_0 text rest d e h).1,
      subst (λ x. IsTextFault x text) same (fault_told bases.Base58Btc text text f (inr (refl, refl, (rest, e))) r.1),
    )

pub no_base : (text : List ℕ) → ((base : Base) (rest : List ℕ) → text ≢ prefix_of base ∷ rest) → (BeginsWithQ text → ⊥) → ((c : CidParts) → IsTextOf text c → ⊥) × IsTextFault faults.UnknownBase text
no_base text other no_q_first = (λ c h. by c h h.told, (other, no_q_first))
  where
    by : (c : CidParts) → IsTextOf text c → IsTold text c → ⊥
    by c h (inl p) = let q = begins_with_q c h.are_bytes h.valid p.0 in no_q_first (q.0, p.1 ∙ q.1)
    by c h (inr p) = other p.1.0 _ p.1.1

pub no_characters : (text : List ℕ) → text ≡ [] → ((c : CidParts) → IsTextOf text c → ⊥) × IsTextFault faults.UnknownBase text
no_characters text e = no_base text (λ base rest k. let clash : [] ≡ prefix_of base ∷ rest = sym e ∙ k in cc clash) (λ q. let clash : [] ≡ 81 ∷ q.0 = sym e ∙ q.1 in cc clash)

pub other_character : (text rest : List ℕ) (x : ℕ) → text ≡ x ∷ rest → x ≢ 102 → x ≢ 98 → x ≢ 66 → x ≢ 122 → x ≢ 81 → ((c : CidParts) → IsTextOf text c → ⊥) × IsTextFault faults.UnknownBase text
other_character text rest x e f b u z q = no_base text by (λ h. let both : x ∷ rest ≡ 81 ∷ h.0 = sym e ∙ h.1 in q (cc both))
  where
    by : (base : Base) (more : List ℕ) → text ≢ prefix_of base ∷ more
    by bases.Base16Lower more k = let both : x ∷ rest ≡ 102 ∷ more = sym e ∙ k in f (cc both)
    by bases.Base32Lower more k = let both : x ∷ rest ≡ 98 ∷ more = sym e ∙ k in b (cc both)
    by bases.Base32Upper more k = let both : x ∷ rest ≡ 66 ∷ more = sym e ∙ k in u (cc both)
    by bases.Base58Btc more k = let both : x ∷ rest ≡ 122 ∷ more = sym e ∙ k in z (cc both)

-- a text that is too long
pub too_long : (base : Base) (text : List ℕ) → 172 < length text → ((c : CidParts) → IsTextIn base text c → ⊥) × (172 < length text)
too_long base text h = (λ c k. absurd (omega (arith, h, ap length k.is, short_text base c k.valid k.are_bytes)), h)

-- ---- writing

pub written_0 : (c : CidParts) (text : List ℕ) → AreCidParts c → AreBytes (cid_bytes c) → c.version ≡ 0 → text ≡ text_in_58 (cid_bytes c) → IsTextOf text c
written_0 c text h bytes v e = record { valid = h; are_bytes = bytes; told = inl (v, e) }

pub written_1 : (c : CidParts) (text : List ℕ) → AreCidParts c → AreBytes (cid_bytes c) → c.version ≢ 0 → text ≡ 98 ∷ text_in_groups 5 lower_32 (cid_bytes c) → IsTextOf text c
written_1 c text (inl h) bytes v e = absurd (v h.0)
written_1 c text (inr h) bytes v e = record { valid = inr h; are_bytes = bytes; told = inr (h.0, (bases.Base32Lower, e)) }

-- the text of each version
pub text_0 : (c : CidParts) → c.version ≡ 0 → cid_text c ≡ text_in_58 (cid_bytes c)
unfolding text_of_form
text_0 c v = rw (eq-eqb (slice_index (cid_bytes c) 0) 0x12 (ap (λ b. slice_index b 0) (form_0 c v))) refl

pub text_1 : (c : CidParts) → AreCidParts c → c.version ≢ 0 → cid_text c ≡ 98 ∷ text_in_groups 5 lower_32 (cid_bytes c)
unfolding text_of_form
text_1 c (inl h) v = absurd (v h.0)
text_1 c (inr h) v =
    let first : slice_index (cid_bytes c) 0 ≡ 0x01 = ap (λ b. slice_index b 0) (form_1 c h.0) in
    rw (ne_eqb (slice_index (cid_bytes c) 0) 0x12 (λ e. omega (arith, first, e))) refl

-- what was written is read back
pub read_back : (text : List ℕ) (c : CidParts) (r : Result CidParts CidTextError) → IsTextOf text c → ReadsCidText text r → r ≡ Ok c
read_back text c (Ok d) h k = ap Ok (one_cid text d c k h)
read_back text c (Err e) h k = absurd (k.0 c h)

-- ---- one base

pub read_lower_16 : (text : List ℕ) (r : Result (ArrayVec ℕ) CidTextError) → length text ≤ 172 → ReadsGroups 4 lower_16 text r → ReadsIn bases.Base16Lower text r
read_lower_16 text (Ok v) few h = (few, record { are_bytes = h.0; first = λ e. cc e; is = h.1 })
read_lower_16 text (Err faults.UnknownBase) few h = absurd h.1
read_lower_16 text (Err faults.TooLong) few h = absurd h.1
read_lower_16 text (Err (faults.InvalidCid f)) few h = absurd h.1
read_lower_16 text (Err _) few h = (λ c k. h.0 (cid_bytes c) k.is, (few, h.1))

pub read_lower_32 : (text : List ℕ) (r : Result (ArrayVec ℕ) CidTextError) → length text ≤ 172 → ReadsGroups 5 lower_32 text r → ReadsIn bases.Base32Lower text r
read_lower_32 text (Ok v) few h = (few, record { are_bytes = h.0; first = λ e. cc e; is = h.1 })
read_lower_32 text (Err faults.UnknownBase) few h = absurd h.1
read_lower_32 text (Err faults.TooLong) few h = absurd h.1
read_lower_32 text (Err (faults.InvalidCid f)) few h = absurd h.1
read_lower_32 text (Err _) few h = (λ c k. h.0 (cid_bytes c) k.is, (few, h.1))

pub read_upper_32 : (text : List ℕ) (r : Result (ArrayVec ℕ) CidTextError) → length text ≤ 172 → ReadsGroups 5 upper_32 text r → ReadsIn bases.Base32Upper text r
read_upper_32 text (Ok v) few h = (few, record { are_bytes = h.0; first = λ e. cc e; is = h.1 })
read_upper_32 text (Err faults.UnknownBase) few h = absurd h.1
read_upper_32 text (Err faults.TooLong) few h = absurd h.1
read_upper_32 text (Err (faults.InvalidCid f)) few h = absurd h.1
read_upper_32 text (Err _) few h = (λ c k. h.0 (cid_bytes c) k.is, (few, h.1))

pub read_bitcoin_58 : (text : List ℕ) (r : Result (ArrayVec ℕ) CidTextError) → length text ≤ 172 → Reads58 text r → ReadsIn bases.Base58Btc text r
read_bitcoin_58 text (Ok v) few h = (few, record { are_bytes = h.0; first = λ e. h.1; is = h.2 })
read_bitcoin_58 text (Err faults.TooLong) few h = absurd h.1
read_bitcoin_58 text (Err (faults.InvalidCid f)) few h = absurd h.1
read_bitcoin_58 text (Err _) few h = (λ c k. h.0 (cid_bytes c) k.is, (few, h.1))

-- bytes that are not a CID
pub no_cid : (base : Base) (text b : List ℕ) (f : CidError) → (length text ≤ 172) × IsInBytes base text b → ¬ IsCid b × IsFault f b → ((c : CidParts) → IsTextIn base text c → ⊥) × IsBytesFault base (faults.InvalidCid f) text
no_cid base text b f r h = (λ c k. h.0 (c, k.valid, same_bytes_in base text b (cid_bytes c) r.1 (in_bytes_of_cid k)), (r.0, (b, r.1, h.1)))
