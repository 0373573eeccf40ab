-- A text has at most one fault, and a text of a CID has none.
use Rattle.std.proofs.Common.{◌≡◌, inl, inr, ℕ, ◌+◌, ◌*◌, ◌%◌, ◌≤◌, List, ◌∷◌, length, replicate, refl, sym, ap, ◌∙◌, subst, arith, length-append, slice_index, flat_map}
use Rattle.std.proofs.lemmas.List.{length-map}
use Rattle.ipld_tree.specs.Cid.{CidParts, cid_bytes}
use Rattle.ipld_tree.specs.CidFault.{IsFault}
use Rattle.ipld_tree.proofs.CidFaults.{fault_no_cid, one_fault}
use Rattle.text_cid.specs.Rfc4648.{bits, group_count, text_in_groups}
use Rattle.text_cid.specs.Alphabets.{IsBase}
use Rattle.text_cid.specs.Reads.{EndsIn, IsGroupFault, Is58Fault}
use Rattle.text_cid.specs.Texts.{lower_16, lower_32, upper_32, prefix_of, text_in, IsTold, IsTextOf, IsTextIn, IsInBase, IsBaseFault, IsBytesFault, IsTextFault}
use Rattle.text_cid.specs.declared.base.Base.{Base}
use Rattle.text_cid.specs.declared.base.Base.TheVariants as bases
use Rattle.text_cid.specs.declared.error.CidTextError.{CidTextError}
use Rattle.text_cid.specs.declared.error.CidTextError.TheVariants as faults
use Rattle.text_cid.proofs.Bits.{same_front, length-all_bits}
use Rattle.text_cid.proofs.Grouping.{count_fits, grouping_length, grouping_of_text, no_bytes_of_others}
use Rattle.text_cid.proofs.GroupReads.{only_symbols}
use Rattle.text_cid.proofs.Numbers58.{no_other_in_58, no_leading_zero}
use Rattle.text_cid.proofs.Texting.{base_lower_16, base_lower_32, base_upper_32, length-text, no_q, same_base, same_bytes_in, in_bytes_of_cid, same_cid_in, only_in, only_version_0, no_base, too_long}

-- ---- a text of bytes has no fault of its base

ends_length : {w : ℕ} {symbols text last : List ℕ} (e : EndsIn w symbols text last) → (length text ≡ length e.values) × (length e.values * w ≡ length e.bytes * 8 + length last)
ends_length {w} {symbols} {text} {last} e = (
  ap length e.is ∙ length-map e.values (slice_index symbols),
  sym (length-all_bits w e.values) ∙ ap length e.same ∙ length-append (flat_map (bits 8) e.bytes) last ∙ ap (λ n. n + length last) (length-all_bits 8 e.bytes),
)

no_bytes_in_groups : (w : ℕ) (symbols text : List ℕ) (e : CidTextError) → IsBase w symbols → IsGroupFault w symbols e text → (b : List ℕ) → text ≡ text_in_groups w symbols b → ⊥
no_bytes_in_groups w symbols text faults.InvalidCharacter base h b is = no_bytes_of_others w symbols text b h.0 base h.1 h.2 is
no_bytes_in_groups w symbols text faults.InvalidLength base h b is =
    let counted : w * length text ≡ w * group_count w (length b) = ap (λ n. w * n) (ap length is ∙ length-text w symbols b) in
    let fits = count_fits w (length b) base.some in
    let few = base.few in
    absurd (omega (arith, h.1, counted, fits.0, fits.1))
no_bytes_in_groups w symbols text faults.TrailingBits base h b is =
    let ends = h.1 in
    let g = grouping_of_text w symbols b ends.values text base ends.below ends.is is in
    let five = base.few in
    let short = g.short in
    let less = ends.few in
    let one = grouping_length w b ends.values g in
    let other = ends_length ends in
    let same_fill : g.fill ≡ length h.0 = omega (arith, other.1) in
    let long : length ends.bytes ≡ length b = omega (arith, other.1) in
    let fronts = same_front (flat_map (bits 8) ends.bytes) (flat_map (bits 8) b) h.0 (replicate g.fill 0) (length-all_bits 8 ends.bytes ∙ ap (λ n. n * 8) long ∙ sym (length-all_bits 8 b)) (sym ends.same ∙ g.same) in
    h.2 (fronts.1 ∙ ap (λ n. replicate n 0) same_fill)
no_bytes_in_groups w symbols text _ base h b is = absurd h

no_bytes_in_58 : (text : List ℕ) (e : CidTextError) → Is58Fault e text → (b : List ℕ) → text ≡ text_in bases.Base58Btc b → ⊥
no_bytes_in_58 text faults.InvalidCharacter h b is = no_other_in_58 b text h.0.0 h.0.1 h.0.2 is
no_bytes_in_58 text faults.LeadingZero h b is = no_leading_zero b h.0 (sym h.1 ∙ is)
no_bytes_in_58 text _ h b is = absurd h

no_bytes_in : (base : Base) (text : List ℕ) (e : CidTextError) → IsBaseFault base e text → (b : List ℕ) → text ≡ text_in base b → ⊥
no_bytes_in bases.Base16Lower text e = no_bytes_in_groups 4 lower_16 text e base_lower_16
no_bytes_in bases.Base32Lower text e = no_bytes_in_groups 5 lower_32 text e base_lower_32
no_bytes_in bases.Base32Upper text e = no_bytes_in_groups 5 upper_32 text e base_upper_32
no_bytes_in bases.Base58Btc text e = no_bytes_in_58 text e

-- ---- one fault of a base

-- after whole bytes fewer bits are left than a symbol has
whole_end : (w : ℕ) (symbols text last : List ℕ) → IsBase w symbols → EndsIn w symbols text last → w ≤ (w * length text) % 8 → ⊥
whole_end w symbols text last base e h =
    let lengths = ends_length e in
    let five = base.few in
    let less = e.few in
    let whole : w * length text ≡ length e.bytes * 8 + length last = ap (λ n. w * n) lengths.0 ∙ omega (arith, lengths.1) in
    absurd (omega (arith, h, whole))

one_in_groups : (w : ℕ) (symbols text : List ℕ) (e f : CidTextError) → IsBase w symbols → IsGroupFault w symbols e text → IsGroupFault w symbols f text → e ≡ f
one_in_groups w symbols text faults.InvalidCharacter faults.InvalidCharacter base h k = refl
one_in_groups w symbols text faults.InvalidCharacter faults.InvalidLength base h k = absurd (k.0 h)
one_in_groups w symbols text faults.InvalidCharacter faults.TrailingBits base h k = absurd (only_symbols w symbols text k.1.values base k.1.below k.1.is h)
one_in_groups w symbols text faults.InvalidCharacter _ base h k = absurd k
one_in_groups w symbols text faults.InvalidLength faults.InvalidCharacter base h k = absurd (h.0 k)
one_in_groups w symbols text faults.InvalidLength faults.InvalidLength base h k = refl
one_in_groups w symbols text faults.InvalidLength faults.TrailingBits base h k = absurd (whole_end w symbols text k.0 base k.1 h.1)
one_in_groups w symbols text faults.InvalidLength _ base h k = absurd k
one_in_groups w symbols text faults.TrailingBits faults.InvalidCharacter base h k = absurd (only_symbols w symbols text h.1.values base h.1.below h.1.is k)
one_in_groups w symbols text faults.TrailingBits faults.InvalidLength base h k = absurd (whole_end w symbols text h.0 base h.1 k.1)
one_in_groups w symbols text faults.TrailingBits faults.TrailingBits base h k = refl
one_in_groups w symbols text faults.TrailingBits _ base h k = absurd k
one_in_groups w symbols text _ f base h k = absurd h

one_in_58 : (text : List ℕ) (e f : CidTextError) → Is58Fault e text → Is58Fault f text → e ≡ f
one_in_58 text faults.InvalidCharacter faults.InvalidCharacter h k = refl
one_in_58 text faults.InvalidCharacter faults.LeadingZero h k = absurd (h.1 k)
one_in_58 text faults.InvalidCharacter _ h k = absurd k
one_in_58 text faults.LeadingZero faults.InvalidCharacter h k = absurd (k.1 h)
one_in_58 text faults.LeadingZero faults.LeadingZero h k = refl
one_in_58 text faults.LeadingZero _ h k = absurd k
one_in_58 text _ f h k = absurd h

one_in : (base : Base) (text : List ℕ) (e f : CidTextError) → IsBaseFault base e text → IsBaseFault base f text → e ≡ f
one_in bases.Base16Lower text e f = one_in_groups 4 lower_16 text e f base_lower_16
one_in bases.Base32Lower text e f = one_in_groups 5 lower_32 text e f base_lower_32
one_in bases.Base32Upper text e f = one_in_groups 5 upper_32 text e f base_upper_32
one_in bases.Base58Btc text e f = one_in_58 text e f

-- ---- one fault of what is in a base

one_of_bytes : (base : Base) (text : List ℕ) (e f : CidTextError) → IsBytesFault base e text → IsBytesFault base f text → e ≡ f
one_of_bytes base text faults.TooLong faults.TooLong h k = refl
one_of_bytes base text faults.TooLong (faults.InvalidCid g) h k = absurd (omega (arith, h, k.0))
one_of_bytes base text faults.TooLong f h k = absurd (omega (arith, h, k.0))
one_of_bytes base text (faults.InvalidCid d) faults.TooLong h k = absurd (omega (arith, h.0, k))
one_of_bytes base text (faults.InvalidCid d) (faults.InvalidCid g) h k =
    let same = same_bytes_in base text k.1.0 h.1.0 k.1.1 h.1.1 in
    ap faults.InvalidCid (one_fault d g h.1.0 h.1.2 (subst (λ b. IsFault g b) same k.1.2))
one_of_bytes base text (faults.InvalidCid d) f h k = absurd (no_bytes_in base text f k.1 h.1.0 h.1.1.is)
one_of_bytes base text e faults.TooLong h k = absurd (omega (arith, h.0, k))
one_of_bytes base text e (faults.InvalidCid g) h k = absurd (no_bytes_in base text e h.1 k.1.0 k.1.1.is)
one_of_bytes base text e f h k = one_in base text e f h.1 k.1

none_of_cid : (base : Base) (text : List ℕ) (c : CidParts) (e : CidTextError) → IsTextIn base text c → IsBytesFault base e text → ⊥
none_of_cid base text c faults.TooLong k h = (too_long base text h).0 c k
none_of_cid base text c (faults.InvalidCid f) k h = fault_no_cid f h.1.0 h.1.2 (c, k.valid, same_bytes_in base text h.1.0 (cid_bytes c) h.1.1 (in_bytes_of_cid k))
none_of_cid base text c e k h = no_bytes_in base text e h.1 (cid_bytes c) k.is

-- ---- the base

one_base : (text : List ℕ) (b d : Base) (r s : List ℕ) → IsInBase text b r → IsInBase text d s → (b ≡ d) × (r ≡ s)
one_base text b d r s (inl h) (inl k) =
    let both : prefix_of b ∷ r ≡ prefix_of d ∷ s = sym h ∙ k in
    let prefix : prefix_of b ≡ prefix_of d = cc both in
    (same_base b d prefix, cc both)
one_base text b d r s (inl h) (inr k) = absurd (let both : prefix_of b ∷ r ≡ 81 ∷ k.2.0 = sym h ∙ k.2.1 in no_q b (cc both))
one_base text b d r s (inr h) (inl k) = absurd (let both : prefix_of d ∷ s ≡ 81 ∷ h.2.0 = sym k ∙ h.2.1 in no_q d (cc both))
one_base text b d r s (inr h) (inr k) = (h.0 ∙ sym k.0, sym h.1 ∙ k.1)

some_base : (text : List ℕ) (base : Base) (rest : List ℕ) → IsTextFault faults.UnknownBase text → IsInBase text base rest → ⊥
some_base text base rest h (inl k) = h.0 base rest k
some_base text base rest h (inr k) = h.1 k.2

-- what a CID's text is in its base
in_its_base : (text : List ℕ) (base : Base) (rest : List ℕ) (c : CidParts) → IsInBase text base rest → IsTextOf text c → IsTextIn base rest c
in_its_base text base rest c (inl e) h = (only_in base text rest c e h).1
in_its_base text base rest c (inr q) h = subst (λ r. IsTextIn base r c) q.1 (subst (λ b. IsTextIn b text c) (sym q.0) (only_version_0 text q.2.0 c q.2.1 h).1)

-- ---- one fault of a text

pub none_of_text : (text : List ℕ) (c : CidParts) (e : CidTextError) → IsTextOf text c → IsTextFault e text → ⊥
none_of_text text c faults.UnknownBase k h = (no_base text h.0 h.1).0 c k
none_of_text text c faults.InvalidVersion k h =
    let same = same_cid_in h.0 h.1 c h.3.0 (in_its_base text h.0 h.1 c h.2 k) h.3.1 in
    h.3.2 (subst (IsTold text) same k.told)
none_of_text text c e k h = none_of_cid h.0 h.1 c e (in_its_base text h.0 h.1 c h.2 k) h.3

pub one_of_text : (text : List ℕ) (e f : CidTextError) → IsTextFault e text → IsTextFault f text → e ≡ f
one_of_text text faults.UnknownBase faults.UnknownBase h k = refl
one_of_text text faults.UnknownBase f h k = absurd (some_base text k.0 k.1 h k.2)
one_of_text text faults.InvalidVersion faults.UnknownBase h k = absurd (some_base text h.0 h.1 k h.2)
one_of_text text faults.InvalidVersion faults.InvalidVersion h k = refl
one_of_text text faults.InvalidVersion f h k =
    let same = one_base text h.0 k.0 h.1 k.1 h.2 k.2 in
    absurd (none_of_cid k.0 k.1 h.3.0 f (subst (λ b. IsTextIn b k.1 h.3.0) same.0 (subst (λ r. IsTextIn h.0 r h.3.0) same.1 h.3.1)) k.3)
one_of_text text e faults.UnknownBase h k = absurd (some_base text h.0 h.1 k h.2)
one_of_text text e faults.InvalidVersion h k =
    let same = one_base text k.0 h.0 k.1 h.1 k.2 h.2 in
    absurd (none_of_cid h.0 h.1 k.3.0 e (subst (λ b. IsTextIn b h.1 k.3.0) same.0 (subst (λ r. IsTextIn k.0 r k.3.0) same.1 k.3.1)) h.3)
one_of_text text e f h k =
    let same = one_base text k.0 h.0 k.1 h.1 k.2 h.2 in
    one_of_bytes h.0 h.1 e f h.3 (subst (λ b. IsBytesFault b f h.1) same.0 (subst (λ r. IsBytesFault k.0 f r) same.1 k.3))
