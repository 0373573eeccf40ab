-- A CID has one binary form, and a form is that of one CID.
use Rattle.std.proofs.Common.{◌≡◌, inl, inr, ℕ, zero, suc, ◌+◌, ◌/◌, ◌%◌, ◌^◌, ◌<◌, ◌≤◌, List, [], ◌∷◌, ◌++◌, length, length-append, Bool, refl, sym, ap, ◌∙◌, subst, arith, lt-ltb, le-ltb, eq-eqb, ne_eqb, IsTrue, ◌↔◌, is_eq, pow-suc}
use Rattle.std.proofs.lemmas.Bool.{cases_lt}
use Rattle.std.proofs.lemmas.Cmp.{tied_itself, then_total, on_total, nat_cmp_total, nat_list_cmp_total}
use Rattle.std.specs.Cmp.{IsTotalOrder}
use Rattle.std.specs.Ordering.{eq_by_cmp}
use Rattle.ipld_tree.specs.CidHash.{same_cid, is_equal}
use Rattle.std.proofs.lemmas.Nat.{div_below}
use Rattle.ipld_tree.specs.Cid.{varint_groups, varint, CidParts, AreCidParts, cid_bytes, IsCid, cid_cmp}

-- the lowest group, last or with more after it
pub one_group : (more n : ℕ) → n < 128 → varint_groups (suc more) n ≡ n ∷ []
one_group more n h = rw (lt-ltb n 128 h) refl

pub more_groups : (more n : ℕ) → 128 ≤ n → varint_groups (suc more) n ≡ (128 + n % 128) ∷ varint_groups more (n / 128)
more_groups more n h = rw (le-ltb n 128 h) refl

fewer : (k n : ℕ) → n < 128 ^ suc k → n / 128 < 128 ^ k
fewer k n h = div_below n 128 (128 ^ k) (omega arith) (subst (λ b. n < b) (pow-suc 128 k) h)

whole : (m n : ℕ) → m / 128 ≡ n / 128 → m % 128 ≡ n % 128 → m ≡ n
whole m n q r = omega arith

groups_unique : (k m n : ℕ) (x y : List ℕ) → m < 128 ^ k → n < 128 ^ k → varint_groups k m ++ x ≡ varint_groups k n ++ y → (m ≡ n) × (x ≡ y)
groups_unique zero m n x y h l e = (omega arith, e)
groups_unique (suc k) m n x y h l e = elim (cases_lt m 128) [
  | inl a ↦ elim (cases_lt n 128) [
    | inl b ↦ let s = sym (ap (λ s. s ++ x) (one_group k m a)) ∙ e ∙ ap (λ s. s ++ y) (one_group k n b) in (cc s, cc s)
    | inr b ↦ let s = sym (ap (λ s. s ++ x) (one_group k m a)) ∙ e ∙ ap (λ s. s ++ y) (more_groups k n b) in let d : m ≡ 128 + n % 128 = cc s in absurd (omega arith)
  ]
  | inr a ↦ elim (cases_lt n 128) [
    | inl b ↦ let s = sym (ap (λ s. s ++ x) (more_groups k m a)) ∙ e ∙ ap (λ s. s ++ y) (one_group k n b) in let d : 128 + m % 128 ≡ n = cc s in absurd (omega arith)
    | inr b ↦
        let s = sym (ap (λ s. s ++ x) (more_groups k m a)) ∙ e ∙ ap (λ s. s ++ y) (more_groups k n b) in
        let d : 128 + m % 128 ≡ 128 + n % 128 = cc s in
        let t : varint_groups k (m / 128) ++ x ≡ varint_groups k (n / 128) ++ y = cc s in
        let r = groups_unique k (m / 128) (n / 128) x y (fewer k m h) (fewer k n l) t in
        (whole m n r.0 (omega arith), r.1)
  ]
]

-- a varint is read in one way, whatever follows it
pub varint_unique : (m n : ℕ) (x y : List ℕ) → m < 2 ^ 64 → n < 2 ^ 64 → varint m ++ x ≡ varint n ++ y → (m ≡ n) × (x ≡ y)
unfolding varint
varint_unique m n x y h l e = groups_unique 10 m n x y (omega arith) (omega arith) e

-- at most ten groups
groups_length : (k n : ℕ) → length (varint_groups k n) ≤ k
groups_length zero n = omega arith
groups_length (suc k) n = elim (cases_lt n 128) [
  | inl h ↦ omega (arith, ap length (one_group k n h))
  | inr h ↦ omega (arith, ap length (more_groups k n h), groups_length k (n / 128))
]

pub varint_length : (n : ℕ) → length (varint n) ≤ 10
unfolding varint
varint_length n = groups_length 10 n

pub one_byte : (n : ℕ) → n < 128 → length (varint n) ≡ 1
unfolding varint
one_byte n h = ap length (one_group 9 n h)

-- the two forms
pub form_0 : (c : CidParts) → c.version ≡ 0 → cid_bytes c ≡ 0x12 ∷ 0x20 ∷ c.digest
form_0 c e = rw (eq-eqb c.version 0 e) refl

pub form_1 : (c : CidParts) → c.version ≡ 1 → cid_bytes c ≡ 0x01 ∷ (varint c.codec ++ (varint c.hash_code ++ (varint (length c.digest) ++ c.digest)))
form_1 c e = rw (ne_eqb c.version 0 (λ z. omega arith)) refl

-- a CID has at most 86 bytes
pub cid_length : (b : List ℕ) → IsCid b → length b ≤ 86
cid_length b (c, inl h, e) = omega (arith, ap length (e ∙ form_0 c h.0), h.3)
cid_length b (c, inr h, e) =
    let whole = ap length (e ∙ form_1 c h.0) in
    let after_codec = length-append (varint c.codec) (varint c.hash_code ++ (varint (length c.digest) ++ c.digest)) in
    let after_hash_code = length-append (varint c.hash_code) (varint (length c.digest) ++ c.digest) in
    let after_length = length-append (varint (length c.digest)) c.digest in
    omega (arith, whole, after_codec, after_hash_code, after_length, varint_length c.codec, varint_length c.hash_code, one_byte (length c.digest) (omega (arith, h.3)), h.3)

pub cid_unique : (c d : CidParts) → AreCidParts c → AreCidParts d → cid_bytes c ≡ cid_bytes d → c ≡ d
cid_unique c d (inl p) (inl q) e =
    let s = sym (form_0 c p.0) ∙ e ∙ form_0 d q.0 in
    let same : c.digest ≡ d.digest = cc s in
    λ i. record { version = (p.0 ∙ sym q.0) i; codec = (p.1 ∙ sym q.1) i; hash_code = (p.2 ∙ sym q.2) i; digest = same i }
cid_unique c d (inl p) (inr q) e = let s = sym (form_0 c p.0) ∙ e ∙ form_1 d q.0 in absurd (cc s)
cid_unique c d (inr p) (inl q) e = let s = sym (form_1 c p.0) ∙ e ∙ form_0 d q.0 in absurd (cc s)
cid_unique c d (inr p) (inr q) e =
    let s = sym (form_1 c p.0) ∙ e ∙ form_1 d q.0 in
    let t : varint c.codec ++ (varint c.hash_code ++ (varint (length c.digest) ++ c.digest)) ≡ varint d.codec ++ (varint d.hash_code ++ (varint (length d.digest) ++ d.digest)) = cc s in
    let codec = varint_unique c.codec d.codec (varint c.hash_code ++ (varint (length c.digest) ++ c.digest)) (varint d.hash_code ++ (varint (length d.digest) ++ d.digest)) p.1 q.1 t in
    let hash_code = varint_unique c.hash_code d.hash_code (varint (length c.digest) ++ c.digest) (varint (length d.digest) ++ d.digest) p.2 q.2 codec.1 in
    let digest = varint_unique (length c.digest) (length d.digest) c.digest d.digest (omega arith) (omega arith) hash_code.1 in
    λ i. record { version = (p.0 ∙ sym q.0) i; codec = codec.0 i; hash_code = hash_code.0 i; digest = digest.1 i }

cid_cmp_total : IsTotalOrder cid_cmp
cid_cmp_total = then_total (on_total (λ c. c.version) nat_cmp_total) (then_total (on_total (λ c. c.codec) nat_cmp_total) (then_total (on_total (λ c. c.hash_code) nat_cmp_total) (on_total (λ c. c.digest) nat_list_cmp_total)))

pub is_same : (c d : CidParts) (b : Bool) → AreCidParts c → AreCidParts d → b ≡ eq_by_cmp cid_cmp c d → IsTrue b ↔ (cid_bytes c ≡ cid_bytes d)
is_same c d b p q e = (
  λ h. ap cid_bytes (same_cid c d (is_equal (cid_cmp c d) (sym e ∙ h))),
  λ h. e ∙ ap is_eq (ap (cid_cmp c) (sym (cid_unique c d p q h)) ∙ tied_itself cid_cmp_total c),
)
