-- A CID has no fault, and other bytes have at most one.
use Rattle.std.proofs.Common.{◌≡◌, ◌⊎◌, inl, inr, ℕ, ◌^◌, ◌<◌, ◌≤◌, List, [], ◌∷◌, ◌++◌, length, refl, sym, ap, ◌∙◌, subst, arith, append_assoc, append-nil, length-append, flat_map}
use Rattle.std.proofs.lemmas.Bool.{cases_order}
use Rattle.std.specs.List.{AllByRecursion}
use Rattle.ipld_tree.specs.Cid.{varint, CidParts, IsVersion1, cid_bytes, IsCid}
use Rattle.ipld_tree.specs.CidFault.{IsCutVarint, IsNoVarint, IsVarintFault, HasVarints, AtVarint, AtDigest, IsFault}
use Rattle.ipld_tree.specs.declared.cid_error.CidError.{CidError}
use Rattle.ipld_tree.specs.declared.cid_error.CidError.TheVariants.{InvalidVersion, InvalidVarint, DigestTooLong, Truncated, TrailingBytes}
use Rattle.ipld_tree.proofs.Cids.{varint_unique, form_0, form_1}

abbrev Fit : List ℕ → Type 0
Fit = AllByRecursion (λ n. n < 2 ^ 64)

-- numbers that come before others are the first of them
record Begins (fs gs r s : List ℕ) : Type 0 where
  more : List ℕ
  are : gs ≡ fs ++ more
  fit : Fit more
  is : r ≡ flat_map varint more ++ s

begins : (fs gs r s : List ℕ) → Fit fs → Fit gs → length fs ≤ length gs → flat_map varint fs ++ r ≡ flat_map varint gs ++ s → Begins fs gs r s
begins [] gs r s f g h e = record { more = gs; are = refl; fit = g; is = e }
begins (m ∷ fs) [] r s f g h e = absurd (omega arith)
begins (m ∷ fs) (n ∷ gs) r s f g h e =
    let first = varint_unique m n (flat_map varint fs ++ r) (flat_map varint gs ++ s) f.0 g.0 (sym (append_assoc (varint m) (flat_map varint fs) r) ∙ e ∙ append_assoc (varint n) (flat_map varint gs) s) in
    let others = begins fs gs r s f.1 g.1 (omega arith) first.1 in
    record { more = others.more; are = λ i. sym first.0 i ∷ others.are i; fit = others.fit; is = others.is }

varints_begin : (b fs gs r s : List ℕ) → HasVarints b fs r → HasVarints b gs s → length fs ≤ length gs → Begins fs gs r s
varints_begin b fs gs r s h g few = let whole = sym h.is ∙ g.is in begins fs gs r s h.fit g.fit few (cc whole)

-- after the numbers of the shorter list, a varint follows
next_varint : (b fs gs r s : List ℕ) → HasVarints b fs r → HasVarints b gs s → length fs < length gs → (n : ℕ) × (z : List ℕ) × (n < 2 ^ 64) × (r ≡ varint n ++ z)
next_varint b fs gs r s h g few = by (varints_begin b fs gs r s h g (omega arith))
  where
    by : Begins fs gs r s → (n : ℕ) × (z : List ℕ) × (n < 2 ^ 64) × (r ≡ varint n ++ z)
    by w = first w.more w.are w.fit w.is
      where
        first : (more : List ℕ) → gs ≡ fs ++ more → Fit more → r ≡ flat_map varint more ++ s → (n : ℕ) × (z : List ℕ) × (n < 2 ^ 64) × (r ≡ varint n ++ z)
        first [] are fit is = absurd (omega (arith, ap length are, length-append fs []))
        first (n ∷ more) are fit is = (n, flat_map varint more ++ s, fit.0, is ∙ append_assoc (varint n) (flat_map varint more) s)

-- of two lists of three numbers, the last numbers and the rests are the same
same_varints : (b : List ℕ) (j k n l m o : ℕ) (r s : List ℕ) → HasVarints b (j ∷ k ∷ n ∷ []) r → HasVarints b (l ∷ m ∷ o ∷ []) s → (n ≡ o) × (r ≡ s)
same_varints b j k n l m o r s h g = by (varints_begin b (j ∷ k ∷ n ∷ []) (l ∷ m ∷ o ∷ []) r s h g (omega arith))
  where
    by : Begins (j ∷ k ∷ n ∷ []) (l ∷ m ∷ o ∷ []) r s → (n ≡ o) × (r ≡ s)
    by w = last w.more w.are w.is
      where
        last : (more : List ℕ) → l ∷ m ∷ o ∷ [] ≡ j ∷ k ∷ n ∷ more → r ≡ flat_map varint more ++ s → (n ≡ o) × (r ≡ s)
        last [] are is = (cc are, is)
        last (x ∷ more) are is = absurd (cc are)

-- ---- field by field

pub no_varint : (s : List ℕ) → HasVarints (0x01 ∷ s) [] s
no_varint s = record { fit = tt; is = refl }

pub one_varint_more : {b numbers r : List ℕ} (n : ℕ) (z : List ℕ) → HasVarints b numbers r → (n < 2 ^ 64) × (r ≡ varint n ++ z) → HasVarints b (numbers ++ n ∷ []) z
one_varint_more {b} {numbers} {r} n z h p = record {
  fit = fit numbers h.fit;
  is = h.is ∙ ap (λ s. 0x01 ∷ (flat_map varint numbers ++ s)) p.1 ∙ ap (λ s. 0x01 ∷ s) (sym (is numbers));
}
  where
    fit : (fs : List ℕ) → Fit fs → Fit (fs ++ n ∷ [])
    fit [] f = (p.0, tt)
    fit (m ∷ fs) f = (f.0, fit fs f.1)

    is : (fs : List ℕ) → flat_map varint (fs ++ n ∷ []) ++ z ≡ flat_map varint fs ++ (varint n ++ z)
    is [] = ap (λ v. v ++ z) (append-nil (varint n))
    is (m ∷ fs) = append_assoc (varint m) (flat_map varint (fs ++ n ∷ [])) z ∙ ap (λ s. varint m ++ s) (is fs) ∙ sym (append_assoc (varint m) (flat_map varint fs) (varint n ++ z))

-- ---- the varints of a CID of version 1

pub cid_varints : (b : List ℕ) (c : CidParts) → IsVersion1 c → b ≡ cid_bytes c → HasVarints b (c.codec ∷ c.hash_code ∷ length c.digest ∷ []) c.digest
cid_varints b c h e = record {
  fit = (h.1, (h.2, (omega (arith, h.3), tt)));
  is = e ∙ form_1 c h.0 ∙ ap (λ s. 0x01 ∷ s) (sym (flat c.codec c.hash_code (length c.digest) c.digest));
}
  where
    flat : (j k n : ℕ) (d : List ℕ) → flat_map varint (j ∷ k ∷ n ∷ []) ++ d ≡ varint j ++ (varint k ++ (varint n ++ d))
    flat j k n d =
        append_assoc (varint j) (varint k ++ (varint n ++ [])) d
        ∙ ap (λ s. varint j ++ s) (append_assoc (varint k) (varint n ++ []) d ∙ ap (λ s. varint k ++ s) (ap (λ v. v ++ d) (append-nil (varint n))))

abbrev IsWhole : ℕ → List ℕ → Type 0
IsWhole n rest = (n ≤ 64) × (n ≡ length rest)

abbrev IsForm0 : List ℕ → Type 0
IsForm0 b = (digest : List ℕ) × (length digest ≡ 32) × (b ≡ 0x12 ∷ 0x20 ∷ digest)

two_forms : (b : List ℕ) → IsCid b → IsForm0 b ⊎ AtDigest b IsWhole
two_forms b (c, inl v, e) = inl (c.digest, v.3, e ∙ form_0 c v.0)
two_forms b (c, inr v, e) = inr (c.codec, c.hash_code, length c.digest, c.digest, cid_varints b c v e, (v.3, refl))

-- ---- faults that the same bytes cannot have

not_form_0 : (b numbers rest : List ℕ) → HasVarints b numbers rest → IsForm0 b → ⊥
not_form_0 b numbers rest h v = let clash = sym h.is ∙ v.2 in absurd (cc clash)

not_other_version : (b numbers rest : List ℕ) → HasVarints b numbers rest → IsFault InvalidVersion b → ⊥
not_other_version b numbers rest h f = let first = sym h.is ∙ f.2 in f.3 (cc first)

not_empty : (b numbers rest : List ℕ) → HasVarints b numbers rest → b ≡ [] → ⊥
not_empty b numbers rest h e = let clash = sym h.is ∙ e in absurd (cc clash)

-- P refutes a varint
abbrev Refutes : (List ℕ → Type 0) → Type 0
Refutes P = (n : ℕ) (r z : List ℕ) → n < 2 ^ 64 → r ≡ varint n ++ z → P r → ⊥

varint_or_digest : (b : List ℕ) (P : List ℕ → Type 0) (Q : ℕ → List ℕ → Type 0) → Refutes P → AtVarint b P → AtDigest b Q → ⊥
varint_or_digest b P Q never h g = let n = next_varint b h.0 (g.0 ∷ g.1 ∷ g.2 ∷ []) h.1 g.3 h.2 g.4 (omega (arith, h.3)) in never n.0 h.1 n.1 n.2 n.3 h.4

one_digest : (b : List ℕ) (P Q : ℕ → List ℕ → Type 0) → ((n : ℕ) (r : List ℕ) → P n r → Q n r → ⊥) → AtDigest b P → AtDigest b Q → ⊥
one_digest b P Q never h g =
    let same = same_varints b h.0 h.1 h.2 g.0 g.1 g.2 h.3 g.3 h.4 g.4 in
    never g.2 g.3 (subst (λ n. P n g.3) same.0 (subst (λ r. P h.2 r) same.1 h.5)) g.5

none_refutes : Refutes IsNoVarint
none_refutes n r z fits e none = none n [] z fits (append-nil r ∙ e)

cut_refutes : Refutes IsCutVarint
cut_refutes n r z fits e cut =
    let whole : varint n ++ (z ++ cut.1) ≡ varint cut.0 ++ [] = sym (append_assoc (varint n) z cut.1) ∙ ap (λ b. b ++ cut.1) (sym e) ∙ cut.4 ∙ sym (append-nil (varint cut.0)) in
    let rest = (varint_unique n cut.0 (z ++ cut.1) [] fits cut.2 whole).1 in
    omega (arith, ap length rest, length-append z cut.1, cut.3)

none_or_cut : (b : List ℕ) → AtVarint b IsNoVarint → AtVarint b IsCutVarint → ⊥
none_or_cut b h g = elim (cases_order (length h.0) (length g.0)) [
  | inl e ↦ let w = varints_begin b h.0 g.0 h.1 g.1 h.2 g.2 (omega (arith, e)) in same (omega (arith, e)) w.more w.are w.is
  | inr s ↦ elim s [
    | inl less ↦ let n = next_varint b h.0 g.0 h.1 g.1 h.2 g.2 less in none_refutes n.0 h.1 n.1 n.2 n.3 h.4
    | inr more ↦ let n = next_varint b g.0 h.0 g.1 h.1 g.2 h.2 more in cut_refutes n.0 g.1 n.1 n.2 n.3 g.4
  ]
]
  where
    same : length h.0 ≡ length g.0 → (more : List ℕ) → g.0 ≡ h.0 ++ more → h.1 ≡ flat_map varint more ++ g.1 → ⊥
    same long [] are is = h.4 g.4.0 g.4.1 [] g.4.2 (ap (λ r. r ++ g.4.1) is ∙ g.4.4 ∙ sym (append-nil (varint g.4.0)))
    same long (n ∷ more) are is = absurd (omega (arith, long, ap length are, length-append h.0 (n ∷ more)))

abbrev IsTooLong : ℕ → List ℕ → Type 0
IsTooLong n rest = 64 < n

abbrev IsCutDigest : ℕ → List ℕ → Type 0
IsCutDigest n rest = (n ≤ 64) × (length rest < n)

abbrev HasMore : ℕ → List ℕ → Type 0
HasMore n rest = (n ≤ 64) × (n < length rest)

version_or_cut : (b : List ℕ) → IsFault InvalidVersion b → IsFault Truncated b → ⊥
version_or_cut b h (inl e) = let clash = sym h.2 ∙ e in absurd (cc clash)
version_or_cut b h (inr (inl g)) = not_other_version b g.0 g.1 g.2 h
version_or_cut b h (inr (inr g)) = not_other_version b _ g.3 g.4 h

varint_or_cut : (b : List ℕ) → AtVarint b IsNoVarint → IsFault Truncated b → ⊥
varint_or_cut b h (inl e) = not_empty b h.0 h.1 h.2 e
varint_or_cut b h (inr (inl g)) = none_or_cut b h g
varint_or_cut b h (inr (inr g)) = varint_or_digest b IsNoVarint IsCutDigest none_refutes h g

digest_or_cut : (b : List ℕ) (P : ℕ → List ℕ → Type 0) → ((n : ℕ) (r : List ℕ) → P n r → IsCutDigest n r → ⊥) → AtDigest b P → IsFault Truncated b → ⊥
digest_or_cut b P never h (inl e) = not_empty b _ h.3 h.4 e
digest_or_cut b P never h (inr (inl g)) = varint_or_digest b IsCutVarint P cut_refutes g h
digest_or_cut b P never h (inr (inr g)) = one_digest b P IsCutDigest never h g

-- ---- the faults

pub varint_fault : (e : CidError) (b numbers rest : List ℕ) → HasVarints b numbers rest → length numbers ≤ 2 → IsVarintFault e rest → IsFault e b
varint_fault InvalidVarint b numbers rest h few f = (numbers, rest, h, few, f)
varint_fault Truncated b numbers rest h few f = inr (inl (numbers, rest, h, few, f))
varint_fault _ b numbers rest h few f = absurd f

-- a CID has no fault
pub fault_no_cid : (e : CidError) (b : List ℕ) → IsFault e b → IsCid b → ⊥
fault_no_cid e b f c = by e f (two_forms b c)
  where
    by : (e : CidError) → IsFault e b → IsForm0 b ⊎ AtDigest b IsWhole → ⊥
    by InvalidVersion f (inl v) = f.4 v.0 v.1 v.2
    by InvalidVersion f (inr w) = not_other_version b _ w.3 w.4 f
    by InvalidVarint f (inl v) = not_form_0 b f.0 f.1 f.2 v
    by InvalidVarint f (inr w) = varint_or_digest b IsNoVarint IsWhole none_refutes f w
    by DigestTooLong f (inl v) = not_form_0 b _ f.3 f.4 v
    by DigestTooLong f (inr w) = one_digest b IsTooLong IsWhole (λ n r p q. omega (arith, p, q)) f w
    by Truncated (inl e) (inl v) = let clash = sym e ∙ v.2 in absurd (cc clash)
    by Truncated (inr (inl f)) (inl v) = not_form_0 b f.0 f.1 f.2 v
    by Truncated (inr (inr f)) (inl v) = not_form_0 b _ f.3 f.4 v
    by Truncated f (inr w) = digest_or_cut b IsWhole (λ n r p q. omega (arith, p, q)) w f
    by TrailingBytes f (inl v) = not_form_0 b _ f.3 f.4 v
    by TrailingBytes f (inr w) = one_digest b HasMore IsWhole (λ n r p q. omega (arith, p, q)) f w

-- bytes have at most one fault
pub one_fault : (e f : CidError) (b : List ℕ) → IsFault e b → IsFault f b → e ≡ f
one_fault InvalidVersion InvalidVersion b h g = refl
one_fault InvalidVersion InvalidVarint b h g = absurd (not_other_version b g.0 g.1 g.2 h)
one_fault InvalidVersion DigestTooLong b h g = absurd (not_other_version b _ g.3 g.4 h)
one_fault InvalidVersion Truncated b h g = absurd (version_or_cut b h g)
one_fault InvalidVersion TrailingBytes b h g = absurd (not_other_version b _ g.3 g.4 h)
one_fault InvalidVarint InvalidVersion b h g = absurd (not_other_version b h.0 h.1 h.2 g)
one_fault InvalidVarint InvalidVarint b h g = refl
one_fault InvalidVarint DigestTooLong b h g = absurd (varint_or_digest b IsNoVarint IsTooLong none_refutes h g)
one_fault InvalidVarint Truncated b h g = absurd (varint_or_cut b h g)
one_fault InvalidVarint TrailingBytes b h g = absurd (varint_or_digest b IsNoVarint HasMore none_refutes h g)
one_fault DigestTooLong InvalidVersion b h g = absurd (not_other_version b _ h.3 h.4 g)
one_fault DigestTooLong InvalidVarint b h g = absurd (varint_or_digest b IsNoVarint IsTooLong none_refutes g h)
one_fault DigestTooLong DigestTooLong b h g = refl
one_fault DigestTooLong Truncated b h g = absurd (digest_or_cut b IsTooLong (λ n r p q. omega (arith, p, q)) h g)
one_fault DigestTooLong TrailingBytes b h g = absurd (one_digest b IsTooLong HasMore (λ n r p q. omega (arith, p, q)) h g)
one_fault Truncated InvalidVersion b h g = absurd (version_or_cut b g h)
one_fault Truncated InvalidVarint b h g = absurd (varint_or_cut b g h)
one_fault Truncated DigestTooLong b h g = absurd (digest_or_cut b IsTooLong (λ n r p q. omega (arith, p, q)) g h)
one_fault Truncated Truncated b h g = refl
one_fault Truncated TrailingBytes b h g = absurd (digest_or_cut b HasMore (λ n r p q. omega (arith, p, q)) g h)
one_fault TrailingBytes InvalidVersion b h g = absurd (not_other_version b _ h.3 h.4 g)
one_fault TrailingBytes InvalidVarint b h g = absurd (varint_or_digest b IsNoVarint HasMore none_refutes g h)
one_fault TrailingBytes DigestTooLong b h g = absurd (one_digest b IsTooLong HasMore (λ n r p q. omega (arith, p, q)) g h)
one_fault TrailingBytes Truncated b h g = absurd (digest_or_cut b HasMore (λ n r p q. omega (arith, p, q)) h g)
one_fault TrailingBytes TrailingBytes b h g = refl
