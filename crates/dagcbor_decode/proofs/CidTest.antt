-- The test of CIDs is right.
use Rattle.std.proofs.Common.{◌≡◌, ◌⊎◌, inl, inr, ℕ, zero, suc, ◌+◌, ◌-◌, ◌*◌, ◌/◌, ◌%◌, ◌^◌, ◌<◌, ◌≤◌, List, ◌∷◌, ◌++◌, length, drop, IsTrue, ◌↔◌, refl, sym, ap, ◌∙◌, subst, arith, lt-ltb, le-ltb, length-drop, pow-suc}
use Rattle.std.specs.Bool.{Decides}
use Rattle.std.proofs.lemmas.Bool.{cases_lt}
use Rattle.std.proofs.lemmas.Bool.Decides.{Decides-eqb, Decides-ltb, Decides-and, Decides-or, Decides-like}
use Rattle.std.proofs.lemmas.Slice.Eq.{bytes_eq-Decides}
use Rattle.std.proofs.lemmas.Nat.{div_below}
use Rattle.ipld_tree.specs.Cid.{varint, varint_groups, CidParts, cid_parts, cid_bytes, IsCid}
use Rattle.ipld_tree.proofs.Cids.{one_group, more_groups, form_0, form_1}
use Rattle.dagcbor_decode.specs.CidTest.{groups, parts_1, is_cid}

groups_front : (k n : ℕ) (rest : List ℕ) → n < 128 ^ k → groups k (varint_groups k n ++ rest) ≡ (n, rest)
groups_front zero n rest h = ap (λ m. (m, rest)) (omega arith)
groups_front (suc k) n rest h = elim (cases_lt n 128) [
  | inl few ↦ ap (λ b. groups (suc k) (b ++ rest)) (one_group k n few) ∙ rw (lt-ltb n 128 few) refl
  | inr more ↦
      let g = groups_front k (n / 128) rest (div_below n 128 (128 ^ k) (omega arith) (subst (λ b. n < b) (pow-suc 128 k) h)) in
      ap (λ b. groups (suc k) (b ++ rest)) (more_groups k n more)
      ∙ rw (le-ltb (128 + n % 128) 128 (omega arith)) (ap (λ r. (((128 + n % 128) - 128) + 128 * r.0, r.1)) g ∙ ap (λ m. (m, rest)) (omega arith))
]

varint_front : (n : ℕ) (rest : List ℕ) → n < 2 ^ 64 → groups 10 (varint n ++ rest) ≡ (n, rest)
unfolding varint
varint_front n rest h = groups_front 10 n rest (omega arith)

parts_front : (codec hash_code : ℕ) (digest : List ℕ) → codec < 2 ^ 64 → hash_code < 2 ^ 64 → length digest ≤ 64
    → parts_1 (varint codec ++ (varint hash_code ++ (varint (length digest) ++ digest))) ≡ cid_parts 1 codec hash_code digest
parts_front codec hash_code digest c h d =
    ap (λ r. cid_parts 1 r.0 (groups 10 r.1).0 (groups 10 (groups 10 r.1).1).1) (varint_front codec (varint hash_code ++ (varint (length digest) ++ digest)) c)
    ∙ ap (λ r. cid_parts 1 codec r.0 (groups 10 r.1).1) (varint_front hash_code (varint (length digest) ++ digest) h)
    ∙ ap (λ r. cid_parts 1 codec hash_code r.1) (varint_front (length digest) digest (omega arith))

abbrev Version0 : List ℕ → Type 0
Version0 b = (length b ≡ 34) × (cid_bytes (cid_parts 0 0x70 0x12 (drop 2 b)) ≡ b)

abbrev Fits1 : CidParts → Type 0
Fits1 c = (c.codec < 2 ^ 64) × ((c.hash_code < 2 ^ 64) × (length c.digest < 65))

abbrev Version1 : List ℕ → Type 0
Version1 b = Fits1 (parts_1 (drop 1 b)) × (cid_bytes (parts_1 (drop 1 b)) ≡ b)

tests : (b : List ℕ) → Decides (is_cid b) (Version0 b ⊎ Version1 b)
unfolding is_cid
tests b = Decides-or _ _ (Decides-and _ _ (Decides-eqb (length b) 34) (bytes_eq-Decides _ b))
    (Decides-and _ _ (Decides-and _ _ (Decides-ltb _ (2 ^ 64)) (Decides-and _ _ (Decides-ltb _ (2 ^ 64)) (Decides-ltb _ 65))) (bytes_eq-Decides _ b))

is_one : (b : List ℕ) → Version0 b ⊎ Version1 b → IsCid b
is_one b (inl h) = (cid_parts 0 0x70 0x12 (drop 2 b), inl (refl, refl, refl, omega (arith, length-drop 2 b, h.0)), sym h.1)
is_one b (inr h) = (parts_1 (drop 1 b), inr (refl, h.0.0, h.0.1.0, omega (arith, h.0.1.1)), sym h.1)

passes : (b : List ℕ) → IsCid b → Version0 b ⊎ Version1 b
passes b (c, inl h, e) =
    let f : b ≡ 0x12 ∷ 0x20 ∷ c.digest = e ∙ form_0 c h.0 in
    inl (ap length f ∙ omega (arith, h.3), rw f refl)
passes b (c, inr h, e) =
    let f : b ≡ 0x01 ∷ (varint c.codec ++ (varint c.hash_code ++ (varint (length c.digest) ++ c.digest))) = e ∙ form_1 c h.0 in
    let p : parts_1 (drop 1 b) ≡ cid_parts 1 c.codec c.hash_code c.digest = ap (λ x. parts_1 (drop 1 x)) f ∙ parts_front c.codec c.hash_code c.digest h.1 h.2 h.3 in
    inr (subst Fits1 (sym p) (h.1, (h.2, omega (arith, h.3))), ap cid_bytes p ∙ form_1 (cid_parts 1 c.codec c.hash_code c.digest) refl ∙ sym f)

-- The test accepts exactly the CIDs.
pub cid_tested : (s : List ℕ) → IsTrue (is_cid s) ↔ IsCid s
unfolding is_cid
cid_tested s = Decides-like (is_cid s) (is_one s) (passes s) (tests s)
