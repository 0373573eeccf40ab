-- A CID at the front of bytes, and why it is not there.
use Rattle.std.proofs.Common.{◌≡◌, inl, inr, ℕ, ◌+◌, ◌^◌, ◌<◌, ◌≤◌, List, [], ◌∷◌, ◌++◌, take, drop, length, length-append, refl, sym, ap, ◌∙◌, arith, append-nil, length-take-le, take-append-drop}
use Rattle.ipld_tree.specs.Cid.{varint, CidParts, cid_parts, AreCidParts, cid_bytes}
use Rattle.ipld_tree.specs.CidFault.{HasVarints, IsFault, IsVarintFault}
use Rattle.ipld_tree.specs.declared.cid_error.CidError.{CidError}
use Rattle.ipld_tree.specs.declared.cid_error.CidError.TheVariants.{InvalidVarint, Truncated, TrailingBytes}
use Rattle.ipld_tree.proofs.CidFaults.{no_varint, one_varint_more, varint_fault, fault_no_cid, one_fault}
use Rattle.files_car.specs.Splits.{BeginsWithCid, BeginsNoCid}
use Rattle.files_car.proofs.Cars.{front_0, front_1}

-- the varint of the number, and then the rest
abbrev pub Read : List ℕ → ℕ → List ℕ → Type 0
Read b n rest = (n < 2 ^ 64) × (b ≡ varint n ++ rest)

-- ---- version 1

pub one_field : {s r : List ℕ} (j : ℕ) → Read s j r → HasVarints (0x01 ∷ s) (j ∷ []) r
one_field {s} {r} j h = one_varint_more j r (no_varint s) h

pub two_fields : {s r t : List ℕ} (j k : ℕ) → Read s j r → Read r k t → HasVarints (0x01 ∷ s) (j ∷ k ∷ []) t
two_fields {s} {r} {t} j k h i = one_varint_more k t (one_field j h) i

pub three_fields : {s r t d : List ℕ} (j k n : ℕ) → Read s j r → Read r k t → Read t n d → HasVarints (0x01 ∷ s) (j ∷ k ∷ n ∷ []) d
three_fields {s} {r} {t} {d} j k n h i l = one_varint_more n d (two_fields j k h i) l

-- bytes with a fault, other than bytes after a CID, do not begin with a CID
pub no_front : (e : CidError) (s : List ℕ) → (e ≡ TrailingBytes → ⊥) → IsFault e (0x01 ∷ s) → BeginsNoCid e (0x01 ∷ s)
no_front e s other fault = (λ c rest h. by c rest h.0 h.1, fault)
  where
    by : (c : CidParts) (rest : List ℕ) → AreCidParts c → 0x01 ∷ s ≡ cid_bytes c ++ rest → ⊥
    by c rest (inl p) is = let clash = is ∙ front_0 c rest p.0 in absurd (cc clash)
    by c [] (inr p) is = fault_no_cid e (0x01 ∷ s) fault (c, inr p, is ∙ append-nil (cid_bytes c))
    by c (x ∷ rest) (inr p) is =
        let parts = is ∙ front_1 c (x ∷ rest) p.0 in
        let codec : s ≡ varint c.codec ++ (varint c.hash_code ++ (varint (length c.digest) ++ (c.digest ++ x ∷ rest))) = cc parts in
        let fields = three_fields c.codec c.hash_code (length c.digest) (p.1, codec) (p.2, refl) (omega (arith, p.3), refl) in
        let trailing : IsFault TrailingBytes (0x01 ∷ s) = (c.codec, c.hash_code, length c.digest, c.digest ++ x ∷ rest, fields, (p.3, omega (arith, length-append c.digest (x ∷ rest)))) in
        other (one_fault e TrailingBytes (0x01 ∷ s) fault trailing)

-- bytes do not begin with a CID, if a varint in it is missing or wrong
pub no_varint_front : (e : CidError) (s fields rest : List ℕ) → HasVarints (0x01 ∷ s) fields rest → length fields ≤ 2 → IsVarintFault e rest → BeginsNoCid e (0x01 ∷ s)
no_varint_front e s fields rest h few f = no_front e s (λ is. not_trailing e f is) (varint_fault e (0x01 ∷ s) fields rest h few f)
  where
    not_trailing : (e : CidError) → IsVarintFault e rest → e ≡ TrailingBytes → ⊥
    not_trailing InvalidVarint f is = absurd (cc is)
    not_trailing Truncated f is = absurd (cc is)
    not_trailing _ f is = f

-- ---- version 0

pub front_of_digest : (b digest block : List ℕ) → (digest ≡ take 32 b) × (block ≡ drop 32 b) × (length block + 32 ≡ length b) → BeginsWithCid (0x12 ∷ 0x20 ∷ b) (cid_parts 0 0x70 0x12 digest) block
front_of_digest b digest block h = (inl (refl, refl, refl, long), ap (λ x. 0x12 ∷ 0x20 ∷ x) split ∙ sym (front_0 (cid_parts 0 0x70 0x12 digest) block refl))
  where
    long : length digest ≡ 32
    long = ap length h.0 ∙ length-take-le 32 b (omega (arith, h.2))

    split : b ≡ digest ++ block
    split = sym (take-append-drop 32 b) ∙ (λ i. sym h.0 i ++ sym h.1 i)
