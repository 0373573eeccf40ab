-- What is split off at the front of bytes is an item, a text or a CID.
use Rattle.std.proofs.Common.{◌≡◌, inl, inr, ℕ, ◌<◌, ◌≤◌, pos, negsuc, List, ◌∷◌, ◌++◌, length, true, false, refl, sym, ap, ◌∙◌, subst, arith, append_assoc, length-append, All, IsUtf8, Bool, IsTrue, ◌↔◌}
use Rattle.std.specs.List.{list_all}
use Rattle.std.proofs.lemmas.Bool.{cases_lt}
use Rattle.std.proofs.lemmas.List.Sums.{AllPass-from_list_all}
use Rattle.std.proofs.lemmas.Bool.Decides.{nat_tests}
use Rattle.std.specs.Char.{is_ascii}
use Rattle.std.specs.Str.{is_utf8}
use Rattle.std.proofs.lemmas.Str.{IsUtf8-from_ascii, IsUtf8-from_is_utf8, is_utf8-from_IsUtf8}
use Rattle.std.proofs.lemmas.Str.Ascii.{IsAscii-from_all}
use Rattle.dagcbor_core.specs.Head.{head}
use Rattle.dagcbor_core.specs.Splits.{SplitsHead, BeginsWithHead}
use Rattle.ipld_tree.specs.Cid.{varint, cid_parts, IsCid}
use Rattle.ipld_tree.proofs.Cids.{one_group, form_1}
use Rattle.ipld_tree.specs.Tree.{Tree, null, boolean, integer, text, bytes, link}
use Rattle.ipld_tree.specs.Spelling.{IsFront}
use Rattle.ipld_tree.proofs.Unique.{major, argument, payload, argument_fits}
use Rattle.ipld_tree.proofs.Fronts.{by_head, front_head, major_le}
use Rattle.dagcbor_decode.specs.Fronts.{SplitsPayload, SplitsText, SplitsCid, SplitsLeaf}

head_exact : (m n : ℕ) (b c s rest : List ℕ) → SplitsHead b m n c → SplitsPayload c n s rest → b ≡ (head m (length s) ++ s) ++ rest
head_exact m n b c s rest h p =
    h.2 ∙ ap (λ x. head m n ++ x) p.1 ∙ ap (λ k. head m k ++ (s ++ rest)) (sym p.0) ∙ sym (append_assoc (head m (length s)) s rest)

pub text_passed : (n : ℕ) (b c s rest : List ℕ) → SplitsHead b 3 n c → SplitsText c n s rest → IsFront b (text s) rest
text_passed n b c s rest h p = record { well_formed = p.0; spellable = omega (arith, p.1.0, h.1); is = head_exact 3 n b c s rest h p.1 }

pub bytes_passed : (n : ℕ) (b c s rest : List ℕ) → SplitsHead b 2 n c → SplitsPayload c n s rest → IsFront b (bytes s) rest
bytes_passed n b c s rest h p = record { well_formed = tt; spellable = omega (arith, p.0, h.1); is = head_exact 2 n b c s rest h p }

-- a CID with fields of one byte each
pub plain_cid : (b digest : List ℕ) (codec hash_code count : ℕ) → b ≡ 0x01 ∷ codec ∷ hash_code ∷ count ∷ digest → codec < 128 → hash_code < 128 → count ≤ 64 → length digest ≡ count → IsCid b
unfolding varint
plain_cid b digest codec hash_code count e c h few long =
    let parts = cid_parts 1 codec hash_code digest in
    let fields : varint codec ++ (varint hash_code ++ (varint (length digest) ++ digest)) ≡ codec ∷ hash_code ∷ count ∷ digest =
    ap (λ x. x ++ (varint hash_code ++ (varint (length digest) ++ digest))) (one_group 9 codec c)
    ∙ ap (λ x. codec ∷ (x ++ (varint (length digest) ++ digest))) (one_group 9 hash_code h)
    ∙ ap (λ m. codec ∷ hash_code ∷ (varint m ++ digest)) long
    ∙ ap (λ x. codec ∷ hash_code ∷ (x ++ digest)) (one_group 9 count (omega (arith, few))) in
    (parts, inr (refl, omega (arith, c), omega (arith, h), omega (arith, long, few)), e ∙ ap (λ x. 0x01 ∷ x) (sym fields) ∙ sym (form_1 parts refl))

pub cid_passed : (n : ℕ) (b c s cid rest : List ℕ) → SplitsHead b 2 n c → SplitsPayload c n s rest → s ≡ 0x00 ∷ cid → IsCid cid → SplitsCid b cid rest
cid_passed n b c s cid rest h p is valid = (valid, subst (λ x. IsFront b (bytes x) rest) is (bytes_passed n b c s rest h p))

pub link_passed : (b c cid rest : List ℕ) → SplitsHead b 6 42 c → SplitsCid c cid rest → IsFront b (link cid) rest
unfolding head
link_passed b c cid rest h k = record { well_formed = k.0; spellable = omega (arith, k.1.spellable); is = h.2 ∙ ap (λ x. 0xd8 ∷ 0x2a ∷ x) k.1.is }

pub natural_passed : (n : ℕ) (b c : List ℕ) → SplitsHead b 0 n c → IsFront b (integer (pos n)) c
natural_passed n b c h = record { well_formed = tt; spellable = h.1; is = h.2 }

pub negative_passed : (n : ℕ) (b c : List ℕ) → SplitsHead b 1 n c → IsFront b (integer (negsuc n)) c
negative_passed n b c h = record { well_formed = tt; spellable = h.1; is = h.2 }

pub simple_passed : (n : ℕ) (b c : List ℕ) → 20 ≤ n → n ≤ 22 → SplitsHead b 7 n c → SplitsLeaf b c
unfolding head
simple_passed n b c low high h = elim (cases_lt n 21) [
  | inl few ↦ (boolean false, record { well_formed = tt; spellable = tt; is = h.2 ∙ ap (λ k. head 7 k ++ c) {x = n} {y = 20} (omega (arith, low, few)) }, refl)
  | inr more ↦ elim (cases_lt n 22) [
    | inl few ↦ (boolean true, record { well_formed = tt; spellable = tt; is = h.2 ∙ ap (λ k. head 7 k ++ c) {x = n} {y = 21} (omega (arith, more, few)) }, refl)
    | inr all ↦ (null, record { well_formed = tt; spellable = tt; is = h.2 ∙ ap (λ k. head 7 k ++ c) {x = n} {y = 22} (omega (arith, high, all)) }, refl)
  ]
]

pub plain_text : (b : List ℕ) → list_all is_ascii b ≡ true → IsUtf8 b
plain_text b h = IsUtf8-from_ascii b (IsAscii-from_all b (all_plain b h))
  where
    all_plain : (b : List ℕ) → list_all is_ascii b ≡ true → All (λ x. x < 128) b
    all_plain b h k d l = grind (arith, nat_tests, AllPass-from_list_all is_ascii b h k d l)

-- ---- by its head

pub no_front : (b rest : List ℕ) (t : Tree) → ¬ BeginsWithHead b → ¬ IsFront b t rest
no_front b rest t none f = none (major t, argument t, payload t ++ rest, (omega (arith, major_le t), argument_fits t f.spellable, front_head f))

pub bytes_opened : (m n : ℕ) (b c s rest : List ℕ) → SplitsHead b m n c → IsFront b (bytes s) rest → (m ≡ 2) × SplitsPayload c n s rest
bytes_opened m n b c s rest h f = let k = by_head m n b c rest (bytes s) h.1 f h.2 in (sym k.0, (k.1, sym k.2))

-- the CID is after the tag
pub link_opened : (m n : ℕ) (b c cid rest : List ℕ) → SplitsHead b m n c → IsFront b (link cid) rest → (m ≡ 6) × (n ≡ 42) × SplitsCid c cid rest
link_opened m n b c cid rest h f =
    let k = by_head m n b c rest (link cid) h.1 f h.2 in
    (sym k.0, sym k.1, (f.well_formed, record { well_formed = tt; spellable = omega (arith, f.spellable); is = sym k.2 }))

-- the tree whose front has this head
pub head_opened : (m n : ℕ) (b c rest : List ℕ) (t : Tree) → SplitsHead b m n c → IsFront b t rest → (major t ≡ m) × (argument t ≡ n) × (payload t ++ rest ≡ c)
head_opened m n b c rest t h f = by_head m n b c rest t h.1 f h.2

-- the payload is after the head
pub text_opened : (m n : ℕ) (b c s rest : List ℕ) → SplitsHead b m n c → IsFront b (text s) rest → (m ≡ 3) × SplitsText c n s rest
text_opened m n b c s rest h f = let k = by_head m n b c rest (text s) h.1 f h.2 in (sym k.0, (f.well_formed, (k.1, sym k.2)))

pub too_few : (n : ℕ) (c s rest : List ℕ) → length c < n → ¬ SplitsPayload c n s rest
too_few n c s rest few p = omega (arith, few, p.0, ap length p.1, length-append s rest)

-- ---- tests

-- two tests of one thing
pub same_test : (a b : Bool) (P : Type 0) → IsTrue a ↔ P → IsTrue b ↔ P → a ≡ b
same_test true true P h k = refl
same_test false false P h k = refl
same_test true false P h k = cc (k.1 (h.0 refl))
same_test false true P h k = cc (h.1 (k.0 refl))

pub text_tested : (a : Bool) (b : List ℕ) → IsTrue a ↔ IsUtf8 b → a ≡ is_utf8 b
text_tested a b h = same_test a (is_utf8 b) (IsUtf8 b) h (IsUtf8-from_is_utf8 b, is_utf8-from_IsUtf8 b)
