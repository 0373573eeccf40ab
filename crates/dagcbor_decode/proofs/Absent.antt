-- Bytes that begin with no leaf, link or key; and what a part that is split off says of the whole.
use Rattle.std.proofs.Common.{◌≡◌, inl, inr, ℕ, ◌<◌, ◌≤◌, List, ◌∷◌, length, take, refl, sym, ap, ◌∙◌, subst, arith, Option, Some, None, MatchOption}
use Rattle.std.proofs.Math.Seq.{take-append_seam}
use Rattle.dagcbor_core.specs.Splits.{SplitsHead}
use Rattle.ipld_tree.specs.Cid.{IsCid}
use Rattle.ipld_tree.specs.Tree.{Tree, text, link, list, mapping, integer, any_need}
use Rattle.ipld_tree.specs.Spelling.{IsFront}
use Rattle.ipld_tree.proofs.Unique.{major, integer_major}
use Rattle.ipld_tree.proofs.Fronts.{is_bytes, is_text, is_link, is_simple}
use Rattle.dagcbor_decode.specs.Fronts.{SplitsPayload, SplitsText, SplitsCid, SplitsLeaf}
use Rattle.dagcbor_decode.proofs.Fronts.{text_opened, text_passed, bytes_opened, too_few, link_passed, link_opened, head_opened, simple_passed}

-- ---- texts and byte strings

-- a payload of n bytes is the one at the front
pub one_payload : (n : ℕ) (c s t x y : List ℕ) → SplitsPayload c n s x → SplitsPayload c n t y → s ≡ t
one_payload n c s t x y p q = sym (taken s x p) ∙ taken t y q
  where
    taken : (u z : List ℕ) → SplitsPayload c n u z → take n c ≡ u
    taken u z r = ap (λ k. take k c) (sym r.0) ∙ ap (take (length u)) r.1 ∙ take-append_seam u z

pub no_text : (n : ℕ) (b c rest : List ℕ) (t : Tree) → SplitsHead b 3 n c → ((s : List ℕ) → ¬ SplitsText c n s rest) → ¬ IsFront b t rest
no_text n b c rest t h none f =
    let l = is_text t (head_opened 3 n b c rest t h f).0 in
    none l.0 (text_opened 3 n b c l.0 rest h (subst (λ u. IsFront b u rest) l.1 f)).1

pub no_bytes : (n : ℕ) (b c rest : List ℕ) (t : Tree) → SplitsHead b 2 n c → length c < n → ¬ IsFront b t rest
no_bytes n b c rest t h few f =
    let l = is_bytes t (head_opened 2 n b c rest t h f).0 in
    too_few n c l.0 rest few (bytes_opened 2 n b c l.0 rest h (subst (λ u. IsFront b u rest) l.1 f)).1

-- ---- keys

pub no_key_of : (m n : ℕ) (b c : List ℕ) → SplitsHead b m n c → ¬ (m ≡ 3) → ¬ ((key : List ℕ) × (rest : List ℕ) × IsFront b (text key) rest)
no_key_of m n b c h other k = other (text_opened m n b c k.0 k.1 h k.2).0

pub key_judged : {P : Type 0} (key rest : P → List ℕ) (n : ℕ) (b c : List ℕ) (r : Option P) → SplitsHead b 3 n c → MatchOption r (¬ ((s : List ℕ) × (x : List ℕ) × SplitsText c n s x)) (λ p. SplitsText c n (key p) (rest p))
    → MatchOption r (¬ ((k : List ℕ) × (x : List ℕ) × IsFront b (text k) x)) (λ p. IsFront b (text (key p)) (rest p))
key_judged key rest n b c None h none = λ k. none (k.0, k.1, (text_opened 3 n b c k.0 k.1 h k.2).1)
key_judged key rest n b c (Some p) h k = text_passed n b c (key p) (rest p) h k

-- ---- CIDs

-- a byte string with another beginning, or no CID after its zero
pub no_cid_of : (m n : ℕ) (b c : List ℕ) → SplitsHead b m n c → ¬ (m ≡ 2) → ¬ ((cid : List ℕ) × (rest : List ℕ) × SplitsCid b cid rest)
no_cid_of m n b c h other k = other (bytes_opened m n b c (0x00 ∷ k.0) k.1 h k.2.1).0

pub no_cid_payload : (n : ℕ) (b c : List ℕ) → SplitsHead b 2 n c → length c < n → ¬ ((cid : List ℕ) × (rest : List ℕ) × SplitsCid b cid rest)
no_cid_payload n b c h few k = too_few n c (0x00 ∷ k.0) k.1 few (bytes_opened 2 n b c (0x00 ∷ k.0) k.1 h k.2.1).1

-- the payload is a zero and the CID
cid_is : (n : ℕ) (b c s rest : List ℕ) → SplitsHead b 2 n c → SplitsPayload c n s rest → (k : (cid : List ℕ) × (x : List ℕ) × SplitsCid b cid x) → s ≡ 0x00 ∷ k.0
cid_is n b c s rest h p k = one_payload n c s (0x00 ∷ k.0) rest k.1 p (bytes_opened 2 n b c (0x00 ∷ k.0) k.1 h k.2.1).1

pub no_zero_byte : (n : ℕ) (b c s rest : List ℕ) → SplitsHead b 2 n c → SplitsPayload c n s rest → length s ≡ 0 → ¬ ((cid : List ℕ) × (x : List ℕ) × SplitsCid b cid x)
no_zero_byte n b c s rest h p none k = omega (arith, none, ap length (cid_is n b c s rest h p k))

pub no_zero_at_front : (n first : ℕ) (b c s more rest : List ℕ) → SplitsHead b 2 n c → SplitsPayload c n s rest → s ≡ first ∷ more → ¬ (first ≡ 0) → ¬ ((cid : List ℕ) × (x : List ℕ) × SplitsCid b cid x)
no_zero_at_front n first b c s more rest h p is other k =
    let same : first ∷ more ≡ 0x00 ∷ k.0 = sym is ∙ cid_is n b c s rest h p k in
    other (cc same)

pub no_cid_there : (n first : ℕ) (b c s more rest : List ℕ) → SplitsHead b 2 n c → SplitsPayload c n s rest → s ≡ first ∷ more → ¬ IsCid more → ¬ ((cid : List ℕ) × (x : List ℕ) × SplitsCid b cid x)
no_cid_there n first b c s more rest h p is other k =
    let same : first ∷ more ≡ 0x00 ∷ k.0 = sym is ∙ cid_is n b c s rest h p k in
    let cid : k.0 ≡ more = cc same in
    other (subst IsCid cid k.2.0)

-- ---- links

no_link : (n : ℕ) (b c rest : List ℕ) (t : Tree) → SplitsHead b 6 n c → ((cid : List ℕ) → n ≡ 42 → ¬ SplitsCid c cid rest) → ¬ IsFront b t rest
no_link n b c rest t h none f =
    let l = is_link t (head_opened 6 n b c rest t h f).0 in
    let k = link_opened 6 n b c l.0 rest h (subst (λ u. IsFront b u rest) l.1 f) in
    none l.0 k.1 k.2

pub no_link_head : (m n : ℕ) (b c : List ℕ) → SplitsHead b m n c → ¬ (m ≡ 6) → ¬ ((cid : List ℕ) × (rest : List ℕ) × IsFront b (link cid) rest)
no_link_head m n b c h other k = other (link_opened m n b c k.0 k.1 h k.2).0

pub link_found : {R : Type 0} (now : R → List ℕ) (n : ℕ) (b c : List ℕ) (r : Option R) → SplitsHead b 6 n c
    → MatchOption r (n ≡ 42 → ¬ ((cid : List ℕ) × (rest : List ℕ) × SplitsCid c cid rest)) (λ x. (cid : List ℕ) × (n ≡ 42) × SplitsCid c cid (now x))
    → MatchOption r (¬ ((cid : List ℕ) × (rest : List ℕ) × IsFront b (link cid) rest)) (λ x. (cid : List ℕ) × IsFront b (link cid) (now x))
link_found now n b c None h none = λ k. let o = link_opened 6 n b c k.0 k.1 h k.2 in none o.1 (k.0, k.1, o.2)
link_found now n b c (Some x) h k = (k.0, link_passed b c k.0 (now x) (subst (λ m. SplitsHead b 6 m c) k.1 h) k.2)

-- ---- leaves

-- what is a list or a map takes two steps
pub parts_need : (t : Tree) → 4 ≤ major t → major t ≤ 5 → 2 ≤ any_need t
parts_need (list ts) low high = omega arith
parts_need (mapping es) low high = omega arith
parts_need (integer n) low high = absurd (omega (arith, low, integer_major n))
parts_need t low high = absurd (omega (arith, low, high))

pub no_leaf_of_parts : (m n : ℕ) (b c : List ℕ) → SplitsHead b m n c → 4 ≤ m → m ≤ 5 → ¬ ((rest : List ℕ) × SplitsLeaf b rest)
no_leaf_of_parts m n b c h low high k =
    let e = (head_opened m n b c k.0 k.1.0 h k.1.1).0 in
    omega (arith, k.1.2, parts_need k.1.0 (omega (arith, e, low)) (omega (arith, e, high)))

pub link_judged : {R : Type 0} (now : R → List ℕ) (n : ℕ) (b c : List ℕ) (r : Option R) → SplitsHead b 6 n c
    → MatchOption r (n ≡ 42 → ¬ ((cid : List ℕ) × (rest : List ℕ) × SplitsCid c cid rest)) (λ x. (cid : List ℕ) × (n ≡ 42) × SplitsCid c cid (now x))
    → MatchOption r (¬ ((rest : List ℕ) × SplitsLeaf b rest)) (λ x. SplitsLeaf b (now x))
link_judged now n b c None h none = λ k. no_link n b c k.0 k.1.0 h (λ cid e s. none e (cid, k.0, s)) k.1.1
link_judged now n b c (Some x) h k = (link k.0, link_passed b c k.0 (now x) (subst (λ m. SplitsHead b 6 m c) k.1 h) k.2, refl)

no_simple : (n : ℕ) (b c rest : List ℕ) (t : Tree) → SplitsHead b 7 n c → (20 ≤ n → ¬ (n ≤ 22)) → ¬ IsFront b t rest
no_simple n b c rest t h none f =
    let k = head_opened 7 n b c rest t h f in
    elim (is_simple t k.0) [
      | inl s ↦ none (omega (arith, k.1, s.1)) (omega (arith, k.1, s.1))
      | inr r ↦ elim r [
        | inl s ↦ none (omega (arith, k.1, s.1)) (omega (arith, k.1, s.1))
        | inr s ↦ none (omega (arith, k.1, s.1)) (omega (arith, k.1, s.1))
      ]
    ]

pub simple_judged : {R : Type 0} (now : R → List ℕ) (n : ℕ) (b c : List ℕ) (r : Option R) → SplitsHead b 7 n c → MatchOption r (20 ≤ n → ¬ (n ≤ 22)) (λ x. (20 ≤ n) × (n ≤ 22) × (now x ≡ c))
    → MatchOption r (¬ ((rest : List ℕ) × SplitsLeaf b rest)) (λ x. SplitsLeaf b (now x))
simple_judged now n b c None h none = λ k. no_simple n b c k.0 k.1.0 h none k.1.1
simple_judged now n b c (Some x) h k = subst (SplitsLeaf b) (sym k.2) (simple_passed n b c k.0 k.1 h)
