-- Bytes of which no front or key is read, and what that says of the item.
use Rattle.std.proofs.Common.{◌≡◌, ◌≢◌, ◌⊎◌, inl, inr, ℕ, suc, zero, ◌/◌, ◌%◌, ◌==◌, ◌-◌, ◌<◌, ◌≤◌, List, [], ◌∷◌, length, Bool, true, false, if◌then◌else◌, Option, None, codes, refl, sym, ap, ◌∙◌, arith}
use Rattle.std.proofs.lemmas.Bool.Decides.{eqb_tells}
use Rattle.dagcbor_core.specs.Splits.{SplitsHead, BeginsWithHead}
use Rattle.dagcbor_core.proofs.Heads.{head_unique}
use Rattle.ipld_tree.specs.Tree.{Tree, text, list, mapping, any_need}
use Rattle.ipld_tree.specs.Spelling.{IsFront}
use Rattle.ipld_tree.proofs.Unique.{major}
use Rattle.ipld_tree.proofs.Fronts.{front_unique}
use Rattle.dagcbor_decode.specs.Fronts.{SplitsLeaf}
use Rattle.dagcbor_decode.specs.Decode.{Decoded, Why, got, refused, indefinite_size, after, argument_of, key_of, follows, items_of, entries_of, leaf_of, item_of, list_of, map_of}
use Rattle.dagcbor_decode.specs.Told.{skim, IsRefused, count_of, front_of}
use Rattle.dagcbor_decode.proofs.HeadLaws.{AreBytes, bytes_of_rest, head_got, if_not}
use Rattle.dagcbor_decode.proofs.Parts.{skim_no, unskimmed}
use Rattle.dagcbor_decode.proofs.Sound.{key_got, leaf_got}
use Rattle.dagcbor_decode.proofs.Absent.{parts_need}
use Rattle.dagcbor_decode.proofs.Fronts.{no_front, head_opened}

-- bytes of which nothing is read are refused
pub refused_unless : {A : Type 0} (q : Decoded A) → ((a : A) (rest : List ℕ) → ¬ (q ≡ got a rest)) → IsRefused q
refused_unless (got a rest) none = none a rest refl
refused_unless (refused why left) none = tt

-- ---- what is at the front if a front is read

-- the head of a list or a map for which steps are left
abbrev IsOpened : ℕ → List ℕ → Type 0
IsOpened steps b = (m n : ℕ) × (c : List ℕ) × SplitsHead b m n c × ((m ≡ 4) ⊎ (m ≡ 5)) × (2 ≤ steps)

-- an item within the steps
abbrev IsWithin : ℕ → List ℕ → Type 0
IsWithin steps b = (u : Tree) × (rest : List ℕ) × IsFront b u rest × (any_need u ≤ steps)

counted : (name : List ℕ) (steps first : ℕ) (b rest : List ℕ) → AreBytes b → (first / 32 ≡ 4) ⊎ (first / 32 ≡ 5) → skim (count_of name steps first b) ≡ got tt rest → IsOpened (suc steps) (first ∷ b)
counted name zero first b rest r m e = absurd (cc e)
counted name (suc steps) first b rest r m e =
    let q = unskimmed (argument_of name first b) rest e in
    let h = head_got name first q.0 b rest r q.1 in
    (first / 32, q.0, rest, (elim m [ inl a ↦ omega (arith, a) | inr a ↦ omega (arith, a) ], h.0, h.1), m, omega arith)

front_got : (steps : ℕ) (b rest : List ℕ) → AreBytes b → front_of steps b ≡ got tt rest → IsWithin steps b ⊎ IsOpened steps b
front_got zero b rest r e = absurd (cc e)
front_got (suc steps) [] rest r e = absurd (cc e)
front_got (suc steps) (first ∷ b) rest r e =
    let following = bytes_of_rest (first ∷ []) b r in
    let c = if_not (first % 32 == 31) (refused indefinite_size (length b))
    (if first / 32 == 4 then skim (count_of (codes "array") steps first b) else if first / 32 == 5 then skim (count_of (codes "map") steps first b) else skim (leaf_of first b)) tt rest (λ x. absurd (cc x)) e in
    elim (eqb_tells (first / 32) 4) [
      | inl h4 ↦ inr (counted (codes "array") steps first b rest following (inl h4.1) (rw h4.0 at c.1))
      | inr h4 ↦ elim (eqb_tells (first / 32) 5) [
        | inl h5 ↦ inr (counted (codes "map") steps first b rest following (inr h5.1) (rw (h4.0, h5.0) at c.1))
        | inr h5 ↦
            let q = unskimmed (leaf_of first b) rest (rw (h4.0, h5.0) at c.1) in
            let k = leaf_got first b q.0 rest following q.1 in
            inl (q.0, rest, k.0, omega (arith, k.1))
      ]
    ]

front_refused : (steps : ℕ) (b : List ℕ) → AreBytes b → ¬ IsWithin steps b → ¬ IsOpened steps b → IsRefused (front_of steps b)
front_refused steps b r none no_part = refused_unless (front_of steps b) (λ u rest e. elim (front_got steps b rest r e) [ inl k ↦ none k | inr k ↦ no_part k ])

-- ---- if the judge splits off nothing

pub no_head_there : (steps : ℕ) (b : List ℕ) → AreBytes b → ¬ BeginsWithHead b → IsRefused (front_of steps b)
no_head_there steps b r none = front_refused steps b r (λ k. no_front b k.1 k.0 none k.2) (λ k. none (k.0, k.1, k.2, k.3))

pub no_steps : (steps : ℕ) (b : List ℕ) → steps < 1 → IsRefused (front_of steps b)
no_steps zero b few = tt
no_steps (suc steps) b few = absurd (omega (arith, few))

pub no_list_step : (n steps : ℕ) (b c : List ℕ) → AreBytes b → SplitsHead b 4 n c → steps < 2 → IsRefused (front_of steps b)
no_list_step n steps b c r h few = front_refused steps b r (λ k. omega (arith, few, k.3, parts_need k.0 (omega (arith, (head_opened 4 n b c k.1 k.0 h k.2).0)) (omega (arith, (head_opened 4 n b c k.1 k.0 h k.2).0)))) (λ k. omega (arith, few, k.5))

pub no_map_step : (n steps : ℕ) (b c : List ℕ) → AreBytes b → SplitsHead b 5 n c → steps < 2 → IsRefused (front_of steps b)
no_map_step n steps b c r h few = front_refused steps b r (λ k. omega (arith, few, k.3, parts_need k.0 (omega (arith, (head_opened 5 n b c k.1 k.0 h k.2).0)) (omega (arith, (head_opened 5 n b c k.1 k.0 h k.2).0)))) (λ k. omega (arith, few, k.5))

-- what is neither a list nor a map takes one step
leaf_need : (t : Tree) → ¬ (major t ≡ 4) → ¬ (major t ≡ 5) → any_need t ≡ 1
leaf_need (list ts) a b = absurd (a refl)
leaf_need (mapping es) a b = absurd (b refl)
leaf_need _ a b = refl

-- bytes begin with at most one head
one_major : (m n m' n' : ℕ) (b c c' : List ℕ) → SplitsHead b m n c → SplitsHead b m' n' c' → m' ≡ m
one_major m n m' n' b c c' h k = (head_unique m' n' m n c' c k.1 h.1 (sym k.2 ∙ h.2)).0

pub no_leaf : (m n steps : ℕ) (b c : List ℕ) → AreBytes b → SplitsHead b m n c → m ≢ 4 → m ≢ 5 → ¬ ((rest : List ℕ) × SplitsLeaf b rest) → IsRefused (front_of steps b)
no_leaf m n steps b c r h no_list no_map none = front_refused steps b r
    (λ k. let e = (head_opened m n b c k.1 k.0 h k.2).0 in none (k.1, (k.0, k.2, leaf_need k.0 (λ is. no_list (sym e ∙ is)) (λ is. no_map (sym e ∙ is)))))
    (λ k. let e = one_major m n k.0 k.1 b c k.2 h k.3 in elim k.4 [ inl a ↦ no_list (sym e ∙ a) | inr a ↦ no_map (sym e ∙ a) ])

-- ---- keys

pub no_key_in_order : (previous : Option (List ℕ)) (b key rest : List ℕ) → AreBytes b → IsFront b (text key) rest → follows previous key ≡ false → IsRefused (key_of previous b)
no_key_in_order previous b key rest r h breaks = refused_unless (key_of previous b) (λ k x e.
    let g = key_got previous b k x r e in
    let u = front_unique b x rest (text k) (text key) g.0 h in
    let same : k ≡ key = cc u.0 in
    cc (ap (follows previous) same, g.1, breaks))

pub no_next_key : (previous : Option (List ℕ)) (b : List ℕ) → AreBytes b → ¬ ((key : List ℕ) × (rest : List ℕ) × IsFront b (text key) rest) → IsRefused (key_of previous b)
no_next_key previous b r none = refused_unless (key_of previous b) (λ key rest e. none (key, rest, (key_got previous b key rest r e).0))

-- ---- a front, by its first byte

other : (m n : ℕ) → m ≢ n → (m == n) ≡ false
other m n h = elim (eqb_tells m n) [ inl a ↦ absurd (h a.1) | inr a ↦ a.0 ]

pub list_front : (steps first : ℕ) (b more : List ℕ) → steps ≢ 0 → b ≡ first ∷ more → first % 32 ≢ 31 → first / 32 ≡ 4 → skim (count_of (codes "array") (steps - 1) first more) ≡ front_of steps b
list_front zero first b more some is i m = absurd (some refl)
list_front (suc steps) first b more some is i m =
    let e : suc steps - 1 ≡ steps = omega arith in
    ap (λ s. skim (count_of (codes "array") s first more)) e ∙ sym (ap (front_of (suc steps)) is ∙ rw (other (first % 32) 31 i, m) refl)

pub map_front : (steps first : ℕ) (b more : List ℕ) → steps ≢ 0 → b ≡ first ∷ more → first % 32 ≢ 31 → first / 32 ≡ 5 → skim (count_of (codes "map") (steps - 1) first more) ≡ front_of steps b
map_front zero first b more some is i m = absurd (some refl)
map_front (suc steps) first b more some is i m =
    let e : suc steps - 1 ≡ steps = omega arith in
    ap (λ s. skim (count_of (codes "map") s first more)) e ∙ sym (ap (front_of (suc steps)) is ∙ rw (other (first % 32) 31 i, m) refl)

pub leaf_front : (steps first : ℕ) (b more : List ℕ) → steps ≢ 0 → b ≡ first ∷ more → first % 32 ≢ 31 → first / 32 ≢ 4 → first / 32 ≢ 5 → skim (leaf_of first more) ≡ front_of steps b
leaf_front zero first b more some is i n4 n5 = absurd (some refl)
leaf_front (suc steps) first b more some is i n4 n5 = sym (ap (front_of (suc steps)) is ∙ rw (other (first % 32) 31 i, other (first / 32) 4 n4, other (first / 32) 5 n5) refl)

-- ---- a refused front, for the item

if_also : {A B : Type 0} (c : Bool) (x y : Decoded A) (v w : Decoded B) (why : Why) (left : ℕ) → (v ≡ refused why left → skim x ≡ refused why left) → (w ≡ refused why left → skim y ≡ refused why left)
    → (if c then v else w) ≡ refused why left → skim (if c then x else y) ≡ refused why left
if_also true x y v w why left f g e = f e
if_also false x y v w why left f g e = g e

no_list_of : (steps first : ℕ) (b : List ℕ) (why : Why) (left : ℕ) → skim (count_of (codes "array") steps first b) ≡ refused why left → skim (list_of steps first b) ≡ refused why left
no_list_of zero first b why left e = e
no_list_of (suc steps) first b why left e = skim_no (argument_of (codes "array") first b) (λ n rest. after (items_of (item_of steps) n rest) (λ ts. got (list ts))) why left e

no_map_of : (steps first : ℕ) (b : List ℕ) (why : Why) (left : ℕ) → skim (count_of (codes "map") steps first b) ≡ refused why left → skim (map_of steps first b) ≡ refused why left
no_map_of zero first b why left e = e
no_map_of (suc steps) first b why left e = skim_no (argument_of (codes "map") first b) (λ n rest. after (entries_of (item_of steps) n None rest) (λ es. got (mapping es))) why left e

pub item_refused : (steps : ℕ) (b : List ℕ) (why : Why) (left : ℕ) → front_of steps b ≡ refused why left → skim (item_of steps b) ≡ refused why left
item_refused zero b why left e = e
item_refused (suc steps) [] why left e = e
item_refused (suc steps) (first ∷ b) why left e =
    if_also (first % 32 == 31) (refused indefinite_size (length b)) (if first / 32 == 4 then list_of steps first b else if first / 32 == 5 then map_of steps first b else leaf_of first b)
    (refused indefinite_size (length b)) (if first / 32 == 4 then skim (count_of (codes "array") steps first b) else if first / 32 == 5 then skim (count_of (codes "map") steps first b) else skim (leaf_of first b)) why left (λ k. k)
    (if_also (first / 32 == 4) (list_of steps first b) (if first / 32 == 5 then map_of steps first b else leaf_of first b)
    (skim (count_of (codes "array") steps first b)) (if first / 32 == 5 then skim (count_of (codes "map") steps first b) else skim (leaf_of first b)) why left (no_list_of steps first b why left)
    (if_also (first / 32 == 5) (map_of steps first b) (leaf_of first b) (skim (count_of (codes "map") steps first b)) (skim (leaf_of first b)) why left (no_map_of steps first b why left) (λ k. k))) e
