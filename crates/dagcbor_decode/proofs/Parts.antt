-- What is read part by part, without what was read.
use Rattle.std.proofs.Common.{◌≡◌, ℕ, suc, zero, ◌<◌, ◌/◌, List, [], ◌∷◌, length, refl, sym, ap, ap₂, Ok, Err, arith, Option, Some, codes}
use Rattle.ipld_tree.specs.Tree.{Tree, text, entry}
use Rattle.dagcbor_decode.specs.Decode.{Decoded, got, refused, Why, after, entries_of, key_of, decode, decode_first, at_end, trailing_data, leaf_of, text_of}
use Rattle.dagcbor_decode.specs.Told.{skim, kind_told}
use Rattle.dagcbor_decode.specs.TreeKinds.{kind_of}
use Rattle.dagcbor_decode.specs.Verdicts.{answer, verdict}
use Rattle.dagcbor_decode.specs.declared.kind.Kind.{Kind}

pub skim_got : {A B : Type 0} (r : Decoded A) (f : A → B) → skim (after r (λ a. got (f a))) ≡ skim r
skim_got (got a rest) f = refl
skim_got (refused why following) f = refl

pub unskimmed : {A : Type 0} (q : Decoded A) (rest : List ℕ) → skim q ≡ got tt rest → (a : A) × (q ≡ got a rest)
unskimmed (got a r) rest e = let same : r ≡ rest = cc e in (a, ap (got a) same)
unskimmed (refused why left) rest e = absurd (cc e)

-- after one that is refused
pub skim_no : {A B : Type 0} (r : Decoded A) (f : A → List ℕ → Decoded B) (w : Why) (k : ℕ) → skim r ≡ refused w k → skim (after r f) ≡ refused w k
skim_no (got a x) f w k e = absurd (cc e)
skim_no (refused why following) f w k e = e

pub text_leaf : (first : ℕ) (b : List ℕ) → first / 32 ≡ 3 → skim (leaf_of first b) ≡ skim (text_of (codes "string") first b)
text_leaf first b e = rw e (skim_got (text_of (codes "string") first b) text)

-- ---- items and entries

pub no_key : (any : List ℕ → Decoded Tree) (more : ℕ) (previous : Option (List ℕ)) (b : List ℕ) (w : Why) (k : ℕ) → 0 < more → key_of previous b ≡ refused w k → skim (entries_of any more previous b) ≡ refused w k
no_key any zero previous b w k h f = absurd (omega arith)
no_key any (suc n) previous b w k h f =
    ap (λ r. skim (after r (λ key following. after (any following) (λ u x. after (entries_of any n (Some key) x) (λ es. got (entry key u es)))))) f

-- ---- a block

block_judged : (rest : List ℕ) (kind : Kind) (q : Decoded Tree) → skim q ≡ got tt rest → length rest ≡ 0 → ((t : Tree) (r : List ℕ) → q ≡ got t r → kind ≡ kind_of t) → Ok kind ≡ kind_told (after q at_end)
block_judged rest kind (got t []) e none of = ap Ok (of t [] refl)
block_judged [] kind (got t (x ∷ more)) e none of = absurd (cc e)
block_judged (y ∷ rest) kind (got t (x ∷ more)) e none of = absurd (omega (arith, none))
block_judged rest kind (refused why left) e none of = absurd (cc e)

pub is_block : (b rest : List ℕ) (kind : Kind) → skim (decode_first b) ≡ got tt rest → length rest ≡ 0 → ((t : Tree) (r : List ℕ) → decode_first b ≡ got t r → kind ≡ kind_of t) → Ok kind ≡ kind_told (decode b)
is_block b rest kind = block_judged rest kind (decode_first b)

more_judged : (rest : List ℕ) (x : ℕ) (more : List ℕ) (q : Decoded Tree) → skim q ≡ got tt rest → rest ≡ x ∷ more → Err (trailing_data, length more) ≡ kind_told (after q at_end)
more_judged rest x more (got t []) e is = absurd (cc (e, is))
more_judged rest x more (got t (y ∷ r)) e is = let same : y ∷ r ≡ x ∷ more = cc (e, is) in let tail : r ≡ more = cc same in ap (λ r. Err (trailing_data, length r)) (sym tail)
more_judged rest x more (refused why left) e is = absurd (cc e)

pub has_more : (b rest : List ℕ) (x : ℕ) (more : List ℕ) → skim (decode_first b) ≡ got tt rest → rest ≡ x ∷ more → Err (trailing_data, length more) ≡ kind_told (decode b)
has_more b rest x more = more_judged rest x more (decode_first b)

none_judged : (w : Why) (k : ℕ) (q : Decoded Tree) → skim q ≡ refused w k → Err (w, k) ≡ kind_told (after q at_end)
none_judged w k (got t rest) e = absurd (cc e)
none_judged w k (refused why left) e = cc e

pub no_item : (b : List ℕ) (w : Why) (k : ℕ) → skim (decode_first b) ≡ refused w k → Err (w, k) ≡ kind_told (decode b)
no_item b w k = none_judged w k (decode_first b)

-- ---- the verdict on a block, in other words

pub kind_answered : (kind : Kind) (q : Decoded Tree) → Ok kind ≡ kind_told q → Ok kind ≡ answer q
kind_answered kind (got t rest) e = cc e
kind_answered kind (refused why left) e = absurd (cc e)

pub kind_placed : (b : List ℕ) (kind : Kind) (q : Decoded Tree) → Ok kind ≡ kind_told q → Ok kind ≡ verdict b q
kind_placed b kind (got t rest) e = cc e
kind_placed b kind (refused why left) e = absurd (cc e)

pub refusal_told : (w : Why) (k : ℕ) (q : Decoded Tree) → Err (w, k) ≡ kind_told q → refused w k ≡ q
refusal_told w k (got t rest) e = absurd (cc e)
refusal_told w k (refused why left) e = let p : ◌≡◌ {A = Why × ℕ} (w, k) (why, left) = cc e in ap₂ refused (ap (λ p. p.0) p) (ap (λ p. p.1) p)
