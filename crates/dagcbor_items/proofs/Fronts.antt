-- What the bytes at the front say of the tree there.
use Rattle.std.proofs.lemmas.Bool.Decides.{eqb_tells}
use Rattle.std.proofs.Common.{◌≡◌, inl, inr, ℕ, zero, suc, ◌+◌, ◌*◌, ◌/◌, ◌^◌, ◌<◌, ◌≤◌, List, ◌∷◌, ◌++◌, sym, ap, ◌∙◌, subst, arith, [], length, refl, length-append, Some, codes}
use Rattle.dagcbor_core.specs.Head.{head}
use Rattle.dagcbor_heads.specs.Reading.{Reading, Stays}
use Rattle.dagcbor_heads.specs.Fronts.{HasByte, HasHead, StartsWith, TakesHead}
use Rattle.dagcbor_core.specs.Causes.{ByteCause, HeadCause, IsEndNamed, IsNamed}
use Rattle.dagcbor_heads.specs.Refusals.{RefusesPlainly, Refuses}
use Rattle.dagcbor_core.specs.declared.error.DecodeError.{DecodeError}
use Rattle.dagcbor_core.specs.declared.error.DecodeError.TheVariants.{Eof}
use Rattle.dagcbor_core.proofs.Heads.{head_first}
use Rattle.dagcbor_heads.proofs.Taking.{stays}
use Rattle.dagcbor_heads.proofs.Refusing.{passed_on}
use Rattle.ipld_tree.specs.Tree.{Tree}
use Rattle.ipld_tree.specs.Spelling.{IsFront, spelling}
use Rattle.ipld_tree.proofs.Unique.{major, argument, payload, argument_fits}
use Rattle.ipld_tree.proofs.Fronts.{front_head, front_first, front_nonempty, major_le}
use Rattle.dagcbor_decode.specs.Decode.{argument_of, item_of}
use Rattle.dagcbor_decode.specs.Verdicts.{IsRefusal}
use Rattle.dagcbor_decode.proofs.Refusals.{ended, head_refused, kept_short}
use Rattle.dagcbor_items.specs.Leaves.{number_name}
use Rattle.dagcbor_items.specs.ReadCauses.{ItemCause}
use Rattle.dagcbor_items.proofs.ItemRefusals.{at_steps, natural_head, negative_head}
use Rattle.dagcbor_items.specs.Shapes.{Shape}
use Rattle.dagcbor_items.specs.TypedReads.{HasFront}
use Rattle.dagcbor_items.specs.Untyped.{HasItem, TakesItem, StartsWithMajor, StartsDefinite}

-- ---- the major type at the front

-- the first byte has this major type
abbrev pub MajorAt : List ℕ → ℕ → Type 0
MajorAt b m = (first : ℕ) × (more : List ℕ) × (b ≡ first ∷ more) × (first / 32 ≡ m)

pub major_of_head : (b rest : List ℕ) (m n expected : ℕ) → MajorAt b expected → n < 2 ^ 64 → b ≡ head m n ++ rest → m ≡ expected
major_of_head b rest m n expected h fits e =
    let f = head_first m n fits in
    let is : h.0 ∷ h.1 ≡ (32 * m + f.0) ∷ (f.1 ++ rest) = sym h.2 ∙ e ∙ ap (λ s. s ++ rest) f.3 in
    let first : h.0 ≡ 32 * m + f.0 = cc in
    omega (arith, first, f.2, h.3)

pub major_of_front : (b rest : List ℕ) (t : Tree) (expected : ℕ) → MajorAt b expected → IsFront b t rest → major t ≡ expected
major_of_front b rest t expected h f = major_of_head b (payload t ++ rest) (major t) (argument t) expected h (argument_fits t f.spellable) (front_head f)

pub major_at : (r : Reading) (first m : ℕ) → StartsWith r first → first / 32 ≡ m → StartsWithMajor r m
major_at r first m h e b l = (first, (h b l).0, (h b l).1, e)

pub definite : (r : Reading) {m : ℕ} → StartsDefinite r m → StartsWithMajor r m
definite r h b l = let s = h b l in (s.0, s.1, s.2, s.3)

-- a tree takes a byte at least
pub shorter : (b rest : List ℕ) (t : Tree) → IsFront b t rest → length rest < length b
shorter b rest t f = by (spelling t) refl
  where
    by : (s : List ℕ) → spelling t ≡ s → length rest < length b
    by [] e = absurd (front_nonempty [] t record { well_formed = f.well_formed; spellable = f.spellable; is = ap (λ y. y ++ []) (sym e) })
    by (x ∷ s) e = omega (arith, ap length (f.is ∙ ap (λ y. y ++ rest) e), length-append (x ∷ s) rest)

-- ---- what is refused if no byte or no head is at the front

pub front_head_stands : {V : Type 0} {shape : Shape Tree V} {r : Reading} → HasFront shape r → HasHead r
front_head_stands h = record {
  major = major h.tree;
  argument = argument h.tree;
  rest = payload h.tree ++ h.rest;
  major_fits = omega (arith, major_le h.tree);
  argument_fits = argument_fits h.tree h.front.spellable;
  left = h.left ∙ ap Some (front_head h.front);
}

pub front_byte : {V : Type 0} {shape : Shape Tree V} {r : Reading} → HasFront shape r → HasByte r
front_byte h = let f = front_first h.bytes h.rest h.tree h.front in record { byte = 32 * major h.tree + f.0; rest = f.1; left = h.left ∙ ap Some f.3 }

-- what begins with no head, after its first byte
pub no_argument : {E : Type 0} (name : List ℕ) (e : DecodeError E) (first : ℕ) (b more : List ℕ) → length name ≤ 31 → b ≡ first ∷ more → IsNamed name e → HeadCause e b → IsRefusal (argument_of name first more) e
no_argument {E} name e first b more short is named h = head_refused name name e (first ∷ more) (kept_short name short) named (subst (HeadCause {E = E} e) is h)

number_head : {E : Type 0} (steps : ℕ) (name : List ℕ) (e : DecodeError E) (first : ℕ) (b more : List ℕ) → 0 < steps → b ≡ first ∷ more → first / 32 ≤ 1 → name ≡ number_name (first / 32) → IsNamed name e → HeadCause e b → ItemCause steps e b
number_head {E} steps name e first b more some is few called named h = elim (eqb_tells (first / 32) 0) [
  | inl a ↦ let u : name ≡ codes "u64" = called ∙ rw a.0 refl in natural_head steps e first b more some is a.1 (no_argument (codes "u64") e first b more (omega arith) is (subst (λ x. IsNamed x e) u named) h)
  | inr a ↦ let u : name ≡ codes "any" = called ∙ rw a.0 refl in negative_head steps e first b more some is (one (first / 32) few a.1) (no_argument (codes "any") e first b more (omega arith) is (subst (λ x. IsNamed x e) u named) h)
]
  where
    one : (n : ℕ) → n ≤ 1 → (n ≡ 0 → ⊥) → n ≡ 1
    one zero few other = absurd (other refl)
    one (suc zero) few other = refl
    one (suc (suc n)) few other = absurd (omega (arith, few))

-- after the first byte of a number
pub number_head_refused : {E : Type 0} (lacks : Type 0) {name : List ℕ} (old new : Reading) (e : DecodeError E) (first : ℕ) → StartsWith old first → first / 32 ≤ 1 → name ≡ number_name (first / 32) → IsNamed name e → RefusesPlainly (HasHead old) HeadCause old e new
    → Refuses (record { could = HasItem 1 old; lacks = lacks; borrows = ⊥; stands = ItemCause (old.steps + 1) }) old e new
number_head_refused lacks {name} old new e first starts few called named r =
    passed_on HeadCause (ItemCause (old.steps + 1)) old old new e (stays old) front_head_stands (λ x. absurd x) (λ x. x)
    (λ b l. let s = starts b l in (b, l, number_head _ name e first b s.0 (omega arith) s.1 few called named)) r

pub byte_refused : {E : Type 0} (lacks : Type 0) (spent : ℕ) (old new : Reading) (e : DecodeError E) → IsEndNamed (codes "any") e → RefusesPlainly (HasByte old) ByteCause old e new → Refuses (record { could = HasItem (suc spent) old; lacks = lacks; borrows = ⊥; stands = ItemCause (old.steps + suc spent) }) old e new
byte_refused lacks spent old new e named r =
    passed_on ByteCause (ItemCause (old.steps + suc spent)) old old new e (stays old) front_byte (λ x. absurd x) (λ x. x)
    (λ b l. (b, l, λ h. at_steps e b (suc (old.steps + spent)) _ (omega arith) (none e b named h))) r
  where
    none : {E : Type 0} (e : DecodeError E) (b : List ℕ) → IsEndNamed (codes "any") e → ByteCause e b → ItemCause (suc (old.steps + spent)) e b
    none {E} (Eof n x) b named h = ended E (codes "any") (codes "any") n x 1 _ 0 (kept_short (codes "any") (omega arith)) named h.0 (ap (item_of (suc (old.steps + spent))) h.1)
    none _ b named h = absurd h

-- ---- a head of a known major type

-- the head of an item of this major type was taken
pub record TakesHeadOf (old : Reading) (expected n : ℕ) (mid : Reading) : Type 0 where
  pub fits : n < 2 ^ 64
  pub taken : (b : List ℕ) → old.left ≡ Some b → (rest : List ℕ) × (b ≡ head expected n ++ rest) × (mid.left ≡ Some rest)
  pub same : Stays old mid

pub head_of : {old mid : Reading} {m n first : ℕ} (expected : ℕ) → StartsWithMajor old expected → TakesHead old m n first mid → TakesHeadOf old expected n mid
head_of {old} {mid} {m} {n} expected starts h = record {
  fits = h.argument_fits;
  taken = λ b l.
      let k = h.takes.taken b l in
      (k.0, k.1 ∙ ap (λ x. head x n ++ k.0) (major_of_head b k.0 m n expected (starts b l) h.argument_fits k.1), k.2);
  same = h.takes.same;
}

-- ---- after a byte that was shown

-- an item that was taken as one tree was taken as an equal one
pub as_tree : {spent : ℕ} {old new : Reading} (t u : Tree) → u ≡ t → TakesItem spent old t new → TakesItem spent old u new
as_tree {spent} {old} {new} t u e h = subst (λ x. TakesItem spent old x new) (sym e) h
