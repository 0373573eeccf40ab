-- Heads of some major types.
use Rattle.std.proofs.Common.{◌≡◌, ℕ, ◌+◌, ◌*◌, ◌/◌, ◌<◌, ◌≤◌, List, ◌∷◌, ◌++◌, refl, sym, ap, ◌∙◌, subst, arith, Some}
use Rattle.dagcbor_core.specs.Head.{head}
use Rattle.dagcbor_core.specs.Names.{Names}
use Rattle.dagcbor_heads.specs.Reading.{Reading, Stays}
use Rattle.dagcbor_heads.specs.Fronts.{HasByte, HasHead, ShowsByte, StartsWith, TakesHead}
use Rattle.dagcbor_core.specs.Causes.{ByteCause, HeadCause, IsEndNamed, IsNamed}
use Rattle.dagcbor_heads.specs.Refusals.{RefusesPlainly}
use Rattle.dagcbor_core.specs.declared.name.Name.{Name}
use Rattle.dagcbor_core.specs.declared.error.DecodeError.{DecodeError}
use Rattle.dagcbor_core.specs.declared.error.DecodeError.TheVariants.{Mismatch}
use Rattle.dagcbor_core.proofs.Heads.{head_first}
use Rattle.dagcbor_heads.proofs.Taking.{stays, stays_both}
use Rattle.dagcbor_heads.proofs.Refusing.{passed_on}
use Rattle.ipld_tree.specs.Tree.{Tree}
use Rattle.ipld_tree.proofs.Unique.{major, argument, payload, argument_fits}
use Rattle.ipld_tree.proofs.Fronts.{front_head}
use Rattle.dagcbor_items.specs.TypedReads.{HasFront, TakesFront}
use Rattle.dagcbor_items.proofs.LeafRefusals.{major_byte, major_head, major_other}
use Rattle.dagcbor_items.specs.ReadCauses.{MajorCause}
use Rattle.dagcbor_items.specs.Majors.{HasMajor, TakesMajor}
use Rattle.dagcbor_items.specs.Untyped.{StartsWithMajor}
use Rattle.dagcbor_items.proofs.Fronts.{head_of, major_at}
use Rattle.dagcbor_items.specs.Shapes.{Shape}

-- a value that was taken as one was taken as an equal one
pub as_value : {V : Type 0} {shape : Shape Tree V} {old new : Reading} (v w : V) → w ≡ v → TakesFront shape old v new → TakesFront shape old w new
as_value {V} {shape} {old} {new} v w e h = subst (λ x. TakesFront shape old x new) (sym e) h

-- a tree of such a major type has such a head
pub has_major : {V : Type 0} {shape : Shape Tree V} {r : Reading} (low high : ℕ) (h : HasFront shape r) → low ≤ major h.tree → major h.tree ≤ high → HasMajor low high r
has_major low high h least most = record {
  major = major h.tree;
  argument = argument h.tree;
  rest = payload h.tree ++ h.rest;
  lowest = least;
  highest = most;
  argument_fits = argument_fits h.tree h.front.spellable;
  left = h.left ∙ ap Some (front_head h.front);
}

-- its first byte
kind_first : {low high : ℕ} {r : Reading} → (h : HasMajor low high r) → (i : ℕ) × (more : List ℕ) × (i < 28) × (head h.major h.argument ++ h.rest ≡ (32 * h.major + i) ∷ more)
kind_first h = let f = head_first h.major h.argument h.argument_fits in (f.0, f.1 ++ h.rest, f.2, ap (λ s. s ++ h.rest) f.3)

kind_byte : {low high : ℕ} {r : Reading} → HasMajor low high r → HasByte r
kind_byte h = let f = kind_first h in record { byte = 32 * h.major + f.0; rest = f.1; left = h.left ∙ ap Some f.3 }

pub kind_byte_refused : {E : Type 0} (name : List ℕ) (low high : ℕ) (old new : Reading) (e : DecodeError E) → IsEndNamed name e → RefusesPlainly (HasByte old) ByteCause old e new
    → RefusesPlainly (HasMajor low high old) (MajorCause name low high) old e new
kind_byte_refused name low high old new e named r = passed_on ByteCause (MajorCause name low high) old old new e (stays old) kind_byte (λ x. x) (λ x. x) (λ b l. (b, l, major_byte name low high e b named)) r

-- a first byte of another major type
pub other_kind : (E : Type 0) (name : List ℕ) (low high : ℕ) {old new : Reading} {first : ℕ}
    (kept : Name) → Names kept name → StartsWith old first → Stays old new
    → (low ≤ first / 32 → first / 32 ≤ high → ⊥)
    → RefusesPlainly {E = E} (HasMajor low high old) (MajorCause name low high) old
    (Mismatch kept first) new
other_kind E name low high {old} {new} {first} kept named starts same other = (
  same.faults,
  λ k. let f = kind_first k in
      let s = starts _ k.left in
      let is : first ∷ s.0 ≡ (32 * k.major + f.0) ∷ f.1 = sym s.1 ∙ f.3 in
      let equal : first ≡ 32 * k.major + f.0 = cc in
      other (omega (arith, equal, f.2, k.lowest)) (omega (arith, equal, f.2, k.highest)),
  λ b l. let s = starts b l in major_other E name low high kept first b s.0 s.1 other named,
)

-- the head after the byte that was shown
kind_head : {low high : ℕ} {old mid : Reading} {first : ℕ} → high < 8 → ShowsByte old first mid → HasMajor low high old → HasHead mid
kind_head few h k = record { major = k.major; argument = k.argument; rest = k.rest; major_fits = omega (arith, few, k.highest); argument_fits = k.argument_fits; left = h.kept _ k.left }

pub kind_head_refused : {E : Type 0} (name : List ℕ) (low high : ℕ) {old mid : Reading} {first : ℕ} (new : Reading) (e : DecodeError E) → high < 8 → low ≤ first / 32 → first / 32 ≤ high → IsNamed name e → ShowsByte old first mid → RefusesPlainly (HasHead mid) HeadCause mid e new
    → RefusesPlainly (HasMajor low high old) (MajorCause name low high) old e new
kind_head_refused name low high {old} {mid} {first} new e few least most named h r =
    passed_on HeadCause (MajorCause name low high) old mid new e h.same (kind_head few h) (λ x. x) (λ x. x) (λ b l. let s = h.starts b l in (b, h.kept b l, major_head name low high e first b s.0 s.1 least most named)) r

pub kind_taken : {low high : ℕ} {old mid new : Reading} {first kind n also : ℕ} → ShowsByte old first mid → low ≤ first / 32 → first / 32 ≤ high → TakesHead mid kind n also new → TakesMajor low high old (first / 32) n new
kind_taken {low} {high} {old} {mid} {new} {first} h least most t =
    let k = head_of (first / 32) (major_at mid first (first / 32) h.still refl) t in
    record {
      lowest = least;
      highest = most;
      argument_fits = k.fits;
      takes = record { taken = λ b l. k.taken b (h.kept b l); same = stays_both h.same k.same };
    }

-- the head after a first byte of the major type
pub head_kind : {kind m n first : ℕ} {old mid : Reading} → StartsWithMajor old kind → TakesHead old m n first mid → TakesMajor kind kind old kind n mid
head_kind {kind} {m} {n} {first} {old} {mid} starts t =
    let k = head_of kind starts t in
    record { lowest = omega arith; highest = omega arith; argument_fits = k.fits; takes = record { taken = k.taken; same = k.same } }
