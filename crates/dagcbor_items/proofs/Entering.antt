-- Entering a list or a map.
use Rattle.std.proofs.Common.{◌≡◌, inl, inr, ℕ, suc, ◌+◌, ◌++◌, List, Some, codes, sym, ap, ◌∙◌, arith, subst}
use Rattle.dagcbor_core.specs.Head.{head}
use Rattle.dagcbor_heads.specs.Reading.{Reading, SpentStep}
use Rattle.dagcbor_heads.specs.Fronts.{HasHead, Takes, TakesHead}
use Rattle.dagcbor_core.specs.Causes.{HeadCause, IsNamed}
use Rattle.dagcbor_core.specs.Names.{Names}
use Rattle.dagcbor_heads.specs.Refusals.{RefusesPlainly, NoStep}
use Rattle.dagcbor_heads.specs.Looking.{LooksAtLeft}
use Rattle.dagcbor_core.specs.declared.error.DecodeError.{DecodeError}
use Rattle.ipld_tree.specs.Tree.{any_need}
use Rattle.dagcbor_items.specs.ReadCauses.{ItemCause}
use Rattle.dagcbor_items.specs.Untyped.{HasItem, StartsDefinite}
use Rattle.dagcbor_items.specs.Entering.{Enters, StartsWithParts}
use Rattle.dagcbor_items.proofs.Fronts.{major_of_head, definite, no_argument, front_head_stands}
use Rattle.dagcbor_items.proofs.ItemRefusals.{at_steps, list_head, map_head, list_step, map_step}
use Rattle.dagcbor_heads.proofs.Taking.{stays}
use Rattle.dagcbor_heads.proofs.Refusing.{passed_on}
use Rattle.dagcbor_items.proofs.Steps.{too_deep}
use Rattle.dagcbor_items.proofs.Lists.{is_list_at}
use Rattle.dagcbor_items.proofs.Maps.{is_map_at}
use Rattle.dagcbor_items.proofs.Looks.{major_left, major_unread}

pub no_step_inside : {E : Type 0} {text : List ℕ} {old new : Reading} (e : DecodeError E) → StartsWithParts text old → NoStep text old e new → RefusesPlainly (HasItem 1 old) (ItemCause (old.steps + 1)) old e new
no_step_inside {E} {old = old} e (inl (starts, called)) h =
    too_deep ⊥ 1 e h (λ i. omega (arith, ap any_need (is_list_at (definite old starts) i).1)) (λ n named b l. let s = starts b l in list_step E n s.0 b s.1 s.2 s.4 s.3 (subst (Names n) called named))
no_step_inside {E} {old = old} e (inr (starts, called)) h =
    too_deep ⊥ 1 e h (λ i. omega (arith, ap any_need (is_map_at (definite old starts) i).1)) (λ n named b l. let s = starts b l in map_step E n s.0 b s.1 s.2 s.4 s.3 (subst (Names n) called named))

-- after the spent step there is no head at the front
pub parts_head_refused : {E : Type 0} {text : List ℕ} {old stepped : Reading} (new : Reading) (e : DecodeError E) → StartsWithParts text old → SpentStep old stepped → IsNamed text e → RefusesPlainly (HasHead stepped) HeadCause stepped e new
    → RefusesPlainly (HasItem 2 stepped) (ItemCause (stepped.steps + 2)) stepped e new
parts_head_refused {E} {text} {old} {stepped} new e starts s named r =
    passed_on HeadCause (ItemCause (stepped.steps + 2)) stepped stepped new e (stays stepped) front_head_stands (λ x. x) (λ x. x)
    (λ b l. (b, l, λ h. at_steps e b (suc (suc stepped.steps)) _ (omega arith) (by starts b (ap (λ (r : Reading). r.left) (sym s.is) ∙ l) h))) r
  where
    by : StartsWithParts text old → (b : List ℕ) → old.left ≡ Some b → HeadCause e b → ItemCause (suc (suc stepped.steps)) e b
    by (inl (starts, called)) b l h = let k = starts b l in list_head stepped.steps e k.0 b k.1 k.2 k.3 (no_argument (codes "array") e k.0 b k.1 (omega arith) k.2 (subst (λ x. IsNamed x e) called named) h)
    by (inr (starts, called)) b l h = let k = starts b l in map_head stepped.steps e k.0 b k.1 k.2 k.3 (no_argument (codes "map") e k.0 b k.1 (omega arith) k.2 (subst (λ x. IsNamed x e) called named) h)

pub enters_parts : {old stepped new : Reading} {m n first : ℕ} → SpentStep old stepped → TakesHead stepped m n first new → (major : ℕ) × Enters major n old new
enters_parts {old} {stepped} {new} {m} {n} s h =
    (m, record { fits = h.argument_fits; step = s.some; is_out = omega (arith, s.is_out, h.takes.same.steps, h.takes.same.budget); takes = subst (λ r. Takes r (head m n) new) s.is h.takes })

-- if the major type is known, the head has that major type
pub enters : {old new : Reading} {n : ℕ} (m : ℕ) → StartsDefinite old m → (major : ℕ) × Enters major n old new → Enters m n old new
enters {old} {new} {n} m starts h = record {
  fits = h.1.fits;
  step = h.1.step;
  is_out = h.1.is_out;
  takes = record {
    taken = λ b l.
        let k = h.1.takes.taken b l in
        (k.0, k.1 ∙ ap (λ x. head x n ++ k.0) (major_of_head b k.0 h.0 n m (definite old starts b l) h.1.fits k.1), k.2);
    same = h.1.takes.same;
  };
}

pub parts_left : {text : List ℕ} {times : ℕ} {old new : Reading} → StartsWithParts text old → LooksAtLeft times 0 old new → LooksAtLeft (times + 1) 1 old new
parts_left {old = old} (inl (starts, called)) h = major_left (definite old starts) h
parts_left {old = old} (inr (starts, called)) h = major_left (definite old starts) h

pub parts_unread : {text : List ℕ} {old new : Reading} → StartsWithParts text old → new.looked ≡ old.looked → LooksAtLeft 3 1 old new
parts_unread {old = old} (inl (starts, called)) e = major_unread (definite old starts) e
parts_unread {old = old} (inr (starts, called)) e = major_unread (definite old starts) e
