-- Steps that are spent on entering an item, and given back at its end.
use Rattle.std.proofs.Common.{◌≡◌, ℕ, ◌+◌, ◌-◌, ◌≤◌, List, refl, ap, ◌∙◌, arith, codes, Some}
use Rattle.dagcbor_core.specs.Names.{Names}
use Rattle.dagcbor_heads.specs.Reading.{Reading, SpentStep, with_steps}
use Rattle.dagcbor_heads.specs.Refusals.{Refuses, NoStep}
use Rattle.dagcbor_core.specs.declared.name.Name.{Name}
use Rattle.dagcbor_core.specs.declared.error.DecodeError.{DecodeError}
use Rattle.dagcbor_core.specs.declared.error.DecodeError.TheVariants.{Read, RequireBorrowed, OutOfMemory, Failed, DepthOverflow}
use Rattle.dagcbor_heads.proofs.Taking.{stays}
use Rattle.dagcbor_heads.proofs.Refusing.{no_step_refused, passed_on}
use Rattle.ipld_tree.specs.Tree.{Tree, list, mapping, any_need}
use Rattle.dagcbor_items.specs.ReadCauses.{ItemCause}
use Rattle.dagcbor_items.specs.Untyped.{HasItem, TakesItem}
use Rattle.dagcbor_items.specs.Entering.{Enters}
use Rattle.dagcbor_items.proofs.ItemRefusals.{at_steps, no_step}

pub need_positive : (t : Tree) → 1 ≤ any_need t
need_positive (list ts) = omega arith
need_positive (mapping es) = omega arith
need_positive _ = omega arith

-- no step is left for the item at the front
pub too_deep : {E : Type 0} (lacks : Type 0) (spent : ℕ) {text : List ℕ} {old new : Reading} (e : DecodeError E) → NoStep text old e new → ((i : HasItem spent old) → spent + 1 ≤ any_need i.tree)
    → ((n : Name) → Names n text → (b : List ℕ) → old.left ≡ Some b → ItemCause {E = E} spent (DepthOverflow n) b) → Refuses (record { could = HasItem spent old; lacks = lacks; borrows = ⊥; stands = ItemCause (old.steps + spent) }) old e new
too_deep {E} lacks spent {text} {old} e h deep cause = no_step_refused lacks ⊥ (ItemCause (old.steps + spent)) e (stays old) h (λ i. omega (arith, i.within, deep i))
    (λ n named b l. at_steps {E = E} (DepthOverflow n) b spent _ (omega (arith, h.none)) (cause n named b l))

pub no_step_left : {E : Type 0} (lacks : Type 0) {old new : Reading} (e : DecodeError E) → NoStep (codes "any") old e new → Refuses (record { could = HasItem 0 old; lacks = lacks; borrows = ⊥; stands = ItemCause (old.steps + 0) }) old e new
no_step_left {E} lacks e h = too_deep lacks 0 e h (λ i. need_positive i.tree) (λ n named b l. no_step E n b named)

-- a call that may lack memory refuses what one refuses that lacks less
pub more_lacks : {E : Type 0} {lacks : Type 0} (lacks' : Type 0) (spent : ℕ) (old new : Reading) (e : DecodeError E) → (lacks → lacks') → Refuses (record { could = HasItem spent old; lacks = lacks; borrows = ⊥; stands = ItemCause (old.steps + spent) }) old e new
    → Refuses (record { could = HasItem spent old; lacks = lacks'; borrows = ⊥; stands = ItemCause (old.steps + spent) }) old e new
more_lacks lacks' spent old new e w r = passed_on (ItemCause (old.steps + spent)) (ItemCause (old.steps + spent)) old old new e (stays old) (λ x. x) w (λ x. x) (λ b l. (b, l, λ h. h)) r

-- ---- a step was spent

-- the step that was spent on the head of a list or map
pub spent_step : {old mid : Reading} {m n : ℕ} → Enters m n old mid → SpentStep old (with_steps (old.steps - 1) old)
spent_step h = record { some = h.step; is_out = omega (arith, h.is_out, h.takes.same.steps, h.takes.same.budget); is = refl }

item_stepped : {old stepped : Reading} (spent : ℕ) → SpentStep old stepped → HasItem spent old → HasItem (spent + 1) stepped
item_stepped {old} {stepped} spent s i = record {
  bytes = i.bytes;
  tree = i.tree;
  rest = i.rest;
  left = ap (λ (r : Reading). r.left) s.is ∙ i.left;
  front = i.front;
  accepted = refl;
  within = omega (arith, i.within, s.some, ap (λ (r : Reading). r.steps) s.is);
}

-- the steps for an item are those that are left, and those that were spent on it
steps_same : {old stepped : Reading} (spent : ℕ) → SpentStep old stepped → stepped.steps + (spent + 1) ≡ old.steps + spent
steps_same spent s = omega (arith, s.some, ap (λ (r : Reading). r.steps) s.is)

pub stepped_refused : {E lacks lacks' : Type 0} {old stepped : Reading} (new : Reading) (spent : ℕ) (e : DecodeError E) → SpentStep old stepped → (lacks → lacks')
    → Refuses (record { could = HasItem (spent + 1) stepped; lacks = lacks; borrows = ⊥; stands = ItemCause (stepped.steps + (spent + 1)) }) stepped e new → Refuses (record { could = HasItem spent old; lacks = lacks'; borrows = ⊥; stands = ItemCause (old.steps + spent) }) old e new
stepped_refused {E} {lacks} {lacks'} {old} {stepped} new spent (Read e) s k r = omega (arith, ap (λ (r : Reading). r.faults) s.is, r)
stepped_refused {E} {lacks} {lacks'} {old} {stepped} new spent OutOfMemory s k r = (r.0 ∙ ap (λ (r : Reading). r.faults) s.is, k r.1)
stepped_refused {E} {lacks} {lacks'} {old} {stepped} new spent (RequireBorrowed n) s k r = absurd r.1
stepped_refused {E} {lacks} {lacks'} {old} {stepped} new spent Failed s k r = r
stepped_refused {E} {lacks} {lacks'} {old} {stepped} new spent (DepthOverflow n) s k r =
    (r.0 ∙ ap (λ (r : Reading). r.faults) s.is, λ i. r.1 (item_stepped spent s i), λ b l. at_steps {E = E} (DepthOverflow n) b _ _ (steps_same spent s) (r.2 b (ap (λ (r : Reading). r.left) s.is ∙ l)), r.3)
stepped_refused {E} {lacks} {lacks'} {old} {stepped} new spent e s k r =
    (r.0 ∙ ap (λ (r : Reading). r.faults) s.is, λ i. r.1 (item_stepped spent s i), λ b l. at_steps {E = E} e b _ _ (steps_same spent s) (r.2 b (ap (λ (r : Reading). r.left) s.is ∙ l)))

-- the step was given back after the item
pub stepped_taken : {old stepped now new : Reading} {t : Tree} (spent : ℕ) → SpentStep old stepped → TakesItem (spent + 1) stepped t now → new ≡ with_steps (now.steps + 1) now → TakesItem spent old t new
stepped_taken {old} {stepped} {now} {new} {t} spent s a back =
    let at_stepped = ap (λ (r : Reading). r.steps) s.is in
    record {
      taken = λ b l.
          let k = a.taken b (ap (λ (r : Reading). r.left) s.is ∙ l) in
          (k.0, k.1, omega (arith, k.2, at_stepped, s.some), ap (λ (r : Reading). r.left) back ∙ k.3);
      same = record {
        steps = omega (arith, ap (λ (r : Reading). r.steps) back, a.same.steps, at_stepped, s.some);
        budget = ap (λ (r : Reading). r.budget) back ∙ a.same.budget ∙ ap (λ (r : Reading). r.budget) s.is;
        lends = ap (λ (r : Reading). r.lends) back ∙ a.same.lends ∙ ap (λ (r : Reading). r.lends) s.is;
        faults = ap (λ (r : Reading). r.faults) back ∙ a.same.faults ∙ ap (λ (r : Reading). r.faults) s.is;
        through = ap (λ (r : Reading). r.through) back ∙ a.same.through ∙ ap (λ (r : Reading). r.through) s.is;
      };
    }
