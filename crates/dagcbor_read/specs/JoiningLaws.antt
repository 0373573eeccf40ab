-- Groups of fields join what comes after them: a field does, and two groups do.
use Rattle.std.specs.Prelude.{◌≡◌, ◌||◌, ℕ, Bool, true, false, List, [], ◌∷◌, Option, None, Some, option_map, if◌then◌else◌, bytes_eq}
use Rattle.std.specs.Option.{option_flatten}
use Rattle.std.proofs.Common.{refl, sym, ap, ◌∙◌}
use Rattle.ipld_tree.specs.Tree.{Tree}
use Rattle.dagcbor_items.specs.Shapes.{Shape}
use Rattle.dagcbor_read.specs.Collections.{FieldShape, value_of, slot_of}
use Rattle.dagcbor_read.specs.Structs.{places, finish_required, finish_optional, finish_omissible}
use Rattle.dagcbor_read.specs.Joining.{OwnShape, after_first, field_own, beside, either_own, own_of_both, IsLike, GoesTo, HeldBefore, ShapeBefore, JoinsShape, FinishBefore, JoinsFinish, both_there, finish_both}

-- ---- a field

left_or : (a b : Bool) → a ≡ true → (a || b) ≡ true
left_or true b e = refl
left_or false b e = absurd (cc e)

right_or : (a b : Bool) → b ≡ true → (a || b) ≡ true
right_or true b e = refl
right_or false b e = e

filled : {V W : Type 0} (f : Option V → W) (o : Option V)
    → option_map (λ v. f (Some v)) o ≡ option_map f (option_map Some o)
filled f None = refl
filled f (Some v) = refl

pub field_joins : {V : Type 0} (shape : Shape Tree V)
    → JoinsShape (Option V) (λ S. Option V × S) (λ S o s. (o, s)) (λ S. places shape) after_first
    (field_own shape)
field_joins shape S others [] own s k =
    record { view = λ t. refl; need = λ t. refl; loan = λ e. e; memory = λ lends e. e }
field_joins {V} shape S others (name ∷ names) own s k = by (bytes_eq k name) refl
  where
    rest : FieldShape S
    rest = others names

    by : (b : Bool) → bytes_eq k name ≡ b
        → GoesTo (λ o (x : S). (o, x)) (if b then Some (slot_of shape) else None) own s
        (value_of rest s k) (value_of (places shape others (name ∷ names)) (own, s) k)
    by true e = record {
      view = λ t. ap (λ (b : Bool).
          if b then option_map (λ v. (Some v, s)) (shape.view t)
          else option_map (λ o. (own, o)) (rest.take s k t)) e ∙ filled (λ o. (o, s)) (shape.view t);
      need = λ t. ap (λ (b : Bool). if b then shape.need t else rest.need k t) e;
      loan = left_or shape.wants_loan rest.wants_loan;
      memory = λ lends. left_or (shape.memory lends) (rest.memory lends);
    }
    by false e = record {
      view = λ t. ap (λ (b : Bool).
          if b then option_map (λ v. (Some v, s)) (shape.view t)
          else option_map (λ o. (own, o)) (rest.take s k t)) e;
      need = λ t. ap (λ (b : Bool). if b then shape.need t else rest.need k t) e;
      loan = right_or shape.wants_loan rest.wants_loan;
      memory = λ lends. right_or (shape.memory lends) (rest.memory lends);
    }

pub required_finish : {V : Type 0} (S W : Type 0) (others : S → Option W) (own : Option V) (s : S)
    → finish_required others (own, s) ≡ both_there (λ v w. (v, w)) own (others s)
required_finish S W others own s = refl

pub optional_finish : {V : Type 0} (S W : Type 0) (others : S → Option W) (own : Option (Option V))
    (s : S)
    → finish_optional others (own, s) ≡ both_there (λ v w. (v, w)) (Some (option_flatten own)) (others s)
optional_finish S W others own s = refl

pub omissible_finish : {V : Type 0} (S W : Type 0) (others : S → Option W) (own : Option V) (s : S)
    → finish_omissible others (own, s) ≡ both_there (λ v w. (v, w)) (Some own) (others s)
omissible_finish S W others own s = refl

-- ---- two groups

mapped_twice : {A B C : Type 0} (f : A → B) (g : B → C) (o : Option A)
    → option_map g (option_map f o) ≡ option_map (λ x. g (f x)) o
mapped_twice f g None = refl
mapped_twice f g (Some x) = refl

like_twice : {A B C : Type 0} (f : A → B) (g : B → C) (one : Shape Tree A) (two : Shape Tree B)
    (three : Shape Tree C)
    → IsLike f one two → IsLike g two three → IsLike (λ x. g (f x)) one three
like_twice f g one two three h k = record {
  view = λ t. k.view t ∙ ap (option_map g) (h.view t) ∙ mapped_twice f g (one.view t);
  need = λ t. k.need t ∙ h.need t;
  loan = λ e. k.loan (h.loan e);
  memory = λ lends e. k.memory lends (h.memory lends e);
}

like_beside : {A B C : Type 0} (f : A → B) (g : B → C) (one : Shape Tree A) (three : Shape Tree C)
    → IsLike (λ x. g (f x)) one three → IsLike g (beside f one) three
like_beside f g one three h = record {
  view = λ t. h.view t ∙ sym (mapped_twice f g (one.view t));
  need = h.need;
  loan = h.loan;
  memory = h.memory;
}

module _ {A B S H I : Type 0} (first : A → I → H) (second : B → S → I) where
  abbrev both : A × B → S → H
  both o s = first o.0 (second o.1 s)

  goes_to_both : (a : A) (b : B) (s : S) (one : Option (Shape Tree A)) (two : Option (Shape Tree B))
      (others : Shape Tree S) (following : Shape Tree I) (whole : Shape Tree H)
      → GoesTo first one a (second b s) following whole → GoesTo second two b s others following
      → GoesTo both (either_own a b one two) (a, b) s others whole
  goes_to_both a b s (Some one) two others following whole h k =
      like_beside (λ x. (x, b)) (λ o. both o s) one whole h
  goes_to_both a b s None (Some two) others following whole h k =
      like_beside (λ x. (a, x)) (λ o. both o s) two whole
      (like_twice (λ o. second o s) (first a) two following whole k h)
  goes_to_both a b s None None others following whole h k =
      like_twice (second b) (first a) others following whole k h

pub both_join : (A B : Type 0) (HeldA HeldB : Type 0 → Type 0)
    (held_a : HeldBefore HeldA A) (held_b : HeldBefore HeldB B)
    (shape_a : ShapeBefore HeldA) (shape_b : ShapeBefore HeldB)
    (after_a after_b : List (List ℕ) → List (List ℕ)) (own_a : OwnShape A) (own_b : OwnShape B)
    → JoinsShape A HeldA held_a shape_a after_a own_a
    → JoinsShape B HeldB held_b shape_b after_b own_b
    → JoinsShape (A × B) (λ S. HeldA (HeldB S))
    (λ S o s. held_a (HeldB S) o.0 (held_b S o.1 s))
    (λ S others. shape_a (HeldB S) (shape_b S others))
    (λ names. after_b (after_a names)) (own_of_both own_a after_a own_b)
both_join A B HeldA HeldB held_a held_b shape_a shape_b after_a after_b own_a own_b joins_a joins_b S others names own s k =
    goes_to_both (held_a (HeldB S)) (held_b S) own.0 own.1 s
    (own_a names own.0 k) (own_b (after_a names) own.1 k)
    (value_of (others (after_b (after_a names))) s k)
    (value_of (shape_b S others (after_a names)) (held_b S own.1 s) k)
    (value_of (shape_a (HeldB S) (shape_b S others) names)
    (held_a (HeldB S) own.0 (held_b S own.1 s)) k)
    (joins_a (HeldB S) (shape_b S others) names own.0 (held_b S own.1 s) k)
    (joins_b S others (after_a names) own.1 s k)

both_shown : {V W X Y Z : Type 0} (first : V → Y → Z) (second : W → X → Y) (v : Option V)
    (w : Option W) (x : Option X)
    → both_there first v (both_there second w x)
    ≡ both_there (λ (o : V × W) (z : X). first o.0 (second o.1 z)) (both_there (λ a b. (a, b)) v w) x
both_shown first second None w x = refl
both_shown first second (Some v) None x = refl
both_shown first second (Some v) (Some w) None = refl
both_shown first second (Some v) (Some w) (Some x) = refl

pub both_finish : (A B V W : Type 0) (HeldA HeldB ShowsA ShowsB : Type 0 → Type 0)
    (held_a : HeldBefore HeldA A) (held_b : HeldBefore HeldB B)
    (shows_a : HeldBefore ShowsA V) (shows_b : HeldBefore ShowsB W)
    (own_a : A → Option V) (own_b : B → Option W)
    (finish_a : FinishBefore HeldA ShowsA) (finish_b : FinishBefore HeldB ShowsB)
    → JoinsFinish A V HeldA ShowsA held_a shows_a own_a finish_a
    → JoinsFinish B W HeldB ShowsB held_b shows_b own_b finish_b
    → JoinsFinish (A × B) (V × W) (λ S. HeldA (HeldB S)) (λ X. ShowsA (ShowsB X))
    (λ S o s. held_a (HeldB S) o.0 (held_b S o.1 s))
    (λ X v x. shows_a (ShowsB X) v.0 (shows_b X v.1 x))
    (finish_both own_a own_b) (λ S X others. finish_a (HeldB S) (ShowsB X) (finish_b S X others))
both_finish A B V W HeldA HeldB ShowsA ShowsB held_a held_b shows_a shows_b own_a own_b finish_a finish_b joins_a joins_b S X others own s =
    joins_a (HeldB S) (ShowsB X) (finish_b S X others) own.0 (held_b S own.1 s)
    ∙ ap (both_there (shows_a (ShowsB X)) (own_a own.0)) (joins_b S X others own.1 s)
    ∙ both_shown (shows_a (ShowsB X)) (shows_b X) (own_a own.0) (own_b own.1) (others s)
