-- Groups of fields that are read before others: what they take and refuse, the row does.
use Rattle.std.proofs.Common.{◌≡◌, ℕ, List, ◌∷◌, Bool, true, false, refl, sym, ap, ◌∙◌, subst, Option, None, Some, IsSomeAnd, is_some, option_map, if◌then◌else◌, bytes_eq, Result, Ok, Err}
use Rattle.std.proofs.lemmas.Slice.Eq.{bytes_eq-Decides}
use Rattle.dagcbor_heads.specs.Reading.{Reading}
use Rattle.dagcbor_core.specs.declared.error.DecodeError.{DecodeError}
use Rattle.dagcbor_heads.proofs.Refusing.{refusal_carried}
use Rattle.ipld_tree.specs.Tree.{Tree}
use Rattle.dagcbor_items.specs.Entries.{HasName}
use Rattle.dagcbor_items.specs.Shapes.{Shape}
use Rattle.dagcbor_items.specs.TypedReads.{RefusesRead, HasFront, TakesFront, Anything}
use Rattle.dagcbor_read.specs.Accessors.{AccessorState, with_key, with_value}
use Rattle.dagcbor_read.specs.Collections.{FieldShape, value_of, slot_of}
use Rattle.dagcbor_read.specs.Deserializers.{DeState}
use Rattle.dagcbor_read.specs.Joining.{field_own, beside, either_own, IsLike, GoesTo, PassesOn, ReadsOwnNamed}
use Rattle.dagcbor_read.specs.Named.{TakesName, ReadsNamed, ReadsNamedValue}
use Rattle.dagcbor_read.specs.Values.{ReadsValue}
use Rattle.dagcbor_read.proofs.FieldPlaces.{other_name, takes_as, front_as}
use Rattle.dagcbor_read.proofs.NamedRows.{name_taken}

-- ---- what shows the same as a part

module _ {V W : Type 0} (held : V → W) (part : Shape Tree V) (whole : Shape Tree W) (like : IsLike held part whole) where
  takes_like : {old new : Reading} {v : V} → TakesFront part old v new → TakesFront whole old (held v) new
  takes_like h = takes_as held part whole like.view like.need h

  refuses_like : {E : Type 0} (old new : Reading) (e : DecodeError E) → RefusesRead (HasFront part old) part old e new → RefusesRead (HasFront whole old) whole old e new
  refuses_like old new e r = refusal_carried Anything Anything old old new e record { faults = refl; lends = refl }
      (λ front. front_as held part whole like.view like.need front) (like.memory old.lends) like.loan (λ b l g. tt) r

  reads_like : {T E : Type 0} (v : V) (old new : DeState) (r : Result T (DecodeError E)) → ReadsValue (λ _. v) part old r new → ReadsValue (λ _. held v) whole old r new
  reads_like v old new (Ok u) h sound = ((h sound).0, takes_like (h sound).1)
  reads_like v old new (Err e) h sound = refuses_like old.input new.input e (h sound)

-- ---- the value of a key

module _ {O S H T E : Type 0} (held : O → S → H) (own : O) (s : S) (others : List (List ℕ) → Shape Tree S) (following : List (List ℕ)) (whole : Shape Tree H) where
  -- it goes to the group
  pub field_own_read : (shape : Option (Shape Tree O)) (o : O) (old new : DeState) (r : Result T (DecodeError E)) → GoesTo held shape own s (others following) whole
      → IsSomeAnd shape (λ part. ReadsValue (λ _. o) part old r new) → ReadsValue (λ _. held o s) whole old r new
  field_own_read (Some part) o old new r like h = reads_like (λ x. held x s) part whole like o old new r h
  field_own_read None o old new r like h = absurd h

  -- it goes to the others
  passed_here : (shape : Option (Shape Tree O)) (after : S) (old new : DeState) (r : Result T (DecodeError E)) → GoesTo held shape own s (others following) whole
      → shape ≡ None → ReadsValue (λ _. after) (others following) old r new → ReadsValue (λ _. held own after) whole old r new
  passed_here (Some part) after old new r like is h = absurd (cc is)
  passed_here None after old new r like is h = reads_like (held own) (others following) whole like after old new r h

  pub field_passed_on : (shape : Option (Shape Tree O)) (o : O) (after : S) (names : List (List ℕ)) (old now new : DeState) (r : Result T (DecodeError E)) → GoesTo held shape own s (others following) whole
      → shape ≡ None → o ≡ own → now ≡ old → names ≡ following → ReadsValue (λ _. after) (others names) now r new → ReadsValue (λ _. held o after) whole old r new
  field_passed_on shape o after names old now new r like is kept same skipped h =
      subst (λ x. ReadsValue (λ _. held x after) whole old r new) (sym kept) (passed_here shape after old new r like is
      (subst (λ x. ReadsValue (λ _. after) (others following) x r new) same (subst (λ x. ReadsValue (λ _. after) (others x) now r new) skipped h)))

-- ---- an entry whose key a slice has whole

module _ {O S H : Type 0} (held : O → S → H) (shape : O → List ℕ → Option (Shape Tree O)) (others : List (List ℕ) → FieldShape S) (following : List (List ℕ)) (row : FieldShape H) (own : O) (s : S)
    (joins : (k : List ℕ) → GoesTo held (shape own k) own s (value_of (others following) s k) (value_of row (held own s) k))
  where
    like_own : (key : List ℕ) (part : Shape Tree O) → shape own key ≡ Some part → IsLike (λ o. held o s) part (value_of row (held own s) key)
    like_own key part is = subst (λ x. GoesTo held x own s (value_of (others following) s key) (value_of row (held own s) key)) is (joins key)

    like_others : (key : List ℕ) → shape own key ≡ None → IsLike (held own) (value_of (others following) s key) (value_of row (held own s) key)
    like_others key is = subst (λ x. GoesTo held x own s (value_of (others following) s key) (value_of row (held own s) key)) is (joins key)

    -- its value goes to the group
    pub own_in_row : {E : Type 0} (before after : AccessorState) (old new : DeState) (refusal : Option (DecodeError E)) (o : O)
        → ReadsOwnNamed shape own before old true refusal o after new → ReadsNamed row (held own s) before old true refusal (held o s) after new
    own_in_row before after old new refusal o h = record {
      key = h.key;
      mid = h.mid;
      begun = h.begun;
      counted = h.counted;
      sound = h.sound;
      value = takes_like (λ x. held x s) h.of_key (value_of row (held own s) h.key) (like_own h.key h.of_key h.is_own) h.value;
    }

    pub own_refused_in_row : {E : Type 0} (before after : AccessorState) (old new : DeState) (refusal : Option (DecodeError E)) (o : O) (t : H) → true ≡ is_some refusal
        → ReadsOwnNamed shape own before old false refusal o after new → ReadsNamed row (held own s) before old false refusal t after new
    own_refused_in_row before after old new None o t is h = absurd (cc is)
    own_refused_in_row before after old new (Some x) o t is h = record {
      key = h.key;
      mid = h.mid;
      begun = h.begun;
      refused = refuses_like (λ y. held y s) h.of_key (value_of row (held own s) h.key) (like_own h.key h.of_key h.is_own) h.mid.input new.input x h.refused;
    }

    -- it goes to the others
    others_here : {E : Type 0} (before after : AccessorState) (old new : DeState) (taken : Bool) (refusal : Option (DecodeError E)) (t : S)
        → ((k : List ℕ) → HasName before.last k old.input → shape own k ≡ None)
        → ReadsNamed (others following) s before old taken refusal t after new → ReadsNamed row (held own s) before old taken refusal (held own t) after new
    others_here before after old new true refusal t other h = record {
      key = h.key;
      mid = h.mid;
      begun = h.begun;
      counted = h.counted;
      sound = h.sound;
      value = takes_like (held own) (value_of (others following) s h.key) (value_of row (held own s) h.key) (like_others h.key (other h.key h.begun.is)) h.value;
    }
    others_here before after old new false (Some e) t other h = record {
      key = h.key;
      mid = h.mid;
      begun = h.begun;
      refused = refuses_like (held own) (value_of (others following) s h.key) (value_of row (held own s) h.key) (like_others h.key (other h.key h.begun.is)) h.mid.input new.input e h.refused;
    }
    others_here before after old new false None t other h = (ap (held own) h.0, h.1, h.2)

    pub others_in_row : {E : Type 0} (before mid after : AccessorState) (old now new : DeState) (none : Option (DecodeError E)) (taken : Bool) (refusal : Option (DecodeError E)) (o : O) (t : S) (names : List (List ℕ))
        → false ≡ is_some none → names ≡ following → ReadsOwnNamed shape own before old false none o mid now
        → ReadsNamed (others names) s mid now taken refusal t after new → ReadsNamed row (held own s) before old taken refusal (held o t) after new
    others_in_row before mid after old now new (Some e) taken refusal o t names is skipped p h = absurd (cc is)
    others_in_row before mid after old now new None taken refusal o t names is skipped p h =
        subst (λ x. ReadsNamed row (held own s) before old taken refusal (held x t) after new) (sym p.kept)
        (others_here before after old new taken refusal t p.other
        (subst (λ x. ReadsNamed (others following) s x old taken refusal t after new) p.counted (subst (λ x. ReadsNamed (others following) s mid x taken refusal t after new) p.same
        (subst (λ x. ReadsNamed (others x) s mid now taken refusal t after new) skipped h))))

-- ---- two groups

module _ {A B : Type 0} (first : A → List ℕ → Option (Shape Tree A)) (others : List (List ℕ) → B → List ℕ → Option (Shape Tree B)) (following : List (List ℕ)) (a : A) (b : B) where
  abbrev second : B → List ℕ → Option (Shape Tree B)
  second = others following

  abbrev both : A × B → List ℕ → Option (Shape Tree (A × B))
  both o k = either_own o.0 o.1 (first o.0 k) (second o.1 k)

  is_first : (key : List ℕ) (part : Shape Tree A) → first a key ≡ Some part → both (a, b) key ≡ Some (beside (λ x. (x, b)) part)
  is_first key part is = ap (λ x. either_own a b x (second b key)) is

  is_second : (key : List ℕ) (part : Shape Tree B) → first a key ≡ None → second b key ≡ Some part → both (a, b) key ≡ Some (beside (λ x. (a, x)) part)
  is_second key part none is = ap (λ x. either_own a b x (second b key)) none ∙ ap (option_map (beside (λ x. (a, x)))) is

  is_neither : (key : List ℕ) → first a key ≡ None → second b key ≡ None → both (a, b) key ≡ None
  is_neither key none is = ap (λ x. either_own a b x (second b key)) none ∙ ap (option_map (beside (λ x. (a, x)))) is

  like_beside : {V W : Type 0} (f : V → W) (shape : Shape Tree V) → IsLike f shape (beside f shape)
  like_beside f shape = record { view = λ t. refl; need = λ t. refl; loan = λ e. e; memory = λ lends e. e }

  pub first_taken : {E : Type 0} (before after : AccessorState) (old new : DeState) (refusal : Option (DecodeError E)) (o : A)
      → ReadsOwnNamed first a before old true refusal o after new → ReadsOwnNamed both (a, b) before old true refusal (o, b) after new
  first_taken before after old new refusal o h = record {
    key = h.key;
    mid = h.mid;
    of_key = beside (λ x. (x, b)) h.of_key;
    begun = h.begun;
    is_own = is_first h.key h.of_key h.is_own;
    counted = h.counted;
    sound = h.sound;
    value = takes_like (λ x. (x, b)) h.of_key (beside (λ x. (x, b)) h.of_key) (like_beside (λ x. (x, b)) h.of_key) h.value;
  }

  pub first_refused : {E : Type 0} (before after : AccessorState) (old new : DeState) (refusal : Option (DecodeError E)) (o : A) (t : A × B) → true ≡ is_some refusal
      → ReadsOwnNamed first a before old false refusal o after new → ReadsOwnNamed both (a, b) before old false refusal t after new
  first_refused before after old new None o t is h = absurd (cc is)
  first_refused before after old new (Some x) o t is h = record {
    key = h.key;
    mid = h.mid;
    of_key = beside (λ y. (y, b)) h.of_key;
    begun = h.begun;
    is_own = is_first h.key h.of_key h.is_own;
    refused = refuses_like (λ y. (y, b)) h.of_key (beside (λ y. (y, b)) h.of_key) (like_beside (λ y. (y, b)) h.of_key) h.mid.input new.input x h.refused;
  }

  second_here : {E : Type 0} (before after : AccessorState) (old new : DeState) (taken : Bool) (refusal : Option (DecodeError E)) (o : B)
      → ((k : List ℕ) → HasName before.last k old.input → first a k ≡ None)
      → ReadsOwnNamed second b before old taken refusal o after new → ReadsOwnNamed both (a, b) before old taken refusal (a, o) after new
  second_here before after old new true refusal o other h = record {
    key = h.key;
    mid = h.mid;
    of_key = beside (λ x. (a, x)) h.of_key;
    begun = h.begun;
    is_own = is_second h.key h.of_key (other h.key h.begun.is) h.is_own;
    counted = h.counted;
    sound = h.sound;
    value = takes_like (λ x. (a, x)) h.of_key (beside (λ x. (a, x)) h.of_key) (like_beside (λ x. (a, x)) h.of_key) h.value;
  }
  second_here before after old new false (Some e) o other h = record {
    key = h.key;
    mid = h.mid;
    of_key = beside (λ x. (a, x)) h.of_key;
    begun = h.begun;
    is_own = is_second h.key h.of_key (other h.key h.begun.is) h.is_own;
    refused = refuses_like (λ x. (a, x)) h.of_key (beside (λ x. (a, x)) h.of_key) (like_beside (λ x. (a, x)) h.of_key) h.mid.input new.input e h.refused;
  }
  second_here before after old new false None o other h = record {
    kept = ap (λ x. (a, x)) h.kept;
    counted = h.counted;
    same = h.same;
    other = λ k has. is_neither k (other k has) (h.other k has);
  }

  pub second_named : {E : Type 0} (before mid after : AccessorState) (old now new : DeState) (none : Option (DecodeError E)) (taken : Bool) (refusal : Option (DecodeError E)) (x : A) (o : B) (names : List (List ℕ))
      → false ≡ is_some none → names ≡ following → ReadsOwnNamed first a before old false none x mid now
      → ReadsOwnNamed (others names) b mid now taken refusal o after new → ReadsOwnNamed both (a, b) before old taken refusal (x, o) after new
  second_named before mid after old now new (Some e) taken refusal x o names is skipped p h = absurd (cc is)
  second_named before mid after old now new None taken refusal x o names is skipped p h =
      subst (λ y. ReadsOwnNamed both (a, b) before old taken refusal (y, o) after new) (sym p.kept)
      (second_here before after old new taken refusal o p.other
      (subst (λ y. ReadsOwnNamed second b y old taken refusal o after new) p.counted (subst (λ y. ReadsOwnNamed second b mid y taken refusal o after new) p.same
      (subst (λ y. ReadsOwnNamed (others y) b mid now taken refusal o after new) skipped h))))

-- ---- a field

module _ {V : Type 0} (name : List ℕ) (names : List (List ℕ)) (shape : Shape Tree V) (own : Option V) where
  of_name : field_own shape (name ∷ names) own name ≡ Some (slot_of shape)
  of_name = ap (λ (b : Bool). if b then Some (slot_of shape) else None) ((bytes_eq-Decides name name).1 refl)

  of_other : (k : List ℕ) → bytes_eq k name ≡ false → field_own shape (name ∷ names) own k ≡ None
  of_other k e = ap (λ (b : Bool). if b then Some (slot_of shape) else None) e

  like_slot : IsLike Some shape (slot_of shape)
  like_slot = record { view = λ t. refl; need = λ t. refl; loan = λ e. e; memory = λ lends e. e }

  -- the name was taken, and its value is read
  pub name_read : {E : Type 0} (before with_name after : AccessorState) (old mid new : DeState) (taken : Bool) (refusal : Option (DecodeError E)) (p : Option V)
      → with_name ≡ with_key name before → TakesName before.last name old mid → ReadsNamedValue shape with_name mid taken refusal p after new
      → ReadsOwnNamed (field_own shape (name ∷ names)) own before old taken refusal p after new
  name_read before with_name after old mid new true refusal (Some v) is h r = record {
    key = name;
    mid = mid;
    of_key = slot_of shape;
    begun = name_taken h;
    is_own = of_name;
    counted = r.0 ∙ ap with_value is;
    sound = r.1;
    value = takes_like Some shape (slot_of shape) like_slot r.2;
  }
  name_read before with_name after old mid new true refusal None is h r = absurd r
  name_read before with_name after old mid new false (Some e) p is h r = record {
    key = name;
    mid = mid;
    of_key = slot_of shape;
    begun = name_taken h;
    is_own = of_name;
    refused = refuses_like Some shape (slot_of shape) like_slot mid.input new.input e r;
  }
  name_read before with_name after old mid new false None p is h r = absurd r

  -- the name is not the next key
  pub name_passed_on : (before after : AccessorState) (old new : DeState) (o : Option V) → o ≡ own → after ≡ before → new ≡ old → ¬ HasName before.last name old.input
      → PassesOn (field_own shape (name ∷ names)) own before old o after new
  name_passed_on before after old new o kept counted same none = record {
    kept = kept;
    counted = counted;
    same = same;
    other = λ k has. of_other k (other_name (λ is. none (subst (λ x. HasName before.last x old.input) is has)));
  }
