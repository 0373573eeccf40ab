-- What a type is shown is shown by one tree alone: by leaves, and by maps that have no other fields.
use Rattle.std.proofs.Common.{◌≡◌, ◌≢◌, ◌⊎◌, inl, inr, ℕ, pos, negsuc, List, [], ◌∷◌, map, Bool, true, false, Equal, Less, refl, sym, ap, ap₂, ◌∙◌, subst, Option, Some, None, option_map}
use Rattle.std.specs.Prelude.{if◌then◌else◌, nat_lt, option_and_then}
use Rattle.std.specs.Str.{bytes_eq}
use Rattle.std.specs.Ordering.{is_lt}
use Rattle.std.proofs.lemmas.Slice.Eq.{bytes_eq-Decides}
use Rattle.ipld_tree.specs.Key.{key_cmp}
use Rattle.ipld_tree.specs.Tree.{Tree, null, boolean, integer, text, bytes, list, mapping, link, Items, no_items, item, Entries, no_entries, entry, IsTree, AreItems, AreEntries, Precedes, items_of, ordered_entries}
use Rattle.ipld_tree.proofs.Ordered.{KeyAndTree, IsRising, Has, key_cmp_same, above, same_entries, HasPair, ordered_has, has_ordered, AreDistinct, rising_ordered}
use Rattle.dagcbor_items.specs.Shapes.{Shape, view_unsigned, view_text, view_bytes, view_link, option_of}
use Rattle.dagcbor_read.specs.Collections.{view_items, list_of, all_of, FieldShape, view_entries}
use Rattle.dagcbor_read.specs.Structs.{StructShape, place, struct_shape, required_field, no_other_fields}

-- the one tree that shows v
abbrev pub IsShownBy : {V : Type 0} → Shape Tree V → (V → Tree) → Type 0
IsShownBy {V} shape make = (t : Tree) (v : V) → IsTree t → shape.view t ≡ Some v → t ≡ make v

-- ---- leaves

unsigned_by : (n bound v : ℕ) (b : Bool) → (if b then Some n else None) ≡ Some v → integer (pos n) ≡ integer (pos v)
unsigned_by n bound v true h = let e : n ≡ v = cc h in ap (λ x. integer (pos x)) e
unsigned_by n bound v false h = absurd (cc h)

pub unsigned_shown : (bound : ℕ) (t : Tree) (v : ℕ) → view_unsigned bound t ≡ Some v → t ≡ integer (pos v)
unsigned_shown bound (integer (pos n)) v h = unsigned_by n bound v (nat_lt n bound) h
unsigned_shown bound (integer (negsuc n)) v h = absurd (cc h)
unsigned_shown bound _ v h = absurd (cc h)

pub text_shown : (t : Tree) (v : List ℕ) → view_text t ≡ Some v → t ≡ text v
text_shown (text s) v h = let e : s ≡ v = cc h in ap (λ x. text x) e
text_shown _ v h = absurd (cc h)

pub bytes_shown : (t : Tree) (v : List ℕ) → view_bytes t ≡ Some v → t ≡ bytes v
bytes_shown (bytes s) v h = let e : s ≡ v = cc h in ap (λ x. bytes x) e
bytes_shown _ v h = absurd (cc h)

pub link_shown : (t : Tree) (v : List ℕ) → view_link t ≡ Some v → t ≡ link v
link_shown (link s) v h = let e : s ≡ v = cc h in ap (λ x. link x) e
link_shown _ v h = absurd (cc h)

-- ---- options and lists

abbrev pub option_made : {V : Type 0} → (V → Tree) → Option V → Tree
option_made make None = null
option_made make (Some v) = make v

module _ {V : Type 0} (shape : Shape Tree V) (make : V → Tree) (shown : IsShownBy shape make) where
  some_by : (t : Tree) (o r : Option V) → IsTree t → shape.view t ≡ r → option_map Some r ≡ Some o → t ≡ option_made make o
  some_by t o None w e h = absurd (cc h)
  some_by t o (Some v) w e h = let same : Some v ≡ o = cc h in subst (λ x. t ≡ option_made make x) same (shown t v w e)

  some_shown : (t : Tree) (o : Option V) → IsTree t → option_map Some (shape.view t) ≡ Some o → t ≡ option_made make o
  some_shown t o w h = some_by t o (shape.view t) w refl h

  pub option_shown : IsShownBy (option_of shape) (option_made make)
  option_shown null o w h = let same : None ≡ o = cc h in subst (λ x. null ≡ option_made make x) same refl
  option_shown (boolean b) o w h = some_shown (boolean b) o w h
  option_shown (integer n) o w h = some_shown (integer n) o w h
  option_shown (text s) o w h = some_shown (text s) o w h
  option_shown (bytes s) o w h = some_shown (bytes s) o w h
  option_shown (list ts) o w h = some_shown (list ts) o w h
  option_shown (mapping es) o w h = some_shown (mapping es) o w h
  option_shown (link c) o w h = some_shown (link c) o w h

  items_by : (t : Tree) (ts : Items) (vs : List V) (r : Option V) (q : Option (List V)) → IsTree t → shape.view t ≡ r
      → ((ws : List V) → q ≡ Some ws → ts ≡ items_of (map make ws)) → option_and_then (λ v. option_map (λ ws. v ∷ ws) q) r ≡ Some vs → item t ts ≡ items_of (map make vs)
  items_by t ts vs None q w e more h = absurd (cc h)
  items_by t ts vs (Some v) None w e more h = absurd (cc h)
  items_by t ts vs (Some v) (Some ws) w e more h =
      let same : v ∷ ws ≡ vs = cc h in subst (λ xs. item t ts ≡ items_of (map make xs)) same (ap₂ (λ x xs. item x xs) (shown t v w e) (more ws refl))

  items_shown : (ts : Items) (vs : List V) → AreItems ts → view_items shape.view ts ≡ Some vs → ts ≡ items_of (map make vs)
  items_shown no_items vs w h = let same : [] ≡ vs = cc h in subst (λ xs. no_items ≡ items_of (map make xs)) same refl
  items_shown (item t ts) vs w h = items_by t ts vs (shape.view t) (view_items shape.view ts) w.0 refl (λ ws e. items_shown ts ws w.1 e) h

  pub list_shown : IsShownBy (list_of (all_of shape)) (λ vs. list (items_of (map make vs)))
  list_shown (list ts) vs w h = ap (λ xs. list xs) (items_shown ts vs w h)
  list_shown _ vs w h = absurd (cc h)

-- ---- entries but for those of a name

without : List ℕ → Entries → Entries
without name no_entries = no_entries
without name (entry k t es) = if bytes_eq k name then without name es else entry k t (without name es)

is_name : (k name : List ℕ) → bytes_eq k name ≡ true → k ≡ name
is_name k name e = (bytes_eq-Decides k name).0 e

not_name : (k name : List ℕ) → bytes_eq k name ≡ false → k ≢ name
not_name k name e same = let yes = (bytes_eq-Decides k name).1 same in absurd (cc (e, yes))

without_has_by : (name : List ℕ) (l : List ℕ) (u : Tree) (es : Entries) (k : List ℕ) (t : Tree) (b : Bool) → bytes_eq l name ≡ b
    → (Has (without name es) k t → Has es k t × (k ≢ name)) → Has (if b then without name es else entry l u (without name es)) k t → Has (entry l u es) k t × (k ≢ name)
without_has_by name l u es k t true e more h = let m = more h in (inr m.0, m.1)
without_has_by name l u es k t false e more (inl same) = (inl same, λ is. not_name l name e (same.0 ∙ is))
without_has_by name l u es k t false e more (inr h) = let m = more h in (inr m.0, m.1)

without_has : (name : List ℕ) (es : Entries) (k : List ℕ) (t : Tree) → Has (without name es) k t → Has es k t × (k ≢ name)
unfolding without
without_has name no_entries k t h = absurd h
without_has name (entry l u es) k t h = without_has_by name l u es k t (bytes_eq l name) refl (without_has name es k t) h

has_without_by : (name : List ℕ) (l : List ℕ) (u : Tree) (es : Entries) (k : List ℕ) (t : Tree) (b : Bool) → bytes_eq l name ≡ b → k ≢ name
    → (Has es k t → Has (without name es) k t) → Has (entry l u es) k t → Has (if b then without name es else entry l u (without name es)) k t
has_without_by name l u es k t true e other more (inl same) = absurd (other (sym same.0 ∙ is_name l name e))
has_without_by name l u es k t true e other more (inr h) = more h
has_without_by name l u es k t false e other more (inl same) = inl same
has_without_by name l u es k t false e other more (inr h) = inr (more h)

has_without : (name : List ℕ) (es : Entries) (k : List ℕ) (t : Tree) → k ≢ name → Has es k t → Has (without name es) k t
unfolding without
has_without name no_entries k t other h = absurd h
has_without name (entry l u es) k t other h = has_without_by name l u es k t (bytes_eq l name) refl other (has_without name es k t other) h

precedes_all : (k : List ℕ) (es : Entries) → ((l : List ℕ) (t : Tree) → Has es l t → key_cmp k l ≡ Less) → Precedes k es
precedes_all k no_entries f = tt
precedes_all k (entry l u es) f = ap is_lt (f l u (inl (refl, refl)))

rising_by : (name : List ℕ) (l : List ℕ) (u : Tree) (es : Entries) (b : Bool) → IsRising (entry l u es) → IsRising (without name es) → IsRising (if b then without name es else entry l u (without name es))
rising_by name l u es true r more = more
rising_by name l u es false r more = (precedes_all l (without name es) (λ m t h. above l es r.0 r.1 m t (without_has name es m t h).0), more)

rising_without : (name : List ℕ) (es : Entries) → IsRising es → IsRising (without name es)
unfolding without
rising_without name no_entries r = tt
rising_without name (entry l u es) r = rising_by name l u es (bytes_eq l name) r (rising_without name es r.1)

-- a key occurs once
stands_once : (l : List ℕ) (es : Entries) (u t : Tree) (name : List ℕ) → IsRising (entry l u es) → l ≡ name → Has es name t → ⊥
stands_once l es u t name r is h =
    let less : Equal ≡ Less = sym (key_cmp_same l) ∙ ap (key_cmp l) is ∙ above l es r.0 r.1 name t h in absurd (cc less)

-- ---- a field before others

module _ {V S : Type 0} (name : List ℕ) (shape : Shape Tree V) (others : FieldShape S) where
  abbrev takes : Option V × S → List ℕ → Tree → Option (Option V × S)
  takes = (place name shape others).take

  abbrev next_of : Bool → Option V → Option S → Option V → S → Option (Option V × S)
  next_of b w o a s = if b then option_map (λ v. (Some v, s)) w else option_map (λ x. (a, x)) o

  abbrev goes_on : Entries → Option (Option V × S) → Option (Option V × S)
  goes_on es next = option_and_then (λ n. view_entries takes n es) next

  -- the others take what is left
  others_by : (es : Entries) (k : List ℕ) (t : Tree) (a : Option V) (s : S) (r : Option V × S) (b : Bool) (w : Option V) (o : Option S) → others.take s k t ≡ o
      → ((c : Option V) (x : S) → view_entries takes (c, x) es ≡ Some r → view_entries others.take x (without name es) ≡ Some r.1)
      → goes_on es (next_of b w o a s) ≡ Some r → view_entries others.take s (if b then without name es else entry k t (without name es)) ≡ Some r.1
  others_by es k t a s r true None o e more h = absurd (cc h)
  others_by es k t a s r true (Some v) o e more h = more (Some v) s h
  others_by es k t a s r false w None e more h = absurd (cc h)
  others_by es k t a s r false w (Some x) e more h = ap (λ q. option_and_then (λ n. view_entries others.take n (without name es)) q) e ∙ more a x h

  others_take : (es : Entries) (a : Option V) (s : S) (r : Option V × S) → view_entries takes (a, s) es ≡ Some r → view_entries others.take s (without name es) ≡ Some r.1
  unfolding without
  others_take no_entries a s r h = let same : (a, s) ≡ r = cc h in ap (λ x. Some x.1) same
  others_take (entry k t es) a s r h = others_by es k t a s r (bytes_eq k name) (shape.view t) (others.take s k t) refl (λ c x g. others_take es c x r g) h

  -- the first stays as it is if no key is its own
  kept_by : (es : Entries) (k : List ℕ) (t : Tree) (a : Option V) (s : S) (r : Option V × S) (b : Bool) (w : Option V) (o : Option S) → bytes_eq k name ≡ b
      → ((u : Tree) → Has (entry k t es) name u → ⊥) → ((x : S) → view_entries takes (a, x) es ≡ Some r → r.0 ≡ a) → goes_on es (next_of b w o a s) ≡ Some r → r.0 ≡ a
  kept_by es k t a s r true w o e none more h = absurd (none t (inl (is_name k name e, refl)))
  kept_by es k t a s r false w None e none more h = absurd (cc h)
  kept_by es k t a s r false w (Some x) e none more h = more x h

  first_kept : (es : Entries) (a : Option V) (s : S) (r : Option V × S) → ((u : Tree) → Has es name u → ⊥) → view_entries takes (a, s) es ≡ Some r → r.0 ≡ a
  first_kept no_entries a s r none h = let same : (a, s) ≡ r = cc h in ap (λ x. x.0) (sym same)
  first_kept (entry k t es) a s r none h = kept_by es k t a s r (bytes_eq k name) (shape.view t) (others.take s k t) refl none (λ x g. first_kept es a x r (λ u i. none u (inr i)) g) h

  -- it is what the value of its key shows
  found_by : (es : Entries) (k : List ℕ) (u : Tree) (a : Option V) (s : S) (r : Option V × S) (t : Tree) (b : Bool) (w : Option V) (o : Option S) → bytes_eq k name ≡ b → shape.view u ≡ w
      → IsRising (entry k u es) → ((x : S) → view_entries takes (a, x) es ≡ Some r → Has es name t → r.0 ≡ shape.view t)
      → goes_on es (next_of b w o a s) ≡ Some r → Has (entry k u es) name t → r.0 ≡ shape.view t
  found_by es k u a s r t true None o e f rise more h g = absurd (cc h)
  found_by es k u a s r t true (Some v) o e f rise more h (inl same) =
      first_kept es (Some v) s r (λ x i. stands_once k es u x name rise (is_name k name e) i) h ∙ sym f ∙ ap shape.view same.1
  found_by es k u a s r t true (Some v) o e f rise more h (inr i) = absurd (stands_once k es u t name rise (is_name k name e) i)
  found_by es k u a s r t false w None e f rise more h g = absurd (cc h)
  found_by es k u a s r t false w (Some x) e f rise more h (inl same) = absurd (not_name k name e same.0)
  found_by es k u a s r t false w (Some x) e f rise more h (inr i) = more x h i

  first_found : (es : Entries) (a : Option V) (s : S) (r : Option V × S) (t : Tree) → IsRising es → view_entries takes (a, s) es ≡ Some r → Has es name t → r.0 ≡ shape.view t
  first_found no_entries a s r t rise h i = absurd i
  first_found (entry k u es) a s r t rise h i = found_by es k u a s r t (bytes_eq k name) (shape.view u) (others.take s k u) refl refl rise (λ x g j. first_found es a x r t rise.1 g j) h i

  -- it comes of the start, or of a value of its key
  abbrev ComesOf : Entries → Option V → V → Type 0
  ComesOf es a v = (a ≡ Some v) ⊎ ((t : Tree) × Has es name t × (shape.view t ≡ Some v))

  later : (k : List ℕ) (u : Tree) (es : Entries) (a : Option V) (v : V) → ComesOf es a v → ComesOf (entry k u es) a v
  later k u es a v (inl e) = inl e
  later k u es a v (inr (t, i, f)) = inr (t, inr i, f)

  here : (k : List ℕ) (u : Tree) (es : Entries) (a : Option V) (w v : V) → k ≡ name → shape.view u ≡ Some w → ComesOf es (Some w) v → ComesOf (entry k u es) a v
  here k u es a w v is f (inl e) = inr (u, inl (is, refl), f ∙ e)
  here k u es a w v is f (inr (t, i, g)) = inr (t, inr i, g)

  from_by : (es : Entries) (k : List ℕ) (u : Tree) (a : Option V) (s : S) (r : Option V × S) (v : V) (b : Bool) (w : Option V) (o : Option S) → bytes_eq k name ≡ b → shape.view u ≡ w
      → ((c : Option V) (x : S) → view_entries takes (c, x) es ≡ Some r → ComesOf es c v) → goes_on es (next_of b w o a s) ≡ Some r → ComesOf (entry k u es) a v
  from_by es k u a s r v true None o e f more h = absurd (cc h)
  from_by es k u a s r v true (Some w) o e f more h = here k u es a w v (is_name k name e) f (more (Some w) s h)
  from_by es k u a s r v false w None e f more h = absurd (cc h)
  from_by es k u a s r v false w (Some x) e f more h = later k u es a v (more a x h)

  first_from : (es : Entries) (a : Option V) (s : S) (r : Option V × S) (v : V) → r.0 ≡ Some v → view_entries takes (a, s) es ≡ Some r → ComesOf es a v
  first_from no_entries a s r v e h = let same : (a, s) ≡ r = cc h in inl (ap (λ x. x.0) same ∙ e)
  first_from (entry k u es) a s r v e h = from_by es k u a s r v (bytes_eq k name) (shape.view u) (others.take s k u) refl refl (λ c x g. first_from es c x r v e g) h

-- ---- rows of fields

abbrev AreTrees : Entries → Type 0
AreTrees es = (k : List ℕ) (t : Tree) → Has es k t → IsTree t

-- the entries are those of these pairs
abbrev pub HasThese : Entries → List KeyAndTree → Type 0
HasThese es ps = ((k : List ℕ) (t : Tree) → Has es k t → HasPair ps k t) × ((k : List ℕ) (t : Tree) → HasPair ps k t → Has es k t)

-- what entries show to these fields they show by these pairs alone
abbrev pub AreShownBy : {S V : Type 0} → StructShape S V → (V → List KeyAndTree) → Type 0
AreShownBy {S} {V} row pairs = (es : Entries) (s : S) (v : V) → IsRising es → AreTrees es → view_entries row.fields.take row.unread es ≡ Some s → row.finish s ≡ Some v → HasThese es (pairs v)

-- no others
pub closed_shown : AreShownBy no_other_fields (λ v. [])
closed_shown no_entries s v rise trees h f = (λ k t i. i, λ k t i. i)
closed_shown (entry k t es) s v rise trees h f = absurd (cc h)

module _ {V S W : Type 0} (name : List ℕ) (shape : Shape Tree V) (make : V → Tree) (shown : IsShownBy shape make) (others : StructShape S W) (pairs : W → List KeyAndTree) (more : AreShownBy others pairs) where
  finish_by : (a : Option V) (o : Option W) (v : V × W) → option_and_then (λ x. option_map (λ w. (x, w)) o) a ≡ Some v → (a ≡ Some v.0) × (o ≡ Some v.1)
  finish_by None o v h = absurd (cc h)
  finish_by (Some x) None v h = absurd (cc h)
  finish_by (Some x) (Some w) v h = let same : (x, w) ≡ v = cc h in (ap (λ p. Some p.0) same, ap (λ p. Some p.1) same)

  required_by : (es : Entries) (s : Option V × S) (v : V × W) → IsRising es → AreTrees es → view_entries (place name shape others.fields).take (None, others.unread) es ≡ Some s
      → (s.0 ≡ Some v.0) × (others.finish s.1 ≡ Some v.1) → HasThese (without name es) (pairs v.1) → HasThese es ((name, make v.0) ∷ pairs v.1)
  required_by es s v rise trees h f rest = (there, back)
    where
      there : (k : List ℕ) (t : Tree) → Has es k t → HasPair ((name, make v.0) ∷ pairs v.1) k t
      there k t i = by (bytes_eq k name) refl
        where
          by : (b : Bool) → bytes_eq k name ≡ b → HasPair ((name, make v.0) ∷ pairs v.1) k t
          by true e =
              let is = is_name k name e in
              let at = subst (λ x. Has es x t) is i in
              inl (sym is, sym (shown t v.0 (trees k t i) (sym (first_found name shape others.fields es None others.unread s t rise h at) ∙ f.0)))
          by false e = inr (rest.0 k t (has_without name es k t (not_name k name e) i))

      back : (k : List ℕ) (t : Tree) → HasPair ((name, make v.0) ∷ pairs v.1) k t → Has es k t
      back k t (inl same) = elim (first_from name shape others.fields es None others.unread s v.0 f.0 h) [
        | inl e ↦ absurd (cc e)
        | inr (u, i, e) ↦ subst (λ x. Has es x t) same.0 (subst (λ x. Has es name x) (shown u v.0 (trees name u i) e ∙ same.1) i)
      ]
      back k t (inr p) = (without_has name es k t (rest.1 k t p)).0

  -- a field that is there, before others
  pub required_shown : AreShownBy (required_field name shape others) (λ v. (name, make v.0) ∷ pairs v.1)
  required_shown es s v rise trees h f =
      let parts = finish_by s.0 (others.finish s.1) v f in
      required_by es s v rise trees h parts (more (without name es) s.1 v.1 (rising_without name es rise) (λ k t i. trees k t (without_has name es k t i).0)
      (others_take name shape others.fields es None others.unread s h) parts.1)

-- ---- maps

rises : (es : Entries) → AreEntries es → IsRising es
rises no_entries w = tt
rises (entry k t es) w = (w.2, rises es w.3)

have_trees : (es : Entries) → AreEntries es → AreTrees es
have_trees no_entries w k t i = absurd i
have_trees (entry l u es) w k t (inl same) = subst IsTree same.1 w.1
have_trees (entry l u es) w k t (inr i) = have_trees es w.3 k t i

module _ {S V : Type 0} (row : StructShape S V) (pairs : V → List KeyAndTree) (shown : AreShownBy row pairs) (distinct : (v : V) → AreDistinct (pairs v)) where
  map_by : (es : Entries) (v : V) (o : Option S) → AreEntries es → view_entries row.fields.take row.unread es ≡ o → option_and_then row.finish o ≡ Some v → mapping es ≡ mapping (ordered_entries (pairs v))
  map_by es v None w e h = absurd (cc h)
  map_by es v (Some s) w e h =
      let these = shown es s v (rises es w) (have_trees es w) e h in
      ap (λ x. mapping x) (same_entries es (ordered_entries (pairs v)) (rises es w) (rising_ordered (pairs v) (distinct v))
      (λ k t i. ordered_has (pairs v) k t (these.0 k t i)) (λ k t i. these.1 k t (has_ordered (pairs v) k t i)))

  pub struct_shown : IsShownBy (struct_shape row) (λ v. mapping (ordered_entries (pairs v)))
  struct_shown (mapping es) v w h = map_by es v (view_entries row.fields.take row.unread es) w refl h
  struct_shown _ v w h = absurd (cc h)
