-- The views that types have of lists and maps, and the steps that reading them takes.
use Rattle.std.specs.Prelude.{◌≡◌, ◌||◌, ℕ, ◌+◌, ◌-◌, ◌≤◌, max, Bool, false, List, [], ◌∷◌, Option, None, Some, option_map, option_and_then, Result, MatchResult, map, String, string_bytes}
use Rattle.std.specs.declared.alloc.Global.{Global}
use Rattle.std.proofs.Common.{sym, subst}
use Rattle.std.specs.BTreeMap.{insert_entry}
use Rattle.dagcbor_heads.specs.Reading.{Reading, Stays, with_steps}
use Rattle.dagcbor_core.specs.declared.error.DecodeError.{DecodeError}
use Rattle.ipld_tree.specs.Key.{key_cmp}
use Rattle.ipld_tree.specs.Tree.{Tree, list, mapping, Items, no_items, item, Entries, no_entries, entry}
use Rattle.dagcbor_items.specs.Items.{HasRow}
use Rattle.dagcbor_items.specs.Entries.{AllFollow, HasEntryRow}
use Rattle.ipld_tree.specs.Spelling.{item_count, entry_count, AreFronts, AreEntryFronts}
use Rattle.dagcbor_read.specs.Deserializers.{DeState}
use Rattle.dagcbor_items.specs.TypedReads.{RefusesRead}
use Rattle.dagcbor_read.specs.Accessors.{AccessorState}
use Rattle.dagcbor_items.specs.Shapes.{Shape, takes_none, takes_some, unless_lent}

-- ---- lists

-- The view of a list is the view of the row of its items.
abbrev pub view_list : {V : Type 0} → (Items → Option V) → Tree → Option V
view_list view (list ts) = view ts
view_list view _ = None

-- a step for the list, and what its items need
abbrev pub need_list : (Items → ℕ) → Tree → ℕ
need_list need (list ts) = 1 + need ts
need_list need _ = 1

-- a list whose items are read as this row
abbrev pub list_of : {V : Type 0} → Shape Items V → Shape Tree V
list_of row = record {
  view = view_list row.view;
  need = need_list row.need;
  wants_loan = row.wants_loan;
  memory = row.memory;
}

-- the view of items that are all of one type
abbrev pub view_items : {V : Type 0} → (Tree → Option V) → Items → Option (List V)
view_items view no_items = Some []
view_items view (item t ts) = option_and_then (λ v. option_map (λ vs. v ∷ vs) (view_items view ts)) (view t)

-- the greatest need of an item
abbrev pub need_items : (Tree → ℕ) → Items → ℕ
need_items need no_items = 0
need_items need (item t ts) = max (need t) (need_items need ts)

-- items that are all read as one type
abbrev pub all_of : {V : Type 0} → Shape Tree V → Shape Items (List V)
all_of shape = record {
  view = view_items shape.view;
  need = need_items shape.need;
  wants_loan = shape.wants_loan;
  memory = takes_some;
}

-- the view of a row that must be empty
abbrev pub view_none : Items → Option (Unit {0})
view_none no_items = Some tt
view_none (item t ts) = None

-- a row that must be empty
abbrev pub no_more : Shape Items (Unit {0})
no_more = record { view = view_none; need = λ ts. 0; wants_loan = false; memory = takes_none }

-- the view of an item of its own type, before other items
abbrev pub view_first : {V W : Type 0} → (Tree → Option V) → (Items → Option W) → Items
    → Option (V × W)
view_first view others no_items = None
view_first view others (item t ts) = option_and_then (λ v. option_map (λ w. (v, w)) (others ts)) (view t)

-- the greater of what the first item needs and what the others need
abbrev pub need_first : (Tree → ℕ) → (Items → ℕ) → Items → ℕ
need_first need others no_items = 0
need_first need others (item t ts) = max (need t) (others ts)

-- one item of a type, and others after it
abbrev pub first_then : {V W : Type 0} → Shape Tree V → Shape Items W → Shape Items (V × W)
first_then shape others = record {
  view = view_first shape.view others.view;
  need = need_first shape.need others.need;
  wants_loan = shape.wants_loan || others.wants_loan;
  memory = λ lends. shape.memory lends || others.memory lends;
}

-- the view of an item of its own type, before other items; it is absent if no item is left
abbrev pub view_optional : {V W : Type 0} → (Tree → Option V) → (Items → Option W) → Items
    → Option (Option V × W)
view_optional view others no_items = option_map (λ w. (None, w)) (others no_items)
view_optional view others (item t ts) = option_and_then (λ v. option_map (λ w. (Some v, w)) (others ts)) (view t)

-- the greater of what the first item needs, if there is one, and what the others need
abbrev pub need_optional : (Tree → ℕ) → (Items → ℕ) → Items → ℕ
need_optional need others no_items = others no_items
need_optional need others (item t ts) = max (need t) (others ts)

-- at most one item of a type, and others after it
abbrev pub optional_then : {V W : Type 0} → Shape Tree V → Shape Items W
    → Shape Items (Option V × W)
optional_then shape others = record {
  view = view_optional shape.view others.view;
  need = need_optional shape.need others.need;
  wants_loan = shape.wants_loan || others.wants_loan;
  memory = λ lends. shape.memory lends || others.memory lends;
}

-- `count` items with the view v were at the front, and were taken
pub record TakesRow {V : Type 0} (shape : Shape Items V) (count : ℕ) (old : Reading) (v : V) (new : Reading) : Type 0 where
  pub taken : (b : List ℕ) → old.left ≡ Some b
      → (ts : Items) × (rest : List ℕ) × (item_count ts ≡ count) × AreFronts b ts rest
      × (shape.view ts ≡ Some v) × (shape.need ts ≤ old.steps) × (new.left ≡ Some rest)
  pub same : Stays old new

-- The items of a list that was begun are read, from the first that is left. If all items left make
-- a row, all are taken.
abbrev pub ReadsRow : {T V E : Type 0} → (T → V) → Shape Items V → AccessorState → DeState
    → Result T (DecodeError E) → AccessorState → DeState → Type 0
ReadsRow meaning shape before old result after new = MatchResult result
    (λ v. (new.failed ≡ false) × (after ≡ record before { left = after.left }) × (after.left ≤ before.left)
    × TakesRow shape (before.left - after.left) old.input (meaning v) new.input
    × (HasRow shape before.left old.input → after.left ≡ 0))
    (λ e. RefusesRead (HasRow shape before.left old.input) shape old.input e new.input)

-- All items left of a list that was begun are read, and the list ends: its steps are given back.
abbrev pub ReadsRest : {T V E : Type 0} → (T → V) → Shape Items V → AccessorState → DeState
    → Result T (DecodeError E) → DeState → Type 0
ReadsRest meaning shape before old result new = MatchResult result
    (λ v. (new.failed ≡ false) × (now : Reading) × TakesRow shape before.left old.input (meaning v) now × (new.input ≡ with_steps (now.steps + before.steps) now))
    (λ e. RefusesRead (HasRow shape before.left old.input) shape old.input e new.input)

-- If neither wants a loan, both together want none.
abbrev pub neither : {a b : Bool} → a ≡ false → b ≡ false → (a || b) ≡ false
neither {a} {b} e h = subst (λ x. (x || b) ≡ false) (sym e) h

-- ---- maps

-- How a type takes a map's entries into its state, one after another.
pub record FieldShape (S : Type 0) : Type 0 where
  -- the state after the value of a key; `None` if the value is not accepted
  pub take : S → List ℕ → Tree → Option S
  -- the steps that reading the value of a key takes
  pub need : List ℕ → Tree → ℕ
  -- whether reading it wants a loan of the input
  pub wants_loan : Bool
  -- whether reading a value may take memory, depending on whether the input lends
  pub memory : Bool → Bool

-- The state after all entries of a map.
abbrev pub view_entries : {S : Type 0} → (S → List ℕ → Tree → Option S) → S → Entries → Option S
view_entries take state no_entries = Some state
view_entries take state (entry k t es) = option_and_then (λ next. view_entries take next es) (take state k t)

-- the state after a map's entries, from the state at the start
abbrev pub view_fields : {S : Type 0} → (S → List ℕ → Tree → Option S) → S → Tree → Option S
view_fields take start (mapping es) = view_entries take start es
view_fields take start _ = None

-- the greatest need of a value, which may depend on its key
abbrev pub need_entries : (List ℕ → Tree → ℕ) → Entries → ℕ
need_entries need no_entries = 0
need_entries need (entry k t es) = max (need k t) (need_entries need es)

-- a step for the map, and what its values need
abbrev pub need_fields : (List ℕ → Tree → ℕ) → Tree → ℕ
need_fields need (mapping es) = 1 + need_entries need es
need_fields need _ = 1

-- a value, of this key, that changes the state
abbrev pub value_of : {S : Type 0} → FieldShape S → S → List ℕ → Shape Tree S
value_of shape s k = record {
  view = shape.take s k;
  need = shape.need k;
  wants_loan = shape.wants_loan;
  memory = shape.memory;
}

-- whether reading the fields may take memory: keys take none if the input lends
abbrev pub fields_memory : {S : Type 0} → FieldShape S → Bool → Bool
fields_memory shape lends = unless_lent lends || shape.memory lends

-- a map whose entries are taken one by one
abbrev pub fields_of : {S : Type 0} → FieldShape S → S → Shape Tree S
fields_of shape start = record {
  view = view_fields shape.take start;
  need = need_fields shape.need;
  wants_loan = shape.wants_loan;
  memory = fields_memory shape;
}

-- entries that are taken one after another, from a state on
abbrev pub all_entries : {S : Type 0} → FieldShape S → S → Shape Entries S
all_entries shape state = record {
  view = view_entries shape.take state;
  need = need_entries shape.need;
  wants_loan = shape.wants_loan;
  memory = fields_memory shape;
}

-- `count` entries are at the front, after the last key, and the state takes them
abbrev pub HasFields : {S : Type 0} → FieldShape S → S → Option (List ℕ) → ℕ → Reading → Type 0
HasFields shape state = HasEntryRow (all_entries shape state)

-- `count` entries were at the front, after the last key. They were taken, and changed the state to
-- s.
pub record TakesFields {S : Type 0} (shape : FieldShape S) (state : S) (last : Option (List ℕ)) (count : ℕ) (old : Reading) (s : S) (new : Reading) : Type 0 where
  pub taken : (b : List ℕ) → old.left ≡ Some b
      → (es : Entries) × (rest : List ℕ) × (entry_count es ≡ count) × AllFollow last es
      × AreEntryFronts b es rest × (view_entries shape.take state es ≡ Some s)
      × (need_entries shape.need es ≤ old.steps) × (new.left ≡ Some rest)
  pub same : Stays old new

-- All entries left of a map that was begun are read, and the map ends: its steps are given back.
abbrev pub ReadsEntriesLeft : {T S E : Type 0} → (T → S) → FieldShape S → S → AccessorState
    → DeState → Result T (DecodeError E) → DeState → Type 0
ReadsEntriesLeft meaning shape start before old result new = MatchResult result
    (λ v. (new.failed ≡ false) × (now : Reading) × TakesFields shape start before.last before.left old.input (meaning v) now × (new.input ≡ with_steps (now.steps + before.steps) now))
    (λ e. RefusesRead (HasFields shape start before.last before.left old.input)
    (all_entries shape start) old.input e new.input)

-- the view of a value as the filled place of a field
abbrev pub view_slot : {V : Type 0} → (Tree → Option V) → Tree → Option (Option V)
view_slot view t = option_map Some (view t)

-- a value that fills an empty place
abbrev pub slot_of : {V : Type 0} → Shape Tree V → Shape Tree (Option V)
slot_of shape = record {
  view = view_slot shape.view;
  need = shape.need;
  wants_loan = shape.wants_loan;
  memory = shape.memory;
}

-- what was read before, finished into a value
abbrev pub finishing : {S V : Type 0} → (S → Option V) → Shape Tree S → Shape Tree V
finishing finish shape = record {
  view = λ t. option_and_then finish (shape.view t);
  need = shape.need;
  wants_loan = shape.wants_loan;
  memory = shape.memory;
}

-- a struct, finished from its fields
abbrev pub struct_of : {S V : Type 0} → FieldShape S → S → (S → Option V) → Shape Tree V
struct_of shape start finish = finishing finish (fields_of shape start)

-- the keys as bytes, and the views of the values
abbrev pub held_pairs : {A V : Type 0} → (A → V) → List (String Global × A) → List (List ℕ × V)
held_pairs meaning es = map (λ e. (string_bytes e.0, meaning e.1)) es

-- the pairs, sorted by insertion in the order of their keys
abbrev pub in_key_order : {V : Type 0} → List (List ℕ × V) → List (List ℕ × V)
in_key_order [] = []
in_key_order (p ∷ ps) = insert_entry key_cmp (in_key_order ps) p.0 p.1

-- the view of a value goes to the place of its key
abbrev pub take_entry : {V : Type 0} → (Tree → Option V) → List (List ℕ × V) → List ℕ → Tree
    → Option (List (List ℕ × V))
take_entry view pairs k t = option_map (λ v. insert_entry key_cmp pairs k v) (view t)

-- the pairs of a map whose values are all of one type
abbrev pub values_of : {V : Type 0} → Shape Tree V → FieldShape (List (List ℕ × V))
values_of shape = record {
  take = take_entry shape.view;
  need = λ k t. shape.need t;
  wants_loan = shape.wants_loan;
  memory = takes_some;
}

-- A map whose values all have a view. Its view is the pairs in the order of their keys.
abbrev pub map_of : {V : Type 0} → Shape Tree V → Shape Tree (List (List ℕ × V))
map_of shape = fields_of (values_of shape) []
