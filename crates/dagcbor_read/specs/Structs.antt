-- The view that a struct has of a map's entries. Each field has a place.
use Rattle.std.specs.Prelude.{◌||◌, ℕ, List, [], ◌∷◌, map, Option, None, Some, option_map, option_and_then, if◌then◌else◌, false, bytes_eq}
use Rattle.std.specs.Option.{option_flatten}
use Rattle.std.specs.Borrow.{Bor}
use Rattle.ipld_tree.specs.Tree.{Tree, any_need}
use Rattle.dagcbor_items.specs.Shapes.{Shape, option_of, takes_none, unless_lent}
use Rattle.dagcbor_read.specs.Collections.{FieldShape, struct_of}

-- the texts that references point to
abbrev pub texts : List (Bor (List ℕ)) → List (List ℕ)
texts = map (λ s. s.now)

-- no place: the value of any key is skipped
abbrev pub no_places : FieldShape (Unit {0})
no_places = record { take = λ s k t. Some s; need = λ k t. any_need t; wants_loan = false; memory = unless_lent }

-- no place: no key is accepted
abbrev pub no_other_places : FieldShape (Unit {0})
no_other_places = record { take = λ s k t. None; need = λ k t. 0; wants_loan = false; memory = takes_none }

-- The value of this name goes to the first place, any other to the others.
abbrev pub place : {V S : Type 0} → List ℕ → Shape Tree V → FieldShape S → FieldShape (Option V × S)
place name shape others = record {
  take = λ s k t.
      if bytes_eq k name then option_map (λ v. (Some v, s.1)) (shape.view t)
      else option_map (λ o. (s.0, o)) (others.take s.1 k t);
  need = λ k t. if bytes_eq k name then shape.need t else others.need k t;
  wants_loan = shape.wants_loan || others.wants_loan;
  memory = λ lends. shape.memory lends || others.memory lends;
}

-- a place without a name: nothing goes to it
abbrev pub unnamed_place : {V S : Type 0} → FieldShape S → FieldShape (Option V × S)
unnamed_place others = record {
  take = λ s k t. option_map (λ o. (s.0, o)) (others.take s.1 k t);
  need = others.need;
  wants_loan = others.wants_loan;
  memory = others.memory;
}

-- places with these names, in order
abbrev pub places : {V S : Type 0} → Shape Tree V → (List (List ℕ) → FieldShape S) → List (List ℕ)
    → FieldShape (Option V × S)
places shape others [] = unnamed_place (others [])
places shape others (name ∷ names) = place name shape (others names)

-- ---- structs

-- The shape of a struct's fields: what their places take, and the view once all were read.
pub record StructShape (S V : Type 0) : Type 0 where
  pub fields : FieldShape S
  -- the state before any was read
  pub unread : S
  -- `None` if a field is missing
  pub finish : S → Option V

-- a struct, read from a map by its row of fields
abbrev pub struct_shape : {S V : Type 0} → StructShape S V → Shape Tree V
struct_shape s = struct_of s.fields s.unread s.finish

-- a row of no fields; any other key is skipped
abbrev pub no_fields : StructShape (Unit {0}) (Unit {0})
no_fields = record { fields = no_places; unread = tt; finish = Some }

-- a row of no fields; any other key is refused
abbrev pub no_other_fields : StructShape (Unit {0}) (Unit {0})
no_other_fields = record { fields = no_other_places; unread = tt; finish = Some }

-- the view, if the first field is there and the others have a view
abbrev pub finish_required : {V S W : Type 0} → (S → Option W) → Option V × S → Option (V × W)
finish_required others s = option_and_then (λ v. option_map (λ w. (v, w)) (others s.1)) s.0

-- a field that must be there, before others
abbrev pub required_field : {V S W : Type 0} → List ℕ → Shape Tree V → StructShape S W
    → StructShape (Option V × S) (V × W)
required_field name shape others = record {
  fields = place name shape others.fields;
  unread = (None, others.unread);
  finish = finish_required others.finish;
}

-- the first field may be absent
abbrev pub finish_optional : {V S W : Type 0} → (S → Option W) → Option (Option V) × S
    → Option (Option V × W)
finish_optional others s = option_map (λ w. (option_flatten s.0, w)) (others s.1)

-- a field that may be absent, or null, before others
abbrev pub optional_field : {V S W : Type 0} → List ℕ → Shape Tree V → StructShape S W
    → StructShape (Option (Option V) × S) (Option V × W)
optional_field name shape others = record {
  fields = place name (option_of shape) others.fields;
  unread = (None, others.unread);
  finish = finish_optional others.finish;
}

-- the first field may be absent
abbrev pub finish_omissible : {V S W : Type 0} → (S → Option W) → Option V × S
    → Option (Option V × W)
finish_omissible others s = option_map (λ w. (s.0, w)) (others s.1)

-- a field that may be absent, before others; a null is read as any value is
abbrev pub omissible_field : {V S W : Type 0} → List ℕ → Shape Tree V → StructShape S W
    → StructShape (Option V × S) (Option V × W)
omissible_field name shape others = record {
  fields = place name shape others.fields;
  unread = (None, others.unread);
  finish = finish_omissible others.finish;
}
