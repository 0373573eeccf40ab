-- The view that a type has of an enum's tree, and the steps that reading it takes.
use Rattle.std.specs.Prelude.{◌≡◌, ℕ, ◌+◌, Bool, true, false, List, Option, None, Some, is_some, Result, MatchResult, MatchBool, ◌||◌}
use Rattle.dagcbor_heads.specs.Reading.{Reading, with_steps}
use Rattle.dagcbor_heads.specs.Refusals.{Refuses}
use Rattle.dagcbor_core.specs.declared.error.DecodeError.{DecodeError}
use Rattle.ipld_tree.specs.Tree.{Tree, text, mapping, no_entries, entry}
use Rattle.dagcbor_read.specs.Deserializers.{DeState}
use Rattle.dagcbor_items.specs.TypedReads.{HasFront, TakesFront, MayLack, Anything}
use Rattle.dagcbor_read.specs.Enums.{EnumState}
use Rattle.dagcbor_items.specs.Shapes.{Shape, unless_lent}

-- The view of a variant's name alone, or of a map of one pair, from that name to its content.
abbrev pub view_enum : {V : Type 0} → (List ℕ → Option V) → (List ℕ → Tree → Option V) → Tree
    → Option V
view_enum unit part (text s) = unit s
view_enum unit part (mapping (entry k t no_entries)) = part k t
view_enum unit part _ = None

-- a step for the enum, and the need of what the variant holds
abbrev pub need_enum : (List ℕ → Tree → ℕ) → Tree → ℕ
need_enum need (mapping (entry k t no_entries)) = 1 + need k t
need_enum need _ = 1

-- The shape of an enum: the views of its variants.
pub record EnumShape (V : Type 0) : Type 0 where
  -- the view of a variant that is its name alone; `None` if there is no such variant
  pub unit : List ℕ → Option V
  -- the view of the tree that a variant of this name holds; `None` if it is not accepted
  pub part : List ℕ → Tree → Option V
  -- the steps that reading what a variant holds takes
  pub need : List ℕ → Tree → ℕ
  -- whether reading it wants a loan of the input
  pub wants_loan : Bool
  -- whether reading what a variant holds may take memory; the argument says whether the input lends
  -- its bytes
  pub memory : Bool → Bool

-- an enum: the text that names a variant, or a map of one entry from that name
abbrev pub enum_of : {V : Type 0} → EnumShape V → Shape Tree V
enum_of shape = record {
  view = view_enum shape.unit shape.part;
  need = need_enum shape.need;
  wants_loan = shape.wants_loan;
  memory = λ lends. unless_lent lends || shape.memory lends;
}

-- the shape of what the variant of this name holds
abbrev pub part_of : {V : Type 0} → EnumShape V → List ℕ → Shape Tree V
part_of shape k = record { view = shape.part k; need = shape.need k; wants_loan = shape.wants_loan; memory = shape.memory }

-- ---- a variant whose name was read

-- the variant is its name alone, and has a view; or what it holds is at the front
abbrev pub HasVariant : {V : Type 0} → EnumShape V → List ℕ → EnumState → Reading → Type 0
HasVariant shape k e r = MatchBool e.in_map (HasFront (part_of shape k) r) (is_some (shape.unit k) ≡ true)

-- the variant was its name alone, with the view v; or what it holds was taken, with the view v; and
-- the enum's steps are given back
abbrev pub TakesVariant : {V : Type 0} → EnumShape V → List ℕ → EnumState → Reading → V → Reading
    → Type 0
TakesVariant shape k e old v new = MatchBool e.in_map
    ((now : Reading) × TakesFront (part_of shape k) old v now × (new ≡ with_steps (now.steps + e.steps) now))
    ((shape.unit k ≡ Some v) × (new ≡ with_steps (old.steps + e.steps) old))

-- A variant is read exactly if it is its name alone, or holds what the type accepts, as its name
-- requires. If it is read, nothing has failed.
abbrev pub ReadsVariant : {T V E : Type 0} → (T → V) → EnumShape V → List ℕ → EnumState → DeState
    → Result T (DecodeError E) → DeState → Type 0
ReadsVariant meaning shape k e old result new = MatchResult result
    (λ v. (new.failed ≡ false) × TakesVariant shape k e old.input (meaning v) new.input)
    (λ r. Refuses (record {
      could = HasVariant shape k e old.input;
      lacks = MayLack shape.memory old.input;
      borrows = shape.wants_loan ≡ true;
      stands = Anything;
    }) old.input r new.input)
