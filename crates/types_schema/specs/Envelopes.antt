-- A map of two entries: a tag, and the content that it identifies.
use Rattle.std.specs.Prelude.{◌≡◌, ◌||◌, ◌<◌, ℕ, ◌+◌, List, Option, None, if◌then◌else◌, Result, MatchResult, false, bytes_eq}
use Rattle.dagcbor_heads.specs.Reading.{Reading}
use Rattle.dagcbor_heads.specs.Refusals.{RefusesOrLacksMemoryUnlent}
use Rattle.dagcbor_core.specs.declared.error.DecodeError.{DecodeError}
use Rattle.ipld_tree.specs.Tree.{Tree, text, mapping, no_entries, entry}
use Rattle.dagcbor_items.specs.Places.{Follows}
use Rattle.dagcbor_items.specs.Entries.{HasKey}
use Rattle.dagcbor_items.specs.Untyped.{TakesItem}
use Rattle.dagcbor_items.specs.TypedReads.{Anything}
use Rattle.dagcbor_items.specs.Shapes.{Shape, unless_lent}
use Rattle.dagcbor_read.specs.Accessors.{AccessorState, with_key}
use Rattle.dagcbor_read.specs.Deserializers.{DeState}
use Rattle.dagcbor_read.specs.EnumViews.{EnumShape}

-- ---- the view

-- The text at the tag's key determines what is at the content's key. There is no other entry.
abbrev pub view_envelope : {V : Type 0} → (tag content : List ℕ) → (List ℕ → Tree → Option V) → Tree
    → Option V
view_envelope tag content part (mapping (entry k (text name) (entry l t no_entries))) =
    if bytes_eq k tag then if bytes_eq l content then part name t else None
    else None
view_envelope tag content part _ = None

-- a step for the map, and what the content needs
abbrev pub need_envelope : (List ℕ → Tree → ℕ) → Tree → ℕ
need_envelope need (mapping (entry k (text name) (entry l t no_entries))) = 1 + need name t
need_envelope need _ = 1

-- a map of a tag and of the content that it identifies, under these keys
abbrev pub envelope_of : {V : Type 0} → (tag content : List ℕ) → EnumShape V → Shape Tree V
envelope_of tag content shape = record {
  view = view_envelope tag content shape.part;
  need = need_envelope shape.need;
  wants_loan = shape.wants_loan;
  memory = λ lends. unless_lent lends || shape.memory lends;
}

-- ---- a key that is known in advance

-- an entry is left, and its key is this one
pub record HasNamedKey (name : List ℕ) (before : AccessorState) (r : Reading) : Type 0 where
  pub some : 0 < before.left
  pub has : HasKey before.last r
  pub is : has.key ≡ name

-- The next key is taken exactly if an entry is left and its key is this one.
abbrev pub ReadsNamedKey : {E : Type 0} → List ℕ → AccessorState → DeState
    → Result (Unit {0}) (DecodeError E) → AccessorState → DeState → Type 0
ReadsNamedKey name before old result after new = MatchResult result
    (λ _. (new.failed ≡ false) × (0 < before.left) × Follows before.last name × TakesItem 1 old.input (text name) new.input × (after ≡ with_key name before))
    (λ e. RefusesOrLacksMemoryUnlent (HasNamedKey name before old.input) Anything old.input e new.input)
