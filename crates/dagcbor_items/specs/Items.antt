-- What reading a list's items returns and refuses.
use Rattle.std.specs.Prelude.{◌≡◌, ℕ, ◌≤◌, true, false, List, length, Some, is_some, Result, MatchResult, Vec}
use Rattle.std.specs.declared.alloc.Global.{Global}
use Rattle.dagcbor_heads.specs.Reading.{Reading, Stays}
use Rattle.dagcbor_heads.specs.Refusals.{RefusesOrLacksMemory}
use Rattle.dagcbor_core.specs.declared.error.DecodeError.{DecodeError}
use Rattle.ipld_tree.specs.Tree.{Tree, Items, items_of, items_need}
use Rattle.ipld_tree.specs.Spelling.{item_count, AreFronts}
use Rattle.ipld_tree.specs.Ipld.{trees_of}
use Rattle.ipld_tree.specs.declared.ipld.Ipld.{Ipld}
use Rattle.dagcbor_items.specs.Shapes.{Shape, takes_some}
use Rattle.dagcbor_items.specs.ReadCauses.{ItemsCause}

-- `count` items that the type accepts are at the front, and their need is within the steps left
pub record HasRow {V : Type 0} (shape : Shape Items V) (count : ℕ) (r : Reading) : Type 0 where
  pub bytes : List ℕ
  pub items : Items
  pub rest : List ℕ
  pub left : r.left ≡ Some bytes
  pub counted : item_count items ≡ count
  pub fronts : AreFronts bytes items rest
  pub accepted : is_some (shape.view items) ≡ true
  pub within : shape.need items ≤ r.steps

-- any items
abbrev pub any_items : Shape Items Items
any_items = record { view = Some; need = items_need; wants_loan = false; memory = takes_some }

-- this many items are at the front, within the steps left
abbrev pub HasItems : ℕ → Reading → Type 0
HasItems = HasRow any_items

-- these trees were at the front, and were taken
pub record TakesItems (old : Reading) (ts : List Tree) (new : Reading) : Type 0 where
  pub taken : (b : List ℕ) → old.left ≡ Some b → (rest : List ℕ) × AreFronts b (items_of ts) rest
      × (items_need (items_of ts) ≤ old.steps) × (new.left ≡ Some rest)
  pub same : Stays old new

-- Items are read if and only if `count` of them are there within the steps left.
abbrev pub ReadsItems : {E : Type 0} → ℕ → Reading → Result (Vec Ipld Global) (DecodeError E)
    → Reading → Type 0
ReadsItems count old result new = MatchResult result
    (λ v. (length v.items ≡ count) × TakesItems old (trees_of v.items) new)
    (λ e. RefusesOrLacksMemory (HasItems count old) (ItemsCause count old.steps) old e new)
