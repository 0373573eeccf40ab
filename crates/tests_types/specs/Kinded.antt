-- The view of an enum, without a name, of a byte string and a link.
use Rattle.std.specs.Prelude.{ℕ, List, Option, Some, None, false}
use Rattle.serde_ipld_dagcbor.specs.Tree.{Tree, bytes, link, any_need}
use Rattle.serde_ipld_dagcbor.specs.Shapes.{Shape, takes_some}

-- the view's type
pub data KindedView : Type 0 where
  is_bytes : List ℕ → KindedView
  is_link : List ℕ → KindedView

-- the view of a tree
abbrev pub view_kinded : Tree → Option KindedView
view_kinded (bytes s) = Some (is_bytes s)
view_kinded (link cid) = Some (is_link cid)
view_kinded _ = None

-- the shape of the type
abbrev pub kinded_shape : Shape Tree KindedView
kinded_shape = record { view = view_kinded; need = any_need; wants_loan = false; memory = takes_some }
