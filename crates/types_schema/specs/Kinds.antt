-- A value whose type depends on the kind of its data.
use Rattle.std.specs.Prelude.{◌||◌, ℕ, Option, None, option_map}
use Rattle.serde_ipld_dagcbor.specs.Tree.{Tree, null, boolean, integer, text, bytes, list, mapping, link}
use Rattle.serde_ipld_dagcbor.specs.Shapes.{Shape, leaf}
use Rattle.types_schema.specs.declared.by_kind.ByKind.{ByKind}
use Rattle.types_schema.specs.declared.by_kind.ByKind.TheVariants as kinds

-- the shape that accepts no data
abbrev pub no_kind : Shape Tree (Unit {0})
no_kind = leaf (λ t. None)

-- the shape for data of each kind; null is not accepted
pub record KindShapes (B I T Y L M K : Type 0) : Type 0 where
  pub of_bool : Shape Tree B
  pub of_integer : Shape Tree I
  pub of_text : Shape Tree T
  pub of_bytes : Shape Tree Y
  pub of_list : Shape Tree L
  pub of_map : Shape Tree M
  pub of_link : Shape Tree K

abbrev pub view_by_kind : {B I T Y L M K : Type 0} → KindShapes B I T Y L M K → Tree
    → Option (ByKind B I T Y L M K)
view_by_kind shapes null = None
view_by_kind shapes (boolean b) = option_map (λ x. kinds.Bool x) (shapes.of_bool.view (boolean b))
view_by_kind shapes (integer n) = option_map (λ x. kinds.Integer x) (shapes.of_integer.view (integer n))
view_by_kind shapes (text s) = option_map (λ x. kinds.Text x) (shapes.of_text.view (text s))
view_by_kind shapes (bytes s) = option_map (λ x. kinds.Bytes x) (shapes.of_bytes.view (bytes s))
view_by_kind shapes (list ts) = option_map (λ x. kinds.List x) (shapes.of_list.view (list ts))
view_by_kind shapes (mapping es) = option_map (λ x. kinds.Map x) (shapes.of_map.view (mapping es))
view_by_kind shapes (link cid) = option_map (λ x. kinds.Link x) (shapes.of_link.view (link cid))

-- the need of a value, by its kind
abbrev pub need_by_kind : {B I T Y L M K : Type 0} → KindShapes B I T Y L M K → Tree → ℕ
need_by_kind shapes null = 0
need_by_kind shapes (boolean b) = shapes.of_bool.need (boolean b)
need_by_kind shapes (integer n) = shapes.of_integer.need (integer n)
need_by_kind shapes (text s) = shapes.of_text.need (text s)
need_by_kind shapes (bytes s) = shapes.of_bytes.need (bytes s)
need_by_kind shapes (list ts) = shapes.of_list.need (list ts)
need_by_kind shapes (mapping es) = shapes.of_map.need (mapping es)
need_by_kind shapes (link cid) = shapes.of_link.need (link cid)

-- a value of one of these types, by the kind of its data
abbrev pub by_kind : {B I T Y L M K : Type 0} → KindShapes B I T Y L M K
    → Shape Tree (ByKind B I T Y L M K)
by_kind shapes = record {
  view = view_by_kind shapes;
  need = need_by_kind shapes;
  wants_loan = shapes.of_bool.wants_loan || (shapes.of_integer.wants_loan || (shapes.of_text.wants_loan || (
      shapes.of_bytes.wants_loan || (shapes.of_list.wants_loan || (shapes.of_map.wants_loan || shapes.of_link.wants_loan)))));
  memory = λ lends. shapes.of_bool.memory lends || (shapes.of_integer.memory lends || (shapes.of_text.memory lends || (
      shapes.of_bytes.memory lends || (shapes.of_list.memory lends || (shapes.of_map.memory lends || shapes.of_link.memory lends)))));
}
