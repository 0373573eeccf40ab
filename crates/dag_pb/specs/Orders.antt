-- Which fields of a node may follow which.
use Rattle.std.specs.Prelude.{ℕ, Option, None, Some}
use Rattle.dag_pb.specs.Node.{Field, link_field, data_field}
use Rattle.dag_pb.specs.declared.node.Order.{Order}
use Rattle.dag_pb.specs.declared.node.Order.TheVariants.{Nothing, Links, DataFirst, DataLast}

-- the order after this field too; `None` if the field may not come here
abbrev pub order_after : Order → Field → Option Order
order_after Nothing (data_field inner) = Some DataFirst
order_after Nothing (link_field link) = Some Links
order_after Links (data_field inner) = Some DataLast
order_after Links (link_field link) = Some Links
order_after DataFirst (link_field link) = Some DataFirst
order_after DataFirst (data_field inner) = None
order_after DataLast field = None

-- the tag of a field
abbrev pub field_tag : Field → ℕ
field_tag (link_field link) = 0x12
field_tag (data_field inner) = 0x0a
