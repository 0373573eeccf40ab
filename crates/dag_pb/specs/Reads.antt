-- The parts that the code's links and fields stand for.
use Rattle.std.specs.Prelude.{ℕ, List, [], ◌∷◌, map, Option, option_map}
use Rattle.dag_pb.specs.Node.{LinkParts, NodeParts, Field, link_field, data_field}
use Rattle.dag_pb.specs.declared.link.PbLink.{PbLink}
use Rattle.dag_pb.specs.declared.field.PbField.{PbField}
use Rattle.dag_pb.specs.declared.field.PbField.TheVariants.{Link, Data}

-- the parts of a link
abbrev pub link_of : PbLink → LinkParts
link_of link = record {
  hash = link.hash;
  name = option_map (λ bytes. bytes.now) link.name;
  tsize = link.tsize;
}

-- the field of the format
abbrev pub field_of : PbField → Field
field_of (Link link) = link_field (link_of link)
field_of (Data inner) = data_field inner.now

-- the links among the fields
abbrev pub links_in : List Field → List LinkParts
links_in [] = []
links_in (link_field link ∷ more) = link ∷ links_in more
links_in (data_field inner ∷ more) = links_in more

-- the node of these links and this data
abbrev pub node_of : List PbLink → Option (List ℕ) → NodeParts
node_of links inner = record { links = map link_of links; «data» = inner }
