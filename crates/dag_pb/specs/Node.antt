-- The blocks of DAG-PB (DAG-PB specification): messages of protocol
-- buffers, read as strictly as it asks of decoders.
use Rattle.std.specs.Prelude.{◌≡◌, ◌⊎◌, ℕ, List, [], ◌∷◌, ◌++◌, Option, None, Some, length, map}
use Rattle.ipld_tree.specs.Cid.{CidParts, AreCidParts, cid_bytes}
use Rattle.dag_pb.specs.Varint.{BeginsWithVarint}

-- ---- fields

-- the bytes are a field of bytes, and then the rest; the field is a tag, which is eight times its
-- number plus two, the length of the inner bytes, and these
abbrev pub BeginsWithBytes : ℕ → List ℕ → List ℕ → List ℕ → Type 0
BeginsWithBytes tag b inner rest = (following : List ℕ) × BeginsWithVarint b tag following
    × BeginsWithVarint following (length inner) (inner ++ rest)

-- the bytes begin with a field of bytes (`Some`), or with no such field (`None`)
abbrev pub MayBeginWithBytes : ℕ → List ℕ → Option (List ℕ) → List ℕ → Type 0
MayBeginWithBytes tag b None rest = b ≡ rest
MayBeginWithBytes tag b (Some inner) rest = BeginsWithBytes tag b inner rest

-- the bytes are a field of a number: a tag, which is eight times the field's number, and the
-- number; or they are empty (`None`)
abbrev pub MayBeNumber : ℕ → List ℕ → Option ℕ → Type 0
MayBeNumber tag b None = b ≡ []
MayBeNumber tag b (Some n) = (following : List ℕ) × BeginsWithVarint b tag following
    × BeginsWithVarint following n []

-- ---- links

-- a link: the CID of its block, its name, and the size of all blocks below it
pub record LinkParts : Type 0 where
  pub hash : CidParts
  pub name : Option (List ℕ)
  pub tsize : Option ℕ

-- the bytes are the end of a link, after the CID: field 2, the name,
-- and field 3, the size; either may be left out
abbrev pub IsLinkEnd : List ℕ → Option (List ℕ) → Option ℕ → Type 0
IsLinkEnd b name tsize = (following : List ℕ) × MayBeginWithBytes 0x12 b name following
    × MayBeNumber 0x18 following tsize

-- the bytes are the message of a link: field 1, the CID, then the name and the size, in this order,
-- each once, and nothing else
pub record IsLink (b : List ℕ) (link : LinkParts) : Type 0 where
  pub following : List ℕ
  pub valid : AreCidParts link.hash
  pub hash : BeginsWithBytes 0x0a b (cid_bytes link.hash) following
  pub ends : IsLinkEnd following link.name link.tsize

-- ---- nodes

-- a node: its links, and its data, which may be left out
pub record NodeParts : Type 0 where
  pub links : List LinkParts
  pub «data» : Option (List ℕ)

-- a field of a node
pub data Field : Type 0 where
  link_field : LinkParts → Field
  data_field : List ℕ → Field

-- the bytes begin with the field, 2 for a link and 1 for the data, and then comes the rest
abbrev pub BeginsWithField : List ℕ → Field → List ℕ → Type 0
BeginsWithField b (link_field link) rest = (message : List ℕ) × BeginsWithBytes 0x12 b message rest
    × IsLink message link
BeginsWithField b (data_field inner) rest = BeginsWithBytes 0x0a b inner rest

-- the bytes are these fields, and then the rest
abbrev pub BeginsWithFields : List ℕ → List Field → List ℕ → Type 0
BeginsWithFields b [] rest = b ≡ rest
BeginsWithFields b (field ∷ more) rest = (following : List ℕ) × BeginsWithField b field following
    × BeginsWithFields following more rest

abbrev pub data_fields : Option (List ℕ) → List Field
data_fields None = []
data_fields (Some inner) = data_field inner ∷ []

-- the fields are the links and then the data, as encoders write them; or,
-- as in old blocks, the data and then the links
abbrev pub AreFieldsOf : List Field → NodeParts → Type 0
AreFieldsOf fields node =
    (fields ≡ map link_field node.links ++ data_fields node.«data»)
    ⊎ (fields ≡ data_fields node.«data» ++ map link_field node.links)

-- the bytes are a block of DAG-PB, of this node; its links may have any order
abbrev pub IsNode : List ℕ → NodeParts → Type 0
IsNode b node = (fields : List Field) × BeginsWithFields b fields [] × AreFieldsOf fields node

-- the bytes are a block of DAG-PB
abbrev pub HasNode : List ℕ → Type 0
HasNode b = (node : NodeParts) × IsNode b node

-- the CIDs of a node's links, in their binary form
abbrev pub node_links : NodeParts → List (List ℕ)
node_links node = map (λ link. cid_bytes link.hash) node.links

-- ---- parts that are not there

-- the bytes do not begin with a field of bytes with this tag
abbrev pub BeginsNoBytes : ℕ → List ℕ → Type 0
BeginsNoBytes tag b = (inner rest : List ℕ) → ¬ BeginsWithBytes tag b inner rest

-- the bytes do not begin with a field
abbrev pub BeginsNoField : List ℕ → Type 0
BeginsNoField b = (field : Field) (rest : List ℕ) → ¬ BeginsWithField b field rest

-- if the bytes are the end of a link, these are left after the name
abbrev pub HasOneEnd : List ℕ → List ℕ → Type 0
HasOneEnd b following = (name : Option (List ℕ)) (tsize : Option ℕ) (rest : List ℕ)
    → MayBeginWithBytes 0x12 b name rest → MayBeNumber 0x18 rest tsize → rest ≡ following
