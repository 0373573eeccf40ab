-- Blocks and their names.
use Rattle.std.specs.Prelude.{◌≡◌, ◌⊎◌, ℕ, List}
use Rattle.ipld_tree.specs.Cid.{CidParts}
use Rattle.ipld_tree.specs.Tree.{Tree, links_of}
use Rattle.dagcbor_decode.specs.Blocks.{IsBlock}
use Rattle.dag_pb.specs.Node.{NodeParts, IsNode, node_links}

-- a name, and bytes, which need not be the block that it names
abbrev pub NamedBlock : Type 0
NamedBlock = CidParts × List ℕ

-- the bytes are a block of DAG-CBOR
abbrev pub HasBlock : List ℕ → Type 0
HasBlock b = (t : Tree) × IsBlock b t

-- the bytes are a block of the codec, which is DAG-CBOR or DAG-PB (multicodec table); `links` are
-- the binary forms of the CIDs in it, in its order
abbrev pub HasLinks : ℕ → List ℕ → List (List ℕ) → Type 0
HasLinks codec b links = ((codec ≡ 0x71) × ((t : Tree) × IsBlock b t × (links ≡ links_of t)))
    ⊎ ((codec ≡ 0x70) × ((node : NodeParts) × IsNode b node × (links ≡ node_links node)))

-- the links of the bytes as a block of the codec are known: the bytes are raw (multicodec table),
-- and have no links, or they are a block of DAG-CBOR or DAG-PB
abbrev pub HasKnownLinks : ℕ → List ℕ → Type 0
HasKnownLinks codec b = (codec ≡ 0x55) ⊎ ((links : List (List ℕ)) × HasLinks codec b links)

-- the codec is DAG-CBOR or DAG-PB
abbrev pub IsReadCodec : ℕ → Type 0
IsReadCodec codec = (codec ≡ 0x71) ⊎ (codec ≡ 0x70)

-- the bytes are a block of the codec, which is DAG-CBOR or DAG-PB
abbrev pub IsBlockOf : ℕ → List ℕ → Type 0
IsBlockOf codec b = (links : List (List ℕ)) × HasLinks codec b links
