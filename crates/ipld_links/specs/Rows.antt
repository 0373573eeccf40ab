-- The links of items one after another.
use Rattle.std.specs.Prelude.{◌≡◌, ◌⊎◌, ℕ, List, [], map}
use Rattle.ipld_tree.specs.Cid.{cid_bytes}
use Rattle.dagcbor_decode.specs.Rows.{HoldsLinks}
use Rattle.dag_pb.specs.Node.{Field, BeginsWithFields}
use Rattle.dag_pb.specs.Reads.{links_in}

-- the bytes are fields of a node, one after another; `links` are the binary forms of their CIDs
pub record HoldsFieldLinks (b : List ℕ) (links : List (List ℕ)) : Type 0 where
  pub fields : List Field
  pub row : BeginsWithFields b fields []
  pub are : links ≡ map (λ link. cid_bytes link.hash) (links_in fields)

-- the bytes are parts of a block of the codec, one after another, and have these links
abbrev pub HoldsLinksAs : ℕ → List ℕ → List (List ℕ) → Type 0
HoldsLinksAs codec b links = ((codec ≡ 0x71) × HoldsLinks b links)
    ⊎ ((codec ≡ 0x70) × HoldsFieldLinks b links)
