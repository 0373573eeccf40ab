-- Links, packed into memory.
use Rattle.std.specs.Prelude.{◌≡◌, ℕ, ◌+◌, ◌-◌, ◌^◌, ◌≤◌, min, List, [], ◌∷◌, ◌++◌, length, map}
use Rattle.ipld_tree.specs.Cid.{cid_bytes}
use Rattle.ipld_tree.specs.Tree.{Tree, links_of}
use Rattle.dag_pb.specs.Node.{Field, BeginsWithFields}
use Rattle.dag_pb.specs.Reads.{links_in}
use Rattle.dagcbor_decode.specs.Rows.{HoldsLinks}
use Rattle.lent_memory.specs.Puts.{put_at, with_front}
use Rattle.abi_calls.specs.declared.links.PackedLinks.{PackedLinks}

-- each CID after a byte with its length, one after the other
abbrev pub packed_cids : List (List ℕ) → List ℕ
packed_cids [] = []
packed_cids (cid ∷ more) = (length cid ∷ cid) ++ packed_cids more

-- the links of an item, packed, in the order of its spelling
abbrev pub packed_links : Tree → List ℕ
packed_links t = packed_cids (links_of t)

-- the links of fields of a node, packed in the same way
abbrev pub packed_fields : List Field → List ℕ
packed_fields row = packed_cids (map (λ link. cid_bytes link.hash) (links_in row))

-- the bytes were appended, and counted
pub record PacksBytes (bytes : List ℕ) (old new : PackedLinks) : Type 0 where
  pub same_reference : new.out.ghost_name ≡ old.out.ghost_name
  pub counted : new.needed ≡ min (old.needed + length bytes) (2 ^ 64 - 1)
  pub stands : new.out.now ≡ put_at old.needed bytes old.out.now

-- a byte with the CID's length and the CID were so appended
abbrev pub PacksCid : List ℕ → PackedLinks → PackedLinks → Type 0
PacksCid cid old new = (mid : PackedLinks) × PacksBytes (length cid ∷ []) old mid × PacksBytes cid mid new

-- the links of consecutive fields of a node are counted, and put at the front of the memory if they
-- all fit
abbrev pub PacksFields : List ℕ → List ℕ → List ℕ → ℕ → Type 0
PacksFields fields old new needed = (row : List Field) → BeginsWithFields fields row []
    → (needed ≡ length (packed_fields row)) × (length (packed_fields row) ≤ length old → new ≡ with_front (packed_fields row) old)

-- the links of consecutive items are counted, and put at the front of the memory if they all fit
abbrev pub Packs : List ℕ → List ℕ → List ℕ → ℕ → Type 0
Packs items old new needed = (links : List (List ℕ)) → HoldsLinks items links
    → (needed ≡ length (packed_cids links)) × (length (packed_cids links) ≤ length old → new ≡ with_front (packed_cids links) old)
