-- Names of blocks (CID specification, multicodec table).
use Rattle.std.specs.Prelude.{◌≡◌, ℕ, List, length}
use Rattle.sha2.specs.Sha256.{sha256}
use Rattle.ipld_tree.specs.Cid.{CidParts, cid_parts}

-- the name is by SHA-256, and its digest has 32 bytes (multicodec table)
abbrev pub IsBySha256 : CidParts → Type 0
IsBySha256 c = (c.hash_code ≡ 0x12) × (length c.digest ≡ 32)

-- the name is by the identity: its digest is the block itself (multicodec table)
abbrev pub IsInline : CidParts → Type 0
IsInline c = c.hash_code ≡ 0

-- the name of a block of DAG-CBOR: a CID of version 1, by the SHA-256 of the block
abbrev pub block_name : List ℕ → CidParts
block_name b = cid_parts 1 0x71 0x12 (sha256 b)
