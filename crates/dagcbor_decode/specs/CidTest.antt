-- A test whether bytes are a CID: they are split into parts, spelled again and compared (the CID
-- specification; unsigned varints).
use Rattle.std.specs.Prelude.{ℕ, zero, suc, ◌+◌, ◌-◌, ◌*◌, ◌^◌, ◌==◌, ◌&&◌, ◌||◌, nat_lt, Bool, List, [], ◌∷◌, length, drop, if◌then◌else◌, bytes_eq}
use Rattle.ipld_tree.specs.Cid.{CidParts, cid_parts, cid_bytes}

-- the number that at most this many groups of seven bits are, the lowest group first, and the bytes
-- after them
abbrev pub groups : ℕ → List ℕ → ℕ × List ℕ
groups zero b = (0, b)
groups (suc more) [] = (0, [])
groups (suc more) (g ∷ b) = if nat_lt g 128 then (g, b)
    else let r = groups more b in ((g - 128) + 128 * r.0, r.1)

-- the parts that bytes have, if they are a CID of version 1: codec, hash code and digest
abbrev pub parts_1 : List ℕ → CidParts
parts_1 b =
    let codec = groups 10 b in
    let hash_code = groups 10 codec.1 in
    cid_parts 1 codec.0 hash_code.0 (groups 10 hash_code.1).1

abbrev pub fits_1 : CidParts → Bool
fits_1 c = nat_lt c.codec (2 ^ 64) && (nat_lt c.hash_code (2 ^ 64) && nat_lt (length c.digest) 65)

-- whether the bytes are a CID: 34 bytes in version 0, and always the spelling of their parts
unfoldable pub is_cid : List ℕ → Bool
is_cid b = (length b == 34 && bytes_eq (cid_bytes (cid_parts 0 0x70 0x12 (drop 2 b))) b)
    || (fits_1 (parts_1 (drop 1 b)) && bytes_eq (cid_bytes (parts_1 (drop 1 b))) b)
