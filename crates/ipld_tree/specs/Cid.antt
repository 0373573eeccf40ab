-- The binary form of a CID, versions 0 and 1 (CID specification), with digests of at most 64 bytes.
use Rattle.std.specs.Prelude.{◌≡◌, ℕ, zero, suc, ◌+◌, ◌/◌, ◌%◌, ◌^◌, ◌<◌, ◌≤◌, List, [], ◌∷◌, ◌++◌, length, if◌then◌else◌, nat_lt, ◌==◌, ◌⊎◌}
use Rattle.std.specs.declared.cmp.Ordering.{Ordering}
use Rattle.std.specs.Ordering.{nat_cmp, on, then_cmp}
use Rattle.std.specs.Cmp.Lexicographic.{slice_cmp}

-- n in at most this many groups of seven bits
abbrev pub varint_groups : ℕ → ℕ → List ℕ
varint_groups zero n = []
varint_groups (suc more) n =
    if nat_lt n 128 then n ∷ [] else (128 + n % 128) ∷ varint_groups more (n / 128)

-- n below 2 ^ 64, in shortest form: the lowest group first, the high bit set on all but the last
unfoldable pub varint : ℕ → List ℕ
varint n = varint_groups 10 n

-- the parts of a CID: its version, its codec, the code of its hash function and its digest
pub record CidParts : Type 0 where
  pub version : ℕ
  pub codec : ℕ
  pub hash_code : ℕ
  pub digest : List ℕ

-- the CID of these parts
abbrev pub cid_parts : ℕ → ℕ → ℕ → List ℕ → CidParts
cid_parts version codec hash_code digest =
    record { version = version; codec = codec; hash_code = hash_code; digest = digest }

-- version 0: the codec dag-pb, and a SHA-256 digest of 32 bytes
abbrev pub IsVersion0 : CidParts → Type 0
IsVersion0 c = (c.version ≡ 0) × (c.codec ≡ 0x70) × (c.hash_code ≡ 0x12) × (length c.digest ≡ 32)

-- version 1: codec and hash code below 2 ^ 64, a digest of at most 64 bytes
abbrev pub IsVersion1 : CidParts → Type 0
IsVersion1 c = (c.version ≡ 1) × (c.codec < 2 ^ 64) × (c.hash_code < 2 ^ 64)
    × (length c.digest ≤ 64)

-- the parts are those of a CID of version 0 or 1
abbrev pub AreCidParts : CidParts → Type 0
AreCidParts c = IsVersion0 c ⊎ IsVersion1 c

-- the binary form (CID specification)
abbrev pub cid_bytes : CidParts → List ℕ
cid_bytes c =
    if c.version == 0 then 0x12 ∷ 0x20 ∷ c.digest
    else 0x01 ∷ (varint c.codec ++ (varint c.hash_code ++ (varint (length c.digest) ++ c.digest)))

-- the bytes are a CID
abbrev pub IsCid : List ℕ → Type 0
IsCid bytes = (parts : CidParts) × AreCidParts parts × (bytes ≡ cid_bytes parts)

-- CIDs compare by version, codec, hash code and the bytes of the digest, in this order
abbrev pub cid_cmp : CidParts → CidParts → Ordering
cid_cmp = then_cmp (on (λ c. c.version) nat_cmp)
    (then_cmp (on (λ c. c.codec) nat_cmp)
    (then_cmp (on (λ c. c.hash_code) nat_cmp) (on (λ c. c.digest) (slice_cmp nat_cmp))))
