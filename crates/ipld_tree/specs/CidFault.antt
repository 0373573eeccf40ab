-- Why bytes are not a CID: the first fault from the front (CID specification, decoding).
use Rattle.std.specs.Prelude.{◌≡◌, ◌≢◌, ℕ, ◌^◌, ◌<◌, ◌≤◌, ◌⊎◌, List, [], ◌∷◌, ◌++◌, length, Result, MatchResult, flat_map}
use Rattle.std.specs.List.{AllByRecursion}
use Rattle.ipld_tree.specs.Cid.{varint, CidParts, AreCidParts, cid_bytes, IsCid}
use Rattle.ipld_tree.specs.declared.cid_error.CidError.{CidError}
use Rattle.ipld_tree.specs.declared.cid_error.CidError.TheVariants.{InvalidVersion, InvalidVarint, DigestTooLong, Truncated, TrailingBytes}

-- the bytes end inside a varint
abbrev pub IsCutVarint : List ℕ → Type 0
IsCutVarint b = (n : ℕ) × (more : List ℕ) × (n < 2 ^ 64) × (0 < length more)
    × (b ++ more ≡ varint n)

-- no bytes that begin with b begin with the varint of a number below 2 ^ 64
abbrev pub IsNoVarint : List ℕ → Type 0
IsNoVarint b = (n : ℕ) (x y : List ℕ) → n < 2 ^ 64 → b ++ x ≢ varint n ++ y

-- the fault of bytes that should begin with a varint
abbrev pub IsVarintFault : CidError → List ℕ → Type 0
IsVarintFault InvalidVarint b = IsNoVarint b
IsVarintFault Truncated b = IsCutVarint b
IsVarintFault _ b = ⊥

-- the bytes are 01, the varints of these numbers, and the rest
pub record HasVarints (b numbers rest : List ℕ) : Type 0 where
  pub fit : AllByRecursion (λ n. n < 2 ^ 64) numbers
  pub is : b ≡ 0x01 ∷ (flat_map varint numbers ++ rest)

-- P holds of the bytes where the varint of codec, hash code or digest length should begin
abbrev pub AtVarint : List ℕ → (List ℕ → Type 0) → Type 0
AtVarint b P = (numbers rest : List ℕ) × HasVarints b numbers rest × (length numbers ≤ 2) × P rest

-- P holds of the digest length and the bytes after it
abbrev pub AtDigest : List ℕ → (ℕ → List ℕ → Type 0) → Type 0
AtDigest b P = (codec hash_code n : ℕ) × (rest : List ℕ)
    × HasVarints b (codec ∷ hash_code ∷ n ∷ []) rest × P n rest

-- the bytes have this fault
abbrev pub IsFault : CidError → List ℕ → Type 0
IsFault InvalidVersion b = (first : ℕ) × (rest : List ℕ) × (b ≡ first ∷ rest) × (first ≢ 0x01)
    × ((digest : List ℕ) → length digest ≡ 32 → b ≢ 0x12 ∷ 0x20 ∷ digest)
IsFault InvalidVarint b = AtVarint b IsNoVarint
IsFault DigestTooLong b = AtDigest b (λ n rest. 64 < n)
IsFault Truncated b = (b ≡ [])
    ⊎ (AtVarint b IsCutVarint ⊎ AtDigest b (λ n rest. (n ≤ 64) × (length rest < n)))
IsFault TrailingBytes b = AtDigest b (λ n rest. (n ≤ 64) × (n < length rest))

-- Bytes are read if and only if they are a CID, and else refused for their first fault.
abbrev pub ReadsBinaryCid : List ℕ → Result CidParts CidError → Type 0
ReadsBinaryCid b result = MatchResult result
    (λ c. AreCidParts c × (b ≡ cid_bytes c))
    (λ e. ¬ IsCid b × IsFault e b)

-- Bytes have at most one fault, and a CID has no fault.
abbrev pub CidFaultsAreUnique : Type 0
CidFaultsAreUnique = (b : List ℕ) (e : CidError) → IsFault e b → ¬ IsCid b
    × ((f : CidError) → IsFault f b → e ≡ f)
