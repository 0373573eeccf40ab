-- Keys of a repository's tree, and their layers (AT Protocol specification, repository).
use Rattle.std.specs.Prelude.{◌≡◌, ℕ, ◌+◌, ◌/◌, ◌≤◌, ◌<◌, ◌^◌, List, [], ◌∷◌, length, if◌then◌else◌, ◌==◌, ⊤}
use Rattle.std.specs.List.{AllByRecursion}
use Rattle.std.specs.Int.{w8, leading_zeros}
use Rattle.std.specs.declared.cmp.Ordering.TheVariants.{Less}
use Rattle.std.specs.Ordering.{nat_cmp}
use Rattle.std.specs.Cmp.Lexicographic.{slice_cmp}
use Rattle.sha2.specs.Sha256.{sha256}
use Rattle.ipld_tree.specs.Cid.{CidParts, AreCidParts}

-- a key, and the CID of its record
abbrev pub Entry : Type 0
Entry = List ℕ × CidParts

-- how many leading bits of the bytes are zero
abbrev pub zero_bits : List ℕ → ℕ
zero_bits [] = 0
zero_bits (b ∷ bs) = if b == 0 then 8 + zero_bits bs else leading_zeros w8 b

-- half the number of leading zero bits of the key's SHA-256, rounded down
unfoldable pub key_layer : List ℕ → ℕ
key_layer key = zero_bits (sha256 key) / 2

-- a key has 1 to 1024 bytes
abbrev pub IsKey : List ℕ → Type 0
IsKey key = (1 ≤ length key) × (length key ≤ 1024)

-- each entry has a valid key
abbrev pub HaveKeys : List Entry → Type 0
HaveKeys [] = ⊤
HaveKeys (e ∷ es) = IsKey e.0 × HaveKeys es

-- the value of each entry is a CID
abbrev pub HaveCids : List Entry → Type 0
HaveCids es = AllByRecursion (λ e. AreCidParts e.1) es

-- the key comes before the first of the entries
abbrev pub ComesBefore : List ℕ → List Entry → Type 0
ComesBefore key [] = ⊤
ComesBefore key (e ∷ es) = slice_cmp nat_cmp key e.0 ≡ Less

-- the keys rise in the order of bytes
abbrev pub Rise : List Entry → Type 0
Rise [] = ⊤
Rise (e ∷ es) = ComesBefore e.0 es × Rise es

-- the keys are valid, and rise
abbrev pub HaveRisingKeys : List Entry → Type 0
HaveRisingKeys es = HaveKeys es × Rise es

-- the entries of a repository: valid keys, which rise, and CIDs; fewer than 2 ^ 64 entries
pub record AreMstEntries (es : List Entry) : Type 0 where
  pub keys : HaveKeys es
  pub rise : Rise es
  pub values : HaveCids es
  pub count : length es < 2 ^ 64
