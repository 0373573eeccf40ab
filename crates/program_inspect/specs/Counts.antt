-- What is counted of blocks, by their CIDs and lengths.
use Rattle.std.specs.Prelude.{◌≡◌, ℕ, ◌+◌, List, [], ◌∷◌, length, map, min, max}
use Rattle.ipld_tree.specs.Cid.{CidParts}
use Rattle.program_inspect.specs.Rows.{rows_of}
use Rattle.program_inspect.specs.Names.{distinct}
use Rattle.program_inspect.specs.declared.counts.Counts.{Counts}

-- a block's CID, and its length in bytes
abbrev pub Measure : Type 0
Measure = CidParts × ℕ

abbrev pub names_of : List Measure → List CidParts
names_of ms = map (λ m. m.0) ms

abbrev pub lengths_of : List Measure → List ℕ
lengths_of ms = map (λ m. m.1) ms

-- the sum of the numbers
abbrev pub total : List ℕ → ℕ
total [] = 0
total (n ∷ ns) = n + total ns

-- the greatest number, or 0 if there are none
abbrev pub greatest : List ℕ → ℕ
greatest [] = 0
greatest (n ∷ ns) = max n (greatest ns)

-- the least number, or 0 if there are none
abbrev pub least : List ℕ → ℕ
least [] = 0
least (n ∷ []) = n
least (n ∷ m ∷ ns) = min n (least (m ∷ ns))

-- the counts are those of these blocks
pub record AreCounts (counts : Counts) (ms : List Measure) : Type 0 where
  pub sections : counts.all.count ≡ length ms
  pub bytes : counts.all.bytes ≡ total (lengths_of ms)
  pub least : counts.least ≡ least (lengths_of ms)
  pub greatest : counts.greatest ≡ greatest (lengths_of ms)
  pub codecs : counts.codecs.rows.entries ≡ rows_of (map (λ m. (m.0.codec, m.1)) ms)
  pub hashes : counts.hashes.rows.entries ≡ rows_of (map (λ m. (m.0.hash_code, m.1)) ms)
  pub names : counts.names.cids.keys ≡ distinct (names_of ms)
