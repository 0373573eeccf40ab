-- The arguments of `commit`, `record-proof` and `records --json`.
use Rattle.std.specs.Prelude.{◌≡◌, ℕ, List, [], ◌∷◌, codes, Option, None, Some}
use Rattle.program_records.specs.declared.commit_words.CommitAsked.{CommitAsked}
use Rattle.program_records.specs.declared.commit_words.CommitAsked.TheVariants as asks

-- the arguments ask this: `commit`, or `record-proof` and the word of a key, or `records --json`;
-- and then the file, if one is given
abbrev pub AreCommitWords : List (List ℕ) → CommitAsked → Option (List ℕ) → Type 0
AreCommitWords words asks.Commit None = words ≡ codes "commit" ∷ []
AreCommitWords words asks.Commit (Some file) = words ≡ codes "commit" ∷ file ∷ []
AreCommitWords words (asks.Proof key) None = words ≡ codes "record-proof" ∷ key.now ∷ []
AreCommitWords words (asks.Proof key) (Some file) =
    words ≡ codes "record-proof" ∷ key.now ∷ file ∷ []
AreCommitWords words asks.Records None = words ≡ codes "records" ∷ codes "--json" ∷ []
AreCommitWords words asks.Records (Some file) =
    words ≡ codes "records" ∷ codes "--json" ∷ file ∷ []
