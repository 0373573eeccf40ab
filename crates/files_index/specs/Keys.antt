-- The keys that entries are grouped by.
use Rattle.std.specs.Prelude.{ℕ}
use Rattle.files_index.specs.Index.{EntryParts, hash_code_of, width_of}
use Rattle.files_index.specs.declared.run.Key.{Key}
use Rattle.files_index.specs.declared.run.Key.TheVariants as keys

-- the key of an entry, of this kind
abbrev pub key_of : Key → EntryParts → ℕ
key_of keys.HashCode = hash_code_of
key_of keys.Width = width_of
