-- The check of an index against the sections of its file (CARv2 specification, "Index").
use Rattle.std.specs.Prelude.{◌≡◌, ◌==◌, ◌||◌, Bool, not, if◌then◌else◌, List, [], ◌∷◌, ◌++◌, length, map}
use Rattle.std.specs.List.{filter, list_any}
use Rattle.std.specs.Ordering.{nat_cmp, on, then_cmp, is_lt, is_eq}
use Rattle.std.specs.Cmp.Lexicographic.{slice_cmp}
use Rattle.std.specs.declared.cmp.Ordering.{Ordering}
use Rattle.files_index.specs.Index.{EntryParts, hash_code_of, entry_cmp}
use Rattle.files_index.specs.declared.entries.Format.{Format}
use Rattle.files_index.specs.declared.entries.Format.TheVariants.{ByWidth, ByMultihash}
use Rattle.files_index.specs.declared.judging.Placed.{Placed}
use Rattle.files_index.specs.declared.judging.Findings.{Findings}

-- the entry of a section in an index of this format; in 0x0400 (IndexSorted) its hash code is 0
abbrev pub listed_as : Format → Placed → EntryParts
listed_as ByWidth p = record { hash_code = 0; digest = p.cid.digest; offset = p.offset }
listed_as ByMultihash p = record { hash_code = p.cid.hash_code; digest = p.cid.digest; offset = p.offset }

-- whether the entry is in the list
abbrev pub is_entry_of : List EntryParts → EntryParts → Bool
is_entry_of es e = list_any (λ x. is_eq (entry_cmp x e)) es

-- ---- wrong: an entry that belongs to no section

abbrev pub wrong : Format → List EntryParts → List Placed → List EntryParts
wrong f es ps = filter (λ e. not (is_entry_of (map (listed_as f) ps) e)) es

-- ---- unordered: an entry whose multihash is below that of the entry before it. Look-ups bisect
-- the digests of one width; hash codes and widths ascend in any index that is read.

-- the order of entries by multihash: hash code, length of the digest, bytes of the digest
abbrev pub multihash_cmp : EntryParts → EntryParts → Ordering
multihash_cmp = then_cmp (on hash_code_of nat_cmp)
    (then_cmp (on (λ e. length e.digest) nat_cmp) (on (λ e. e.digest) (slice_cmp nat_cmp)))

-- the second entry, if its multihash is below that of the first
abbrev pub fallen : EntryParts → EntryParts → List EntryParts
fallen d e = if is_lt (multihash_cmp e d) then e ∷ [] else []

abbrev pub unordered : List EntryParts → List EntryParts
unordered [] = []
unordered (d ∷ []) = []
unordered (d ∷ (e ∷ es)) = fallen d e ++ unordered (e ∷ es)

-- ---- unlisted: a section whose multihash no right entry has. A section named by the identity is
-- never unlisted, because its name has its bytes.

-- the multihash of a section, as an entry with the offset 0
abbrev pub multihash_of : Placed → EntryParts
multihash_of p = record { hash_code = p.cid.hash_code; digest = p.cid.digest; offset = 0 }

-- the sections whose entry is in the list
abbrev pub listed : Format → List EntryParts → List Placed → List Placed
listed f es ps = filter (λ p. is_entry_of es (listed_as f p)) ps

-- the multihash of the section is not in the list, and is not by the identity
abbrev pub is_unlisted : List EntryParts → Placed → Bool
is_unlisted names p = not (p.cid.hash_code == 0 || is_entry_of names (multihash_of p))

abbrev pub unlisted : Format → List EntryParts → List Placed → List Placed
unlisted f es ps = filter (is_unlisted (map multihash_of (listed f es ps))) ps

-- ---- the whole check

-- the findings on an index of this format with these entries, against these sections
pub record AreFindings (f : Format) (es : List EntryParts) (ps : List Placed) (it : Findings) : Type 0 where
  pub wrong : it.wrong.items ≡ wrong f es ps
  pub unordered : it.unordered.items ≡ unordered es
  pub unlisted : it.unlisted.items ≡ unlisted f es ps
