-- Appending, one piece after another.
use Rattle.std.proofs.Common.{◌≡◌, ℕ, ◌*◌, List, ◌++◌, length, ap, ◌∙◌, append_assoc, flat_map}
use Rattle.std.specs.Int.{w32, w64, to_le_bytes}
use Rattle.files_index.specs.Index.{EntryParts, entry_bytes, bucket_bytes, buckets_bytes, code_bytes}

pub bucket_pushed : (out mid following : List ℕ) (width count : ℕ) (es : List EntryParts) → mid ≡ out ++ to_le_bytes w32 width → following ≡ mid ++ to_le_bytes w64 count → count ≡ width * length es → following ++ flat_map entry_bytes es ≡ out ++ bucket_bytes (width, es)
bucket_pushed out mid following width count es first second is =
    ap (λ l. l ++ flat_map entry_bytes es) (second ∙ (ap (λ l. l ++ to_le_bytes w64 count) first ∙ (append_assoc out (to_le_bytes w32 width) (to_le_bytes w64 count) ∙ ap (λ n. out ++ (to_le_bytes w32 width ++ to_le_bytes w64 n)) is)))
    ∙ (append_assoc out (to_le_bytes w32 width ++ to_le_bytes w64 (width * length es)) (flat_map entry_bytes es)
    ∙ ap (λ l. out ++ l) (append_assoc (to_le_bytes w32 width) (to_le_bytes w64 (width * length es)) (flat_map entry_bytes es)))

pub code_pushed : (out mid : List ℕ) (code : ℕ) (es : List EntryParts) → mid ≡ out ++ to_le_bytes w64 code → mid ++ buckets_bytes es ≡ out ++ code_bytes (code, es)
code_pushed out mid code es first = ap (λ l. l ++ buckets_bytes es) first ∙ append_assoc out (to_le_bytes w64 code) (buckets_bytes es)
