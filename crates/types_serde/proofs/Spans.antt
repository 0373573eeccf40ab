-- Entries in one buffer, to which bytes are appended.
use Rattle.std.proofs.Common.{◌≡◌, ℕ, ◌≤◌, List, [], ◌∷◌, ◌++◌, length, map, drop, refl, sym, ap₂, ◌∙◌, arith, length-append, append_assoc, All, flat_map}
use Rattle.std.proofs.lemmas.List.{map_push}
use Rattle.std.proofs.lemmas.List.Elements.{All-push, recursion_from_All}
use Rattle.std.specs.List.{AllByRecursion}
use Rattle.dagcbor_write.specs.Order.{entries_bytes}
use Rattle.dagcbor_write.specs.declared.collect.gathered.Span.{Span}
use Rattle.dagcbor_write.specs.Spans.{whole_at, entry_at, IsWithin}
use Rattle.dagcbor_write.proofs.Spans.{range_stays, all_stay, entry_stays, last_entry, one_range}

-- bytes that are appended leave the entries as they are
pub entries_stay : (bs more : List ℕ) (ss : List Span) → All (IsWithin (length bs)) ss → map (entry_at (bs ++ more)) ss ≡ map (entry_at bs) ss
entries_stay bs more ss w = all_stay entry_at IsWithin bs more (entry_stays bs more) ss (recursion_from_All (IsWithin (length bs)) ss w)

all_wholes : (bs more : List ℕ) (ss : List Span) → AllByRecursion (IsWithin (length bs)) ss → flat_map (whole_at (bs ++ more)) ss ≡ flat_map (whole_at bs) ss
all_wholes bs more [] w = refl
all_wholes bs more (s ∷ ss) w = ap₂ (λ e es. e ++ es) (range_stays bs more s.start s.end (omega (arith, w.0)) w.0.2) (all_wholes bs more ss w.1)

pub wholes_stay : (bs more : List ℕ) (ss : List Span) → All (IsWithin (length bs)) ss → flat_map (whole_at (bs ++ more)) ss ≡ flat_map (whole_at bs) ss
wholes_stay bs more ss w = all_wholes bs more ss (recursion_from_All (IsWithin (length bs)) ss w)

-- places stay within bytes that grow
pub within_stays : (bs more : List ℕ) (ss : List Span) → All (IsWithin (length bs)) ss → All (IsWithin (length (bs ++ more))) ss
within_stays bs more ss w = λ k d h. let at = w k d h in (at.0, at.1, omega (arith, at.2, length-append bs more))

-- a value after the key that waits is an entry
pub value_joins : (old text : List ℕ) (ss : List Span) (s : Span) → All (IsWithin (length old)) ss → s.start ≤ length old → s.key_end ≡ length old → s.end ≡ length (old ++ text)
    → map (entry_at (old ++ text)) (ss ++ s ∷ []) ≡ map (entry_at old) ss ++ (drop s.start old, text) ∷ []
value_joins old text ss s w b k e =
    map_push (entry_at (old ++ text)) ss s ∙ ap₂ (λ es f. es ++ f ∷ []) (entries_stay old text ss w) (last_entry old text s b k e)

-- and its place lies within the bytes
pub value_within : (old text : List ℕ) (ss : List Span) (s : Span) → All (IsWithin (length old)) ss → s.start ≤ length old → s.key_end ≡ length old → s.end ≡ length (old ++ text) → All (IsWithin (length (old ++ text))) (ss ++ s ∷ [])
value_within old text ss s w b k e =
    All-push (IsWithin (length (old ++ text))) ss s (within_stays old text ss w) (omega (arith, b, k), omega (arith, k, e, length-append old text), omega (arith, e))

entries_bytes_are : (b : List ℕ) (ss : List Span) → AllByRecursion (IsWithin (length b)) ss → flat_map (whole_at b) ss ≡ entries_bytes (map (entry_at b) ss)
entries_bytes_are b [] w = refl
entries_bytes_are b (s ∷ ss) w = ap₂ (λ x y. x ++ y) (sym (one_range b s w.0.0 w.0.1)) (entries_bytes_are b ss w.1) ∙ append_assoc (entry_at b s).0 (entry_at b s).1 (entries_bytes (map (entry_at b) ss))

-- the bytes there, one span after another, are the entries
pub entries_are : (b : List ℕ) (ss : List Span) → All (IsWithin (length b)) ss → flat_map (whole_at b) ss ≡ entries_bytes (map (entry_at b) ss)
entries_are b ss w = entries_bytes_are b ss (recursion_from_All (IsWithin (length b)) ss w)
