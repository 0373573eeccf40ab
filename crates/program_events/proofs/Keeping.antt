-- What is known by a map.
use Rattle.std.proofs.Common.{◌≡◌, ℕ, List, [], Bool, true, false, cond, refl, ap, ◌∙◌, Option, None, option_map, string_bytes, String, Global, BTreeMap}
use Rattle.std.proofs.lemmas.Map.Text.{btree_map_updates_text}
use Rattle.std.specs.BTreeMap.{UpdatesBy, get_by_text}
use Rattle.std.specs.Map.{lookup}
use Rattle.std.specs.BTreeMap.{is_at}
use Rattle.std.specs.Ordering.{nat_cmp}
use Rattle.std.specs.Str.{bytes_eq}
use Rattle.std.specs.String.{string_cmp}
use Rattle.std.specs.Cmp.Lexicographic.{slice_cmp}
use Rattle.program_events.specs.Seen.{see, seen_in, nothing_seen, root_kept}
use Rattle.program_events.specs.declared.seen.Last.{Last}

-- what a call that changes the entry of one key leaves
pub seen_put : (old new : BTreeMap (String Global) Last) (did : List ℕ) (w : Option Last) → UpdatesBy string_cmp (λ k. slice_cmp nat_cmp did (string_bytes k)) old new w → seen_in new ≡ see (seen_in old) did (option_map root_kept w)
seen_put old new did w h = λ i q. each q i
  where
    by : (t : Bool) (q : List ℕ) → option_map root_kept (cond t w (get_by_text old q)) ≡ cond t (option_map root_kept w) (seen_in old q)
    by true q = refl
    by false q = refl

    each : (q : List ℕ) → seen_in new q ≡ see (seen_in old) did (option_map root_kept w) q
    each q = ap (option_map root_kept) (btree_map_updates_text did old new w h q) ∙ by (bytes_eq did q) q

pub seen_none : (map : BTreeMap (String Global) Last) → map.entries ≡ [] → seen_in map ≡ nothing_seen
seen_none map none = λ i q. each q i
  where
    each : (q : List ℕ) → seen_in map q ≡ None
    each q = ap (λ es. option_map root_kept (lookup (is_at (λ (k : String Global). slice_cmp nat_cmp q (string_bytes k))) es)) none
