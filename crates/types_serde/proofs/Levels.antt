-- What represents a level after an item, a key, or another call.
use Rattle.std.proofs.Common.{◌≡◌, ℕ, zero, suc, ◌+◌, ◌≤◌, List, [], ◌∷◌, ◌++◌, length, map, take, drop, Option, None, Some, refl, sym, ap, ap₂, ◌∙◌, subst, arith, length-append, append_assoc, append-nil, take_all, take-append-drop, length-drop, length-take-le, All, flat_map}
use Rattle.std.proofs.Math.Seq.{drop-append_seam, take-append_seam}
use Rattle.std.proofs.lemmas.List.{drop-append-le}
use Rattle.std.proofs.lemmas.Grind.{flat_map-append}
use Rattle.std.specs.Fmt.{◌++?◌}
use Rattle.dagcbor_heads.proofs.Writing.{append_Some, Some_append, joined_assoc}
use Rattle.ipld_tree.specs.Tree.{Tree, null, text, bytes, link, IsTree, AreItems, items_of}
use Rattle.ipld_tree.specs.Spelled.{spelled, spelled_items}
use Rattle.dagcbor_write.specs.Trees.{Pair}
use Rattle.dagcbor_write.specs.Maps.{Texts, IsSpellingOf, AreSpellingsOf}
use Rattle.dagcbor_write.proofs.Mapping.{pairwise_push}
use Rattle.types_serde.specs.Building.{Level, whole, in_list, in_map, in_link, rests, for_key, for_value, for_map, put, put_key, put_unit, put_bytes, as_link, begin_key, flatten}
use Rattle.types_serde.specs.Holds.{IsGood, HoldsLevel, HoldsEntries, Part, part}
use Rattle.dagcbor_write.specs.Spans.{whole_at, entry_at, IsWithin}
use Rattle.types_serde.specs.declared.frame.Frame.{Frame}
use Rattle.dagcbor_write.specs.declared.collect.gathered.Span.{Span}
use Rattle.types_serde.specs.declared.frame.Stage.TheVariants as stage
use Rattle.types_serde.proofs.AtStages.{at_stage}
use Rattle.types_serde.proofs.Spans.{entries_stay, within_stays, wholes_stay, value_joins, value_within}

-- the next level is represented
abbrev pub After : (Level → Option Level) → Part → Level → Type 0
After next new l = (m : Level) × (next l ≡ Some m) × HoldsLevel m new

-- if a level is represented, the next one is afterwards
abbrev pub Moves : (Level → Option Level) → Part → Part → Type 0
Moves next old new = (l : Level) → HoldsLevel l old → After next new l

-- ---- lists

items_push : (ts : List Tree) (t : Tree) → spelled_items (items_of (ts ++ t ∷ [])) ≡ spelled_items (items_of ts) ++? spelled t
unfolding spelled
items_push [] t = append_Some (spelled t) ∙ sym (Some_append (spelled t))
items_push (u ∷ ts) t = ap (λ (x : Option (List ℕ)). spelled u ++? x) (items_push ts t) ∙ sym (joined_assoc (spelled u) (spelled_items (items_of ts)) (spelled t))

good_push : (ts : List Tree) (t : Tree) → AreItems (items_of ts) → IsTree t → AreItems (items_of (ts ++ t ∷ []))
good_push [] t h g = (g, tt)
good_push (u ∷ ts) t h g = (h.0, good_push ts t h.1 g)

module _ (t : Tree) (f : Frame) (b more : List ℕ) (ss : List Span) (good : IsGood t more) where
  -- a list with one more item
  pub item_put : f.stage ≡ stage.List → Moves (put t) (part f b ss) (part (record f { count = f.count + 1 }) (b ++ more) ss)
  item_put at = at_stage stage.List (part f b ss) (After (put t) (part (record f { count = f.count + 1 }) (b ++ more) ss)) at (λ ts h.
      let longer : drop (f.place + 1) (b ++ more) ≡ drop (f.place + 1) b ++ more = drop-append-le (f.place + 1) b more (omega (arith, h.4)) in
      (in_list (ts ++ t ∷ []), refl, (at, ap (λ n. n + 1) h.1 ∙ sym (length-append ts (t ∷ [])), items_push ts t ∙ ap₂ (λ (x y : Option (List ℕ)). x ++? y) h.2 good.0 ∙ ap Some (sym longer), good_push ts t h.3 good.1, omega (arith, h.4, length-append b more), h.5)))

  -- the whole
  pub whole_put : f.stage ≡ stage.Vacant → Moves (put t) (part f b ss) (part (record f { stage = stage.Full }) (b ++ more) ss)
  whole_put at = at_stage stage.Vacant (part f b ss) (After (put t) (part (record f { stage = stage.Full }) (b ++ more) ss)) at (λ h.
      let all : b ++ more ≡ more = ap (λ x. x ++ more) h.1 in
      (whole (Some t), refl, (refl, (good.0 ∙ ap Some (sym all), good.1))))

-- ---- maps

module _ (place key : ℕ) (old : List ℕ) (ss : List Span) where
  -- entries before a key that waits
  entries_seen : (ps : List Pair) → HoldsEntries ps place (take key old) ss → AreSpellingsOf ps (map (entry_at old) ss) × All (IsWithin (length old)) ss
  entries_seen ps h =
      let P : List ℕ → Type 0 = λ x. AreSpellingsOf ps (map (entry_at x) ss) × All (IsWithin (length x)) ss in
      let Q : List Texts → Type 0 = λ es. AreSpellingsOf ps es in
      subst P (take-append-drop key old) (subst Q (sym (entries_stay (take key old) (drop key old) ss h.1)) h.0, within_stays (take key old) (drop key old) ss h.1)

  seam : (b : List ℕ) → take key old ++ (drop key old ++ b) ≡ old ++ b
  seam b = sym (append_assoc (take key old) (drop key old) b) ∙ ap (λ x. x ++ b) (take-append-drop key old)

  abbrev one_more : List ℕ → Span
  one_more b = record { start = key; key_end = length old; end = length (old ++ b) }

  -- these entries and one after them are all that is there
  runs : (ps : List Pair) (b : List ℕ) → HoldsEntries ps place (take key old) ss → key ≤ length old → flat_map (whole_at (old ++ b)) (ss ++ one_more b ∷ []) ≡ drop (place + 1) (old ++ b)
  runs ps b h inside =
      let first : flat_map (whole_at (old ++ b)) ss ≡ drop (place + 1) (take key old) = ap (λ x. flat_map (whole_at x) ss) (sym (seam b)) ∙ wholes_stay (take key old) (drop key old ++ b) ss h.1 ∙ h.2 in
      let rest : whole_at (old ++ b) (one_more b) ≡ drop key (old ++ b) = take_all _ (drop key (old ++ b)) (omega (arith, length-drop key (old ++ b))) in
      let last : flat_map (whole_at (old ++ b)) (one_more b ∷ []) ≡ drop key old ++ b = append-nil (whole_at (old ++ b) (one_more b)) ∙ rest ∙ drop-append-le key old b inside in
      flat_map-append (whole_at (old ++ b)) ss (one_more b ∷ []) ∙ ap₂ (λ x y. x ++ y) first last ∙ sym (drop-append-le (place + 1) (take key old) (drop key old ++ b) (omega (arith, h.3))) ∙ ap (drop (place + 1)) (seam b)

  entries_put : (ps : List Pair) (k : List ℕ) (t : Tree) (b : List ℕ) → HoldsEntries ps place (take key old) ss → IsGood (text k) (drop key old) → key ≤ length old → IsGood t b → HoldsEntries (ps ++ (Some (text k), Some t) ∷ []) place (old ++ b) (ss ++ one_more b ∷ [])
  entries_put ps k t b h name inside good =
      let seen = entries_seen ps h in
      let P : List Texts → Type 0 = λ es. AreSpellingsOf (ps ++ (Some (text k), Some t) ∷ []) es in
      let one : IsSpellingOf (Some (text k), Some t) (drop key old, b) = record { key = name.0; value = good.0; good_key = name.1; good_value = good.1 } in
      let spelled = subst P (sym (value_joins old b ss (one_more b) seen.1 inside refl refl)) (pairwise_push IsSpellingOf ps (map (entry_at old) ss) (Some (text k), Some t) (drop key old, b) seen.0 one) in
      (spelled, value_within old b ss (one_more b) seen.1 inside refl refl, runs ps b h inside, omega (arith, h.3, length-take-le key old inside, inside, length-append old b))

-- the value of the key that waits
pub value_put : (t : Tree) (f : Frame) (b more : List ℕ) (ss : List Span) → IsGood t more → f.stage ≡ stage.WantsValue
    → Moves (put t) (part f b ss) (part (record f { stage = stage.Rests }) (b ++ more) (ss ++ (record { start = f.key; key_end = length b; end = length (b ++ more) }) ∷ []))
value_put t f b more ss good at = at_stage stage.WantsValue (part f b ss) (After (put t) (part (record f { stage = stage.Rests }) (b ++ more) (ss ++ (record { start = f.key; key_end = length b; end = length (b ++ more) }) ∷ []))) at (λ ps k n h.
    (in_map (ps ++ (Some (text k), Some t) ∷ []) rests n, refl, ((refl, entries_put f.place f.key b ss ps k t more h.0.1 h.0.2 h.0.3 good), h.1)))

module _ (k : List ℕ) (f : Frame) (b more : List ℕ) (ss : List Span) (good : IsGood (text k) more) where
  abbrev waiting : Part
  waiting = part (record f { stage = stage.WantsValue; key = length b }) (b ++ more) ss

  -- a key after the entries
  waits : (ps : List Pair) (n : ℕ) → HoldsEntries ps f.place b ss → f.flat ≡ n → HoldsLevel (in_map ps (for_value k) n) waiting
  waits ps n h flat =
      let P : List ℕ → Type 0 = λ x. HoldsEntries ps f.place x ss in
      let Q : List ℕ → Type 0 = λ x. IsGood (text k) x in
      ((refl, subst P (sym (take-append_seam b more)) h, subst Q (sym (drop-append_seam b more)) good, omega (arith, length-append b more)), flat)

  -- a text as a key
  pub text_waits : f.stage ≡ stage.WantsKey → Moves (put (text k)) (part f b ss) waiting
  text_waits at = at_stage stage.WantsKey (part f b ss) (After (put (text k)) waiting) at (λ ps n h. (in_map ps (for_value k) n, refl, waits ps n h.0.1 h.1))

  -- a name as a key
  pub name_waits : f.stage ≡ stage.Rests → Moves (put_key k) (part f b ss) waiting
  name_waits at = at_stage stage.Rests (part f b ss) (After (put_key k) waiting) at (λ ps n h. (in_map ps (for_value k) n, refl, waits ps n h.0.1 h.1))

-- ---- calls that change the stage alone

module _ (f : Frame) (b : List ℕ) (ss : List Span) where
  pub key_begun : f.stage ≡ stage.Rests → Moves begin_key (part f b ss) (part (record f { stage = stage.WantsKey }) b ss)
  key_begun at = at_stage stage.Rests (part f b ss) (After begin_key (part (record f { stage = stage.WantsKey }) b ss)) at (λ ps n h. (in_map ps for_key n, refl, ((refl, h.0.1), h.1)))

  pub flattened : f.stage ≡ stage.Rests → Moves flatten (part f b ss) (part (record f { stage = stage.WantsMap }) b ss)
  flattened at = at_stage stage.Rests (part f b ss) (After flatten (part (record f { stage = stage.WantsMap }) b ss)) at (λ ps n h. (in_map ps for_map n, refl, ((refl, h.0.1), h.1)))

  pub no_map : f.stage ≡ stage.WantsMap → Moves put_unit (part f b ss) (part (record f { stage = stage.Rests }) b ss)
  no_map at = at_stage stage.WantsMap (part f b ss) (After put_unit (part (record f { stage = stage.Rests }) b ss)) at (λ ps n h. (in_map ps rests n, refl, ((refl, h.0.1), h.1)))

  -- a map without an entry is a link
  pub link_begun : f.stage ≡ stage.Rests → f.flat ≡ 0 → ss ≡ [] → Moves as_link (part f b ss) (part (record f { stage = stage.Link }) (take f.place b) ss)
  link_begun at flat none = at_stage stage.Rests (part f b ss) (After as_link (part (record f { stage = stage.Link }) (take f.place b) ss)) at (λ ps n h. by ps n h.0.1 (sym h.1 ∙ flat))
    where
      by : (ps : List Pair) (n : ℕ) → HoldsEntries ps f.place b ss → n ≡ 0 → After as_link (part (record f { stage = stage.Link }) (take f.place b) ss) (in_map ps rests n)
      by [] zero h e = (in_link None, refl, (refl, length-take-le f.place b (omega (arith, h.3)), none))
      by [] (suc n) h e = cc
      by (p ∷ ps) n h e = let P : List Span → Type 0 = λ s. AreSpellingsOf (p ∷ ps) (map (entry_at b) s) in absurd (subst P none h.0)

  -- the CID of a link
  pub cid_put : (cid more : List ℕ) → f.stage ≡ stage.Link → IsGood (link cid) more → Moves (put_bytes cid) (part f b ss) (part (record f { stage = stage.Linked }) (b ++ more) ss)
  cid_put cid more at good = at_stage stage.Link (part f b ss) (After (put_bytes cid) (part (record f { stage = stage.Linked }) (b ++ more) ss)) at (λ h.
      let P : List ℕ → Type 0 = λ x. IsGood (link cid) x in
      let Q : ℕ → Type 0 = λ n. IsGood (link cid) (drop n (b ++ more)) in
      (in_link (Some cid), refl, (refl, subst Q h.1 (subst P (sym (drop-append_seam b more)) good), h.2)))

-- ---- what is only an item

pub unit_is_null : (p : Part) → (p.frame.stage ≡ stage.WantsMap → ⊥) → (l : Level) → HoldsLevel l p → put null l ≡ put_unit l
unit_is_null p n (in_map ps for_map k) h = absurd (n h.0.0)
unit_is_null p n _ h = refl

pub bytes_are_bytes : (s : List ℕ) (p : Part) → (p.frame.stage ≡ stage.Link → ⊥) → (l : Level) → HoldsLevel l p → put (bytes s) l ≡ put_bytes s l
bytes_are_bytes s p n (in_link None) h = absurd (n h.0)
bytes_are_bytes s p n _ h = refl
