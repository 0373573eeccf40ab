-- Items and entries that were passed, one after the other, and those still to come.
use Rattle.std.proofs.Common.{◌≡◌, ℕ, ◌+◌, ◌-◌, ◌<◌, ◌≤◌, List, ◌++◌, refl, sym, ap, ◌∙◌, subst, arith, append_assoc, Option, Some, None}
use Rattle.dagcbor_core.specs.Head.{head}
use Rattle.dagcbor_core.specs.Splits.{SplitsHead}
use Rattle.ipld_tree.specs.Tree.{list, mapping, Items, no_items, item, Entries, no_entries, entry, Precedes, items_need, entries_need}
use Rattle.ipld_tree.specs.Spelling.{entries_spelling, item_count, entry_count, IsFront, AreFronts, AreEntryFronts}
use Rattle.ipld_tree.proofs.Fronts.{list_closed, item_closed, items_after, entry_closed, entries_after}
use Rattle.dagcbor_items.proofs.Rows.{all_follow}
use Rattle.dagcbor_items.specs.Places.{Follows}
use Rattle.dagcbor_items.proofs.Pushes.{last_key}
use Rattle.dagcbor_items.specs.Entries.{AllFollow}
use Rattle.abi_calls.specs.TapeSplits.{SplitsKey, SplitsItem, SplitsItems, SplitsEntries}

-- ---- lists

pub list_passed : (n steps : ℕ) (b c rest : List ℕ) → 2 ≤ steps → SplitsHead b 4 n c → SplitsItems c n (steps - 2) rest → SplitsItem b steps rest
list_passed n steps b c rest some h k = (list k.0, subst (λ x. IsFront x (list k.0) rest) (ap (λ m. head 4 m ++ c) k.1 ∙ sym h.2) (list_closed c rest k.0 (omega (arith, k.1, h.1)) k.2), omega (arith, some, k.3))

-- the items that were passed, and those still to come if there are `count` of them
pub record ItemsPassed (b : List ℕ) (count to_come steps : ℕ) (now : List ℕ) : Type 0 where
  passed : (end : List ℕ) (more : Items) → AreFronts now more end → items_need more ≤ steps → (ts : Items) × (item_count ts + to_come ≡ count + item_count more) × AreFronts b ts end × (items_need ts ≤ steps)
  left : (end : List ℕ) → SplitsItems b count steps end → (more : Items) × (item_count more ≡ to_come) × AreFronts now more end × (items_need more ≤ steps)

pub none_passed : (b : List ℕ) (count steps : ℕ) → ItemsPassed b count count steps b
none_passed b count steps = record { passed = λ end more f n. (more, omega arith, f, n); left = λ end k. k }

pub one_passed : (b now rest : List ℕ) (count to_come steps : ℕ) → 0 < to_come → ItemsPassed b count to_come steps now → SplitsItem now steps rest → ItemsPassed b count (to_come - 1) steps rest
one_passed b now rest count to_come steps some s k = record {
  passed = λ end more f n.
      let q = s.passed end (item k.0 more) (item_closed now rest end k.0 more k.1 f) (omega (arith, n, k.2)) in
      (q.0, omega (arith, q.1, some), q.2, q.3);
  left = λ end h. let q = s.left end h in following q.0 q.1 q.2 q.3;
}
  where
    following : {end : List ℕ} (more : Items) → item_count more ≡ to_come → AreFronts now more end → items_need more ≤ steps → (us : Items) × (item_count us ≡ to_come - 1) × AreFronts rest us end × (items_need us ≤ steps)
    following no_items e f n = absurd (omega (arith, e, some))
    following {end} (item u us) e f n = (us, omega (arith, e), (items_after now rest end k.0 u us k.1 f).1, omega (arith, n))

-- only the items that were passed
pub items_so_far : (b now : List ℕ) (count to_come steps : ℕ) → ItemsPassed b count to_come steps now → (ts : Items) × (item_count ts + to_come ≡ count) × AreFronts b ts now × (items_need ts ≤ steps)
items_so_far b now count to_come steps s =
    let q = s.passed now no_items record { well_formed = tt; spellable = tt; is = refl } (omega arith) in
    (q.0, omega (arith, q.1), q.2, q.3)

pub all_passed : (b now : List ℕ) (count to_come steps : ℕ) → to_come ≡ 0 → ItemsPassed b count to_come steps now → SplitsItems b count steps now
all_passed b now count to_come steps e s = let q = items_so_far b now count to_come steps s in (q.0, omega (arith, q.1, e), q.2, q.3)

-- ---- maps

pub map_passed : (n steps : ℕ) (b c rest : List ℕ) → 2 ≤ steps → SplitsHead b 5 n c → SplitsEntries c n (steps - 2) rest → SplitsItem b steps rest
map_passed n steps b c rest some h k = (
  mapping k.0,
  record {
    well_formed = k.2.well_formed;
    spellable = (omega (arith, k.1, h.1), k.2.spellable);
    is = h.2 ∙ ap (λ m. head 5 m ++ c) (sym k.1) ∙ ap (λ s. head 5 (entry_count k.0) ++ s) k.2.is ∙ sym (append_assoc (head 5 (entry_count k.0)) (entries_spelling k.0) rest);
  },
  omega (arith, some, k.3),
)

-- the last key of entries after this one
unfoldable pub last_after : Option (List ℕ) → Entries → Option (List ℕ)
last_after previous no_entries = previous
last_after previous (entry k t es) = last_after (Some k) es

pub last_of_all : (es : Entries) → last_key es ≡ last_after None es
unfolding last_key last_after
last_of_all no_entries = refl
last_of_all (entry k t no_entries) = refl
last_of_all (entry k t (entry l u es)) = last_of_all (entry l u es)

-- the entries that were passed, and those still to come if there are `count` of them
pub record EntriesPassed (b : List ℕ) (count to_come steps : ℕ) (previous : Option (List ℕ)) (now : List ℕ) : Type 0 where
  passed : (end : List ℕ) (more : Entries) → AreEntryFronts now more end → entries_need more ≤ steps → AllFollow previous more
      → (es : Entries) × (entry_count es + to_come ≡ count + entry_count more) × AreEntryFronts b es end × (entries_need es ≤ steps) × (last_key es ≡ last_after previous more)
  left : (end : List ℕ) → SplitsEntries b count steps end → (more : Entries) × (entry_count more ≡ to_come) × AreEntryFronts now more end × (entries_need more ≤ steps) × AllFollow previous more

pub no_entry_passed : (b : List ℕ) (count steps : ℕ) → EntriesPassed b count count steps None b
no_entry_passed b count steps = record { passed = λ end more f n a. (more, omega arith, f, n, last_of_all more); left = λ end k. (k.0, k.1, k.2, k.3, tt) }

pub one_entry_passed : (b now c rest key : List ℕ) (count to_come steps : ℕ) (previous : Option (List ℕ)) → 0 < to_come → EntriesPassed b count to_come steps previous now → SplitsKey now key c → Follows previous key → SplitsItem c steps rest
    → EntriesPassed b count (to_come - 1) steps (Some key) rest
unfolding last_after
one_entry_passed b now c rest key count to_come steps previous some s h follows k = record {
  passed = λ end more f n a.
      let q = s.passed end (entry key k.0 more) (entry_closed now c rest end key k.0 more h k.1 a f) (omega (arith, n, k.2)) (all_follow previous key k.0 more follows) in
      (q.0, omega (arith, q.1, some), q.2, q.3, q.4);
  left = λ end i. let q = s.left end i in following q.0 q.1 q.2 q.3;
}
  where
    following : {end : List ℕ} (more : Entries) → entry_count more ≡ to_come → AreEntryFronts now more end → entries_need more ≤ steps
        → (es : Entries) × (entry_count es ≡ to_come - 1) × AreEntryFronts rest es end × (entries_need es ≤ steps) × AllFollow (Some key) es
    following no_entries e f n = absurd (omega (arith, e, some))
    following {end} (entry l u es) e f n =
        let a = entries_after now c rest end key l k.0 u es h k.1 f in
        (es, omega (arith, e), a.3, omega (arith, n), subst (λ x. Precedes x es) a.0 a.2)

-- only the entries that were passed, and the last of their keys
pub entries_so_far : (b now : List ℕ) (count to_come steps : ℕ) (previous : Option (List ℕ)) → EntriesPassed b count to_come steps previous now
    → (es : Entries) × (entry_count es + to_come ≡ count) × AreEntryFronts b es now × (last_key es ≡ previous) × (entries_need es ≤ steps)
unfolding last_after
entries_so_far b now count to_come steps previous s =
    let q = s.passed now no_entries record { well_formed = tt; spellable = tt; is = refl } (omega arith) (ends previous) in
    (q.0, omega (arith, q.1), q.2, q.4, q.3)
  where
    ends : (previous : Option (List ℕ)) → AllFollow previous no_entries
    ends None = tt
    ends (Some k) = tt

pub all_entries_passed : (b now : List ℕ) (count to_come steps : ℕ) (previous : Option (List ℕ)) → to_come ≡ 0 → EntriesPassed b count to_come steps previous now → SplitsEntries b count steps now
all_entries_passed b now count to_come steps previous e s = let q = entries_so_far b now count to_come steps previous s in (q.0, omega (arith, q.1, e), q.2, q.4)
