-- The entries of a map, by their keys.
use Rattle.std.proofs.Common.{◌≡◌, inl, inr, ℕ, ◌-◌, ◌<◌, ◌≤◌, List, [], ◌++◌, true, refl, sym, ap, ◌∙◌, subst, arith, append_assoc, None, Some, Less, Equal}
use Rattle.ipld_tree.specs.Key.{key_cmp, comes_before}
use Rattle.ipld_tree.specs.Tree.{Tree, text, Entries, no_entries, entry, AreEntries, any_need, entries_need}
use Rattle.ipld_tree.specs.Spelling.{entry_count, entries_spelling, IsFront, AreEntryFronts}
use Rattle.ipld_tree.proofs.Fronts.{entry_opened, entries_after}
use Rattle.ipld_tree.proofs.Ordered.{IsRising, Has, key_cmp_total, key_cmp_same, less_from_before, above}
use Rattle.ipld_paths.specs.Paths.{IsValueOf}
use Rattle.ipld_paths.specs.Parts.{EndsWith, FindsValue}

-- ---- the order of keys

pub rising : (es : Entries) → AreEntries es → IsRising es
rising no_entries h = tt
rising (entry k t es) h = (h.2, rising es h.3)

pub has_value : (key : List ℕ) (es : Entries) (t : Tree) → IsValueOf key es t → Has es key t
has_value key no_entries t h = h
has_value key (entry k u es) t (inl same) = inl same
has_value key (entry k u es) t (inr more) = inr (has_value key es t more)

pub never_below : (k : List ℕ) → key_cmp k k ≡ Less → ⊥
never_below k h = let differ : Equal ≡ Less = sym (key_cmp_same k) ∙ h in cc

-- a key that comes before the first key of the entries is not among them
pub no_key_from : (key k : List ℕ) (u t : Tree) (es : Entries) → AreEntries (entry k u es) → comes_before key k ≡ true → ¬ IsValueOf key (entry k u es) t
no_key_from key k u t es well before (inl same) = never_below key (subst (λ x. key_cmp key x ≡ Less) same.0 (less_from_before key k before))
no_key_from key k u t es well before (inr more) = never_below key (key_cmp_total.trans key k key (less_from_before key k before) (above k es well.2 (rising es well.3) key t (has_value key es t more)))

-- ---- the loop

-- `to_come` of the entries are left, and they have the value of the key, if any entry does
pub record KeysPassed (b : List ℕ) (count to_come : ℕ) (key now : List ℕ) : Type 0 where
  left : (es : Entries) (rest : List ℕ) → AreEntryFronts b es rest → entry_count es ≡ count → entries_need es ≤ 256
      → (fs : Entries) × (entry_count fs ≡ to_come) × AreEntryFronts now fs rest × (entries_need fs ≤ 256) × ((t : Tree) → IsValueOf key fs t → IsValueOf key es t) × ((t : Tree) → IsValueOf key es t → IsValueOf key fs t)
  before : List ℕ
  whole : b ≡ before ++ now

pub no_key_passed : (b : List ℕ) (count : ℕ) (key : List ℕ) → KeysPassed b count count key b
no_key_passed b count key = record { left = λ es rest f e n. (es, e, f, n, (λ t h. h), (λ t h. h)); before = []; whole = refl }

-- `next` is the key at the front, and `value` are the bytes after it
abbrev pub IsNextKey : List ℕ → List ℕ → List ℕ → Type 0
IsNextKey now next value = (key rest : List ℕ) → IsFront now (text key) rest → (next ≡ key) × (value ≡ rest)

-- the next entry
record NextEntry (now next value end : List ℕ) (fs : Entries) : Type 0 where
  tree : Tree
  more : Entries
  following : List ℕ
  is : fs ≡ entry next tree more
  key : IsFront now (text next) value
  front : IsFront value tree following
  need : any_need tree ≤ 256
  needs : entries_need more ≤ 256

next_entry : (now next value end : List ℕ) (to_come : ℕ) (fs : Entries) → 0 < to_come → entry_count fs ≡ to_come → AreEntryFronts now fs end → entries_need fs ≤ 256 → IsNextKey now next value → NextEntry now next value end fs
next_entry now next value end to_come no_entries some e f n splits = absurd (omega (arith, some, e))
next_entry now next value end to_come (entry k u gs) some e f n splits =
    let o = entry_opened now end k u gs f in
    let p = splits k o.0 o.1 in
    record {
      tree = u;
      more = gs;
      following = entries_spelling gs ++ end;
      is = ap (λ x. entry x u gs) (sym p.0);
      key = subst (λ x. IsFront now (text x) value) (sym p.0) (subst (IsFront now (text k)) (sym p.1) o.1);
      front = subst (λ x. IsFront x u (entries_spelling gs ++ end)) (sym p.1) o.2;
      need = omega (arith, n);
      needs = omega (arith, n);
    }

-- if no key is at the front, there is no entry, though one is to come
pub no_key_there : {A : Type 0} (bytes_of : A → List ℕ) (b now key : List ℕ) (count to_come : ℕ) → 0 < to_come → KeysPassed b count to_come key now → ((k rest : List ℕ) → IsFront now (text k) rest → ⊥) → FindsValue {A = A} bytes_of b count key None
no_key_there bytes_of b now key count to_come some s none = λ es rest f e n. let q = s.left es rest f e n in absurd (by rest q.0 q.1 q.2)
  where
    by : (rest : List ℕ) (fs : Entries) → entry_count fs ≡ to_come → AreEntryFronts now fs rest → ⊥
    by rest no_entries e f = omega (arith, some, e)
    by rest (entry k u gs) e f = let o = entry_opened now rest k u gs f in none k o.0 o.1

-- no value follows it
pub no_value_there : {A : Type 0} (bytes_of : A → List ℕ) (b now next value key : List ℕ) (count to_come : ℕ) → 0 < to_come → KeysPassed b count to_come key now → IsNextKey now next value → ((t : Tree) (rest : List ℕ) → IsFront value t rest → ⊥) → FindsValue {A = A} bytes_of b count key None
no_value_there bytes_of b now next value key count to_come some s splits none = λ es rest f e n.
    let q = s.left es rest f e n in
    let o = next_entry now next value rest to_come q.0 some q.1 q.2 q.3 splits in
    absurd (none o.tree o.following o.front)

-- the key at the front is the one that is looked for
pub value_found : {A : Type 0} (bytes_of : A → List ℕ) (a : A) (b now next key : List ℕ) (count to_come : ℕ) → 0 < to_come → KeysPassed b count to_come key now → IsNextKey now next (bytes_of a) → next ≡ key → FindsValue bytes_of b count key (Some a)
value_found bytes_of a b now next key count to_come some s splits same = λ es rest f e n.
    let q = s.left es rest f e n in
    let o = next_entry now next (bytes_of a) rest to_come q.0 some q.1 q.2 q.3 splits in
    (o.tree, q.4 o.tree (subst (λ x. IsValueOf key x o.tree) (sym o.is) (inl (same, refl))), (o.following, o.front, o.need))

-- the key at the front comes after the one that is looked for
pub key_passed_over : {A : Type 0} (bytes_of : A → List ℕ) (b now next value key : List ℕ) (count to_come : ℕ) → 0 < to_come → KeysPassed b count to_come key now → IsNextKey now next value → comes_before key next ≡ true → FindsValue {A = A} bytes_of b count key None
key_passed_over bytes_of b now next value key count to_come some s splits before = λ es rest f e n.
    let q = s.left es rest f e n in
    let o = next_entry now next value rest to_come q.0 some q.1 q.2 q.3 splits in
    λ t h. no_key_from key next o.tree t o.more (subst AreEntries o.is q.2.well_formed) before (subst (λ x. IsValueOf key x t) o.is (q.5 t h))

-- the key at the front is another, and its entry is passed
pub one_key_passed : (b now next value rest key : List ℕ) (count to_come : ℕ) → 0 < to_come → KeysPassed b count to_come key now → IsNextKey now next value → EndsWith now value → ¬ (next ≡ key) → ((t : Tree) (r : List ℕ) → IsFront value t r → rest ≡ r) → EndsWith value rest → KeysPassed b count (to_come - 1) key rest
one_key_passed b now next value rest key count to_come some s splits ends other found within = record {
  left = λ es end f e n. let q = s.left es end f e n in following es end q.0 q.1 q.2 q.3 q.4 q.5;
  before = s.before ++ (ends.0 ++ within.0);
  whole = s.whole ∙ ap (λ x. s.before ++ x) (ends.1 ∙ ap (λ x. ends.0 ++ x) within.1 ∙ sym (append_assoc ends.0 (within.0) rest)) ∙ sym (append_assoc s.before (ends.0 ++ within.0) rest);
}
  where
    following : (es : Entries) (end : List ℕ) (fs : Entries) → entry_count fs ≡ to_come → AreEntryFronts now fs end → entries_need fs ≤ 256 → ((t : Tree) → IsValueOf key fs t → IsValueOf key es t) → ((t : Tree) → IsValueOf key es t → IsValueOf key fs t)
        → (gs : Entries) × (entry_count gs ≡ to_come - 1) × AreEntryFronts rest gs end × (entries_need gs ≤ 256) × ((t : Tree) → IsValueOf key gs t → IsValueOf key es t) × ((t : Tree) → IsValueOf key es t → IsValueOf key gs t)
    following es end fs e f n into out =
        let o = next_entry now next value end to_come fs some e f n splits in
        let a = entries_after now value rest end next next o.tree o.tree o.more o.key (subst (IsFront value o.tree) (sym (found o.tree o.following o.front)) o.front) (subst (λ x. AreEntryFronts now x end) o.is f) in (
          o.more,
          omega (arith, some, e, ap entry_count o.is),
          a.3,
          o.needs,
          (λ t h. into t (subst (λ x. IsValueOf key x t) (sym o.is) (inr h))),
          (λ t h. later t o.tree o.more (subst (λ x. IsValueOf key x t) o.is (out t h))),
        )
      where
        later : (t u : Tree) (gs : Entries) → IsValueOf key (entry next u gs) t → IsValueOf key gs t
        later t u gs (inl same) = absurd (other same.0)
        later t u gs (inr more) = more

-- all were passed
pub all_keys_passed : {A : Type 0} (bytes_of : A → List ℕ) (b now key : List ℕ) (count to_come : ℕ) → to_come ≡ 0 → KeysPassed b count to_come key now → FindsValue {A = A} bytes_of b count key None
all_keys_passed bytes_of b now key count to_come none s = λ es rest f e n t h. let q = s.left es rest f e n in by t q.0 q.1 (q.5 t h)
  where
    by : (t : Tree) (fs : Entries) → entry_count fs ≡ to_come → IsValueOf key fs t → ⊥
    by t no_entries e h = h
    by t (entry k u gs) e h = omega (arith, none, e)

-- the bytes after a key are the last of the bytes
pub value_within : (b now value key : List ℕ) (count to_come : ℕ) → KeysPassed b count to_come key now → EndsWith now value → EndsWith b value
value_within b now value key count to_come s ends = (s.before ++ ends.0, s.whole ∙ ap (λ x. s.before ++ x) ends.1 ∙ sym (append_assoc s.before ends.0 value))
