-- What differs between entries whose keys rise, by one walk over both.
use Rattle.std.proofs.Common.{◌≡◌, ◌≢◌, ◌⊎◌, inl, inr, ℕ, ◌+◌, ◌-◌, ◌≤◌, ◌<◌, Bool, true, false, List, [], ◌∷◌, ◌++◌, length, take, drop, get_or, Option, Some, None, refl, sym, ap, ◌∙◌, subst, arith, bytes_eq}
use Rattle.std.specs.List.{AllByRecursion}
use Rattle.std.specs.Prelude.{if◌then◌else◌}
use Rattle.std.specs.declared.cmp.Ordering.{Ordering}
use Rattle.std.specs.declared.cmp.Ordering.TheVariants.{Less, Equal, Greater}
use Rattle.std.specs.Ordering.{nat_cmp}
use Rattle.std.specs.Cmp.Lexicographic.{slice_cmp}
use Rattle.std.proofs.lemmas.List.{at_drop_more, length-drop, length-map, take_all}
use Rattle.std.proofs.lemmas.Map.Lookups.{exact_bytes}
use Rattle.std.proofs.lemmas.Slice.Eq.{bytes_eq-Decides}
use Rattle.ipld_tree.specs.Cid.{CidParts}
use Rattle.atproto_mst.specs.Keys.{Entry, ComesBefore, Rise}
use Rattle.atproto_mst.specs.Entries.{entry_of, entries}
use Rattle.atproto_mst.specs.Finding.{lookup, by_order}
use Rattle.atproto_mst.specs.Changes.{Changed, ComesBeforeChanges, HasChange, IsChange, AreChanges}
use Rattle.atproto_mst.specs.Merging.{removed, added, same_record, changes_of_key}
use Rattle.atproto_mst.specs.declared.entries.MstEntry.{MstEntry}
use Rattle.atproto_mst.proofs.Changing.{before_trans}
use Rattle.atproto_mst.proofs.Comparing.{equal_name, other_name}
use Rattle.atproto_mst.proofs.Seeking.{Below, below_turned, not_same, other_first, this_first, no_record_before}

-- ---- one key more, before all others

same_true : (x y : Option CidParts) → same_record x y ≡ true → x ≡ y
same_true None None h = refl
same_true (Some x) (Some y) h = ap Some (equal_name x y true refl (sym h))
same_true None (Some y) h = absurd (cc h)
same_true (Some x) None h = absurd (cc h)

same_false : (x y : Option CidParts) → same_record x y ≡ false → x ≢ y
same_false None None h e = absurd (cc h)
same_false (Some x) (Some y) h e = let is : x ≡ y = cc e in other_name x y false refl (sym h) is
same_false None (Some y) h e = absurd (cc e)
same_false (Some x) None h e = absurd (cc e)

module _ (k : List ℕ) (es fs : List Entry) (be : ComesBefore k es) (re : Rise es) (bf : ComesBefore k fs) (rf : Rise fs) where
  no_change : (c : Changed) → IsChange es fs c → ComesBefore c.0 es → ComesBefore c.0 fs → ⊥
  no_change c h a b = h.2 (h.0 ∙ no_record_before c.0 es a re ∙ sym (no_record_before c.0 fs b rf) ∙ sym h.1)

  above_one : (c : Changed) → IsChange es fs c → (o : Ordering) → slice_cmp nat_cmp k c.0 ≡ o → Below k c.0
  above_one c h Less o = o
  above_one c h Equal o =
      let is = exact_bytes k c.0 o in
      absurd (no_change c h (subst (λ q. ComesBefore q es) is be) (subst (λ q. ComesBefore q fs) is bf))
  above_one c h Greater o =
      let under = below_turned k c.0 o in
      absurd (no_change c h (before_trans c.0 k es under be) (before_trans c.0 k fs under bf))

  above : (cs : List Changed) → AllByRecursion (IsChange es fs) cs → AllByRecursion (λ c. Below k c.0) cs
  above [] h = tt
  above (c ∷ cs) h = (above_one c h.0 (slice_cmp nat_cmp k c.0) refl, above cs h.1)

before_changes : (k : List ℕ) (cs : List Changed) → AllByRecursion (λ c. Below k c.0) cs → ComesBeforeChanges k cs
before_changes k [] h = tt
before_changes k (c ∷ cs) h = h.0

module _ (k : List ℕ) (x y : Option CidParts) (es fs more others : List Entry) (is_x : x ≡ lookup k more) (is_y : y ≡ lookup k others)
    (as_es : (q : List ℕ) → q ≢ k → lookup q more ≡ lookup q es) (as_fs : (q : List ℕ) → q ≢ k → lookup q others ≡ lookup q fs) where
  moved : (cs : List Changed) → AllByRecursion (λ c. Below k c.0) cs → AllByRecursion (IsChange es fs) cs → AllByRecursion (IsChange more others) cs
  moved [] a h = tt
  moved (c ∷ cs) a h =
      let other = λ (is : c.0 ≡ k). not_same k c.0 a.0 (sym is) in
      ((h.0.0 ∙ sym (as_es c.0 other), h.0.1 ∙ sym (as_fs c.0 other), h.0.2), moved cs a.1 h.1)

  all_others : (cs : List Changed) → ((q : List ℕ) → lookup q es ≢ lookup q fs → HasChange q cs) → (q : List ℕ) → q ≢ k → lookup q more ≢ lookup q others → HasChange q cs
  all_others cs all q not differ = all q (λ same. differ (as_es q not ∙ same ∙ sym (as_fs q not)))

  step_by : (cs : List Changed) → AllByRecursion (λ c. Below k c.0) cs → AreChanges es fs cs → (b : Bool) → same_record x y ≡ b
      → AreChanges more others ((if b then [] else (k, (x, y)) ∷ []) ++ cs)
  step_by cs a h true same = record {
    rise = h.rise;
    each = moved cs a h.each;
    all = λ q differ. all_others cs h.all q (λ is. differ (subst (λ p. lookup p more ≡ lookup p others) (sym is) (sym is_x ∙ same_true x y same ∙ is_y))) differ;
  }
  step_by cs a h false same = record {
    rise = (before_changes k cs a, h.rise);
    each = ((is_x, is_y, same_false x y same), moved cs a h.each);
    all = λ q differ. this_or_other q (bytes_eq k q) refl (λ not. all_others cs h.all q not differ);
  }
    where
      this_or_other : (q : List ℕ) (b : Bool) → bytes_eq k q ≡ b → (q ≢ k → HasChange q cs) → (k ≡ q) ⊎ HasChange q cs
      this_or_other q true e g = inl ((bytes_eq-Decides k q).0 e)
      this_or_other q false e g = inr (g (λ is. let yes = (bytes_eq-Decides k q).1 (sym is) in absurd (cc (e, yes))))

  step : (cs : List Changed) → ComesBefore k es → Rise es → ComesBefore k fs → Rise fs → AreChanges es fs cs → AreChanges more others (changes_of_key k x y ++ cs)
  step cs be re bf rf h = step_by cs (above k es fs be re bf rf cs h.each) h (same_record x y) refl

-- ---- all keys

only_added : (fs : List Entry) → Rise fs → AreChanges [] fs (added fs)
only_added [] r = record { rise = tt; each = tt; all = λ q differ. absurd (differ refl) }
only_added (f ∷ fs) r =
    step f.0 None (Some f.1) [] fs [] (f ∷ fs) refl (sym (this_first f.0 f.0 f.1 fs refl)) (λ q not. refl) (λ q not. other_first q f.0 f.1 fs (λ is. not (sym is)))
    (added fs) tt tt r.0 r.1 (only_added fs r.1)

only_removed : (es : List Entry) → Rise es → AreChanges es [] (removed es)
only_removed [] r = record { rise = tt; each = tt; all = λ q differ. absurd (differ refl) }
only_removed (e ∷ es) r =
    step e.0 (Some e.1) None es [] (e ∷ es) [] (sym (this_first e.0 e.0 e.1 es refl)) refl (λ q not. other_first q e.0 e.1 es (λ is. not (sym is))) (λ q not. refl)
    (removed es) r.0 r.1 tt tt (only_removed es r.1)

abbrev diff_with : Entry → List Entry → (List Entry → List Changed) → List Entry → List Changed
diff_with e es rest [] = removed (e ∷ es)
diff_with e es rest (f ∷ fs) = by_order (slice_cmp nat_cmp e.0 f.0) ((e.0, (Some e.1, None)) ∷ rest (f ∷ fs)) (changes_of_key e.0 (Some e.1) (Some f.1) ++ rest fs)
    ((f.0, (None, Some f.1)) ∷ diff_with e es rest fs)

-- what a walk over both finds
abbrev pub diff_of : List Entry → List Entry → List Changed
diff_of [] fs = added fs
diff_of (e ∷ es) fs = diff_with e es (diff_of es) fs

by_first : (e : Entry) (es : List Entry) (f : Entry) (fs : List Entry) (l i g : List Changed) → Rise (e ∷ es) → Rise (f ∷ fs) → (o : Ordering) → slice_cmp nat_cmp e.0 f.0 ≡ o
    → AreChanges es (f ∷ fs) l → AreChanges es fs i → AreChanges (e ∷ es) fs g
    → AreChanges (e ∷ es) (f ∷ fs) (by_order o ((e.0, (Some e.1, None)) ∷ l) (changes_of_key e.0 (Some e.1) (Some f.1) ++ i) ((f.0, (None, Some f.1)) ∷ g))
by_first e es f fs l i g re rf Less o hl hi hg =
    step e.0 (Some e.1) None es (f ∷ fs) (e ∷ es) (f ∷ fs) (sym (this_first e.0 e.0 e.1 es refl)) (sym (no_record_before e.0 (f ∷ fs) o rf))
    (λ q not. other_first q e.0 e.1 es (λ is. not (sym is))) (λ q not. refl) l re.0 re.1 o rf hl
by_first e es f fs l i g re rf Equal o hl hi hg =
    let is = exact_bytes e.0 f.0 o in
    step e.0 (Some e.1) (Some f.1) es fs (e ∷ es) (f ∷ fs) (sym (this_first e.0 e.0 e.1 es refl)) (sym (this_first e.0 f.0 f.1 fs (sym is)))
    (λ q not. other_first q e.0 e.1 es (λ s. not (sym s))) (λ q not. other_first q f.0 f.1 fs (λ s. not (sym s ∙ sym is)))
    i re.0 re.1 (subst (λ k. ComesBefore k fs) (sym is) rf.0) rf.1 hi
by_first e es f fs l i g re rf Greater o hl hi hg =
    step f.0 None (Some f.1) (e ∷ es) fs (e ∷ es) (f ∷ fs) (sym (no_record_before f.0 (e ∷ es) (below_turned e.0 f.0 o) re)) (sym (this_first f.0 f.0 f.1 fs refl))
    (λ q not. refl) (λ q not. other_first q f.0 f.1 fs (λ is. not (sym is))) g (below_turned e.0 f.0 o) re rf.0 rf.1 hg

against : (e : Entry) (es : List Entry) (rest : List Entry → List Changed) → ((gs : List Entry) → Rise gs → AreChanges es gs (rest gs)) → Rise (e ∷ es)
    → (fs : List Entry) → Rise fs → AreChanges (e ∷ es) fs (diff_with e es rest fs)
against e es rest h re [] rf = only_removed (e ∷ es) re
against e es rest h re (f ∷ fs) rf =
    by_first e es f fs (rest (f ∷ fs)) (rest fs) (diff_with e es rest fs) re rf (slice_cmp nat_cmp e.0 f.0) refl (h (f ∷ fs) rf) (h fs rf.1) (against e es rest h re fs rf.1)

-- these are the changes
pub are_changes : (es fs : List Entry) → Rise es → Rise fs → AreChanges es fs (diff_of es fs)
are_changes [] fs re rf = only_added fs rf
are_changes (e ∷ es) fs re rf = against e es (diff_of es) (λ gs r. are_changes es gs re.1 r) re fs rf

-- equal entries have no changes
pub no_changes : (es : List Entry) → AreChanges es es []
no_changes es = record { rise = tt; each = tt; all = λ q differ. absurd (differ refl) }

-- ---- the walk

joined : (a b c : List Changed) → (a ++ b) ++ c ≡ a ++ (b ++ c)
joined [] b c = refl
joined (x ∷ a) b c = ap (λ l. x ∷ l) (joined a b c)

nothing_after : (a : List Changed) → a ++ [] ≡ a
nothing_after [] = refl
nothing_after (x ∷ a) = ap (λ l. x ∷ l) (nothing_after a)

-- what was found, and what is left of both
abbrev pub Merged : List Changed → List Changed → List MstEntry → List MstEntry → Type 0
Merged all found es fs = all ≡ found ++ diff_of (entries es) (entries fs)

goes_on : (all found more new : List Changed) (rest : List Changed) → new ≡ found ++ more → all ≡ found ++ (more ++ rest) → all ≡ new ++ rest
goes_on all found more new rest n h = h ∙ sym (joined found more rest) ∙ ap (λ l. l ++ rest) (sym n)

pub order_of : (x y a b : List ℕ) (r o : Ordering) → r ≡ slice_cmp nat_cmp a b → a ≡ x → b ≡ y → r ≡ o → slice_cmp nat_cmp x y ≡ o
order_of x y a b r o h ax by is = ap (λ z. slice_cmp nat_cmp z y) (sym ax) ∙ ap (slice_cmp nat_cmp a) (sym by) ∙ sym h ∙ is

abbrev taken_away : MstEntry → Changed
taken_away e = (e.key.items, (Some e.value, None))

abbrev put_there : MstEntry → Changed
put_there f = (f.key.items, (None, Some f.value))

module _ (all found new : List Changed) (es fs : List MstEntry) (at next : ℕ) (e f : MstEntry) (is_e : e ≡ get_or es at e) (is_f : f ≡ get_or fs next f)
    (lt : at < length es) (under : next < length fs) (h : Merged all found (drop at es) (drop next fs)) where
  first_of_es : drop at es ≡ e ∷ drop (at + 1) es
  first_of_es = at_drop_more (λ l. l) es at e lt ∙ ap (λ x. x ∷ drop (at + 1) es) (sym is_e)

  first_of_fs : drop next fs ≡ f ∷ drop (next + 1) fs
  first_of_fs = at_drop_more (λ l. l) fs next f under ∙ ap (λ x. x ∷ drop (next + 1) fs) (sym is_f)

  abbrev es_after : List MstEntry
  es_after = drop (at + 1) es

  abbrev fs_after : List MstEntry
  fs_after = drop (next + 1) fs

  merged_first : Merged all found (e ∷ es_after) (f ∷ fs_after)
  merged_first = h ∙ ap (λ l. found ++ diff_of (entries l) (entries (drop next fs))) first_of_es ∙ ap (λ l. found ++ diff_of (entries (e ∷ es_after)) (entries l)) first_of_fs

  at_order : (o : Ordering) → slice_cmp nat_cmp e.key.items f.key.items ≡ o
      → all ≡ found ++ by_order o (taken_away e ∷ diff_of (entries es_after) (entries (f ∷ fs_after)))
      (changes_of_key e.key.items (Some e.value) (Some f.value) ++ diff_of (entries es_after) (entries fs_after))
      (put_there f ∷ diff_of (entries (e ∷ es_after)) (entries fs_after))
  at_order o is = merged_first ∙ ap (λ x. found ++ by_order x (taken_away e ∷ diff_of (entries es_after) (entries (f ∷ fs_after)))
      (changes_of_key e.key.items (Some e.value) (Some f.value) ++ diff_of (entries es_after) (entries fs_after))
      (put_there f ∷ diff_of (entries (e ∷ es_after)) (entries fs_after))) is

  pub merged_less : slice_cmp nat_cmp e.key.items f.key.items ≡ Less → new ≡ found ++ (e.key.items, (Some e.value, None)) ∷ [] → Merged all new (drop (at + 1) es) (drop next fs)
  merged_less o n = goes_on all found (taken_away e ∷ []) new (diff_of (entries es_after) (entries (drop next fs))) n
      (at_order Less o ∙ ap (λ l. found ++ (taken_away e ∷ diff_of (entries es_after) (entries l))) (sym first_of_fs))

  pub merged_equal : slice_cmp nat_cmp e.key.items f.key.items ≡ Equal → new ≡ found ++ changes_of_key e.key.items (Some e.value) (Some f.value) → Merged all new (drop (at + 1) es) (drop (next + 1) fs)
  merged_equal o n = goes_on all found (changes_of_key e.key.items (Some e.value) (Some f.value)) new (diff_of (entries es_after) (entries fs_after)) n (at_order Equal o)

  pub merged_greater : slice_cmp nat_cmp e.key.items f.key.items ≡ Greater → new ≡ found ++ (f.key.items, (None, Some f.value)) ∷ [] → Merged all new (drop at es) (drop (next + 1) fs)
  merged_greater o n = goes_on all found (put_there f ∷ []) new (diff_of (entries (drop at es)) (entries fs_after)) n
      (at_order Greater o ∙ ap (λ l. found ++ (put_there f ∷ diff_of (entries l) (entries fs_after))) (sym first_of_es))

-- equal entries have equal rests
abbrev pub SameRests : List MstEntry → List MstEntry → ℕ → ℕ → Type 0
SameRests es fs at next = entries es ≡ entries fs → entries (drop at es) ≡ entries (drop next fs)

first_from : (es : List MstEntry) (at : ℕ) (e : MstEntry) → e ≡ get_or es at e → at < length es → drop at es ≡ e ∷ drop (at + 1) es
first_from es at e is lt = at_drop_more (λ l. l) es at e lt ∙ ap (λ x. x ∷ drop (at + 1) es) (sym is)

module _ (es fs : List MstEntry) (at next : ℕ) (e f : MstEntry) (is_e : e ≡ get_or es at e) (is_f : f ≡ get_or fs next f)
    (lt : at < length es) (under : next < length fs) (s : SameRests es fs at next) where
  same_both : entries es ≡ entries fs → entry_of e ∷ entries (drop (at + 1) es) ≡ entry_of f ∷ entries (drop (next + 1) fs)
  same_both is = ap entries (sym (first_from es at e is_e lt)) ∙ s is ∙ ap entries (first_from fs next f is_f under)

  same_first : entries es ≡ entries fs → entry_of e ≡ entry_of f
  same_first is = cc (same_both is)

  pub same_after : SameRests es fs (at + 1) (next + 1)
  same_after is = cc (same_both is)

  pub others_less : slice_cmp nat_cmp e.key.items f.key.items ≡ Less → entries es ≢ entries fs
  others_less o is = not_same e.key.items f.key.items o (ap (λ x. x.0) (same_first is))

  pub others_greater : slice_cmp nat_cmp e.key.items f.key.items ≡ Greater → entries es ≢ entries fs
  others_greater o is = not_same f.key.items e.key.items (below_turned e.key.items f.key.items o) (ap (λ x. x.0) (sym (same_first is)))

  pub other_records : e.value ≢ f.value → entries es ≢ entries fs
  other_records o is = o (ap (λ x. x.1) (same_first is))

none_there : (es : List MstEntry) → length es ≡ 0 → es ≡ []
none_there [] h = refl
none_there (e ∷ es) h = absurd (omega (arith, h))

-- if the entries are equal and one list has ended, both have
pub both_end : (es fs : List MstEntry) (at next : ℕ) → SameRests es fs at next → (length (drop at es) ≡ 0) ⊎ (length (drop next fs) ≡ 0) → entries es ≡ entries fs
    → (drop at es ≡ []) × (drop next fs ≡ [])
both_end es fs at next s ends is =
    let same : length (drop at es) ≡ length (drop next fs) = sym (length-map (drop at es) entry_of) ∙ ap length (s is) ∙ length-map (drop next fs) entry_of in
    elim ends [
      | inl h ↦ (none_there (drop at es) h, none_there (drop next fs) (sym same ∙ h))
      | inr h ↦ (none_there (drop at es) (same ∙ h), none_there (drop next fs) h)
    ]

pub rest_all : (i : ℕ) (l : List MstEntry) → take (length l - i) (drop i l) ≡ drop i l
rest_all i l = take_all (length l - i) (drop i l) (omega (arith, length-drop i l))

pub none_left : (i : ℕ) (l : List MstEntry) → length l ≤ i → length (drop i l) ≡ 0
none_left i l h = omega (arith, h, length-drop i l)

-- if one of the lists has ended
at_end : (es fs : List MstEntry) → (length es ≡ 0) ⊎ (length fs ≡ 0) → diff_of (entries es) (entries fs) ≡ removed (entries es) ++ added (entries fs)
at_end [] fs h = refl
at_end (e ∷ es) [] h = sym (nothing_after (removed (entries (e ∷ es))))
at_end (e ∷ es) (f ∷ fs) (inl h) = absurd (omega (arith, h))
at_end (e ∷ es) (f ∷ fs) (inr h) = absurd (omega (arith, h))

pub merged_end : (all found more new : List Changed) (es fs : List MstEntry) → Merged all found es fs → (length es ≡ 0) ⊎ (length fs ≡ 0)
    → more ≡ found ++ removed (entries es) → new ≡ more ++ added (entries fs) → new ≡ all
merged_end all found more new es fs h ends m n =
    n ∙ ap (λ l. l ++ added (entries fs)) m ∙ joined found (removed (entries es)) (added (entries fs)) ∙ ap (λ l. found ++ l) (sym (at_end es fs ends)) ∙ sym h
