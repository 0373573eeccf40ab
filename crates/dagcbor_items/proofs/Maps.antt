-- Reading the entries of a map, in the order of their keys.
use Rattle.std.proofs.Common.{◌≡◌, ℕ, ◌+◌, ◌-◌, ◌^◌, ◌<◌, List, ◌++◌, refl, sym, ap, ◌∙◌, subst, arith, append_assoc, String, BTreeMap, Global, true, false, is_err, Option, Some, None, Result, Ok, Err, OnOk}
use Rattle.dagcbor_core.specs.Head.{head}
use Rattle.dagcbor_heads.specs.Reading.{Reading, with_steps}
use Rattle.dagcbor_heads.specs.Refusals.{RefusesOrLacksMemoryUnlent, Refuses}
use Rattle.dagcbor_core.specs.declared.error.DecodeError.{DecodeError}
use Rattle.dagcbor_heads.proofs.Taking.{stays, stays_both}
use Rattle.dagcbor_heads.proofs.Refusing.{passed_on}
use Rattle.ipld_tree.specs.Tree.{Tree, text, mapping, Entries, no_entries, ordered_entries, any_need, entries_need}
use Rattle.ipld_tree.specs.Spelling.{entry_count, entries_spelling, IsFront, AreEntryFronts}
use Rattle.ipld_tree.specs.Ipld.{tree_of, pairs_of}
use Rattle.ipld_tree.specs.declared.ipld.Ipld.{Ipld, Map as Map'}
use Rattle.ipld_tree.proofs.Trees.{tree_of_Map}
use Rattle.ipld_tree.proofs.Fronts.{is_mapping}
use Rattle.dagcbor_decode.specs.Decode.{follows}
use Rattle.dagcbor_items.specs.Shapes.{Shape}
use Rattle.dagcbor_items.specs.TypedReads.{HasFront}
use Rattle.dagcbor_items.specs.Places.{Follows}
use Rattle.dagcbor_items.specs.ReadCauses.{KeyCause, ItemCause, EntriesCause}
use Rattle.dagcbor_items.specs.Untyped.{HasItem, TakesItem, StartsWithMajor, StartsDefinite}
use Rattle.dagcbor_items.specs.Entering.{Enters}
use Rattle.dagcbor_items.specs.Entries.{HasKey, AllFollow, HasEntryRow, any_entries, HasEntries, TakesEntries}
use Rattle.dagcbor_items.proofs.ItemRefusals.{in_map, at_steps, after_entries, after_key}
use Rattle.dagcbor_items.proofs.Fronts.{major_of_front, as_tree, definite}
use Rattle.dagcbor_items.proofs.Rows.{entries_entered, row_key, row_value}
use Rattle.dagcbor_items.proofs.Steps.{spent_step, stepped_refused, stepped_taken}
use Rattle.dagcbor_items.proofs.Pushes.{last_key, entry_push, entries_left, entry_count_push, entries_need_push, last_key_push, entries_push}

-- a key that follows, as `Decode.antt` tests it
pub follows_tested : (previous : Option (List ℕ)) (key : List ℕ) → Follows previous key → follows previous key ≡ true
follows_tested None key h = refl
follows_tested (Some before) key h = h

-- ---- the loop

pub record ReadEntries (count left : ℕ) (old : Reading) (es : Entries) (previous : Option (List ℕ)) (now : Reading) : Type 0 where
  pub counted : entry_count es + left ≡ count
  pub last : last_key es ≡ previous
  pub takes : TakesEntries old es now

pub no_entry_read : (old : Reading) (count left : ℕ) (es : Entries) (previous : Option (List ℕ)) → left ≡ count → es ≡ no_entries → previous ≡ None → ReadEntries count left old es previous old
unfolding last_key
no_entry_read old count left es previous e none empty = subst (λ x. ReadEntries count left old x previous old) (sym none) record {
  counted = omega (arith, e);
  last = sym empty;
  takes = record { taken = λ b l. (b, record { well_formed = tt; spellable = tt; is = refl }, omega arith, l); same = stays old };
}

-- if `count` entries are there, those that were not read come after those that were
next_entries : {old now : Reading} {count left : ℕ} {es : Entries} {previous : Option (List ℕ)} → ReadEntries count left old es previous now → HasEntries count old → HasEntryRow any_entries previous left now
next_entries {old} {now} {count} {left} {es} {previous} s i =
    let k = s.takes.taken i.bytes i.left in
    let l = entries_left es i.entries i.bytes k.0 i.rest k.1 i.fronts (omega (arith, s.counted, i.counted)) in
    record {
      bytes = k.0;
      entries = l.others;
      rest = i.rest;
      left = k.3;
      counted = omega (arith, l.counted, s.counted, i.counted);
      follow = subst (λ x. AllFollow x l.others) s.last l.follows;
      fronts = l.fronts;
      accepted = refl;
      within = omega (arith, l.within, i.within, s.takes.same.steps);
    }

pub next_key_refused : {E lacks' : Type 0} {old now : Reading} {count left : ℕ} {es : Entries} {previous : Option (List ℕ)} (new : Reading) (e : DecodeError E) → 0 < left → ReadEntries count left old es previous now → (now.lends ≡ false → lacks')
    → RefusesOrLacksMemoryUnlent (HasKey previous now) (KeyCause previous) now e new → Refuses (record { could = HasEntries count old; lacks = lacks'; borrows = ⊥; stands = EntriesCause count old.steps }) old e new
next_key_refused {E} {lacks'} {old} {now} {count} {left} {es} {previous} new e more s w r = passed_on (KeyCause previous) (EntriesCause count old.steps) old now new e s.takes.same (λ i. row_key more (next_entries s i)) w (λ x. x)
    (λ b l. let k = s.takes.taken b l in (k.0, k.3, λ here. after_entries es count old.steps e b k.0 k.1 (omega (arith, s.counted, more)) k.2 (subst (λ p. KeyCause {E = E} p e k.0) (sym s.last) here))) r

-- a key was read as well
next_value : {old now mid : Reading} {count left : ℕ} {es : Entries} {previous : Option (List ℕ)} (key : List ℕ) → 0 < left → ReadEntries count left old es previous now → TakesItem 1 now (text key) mid → HasEntries count old → HasItem 0 mid
next_value key more s a i =
    let row = next_entries s i in
    let v = row_value key more a row in
    record { bytes = v.2; tree = v.0; rest = entries_spelling v.1 ++ row.rest; left = v.4; front = v.5; accepted = refl; within = omega (arith, row.within, ap entries_need v.3, a.same.steps) }

pub next_value_refused : {E lacks lacks' : Type 0} {old now mid : Reading} {count left : ℕ} {es : Entries} {previous : Option (List ℕ)} (key : List ℕ) (new : Reading) (e : DecodeError E) → 0 < left → ReadEntries count left old es previous now → Follows previous key → TakesItem 1 now (text key) mid → (lacks → lacks')
    → Refuses (record { could = HasItem 0 mid; lacks = lacks; borrows = ⊥; stands = ItemCause (mid.steps + 0) }) mid e new → Refuses (record { could = HasEntries count old; lacks = lacks'; borrows = ⊥; stands = EntriesCause count old.steps }) old e new
next_value_refused {E} {lacks} {lacks'} {old} {now} {mid} {count} {left} {es} {previous} key new e more s f a w r = passed_on (ItemCause (mid.steps + 0)) (EntriesCause count old.steps) old mid new e
    (stays_both s.takes.same a.same) (next_value key more s a) w (λ x. x)
    (λ b l. let k = s.takes.taken b l in let q = a.taken k.0 k.3 in (
      q.0,
      q.3,
      λ here. after_key es count old.steps key e b k.0 q.0 k.1 (omega (arith, s.counted, more)) k.2 q.1 (follows_tested (last_key es) key (subst (λ p. Follows p key) (sym s.last) f)) (at_steps {E = E} e q.0 _ _ (omega (arith, s.takes.same.steps, a.same.steps)) here),
    )) r

pub on_ok : {X Y : Type 0} (r : Result X Y) (P : Type 0) → false ≡ is_err r → OnOk r P → P
on_ok (Ok x) P e h = h
on_ok (Err y) P e h = absurd (cc e)

pub one_entry_read : {old now mid new : Reading} {count left left' : ℕ} {previous : Option (List ℕ)} {t : Tree} (es fs : Entries) (key : List ℕ) (last : Option (List ℕ)) → fs ≡ entry_push es key t → last ≡ Some key → left' + 1 ≡ left
    → ReadEntries count left old es previous now → Follows previous key → TakesItem 1 now (text key) mid → TakesItem 0 mid t new → ReadEntries count left' old fs last new
one_entry_read {old} {now} {mid} {new} {count} {left} {left'} {previous} {t} es fs key last is is_last e s f a v = subst (λ x. ReadEntries count left' old x last new) (sym is) record {
  counted = omega (arith, s.counted, entry_count_push es key t);
  last = last_key_push es key t ∙ sym is_last;
  takes = record {
    taken = λ b l.
        let k = s.takes.taken b l in
        let q = a.taken k.0 k.3 in
        let w = v.taken q.0 q.3 in
        let now_steps = s.takes.same.steps in
        let mid_steps = a.same.steps in
        (w.0, entries_push es key t b k.0 q.0 w.0 k.1 q.1 w.1 (subst (λ x. Follows x key) (sym s.last) f), omega (arith, entries_need_push es key t, k.2, w.2, now_steps, mid_steps), w.3);
    same = stays_both s.takes.same (stays_both a.same v.same);
  };
}

pub all_entries_read : {old now : Reading} {count left : ℕ} {previous : Option (List ℕ)} (es : Entries) → left ≡ 0 → ReadEntries count left old es previous now → (entry_count es ≡ count) × TakesEntries old es now
all_entries_read es none s = (omega (arith, s.counted, none), s.takes)

-- ---- the whole map

pub is_map_at : {V : Type 0} {shape : Shape Tree V} {old : Reading} → StartsWithMajor old 5 → (i : HasFront shape old) → (es : Entries) × (i.tree ≡ mapping es)
is_map_at starts i = is_mapping i.tree (major_of_front i.bytes i.rest i.tree 5 (starts i.bytes i.left) i.front)

map_entries : {old mid : Reading} {n : ℕ} → StartsWithMajor old 5 → Enters 5 n old mid → HasItem 2 (with_steps (old.steps - 1) old) → HasEntries n mid
map_entries {old} {mid} {n} starts h i =
    let l = is_map_at starts i in
    entries_entered l.0 h i.left (subst (λ t. IsFront i.bytes t i.rest) l.1 i.front) refl (omega (arith, i.within, ap any_need l.1, h.takes.same.steps))

pub map_refused : {E lacks lacks' : Type 0} {old mid : Reading} (new : Reading) (n : ℕ) (e : DecodeError E) → StartsDefinite old 5 → Enters 5 n old mid → (lacks → lacks') → Refuses (record { could = HasEntries n mid; lacks = lacks; borrows = ⊥; stands = EntriesCause n mid.steps }) mid e new → Refuses (record { could = HasItem 1 old; lacks = lacks'; borrows = ⊥; stands = ItemCause (old.steps + 1) }) old e new
map_refused {E} {lacks} {lacks'} {old} {mid} new n e starts h w r = stepped_refused new 1 e (spent_step h) w (passed_on (EntriesCause n mid.steps) (ItemCause (old.steps - 1 + 2)) (with_steps (old.steps - 1) old) mid new e h.takes.same (map_entries (definite old starts) h) (λ x. x) (λ x. x)
    (λ b l. let k = h.takes.taken b l in (k.0, k.2, λ s. at_steps {E = E} e b _ _ (omega (arith, h.takes.same.steps)) (in_map n mid.steps e b k.0 h.fits k.1 s))) r)

pub map_closed : (c rest : List ℕ) (es : Entries) → entry_count es < 2 ^ 64 → AreEntryFronts c es rest → IsFront (head 5 (entry_count es) ++ c) (mapping es) rest
map_closed c rest es fits h = record {
  well_formed = h.well_formed;
  spellable = (fits, h.spellable);
  is = ap (λ s. head 5 (entry_count es) ++ s) h.is ∙ sym (append_assoc (head 5 (entry_count es)) (entries_spelling es) rest);
}

pub map_taken : {old mid now new : Reading} {n : ℕ} (es : Entries) → Enters 5 n old mid → entry_count es ≡ n → TakesEntries mid es now → new ≡ with_steps (now.steps + 1) now → TakesItem 1 old (mapping es) new
map_taken {old} {mid} {now} {new} {n} es h counted a back = stepped_taken 1 (spent_step h) record {
  taken = λ b l.
      let k = h.takes.taken b l in
      let q = a.taken k.0 k.2 in (
        q.0,
        subst (λ x. IsFront x (mapping es) q.0) (ap (λ c. head 5 c ++ k.0) counted ∙ sym k.1) (map_closed k.0 q.0 es (omega (arith, counted, h.fits)) q.1),
        omega (arith, q.2, h.takes.same.steps),
        q.3,
      );
  same = stays_both h.takes.same a.same;
} back

pub map_as_tree : {old mid now new : Reading} {n : ℕ} (m : BTreeMap (String Global) Ipld) → Enters 5 n old mid → (entry_count (ordered_entries (pairs_of m.entries)) ≡ n) × TakesEntries mid (ordered_entries (pairs_of m.entries)) now → new ≡ with_steps (now.steps + 1) now → TakesItem 1 old (tree_of (Map' m)) new
map_as_tree m h r back = as_tree (mapping (ordered_entries (pairs_of m.entries))) _ (tree_of_Map m) (map_taken (ordered_entries (pairs_of m.entries)) h r.0 r.1 back)

pub after_last : {count left : ℕ} {old now : Reading} {es : Entries} {previous : Option (List ℕ)} (k : List ℕ) → ReadEntries count left old es previous now → Follows previous k → Follows (last_key es) k
after_last k s f = subst (λ x. Follows x k) (sym s.last) f
