-- What calls pass on of what types promise in addition to their law.
use Rattle.std.proofs.Common.{◌≡◌, ℕ, Bool, false, List, [], ◌++◌, inl, inr, refl, sym, ap, subst, ◌∙◌, ◌<◌, ◌≤◌, arith, Option, None, Some, IfSome, IfErr, Result, Ok, Err, IsErrAnd, MatchResult, codes, ◌⊎◌, ◌+◌, ◌-◌, Global}
use Rattle.dagcbor_core.specs.Names.{Names}
use Rattle.dagcbor_core.specs.declared.name.Name.{Name}
use Rattle.dagcbor_heads.specs.Reading.{Reading, Stays, fresh_reading}
use Rattle.dagcbor_heads.specs.Inputs.{not_lending}
use Rattle.dagcbor_core.specs.declared.error.DecodeError.{DecodeError}
use Rattle.dagcbor_core.specs.declared.error.DecodeError.TheVariants.{Msg, Read, TrailingData}
use Rattle.dagcbor_heads.proofs.Taking.{stays}
use Rattle.ipld_tree.specs.Tree.{Tree, text, Items, no_items, item}
use Rattle.ipld_tree.specs.Spelling.{AreFronts}
use Rattle.ipld_tree.proofs.Fronts.{item_closed}
use Rattle.dagcbor_items.specs.Shapes.{Shape}
use Rattle.dagcbor_items.specs.Places.{Follows}
use Rattle.dagcbor_items.specs.TypedReads.{TakesFront}
use Rattle.dagcbor_items.specs.Untyped.{TakesItem}
use Rattle.dagcbor_items.proofs.StringItems.{text_taken}
use Rattle.dagcbor_read.specs.Deserializers.{DeState, Call, Ends, TellsEnd}
use Rattle.dagcbor_read.specs.Accessors.{AccessorState, accessor_state, EndsItems}
use Rattle.dagcbor_read.specs.declared.access.accessor.Accessor.{Accessor}
use Rattle.std.specs.declared.borrow.CowStr.{CowStr}
use Rattle.dagcbor_read.specs.declared.access.enum_accessor.EnumAccessor.{EnumAccessor}
use Rattle.std.specs.Cow.{cow_str_bytes}
use Rattle.dagcbor_read.specs.Enums.{SpendsEnum, ReadsName}
use Rattle.dagcbor_read.specs.Collections.{FieldShape, TakesRow}
use Rattle.dagcbor_read.specs.Parts.{HandsWholeOn, IsStart, IsNoEnd, IsPast, PassesItems, PassesText, PassesKey, PassesFewer, RefusesPast, RefusesWithin, RefusesEntries, RefusesUnread, IfRefused, LacksField, HasMessage, RefusesEnumAs}
use Rattle.dagcbor_read.proofs.EntryRows.{FieldsSoFar}
use Rattle.dagcbor_read.proofs.ItemRows.{ReadSoFar, no_more_items, as_row}
use Rattle.dagcbor_read.proofs.Progressing.{match_false, call_answered, call_told}

-- no end was found of what had not failed
pub no_end : {E : Type 0} (old new : DeState) (e : DecodeError E) → old.failed ≡ false → Ends old (Err e) new → IsNoEnd e
no_end {E} old new e sound h = by e (match_false old.failed _ _ sound h)
  where
    by : (y : DecodeError E) → TellsEnd old.input (Err y) new.input new.failed → IsNoEnd y
    by TrailingData k = tt
    by (Read f) k = tt
    by _ k = absurd k

-- what was begun on a reader, whose bytes are lent or not
pub begins : {start : DeState} {source : Reading} {left : Option (List ℕ)} {steps : ℕ} {lends : Bool} {through : List ℕ} → start ≡ record { input = source; failed = false } → source ≡ fresh_reading left steps lends through → IsStart left steps lends start
begins e r = record {
  sound = ap (λ (s : DeState). s.failed) e;
  left = ap (λ (s : DeState). s.input.left) e ∙ ap (λ (s : Reading). s.left) r;
  steps = ap (λ (s : DeState). s.input.steps) e ∙ ap (λ (s : Reading). s.steps) r;
  lends = ap (λ (s : DeState). s.input.lends) e ∙ ap (λ (s : Reading). s.lends) r;
}

pub begins_unlent : {start : DeState} {source : Reading} {left : Option (List ℕ)} {steps : ℕ} {lends : Bool} {through : List ℕ} → start ≡ record { input = not_lending source; failed = false } → source ≡ fresh_reading left steps lends through → IsStart left steps false start
begins_unlent e r = record {
  sound = ap (λ (s : DeState). s.failed) e;
  left = ap (λ (s : DeState). s.input.left) e ∙ ap (λ (s : Reading). s.left) r;
  steps = ap (λ (s : DeState). s.input.steps) e ∙ ap (λ (s : Reading). s.steps) r;
  lends = ap (λ (s : DeState). s.input.lends) e;
}

module _ {T E : Type 0} (answers : DeState → Result T (DecodeError E) → DeState → Type 0) (left : Option (List ℕ)) (steps : ℕ) (lends : Bool) where
  -- the refusal that `?` passes on
  pub hands_refusal : (start now : DeState) (r : Result T (DecodeError E)) (e : DecodeError E) → IsErrAnd r (λ y. y ≡ e) → IsStart left steps lends start → answers start (Err e) now → HandsWholeOn answers left steps lends r
  hands_refusal start now (Ok v) e h is a = absurd h
  hands_refusal start now (Err y) e h is a = (start, now, is, inl (subst (λ x. answers start (Err x) now) (sym h) a))

  pub hands_no_end : (start now : DeState) (r : Result T (DecodeError E)) (v : T) (e : DecodeError E) → IsErrAnd r (λ y. y ≡ e) → IsStart left steps lends start → IsNoEnd e → answers start (Ok v) now → HandsWholeOn answers left steps lends r
  hands_no_end start now (Ok w) v e h is n a = absurd h
  hands_no_end start now (Err y) v e h is n a = (start, now, is, inr (subst (λ (x : DecodeError E). IsNoEnd x) (sym h) n, (v, a)))

  pub hands_value : (start now : DeState) (r : Result T (DecodeError E)) (v : T) → r ≡ Ok v → IsStart left steps lends start → answers start r now → HandsWholeOn answers left steps lends r
  hands_value start now r v e is a = subst (λ x. HandsWholeOn answers left steps lends x) (sym e) (start, now, is, subst (λ x. answers start x now) e a)

-- ---- parts that were passed

no_item_stands : (b : List ℕ) → AreFronts b no_items b
no_item_stands b = record { well_formed = tt; spellable = tt; is = refl }

pub none_past : {count : ℕ} {old now : DeState} → count ≡ 0 → now.failed ≡ false → now.input ≡ old.input → IsPast (PassesItems count) old now
none_past {count} {old} {now} none sound same = record {
  sound = sound;
  same = subst (λ r. Stays old.input r) (sym same) (stays old.input);
  passed = λ b l. (b, (no_items, sym none, no_item_stands b), ap (λ (r : Reading). r.left) same ∙ l);
}

pub item_past : {V : Type 0} {shape : Shape Tree V} {count : ℕ} {old now : DeState} {v : V} → count ≡ 1 → now.failed ≡ false → TakesFront shape old.input v now.input → IsPast (PassesItems count) old now
item_past one sound h = record {
  sound = sound;
  same = h.same;
  passed = λ b l. let q = h.taken b l in (q.1, (item q.0 no_items, sym one, item_closed b q.1 q.1 q.0 no_items q.2 (no_item_stands q.1)), q.5);
}

pub row_past : {V : Type 0} {shape : Shape Items V} {count : ℕ} {old now : DeState} {v : V} → now.failed ≡ false → TakesRow shape count old.input v now.input → IsPast (PassesItems count) old now
row_past sound h = record { sound = sound; same = h.same; passed = λ b l. let q = h.taken b l in (q.1, (q.0, q.2, q.3), q.6) }

pub items_past : {V : Type 0} (shape : Shape Tree V) {before now_left : AccessorState} {old now : DeState} {vs : List V} → ReadSoFar shape before old now_left vs now → IsPast (PassesItems (before.left - now_left.left)) old now
items_past shape {before} {now_left} {old} {now} {vs} i =
    let none = no_more_items shape now.input in
    row_past i.sound (as_row (vs ++ []) (vs ++ []) (omega arith) refl (i.takes 0 [] now.input none))

pub text_past : {key : List ℕ} {old now : DeState} → now.failed ≡ false → TakesItem 1 old.input (text key) now.input → IsPast (PassesText key) old now
text_past sound h = record { sound = sound; same = h.same; passed = λ b l. let q = h.taken b l in (q.0, q.1, q.3) }

pub key_past : (last : Option (List ℕ)) {key : List ℕ} {old now : DeState} → now.failed ≡ false → Follows last key → TakesItem 1 old.input (text key) now.input → IsPast (PassesKey last) old now
key_past last {key} sound follows h = record { sound = sound; same = h.same; passed = λ b l. let q = h.taken b l in (q.0, (key, follows, q.1), q.3) }

module _ {S : Type 0} (shape : FieldShape S) where
  pub entries_past : {start s : S} {before now_left : AccessorState} {old now : DeState} → FieldsSoFar shape start before old now_left s now → 0 < now_left.left → IsPast (PassesFewer before now_left.last) old now
  entries_past i some = record {
    sound = i.sound;
    same = i.same;
    passed = λ b l. let p = i.stands b l in (p.1, (p.0, omega (arith, some, p.3), p.2), p.4);
  }

pub says : {E : Type 0} {e : DecodeError E} {message : List ℕ} → (kept : Name) × (e ≡ Msg kept) × Names kept message → HasMessage message e
says {E} {e} {message} h = subst (λ (x : DecodeError E). HasMessage message x) (sym h.1) h.2

module _ {E : Type 0} (refuses : DeState → DecodeError E → DeState → Type 0) where
  pub named_refused : (begun : AccessorState) (last : Option (List ℕ)) (old mid new : DeState) (o : Option (DecodeError E)) (e : DecodeError E) → IsPast (PassesFewer begun last) old mid → o ≡ Some e → IfSome o (λ x. RefusesPast (PassesKey last) refuses mid x new) → RefusesEntries refuses begun old e new
  named_refused begun last old mid new o e i is h = (last, (mid, i, inr (subst (λ x. IfSome x (λ y. RefusesPast (PassesKey last) refuses mid y new)) is h)))

-- ---- a list or map that was to be begun

module _ {E : Type 0} (begins : Reading → Result Accessor (DecodeError E) → Reading → Type 0) (refuses : AccessorState → DeState → DecodeError E → DeState → Type 0) where
  pub not_begun : {T : Type 0} (old new : DeState) (r : Result T (DecodeError E)) (e : DecodeError E) → IsErrAnd r (λ y. y ≡ e) → Call begins old (Err e) new → IfRefused (RefusesWithin begins refuses) old r new
  not_begun old new (Ok v) e is h sound = tt
  not_begun old new (Err y) e is h sound =
      let k = call_told begins old new (Err e) sound h in
      inl (k.0, subst (λ x. begins old.input (Err x) new.input) (sym is) k.1)

  -- it was, and the rest of it refused
  pub rest_refused : {T : Type 0} (old mid new : DeState) (a : Accessor) (r : Result T (DecodeError E)) → Call begins old (Ok a) mid → IfErr r (λ e. refuses (accessor_state a) mid e new) → IfRefused (RefusesWithin begins refuses) old r new
  rest_refused old mid new a (Ok v) b h sound = tt
  rest_refused old mid new a (Err e) b h sound = let k = call_answered begins old mid a b in inr (a, mid, k.1, k.2, h)

-- ---- a field that is missing

module _ {E S V : Type 0} (refuses : DeState → DecodeError E → DeState → Type 0) (takes : Reading → S → Reading → Type 0) (finish : S → Option V) where
  pub or_lacking : {T : Type 0} (old new : DeState) (r : Result T (DecodeError E)) → IfRefused refuses old r new → IfRefused (λ s e t. refuses s e t ⊎ LacksField takes finish s e t) old r new
  or_lacking old new (Ok v) h sound = tt
  or_lacking old new (Err e) h sound = inl (h sound)

  pub lacking_told : {T : Type 0} (meaning : T → V) (old new : DeState) (r : Result T (DecodeError E)) (s : S)
      → MatchResult r (λ v. finish s ≡ Some (meaning v)) (λ e. (finish s ≡ None) × ((kept : Name) × (e ≡ Msg kept)))
      → IfErr r (λ e. (kept : Name) × (e ≡ Msg kept) × Names kept (codes "missing field"))
      → (old.failed ≡ false → (new.failed ≡ false) × takes old.input s new.input)
      → IfRefused (λ x e t. refuses x e t ⊎ LacksField takes finish x e t) old r new
  lacking_told meaning old new (Ok v) s h m t sound = tt
  lacking_told meaning old new (Err e) s h m t sound = inr ((says m, (t sound).0), (s, h.0, (t sound).1))

-- ---- items

-- the others were refused, with this many left
pub others_past : {E : Type 0} (refuses : ℕ → DeState → DecodeError E → DeState → Type 0) {count n m : ℕ} {old mid new : DeState} {e : DecodeError E} → IsPast (PassesItems count) old mid → n ≡ m → refuses n mid e new → RefusesPast (PassesItems count) (refuses m) old e new
others_past refuses {count} {n} {m} {old} {mid} {new} {e} i is r = (mid, i, subst (λ x. refuses x mid e new) is r)

-- the row was read, and some are unread after it
pub unread_past : {V E : Type 0} (shape : Shape Items V) (count : ℕ) (begun after : AccessorState) (old mid new : DeState) (v : V) (e : DecodeError E) → mid.failed ≡ false → after ≡ record begun { left = after.left } → after.left ≤ begun.left → after.left ≡ begun.left - count
    → TakesRow shape (begun.left - after.left) old.input v mid.input → Call (EndsItems after) mid (Err e) new → RefusesPast (PassesItems count) (RefusesUnread count begun) old e new
unread_past shape count begun after old mid new v e sound is fewer counted row h =
    let k = call_told (EndsItems after) mid new (Err e) sound h in
    (mid, row_past sound (as_row v v (omega (arith, counted, k.1.0)) refl row), (k.0, subst (λ (x : AccessorState). EndsItems x mid.input (Err e) new.input) (is ∙ ap (λ n. record begun { left = n }) counted) k.1))

-- how many are left after the first and the others
pub others_counted : (takes : ℕ → ℕ) (first n m k : ℕ) → m ≡ n - 1 → n - m ≡ first → k ≡ m - takes m → k ≡ n - (first + takes (n - 1))
others_counted takes first n m k one is counted = omega (arith, is, one, subst (λ x. k ≡ m - takes x) one counted)

-- ---- variants

module _ {E : Type 0} (refuses : DeState → DecodeError E → DeState → Type 0) where
  pub enum_not_begun : {T : Type 0} (name : List ℕ) (old new : DeState) (r : Result T (DecodeError E)) (e : DecodeError E) → IsErrAnd r (λ y. y ≡ e) → Call (SpendsEnum {E = E} name) old (Err e) new → IfRefused (RefusesEnumAs refuses name) old r new
  enum_not_begun name old new (Ok v) e is h sound = tt
  enum_not_begun name old new (Err y) e is h sound =
      let k = call_told (SpendsEnum name) old new (Err e) sound h in
      inl (k.0, subst (λ x. SpendsEnum name old.input (Err x) new.input) (sym is) k.1)

  pub enum_not_named : {T : Type 0} (name : List ℕ) (old mid new : DeState) (a : EnumAccessor) (r : Result T (DecodeError E)) (e : DecodeError E) → IsErrAnd r (λ y. y ≡ e) → Call (SpendsEnum {E = E} name) old (Ok a) mid → Call ReadsName mid (Err e) new → IfRefused (RefusesEnumAs refuses name) old r new
  enum_not_named name old mid new a (Ok v) e is b h sound = tt
  enum_not_named name old mid new a (Err y) e is b h sound =
      let k = call_answered (SpendsEnum name) old mid a b in
      let q = call_told ReadsName mid new (Err e) k.1 h in
      inr (a, mid, k.1, k.2, inl (q.0, subst (λ x. ReadsName mid.input (Err x) new.input) (sym is) q.1))

  pub variant_refused : {T : Type 0} (name : List ℕ) (old mid now new : DeState) (a : EnumAccessor) (v : CowStr Global × EnumAccessor) (r : Result T (DecodeError E)) → Call (SpendsEnum {E = E} name) old (Ok a) mid → Call (ReadsName {E = E}) mid (Ok v) now → IfErr r (λ e. refuses now e new) → IfRefused (RefusesEnumAs refuses name) old r new
  variant_refused name old mid now new a v (Ok x) b h w sound = tt
  variant_refused name old mid now new a v (Err e) b h w sound =
      let k = call_answered (SpendsEnum name) old mid a b in
      let q = call_answered ReadsName mid now v h in
      inr (a, mid, k.1, k.2, inr (now, key_past None q.1 tt (text_taken (cow_str_bytes v.0) q.2), w))
