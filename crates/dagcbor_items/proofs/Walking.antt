-- Walks through items, whose links are handed to a sink.
use Rattle.std.proofs.Common.{◌≡◌, ◌≢◌, inl, inr, ℕ, zero, suc, ◌+◌, ◌-◌, ◌/◌, ◌<◌, ◌≤◌, List, [], ◌∷◌, ◌++◌, Bool, true, false, refl, sym, ap, ◌∙◌, subst, arith, append_assoc, append-nil, Option, None, Some, Result, Ok, Err}
use Rattle.dagcbor_heads.specs.Reading.{Reading, SpentStep, Stays}
use Rattle.dagcbor_heads.specs.Fronts.{StartsWith, ShowsByte, Takes, TakesHead}
use Rattle.dagcbor_heads.specs.Refusals.{Refuses}
use Rattle.dagcbor_core.specs.declared.error.DecodeError.{DecodeError}
use Rattle.dagcbor_heads.proofs.Taking.{stays_both}
use Rattle.dagcbor_heads.proofs.Refusing.{passed_on}
use Rattle.ipld_tree.specs.Tree.{Tree, null, boolean, integer, text, list, mapping, link, items_of, Entries, no_entries, entry, links_of, items_links, entries_links}
use Rattle.ipld_tree.specs.Spelling.{text_spelling, items_spelling, entries_spelling}
use Rattle.ipld_tree.proofs.Unique.{major}
use Rattle.dagcbor_items.specs.ReadCauses.{ItemCause}
use Rattle.dagcbor_items.specs.Untyped.{HasItem, TakesItem, SkipsEnteredItem}
use Rattle.dagcbor_items.specs.Items.{TakesItems}
use Rattle.dagcbor_items.specs.Entries.{TakesEntries}
use Rattle.dagcbor_items.specs.Walks.{Sink, Finds, WalkLacks, AreLinksIn, HandsLinks, RefusesWalk, WalksEnteredItem}
use Rattle.dagcbor_items.proofs.LinksIn.{links_after, items_links_in, entries_links_in}
use Rattle.dagcbor_items.proofs.Fronts.{head_of, major_of_front, major_at}
use Rattle.dagcbor_items.specs.Shapes.{number_of}
use Rattle.dagcbor_items.proofs.Integers.{number_front}
use Rattle.dagcbor_items.proofs.ItemRefusals.{at_steps}
use Rattle.dagcbor_items.proofs.Pushes.{entry_push}
use Rattle.dagcbor_items.proofs.Steps.{stepped_refused, more_lacks}

-- ---- the bytes after what was taken

-- known bytes are some bytes, and after them those that are left now
abbrev pub LeavesRest : Option (List ℕ) → Option (List ℕ) → Type 0
LeavesRest left rest = (b : List ℕ) → left ≡ Some b → (x c : List ℕ) × (b ≡ x ++ c) × (rest ≡ Some c)

pub rest_of_bytes : {old mid : Reading} {bytes : List ℕ} → Takes old bytes mid → LeavesRest old.left mid.left
rest_of_bytes {old} {mid} {bytes} t b l = let k = t.taken b l in (bytes, k.0, k.1, k.2)

pub rest_of_items : {old mid : Reading} (ts : List Tree) → TakesItems old ts mid → LeavesRest old.left mid.left
rest_of_items ts t b l = let k = t.taken b l in (items_spelling (items_of ts), k.0, k.1.is, k.3)

pub rest_of_entries : {old mid : Reading} (es : Entries) → TakesEntries old es mid → LeavesRest old.left mid.left
rest_of_entries es t b l = let k = t.taken b l in (entries_spelling es, k.0, k.1.is, k.3)

pub rest_of_key : {old mid : Reading} (key : List ℕ) → TakesItem 1 old (text key) mid → LeavesRest old.left mid.left
rest_of_key key t b l = let k = t.taken b l in (text_spelling key, k.0, k.1.is, k.3)

-- ---- links

-- only lists, maps and links have links in them
pub no_links : (t : Tree) → major t ≢ 4 → major t ≢ 5 → major t ≢ 6 → links_of t ≡ []
no_links (list ts) a b c = absurd (a refl)
no_links (mapping es) a b c = absurd (b refl)
no_links (link cid) a b c = absurd (c refl)
no_links _ a b c = refl

-- ---- out of memory

-- if a call may run out of memory after what was taken, it might have before
pub lacks_before : {takes_memory : Bool} {old mid : Reading} → Stays old mid → LeavesRest old.left mid.left → WalkLacks takes_memory mid → WalkLacks takes_memory old
lacks_before h following (inl l) = inl (sym h.lends ∙ l)
lacks_before h following (inr m) = inr (m.0, λ b l. let k = following b l in let link = m.1 k.1 k.3 in (link.0, links_after k.0 b k.1 (link.0 ∷ []) k.2 link.1))

pub step_refused : {E : Type 0} (takes_memory : Bool) {old stepped : Reading} (new : Reading) (spent : ℕ) (e : DecodeError E) → SpentStep old stepped → Refuses (record { could = HasItem (spent + 1) stepped; lacks = WalkLacks takes_memory stepped; borrows = ⊥; stands = ItemCause (stepped.steps + (spent + 1)) }) stepped e new
    → Refuses (record { could = HasItem spent old; lacks = WalkLacks takes_memory old; borrows = ⊥; stands = ItemCause (old.steps + spent) }) old e new
step_refused {E} takes_memory {old} {stepped} new spent e s r = stepped_refused new spent e s lacks r
  where
    lacks : WalkLacks takes_memory stepped → WalkLacks takes_memory old
    lacks (inl l) = inl (ap (λ (r : Reading). r.lends) (sym s.is) ∙ l)
    lacks (inr m) = inr (m.0, λ b l. m.1 b (ap (λ (r : Reading). r.left) s.is ∙ l))

-- ---- what a sink was handed

entries_links_push : (es : Entries) (k : List ℕ) (t : Tree) → entries_links es ++ links_of t ≡ entries_links (entry_push es k t)
unfolding entry_push
entries_links_push no_entries k t = sym (append-nil (links_of t))
entries_links_push (entry l u es) k t = append_assoc (links_of u) (entries_links es) (links_of t) ∙ ap (λ s. links_of u ++ s) (entries_links_push es k t)

module _ {S : Type 0} (sink : Sink S) where
  pub found_none : (s : S) → Finds sink.holds s [] s
  found_none s links h = subst (sink.holds s) (sym (append-nil links)) h

  pub found_as : (before after : S) (x y : List (List ℕ)) → x ≡ y → Finds sink.holds before x after → Finds sink.holds before y after
  found_as before after x y e h = subst (λ l. Finds sink.holds before l after) e h

  found_both : (before mid after : S) (x y : List (List ℕ)) → Finds sink.holds before x mid → Finds sink.holds mid y after → Finds sink.holds before (x ++ y) after
  found_both before mid after x y h k links l = subst (sink.holds after) (append_assoc links x y) (k (links ++ x) (h links l))

  pub item_found : (ts : List Tree) (t : Tree) (before mid after : S) → Finds sink.holds before (items_links (items_of ts)) mid → Finds sink.holds mid (links_of t) after → Finds sink.holds before (items_links (items_of (ts ++ t ∷ []))) after
  item_found ts t before mid after h k = found_as before after _ _ (items_links_push ts t) (found_both before mid after (items_links (items_of ts)) (links_of t) h k)
    where
      items_links_push : (ts : List Tree) (t : Tree) → items_links (items_of ts) ++ links_of t ≡ items_links (items_of (ts ++ t ∷ []))
      items_links_push [] t = sym (append-nil (links_of t))
      items_links_push (u ∷ ts) t = append_assoc (links_of u) (items_links (items_of ts)) (links_of t) ∙ ap (λ l. links_of u ++ l) (items_links_push ts t)

  pub entry_found : (es : Entries) (key : List ℕ) (t : Tree) (before mid after : S) → Finds sink.holds before (entries_links es) mid → Finds sink.holds mid (links_of t) after → Finds sink.holds before (entries_links (entry_push es key t)) after
  entry_found es key t before mid after h k = found_as before after _ _ (entries_links_push es key t) (found_both before mid after (entries_links es) (links_of t) h k)

  -- ---- what it was handed before a refusal

  pub none_handed : (left : Option (List ℕ)) (s : S) → HandsLinks sink left s s
  none_handed left s = record { found = []; finds = found_none s; stand = λ b l. tt }

  -- these links, and then links that are in the rest
  pub handed_more : {left rest : Option (List ℕ)} (links : List (List ℕ)) (before mid after : S) → Finds sink.holds before links mid
      → ((b : List ℕ) → left ≡ Some b → (c : List ℕ) × (rest ≡ Some c) × ((ls : List (List ℕ)) → AreLinksIn c ls → AreLinksIn b (links ++ ls)))
      → HandsLinks sink rest mid after → HandsLinks sink left before after
  handed_more links before mid after f following h = record {
    found = links ++ h.found;
    finds = found_both before mid after links h.found f h.finds;
    stand = λ b l. let k = following b l in k.2 h.found (h.stand k.0 k.1);
  }

  -- after bytes that were taken
  pub handed_after : {left rest : Option (List ℕ)} (before after : S) → LeavesRest left rest → HandsLinks sink rest before after → HandsLinks sink left before after
  handed_after before after following h = handed_more [] before before after (found_none before) (λ b l. let k = following b l in (k.1, k.3, λ ls. links_after k.0 b k.1 ls k.2)) h

  pub handed_inside : {old mid : Reading} {bytes : List ℕ} (before after : S) → Takes old bytes mid → HandsLinks sink mid.left before after → HandsLinks sink old.left before after
  handed_inside before after t h = handed_after before after (rest_of_bytes t) h

  -- after whole items, and after whole entries
  pub handed_in_items : {old mid : Reading} (ts : List Tree) (before now after : S) → TakesItems old ts mid → Finds sink.holds before (items_links (items_of ts)) now → HandsLinks sink mid.left now after → HandsLinks sink old.left before after
  handed_in_items ts before now after t f h = handed_more (items_links (items_of ts)) before now after f (λ b l. let k = t.taken b l in (k.0, k.3, λ ls. items_links_in (items_of ts) b k.0 ls k.1)) h

  pub handed_in_entries : {old mid : Reading} (es : Entries) (before now after : S) → TakesEntries old es mid → Finds sink.holds before (entries_links es) now → HandsLinks sink mid.left now after → HandsLinks sink old.left before after
  handed_in_entries es before now after t f h = handed_more (entries_links es) before now after f (λ b l. let k = t.taken b l in (k.0, k.3, λ ls. entries_links_in es b k.0 ls k.1)) h

  -- after a key
  pub handed_in_value : {old mid : Reading} (key : List ℕ) (before after : S) → TakesItem 1 old (text key) mid → HandsLinks sink mid.left before after → HandsLinks sink old.left before after
  handed_in_value key before after t h = handed_after before after (rest_of_key key t) h

  -- after a step
  pub step_walk_refused : {E : Type 0} {old stepped : Reading} (before after : S) (new : Reading) (spent : ℕ) (e : DecodeError E) → SpentStep old stepped
      → RefusesWalk sink (HasItem (spent + 1) stepped) (ItemCause (stepped.steps + (spent + 1))) stepped before e new after
      → RefusesWalk sink (HasItem spent old) (ItemCause (old.steps + spent)) old before e new after
  step_walk_refused before after new spent e s r = record {
    refuses = step_refused sink.takes_memory new spent e s r.refuses;
    handed = subst (λ l. HandsLinks sink l before after) (ap (λ (r : Reading). r.left) s.is) r.handed;
  }

  -- ---- leaves

  pub leaf_walked : {E : Type 0} (old : Reading) {first : ℕ} (s : S) (r : Result (Unit {0}) (DecodeError E)) (new : Reading) → StartsWith old first → first / 32 ≢ 4 → first / 32 ≢ 5 → first / 32 ≢ 6 → SkipsEnteredItem old r new → WalksEnteredItem sink old s r new s
  leaf_walked {E} old {first} s (Ok u) new starts a b c h = by old.left refl
    where
      -- if the bytes are not known, null may stand for what was taken
      by : (o : Option (List ℕ)) → old.left ≡ o → (t : Tree) × TakesItem 1 old t new × Finds sink.holds s (links_of t) s
      by None e = (null, record { taken = λ x l. absurd (cc (e, l)); same = h.1.same }, found_none s)
      by (Some x) e =
          let k = h.1.taken x e in
          let m : major h.0 ≡ first / 32 = major_of_front x k.0 h.0 (first / 32) (major_at old first (first / 32) starts refl x e) k.1 in
          (h.0, h.1, found_as s s _ _ (sym (no_links h.0 (λ y. a (sym m ∙ y)) (λ y. b (sym m ∙ y)) (λ y. c (sym m ∙ y)))) (found_none s))
  leaf_walked {E} old s (Err e) new starts a b c h = record { refuses = more_lacks (WalkLacks sink.takes_memory old) 1 old new e (λ x. inl x) h; handed = none_handed old.left s }

  -- ---- after a byte that was shown

  pub walked_from : {E : Type 0} {old peeked : Reading} {first : ℕ} (before after : S) (r : Result (Unit {0}) (DecodeError E)) (new : Reading) → ShowsByte old first peeked → WalksEnteredItem sink peeked before r new after → WalksEnteredItem sink old before r new after
  walked_from {E} {old} {peeked} before after (Ok u) new s h =
      (h.0, record { taken = λ b l. (let k = h.1.taken b (s.kept b l) in (k.0, k.1, omega (arith, k.2, s.same.steps), k.3)); same = stays_both s.same h.1.same }, h.2)
  walked_from {E} {old} {peeked} before after (Err e) new s h = record {
    refuses = passed_on (ItemCause (peeked.steps + 1)) (ItemCause (old.steps + 1)) old peeked new e s.same shown_item (lacks_before s.same rest_shown) (λ x. x)
        (λ b l. (b, s.kept b l, λ x. at_steps {E = E} e b _ _ (omega (arith, s.same.steps)) x)) h.refuses;
    handed = handed_after before after rest_shown h.handed;
  }
    where
      rest_shown : LeavesRest old.left peeked.left
      rest_shown b l = ([], b, refl, s.kept b l)

      shown_item : HasItem 1 old → HasItem 1 peeked
      shown_item i = record { bytes = i.bytes; tree = i.tree; rest = i.rest; left = s.kept i.bytes i.left; front = i.front; accepted = refl; within = omega (arith, i.within, s.same.steps) }

-- ---- numbers and simple values

pub integer_taken : {old mid : Reading} {first m n also : ℕ} → StartsWith old first → first / 32 ≤ 1 → TakesHead old m n also mid → (t : Tree) × TakesItem 1 old t mid
integer_taken {old} {mid} {first} {m} {n} starts few h =
    let k = head_of (first / 32) (major_at old first (first / 32) starts refl) h in
    (integer (number_of (first / 32) n), record { taken = λ b l. (let q = k.taken b l in (q.0, number_front (first / 32) n b q.0 few k.fits q.1, omega arith, q.2)); same = k.same })

simple_at : (k : ℕ) → k < 3 → {old new : Reading} → Takes old ((0xf4 + k) ∷ []) new → (t : Tree) × TakesItem 1 old t new
simple_at zero few h = (boolean false, record { taken = λ b l. (let k = h.taken b l in (k.0, record { well_formed = tt; spellable = tt; is = k.1 }, omega arith, k.2)); same = h.same })
simple_at (suc zero) few h = (boolean true, record { taken = λ b l. (let k = h.taken b l in (k.0, record { well_formed = tt; spellable = tt; is = k.1 }, omega arith, k.2)); same = h.same })
simple_at (suc (suc zero)) few h = (null, record { taken = λ b l. (let k = h.taken b l in (k.0, record { well_formed = tt; spellable = tt; is = k.1 }, omega arith, k.2)); same = h.same })
simple_at (suc (suc (suc k))) few h = absurd (omega (arith, few))

-- the byte that was taken is the one that was at the front
byte_there : (first byte : ℕ) {old new : Reading} → StartsWith old first → Takes old (byte ∷ []) new → Takes old (first ∷ []) new
byte_there first byte starts h = record {
  taken = λ b l.
      let k = h.taken b l in
      let s = starts b l in
      let e : byte ∷ k.0 ≡ first ∷ s.0 = sym k.1 ∙ s.1 in
      let same : k.0 ≡ s.0 = cc in
      (k.0, s.1 ∙ ap (λ x. first ∷ x) (sym same), k.2);
  same = h.same;
}

pub simple_taken : (first byte : ℕ) {old new : Reading} → StartsWith old first → 0xf4 ≤ first → first ≤ 0xf6 → Takes old (byte ∷ []) new → (t : Tree) × TakesItem 1 old t new
simple_taken first byte {old} {new} starts least most taken =
    let h = byte_there first byte starts taken in
    let e : first ≡ 0xf4 + (first - 0xf4) = omega (arith, least) in
    simple_at (first - 0xf4) (omega (arith, least, most)) (subst (λ x. Takes old (x ∷ []) new) e h)
