-- A change that is undone on pieces, and on the entries that they stand for.
use Rattle.std.proofs.Common.{◌≡◌, ◌≢◌, ℕ, Bool, true, false, List, [], ◌∷◌, ◌++◌, Option, Some, None, refl, sym, ap, ◌∙◌, subst, append_assoc, bytes_eq}
use Rattle.std.specs.Prelude.{if◌then◌else◌}
use Rattle.std.specs.List.{AllByRecursion}
use Rattle.std.specs.declared.cmp.Ordering.{Ordering}
use Rattle.std.specs.declared.cmp.Ordering.TheVariants.{Less, Equal, Greater}
use Rattle.std.specs.Ordering.{nat_cmp, ordering_reverse}
use Rattle.std.specs.Cmp.Lexicographic.{slice_cmp}
use Rattle.std.proofs.lemmas.Cmp.{nat_list_cmp_total}
use Rattle.std.proofs.lemmas.Slice.Eq.{bytes_eq-Decides}
use Rattle.ipld_tree.specs.Cid.{CidParts}
use Rattle.atproto_mst.specs.Keys.{Entry, IsKey, HaveKeys, ComesBefore, Rise, HaveRisingKeys}
use Rattle.atproto_mst.specs.Finding.{lookup, by_order}
use Rattle.atproto_mst.specs.Changes.{set_entry, unset_entry}
use Rattle.atproto_mst.proofs.Seeking.{Below, below_trans, same_keys, not_same, other_first, this_first, no_record_before}
use Rattle.atproto_mst.proofs.Rising.{rise_right}
use Rattle.atproto_mst.proofs.Descending.{RiseAll, rise_all}
use Rattle.atproto_mst.proofs.Changing.{none_removed, set_rises, set_keys, unset_rises, unset_keys}
use Rattle.atproto_events.specs.Pieces.{PieceParts, StandsFor, Fills}
use Rattle.atproto_events.specs.Doing.{set_record}
use Rattle.atproto_events.specs.Undone.{with_piece, EndsBefore, BeginsAfter}
use Rattle.atproto_events.specs.Laws.{StepsUndo}

-- ---- entries with one at a place

abbrev AllBefore : List ℕ → List Entry → Type 0
AllBefore k es = AllByRecursion (λ e. Below e.0 k) es

abbrev with_entry : List ℕ → Option CidParts → List Entry → List Entry
with_entry k None es = es
with_entry k (Some v) es = (k, v) ∷ es

above : (k l : List ℕ) → Below k l → slice_cmp nat_cmp l k ≡ Greater
above k l b = nat_list_cmp_total.antisymm l k ∙ ap ordering_reverse b

at_less : (X : Type 0) (o : Ordering) (a b c : X) → o ≡ Less → by_order o a b c ≡ a
at_less X o a b c e = ap (λ x. by_order x a b c) e

at_equal : (X : Type 0) (o : Ordering) (a b c : X) → o ≡ Equal → by_order o a b c ≡ b
at_equal X o a b c e = ap (λ x. by_order x a b c) e

at_greater : (X : Type 0) (o : Ordering) (a b c : X) → o ≡ Greater → by_order o a b c ≡ c
at_greater X o a b c e = ap (λ x. by_order x a b c) e

lookup_here : (k : List ℕ) (x : Option CidParts) (b : List Entry) → ComesBefore k b → Rise b → lookup k (with_entry k x b) ≡ x
lookup_here k None b c r = no_record_before k b c r
lookup_here k (Some v) b c r = this_first k k v b refl

lookup_at : (k : List ℕ) (x : Option CidParts) (a b : List Entry) → AllBefore k a → ComesBefore k b → Rise b → lookup k (a ++ with_entry k x b) ≡ x
lookup_at k x [] b h c r = lookup_here k x b c r
lookup_at k x (e ∷ a) b h c r = other_first k e.0 e.1 (a ++ with_entry k x b) (not_same e.0 k h.0) ∙ lookup_at k x a b h.1 c r

set_here : (k : List ℕ) (v : CidParts) (x : Option CidParts) (b : List Entry) → ComesBefore k b → set_entry k v (with_entry k x b) ≡ (k, v) ∷ b
set_here k v None [] c = refl
set_here k v None (e ∷ b) c = at_less (List Entry) (slice_cmp nat_cmp k e.0) ((k, v) ∷ (e ∷ b)) ((k, v) ∷ b) (e ∷ set_entry k v b) c
set_here k v (Some w) b c = at_equal (List Entry) (slice_cmp nat_cmp k k) ((k, v) ∷ ((k, w) ∷ b)) ((k, v) ∷ b) ((k, w) ∷ set_entry k v b) (same_keys k)

set_at : (k : List ℕ) (v : CidParts) (x : Option CidParts) (a b : List Entry) → AllBefore k a → ComesBefore k b → set_entry k v (a ++ with_entry k x b) ≡ a ++ ((k, v) ∷ b)
set_at k v x [] b h c = set_here k v x b c
set_at k v x (e ∷ a) b h c =
    at_greater (List Entry) (slice_cmp nat_cmp k e.0) ((k, v) ∷ (e ∷ (a ++ with_entry k x b))) ((k, v) ∷ (a ++ with_entry k x b)) (e ∷ set_entry k v (a ++ with_entry k x b)) (above e.0 k h.0)
    ∙ ap (λ n. e ∷ n) (set_at k v x a b h.1 c)

unset_here : (k : List ℕ) (x : Option CidParts) (b : List Entry) → ComesBefore k b → Rise b → unset_entry k (with_entry k x b) ≡ b
unset_here k None b c r = sym (none_removed k b (no_record_before k b c r))
unset_here k (Some w) b c r = ap (λ t. if t then b else (k, w) ∷ unset_entry k b) ((bytes_eq-Decides k k).1 refl)

unset_other : (k : List ℕ) (e : Entry) (es : List Entry) → (e.0 ≡ k → ⊥) → unset_entry k (e ∷ es) ≡ e ∷ unset_entry k es
unset_other k e es not = by (bytes_eq e.0 k) refl
  where
    by : (b : Bool) → bytes_eq e.0 k ≡ b → unset_entry k (e ∷ es) ≡ e ∷ unset_entry k es
    by true q = absurd (not ((bytes_eq-Decides e.0 k).0 q))
    by false q = ap (λ t. if t then es else e ∷ unset_entry k es) q

unset_at : (k : List ℕ) (x : Option CidParts) (a b : List Entry) → AllBefore k a → ComesBefore k b → Rise b → unset_entry k (a ++ with_entry k x b) ≡ a ++ b
unset_at k x [] b h c r = unset_here k x b c r
unset_at k x (e ∷ a) b h c r = unset_other k e (a ++ with_entry k x b) (not_same e.0 k h.0) ∙ ap (λ n. e ∷ n) (unset_at k x a b h.1 c r)

record_at : (k : List ℕ) (y x : Option CidParts) (a b : List Entry) → AllBefore k a → ComesBefore k b → Rise b
    → set_record k y (a ++ with_entry k x b) ≡ a ++ with_entry k y b
record_at k None x a b h c r = unset_at k x a b h c r
record_at k (Some v) x a b h c r = set_at k v x a b h c

-- ---- what pieces stand for, in parts

pub fills_apart : (xs ys : List PieceParts) (es : List Entry) → Fills (xs ++ ys) es → (a b : List Entry) × Fills xs a × Fills ys b × (es ≡ a ++ b)
fills_apart [] ys es h = ([], es, refl, h, refl)
fills_apart (p ∷ xs) ys es (first, more, s, f, e) =
    let r = fills_apart xs ys more f in (
      first ++ r.0,
      r.1,
      (first, r.0, s, r.2, refl),
      r.3,
      e ∙ ap (λ m. first ++ m) r.4 ∙ sym (append_assoc first r.0 r.1),
    )

pub fills_joined : (xs ys : List PieceParts) (a b : List Entry) → Fills xs a → Fills ys b → Fills (xs ++ ys) (a ++ b)
fills_joined [] ys a b h k = subst (λ x. Fills ys (x ++ b)) (sym h) k
fills_joined (p ∷ xs) ys a b (first, more, s, f, e) k = (first, more ++ b, s, fills_joined xs ys more b f k, ap (λ x. x ++ b) e ∙ append_assoc first more b)

fills_with : (k : List ℕ) (x : Option CidParts) (ps : List PieceParts) (es : List Entry) → Fills (with_piece k x ps) es → (b : List Entry) × Fills ps b × (es ≡ with_entry k x b)
fills_with k None ps es h = (es, h, refl)
fills_with k (Some v) ps es (first, more, s, f, e) = (more, f, e ∙ ap (λ q. q ++ more) s.1)

with_fills : (k : List ℕ) (x : Option CidParts) (ps : List PieceParts) (b : List Entry) → Fills ps b → Fills (with_piece k x ps) (with_entry k x b)
with_fills k None ps b f = f
with_fills k (Some v) ps b f = ((k, v) ∷ [], b, (refl, refl), f, refl)

-- ---- the order of keys

after_at : (k l : List ℕ) (v : CidParts) (a b : List Entry) → AllByRecursion (λ e. Below l e.0) (a ++ ((k, v) ∷ b)) → Below l k
after_at k l v [] b h = h.0
after_at k l v (e ∷ a) b h = after_at k l v a b h.1

all_before : (k : List ℕ) (v : CidParts) (a b : List Entry) → RiseAll (a ++ ((k, v) ∷ b)) → AllBefore k a
all_before k v [] b r = tt
all_before k v (e ∷ a) b r = (after_at k e.0 v a b r.0, all_before k v a b r.1)

before_more : (k l : List ℕ) (a : List Entry) → Below k l → AllBefore k a → AllBefore l a
before_more k l [] b h = tt
before_more k l (e ∷ a) b h = (below_trans e.0 k l h.0 b, before_more k l a b h.1)

before_joined : (k : List ℕ) (a b : List Entry) → AllBefore k a → AllBefore k b → AllBefore k (a ++ b)
before_joined k [] b h g = g
before_joined k (e ∷ a) b h g = (h.0, before_joined k a b h.1 g)

have_key : (k : List ℕ) (v : CidParts) (a b : List Entry) → HaveKeys (a ++ ((k, v) ∷ b)) → IsKey k
have_key k v [] b h = h.0
have_key k v (e ∷ a) b h = have_key k v a b h.1

rise_front : (a b : List Entry) → RiseAll (a ++ b) → RiseAll a
rise_front [] b r = tt
rise_front (e ∷ a) b r = (front e.0 a r.0, rise_front a b r.1)
  where
    front : (l : List ℕ) (a : List Entry) → AllByRecursion (λ x. Below l x.0) (a ++ b) → AllByRecursion (λ x. Below l x.0) a
    front l [] h = tt
    front l (x ∷ xs) h = (h.0, front l xs h.1)

-- the last entry of pieces that end with one
ends_with : (k : List ℕ) (p : PieceParts) (ps : List PieceParts) (a : List Entry) → Fills (p ∷ ps) a → EndsBefore k (p ∷ ps)
    → (l : List ℕ) × (v : CidParts) × (early : List Entry) × Below l k × (a ≡ early ++ ((l, v) ∷ []))
ends_with k p [] a (first, more, s, f, e) (l, is, less) =
    let here = subst (λ x. StandsFor p.layer p.cid x first) is s in
    (l, p.cid, [], less, e ∙ ap (λ x. first ++ x) f ∙ ap (λ x. x ++ []) here.1)
ends_with k p (q ∷ ps) a (first, more, s, f, e) h =
    let r = ends_with k q ps more f h in
    (r.0, r.1, first ++ r.2, r.3, e ∙ ap (λ x. first ++ x) r.4 ∙ sym (append_assoc first r.2 ((r.0, r.1) ∷ [])))

ends_before : (k : List ℕ) (ps : List PieceParts) (a : List Entry) → Fills ps a → EndsBefore k ps → RiseAll a → AllBefore k a
ends_before k [] a f h r = subst (AllBefore k) (sym f) tt
ends_before k (p ∷ ps) a f h r =
    let w = ends_with k p ps a f h in
    let q = subst RiseAll w.4 r in
    subst (AllBefore k) (sym w.4) (before_joined k w.2 ((w.0, w.1) ∷ []) (before_more w.0 k w.2 w.3 (all_before w.0 w.1 w.2 [] q)) (w.3, tt))

begins_after : (k : List ℕ) (ps : List PieceParts) (b : List Entry) → Fills ps b → BeginsAfter k ps → ComesBefore k b
begins_after k [] b f h = subst (ComesBefore k) (sym f) tt
begins_after k (p ∷ ps) b (first, more, s, f, e) (l, is, less) =
    let here = subst (λ x. StandsFor p.layer p.cid x first) is s in
    subst (ComesBefore k) (sym (e ∙ ap (λ x. x ++ more) here.1)) less

-- where the record is, or would be inserted
abbrev IsPlace : List ℕ → List Entry → List Entry → Type 0
IsPlace k a b = AllBefore k a × ComesBefore k b × Rise b

place_by : (k : List ℕ) (x : Option CidParts) (front rest : List PieceParts) (a b : List Entry) → Fills front a → Fills rest b
    → (x ≡ None → EndsBefore k front × BeginsAfter k rest) → Rise (a ++ with_entry k x b) → IsPlace k a b
place_by k None front rest a b fa fb h r =
    let between = h refl in
    (ends_before k front a fa between.0 (rise_front a b (rise_all (a ++ b) r)), begins_after k rest b fb between.1, rise_right a b r)
place_by k (Some v) front rest a b fa fb h r =
    let right = rise_right a ((k, v) ∷ b) r in
    (all_before k v a b (rise_all (a ++ ((k, v) ∷ b)) r), right.0, right.1)

key_by : (k : List ℕ) (x y : Option CidParts) (a b : List Entry) → (y ≢ None → x ≡ None → IsKey k) → HaveKeys (a ++ with_entry k x b) → y ≢ None → IsKey k
key_by k None y a b h keys some = h some refl
key_by k (Some v) y a b h keys some = have_key k v a b keys

in_order : (k : List ℕ) (y : Option CidParts) (es : List Entry) → (y ≢ None → IsKey k) → HaveRisingKeys es → HaveRisingKeys (set_record k y es)
in_order k None es h r = (unset_keys k es r.0, unset_rises k es r.1)
in_order k (Some v) es h r = (set_keys k v es (h (λ e. absurd (cc e))) r.0, set_rises k v es r.1)

pub steps_undo : StepsUndo
steps_undo c old new es s f r =
    let split = fills_apart s.front (with_piece c.0 c.1.1 s.rest) es (subst (λ x. Fills x es) s.was f) in
    let w = fills_with c.0 c.1.1 s.rest split.1 split.3 in
    let a = split.0 in
    let b = w.0 in
    let is : es ≡ a ++ with_entry c.0 c.1.1 b = split.4 ∙ ap (λ n. a ++ n) w.2 in
    let ordered = subst HaveRisingKeys is r in
    let place = place_by c.0 c.1.1 s.front s.rest a b split.2 w.1 s.between ordered.1 in
    let before = a ++ with_entry c.0 c.1.0 b in
    let undone : before ≡ set_record c.0 c.1.0 es = sym (ap (set_record c.0 c.1.0) is ∙ record_at c.0 c.1.0 c.1.1 a b place.0 place.1 place.2) in (
      before,
      subst (λ x. Fills x before) (sym s.is) (fills_joined s.front (with_piece c.0 c.1.0 s.rest) a (with_entry c.0 c.1.0 b) split.2 (with_fills c.0 c.1.0 s.rest b w.1)),
      subst HaveRisingKeys (sym undone) (in_order c.0 c.1.0 es (key_by c.0 c.1.1 c.1.0 a b s.key ordered.0) r),
      (lookup_at c.0 c.1.0 a b place.0 place.1 place.2, is ∙ sym (record_at c.0 c.1.1 c.1.0 a b place.0 place.1 place.2)),
      (ap (lookup c.0) is ∙ lookup_at c.0 c.1.1 a b place.0 place.1 place.2, undone),
    )
