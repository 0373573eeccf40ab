-- Places of keys among pieces, and pieces that are changed there.
use Rattle.std.proofs.Common.{◌≡◌, ◌≢◌, ℕ, zero, suc, ◌+◌, ◌<◌, ◌≤◌, Bool, true, false, List, [], ◌∷◌, ◌++◌, length, get_or, set, insert, remove, take, drop, Option, Some, None, refl, sym, ap, ◌∙◌, subst, arith, Vec}
use Rattle.std.specs.Prelude.{if◌then◌else◌, is_some, option_map}
use Rattle.std.specs.declared.alloc.Global.{Global}
use Rattle.std.specs.declared.cmp.Ordering.{Ordering}
use Rattle.std.specs.declared.cmp.Ordering.TheVariants.{Less, Equal, Greater}
use Rattle.std.specs.Ordering.{nat_cmp, is_lt, ordering_reverse}
use Rattle.std.specs.Cmp.Lexicographic.{slice_cmp}
use Rattle.std.proofs.lemmas.Cmp.{nat_list_cmp_total}
use Rattle.std.proofs.lemmas.List.{length-drop}
use Rattle.std.proofs.lemmas.Map.Lookups.{exact_bytes}
use Rattle.ipld_tree.specs.Cid.{CidParts}
use Rattle.atproto_mst.specs.Keys.{key_layer}
use Rattle.atproto_events.specs.Pieces.{PieceParts, piece_of, pieces, entry_piece}
use Rattle.atproto_events.specs.Undone.{comes_before, from_entry, EndsBefore, BeginsAfter, IsNotBefore, IsOfKey, IsPlaced, ArePlaced}
use Rattle.atproto_events.specs.declared.pieces.Piece.{Piece}

-- ---- one piece

pub piece_at : (i : ℕ) (ps : List Piece) (d : Piece) → i < length ps → get_or ps i d ≡ d → drop i (pieces ps) ≡ piece_of d ∷ drop (suc i) (pieces ps)
piece_at i [] d lt is = absurd (omega (arith, lt))
piece_at zero (p ∷ ps) d lt is = ap (λ x. piece_of x ∷ pieces ps) is
piece_at (suc i) (p ∷ ps) d lt is = piece_at i ps d (omega (arith, lt)) is

has_key : (o : Option (Vec ℕ Global)) (b : Bool) → is_some o ≡ b → is_some (option_map (λ k. k.items) o) ≡ b
has_key None b h = h
has_key (Some k) b h = h

pub entry_first : (p : PieceParts) (ps : List PieceParts) → is_some p.key ≡ true → from_entry (p ∷ ps) ≡ p ∷ ps
entry_first p ps h = ap (λ b. if b then p ∷ ps else from_entry ps) h

pub subtree_first : (p : PieceParts) (ps : List PieceParts) → is_some p.key ≡ false → from_entry (p ∷ ps) ≡ from_entry ps
subtree_first p ps h = ap (λ b. if b then p ∷ ps else from_entry ps) h

-- an entry is the next one
pub entry_here : (i : ℕ) (ps : List Piece) (d : Piece) → i < length ps → get_or ps i d ≡ d → is_some d.key ≡ true → drop i (pieces ps) ≡ from_entry (drop i (pieces ps))
entry_here i ps d lt is h =
    let split = piece_at i ps d lt is in
    split ∙ sym (ap from_entry split ∙ entry_first (piece_of d) (drop (suc i) (pieces ps)) (has_key d.key true h))

-- a subtree is not
pub entry_later : (i : ℕ) (ps : List Piece) (d : Piece) → i < length ps → get_or ps i d ≡ d → is_some d.key ≡ false → from_entry (drop (i + 1) (pieces ps)) ≡ from_entry (drop i (pieces ps))
entry_later i ps d lt is h =
    let next : i + 1 ≡ suc i = omega arith in
    ap (λ k. from_entry (drop k (pieces ps))) next
    ∙ sym (ap from_entry (piece_at i ps d lt is) ∙ subtree_first (piece_of d) (drop (suc i) (pieces ps)) (has_key d.key false h))

-- ---- a place in the order of keys

is_less : (o : Ordering) → is_lt o ≡ true → o ≡ Less
is_less Less h = refl
is_less Equal h = absurd (cc h)
is_less Greater h = absurd (cc h)

before_key : (key : List ℕ) (o : Option (List ℕ)) → comes_before key o ≡ true → (k : List ℕ) × (o ≡ Some k) × (slice_cmp nat_cmp k key ≡ Less)
before_key key None h = absurd (cc h)
before_key key (Some k) h = (k, refl, is_less (slice_cmp nat_cmp k key) h)

-- what ends with an entry before the key
pub ends_at : (key : List ℕ) (i : ℕ) (ps : List Piece) (d : Piece) → i < length ps → get_or ps i d ≡ d → comes_before key (piece_of d).key ≡ true → EndsBefore key (take (suc i) (pieces ps))
ends_at key i [] d lt is h = absurd (omega (arith, lt))
ends_at key zero (p ∷ ps) d lt is h = subst (λ x. EndsBefore key (piece_of x ∷ [])) (sym is) (before_key key (piece_of d).key h)
ends_at key (suc i) (p ∷ []) d lt is h = absurd (omega (arith, lt))
ends_at key (suc i) (p ∷ q ∷ ps) d lt is h = ends_at key i (q ∷ ps) d (omega (arith, lt)) is h

pub ends_next : (key : List ℕ) (i : ℕ) (ps : List Piece) (d : Piece) → i < length ps → get_or ps i d ≡ d → comes_before key (piece_of d).key ≡ true → EndsBefore key (take (i + 1) (pieces ps))
ends_next key i ps d lt is h =
    let next : suc i ≡ i + 1 = omega arith in
    subst (λ k. EndsBefore key (take k (pieces ps))) next (ends_at key i ps d lt is h)

shorter : (i : ℕ) (p : PieceParts) (ps : List PieceParts) → drop i ps ≡ p ∷ ps → ⊥
shorter i p ps h = absurd (omega (arith, ap length h, length-drop i ps))

-- If the next entry after a place is far, it is also the next after the places between.
pub same_entry : (m h a : ℕ) (xs : List PieceParts) → m ≤ h → h ≤ a → a ≤ length xs → drop a xs ≡ from_entry (drop m xs) → drop a xs ≡ from_entry (drop h xs)
same_entry zero zero a xs le far within e = e
same_entry zero (suc h) zero xs le far within e = absurd (omega (arith, far))
same_entry zero (suc h) (suc a) [] le far within e = absurd (omega (arith, within))
same_entry zero (suc h) (suc a) (x ∷ xs) le far within e = by (is_some x.key) e (λ q. same_entry zero h a xs (omega arith) (omega (arith, far)) (omega (arith, within)) q)
  where
    by : (b : Bool) → drop a xs ≡ (if b then x ∷ xs else from_entry xs) → (drop a xs ≡ from_entry xs → drop a xs ≡ from_entry (drop h xs)) → drop a xs ≡ from_entry (drop h xs)
    by true q f = absurd (shorter a x xs q)
    by false q f = f q
same_entry (suc m) zero a xs le far within e = absurd (omega (arith, le))
same_entry (suc m) (suc h) zero xs le far within e = absurd (omega (arith, far))
same_entry (suc m) (suc h) (suc a) [] le far within e = absurd (omega (arith, within))
same_entry (suc m) (suc h) (suc a) (x ∷ xs) le far within e = same_entry m h a xs (omega (arith, le)) (omega (arith, far)) (omega (arith, within)) e

-- the part begins with an entry that does not come before the key
pub not_before : (key : List ℕ) (m a : ℕ) (ps : List Piece) (d : Piece) → drop a (pieces ps) ≡ from_entry (drop m (pieces ps)) → a < length ps → get_or ps a d ≡ d
    → comes_before key (piece_of d).key ≡ false → IsNotBefore key (from_entry (drop m (pieces ps)))
not_before key m a ps d e lt is h = subst (IsNotBefore key) (sym (piece_at a ps d lt is) ∙ e) h

pub still_not_before : (key : List ℕ) (m h a : ℕ) (xs : List PieceParts) → m ≤ h → h ≤ a → a ≤ length xs → drop a xs ≡ from_entry (drop m xs) → IsNotBefore key (from_entry (drop h xs)) → IsNotBefore key (from_entry (drop m xs))
still_not_before key m h a xs le far within e n = subst (IsNotBefore key) (sym (same_entry m h a xs le far within e) ∙ e) n

not_less : (k key : List ℕ) (o : Ordering) → slice_cmp nat_cmp k key ≡ o → is_lt o ≡ false → k ≢ key → slice_cmp nat_cmp key k ≡ Less
not_less k key Less is h other = absurd (cc h)
not_less k key Equal is h other = absurd (other (exact_bytes k key is))
not_less k key Greater is h other = nat_list_cmp_total.antisymm key k ∙ ap ordering_reverse is

after_key : (key : List ℕ) (o : Option (List ℕ)) → is_some o ≡ true → comes_before key o ≡ false → o ≢ Some key → (k : List ℕ) × (o ≡ Some k) × (slice_cmp nat_cmp key k ≡ Less)
after_key key None h n other = absurd (cc h)
after_key key (Some k) h n other = (k, refl, not_less k key (slice_cmp nat_cmp k key) refl n (λ e. other (ap Some e)))

-- a key that would come first is absent
begins : (key : List ℕ) (xs ys : List PieceParts) → ys ≡ from_entry xs → IsNotBefore key ys → ¬ IsOfKey key 0 ys → BeginsAfter key ys
begins key [] ys e n other = subst (BeginsAfter key) (sym e) tt
begins key (x ∷ xs) ys e n other = by (is_some x.key) refl e (λ q. begins key xs ys q n other)
  where
    by : (b : Bool) → is_some x.key ≡ b → ys ≡ (if b then x ∷ xs else from_entry xs) → (ys ≡ from_entry xs → BeginsAfter key ys) → BeginsAfter key ys
    by true some q f = subst (BeginsAfter key) (sym q) (after_key key x.key some (subst (IsNotBefore key) q n) (λ k. other (subst (IsOfKey key 0) (sym q) k)))
    by false some q f = f q

of_key_there : (key : List ℕ) (i : ℕ) (xs : List PieceParts) → IsOfKey key 0 (drop i xs) → IsOfKey key i xs
of_key_there key zero xs h = h
of_key_there key (suc i) [] h = absurd h
of_key_there key (suc i) (x ∷ xs) h = of_key_there key i xs h

pub begins_after : (key : List ℕ) (m a : ℕ) (xs : List PieceParts) → drop a xs ≡ from_entry (drop m xs) → IsNotBefore key (from_entry (drop m xs)) → ¬ IsOfKey key a xs → BeginsAfter key (drop a xs)
begins_after key m a xs e n other = begins key (drop m xs) (drop a xs) e (subst (IsNotBefore key) (sym e) n) (λ h. other (of_key_there key a xs h))

-- ---- a piece that is set, taken away or put in

pub pieces_set : (i : ℕ) (ps : List Piece) (x : Piece) → i < length ps → pieces (set ps i x) ≡ take i (pieces ps) ++ (piece_of x ∷ drop (suc i) (pieces ps))
pieces_set i [] x lt = absurd (omega (arith, lt))
pieces_set zero (p ∷ ps) x lt = refl
pieces_set (suc i) (p ∷ ps) x lt = ap (λ t. piece_of p ∷ t) (pieces_set i ps x (omega (arith, lt)))

pub pieces_removed : (i : ℕ) (ps : List Piece) → i < length ps → pieces (remove ps i) ≡ take i (pieces ps) ++ drop (suc i) (pieces ps)
pieces_removed i [] lt = absurd (omega (arith, lt))
pieces_removed zero (p ∷ ps) lt = refl
pieces_removed (suc i) (p ∷ ps) lt = ap (λ t. piece_of p ∷ t) (pieces_removed i ps (omega (arith, lt)))

pub pieces_inserted : (i : ℕ) (ps : List Piece) (x : Piece) → i ≤ length ps → pieces (insert ps i x) ≡ take i (pieces ps) ++ (piece_of x ∷ drop i (pieces ps))
pieces_inserted zero [] x le = refl
pieces_inserted (suc i) [] x le = absurd (omega (arith, le))
pieces_inserted zero (p ∷ ps) x le = refl
pieces_inserted (suc i) (p ∷ ps) x le = ap (λ t. piece_of p ∷ t) (pieces_inserted i ps x (omega (arith, le)))

pub whole_again : (i : ℕ) (xs : List PieceParts) → xs ≡ take i xs ++ drop i xs
whole_again zero xs = refl
whole_again (suc i) [] = refl
whole_again (suc i) (x ∷ xs) = ap (λ t. x ∷ t) (whole_again i xs)

-- the piece at a place, if it is an entry of the key
pub placed_there : (key : List ℕ) (i : ℕ) (ps : List Piece) (d : Piece) → get_or ps i d ≡ d → IsOfKey key i (pieces ps) → ArePlaced (pieces ps)
    → (i < length ps) × ((d.layer ≡ key_layer key) × ((piece_of d).key ≡ Some key))
placed_there key i [] d is k placed = absurd k
placed_there key zero (p ∷ ps) d is k placed =
    (omega arith, subst (λ x. (x.layer ≡ key_layer key) × ((piece_of x).key ≡ Some key)) is (subst (IsPlaced p.layer) k placed.0, k))
placed_there key (suc i) (p ∷ ps) d is k placed =
    let more = placed_there key i ps d is k placed.1 in
    (omega (arith, more.0), more.1)

pub entry_of : (key : List ℕ) (d : Piece) (cid : CidParts) → d.cid ≡ cid → (d.layer ≡ key_layer key) × ((piece_of d).key ≡ Some key) → piece_of d ≡ entry_piece key cid
entry_of key d cid is h = let layer = h.0 in let k = h.1 in λ i. record { layer = layer i; key = k i; cid = is i }

pub of_key_within : (key : List ℕ) (i : ℕ) (ps : List Piece) → IsOfKey key i (pieces ps) → i < length ps
of_key_within key i [] k = absurd k
of_key_within key zero (p ∷ ps) k = omega arith
of_key_within key (suc i) (p ∷ ps) k = omega (arith, of_key_within key i ps k)
