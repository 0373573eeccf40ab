-- One change undone at a place, and why it is not.
use Rattle.std.proofs.Common.{◌≡◌, ◌≢◌, ℕ, Bool, true, false, zero, suc, ◌<◌, ◌≤◌, List, [], ◌∷◌, ◌++◌, length, get_or, set, insert, remove, take, drop, Option, Some, None, refl, sym, ap, ◌∙◌, subst, arith}
use Rattle.std.specs.Prelude.{is_some}
use Rattle.std.proofs.lemmas.List.{length-drop, length-map}
use Rattle.ipld_tree.specs.Cid.{CidParts}
use Rattle.atproto_mst.specs.Keys.{IsKey}
use Rattle.atproto_mst.specs.Changes.{Changed}
use Rattle.atproto_events.specs.Pieces.{PieceParts, piece_of, pieces, entry_piece}
use Rattle.atproto_events.specs.Undone.{with_piece, from_entry, EndsBefore, BeginsAfter, IsOfKey, ArePlaced, StepsBack, HasRecord, HidesKey}
use Rattle.atproto_events.specs.declared.pieces.Piece.{Piece}
use Rattle.atproto_events.proofs.Places.{piece_at, pieces_set, pieces_removed, pieces_inserted, whole_again, placed_there, entry_of, entry_first, subtree_first}

some_other : (x : CidParts) → Some x ≢ None
some_other x h = cc h

pub some_same : (x y : CidParts) → Some x ≡ Some y → x ≡ y
some_same x y h = cc h

-- the pieces, split at the entry of the key
split_there : (key : List ℕ) (i : ℕ) (ps : List Piece) (d : Piece) → get_or ps i d ≡ d → IsOfKey key i (pieces ps) → ArePlaced (pieces ps)
    → pieces ps ≡ take i (pieces ps) ++ (entry_piece key d.cid ∷ drop (suc i) (pieces ps))
split_there key i ps d is k placed =
    let there = placed_there key i ps d is k placed in
    whole_again i (pieces ps)
    ∙ ap (λ x. take i (pieces ps) ++ x) (piece_at i ps d there.0 is)
    ∙ ap (λ x. take i (pieces ps) ++ (x ∷ drop (suc i) (pieces ps))) (entry_of key d d.cid refl there.1)

-- its record is another one
pub set_back : (c : Changed) (i : ℕ) (ps : List Piece) (d x : Piece) (now old : CidParts) → get_or ps i d ≡ d → IsOfKey c.0 i (pieces ps) → ArePlaced (pieces ps)
    → c.1.1 ≡ Some now → c.1.0 ≡ Some old → d.cid ≡ now → x ≡ record { layer = d.layer; key = d.key; cid = old } → StepsBack c (pieces ps) (pieces (set ps i x))
set_back c i ps d x now old is k placed new_is old_is cid made =
    let there = placed_there c.0 i ps d is k placed in
    record {
      front = take i (pieces ps);
      rest = drop (suc i) (pieces ps);
      was = split_there c.0 i ps d is k placed
          ∙ ap (λ v. take i (pieces ps) ++ (entry_piece c.0 v ∷ drop (suc i) (pieces ps))) cid
          ∙ ap (λ o. take i (pieces ps) ++ with_piece c.0 o (drop (suc i) (pieces ps))) (sym new_is);
      is = pieces_set i ps x there.0
          ∙ ap (λ p. take i (pieces ps) ++ (p ∷ drop (suc i) (pieces ps))) (ap piece_of made ∙ entry_of c.0 record { layer = d.layer; key = d.key; cid = old } old refl there.1)
          ∙ ap (λ o. take i (pieces ps) ++ with_piece c.0 o (drop (suc i) (pieces ps))) (sym old_is);
      between = λ none. absurd (some_other now (sym new_is ∙ none));
      key = λ some none. absurd (some_other now (sym new_is ∙ none));
    }

-- it is taken away
pub taken_away : (c : Changed) (i : ℕ) (ps : List Piece) (d : Piece) (now : CidParts) → get_or ps i d ≡ d → IsOfKey c.0 i (pieces ps) → ArePlaced (pieces ps)
    → c.1.1 ≡ Some now → c.1.0 ≡ None → d.cid ≡ now → StepsBack c (pieces ps) (pieces (remove ps i))
taken_away c i ps d now is k placed new_is old_is cid =
    let there = placed_there c.0 i ps d is k placed in
    record {
      front = take i (pieces ps);
      rest = drop (suc i) (pieces ps);
      was = split_there c.0 i ps d is k placed
          ∙ ap (λ v. take i (pieces ps) ++ (entry_piece c.0 v ∷ drop (suc i) (pieces ps))) cid
          ∙ ap (λ o. take i (pieces ps) ++ with_piece c.0 o (drop (suc i) (pieces ps))) (sym new_is);
      is = pieces_removed i ps there.0 ∙ ap (λ o. take i (pieces ps) ++ with_piece c.0 o (drop (suc i) (pieces ps))) (sym old_is);
      between = λ none. absurd (some_other now (sym new_is ∙ none));
      key = λ some none. absurd (some old_is);
    }

-- another record is there
pub other_record : (key : List ℕ) (i : ℕ) (ps : List Piece) (d : Piece) (after : Option CidParts) → get_or ps i d ≡ d → IsOfKey key i (pieces ps) → ArePlaced (pieces ps)
    → after ≢ Some d.cid → (value : Option CidParts) × HasRecord key value (pieces ps) × (value ≢ after)
other_record key i ps d after is k placed other = (
  Some d.cid,
  record {
    front = take i (pieces ps);
    rest = drop (suc i) (pieces ps);
    is = split_there key i ps d is k placed;
    between = λ none. absurd (some_other d.cid none);
  },
  λ same. other (sym same),
)

-- it is put in
pub put_in : (c : Changed) (i : ℕ) (ps : List Piece) (x : Piece) (old : CidParts) → i ≤ length ps → EndsBefore c.0 (take i (pieces ps)) → BeginsAfter c.0 (drop i (pieces ps))
    → c.1.1 ≡ None → c.1.0 ≡ Some old → IsKey c.0 → piece_of x ≡ entry_piece c.0 old → StepsBack c (pieces ps) (pieces (insert ps i x))
put_in c i ps x old le front rest new_is old_is key made = record {
  front = take i (pieces ps);
  rest = drop i (pieces ps);
  was = whole_again i (pieces ps) ∙ ap (λ o. take i (pieces ps) ++ with_piece c.0 o (drop i (pieces ps))) (sym new_is);
  is = pieces_inserted i ps x le
      ∙ ap (λ p. take i (pieces ps) ++ (p ∷ drop i (pieces ps))) made
      ∙ ap (λ o. take i (pieces ps) ++ with_piece c.0 o (drop i (pieces ps))) (sym old_is);
  between = λ none. (front, rest);
  key = λ some none. key;
}

-- a subtree is at this place
hides : (key : List ℕ) (m : ℕ) (xs : List PieceParts) (p : PieceParts) (ys : List PieceParts) → EndsBefore key (take m xs) → drop m xs ≡ p ∷ ys → p.key ≡ None → BeginsAfter key (from_entry ys) → HidesKey key p.cid xs
hides key m xs p ys front split none following = record {
  front = take m xs;
  layer = p.layer;
  rest = ys;
  is = whole_again m xs ∙ ap (λ x. take m xs ++ x) split ∙ ap (λ k. take m xs ++ (record { layer = p.layer; key = k; cid = p.cid } ∷ ys)) none;
  before = front;
  following = following;
}

no_entry : (o : Option (List ℕ)) → is_some o ≡ false → o ≡ None
no_entry None h = refl
no_entry (Some k) h = absurd (cc h)

longer : (m a : ℕ) (xs : List PieceParts) → m < a → a ≤ length xs → drop a xs ≡ drop m xs → ⊥
longer m a xs lt le e = absurd (omega (arith, lt, le, ap length e, length-drop a xs, length-drop m xs))

hidden_by : (key : List ℕ) (m a : ℕ) (ps : List Piece) (d : Piece) (b : Bool) → m < a → a ≤ length ps → get_or ps m d ≡ d → is_some (piece_of d).key ≡ b → EndsBefore key (take m (pieces ps))
    → drop a (pieces ps) ≡ from_entry (drop m (pieces ps)) → BeginsAfter key (drop a (pieces ps)) → HidesKey key d.cid (pieces ps)
hidden_by key m a ps d true lt le is some front e following =
    let split = piece_at m ps d (omega (arith, lt, le)) is in
    absurd (longer m a (pieces ps) lt (omega (arith, le, length-map ps piece_of)) (e ∙ ap from_entry split ∙ entry_first (piece_of d) (drop (suc m) (pieces ps)) some ∙ sym split))
hidden_by key m a ps d false lt le is some front e following =
    let split = piece_at m ps d (omega (arith, lt, le)) is in
    hides key m (pieces ps) (piece_of d) (drop (suc m) (pieces ps)) front split (no_entry (piece_of d).key some)
    (subst (BeginsAfter key) (e ∙ ap from_entry split ∙ subtree_first (piece_of d) (drop (suc m) (pieces ps)) some) following)

pub hidden : (key : List ℕ) (m a : ℕ) (ps : List Piece) (d : Piece) → m < a → a ≤ length ps → get_or ps m d ≡ d → EndsBefore key (take m (pieces ps))
    → drop a (pieces ps) ≡ from_entry (drop m (pieces ps)) → BeginsAfter key (drop a (pieces ps)) → HidesKey key d.cid (pieces ps)
hidden key m a ps d lt le is front e following = hidden_by key m a ps d (is_some (piece_of d).key) lt le is refl front e following

pub of_key_at : (key : List ℕ) (i : ℕ) (ps : List Piece) (d : Piece) → get_or ps i d ≡ d → i < length ps → (piece_of d).key ≡ Some key → IsOfKey key i (pieces ps)
of_key_at key i [] d is lt k = absurd (omega (arith, lt))
of_key_at key zero (p ∷ ps) d is lt k = ap (λ x. (piece_of x).key) is ∙ k
of_key_at key (suc i) (p ∷ ps) d is lt k = of_key_at key i ps d is (omega (arith, lt)) k

pub key_there : (key : List ℕ) (i : ℕ) (ps : List Piece) (d : Piece) → get_or ps i d ≡ d → IsOfKey key i (pieces ps) → (piece_of d).key ≡ Some key
key_there key i [] d is k = absurd k
key_there key zero (p ∷ ps) d is k = sym (ap (λ x. (piece_of x).key) is) ∙ k
key_there key (suc i) (p ∷ ps) d is k = key_there key i ps d is k

-- ---- what is told of names and options

pub names_differ : (d : Piece) (after : Option CidParts) (now : CidParts) → after ≡ Some now → (d.cid ≡ now → ⊥) → after ≢ Some d.cid
names_differ d after now is other same = other (sym (some_same now d.cid (sym is ∙ same)))

pub is_none : (o : Option CidParts) (b : Bool) → b ≡ false → b ≡ is_some o → o ≡ None
is_none None b h e = refl
is_none (Some x) b h e = absurd (cc (h, e))

-- ---- the piece at a place

pub one_piece : (i : ℕ) (ps : List Piece) (d e : Piece) → i < length ps → get_or ps i d ≡ d → get_or ps i e ≡ e → d ≡ e
one_piece i [] d e lt is also = absurd (omega (arith, lt))
one_piece zero (p ∷ ps) d e lt is also = sym is ∙ also
one_piece (suc i) (p ∷ ps) d e lt is also = one_piece i ps d e (omega (arith, lt)) is also

piece_there : (key : List ℕ) (i : ℕ) (ps : List Piece) → IsOfKey key i (pieces ps) → (d : Piece) × (get_or ps i d ≡ d)
piece_there key i [] k = absurd k
piece_there key zero (p ∷ ps) k = (p, refl)
piece_there key (suc i) (p ∷ ps) k = piece_there key i ps k

pub some_record : (key : List ℕ) (i : ℕ) (ps : List Piece) (after : Option CidParts) → IsOfKey key i (pieces ps) → ArePlaced (pieces ps) → ((x : CidParts) → after ≢ Some x)
    → (value : Option CidParts) × HasRecord key value (pieces ps) × (value ≢ after)
some_record key i ps after k placed none =
    let (d, is) = piece_there key i ps k in
    other_record key i ps d after is k placed (none d.cid)
