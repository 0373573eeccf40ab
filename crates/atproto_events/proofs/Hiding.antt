-- Subtrees that are not opened, and the pieces beside them.
use Rattle.std.proofs.Common.{◌≡◌, ◌≢◌, ◌⊎◌, inl, inr, ℕ, suc, ◌<◌, ◌≤◌, Bool, true, false, List, [], ◌∷◌, ◌++◌, None, refl, sym, ap, ◌∙◌, subst, arith, ltb-true, append_assoc, append-nil, Result, Ok, Err, IfErr}
use Rattle.std.specs.Prelude.{if◌then◌else◌, nat_lt}
use Rattle.ipld_tree.specs.Cid.{CidParts}
use Rattle.atproto_events.specs.Pieces.{PieceParts, subtree_piece, lower_pieces, upper_pieces, top_piece}
use Rattle.atproto_events.specs.Naming.{AreLower, BeginsWithin, EndsWithin, HidesNode, NodeFault, FirstOrFault, AloneOrFault, RootFault}
use Rattle.atproto_events.specs.declared.error.UndoError.{UndoError}
use Rattle.atproto_events.specs.declared.error.UndoError.TheVariants as error

-- ---- layers

lower_by : (n : ℕ) (p : PieceParts) (ps : List PieceParts) (b : Bool) → nat_lt p.layer n ≡ b → AreLower n (lower_pieces n ps) → AreLower n (if b then p ∷ lower_pieces n ps else [])
lower_by n p ps true q h = (ltb-true p.layer n q, h)
lower_by n p ps false q h = tt

pub lower_are_lower : (n : ℕ) (ps : List PieceParts) → AreLower n (lower_pieces n ps)
lower_are_lower n [] = tt
lower_are_lower n (p ∷ ps) = lower_by n p ps (nat_lt p.layer n) refl (lower_are_lower n ps)

upper_by : (m n : ℕ) (p : PieceParts) (ps : List PieceParts) (b : Bool) → AreLower m (upper_pieces n ps) → AreLower m (p ∷ ps) → AreLower m (if b then upper_pieces n ps else p ∷ ps)
upper_by m n p ps true h k = h
upper_by m n p ps false h k = k

pub upper_lower : (m n : ℕ) (ps : List PieceParts) → AreLower m ps → AreLower m (upper_pieces n ps)
upper_lower m n [] h = tt
upper_lower m n (p ∷ ps) h = upper_by m n p ps (nat_lt p.layer n) (upper_lower m n ps h.1) h

pub top_lower : (n : ℕ) (ps : List PieceParts) → top_piece ps ≤ n → AreLower (suc n) ps
top_lower n [] h = tt
top_lower n (p ∷ ps) h = (omega (arith, h), top_lower n ps (omega (arith, h)))

runs_by : (n : ℕ) (p : PieceParts) (ps : List PieceParts) (b : Bool) → ps ≡ lower_pieces n ps ++ upper_pieces n ps
    → p ∷ ps ≡ (if b then p ∷ lower_pieces n ps else []) ++ (if b then upper_pieces n ps else p ∷ ps)
runs_by n p ps true h = ap (λ x. p ∷ x) h
runs_by n p ps false h = refl

pub runs_whole : (n : ℕ) (ps : List PieceParts) → ps ≡ lower_pieces n ps ++ upper_pieces n ps
runs_whole n [] = refl
runs_whole n (p ∷ ps) = runs_by n p ps (nat_lt p.layer n) (runs_whole n ps)

-- ---- within more pieces

ends_more : (n : ℕ) (a : List PieceParts) (ps : List PieceParts) → EndsWithin n ps → EndsWithin n (a ++ ps)
ends_more n [] ps h = h
ends_more n (x ∷ []) [] h = absurd h
ends_more n (x ∷ []) (p ∷ ps) h = h
ends_more n (x ∷ (y ∷ a)) ps h = ends_more n (y ∷ a) ps h

begins_more : (n : ℕ) (ps b : List PieceParts) → BeginsWithin n ps → BeginsWithin n (ps ++ b)
begins_more n [] b h = absurd h
begins_more n (p ∷ ps) b h = h

beside_more : (n : ℕ) (a front rest b : List PieceParts) → EndsWithin n front ⊎ BeginsWithin n rest → EndsWithin n (a ++ front) ⊎ BeginsWithin n (rest ++ b)
beside_more n a front rest b (inl h) = inl (ends_more n a front h)
beside_more n a front rest b (inr h) = inr (begins_more n rest b h)

hides_more : (name : CidParts) (a ps b all : List PieceParts) → all ≡ a ++ (ps ++ b) → HidesNode name ps → HidesNode name all
hides_more name a ps b all whole h = record {
  front = a ++ h.front;
  layer = h.layer;
  rest = h.rest ++ b;
  is = whole ∙ ap (λ x. a ++ (x ++ b)) h.is ∙ ap (λ x. a ++ x) (append_assoc h.front (subtree_piece h.layer name ∷ h.rest) b) ∙ sym (append_assoc a h.front (subtree_piece h.layer name ∷ (h.rest ++ b)));
  beside = beside_more h.layer a h.front h.rest b h.beside;
}

pub fault_more : (a ps b all : List PieceParts) (e : UndoError) → all ≡ a ++ (ps ++ b) → NodeFault ps e → NodeFault all e
fault_more a ps b all error.OutOfMemory whole h = tt
fault_more a ps b all (error.MissingNode name) whole h = hides_more name a ps b all whole h
fault_more a ps b all _ whole h = absurd h

-- ---- one that stands first, or after others

ends_lower : (n : ℕ) (p : PieceParts) (ps : List PieceParts) → AreLower (suc n) (p ∷ ps) → EndsWithin n (p ∷ ps)
ends_lower n p [] h = omega (arith, h.0)
ends_lower n p (q ∷ ps) h = ends_lower n q ps h.1

missing_is : (all : List PieceParts) (e : UndoError) (name : CidParts) → e ≡ error.MissingNode name → HidesNode name all → NodeFault all e
missing_is all e name is h = subst (NodeFault all) (sym is) h

lower_front : (n : ℕ) (a b : List PieceParts) → AreLower n (a ++ b) → AreLower n a
lower_front n [] b h = tt
lower_front n (x ∷ a) b h = (h.0, lower_front n a b h.1)

lower_rest : (n : ℕ) (a b : List PieceParts) → AreLower n (a ++ b) → AreLower n b
lower_rest n [] b h = h
lower_rest n (x ∷ a) b h = lower_rest n a b h.1

-- a subtree of layer n comes after these
pub met_subtree : (n : ℕ) (all done rest : List PieceParts) (name : CidParts) → AreLower (suc n) all → all ≡ done ++ (subtree_piece n name ∷ rest) → FirstOrFault n all (error.MissingNode name)
met_subtree n all [] rest name low is = inr (name, rest, refl, is)
met_subtree n all (p ∷ done) rest name low is =
    inl record { front = p ∷ done; layer = n; rest = rest; is = is; beside = inl (ends_lower n p done (lower_front (suc n) (p ∷ done) (subtree_piece n name ∷ rest) (subst (AreLower (suc n)) is low))) }

-- of all pieces of a node, those of its layer begin with the subtree
pub all_or_alone : (n : ℕ) (all lower upper : List PieceParts) (e : UndoError) → AreLower (suc n) all → all ≡ lower ++ upper → FirstOrFault n upper e → AloneOrFault n all e
all_or_alone n all lower upper e low is (inl fault) = inl (fault_more lower upper [] all e (is ∙ ap (λ x. lower ++ x) (sym (append-nil upper))) fault)
all_or_alone n all [] upper e low is (inr (name, [], missing, first)) = inr (name, missing, is ∙ first)
all_or_alone n all [] upper e low is (inr (name, r ∷ rest, missing, first)) =
    inl (missing_is all e name missing record {
      front = [];
      layer = n;
      rest = r ∷ rest;
      is = is ∙ first;
      beside = let rest_low : AreLower (suc n) (subtree_piece n name ∷ (r ∷ rest)) = subst (AreLower (suc n)) (is ∙ first) low in inr (omega (arith, rest_low.1.0));
    })
all_or_alone n all (p ∷ lower) upper e low is (inr (name, rest, missing, first)) =
    inl (missing_is all e name missing record {
      front = p ∷ lower;
      layer = n;
      rest = rest;
      is = is ∙ ap (λ x. (p ∷ lower) ++ x) first;
      beside = inl (ends_lower n p lower (lower_front (suc n) (p ∷ lower) upper (subst (AreLower (suc n)) is low)));
    })

-- if it is not the only piece
pub not_alone : (n : ℕ) (ps : List PieceParts) (e : UndoError) → ((name : CidParts) → ps ≢ subtree_piece n name ∷ []) → AloneOrFault n ps e → NodeFault ps e
not_alone n ps e other (inl h) = h
not_alone n ps e other (inr (name, missing, is)) = absurd (other name is)

at_root : (ps : List PieceParts) (e : UndoError) → NodeFault ps e → RootFault ps e
at_root ps error.OutOfMemory h = tt
at_root ps (error.MissingNode name) h = inl h
at_root ps _ h = absurd h

pub root_fault : (n : ℕ) (ps : List PieceParts) (e : UndoError) → AloneOrFault n ps e → RootFault ps e
root_fault n ps e (inl h) = at_root ps e h
root_fault n ps e (inr (name, missing, is)) = subst (RootFault ps) (sym missing) (inr (n, is))

pub root_refused : (r : Result CidParts UndoError) (n : ℕ) (ps : List PieceParts) → IfErr r (AloneOrFault n ps) → IfErr r (RootFault ps)
root_refused (Ok x) n ps h = tt
root_refused (Err e) n ps h = root_fault n ps e h

pub memory_fault : (r : Result CidParts UndoError) (n : ℕ) (ps : List PieceParts) → IfErr r (λ e. e ≡ error.OutOfMemory) → IfErr r (AloneOrFault n ps)
memory_fault (Ok x) n ps h = tt
memory_fault (Err e) n ps h = inl (subst (NodeFault ps) (sym h) tt)

pub placed_top : (n : ℕ) (top : PieceParts) (rest : List PieceParts) → n ≤ top.layer → top.layer < suc n → top.key ≡ None → top ≡ subtree_piece n top.cid
placed_top n top rest le lt none = let layer : top.layer ≡ n = omega (arith, le, lt) in λ i. record { layer = layer i; key = none i; cid = top.cid }

pub lower_at : (n m : ℕ) (ps : List PieceParts) → n ≡ suc m → AreLower n ps → AreLower (suc m) ps
lower_at n m ps is h = subst (λ k. AreLower k ps) is h

pub whole_rest : (all done : List PieceParts) (top : PieceParts) (following below next : List PieceParts) → all ≡ done ++ (top ∷ following) → following ≡ below ++ next → all ≡ (done ++ (top ∷ [])) ++ (below ++ next)
whole_rest all done top following below next is split = is ∙ ap (λ x. done ++ (top ∷ x)) split ∙ sym (append_assoc done (top ∷ []) (below ++ next))

pub first_lower : (n : ℕ) (all done : List PieceParts) (top : PieceParts) (following : List PieceParts) → AreLower n all → all ≡ done ++ (top ∷ following) → top.layer < n
first_lower n all done top following low is = (lower_rest n done (top ∷ following) (subst (AreLower n) is low)).0
