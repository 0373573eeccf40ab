-- The nodes over pieces, part by part.
use Rattle.std.proofs.Common.{◌≡◌, ◌≢◌, inl, inr, ℕ, suc, ◌<◌, ◌≤◌, Bool, true, false, List, [], ◌∷◌, ◌++◌, map, length, take, drop, Option, Some, refl, sym, ap, ◌∙◌, subst, arith, ltb-true, ltb-false, append_assoc, append-nil, Result, Ok, Err, IfOk}
use Rattle.std.specs.Prelude.{if◌then◌else◌, nat_lt, ◌==◌}
use Rattle.std.proofs.lemmas.List.{map-append}
use Rattle.std.proofs.lemmas.Bool.{eqb-false}
use Rattle.ipld_tree.specs.Cid.{CidParts}
use Rattle.ipld_tree.specs.Tree.{Tree}
use Rattle.ipld_tree.specs.Spelling.{spelling}
use Rattle.ipld_links.specs.Names.{block_name}
use Rattle.atproto_mst.specs.Trees.{leaf_of, entry_tree, node_map}
use Rattle.atproto_mst.specs.Nodes.{tree_of_row, row_told}
use Rattle.atproto_events.specs.Pieces.{PieceParts, piece_of, pieces, subtree_piece, lower_pieces, upper_pieces, top_piece}
use Rattle.atproto_events.specs.Naming.{NamesRows, NamesOver, NamesBelow, NamesRoot}
use Rattle.atproto_events.specs.declared.error.UndoError.{UndoError}
use Rattle.atproto_events.specs.declared.pieces.Piece.{Piece}
use Rattle.types_repository.specs.declared.repository.Entry.{Entry as Row}

-- ---- runs of lower pieces

taken_by : (n : ℕ) (p : Piece) (ps : List Piece) (b : Bool) → pieces (take (length (lower_pieces n (pieces ps))) ps) ≡ lower_pieces n (pieces ps)
    → pieces (take (length (if b then piece_of p ∷ lower_pieces n (pieces ps) else [])) (p ∷ ps)) ≡ (if b then piece_of p ∷ lower_pieces n (pieces ps) else [])
taken_by n p ps true ih = ap (λ t. piece_of p ∷ t) ih
taken_by n p ps false ih = refl

lower_taken : (n : ℕ) (ps : List Piece) → pieces (take (length (lower_pieces n (pieces ps))) ps) ≡ lower_pieces n (pieces ps)
lower_taken n [] = refl
lower_taken n (p ∷ ps) = taken_by n p ps (nat_lt p.layer n) (lower_taken n ps)

dropped_by : (n : ℕ) (p : Piece) (ps : List Piece) (b : Bool) → pieces (drop (length (lower_pieces n (pieces ps))) ps) ≡ upper_pieces n (pieces ps)
    → pieces (drop (length (if b then piece_of p ∷ lower_pieces n (pieces ps) else [])) (p ∷ ps)) ≡ (if b then upper_pieces n (pieces ps) else piece_of p ∷ pieces ps)
dropped_by n p ps true ih = ih
dropped_by n p ps false ih = refl

upper_dropped : (n : ℕ) (ps : List Piece) → pieces (drop (length (lower_pieces n (pieces ps))) ps) ≡ upper_pieces n (pieces ps)
upper_dropped n [] = refl
upper_dropped n (p ∷ ps) = dropped_by n p ps (nat_lt p.layer n) (upper_dropped n ps)

pub split_at_lower : (n k : ℕ) (ps xs : List Piece) → k ≡ length (lower_pieces n (pieces ps)) → xs ≡ take k ps → pieces xs ≡ lower_pieces n (pieces ps)
split_at_lower n k ps xs e is = ap pieces is ∙ ap (λ j. pieces (take j ps)) e ∙ lower_taken n ps

pub split_at_upper : (n k : ℕ) (ps xs : List Piece) → k ≡ length (lower_pieces n (pieces ps)) → xs ≡ drop k ps → pieces xs ≡ upper_pieces n (pieces ps)
split_at_upper n k ps xs e is = ap pieces is ∙ ap (λ j. pieces (drop j ps)) e ∙ upper_dropped n ps

tops_by : (n : ℕ) (p : PieceParts) (ps : List PieceParts) (b : Bool) → nat_lt p.layer n ≡ b → lower_pieces n (upper_pieces n ps) ≡ [] → lower_pieces n (if b then upper_pieces n ps else p ∷ ps) ≡ []
tops_by n p ps true q ih = ih
tops_by n p ps false q ih = ap (λ x. if x then p ∷ lower_pieces n ps else []) q

-- what follows the run begins with no lower piece
pub upper_tops : (n : ℕ) (ps : List PieceParts) → lower_pieces n (upper_pieces n ps) ≡ []
upper_tops n [] = refl
upper_tops n (p ∷ ps) = tops_by n p ps (nat_lt p.layer n) refl (upper_tops n ps)

top_by : (n : ℕ) (p : PieceParts) (ps : List PieceParts) (b : Bool) → nat_lt p.layer n ≡ b → (if b then p ∷ lower_pieces n ps else []) ≡ [] → n ≤ p.layer
top_by n p ps true q h = absurd (cc h)
top_by n p ps false q h = ltb-false p.layer n q

-- a piece that begins no run is not lower
pub is_top : (n : ℕ) (p : PieceParts) (ps : List PieceParts) → lower_pieces n (p ∷ ps) ≡ [] → n ≤ p.layer
is_top n p ps h = top_by n p ps (nat_lt p.layer n) refl h

-- ---- rows

skip_by : (N : List PieceParts → Option CidParts → Type 0) (n : ℕ) (previous : List ℕ) (p : PieceParts) (ps : List PieceParts) (ts : List Tree) (b : Bool) → nat_lt p.layer n ≡ b
    → (NamesRows N n previous (upper_pieces n ps) ts → NamesRows N n previous ps ts)
    → NamesRows N n previous (if b then upper_pieces n ps else p ∷ ps) ts → NamesRows N n previous (p ∷ ps) ts
skip_by N n previous p ps ts true q ih h = inl (ltb-true p.layer n q, ih h)
skip_by N n previous p ps ts false q ih h = h

-- the rows after the run are those of all
pub rows_skip : (N : List PieceParts → Option CidParts → Type 0) (n : ℕ) (previous : List ℕ) (ps : List PieceParts) (ts : List Tree) → NamesRows N n previous (upper_pieces n ps) ts → NamesRows N n previous ps ts
rows_skip N n previous [] ts h = h
rows_skip N n previous (p ∷ ps) ts h = skip_by N n previous p ps ts (nat_lt p.layer n) refl (rows_skip N n previous ps ts) h

-- the rows of the pieces that are left come after those that are made
abbrev pub RowsGoOn : ℕ → List PieceParts → List ℕ → List PieceParts → List Row → Type 0
RowsGoOn n all previous ps rows = (ts : List Tree) → NamesRows (NamesBelow n) n previous ps ts → NamesRows (NamesBelow n) n [] all (map tree_of_row (map row_told rows) ++ ts)

pub rows_begin : (n : ℕ) (all : List PieceParts) → RowsGoOn n all [] all []
rows_begin n all ts h = h

pub rows_end : (n : ℕ) (all ps : List PieceParts) (previous : List ℕ) (rows : List Row) → ps ≡ [] → RowsGoOn n all previous ps rows → NamesRows (NamesBelow n) n [] all (map tree_of_row (map row_told rows))
rows_end n all ps previous rows none h =
    subst (NamesRows (NamesBelow n) n [] all) (append-nil (map tree_of_row (map row_told rows))) (h [] (subst (λ x. NamesRows (NamesBelow n) n previous x []) (sym none) refl))

pub rows_next : (n : ℕ) (all : List PieceParts) (top : PieceParts) (following below next : List PieceParts) (key previous : List ℕ) (after : Option CidParts) (rows : List Row) (row : Row)
    → lower_pieces n (top ∷ following) ≡ [] → top.key ≡ Some key → below ≡ lower_pieces n following → next ≡ upper_pieces n following → NamesBelow n below after
    → tree_of_row (row_told row) ≡ entry_tree previous (leaf_of (key, top.cid)) after
    → RowsGoOn n all previous (top ∷ following) rows → RowsGoOn n all key next (rows ++ (row ∷ []))
rows_next n all top following below next key previous after rows row tops is lower upper named made h ts more =
    let here : NamesRows (NamesBelow n) n previous (top ∷ following) (tree_of_row (row_told row) ∷ ts) =
    inr (is_top n top following tops, (key, after, ts, is, subst (λ x. NamesBelow n x after) lower named, rows_skip (NamesBelow n) n key following ts (subst (λ x. NamesRows (NamesBelow n) n key x ts) upper more), ap (λ t. t ∷ ts) made)) in
    subst (NamesRows (NamesBelow n) n [] all)
    (sym (ap (λ m. m ++ ts) (ap (map tree_of_row) (map-append row_told rows (row ∷ [])) ∙ map-append tree_of_row (map row_told rows) (row_told row ∷ []))
    ∙ append_assoc (map tree_of_row (map row_told rows)) (tree_of_row (row_told row) ∷ []) ts))
    (h (tree_of_row (row_told row) ∷ ts) here)

-- ---- nodes

pub node_made : (n : ℕ) (all lower rest : List PieceParts) (left : Option CidParts) (ts : List Tree) → lower ≡ lower_pieces n all → rest ≡ upper_pieces n all → NamesBelow n lower left
    → NamesRows (NamesBelow n) n [] rest ts → NamesOver (NamesBelow n) n all (node_map ts left)
node_made n all lower rest left ts l r named rows =
    (left, ts, subst (λ x. NamesBelow n x left) l named, rows_skip (NamesBelow n) n [] all ts (subst (λ x. NamesRows (NamesBelow n) n [] x ts) r rows), refl)

pub lone_named : (n m : ℕ) (ps : List PieceParts) (name : CidParts) → n ≡ suc m → ps ≡ subtree_piece m name ∷ [] → NamesBelow n ps (Some name)
lone_named n m ps name is lone =
    subst (λ k. NamesBelow k ps (Some name)) (sym is) (subst (λ x. NamesBelow (suc m) x (Some name)) (sym lone) (inl (refl, refl, refl, refl)))

some_named : (m : ℕ) (ps : List PieceParts) (name : CidParts) → ps ≢ [] → ((t : Tree) × NamesOver (NamesBelow m) m ps t × (name ≡ block_name (spelling t))) → NamesBelow (suc m) ps (Some name)
some_named m [] name some h = absurd (some refl)
some_named m (p ∷ ps) name some (t, over, is) = inr (t, over, ap Some is)

pub node_named : (n m : ℕ) (ps : List PieceParts) (name : CidParts) → n ≡ suc m → ps ≢ [] → ((t : Tree) × NamesOver (NamesBelow m) m ps t × (name ≡ block_name (spelling t))) → NamesBelow n ps (Some name)
node_named n m ps name is some h = subst (λ k. NamesBelow k ps (Some name)) (sym is) (some_named m ps name some h)

pub over_named : (r : Result CidParts UndoError) (n : ℕ) (ps : List PieceParts) (t : Tree) → NamesOver (NamesBelow n) n ps t → IfOk r (λ name. name ≡ block_name (spelling t))
    → IfOk r (λ name. (t : Tree) × NamesOver (NamesBelow n) n ps t × (name ≡ block_name (spelling t)))
over_named (Ok name) n ps t over is = (t, over, is)
over_named (Err e) n ps t over is = tt

pub root_named : (r : Result CidParts UndoError) (n : ℕ) (ps : List PieceParts) → n ≡ top_piece ps → IfOk r (λ name. (t : Tree) × NamesOver (NamesBelow n) n ps t × (name ≡ block_name (spelling t)))
    → IfOk r (NamesRoot ps)
root_named (Ok name) n ps is h = subst (λ k. (t : Tree) × NamesOver (NamesBelow k) k ps t × (name ≡ block_name (spelling t))) is h
root_named (Err e) n ps is h = tt

-- ---- slices with pieces, and without

pub some_pieces : (ps : List Piece) (b : Bool) → b ≡ false → b ≡ (length ps == 0) → pieces ps ≢ []
some_pieces [] b h e none = absurd (eqb-false (length {A = Piece} []) 0 (sym e ∙ h) refl)
some_pieces (p ∷ ps) b h e none = cc none

pub no_pieces : (ps : List Piece) → (0 < length ps → ⊥) → pieces ps ≡ []
no_pieces [] h = refl
no_pieces (p ∷ ps) h = absurd (h (omega arith))
