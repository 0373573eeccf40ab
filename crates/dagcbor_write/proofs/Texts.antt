-- Entries of a map whose keys are texts.
use Rattle.std.proofs.Common.{◌≡◌, ℕ, List, [], ◌∷◌, ◌++◌, length, map, Option, Some, String, Global, string_bytes, refl, sym, ap, ap₂, ◌∙◌, subst, append_assoc, IsPermutation, IfSome, OnOk, Result}
use Rattle.std.proofs.lemmas.List.{length-map}
use Rattle.std.proofs.lemmas.List.Sorted.{IsPermutation-map}
use Rattle.dagcbor_core.specs.declared.error.EncodeError.{EncodeError}
use Rattle.std.specs.Fmt.{◌++?◌}
use Rattle.dagcbor_heads.specs.Written.{Written, Writes}
use Rattle.dagcbor_heads.proofs.Writing.{Written-but, begin_writing}
use Rattle.ipld_tree.specs.Tree.{Tree, text, IsTree, entries_tree}
use Rattle.ipld_tree.specs.Spelled.{spelled_tree, spelled_head}
use Rattle.dagcbor_write.specs.declared.types.texts.TextEntry.{TextEntry}
use Rattle.dagcbor_write.specs.Rows.{spelled_pair, ArePairs, Rises}
use Rattle.dagcbor_write.specs.Texts.{text_pair, text_pairs, map_pairs}
use Rattle.dagcbor_write.specs.Trees.{Pair}
use Rattle.dagcbor_write.proofs.Mapping.{row_map}
use Rattle.dagcbor_write.proofs.PlaceOrder.{pairs_joined}
use Rattle.dagcbor_write.proofs.Walks.{same_map}

map_joined : {A B : Type 0} (f : A → B) (xs : List A) (y : A) → map f (xs ++ y ∷ []) ≡ map f xs ++ f y ∷ []
map_joined f [] y = refl
map_joined f (x ∷ xs) y = ap (λ ys. f x ∷ ys) (map_joined f xs y)

-- the entries that were listed of a map, when some are left
abbrev pub Listed-but : {V : Type 0} → List (String Global × V) → List (String Global × V) → List (TextEntry V) → Type 0
Listed-but {V} all left row = (done : List (String Global × V)) × (all ≡ done ++ left)
    × ((tree : V → Option Tree) → text_pairs tree row ≡ map_pairs tree done)

module _ {V : Type 0} where
  pub next_listed : (e : String Global × V) (x : TextEntry V) (all left more : List (String Global × V)) (row new : List (TextEntry V))
      → left ≡ e ∷ more → x.key.now ≡ string_bytes e.0 → x.value.now ≡ e.1 → new ≡ row ++ x ∷ []
      → Listed-but all left row → Listed-but all more new
  next_listed e x all left more row new is key value put h = (
    h.0 ++ e ∷ [],
    h.1 ∙ ap (λ es. h.0 ++ es) is ∙ sym (append_assoc h.0 (e ∷ []) more),
    λ tree.
        let pair : Pair = (Some (text (string_bytes e.0)), tree e.1) in
        ap (text_pairs tree) put
        ∙ map_joined (text_pair tree) row x
        ∙ ap₂ (λ ps p. ps ++ p ∷ []) (h.2 tree) (ap₂ (λ k v. (Some (text k), tree v)) key value)
        ∙ sym (map_joined (λ f. (Some (text (string_bytes f.0)), tree f.1)) h.0 e),
  )

  -- ---- a row that is written

  module _ (tree : V → Option Tree) (row : List (TextEntry V)) where
    pub begin_row : (n : ℕ) (s : Written) → n ≡ length row → Rises (text_pairs tree row)
        → Written-but (spelled_tree (entries_tree (text_pairs tree row))) (spelled_head 5 n ∷ map spelled_pair (text_pairs tree row)) s s
    begin_row n s count rise =
        let whole = row_map (text_pairs tree row) n (count ∙ sym (length-map row (text_pair tree))) rise in
        begin_writing _ _ s (whole.0 ∙ ap (λ x. spelled_head 5 n ++? x) (pairs_joined (text_pairs tree row)))

    pub row_good : Rises (text_pairs tree row) → ArePairs (text_pairs tree row) → IfSome (entries_tree (text_pairs tree row)) IsTree
    row_good rise good = (row_map (text_pairs tree row) (length (text_pairs tree row)) refl rise).1 good

-- ---- pairs in another order

pub Writes_moved : {T E : Type 0} (ps qs : List Pair) (s t : Written) (r : Result T (EncodeError E)) → IsPermutation ps qs → Writes (spelled_tree (entries_tree qs)) s t r → Writes (spelled_tree (entries_tree ps)) s t r
Writes_moved {T} {E} ps qs s t r moved w = let P : Option Tree → Type 0 = λ x. Writes (spelled_tree x) s t r in subst P (sym (same_map ps qs moved)) w

pub good_moved : {T E : Type 0} (ps qs : List Pair) (r : Result T E) → IsPermutation ps qs → OnOk r (IfSome (entries_tree qs) IsTree) → OnOk r (IfSome (entries_tree ps) IsTree)
good_moved {T} {E} ps qs r moved w = let P : Option Tree → Type 0 = λ x. OnOk r (IfSome x IsTree) in subst P (sym (same_map ps qs moved)) w

pub listed_moved : {V : Type 0} (tree : V → Option Tree) (ps : List Pair) (row new : List (TextEntry V)) → text_pairs tree row ≡ ps → IsPermutation row new → IsPermutation ps (text_pairs tree new)
listed_moved tree ps row new is moved = let P : List Pair → Type 0 = λ qs. IsPermutation qs (text_pairs tree new) in subst P is (IsPermutation-map (text_pair tree) row new moved)
