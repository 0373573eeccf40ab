-- Roots that have no block.
use Rattle.std.proofs.Common.{◌≡◌, inl, inr, ℕ, ◌+◌, ◌<◌, List, [], ◌∷◌, ◌++◌, length, take, get_or, take-suc, add-one, refl, sym, ap, ◌∙◌, subst, Vec, Global, Result, Ok, Err, IfOk}
use Rattle.sqlite_trees.specs.Tree.{Trees}
use Rattle.sqlite_trees.specs.View.{View}
use Rattle.ipld_tree.specs.Cid.{CidParts}
use Rattle.store_on_disk.specs.RootRows.{LeavesOut}
use Rattle.store_on_disk.specs.Stored.{IsSame}
use Rattle.store_on_disk.specs.Roots.{HasRoots}
use Rattle.store_on_disk.specs.Collecting.{HasBlockAt}
use Rattle.program_dagstore.specs.Lacking.{AddsLacking, LeavesStored, ListsLacking}

left_push : {X : Type 0} (IsSo : X → Type 0) (old new : List X) (x : X) → LeavesOut IsSo old new → IsSo x → LeavesOut IsSo (old ++ x ∷ []) new
left_push IsSo [] new x h is = inl (is, h)
left_push IsSo (y ∷ old) new x (inl h) is = inl (h.0, left_push IsSo old new x h.1 is)
left_push IsSo (y ∷ old) new x (inr h) is = inr (h.0, (h.1.0, h.1.1, left_push IsSo old h.1.0 x h.1.2 is))

kept_push : {X : Type 0} (IsSo : X → Type 0) (old new : List X) (x : X) → LeavesOut IsSo old new → (IsSo x → ⊥) → LeavesOut IsSo (old ++ x ∷ []) (new ++ x ∷ [])
kept_push IsSo [] new x h not = inr (not, ([], ap (λ l. l ++ x ∷ []) h, refl))
kept_push IsSo (y ∷ old) new x (inl h) not = inl (h.0, kept_push IsSo old new x h.1 not)
kept_push IsSo (y ∷ old) new x (inr h) not = inr (h.0, (h.1.0 ++ x ∷ [], ap (λ l. l ++ x ∷ []) h.1.1, kept_push IsSo old h.1.0 x h.1.2 not))

longer : (names : List CidParts) (i : ℕ) (c : CidParts) → i < length names → c ≡ get_or names i c → take i names ++ c ∷ [] ≡ take (i + 1) names
longer names i c within is = ap (λ y. take i names ++ y ∷ []) is ∙ sym (take-suc names i c within) ∙ ap (λ n. take n names) (sym (add-one i))

pub left_next : (v : View) (names : List CidParts) (i : ℕ) (c : CidParts) (lacking : List CidParts) → i < length names → c ≡ get_or names i c → LeavesStored v (take i names) lacking → HasBlockAt v c → LeavesStored v (take (i + 1) names) lacking
left_next v names i c lacking within is h has = subst (λ ns. LeavesStored v ns lacking) (longer names i c within is) (left_push (HasBlockAt v) (take i names) lacking c h has)

pub kept_next : (v : View) (names : List CidParts) (i : ℕ) (c : CidParts) (lacking : List CidParts) → i < length names → c ≡ get_or names i c → LeavesStored v (take i names) lacking → (HasBlockAt v c → ⊥) → LeavesStored v (take (i + 1) names) (lacking ++ c ∷ [])
kept_next v names i c lacking within is h not = subst (λ ns. LeavesStored v ns (lacking ++ c ∷ [])) (longer names i c within is) (kept_push (HasBlockAt v) (take i names) lacking c h not)

pub left_same : (old mid : View) (names lacking : List CidParts) → IsSame old mid → LeavesStored mid names lacking → LeavesStored old names lacking
left_same old mid names lacking same h = subst (λ (t : Trees). LeavesStored (record old { trees = t }) names lacking) same.trees h

pub has_same : (old mid : View) (c : CidParts) → IsSame old mid → HasBlockAt mid c → HasBlockAt old c
has_same old mid c same h = subst (λ (t : Trees). HasBlockAt (record old { trees = t }) c) same.trees h

pub lacks_same : (old mid : View) (c : CidParts) → IsSame old mid → (HasBlockAt mid c → ⊥) → HasBlockAt old c → ⊥
lacks_same old mid c same h = subst (λ (t : Trees). HasBlockAt (record old { trees = t }) c → ⊥) same.trees h

pub adds_next : (v mid : View) (names : List CidParts) (i : ℕ) (c : CidParts) (old new : List CidParts) → IsSame v mid → i < length names → c ≡ get_or names i c → LeavesStored v (take i names) old → AddsLacking mid c old new → LeavesStored v (take (i + 1) names) new
adds_next v mid names i c old new same within is h (inl a) = subst (LeavesStored v (take (i + 1) names)) (sym a.1) (left_next v names i c old within is h (has_same v mid c same a.0))
adds_next v mid names i c old new same within is h (inr a) = subst (LeavesStored v (take (i + 1) names)) (sym a.1) (kept_next v names i c old within is h (lacks_same v mid c same a.0))

pub listed_lacking : {E : Type 0} (r : Result (Vec CidParts Global) E) (old mid : View) (names : List CidParts) (C : Type 0) → (C → HasRoots old names × IsSame old mid) → IfOk r (λ v. C → LeavesStored mid names v.items) → IfOk r (λ v. C → ListsLacking old v.items)
listed_lacking (Ok v) old mid names C was h = λ clean. let k = was clean in (names, k.0, left_same old mid names v.items k.1 (h clean))
listed_lacking (Err e) old mid names C was h = tt
