-- A store that holds nothing lacks nothing.
use Rattle.std.proofs.Common.{◌≡◌, ℕ, List, [], ◌∷◌, length, map, Result, Ok, Err, Vec, refl, sym, ap, subst, arith, rules, ◌≢◌, OnErr, Global}
use Rattle.std.specs.List.Sorted.{IsStrictlySortedBy}
use Rattle.serde_ipld_dagcbor.specs.Cid.{CidParts, cid_cmp}
use Rattle.serde_ipld_dagcbor.specs.Walks.{forms}
use Rattle.ipld_links.specs.Sets.{Among}
use Rattle.dagcbor_blocks.specs.Blocks.{Held, ListsUnheld}
use Rattle.dagcbor_blocks.specs.declared.error.BlockError.{BlockError}

none_of : {A : Type 0} (xs : List A) → length xs ≡ 0 → xs ≡ []
none_of [] e = refl
none_of (x ∷ xs) e = absurd (omega (arith, e))

-- no block is held, and no link is listed
pub nothing_missing : {A : Type 0} (shown : A → CidParts × List ℕ) (entries : List A) (v : Vec CidParts Global) → length entries ≡ 0 → v.items ≡ [] → ListsUnheld (map shown entries) (Ok v)
unfolding IsStrictlySortedBy
nothing_missing shown entries v none empty =
    let P : Held → Type 0 = λ held. ListsUnheld held (Ok v) in
    let sorted = subst (IsStrictlySortedBy cid_cmp) (sym empty) (search rules) in
    subst P (sym (ap (map shown) (none_of entries none))) (sorted, λ form. (λ m. absurd (subst (λ xs. Among form (forms xs)) empty m), λ l. absurd l.0.2))

-- a refusal comes only if some block is stored
pub some_held : {A B C : Type 0} (shown : A → B) (entries : List A) (r : Result C BlockError) → (length entries ≡ 0 → ⊥) → OnErr r (map shown entries ≢ [])
some_held shown entries (Ok v) some = tt
some_held shown [] (Err e) some = absurd (some refl)
some_held shown (x ∷ xs) (Err e) some = λ none. cc none
