-- Blocks that are kept and handed out as bytes.
use Rattle.std.proofs.Common.{◌≡◌, ◌≢◌, ℕ, List, [], ◌∷◌, ◌++◌, map, append_assoc, append-nil, Bool, true, false, cond, refl, sym, ap, ◌∙◌, subst, Option, None, Some, is_some, option_map, Vec, Global, BTreeMap}
use Rattle.std.specs.List.{AllByRecursion}
use Rattle.std.specs.Map.{remove_entry, lookup, keys_of}
use Rattle.std.specs.List.Sorted.{IsStrictlySortedBy}
use Rattle.std.specs.BTreeMap.{is_at, get, UpdatesBy}
use Rattle.std.proofs.Math.Logic.{∥∥₁_map}
use Rattle.serde_ipld_dagcbor.specs.Cid.{CidParts, cid_cmp}
use Rattle.serde_ipld_dagcbor.specs.CidHash.{same_cid, is_equal}
use Rattle.dagcbor_blocks.specs.Sound.{IsSoundEntry}
use Rattle.dagcbor_blocks.specs.Blocks.{block_at}
use Rattle.dagcbor_blocks.specs.Bytes.{HoldsOthers, is_held}
use Rattle.ipld_links.proofs.Members.{same_at}
use Rattle.dagcbor_blocks.proofs.Keeping.{BlockEntry, items_of_vec, shown, block_at_shown}

-- ---- letting go

sound_removed : (test : CidParts → Bool) (es : List BlockEntry) → AllByRecursion IsSoundEntry es → AllByRecursion IsSoundEntry (remove_entry test es)
sound_removed test [] h = tt
sound_removed test (e ∷ es) h = by (test e.0) (sound_removed test es h.1)
  where
    by : (b : Bool) → AllByRecursion IsSoundEntry (remove_entry test es) → AllByRecursion IsSoundEntry (cond b es (e ∷ remove_entry test es))
    by true r = h.1
    by false r = (h.0, r)

pub still_sound_without : (test : CidParts → Bool) (es fs : List BlockEntry) → fs ≡ remove_entry test es → ∥ AllByRecursion IsSoundEntry es ∥₁ → ∥ AllByRecursion IsSoundEntry fs ∥₁
still_sound_without test es fs is h = ∥∥₁_map h (λ s. subst (AllByRecursion IsSoundEntry) (sym is) (sound_removed test es s))

pub held_of : (name : CidParts) (es : List BlockEntry) → is_some (lookup (is_at (cid_cmp name)) es) ≡ is_held name (shown es)
held_of name es = by (lookup (is_at (cid_cmp name)) es) ∙ ap is_some (sym (block_at_shown name es))
  where
    by : (o : Option (Vec ℕ Global)) → is_some o ≡ is_some (option_map items_of_vec o)
    by None = refl
    by (Some v) = refl

pub others_held : (m n : BTreeMap CidParts (Vec ℕ Global)) (name : CidParts) → UpdatesBy cid_cmp (cid_cmp name) m n None → HoldsOthers name (shown m.entries) (shown n.entries)
others_held m n name updates q b = (λ e. there (is_at (cid_cmp name) q) refl (sym (now q) ∙ e), λ k. now q ∙ back (is_at (cid_cmp name) q) refl k.0 k.1)
  where
    by : (q : CidParts) (t : Bool) → option_map items_of_vec (cond t None (get cid_cmp m q)) ≡ cond t None (option_map items_of_vec (get cid_cmp m q))
    by q true = refl
    by q false = refl

    now : (q : CidParts) → block_at q (shown n.entries) ≡ cond (is_at (cid_cmp name) q) None (block_at q (shown m.entries))
    now q = block_at_shown q n.entries ∙ ap (option_map items_of_vec) (updates.0 q) ∙ by q (is_at (cid_cmp name) q) ∙ ap (λ o. cond (is_at (cid_cmp name) q) None o) (sym (block_at_shown q m.entries))

    there : (t : Bool) → is_at (cid_cmp name) q ≡ t → cond t None (block_at q (shown m.entries)) ≡ Some b → (q ≡ name → ⊥) × (block_at q (shown m.entries) ≡ Some b)
    there true t e = absurd (cc e)
    there false t e = (λ same. let clash = sym t ∙ same_at name q (sym same) in absurd (cc clash), e)

    back : (t : Bool) → is_at (cid_cmp name) q ≡ t → (q ≡ name → ⊥) → block_at q (shown m.entries) ≡ Some b → cond t None (block_at q (shown m.entries)) ≡ Some b
    back true t other e = absurd (other (sym (same_cid name q (is_equal (cid_cmp name q) t))))
    back false t other e = e

-- ---- the names

-- the first of these entries were listed, and the rest is left
pub record NamesSoFar (entries rest : List BlockEntry) (names : List CidParts) : Type 0 where
  pub seen : List BlockEntry
  pub all : entries ≡ seen ++ rest
  pub listed : names ≡ map (λ e. e.0) (shown seen)

names_push : (es : List BlockEntry) (e : BlockEntry) → map (λ x. x.0) (shown (es ++ e ∷ [])) ≡ map (λ x. x.0) (shown es) ++ e.0 ∷ []
names_push [] e = refl
names_push (x ∷ es) e = ap (λ more. x.0 ∷ more) (names_push es e)

pub names_more : (entries before rest : List BlockEntry) (e : BlockEntry) (names more : List CidParts) → before ≡ e ∷ rest → NamesSoFar entries before names → more ≡ names ++ e.0 ∷ [] → NamesSoFar entries rest more
names_more entries before rest e names more is h put = record {
  seen = h.seen ++ e ∷ [];
  all = h.all ∙ ap (λ l. h.seen ++ l) is ∙ sym (append_assoc h.seen (e ∷ []) rest);
  listed = put ∙ ap (λ ns. ns ++ e.0 ∷ []) h.listed ∙ sym (names_push h.seen e);
}

same_keys : (es : List BlockEntry) → map (λ e. e.0) (shown es) ≡ keys_of es
same_keys [] = refl
same_keys (e ∷ es) = ap (λ more. e.0 ∷ more) (same_keys es)

pub names_listed : (entries rest : List BlockEntry) (names : List CidParts) → rest ≡ [] → NamesSoFar entries rest names → IsStrictlySortedBy cid_cmp (keys_of entries) → (names ≡ map (λ e. e.0) (shown entries)) × IsStrictlySortedBy cid_cmp names
names_listed entries rest names end h sorted =
    let whole : entries ≡ h.seen = h.all ∙ ap (λ r. h.seen ++ r) end ∙ append-nil h.seen in
    let listed : names ≡ map (λ e. e.0) (shown entries) = h.listed ∙ ap (λ es. map (λ (e : CidParts × List ℕ). e.0) (shown es)) (sym whole) in
    (listed, subst (IsStrictlySortedBy cid_cmp) (sym (listed ∙ same_keys entries)) sorted)

some_held : (seen rest : List BlockEntry) (e : BlockEntry) → shown (seen ++ e ∷ rest) ≢ []
some_held [] rest e none = cc none
some_held (x ∷ seen) rest e none = cc none

pub another_held : (entries before rest : List BlockEntry) (e : BlockEntry) (names : List CidParts) → before ≡ e ∷ rest → NamesSoFar entries before names → shown entries ≢ []
another_held entries before rest e names is h none =
    some_held h.seen rest e (sym (ap shown (h.all ∙ ap (λ l. h.seen ++ l) is)) ∙ none)
