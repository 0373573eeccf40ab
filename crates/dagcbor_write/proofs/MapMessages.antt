-- Why a map in memory is refused with a message.
use Rattle.std.proofs.Common.{◌≡◌, ℕ, suc, ◌<◌, List, [], ◌∷◌, ◌++◌, length, get_or, map, Option, None, Some, Bool, true, false, ◌||◌, is_none, IsTrue, Result, inl, inr, refl, sym, ap, ap₂, ◌∙◌, subst, arith, add-one, codes, IfErr, IsSomeAnd, Any, IsErrAnd}
use Rattle.std.specs.List.{list_any}
use Rattle.std.specs.Map.{keys_of}
use Rattle.std.proofs.lemmas.List.Folds.{list_any_at, Any-from_list_any}
use Rattle.std.proofs.lemmas.List.Sorted.{list_any-IsPermutation, IsPermutation-map}
use Rattle.std.proofs.lemmas.Map.Keys.{IsDistinct-IsPermutation}
use Rattle.dagcbor_core.specs.declared.error.EncodeError.{EncodeError}
use Rattle.dagcbor_core.specs.declared.error.EncodeError.TheVariants.{Msg}
use Rattle.dagcbor_core.specs.Messages.{message_bytes}
use Rattle.dagcbor_heads.specs.Written.{Written, Stops}
use Rattle.ipld_tree.specs.Tree.{Tree, null, text, pair_of, all_some, repeats_key}
use Rattle.ipld_tree.specs.Spelled.{spelled, spelled_tree}
use Rattle.ipld_tree.proofs.Ordered.{AreDistinct, same_place, same_place_flips}
use Rattle.dagcbor_write.specs.Answers.{OnMessage, IsMessage}
use Rattle.dagcbor_write.specs.Gathering.{Refused}
use Rattle.dagcbor_write.specs.Keyed.{PutsKeysInOrder, lacks_value, RefusesKeyedValue}
use Rattle.dagcbor_write.specs.Maps.{spelled_key, IsKeyMessage, RefusesAnyKey, RepeatsKey, LacksValue, RefusesMap, RefusesEntries, keys_alone}
use Rattle.dagcbor_write.specs.Pairwise.{Pairwise}
use Rattle.dagcbor_write.specs.Trees.{Pair}
use Rattle.dagcbor_write.proofs.Fields.{Given-but}
use Rattle.dagcbor_write.proofs.KeyOrder.{IsKeyedBy}
use Rattle.dagcbor_write.proofs.Mapping.{beside, BeginsWithName, clash, repeats}
use Rattle.dagcbor_write.proofs.Messages.{exit_message, message_tells}
use Rattle.dagcbor_write.proofs.Walks.{Named}

-- ---- a key

any_in : (P : Pair → Type 0) (done left : List Pair) (p : Pair) → P p → Any P (done ++ p ∷ left)
any_in P [] left p h = (0, p, omega arith, refl, h)
any_in P (q ∷ done) left p h = let l = any_in P done left p h in (suc l.0, l.1, omega (arith, l.2), l.3, l.4)

-- the exit of a `?` at a key
pub key_message : {T E X Writer : Type 0} {R : Pair → X → Type 0} {whole left : List Pair} {p : Pair} {held : List X} {s t : Writer} → Given-but R whole (p ∷ left) held → (r : Result T (EncodeError E)) (e : EncodeError E)
    → Refused (IsKeyMessage p.0) e → IsErrAnd r (λ d. d ≡ e) → t ≡ s → IfErr r (OnMessage (RefusesMap s t whole))
key_message {T} {E} {X} {Writer} {R} {whole} {left} {p} {held} {s} {t} w r e h is same = exit_message (RefusesMap s t whole) r e is (by e h)
  where
    by : (e : EncodeError E) → Refused (IsKeyMessage p.0) e → OnMessage (RefusesMap s t whole) e
    by (Msg m) h = let P : List Pair → Type 0 = λ ps. RefusesAnyKey ps (message_bytes m) in inl (inl (subst P (sym w.split) (any_in (λ q. IsKeyMessage q.0 (message_bytes m)) w.done left p h)), same)
    by _ h = tt

-- what the message is, whatever the writer holds
pub entries_told : {T E Writer : Type 0} (s t : Writer) (ps : List Pair) (r : Result T (EncodeError E)) → IfErr r (OnMessage (RefusesMap s t ps)) → IfErr r (OnMessage (RefusesEntries ps))
entries_told s t ps r h = message_tells (RefusesMap s t ps) (RefusesEntries ps) r (λ m k. elim k [ inl a ↦ inl a.0 | inr b ↦ inr b ]) h

-- ---- a key that is there twice

one_named : (o : Option Tree) (s : List ℕ) → spelled_key o ≡ Some s → (n : Named) × (pair_of (o, Some null) ≡ Some n) × (spelled (text n.0) ≡ Some s)
one_named None s e = cc
one_named (Some (text k)) s e = ((k, null), refl, e)
one_named (Some _) s e = cc

module _ {A : Type 0} (tree : A → Option Tree) where
  named : (ps : List Pair) (es : List (List ℕ × A)) → Pairwise (IsKeyedBy tree) ps es → (ns : List Named) × (all_some (map pair_of (keys_alone ps)) ≡ Some ns) × Pairwise BeginsWithName ns es
  named [] [] w = ([], refl, tt)
  named [] (e ∷ es) w = absurd w
  named (p ∷ ps) [] w = absurd w
  named (p ∷ ps) (e ∷ es) w =
      let one = one_named p.0 e.0 w.0.key in
      let more = named ps es w.1 in
      (one.0 ∷ more.0, rw (one.1, more.1) refl, (one.2, more.2))

  twice : (ps : List Pair) (es fs : List (List ℕ × A)) → Pairwise (IsKeyedBy tree) ps es → PutsKeysInOrder es fs false → RepeatsKey (keys_alone ps)
  twice ps es fs w o =
      let given = named ps es w in
      let moved = beside BeginsWithName given.0 es fs o.0 given.2 in
      let apart : AreDistinct given.0 → ⊥ = λ d. clash moved.0 fs o.2.0 moved.2 (omega (arith, o.2.1)) (λ e. rw add-one at (o.2.2 e))
      (IsDistinct-IsPermutation same_place same_place_flips (keys_of given.0) (keys_of moved.0) (IsPermutation-map (λ p. p.0) given.0 moved.0 moved.1) d) in
      let again = repeats (repeats_key given.0) given.0 refl apart in
      let P : Option (List Named) → Type 0 = λ o. IsSomeAnd o (λ ns. IsTrue (repeats_key ns)) in
      subst P (sym given.1) (search again)

  pub keyed_twice : (ps : List Pair) (es fs : List (List ℕ × A)) (b : Bool) → Pairwise (IsKeyedBy tree) ps es → PutsKeysInOrder es fs b → b ≡ false → RepeatsKey (keys_alone ps)
  keyed_twice ps es fs b w o e = twice ps es fs w (subst (λ x. PutsKeysInOrder es fs x) e o)

  -- ---- a value

  abbrev pair_lacks : Pair → Bool
  pair_lacks p = is_none (spelled_tree p.1)

  lack_alike : (ps : List Pair) (es : List (List ℕ × A)) → Pairwise (IsKeyedBy tree) ps es → list_any pair_lacks ps ≡ list_any (lacks_value tree) es
  lack_alike [] [] w = refl
  lack_alike (p ∷ ps) (e ∷ es) w = ap₂ (λ a b. a || b) (ap (λ v. is_none (spelled_tree v)) w.0.value) (lack_alike ps es w.1)
  lack_alike _ _ w = absurd w

  none_of : (o : Option (List ℕ)) → is_none o ≡ true → o ≡ None
  none_of None e = refl
  none_of (Some s) e = cc

  pub keyed_lacks : (ps : List Pair) (es fs : List (List ℕ × A)) (b : Bool) → Pairwise (IsKeyedBy tree) ps es → PutsKeysInOrder es fs b → IsTrue (list_any (lacks_value tree) fs) → LacksValue ps
  keyed_lacks ps es fs b w o h =
      let found = Any-from_list_any pair_lacks ps (lack_alike ps es w ∙ list_any-IsPermutation (lacks_value tree) es fs o.0 ∙ search h) in
      (found.0, found.1, found.2, found.3, none_of _ found.4)

  -- the value in place i was refused
  pub value_message : {T E : Type 0} (es : List (List ℕ × A)) (i : ℕ) (value : A) → i < length es → ((d : List ℕ × A) → value ≡ (get_or es i d).1) → (old new : Written) (r : Result T (EncodeError E)) (e : EncodeError E) → IsErrAnd r (λ d. d ≡ e) → IsMessage (codes "Struct value cannot be serialized.") e
      → Stops (spelled_tree (tree value)) old new e → IfErr r (OnMessage (RefusesKeyedValue tree es))
  value_message {T} {E} es i value inside is old new r e exit said stops = exit_message (RefusesKeyedValue tree es) r e exit (by e said stops)
    where
      by : (e : EncodeError E) → IsMessage (codes "Struct value cannot be serialized.") e → Stops (spelled_tree (tree value)) old new e → OnMessage (RefusesKeyedValue tree es) e
      by (Msg m) said stops =
          let d : List ℕ × A = ([], value) in
          let none : is_none (spelled_tree (tree (get_or es i d).1)) ≡ true = ap (λ v. is_none (spelled_tree (tree v))) (sym (is d)) ∙ ap is_none stops.0 in
          (said, search (list_any_at (lacks_value tree) es i d inside none))
      by _ said stops = tt
