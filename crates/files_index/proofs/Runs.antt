-- The first run of entries.
use Rattle.std.proofs.Common.{◌≡◌, ℕ, suc, ◌+◌, ◌<◌, ◌≤◌, Bool, true, false, cond, List, [], ◌∷◌, length, drop, take, refl, sym, ◌∙◌, ap, ◌==◌, arith, eqb-true, length-drop, get_or, ◌-◌}
use Rattle.std.proofs.Math.Seq.{take-length}
use Rattle.std.specs.List.{prefix_len, take_while}
use Rattle.std.proofs.lemmas.List.Folds.{length-prefix_len}
use Rattle.files_index.specs.Index.{EntryParts, Run, before_runs, runs}

-- how many entries at the front have this key
abbrev pub front_of : (EntryParts → ℕ) → ℕ → List EntryParts → ℕ
front_of key n es = prefix_len (λ e. key e == n) es

module _ (key : EntryParts → ℕ) where
  -- the first run, and those after it, if it has n entries
  abbrev split_there : EntryParts → List EntryParts → ℕ → List Run
  split_there e es n = (key e, take n (e ∷ es)) ∷ runs key (drop n (e ∷ es))

  -- the runs are the first one, and those after it
  pub front_run : (e : EntryParts) (es : List EntryParts) → runs key (e ∷ es) ≡ split_there e es (suc (front_of key (key e) es))
  front_run e [] = refl
  front_run e (d ∷ es) = go (key d == key e) refl (front_run d es)
    where
      joined : List Run
      joined = (key e, e ∷ (d ∷ take (front_of key (key d) es) es)) ∷ runs key (drop (front_of key (key d) es) es)

      apart : List Run
      apart = (key e, e ∷ []) ∷ ((key d, d ∷ take (front_of key (key d) es) es) ∷ runs key (drop (front_of key (key d) es) es))

      by : (b : Bool) → (key d == key e) ≡ b → runs key (d ∷ es) ≡ split_there d es (suc (front_of key (key d) es)) → before_runs (key e) e (split_there d es (suc (front_of key (key d) es))) ≡ cond b joined apart
      by b is h = ap (λ v. cond v joined apart) is

      none_else : (b : Bool) → (key d == key e) ≡ b → runs key (d ∷ es) ≡ split_there d es (suc (front_of key (key d) es)) → cond b joined apart ≡ split_there e (d ∷ es) (suc (cond b (1 + front_of key (key e) es) 0))
      none_else true is h =
          let same : key e ≡ key d = sym (eqb-true (key d) (key e) is) in
          let there : front_of key (key e) es ≡ front_of key (key d) es = ap (λ n. front_of key n es) same in
          let count : suc (front_of key (key d) es) ≡ 1 + front_of key (key e) es = omega (arith, there) in
          ap (λ n. split_there e (d ∷ es) (suc n)) count
      none_else false is h = ap (λ rs. (key e, e ∷ []) ∷ rs) (sym h)

      go : (b : Bool) → (key d == key e) ≡ b → runs key (d ∷ es) ≡ split_there d es (suc (front_of key (key d) es)) → runs key (e ∷ (d ∷ es)) ≡ split_there e (d ∷ es) (suc (front_of key (key e) (d ∷ es)))
      go b is h = ap (before_runs (key e) e) h ∙ (by b is h ∙ (none_else b is h ∙ ap (λ v. split_there e (d ∷ es) (suc (cond v (1 + front_of key (key e) es) 0))) (sym is)))

  -- the same, by the entries after the first that are of its key
  pub run_split : (xs : List EntryParts) (e : EntryParts) (m n : ℕ) → 1 ≤ length xs → e ≡ get_or xs 0 e → m ≡ key e → n ≡ length (take_while (λ x. key x == m) (take (length xs - 1) (drop 1 xs))) → (length (drop (1 + n) xs) < length xs) × (runs key xs ≡ (m, take (1 + n) xs) ∷ runs key (drop (1 + n) xs))
  run_split [] e m n some is at count = absurd (omega arith)
  run_split (d ∷ es) e m n some is at count =
      let all : take (length (d ∷ es) - 1) es ≡ es = ap (λ m. take m es) (omega arith) ∙ take-length es in
      let here : m ≡ key d = at ∙ ap key is in
      let seen : n ≡ length (take_while (λ x. key x == key d) es) = (count ∙ ap (λ l. length (take_while (λ x. key x == m) l)) all) ∙ ap (λ v. length (take_while (λ x. key x == v) es)) here in
      let more : suc (front_of key (key d) es) ≡ 1 + n = omega (arith, seen, length-prefix_len (λ x. key x == key d) es) in
      (omega (arith, length-drop (1 + n) (d ∷ es)), front_run d es ∙ (ap (split_there d es) more ∙ ap (λ v. (v, take (1 + n) (d ∷ es)) ∷ runs key (drop (1 + n) (d ∷ es))) (sym here)))
