-- Sorted entries, and the runs of them.
use Rattle.std.specs.Bool.{⊤}
use Rattle.std.proofs.Common.{rules, ◌≡◌, ◌⊎◌, ℕ, suc, zero, ◌<◌, ◌≤◌, ◌==◌, Bool, true, false, cond, List, [], ◌∷◌, ◌++◌, length, take, drop, get_or, sym, ap, ◌∙◌, subst, refl, inl, inr, arith, IsSorted}
use Rattle.std.proofs.lemmas.Bool.{ne_eqb, eq-eqb, cases_lt}
use Rattle.std.proofs.lemmas.Bool.Decides.{eqb_tells}
use Rattle.std.proofs.lemmas.List.Sorted.{sorted_far}
use Rattle.std.proofs.lemmas.Cmp.{nat_list_cmp_total}
use Rattle.std.specs.Cmp.{IsTotalOrder, IsStrictWeakOrder, nat_cmp_is}
use Rattle.std.specs.Cmp.Rules.{comparing}
use Rattle.std.specs.Cmp.Lexicographic.{slice_cmp}
use Rattle.std.specs.List.{AllByRecursion}
use Rattle.std.specs.Ordering.{nat_cmp, is_lt, ordering_reverse, ordering_then, ordering_index}
use Rattle.std.specs.declared.cmp.Ordering.{Ordering}
use Rattle.std.specs.declared.cmp.Ordering.TheVariants.{Less, Equal, Greater}
use Rattle.files_index.specs.Index.{EntryParts, Run, before_runs, runs, width_of, entry_cmp}
use Rattle.files_index.proofs.Runs.{front_run, front_of}

-- ---- properties of each entry

pub each_map : {X : Type 0} {P Q : X → Type 0} (xs : List X) → AllByRecursion P xs → ((x : X) → P x → Q x) → AllByRecursion Q xs
each_map [] h f = tt
each_map (x ∷ xs) h f = (f x h.0, each_map xs h.1 f)

pub each_both : {X : Type 0} {P Q R : X → Type 0} (xs : List X) → AllByRecursion P xs → AllByRecursion Q xs → ((x : X) → P x → Q x → R x) → AllByRecursion R xs
each_both [] h k f = tt
each_both (x ∷ xs) h k f = (f x h.0 k.0, each_both xs h.1 k.1 f)

pub each_first : {X : Type 0} (P : X → Type 0) (xs ys : List X) → AllByRecursion P (xs ++ ys) → AllByRecursion P xs
each_first P [] ys h = tt
each_first P (x ∷ xs) ys h = (h.0, each_first P xs ys h.1)

pub each_second : {X : Type 0} (P : X → Type 0) (xs ys : List X) → AllByRecursion P (xs ++ ys) → AllByRecursion P ys
each_second P [] ys h = h
each_second P (x ∷ xs) ys h = each_second P xs ys h.1

pub each_joined : {X : Type 0} (P : X → Type 0) (xs ys : List X) → AllByRecursion P xs → AllByRecursion P ys → AllByRecursion P (xs ++ ys)
each_joined P [] ys h k = k
each_joined P (x ∷ xs) ys h k = (h.0, each_joined P xs ys h.1 k)

-- the element of a number
pub record Parted {X : Type 0} (xs : List X) (n : ℕ) : Type 0 where
  pub before : List X
  pub at : X
  pub following : List X
  pub is : xs ≡ before ++ (at ∷ following)
  pub long : length before ≡ n

pub parted : {X : Type 0} (xs : List X) (n : ℕ) → n < length xs → Parted xs n
parted [] n h = absurd (omega (arith, h))
parted (x ∷ xs) zero h = record { before = []; at = x; following = xs; is = refl; long = refl }
parted (x ∷ xs) (suc n) h =
    let k = parted xs n (omega (arith, h)) in
    record { before = x ∷ k.before; at = k.at; following = k.following; is = ap (λ l. x ∷ l) k.is; long = ap suc k.long }

pub each_at : {X : Type 0} (P : X → Type 0) (xs : List X) (n : ℕ) (k : Parted xs n) → AllByRecursion P xs → P k.at
each_at P xs n k h = (each_second P k.before (k.at ∷ k.following) (subst (AllByRecursion P) k.is h)).0

-- ---- in order

-- so it is of each two of them, in their order
abbrev pub Pairs : (EntryParts → EntryParts → Type 0) → List EntryParts → Type 0
Pairs R [] = ⊤
Pairs R (e ∷ es) = AllByRecursion (R e) es × Pairs R es

each_numbered : (P : EntryParts → Type 0) (d : EntryParts) (es : List EntryParts) → ((i : ℕ) → i < length es → P (get_or es i d)) → AllByRecursion P es
each_numbered P d [] h = tt
each_numbered P d (e ∷ es) h = (h zero (omega arith), each_numbered P d es (λ i l. h (suc i) (omega (arith, l))))

pairs_numbered : (R : EntryParts → EntryParts → Type 0) (d : EntryParts) (es : List EntryParts) → ((i j : ℕ) → i ≤ j → j < length es → R (get_or es i d) (get_or es j d)) → Pairs R es
pairs_numbered R d [] h = tt
pairs_numbered R d (e ∷ es) h = (each_numbered (R e) d es (λ j l. h zero (suc j) (omega arith) (omega (arith, l))), pairs_numbered R d es (λ i j u l. h (suc i) (suc j) (omega (arith, u)) (omega (arith, l))))

pub pairs_map : (R S : EntryParts → EntryParts → Type 0) (Q : EntryParts → Type 0) (es : List EntryParts) → AllByRecursion Q es → Pairs R es → ((x y : EntryParts) → Q x → Q y → R x y → S x y) → Pairs S es
pairs_map R S Q [] q h f = tt
pairs_map R S Q (e ∷ es) q h f = (each_both es q.1 h.0 (λ y qy r. f e y q.0 qy r), pairs_map R S Q es q.1 h.1 f)

pub pairs_second : (R : EntryParts → EntryParts → Type 0) (xs ys : List EntryParts) → Pairs R (xs ++ ys) → Pairs R ys
pairs_second R [] ys h = h
pairs_second R (x ∷ xs) ys h = pairs_second R xs ys h.1

pub pairs_first : (R : EntryParts → EntryParts → Type 0) (xs ys : List EntryParts) → Pairs R (xs ++ ys) → Pairs R xs
pairs_first R [] ys h = tt
pairs_first R (x ∷ xs) ys h = (each_first (R x) xs ys h.0, pairs_first R xs ys h.1)

-- no entry is below one before it
abbrev pub Up : EntryParts → EntryParts → Type 0
Up x y = is_lt (entry_cmp y x) ≡ false

entry_total : IsTotalOrder entry_cmp
entry_total = search (comparing, rules) depth 9

less_only : (o : Ordering) → is_lt o ≡ true → o ≡ Less
less_only Less h = refl
less_only Equal h = cc h
less_only Greater h = cc h

entry_order : IsStrictWeakOrder (λ x y. is_lt (entry_cmp x y))
entry_order = record {
  one_way = λ x y h. ap is_lt (entry_total.antisymm y x ∙ ap ordering_reverse (less_only (entry_cmp x y) h));
  chain = λ x y z h k. chained x y z (entry_cmp x y) (entry_cmp y z) refl refl h k;
}
  where
    chained : (x y z : EntryParts) (o p : Ordering) → entry_cmp x y ≡ o → entry_cmp y z ≡ p → is_lt (entry_cmp x y) ≡ false → is_lt (entry_cmp y z) ≡ false → is_lt (entry_cmp x z) ≡ false
    chained x y z Less p a b h k = let clash : true ≡ false = sym (ap is_lt a) ∙ h in cc clash
    chained x y z o Less a b h k = let clash : true ≡ false = sym (ap is_lt b) ∙ k in cc clash
    chained x y z Equal p a b h k = ap is_lt (entry_total.congr x y z a) ∙ k
    chained x y z Greater Equal a b h k =
        let back : entry_cmp z y ≡ Equal = entry_total.antisymm z y ∙ ap ordering_reverse b in
        ap is_lt (entry_total.antisymm x z ∙ (ap ordering_reverse (entry_total.congr z y x back ∙ (entry_total.antisymm y x ∙ ap ordering_reverse a))))
    chained x y z Greater Greater a b h k =
        let first : entry_cmp y x ≡ Less = entry_total.antisymm y x ∙ ap ordering_reverse a in
        let second : entry_cmp z y ≡ Less = entry_total.antisymm z y ∙ ap ordering_reverse b in
        ap is_lt (entry_total.antisymm x z ∙ ap ordering_reverse (entry_total.trans z y x second first))

pub sorted_pairs : (es : List EntryParts) → IsSorted entry_cmp es → Pairs Up es
sorted_pairs [] h = tt
sorted_pairs (e ∷ es) h = pairs_numbered Up e (e ∷ es) (λ i j u l. sorted_far (λ x y. is_lt (entry_cmp x y)) entry_order (e ∷ es) h i j e u l)

-- ---- the order of entries, and of their parts

nat_less : (m n : ℕ) → m < n → nat_cmp m n ≡ Less
nat_less m n h = sym (nat_cmp_is m n Less h)

nat_equal : (m n : ℕ) → m ≡ n → nat_cmp m n ≡ Equal
nat_equal m n h = sym (nat_cmp_is m n Equal h)

pub codes_up : (x y : EntryParts) → Up x y → x.hash_code ≤ y.hash_code
codes_up x y up = elim (cases_lt y.hash_code x.hash_code) [
  | inl less ↦ let clash : true ≡ false = sym (ap (λ o. is_lt (ordering_then o (rest_cmp y x))) (nat_less y.hash_code x.hash_code less)) ∙ up in cc clash
  | inr most ↦ most
]
  where
    rest_cmp : EntryParts → EntryParts → Ordering
    rest_cmp v w = ordering_then (nat_cmp (length v.digest) (length w.digest)) (ordering_then (slice_cmp nat_cmp v.digest w.digest) (nat_cmp v.offset w.offset))

pub widths_up : (x y : EntryParts) → x.hash_code ≡ y.hash_code → Up x y → width_of x ≤ width_of y
widths_up x y same up = elim (cases_lt (length y.digest) (length x.digest)) [
  | inl less ↦ let clash : true ≡ false = sym (ap (λ o. is_lt (ordering_then o (ordering_then (nat_cmp (length y.digest) (length x.digest)) (rest_cmp y x)))) (nat_equal y.hash_code x.hash_code (sym same))
      ∙ ap (λ o. is_lt (ordering_then o (rest_cmp y x))) (nat_less (length y.digest) (length x.digest) less)) ∙ up in cc clash
  | inr most ↦ omega (arith, most)
]
  where
    rest_cmp : EntryParts → EntryParts → Ordering
    rest_cmp v w = ordering_then (slice_cmp nat_cmp v.digest w.digest) (nat_cmp v.offset w.offset)

pub digests_up : (x y : EntryParts) → x.hash_code ≡ y.hash_code → length x.digest ≡ length y.digest → Up x y → slice_cmp nat_cmp y.digest x.digest ≡ Less → ⊥
digests_up x y same long up less =
    let clash : true ≡ false = sym (ap (λ o. is_lt (ordering_then o (ordering_then (nat_cmp (length y.digest) (length x.digest)) (ordering_then (slice_cmp nat_cmp y.digest x.digest) (nat_cmp y.offset x.offset))))) (nat_equal y.hash_code x.hash_code (sym same))
    ∙ (ap (λ o. is_lt (ordering_then o (ordering_then (slice_cmp nat_cmp y.digest x.digest) (nat_cmp y.offset x.offset)))) (nat_equal (length y.digest) (length x.digest) (sym long))
    ∙ ap (λ o. is_lt (ordering_then o (nat_cmp y.offset x.offset))) less)) ∙ up in cc clash

-- how a digest compares with this one, as a number
abbrev pub rank : List ℕ → EntryParts → ℕ
rank digest x = ordering_index (slice_cmp nat_cmp x.digest digest)

pub ranks_up : (digest : List ℕ) (x y : EntryParts) → (slice_cmp nat_cmp y.digest x.digest ≡ Less → ⊥) → rank digest x ≤ rank digest y
ranks_up digest x y up = by (slice_cmp nat_cmp x.digest digest) (slice_cmp nat_cmp y.digest digest) refl refl
  where
    total : IsTotalOrder (slice_cmp nat_cmp)
    total = nat_list_cmp_total

    by : (o p : Ordering) → slice_cmp nat_cmp x.digest digest ≡ o → slice_cmp nat_cmp y.digest digest ≡ p → ordering_index o ≤ ordering_index p
    by Less p a b = omega arith
    by o Greater a b = most o
      where
        most : (o : Ordering) → ordering_index o ≤ 2
        most Less = omega arith
        most Equal = omega arith
        most Greater = omega arith
    by Equal Equal a b = omega arith
    by Equal Less a b =
        let back : slice_cmp nat_cmp x.digest y.digest ≡ Greater = total.congr x.digest digest y.digest a ∙ (total.antisymm digest y.digest ∙ ap ordering_reverse b) in
        absurd (up (total.antisymm y.digest x.digest ∙ ap ordering_reverse back))
    by Greater Equal a b =
        absurd (up (total.congr y.digest digest x.digest b ∙ (total.antisymm digest x.digest ∙ ap ordering_reverse a)))
    by Greater Less a b =
        absurd (up (total.trans y.digest digest x.digest b (total.antisymm digest x.digest ∙ ap ordering_reverse a)))

-- ---- three parts

-- those below a number, those of it, and those above
pub record InThree (f : EntryParts → ℕ) (k : ℕ) (es : List EntryParts) : Type 0 where
  pub below : List EntryParts
  pub there : List EntryParts
  pub above : List EntryParts
  pub is : es ≡ below ++ (there ++ above)
  pub lower : AllByRecursion (λ e. f e < k) below
  pub same : AllByRecursion (λ e. f e ≡ k) there
  pub higher : AllByRecursion (λ e. k < f e) above

pub in_three : (f : EntryParts → ℕ) (k : ℕ) (es : List EntryParts) → Pairs (λ x y. f x ≤ f y) es → InThree f k es
in_three f k [] up = record { below = []; there = []; above = []; is = refl; lower = tt; same = tt; higher = tt }
in_three f k (e ∷ es) up = elim (cases_lt (f e) k) [
  | inl less ↦ before less (in_three f k es up.1)
  | inr most ↦ elim (cases_lt k (f e)) [
    | inl more ↦ record { below = []; there = []; above = e ∷ es; is = refl; lower = tt; same = tt; higher = (more, each_map es up.0 (λ y l. omega (arith, more, l))) }
    | inr least ↦ within (omega (arith, most, least)) (in_three f k es up.1)
  ]
]
  where
    before : f e < k → InThree f k es → InThree f k (e ∷ es)
    before less h = record { below = e ∷ h.below; there = h.there; above = h.above; is = ap (λ l. e ∷ l) h.is; lower = (less, h.lower); same = h.same; higher = h.higher }

    within : f e ≡ k → InThree f k es → InThree f k (e ∷ es)
    within it h = by h.below h.is h.lower
      where
        by : (below : List EntryParts) → es ≡ below ++ (h.there ++ h.above) → AllByRecursion (λ x. f x < k) below → InThree f k (e ∷ es)
        by [] is lower = record { below = []; there = e ∷ h.there; above = h.above; is = ap (λ l. e ∷ l) is; lower = tt; same = (it, h.same); higher = h.higher }
        by (b ∷ bs) is lower = let over : f e ≤ f b = (subst (AllByRecursion (λ y. f e ≤ f y)) is up.0).0 in absurd (omega (arith, over, lower.0, it))

-- ---- runs

-- an entry is put before runs that are not empty
before_joined : (key : ℕ) (e : EntryParts) (r : Run) (rs zs : List Run) → before_runs key e ((r ∷ rs) ++ zs) ≡ before_runs key e (r ∷ rs) ++ zs
before_joined key e r rs zs = by (r.0 == key)
  where
    by : (v : Bool) → cond v ((key, e ∷ r.1) ∷ (rs ++ zs)) ((key, e ∷ []) ∷ (r ∷ (rs ++ zs))) ≡ cond v ((key, e ∷ r.1) ∷ rs) ((key, e ∷ []) ∷ (r ∷ rs)) ++ zs
    by true = refl
    by false = refl

module _ (key : EntryParts → ℕ) where
  -- the runs of an entry and more are not empty, and the first is of its key
  some_runs : (e : EntryParts) (es : List EntryParts) → (r : List EntryParts) × (rs : List Run) × (runs key (e ∷ es) ≡ (key e, r) ∷ rs)
  some_runs e es = (take (suc (front_of key (key e) es)) (e ∷ es), runs key (drop (suc (front_of key (key e) es)) (e ∷ es)), front_run key e es)

  -- entries of one key are one run, before those of others
  one_run : (k : ℕ) (e : EntryParts) (es more : List EntryParts) → AllByRecursion (λ x. key x ≡ k) (e ∷ es) → AllByRecursion (λ x. key x ≡ k → ⊥) more → runs key ((e ∷ es) ++ more) ≡ (k, e ∷ es) ∷ runs key more
  one_run k e [] [] same others = ap (λ n. (n, e ∷ []) ∷ []) same.0
  one_run k e [] (m ∷ ms) same others =
      let first = some_runs m ms in
      ap (before_runs (key e) e) first.2
      ∙ (ap (λ v. cond v ((key e, e ∷ first.0) ∷ first.1) ((key e, e ∷ []) ∷ ((key m, first.0) ∷ first.1))) (ne_eqb (key m) (key e) (λ h. others.0 (h ∙ same.0)))
      ∙ (ap (λ n. (n, e ∷ []) ∷ ((key m, first.0) ∷ first.1)) same.0 ∙ ap (λ rs. (k, e ∷ []) ∷ rs) (sym first.2)))
  one_run k e (x ∷ xs) more same others =
      ap (before_runs (key e) e) (one_run k x xs more same.1 others)
      ∙ (ap (λ v. cond v ((key e, e ∷ (x ∷ xs)) ∷ runs key more) ((key e, e ∷ []) ∷ ((k, x ∷ xs) ∷ runs key more))) (eq-eqb k (key e) (sym same.0))
      ∙ ap (λ n. (n, e ∷ (x ∷ xs)) ∷ runs key more) same.0)

  -- the run of a key comes after the runs of the entries before it
  pub run_parted : (k : ℕ) (below : List EntryParts) (e : EntryParts) (es above : List EntryParts) → AllByRecursion (λ x. key x ≡ k → ⊥) below → AllByRecursion (λ x. key x ≡ k) (e ∷ es) → AllByRecursion (λ x. key x ≡ k → ⊥) above → runs key (below ++ ((e ∷ es) ++ above)) ≡ runs key below ++ ((k, e ∷ es) ∷ runs key above)
  run_parted k [] e es above others same more = one_run k e es above same more
  run_parted k (b ∷ []) e es above others same more =
      ap (before_runs (key b) b) (one_run k e es above same more)
      ∙ ap (λ v. cond v ((key b, b ∷ (e ∷ es)) ∷ runs key above) ((key b, b ∷ []) ∷ ((k, e ∷ es) ∷ runs key above))) (ne_eqb k (key b) (λ h. others.0 (sym h)))
  run_parted k (b ∷ (c ∷ cs)) e es above others same more =
      let first = some_runs c cs in
      let tail = (k, e ∷ es) ∷ runs key above in
      ap (before_runs (key b) b) (run_parted k (c ∷ cs) e es above others.1 same more)
      ∙ (ap (λ rs. before_runs (key b) b (rs ++ tail)) first.2
      ∙ (before_joined (key b) b (key c, first.0) first.1 tail ∙ ap (λ rs. before_runs (key b) b rs ++ tail) (sym first.2)))

  -- the run has an entry, at most this many, and P holds of each
  pub record IsRunOf (P : EntryParts → Type 0) (most : ℕ) (r : Run) : Type 0 where
    pub some : 0 < length r.1
    pub few : length r.1 ≤ most
    pub each : AllByRecursion P r.1
    pub keys : AllByRecursion (λ e. key e ≡ r.0) r.1

  more_room : (P : EntryParts → Type 0) (m n : ℕ) → m ≤ n → (r : Run) → IsRunOf P m r → IsRunOf P n r
  more_room P m n up r h = record { some = h.some; few = omega (arith, h.few, up); each = h.each; keys = h.keys }

  before_so : (P : EntryParts → Type 0) (most : ℕ) (e : EntryParts) (rs : List Run) → P e → AllByRecursion (IsRunOf P most) rs → AllByRecursion (IsRunOf P (suc most)) (before_runs (key e) e rs)
  before_so P most e [] p h = (record { some = omega arith; few = omega arith; each = (p, tt); keys = (refl, tt) }, tt)
  before_so P most e (r ∷ rs) p h = by (r.0 == key e) (eqb_tells r.0 (key e))
    where
      others : AllByRecursion (IsRunOf P (suc most)) rs
      others = each_map rs h.1 (more_room P most (suc most) (omega arith))

      by : (v : Bool) → ((v ≡ true) × (r.0 ≡ key e)) ⊎ ((v ≡ false) × (r.0 ≡ key e → ⊥)) → AllByRecursion (IsRunOf P (suc most)) (cond v ((key e, e ∷ r.1) ∷ rs) ((key e, e ∷ []) ∷ (r ∷ rs)))
      by true (inl k) = (record { some = omega arith; few = omega (arith, h.0.few); each = (p, h.0.each); keys = (refl, subst (λ n. AllByRecursion (λ x. key x ≡ n) r.1) k.1 h.0.keys) }, others)
      by true (inr k) = let clash : true ≡ false = k.0 in cc clash
      by false k = (record { some = omega arith; few = omega arith; each = (p, tt); keys = (refl, tt) }, (more_room P most (suc most) (omega arith) r h.0, others))

  pub runs_so : (P : EntryParts → Type 0) (es : List EntryParts) → AllByRecursion P es → AllByRecursion (IsRunOf P (length es)) (runs key es)
  runs_so P [] h = tt
  runs_so P (e ∷ es) h = before_so P (length es) e (runs key es) h.0 (runs_so P es h.1)

  before_few : (e : EntryParts) (rs : List Run) → length (before_runs (key e) e rs) ≤ suc (length rs)
  before_few e [] = omega arith
  before_few e (r ∷ rs) = by (r.0 == key e)
    where
      by : (v : Bool) → length (cond v ((key e, e ∷ r.1) ∷ rs) ((key e, e ∷ []) ∷ (r ∷ rs))) ≤ suc (suc (length rs))
      by true = omega arith
      by false = omega arith

  pub runs_few : (es : List EntryParts) → length (runs key es) ≤ length es
  runs_few [] = omega arith
  runs_few (e ∷ es) = omega (arith, before_few e (runs key es), runs_few es)

  -- no run of entries of other keys is of this
  pub runs_other : (k : ℕ) (es : List EntryParts) → AllByRecursion (λ x. key x ≡ k → ⊥) es → AllByRecursion (λ (r : Run). r.0 ≡ k → ⊥) (runs key es)
  runs_other k es h = each_map (runs key es) (runs_so (λ x. key x ≡ k → ⊥) es h) (λ r s. by r s)
    where
      by : (r : Run) → IsRunOf (λ x. key x ≡ k → ⊥) (length es) r → r.0 ≡ k → ⊥
      by (n, []) s is = absurd (omega (arith, s.some))
      by (n, x ∷ xs) s is = s.each.0 (s.keys.0 ∙ is)
