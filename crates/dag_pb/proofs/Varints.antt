-- A number, read group by group.
use Rattle.std.proofs.Common.{◌≡◌, ◌≢◌, ◌⊎◌, inl, inr, Bool, true, false, ℕ, zero, suc, ◌+◌, ◌*◌, ◌%◌, ◌^◌, ◌<◌, ◌≤◌, List, [], ◌∷◌, ◌++◌, length, length-append, take, drop, get_or, refl, sym, ap, ◌∙◌, subst, arith, append_assoc, append-nil, add-one, take-append-drop, take_all, mul_assoc, mul_comm, one-mul, mod-eq_of_lt, drop-cons}
use Rattle.std.specs.List.{AllByRecursion}
use Rattle.std.proofs.lemmas.List.{length-take-le, take_more}
use Rattle.std.proofs.lemmas.Bool.{cases_eq, cases_lt}
use Rattle.std.proofs.lemmas.Nat.{mul-le}
use Rattle.std.proofs.Math.Nat.{pow-le-pow_right, pow-succ'}
use Rattle.dag_pb.specs.Varint.{number_of, AreGroups, IsVarint, BeginsWithVarint, BeginsNoVarint, BeginsNoCounted}
use Rattle.dag_pb.specs.Causes.{IsCut}

-- ---- groups

abbrev pub AreOpen : List ℕ → Type 0
AreOpen = AllByRecursion (λ group. 128 ≤ group)

pub number_of-append : (xs ys : List ℕ) → number_of (xs ++ ys) ≡ number_of xs + 128 ^ length xs * number_of ys
number_of-append [] ys = let one = one-mul (number_of ys) in omega (arith, one)
number_of-append (x ∷ xs) ys =
    let rest = number_of-append xs ys in
    let up : 128 ^ length (x ∷ xs) * number_of ys ≡ 128 * (128 ^ length xs * number_of ys) =
    ap (λ u. u * number_of ys) (pow-succ' 128 (length xs)) ∙ mul_assoc 128 (128 ^ length xs) (number_of ys) in
    omega (arith, rest, up)

pub groups_end : (xs : List ℕ) (group : ℕ) → AreOpen xs → group < 128 → AreGroups (xs ++ group ∷ [])
groups_end [] group high_bits low = low
groups_end (x ∷ []) group high_bits low = (high_bits.0, low)
groups_end (x ∷ y ∷ more) group high_bits low = (high_bits.0, groups_end (y ∷ more) group high_bits.1 low)

pub high_end : (xs : List ℕ) (group : ℕ) → AreOpen xs → 128 ≤ group → AreOpen (xs ++ group ∷ [])
high_end [] group high_bits high = (high, tt)
high_end (x ∷ xs) group high_bits high = (high_bits.0, high_end xs group high_bits.1 high)

-- bytes begin with one form only
pub one_form : (s t x y : List ℕ) → AreGroups s → AreGroups t → s ++ x ≡ t ++ y → (s ≡ t) × (x ≡ y)
one_form [] t x y h k e = absurd h
one_form (a ∷ s) [] x y h k e = absurd k
one_form (a ∷ []) (b ∷ []) x y h k e = (cc e, cc e)
one_form (a ∷ []) (b ∷ c ∷ t) x y h k e = let same : a ≡ b = cc e in absurd (omega (arith, h, k.0, same))
one_form (a ∷ c ∷ s) (b ∷ []) x y h k e = let same : a ≡ b = cc e in absurd (omega (arith, h.0, k, same))
one_form (a ∷ c ∷ s) (b ∷ d ∷ t) x y h k e =
    let rest : (c ∷ s) ++ x ≡ (d ∷ t) ++ y = cc e in
    let same = one_form (c ∷ s) (d ∷ t) x y h.1 k.1 rest in
    let first : a ≡ b = cc e in
    ((λ i. first i ∷ same.0 i), same.1)

-- bytes begin with one number only
pub one_varint : (b : List ℕ) (m n : ℕ) (x y : List ℕ) → BeginsWithVarint b m x → BeginsWithVarint b n y → (m ≡ n) × (x ≡ y)
one_varint b m n x y (s, p, e) (t, q, f) =
    let same = one_form s t x y p.groups q.groups (sym e ∙ f) in
    (p.number ∙ ap number_of same.0 ∙ sym q.number, same.1)

-- after groups with the high bit, the rest of a form is left
pub form_left : (xs t y z : List ℕ) → AreOpen xs → AreGroups t → t ++ y ≡ xs ++ z → (u : List ℕ) × (t ≡ xs ++ u) × AreGroups u × (u ++ y ≡ z)
form_left [] t y z high_bits h e = (t, refl, h, e)
form_left (x ∷ xs) [] y z high_bits h e = absurd h
form_left (x ∷ xs) (a ∷ []) y z high_bits h e = let same : a ≡ x = cc e in absurd (omega (arith, h, high_bits.0, same))
form_left (x ∷ xs) (a ∷ c ∷ t) y z high_bits h e =
    let rest : (c ∷ t) ++ y ≡ xs ++ z = cc e in
    let k = form_left xs (c ∷ t) y z high_bits.1 h.1 rest in
    let first : a ≡ x = cc e in
    (k.0, (λ i. first i ∷ k.1 i), k.2, k.3)

-- bytes that begin with no number begin with no counted bytes either
pub none_counted : (b : List ℕ) → BeginsNoVarint b → BeginsNoCounted b
none_counted b none inner rest h = none (length inner) (inner ++ rest) h

-- if fewer bytes follow than the number counts, the bytes are cut
pub fewer_counted : (b : List ℕ) (n : ℕ) (rest : List ℕ) → BeginsWithVarint b n rest → length rest < n → BeginsNoCounted b × IsCut b
fewer_counted b n rest h few = (none, inr (n, rest, h, few))
  where
    none : BeginsNoCounted b
    none inner more k = let same = one_varint b n (length inner) rest (inner ++ more) h k in omega (arith, few, same.0, ap length same.1, length-append inner more)

-- ---- the loop

pub record IsRead (bytes : List ℕ) (i number unit : ℕ) : Type 0 where
  pub few : i ≤ 9
  pub within : i ≤ length bytes
  pub unit_is : unit ≡ 128 ^ i
  pub below : number < unit
  pub number_is : number ≡ number_of (take i bytes)
  pub high_bits : AreOpen (take i bytes)

pub none_read : (bytes : List ℕ) → IsRead bytes 0 0 1
none_read bytes = record { few = omega arith; within = omega arith; unit_is = refl; below = omega arith; number_is = refl; high_bits = tt }

pub unit_at_most : (i unit j : ℕ) → i ≤ j → unit ≡ 128 ^ i → unit ≤ 128 ^ j
unit_at_most i unit j few is = let most = pow-le-pow_right {n = 128} (omega arith) {i = i} {j = j} few in omega (arith, most, is)

-- the number with one group more
pub number_more : (bytes : List ℕ) (i number unit group bits : ℕ) → IsRead bytes i number unit → i < length bytes → group ≡ get_or bytes i 0 → bits ≡ group % 128 → number + bits * unit ≡ number_of (take i bytes ++ group ∷ [])
number_more bytes i number unit group bits r here is low =
    let apart = number_of-append (take i bytes) (group ∷ []) in
    let long : length (take i bytes) ≡ i = length-take-le i bytes (omega arith) in
    let unit_is : 128 ^ length (take i bytes) ≡ unit = ap (λ n. 128 ^ n) long ∙ sym r.unit_is in
    let part : 128 ^ length (take i bytes) * number_of (group ∷ []) ≡ bits * unit =
    ap (λ u. u * number_of (group ∷ [])) unit_is ∙ mul_comm unit (number_of (group ∷ [])) ∙ ap (λ b. b * unit) (omega (arith, low)) in
    omega (arith, apart, part, r.number_is)

pub one_read : (bytes : List ℕ) (i number unit group bits : ℕ) → IsRead bytes i number unit → i < length bytes → group ≡ get_or bytes i 0 → 128 ≤ group → i ≢ 9 → bits ≡ group % 128 → IsRead bytes (i + 1) (number + bits * unit) (unit * 128)
one_read bytes i number unit group bits r here is high apart low =
    let few = r.few in
    let taken : take (i + 1) bytes ≡ take i bytes ++ group ∷ [] = take_more bytes i 0 here ∙ ap (λ g. take i bytes ++ g ∷ []) (sym is) in
    record {
      few = ne_le i few apart;
      within = omega (arith, here);
      unit_is = ap (λ u. u * 128) r.unit_is ∙ mul_comm (128 ^ i) 128 ∙ sym (pow-succ' 128 i) ∙ ap (λ j. 128 ^ j) (sym (add-one i));
      below = let part = mul-le bits unit 127 unit (omega (arith, low)) (omega arith) in let bound = r.below in omega (arith, part, bound);
      number_is = number_more bytes i number unit group bits r here is low ∙ ap number_of (sym taken);
      high_bits = subst AreOpen (sym taken) (high_end (take i bytes) group r.high_bits high);
    }
  where
    ne_le : (i : ℕ) → i ≤ 9 → i ≢ 9 → i + 1 ≤ 9
    ne_le i h k = omega (arith, h, k)

-- the last group: at most one bit of it at the place 9
pub last_read : (bytes : List ℕ) (i number unit group bits : ℕ) → IsRead bytes i number unit → i < length bytes → group ≡ get_or bytes i 0 → group < 128 → ((i ≡ 9) × (1 < group) → ⊥) → bits ≡ group % 128 → (number + bits * unit < 2 ^ 64) × BeginsWithVarint bytes (number + bits * unit) (drop (i + 1) bytes)
last_read bytes i number unit group bits r here is short low is_bits = (fits, (take i bytes ++ group ∷ [], form, whole))
  where
    bits_is : bits ≡ group
    bits_is = is_bits ∙ mod-eq_of_lt short

    at_last : i ≡ 9 → bits ≤ 1
    at_last e = elim (le_or group) [ inl h ↦ omega (arith, h, bits_is) | inr h ↦ absurd (low (e, h)) ]
      where
        le_or : (g : ℕ) → (g ≤ 1) ⊎ (1 < g)
        le_or zero = inl (omega arith)
        le_or (suc zero) = inl (omega arith)
        le_or (suc (suc g)) = inr (omega arith)

    fits : number + bits * unit < 2 ^ 64
    fits = by (which i r.few)
      where
        which : (i : ℕ) → i ≤ 9 → (i ≡ 9) ⊎ (i ≤ 8)
        which i h = elim (cases i) [ inl e ↦ inl e | inr k ↦ inr (omega (arith, h, k)) ]
          where
            cases : (i : ℕ) → (i ≡ 9) ⊎ (i ≢ 9)
            cases i = cases_eq i 9

        by : (i ≡ 9) ⊎ (i ≤ 8) → number + bits * unit < 2 ^ 64
        by (inl e) =
            let most = unit_at_most i unit 9 (omega (arith, e)) r.unit_is in
            let part = mul-le bits unit 1 unit (at_last e) (omega arith) in
            let bound = r.below in
            omega (arith, most, part, bound)
        by (inr h) =
            let most = unit_at_most i unit 8 h r.unit_is in
            let part = mul-le bits unit 127 (2 ^ 56) (omega (arith, bits_is, short)) (omega (arith, most)) in
            let bound = r.below in
            omega (arith, most, part, bound)

    form : IsVarint (take i bytes ++ group ∷ []) (number + bits * unit)
    form = record {
      groups = groups_end (take i bytes) group r.high_bits short;
      short = let long = length-take-le i bytes r.within in let few = r.few in omega (arith, length-append (take i bytes) (group ∷ []), long, few);
      number = number_more bytes i number unit group bits r here is is_bits;
      fits = fits;
    }

    whole : bytes ≡ (take i bytes ++ group ∷ []) ++ drop (i + 1) bytes
    whole =
        sym (take-append-drop (i + 1) bytes)
        ∙ ap (λ b. b ++ drop (i + 1) bytes) (take_more bytes i 0 here ∙ ap (λ g. take i bytes ++ g ∷ []) (sym is))

-- a group of more than one bit at the place 9 is of no number, whatever follows
pub none_so_large : (bytes : List ℕ) (number unit group : ℕ) (i : ℕ) → IsRead bytes i number unit → i < length bytes → group ≡ get_or bytes i 0 → i ≡ 9 → 1 < group → (more : List ℕ) → BeginsNoVarint (bytes ++ more)
none_so_large bytes number unit group i r here is nine large more n rest (t, v, e) =
    let split : t ++ rest ≡ take i bytes ++ (drop i bytes ++ more) = sym e ∙ ap (λ b. b ++ more) (sym (take-append-drop i bytes)) ∙ append_assoc (take i bytes) (drop i bytes) more in
    let left = form_left (take i bytes) t rest (drop i bytes ++ more) r.high_bits v.groups split in
    by left.0 left.1 left.2 (left.3 ∙ ap (λ b. b ++ more) dropped)
  where
    dropped : drop i bytes ≡ group ∷ drop (i + 1) bytes
    dropped = drop-cons bytes i 0 here ∙ (λ j. sym is j ∷ drop (sym (add-one i) j) bytes)

    long : length (take i bytes) ≡ 9
    long = length-take-le i bytes r.within ∙ nine

    by : (u : List ℕ) → t ≡ take i bytes ++ u → AreGroups u → u ++ rest ≡ group ∷ (drop (i + 1) bytes ++ more) → ⊥
    by [] f h g = h
    by (a ∷ []) f h g =
        let same : a ≡ group = cc g in
        let value = number_of-append (take i bytes) (a ∷ []) in
        let unit_nine : 128 ^ length (take i bytes) * number_of (a ∷ []) ≡ 2 ^ 63 * number_of (a ∷ []) = ap (λ k. 128 ^ k * number_of (a ∷ [])) long in
        let bits : a % 128 ≡ a = mod-eq_of_lt h in
        omega (arith, value, unit_nine, v.number ∙ ap number_of f, v.fits, bits, same, large)
    by (a ∷ c ∷ u) f h g = omega (arith, ap length f, length-append (take i bytes) (a ∷ c ∷ u), long, v.short)

-- if all bytes have the high bit, the bytes are cut: a zero would end a form
pub all_read : (bytes : List ℕ) (i number unit : ℕ) → IsRead bytes i number unit → length bytes ≤ i → BeginsNoVarint bytes × IsCut bytes
all_read bytes i number unit r past = (none, inl (none, (number, 0 ∷ [], (bytes ++ 0 ∷ [], form, sym (append-nil (bytes ++ 0 ∷ []))))))
  where
    all : take i bytes ≡ bytes
    all = take_all i bytes past

    high_bits : AreOpen bytes
    high_bits = subst AreOpen all r.high_bits

    none : BeginsNoVarint bytes
    none n rest (t, v, e) =
        let left = form_left bytes t rest [] high_bits v.groups (sym e ∙ sym (append-nil bytes)) in
        by left.0 left.2 left.3
      where
        by : (u : List ℕ) → AreGroups u → u ++ rest ≡ [] → ⊥
        by [] h g = h
        by (a ∷ u) h g = cc g

    form : IsVarint (bytes ++ 0 ∷ []) number
    form = record {
      groups = groups_end bytes 0 high_bits (omega arith);
      short = let few = r.few in omega (arith, length-append bytes (0 ∷ []), past, few);
      number =
          let value = number_of-append bytes (0 ∷ []) in
          let nothing : 128 ^ length bytes * number_of (0 ∷ []) ≡ 0 = omega arith in
          omega (arith, value, nothing, r.number_is ∙ ap number_of all);
      fits = let most = unit_at_most i unit 9 r.few r.unit_is in let bound = r.below in omega (arith, most, bound);
    }

-- ---- that the numbers fit

pub false_refutes : {P : Type 0} (b : Bool) → b ≡ false → (P → b ≡ true) → P → ⊥
false_refutes b f t p = let clash : true ≡ false = sym (t p) ∙ f in absurd (cc clash)

pub high_apart : (i group : ℕ) → ((i ≡ 9) × (1 < group) → ⊥) → 128 ≤ group → i ≢ 9
high_apart i group low high e = low (e, omega (arith, high))

pub high_few : (i : ℕ) → i ≤ 9 → i ≢ 9 → i ≤ 8
high_few i few apart = omega (arith, few, apart)

pub sum_fits : (bytes : List ℕ) (i number unit group bits : ℕ) → IsRead bytes i number unit → ((i ≡ 9) × (1 < group) → ⊥) → group < 256 → bits ≡ group % 128 → number + bits * unit < 2 ^ 64
sum_fits bytes i number unit group bits r low byte is = by (cases_eq i 9)
  where
    by : (i ≡ 9) ⊎ (i ≢ 9) → number + bits * unit < 2 ^ 64
    by (inl e) =
        let most = unit_at_most i unit 9 r.few r.unit_is in
        let small : group ≤ 1 = elim (cases_lt 1 group) [ inl h ↦ absurd (low (e, h)) | inr h ↦ h ] in
        let part = mul-le bits unit 1 unit (omega (arith, small, is)) (omega arith) in
        let bound = r.below in
        omega (arith, most, part, bound)
    by (inr apart) =
        let most = unit_at_most i unit 8 (high_few i r.few apart) r.unit_is in
        let part = mul-le bits unit 127 (2 ^ 56) (omega (arith, is)) (omega (arith, most)) in
        let bound = r.below in
        omega (arith, most, part, bound)

-- if no number begins whatever follows, no number begins if nothing follows
pub none_alone : (b : List ℕ) → ((more : List ℕ) → BeginsNoVarint (b ++ more)) → BeginsNoVarint b
none_alone b none n rest h = none [] n rest (subst (λ x. BeginsWithVarint x n rest) (sym (append-nil b)) h)
