-- Taking a file from a reader.
use Rattle.std.proofs.Common.{◌≡◌, inl, inr, ℕ, ◌+◌, ◌*◌, ◌<◌, ◌≤◌, ◌^◌, false, List, [], ◌∷◌, ◌++◌, length, length-append, refl, sym, ap, ◌∙◌, subst, arith, append_assoc, append-nil, Option, Some, Result, Ok, Err, MatchResult, IfOk, IsErrAnd}
use Rattle.dagcbor_heads.specs.Reading.{Reading}
use Rattle.dagcbor_heads.specs.Fronts.{Takes}
use Rattle.dagcbor_heads.specs.Looking.{LooksAtMost, LooksAtTaken, LooksAtSome}
use Rattle.dagcbor_heads.proofs.Looking.{nothing_looked, some_both, some_taken}
use Rattle.ipld_tree.specs.Cid.{varint}
use Rattle.ipld_tree.specs.CidFault.{IsCutVarint, IsNoVarint, IsVarintFault}
use Rattle.ipld_tree.specs.declared.cid_error.CidError.{CidError}
use Rattle.ipld_tree.specs.declared.cid_error.CidError.TheVariants as cid
use Rattle.std.proofs.lemmas.Bool.{cases_lt}
use Rattle.ipld_tree.proofs.Cids.{varint_unique, varint_length, one_group, more_groups}
use Rattle.files_car.specs.Car.{counted, Section, section_bytes}
use Rattle.files_car.specs.Splits.{CountFault, BeginsWithCid, BeginsNoCid, BeginsNoSection, SectionFault}
use Rattle.files_car.specs.Extents.{of_file, TakesOff}
use Rattle.files_car.specs.Sources.{CarRefuses, LacksMemoryIf, SectionLacks, IsShort, TakesSectionBytes}
use Rattle.files_car.specs.declared.error.CarError.{CarError}
use Rattle.files_car.specs.declared.error.CarError.TheVariants.{Read, InvalidCid, OutOfMemory}
use Rattle.files_car.proofs.Counts.{no_section_counted, no_section_named}
use Rattle.files_car.proofs.Spending.{off_none, off_both, off_within}

-- ---- refusals

-- the error that `?` hands on
pub handed_on : {T E : Type 0} (P : T → Type 0) (Q : E → Type 0) (r : Result T E) (e : E) → IsErrAnd r (λ y. y ≡ e) → Q e → MatchResult r P Q
handed_on P Q (Ok v) e h q = absurd h
handed_on P Q (Err y) e h q = subst Q (sym h) q

-- a call that took these bytes, and goes on with a part, refuses what the part refuses
pub refused_after : {E : Type 0} (stands stands' : CarError E → List ℕ → Type 0) (front : List ℕ) (old mid new : Reading) (e : CarError E) → Takes old front mid → ((rest : List ℕ) → stands e rest → stands' e (front ++ rest)) → CarRefuses stands mid e new → CarRefuses stands' old e new
refused_after stands stands' front old mid new (Read e) t f r = omega (arith, t.same.faults, r)
refused_after stands stands' front old mid new OutOfMemory t f r = r ∙ t.same.faults
refused_after stands stands' front old mid new e t f r = (r.0 ∙ t.same.faults, λ b l. let w = t.taken b l in subst (stands' e) (sym w.1) (f w.0 (r.1 w.0 w.2)))

-- a call that took these bytes within a file, and goes on with a part, refuses what the part
-- refuses
pub refused_off : {E : Type 0} (stands stands' : CarError E → List ℕ → Type 0) {x y : Option ℕ} {front : List ℕ} {old mid : Reading} (new : Reading) (e : CarError E) → TakesOff x old front y mid → ((rest : List ℕ) → stands e rest → stands' e (front ++ rest)) → CarRefuses stands (of_file y mid) e new → CarRefuses stands' (of_file x old) e new
refused_off stands stands' {x} {y} {front} {old} {mid} new (Read e) t f r = omega (arith, t.takes.same.faults, r)
refused_off stands stands' {x} {y} {front} {old} {mid} new OutOfMemory t f r = r ∙ t.takes.same.faults
refused_off stands stands' {x} {y} {front} {old} {mid} new e t f r = (r.0 ∙ t.takes.same.faults, λ b l. let w = (off_within t).taken b l in subst (stands' e) (sym w.1) (f w.0 (r.1 w.0 w.2)))

-- ---- a length

-- n bytes of a varint were taken, and more of it are to come
pub record IsInVarint (groups : List ℕ) (n : ℕ) (x : Option ℕ) (old : Reading) (y : Option ℕ) (now : Reading) : Type 0 where
  pub counted : length groups ≡ n
  pub takes : TakesOff x old groups y now
  pub cut : IsCutVarint groups
  pub looked : LooksAtSome 2 (of_file x old) (of_file y now)
  pub most : LooksAtMost (2 * n) old now

zero_below : 0 < 2 ^ 64
zero_below = omega arith

pub zero_form : varint 0 ≡ 0 ∷ []
unfolding varint
zero_form = refl

pub no_group : (groups : List ℕ) (x : Option ℕ) (r : Reading) → groups ≡ [] → IsInVarint groups 0 x r x r
no_group groups x r none = subst (λ b. IsInVarint b 0 x r x r) (sym none) record { counted = refl; takes = off_none x r; cut = (0, varint 0, zero_below, omega (arith, ap length zero_form), refl); looked = nothing_looked (of_file x r); most = omega arith }

-- the bytes end there
pub cut_there : {E : Type 0} (e : CarError E) (groups rest : List ℕ) → IsCutVarint groups → IsShort 1 e rest → CountFault e (groups ++ rest)
cut_there e groups [] cut s = subst (λ x. CountFault x (groups ++ [])) (sym s.0) (inl (subst IsCutVarint (sym (append-nil groups)) cut))
cut_there e groups (x ∷ xs) cut s = absurd (omega (arith, s.1))

without_last : (xs : List ℕ) (x : ℕ) (ys : List ℕ) (y : ℕ) (more : List ℕ) → xs ++ x ∷ [] ≡ ys ++ y ∷ more → (zs : List ℕ) × (xs ≡ ys ++ zs)
without_last xs x [] y more e = (xs, refl)
without_last [] x (z ∷ ys) y more e = absurd (omega (arith, ap length e, length-append ys (y ∷ more)))
without_last (w ∷ xs) x (z ∷ ys) y more e =
    let tail : xs ++ x ∷ [] ≡ ys ++ y ∷ more = cc e in
    let head : w ≡ z = cc e in
    let h = without_last xs x ys y more tail in
    (h.0, ap (λ a. a ∷ xs) head ∙ ap (λ more. z ∷ more) h.1)

-- a varint that ends in one byte after the beginning of one ends there
pub ends_there : (groups : List ℕ) (byte number : ℕ) (rest : List ℕ) → IsCutVarint groups → number < 2 ^ 64 → groups ++ byte ∷ [] ≡ varint number ++ rest → rest ≡ []
ends_there groups byte number [] cut fits e = refl
ends_there groups byte number (x ∷ xs) cut fits e =
    let w = without_last groups byte (varint number) x xs e in
    let whole : varint number ++ (w.0 ++ cut.1) ≡ varint cut.0 ++ [] = sym (append_assoc (varint number) w.0 cut.1) ∙ ap (λ b. b ++ cut.1) (sym w.1) ∙ cut.4 ∙ sym (append-nil (varint cut.0)) in
    let none = (varint_unique number cut.0 (w.0 ++ cut.1) [] fits cut.2 whole).1 in
    absurd (omega (arith, ap length none, length-append w.0 cut.1, cut.3))

-- the last of the groups ended the varint
pub length_taken : {x y z : Option ℕ} {old mid new : Reading} {groups : List ℕ} {n byte number : ℕ} (rest : List ℕ) → IsInVarint groups n x old y mid → TakesOff y mid (byte ∷ []) z new → number < 2 ^ 64 → groups ++ byte ∷ [] ≡ varint number ++ rest → TakesOff x old (varint number) z new
length_taken {x} {y} {z} {old} {mid} {new} {groups} {n} {byte} {number} rest h t fits e =
    let end : groups ++ byte ∷ [] ≡ varint number = e ∙ ap (λ r. varint number ++ r) (ends_there groups byte number rest h.cut fits e) ∙ append-nil (varint number) in
    subst (λ b. TakesOff x old b z new) end (off_both h.takes t)

no_varint_there : (f : CidError) (b : List ℕ) → IsVarintFault f b → (f ≡ cid.Truncated → ⊥) → IsNoVarint b
no_varint_there cid.InvalidVarint b h n = h
no_varint_there cid.Truncated b h n = absurd (n refl)
no_varint_there _ b h n = absurd h

-- no varint begins so
pub no_length : {x y z : Option ℕ} {old mid new : Reading} {groups more : List ℕ} {n byte : ℕ} → IsInVarint groups n x old y mid → TakesOff y mid (byte ∷ []) z new → (f : CidError) → IsVarintFault f more → (f ≡ cid.Truncated → ⊥) → more ≡ groups ++ byte ∷ [] → (new.faults ≡ old.faults) × ((b : List ℕ) → (of_file x old).left ≡ Some b → IsNoVarint b)
no_length {x} {y} {z} {old} {mid} {new} {groups} {more} {n} {byte} h t f fault other is =
    let none = subst IsNoVarint is (no_varint_there f more fault other) in
    let both = off_within (off_both h.takes t) in (
      both.same.faults,
      λ b l m u v fits e. let w = both.taken b l in none m (w.0 ++ u) v fits (sym (append_assoc (groups ++ byte ∷ []) w.0 u) ∙ ap (λ a. a ++ u) (sym w.1) ∙ e),
    )

pub group_more : {x y z : Option ℕ} {old mid new : Reading} {groups more : List ℕ} {n byte : ℕ} → IsInVarint groups n x old y mid → TakesOff y mid (byte ∷ []) z new → LooksAtTaken 2 0 (of_file y mid) (of_file z new) → LooksAtMost 2 mid new → more ≡ groups ++ byte ∷ [] → IsCutVarint more → IsInVarint more (n + 1) x old z new
group_more {x} {y} {z} {old} {mid} {new} {groups} {more} {n} {byte} h t looked most is cut = record {
  counted = omega (arith, ap length is, length-append groups (byte ∷ []), h.counted);
  takes = subst (λ b. TakesOff x old b z new) (sym is) (off_both h.takes t);
  cut = cut;
  looked = some_both h.looked (some_taken looked);
  most = omega (arith, h.most, most);
}

-- looks at some bytes, perhaps none, and then at one more that was taken
pub last_looked : {old mid new : Reading} → LooksAtSome 2 old mid → LooksAtTaken 2 0 mid new → LooksAtTaken 2 0 old new
last_looked {old} {mid} {new} h k = let both = some_both h (some_taken k) in record { grows = both.grows; most = λ b l. let p = both.most b l in (p.0, p.1, p.2, p.3, omega (arith, p.4)); none_shown = k.none_shown }

-- looks at the bytes of a whole varint
pub length_most : {x y : Option ℕ} {old mid : Reading} {groups : List ℕ} {n : ℕ} (new : Reading) (byte number : ℕ) (rest : List ℕ) → IsInVarint groups n x old y mid → LooksAtMost 2 mid new → number < 2 ^ 64 → groups ++ byte ∷ [] ≡ varint number ++ rest → LooksAtMost (2 * length (varint number)) old new
length_most {x} {y} {old} {mid} {groups} {n} new byte number rest h most fits e =
    let end : groups ++ byte ∷ [] ≡ varint number = e ∙ ap (λ r. varint number ++ r) (ends_there groups byte number rest h.cut fits e) ∙ append-nil (varint number) in
    omega (arith, h.most, most, h.counted, ap length end, length-append groups (byte ∷ []))

-- more groups than a varint has
pub no_more_groups : {x y : Option ℕ} {old now : Reading} {groups : List ℕ} {n : ℕ} → IsInVarint groups n x old y now → 10 ≤ n → ⊥
no_more_groups {x} {y} {old} {now} {groups} h ten =
    let w = h.cut in
    omega (arith, ten, h.counted, w.3, ap length w.4, length-append groups w.1, varint_length w.0)

-- ---- a length and its bytes

pub counted_pulled : {C E : Type 0} (bytes : C → List ℕ) (r : Result C (CarError E)) (n : ℕ) (x y z : Option ℕ) (old mid new : Reading) → n < 2 ^ 64 → TakesOff x old (varint n) y mid
    → MatchResult r (λ c. (length (bytes c) ≡ n) × TakesOff y mid (bytes c) z new) (λ e. CarRefuses (IsShort n) (of_file y mid) e new)
    → MatchResult r (λ c. (length (bytes c) < 2 ^ 64) × TakesOff x old (counted (bytes c)) z new) (λ e. CarRefuses CountFault (of_file x old) e new)
counted_pulled bytes (Ok c) n x y z old mid new fits t h = (omega (arith, h.0, fits), subst (λ m. TakesOff x old (varint m ++ bytes c) z new) (sym h.0) (off_both t h.1))
counted_pulled bytes (Err e) n x y z old mid new fits t h = refused_off (IsShort n) CountFault new e t (λ rest s. subst (λ f. CountFault f (varint n ++ rest)) (sym s.0) (inr (n, rest, fits, s.1, refl))) h

-- looks at a length and at the bytes that it counts
pub counted_most : (bytes : List ℕ) (n : ℕ) (old mid new : Reading) → length bytes ≡ n → LooksAtMost (2 * length (varint n)) old mid → LooksAtMost (2 * n) mid new → LooksAtMost (2 * length (counted bytes)) old new
counted_most bytes n old mid new is first most =
    let sized : varint n ≡ varint (length bytes) = ap varint (sym is) in
    omega (arith, is, first, most, ap length sized, length-append (varint (length bytes)) bytes)

pub counted_sized : {C E : Type 0} (bytes : C → List ℕ) (r : Result C (CarError E)) (n : ℕ) (y z : Option ℕ) (old mid new : Reading) → LooksAtMost (2 * length (varint n)) old mid
    → MatchResult r (λ c. (length (bytes c) ≡ n) × TakesOff y mid (bytes c) z new) (λ e. CarRefuses (IsShort n) (of_file y mid) e new) → LooksAtMost (2 * n) mid new → IfOk r (λ c. LooksAtMost (2 * length (counted (bytes c))) old new)
counted_sized bytes (Ok c) n y z old mid new first h most = counted_most (bytes c) n old mid new h.0 first most
counted_sized bytes (Err e) n y z old mid new first h most = tt

-- ---- out of memory

pub lacks_more : {U E : Type 0} (T : Type 0) (P Q : Type 0) (r : Result U (CarError E)) (e : CarError E) → IsErrAnd r (λ y. y ≡ e) → (P → Q) → LacksMemoryIf {T = T} P (Err e) → LacksMemoryIf Q r
lacks_more T P Q (Ok v) e h f l = absurd h
lacks_more {U} {E} T P Q (Err y) e h f l = by e l h
  where
    by : (x : CarError E) → LacksMemoryIf {T = T} {E = E} P (Err x) → y ≡ x → LacksMemoryIf {T = U} {E = E} Q (Err y)
    by OutOfMemory l is = subst (λ x. LacksMemoryIf {T = U} {E = E} Q (Err x)) (sym is) (f l)
    by _ l is = subst (λ x. LacksMemoryIf {T = U} {E = E} Q (Err x)) (sym is) tt

varint_some : (n : ℕ) → 1 ≤ length (varint n)
unfolding varint
varint_some n = elim (cases_lt n 128) [ inl h ↦ omega (arith, ap length (one_group 9 n h)) | inr h ↦ omega (arith, ap length (more_groups 9 n h)) ]

-- after a length, memory may run out for the bytes that it counts
pub counted_lacks : {T E : Type 0} (r : Result T (CarError E)) (n : ℕ) {x y : Option ℕ} {old mid : Reading} → TakesOff x old (varint n) y mid → LacksMemoryIf (mid.lends ≡ false) r → LacksMemoryIf (SectionLacks (of_file x old)) r
counted_lacks (Ok v) n {x} {y} {old} {mid} t l = tt
counted_lacks (Err OutOfMemory) n {x} {y} {old} {mid} t l = (sym t.takes.same.lends ∙ l, λ e. let w = (off_within t).taken [] e in omega (arith, ap length w.1, length-append (varint n) w.0, varint_some n))
counted_lacks (Err e) n {x} {y} {old} {mid} t l = tt

-- ---- looks at bytes

-- a section that was looked at
pub section_most : (s : Section) (body : List ℕ) (old new : Reading) → BeginsWithCid body s.0 s.1 → LooksAtMost (2 * length (counted body)) old new → LooksAtMost (2 * length (section_bytes s)) old new
section_most s body old new c most = subst (λ x. LooksAtMost (2 * length (counted x)) old new) c.1 most

-- ---- a section

pub section_pulled : (s : Section) (body : List ℕ) {x z : Option ℕ} {old new : Reading} → length body < 2 ^ 64 → TakesOff x old (counted body) z new → BeginsWithCid body s.0 s.1 → TakesSectionBytes x old s z new
section_pulled s body {x} {z} {old} {new} h t c = ((c.0, omega (arith, h, ap length c.1)), subst (λ b. TakesOff x old (counted b) z new) c.1 t)

pub no_section_pulled : (E : Type 0) (f : CidError) (body : List ℕ) (old new : Reading) → length body < 2 ^ 64 → Takes old (counted body) new → BeginsNoCid f body
    → (new.faults ≡ old.faults) × ((b : List ℕ) → old.left ≡ Some b → BeginsNoSection b × SectionFault {E = E} (InvalidCid f) b)
no_section_pulled E f body old new h t none = (t.same.faults, λ b l. let w = t.taken b l in no_section_named E f b body w.0 (h, w.1) none)

pub no_section_at_count : {E : Type 0} (e : CarError E) (old new : Reading) → CarRefuses CountFault old e new → CarRefuses (λ e b. BeginsNoSection b × SectionFault e b) old e new
no_section_at_count (Read f) old new r = r
no_section_at_count OutOfMemory old new r = r
no_section_at_count e old new r = (r.0, λ b l. no_section_counted e b (r.1 b l))
