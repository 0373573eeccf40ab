-- How sections are divided into parts.
use Rattle.std.proofs.Common.{◌≡◌, ◌≢◌, ◌⊎◌, inl, inr, ℕ, suc, ◌+◌, ◌-◌, ◌≤◌, ◌<◌, List, [], ◌∷◌, ◌++◌, length, map, append-nil, append_assoc, flat_map, nat_le, Bool, true, false, not, ◌||◌, if◌then◌else◌, MatchBool, refl, sym, ap, ◌∙◌, subst, Option, Some, None, Result, Ok, Err, arith, length-append, leb-true}
use Rattle.std.specs.List.{AllByRecursion}
use Rattle.std.specs.Io.KnownBytes.{Appends}
use Rattle.std.proofs.lemmas.Grind.{flat_map-append}
use Rattle.std.proofs.lemmas.List.{length-map}
use Rattle.std.proofs.lemmas.Bool.{cases_lt}
use Rattle.std.proofs.lemmas.Bool.Decides.{leb_tells}
use Rattle.ipld_tree.specs.Cid.{varint, varint_groups}
use Rattle.ipld_tree.proofs.Cids.{one_group, more_groups}
use Rattle.files_car.specs.Car.{Section, car_bytes, section_body, section_bytes, header_bytes}
use Rattle.program_sections.specs.NewFiles.{Named, AddsFiles}
use Rattle.program_sections.specs.Parts.{fits, parts_from, parts, part_name, part_files, PartsAreAll, IsWithin, PartsAreWithin, PartsHaveSections}
use Rattle.program_sections.specs.SplitSteps.{IsFaultOf, Work, goes_in, IsFinished, IsNext, HasRoom, MakesRoom, IsPut, PutsBytes, SplitsSection}
use Rattle.program_sections.specs.declared.part.Plan.{Plan}
use Rattle.program_sections.specs.declared.part.PartFault.{PartFault}
use Rattle.program_sections.specs.declared.part.PartFault.TheVariants.{Failed}
use Rattle.program_shared.specs.declared.fault.ToolError.{ToolError}

-- ---- one more section

pub joins : (size : ℕ) (roots : List (List ℕ)) (part : List Section) (s : Section) (ss : List Section) → fits size roots part s ≡ true → parts_from size roots part (s ∷ ss) ≡ parts_from size roots (part ++ s ∷ []) ss
joins size roots part s ss e = ap (λ b. if b then parts_from size roots (part ++ s ∷ []) ss else part ∷ parts_from size roots (s ∷ []) ss) e

pub begins : (size : ℕ) (roots : List (List ℕ)) (part : List Section) (s : Section) (ss : List Section) → fits size roots part s ≡ false → parts_from size roots part (s ∷ ss) ≡ part ∷ parts_from size roots (s ∷ []) ss
begins size roots part s ss e = ap (λ b. if b then parts_from size roots (part ++ s ∷ []) ss else part ∷ parts_from size roots (s ∷ []) ss) e

-- ---- laws

some_after : {X : Type 0} (xs : List X) (x : X) → xs ++ x ∷ [] ≢ []
some_after [] x e = cc e
some_after (y ∷ xs) x e = cc e

all_from : (size : ℕ) (roots : List (List ℕ)) (part ss : List Section) → flat_map (λ (p : List Section). p) (parts_from size roots part ss) ≡ part ++ ss
all_from size roots part [] = refl
all_from size roots part (s ∷ ss) = by (fits size roots part s) refl (all_from size roots (part ++ s ∷ []) ss) (all_from size roots (s ∷ []) ss)
  where
    by : (b : Bool) → fits size roots part s ≡ b → flat_map (λ (p : List Section). p) (parts_from size roots (part ++ s ∷ []) ss) ≡ (part ++ s ∷ []) ++ ss → flat_map (λ (p : List Section). p) (parts_from size roots (s ∷ []) ss) ≡ s ∷ ss → flat_map (λ (p : List Section). p) (parts_from size roots part (s ∷ ss)) ≡ part ++ s ∷ ss
    by true e joined following = ap (flat_map (λ (p : List Section). p)) (joins size roots part s ss e) ∙ joined ∙ append_assoc part (s ∷ []) ss
    by false e joined following = ap (flat_map (λ (p : List Section). p)) (begins size roots part s ss e) ∙ ap (λ l. part ++ l) following

pub are_all : PartsAreAll
are_all size roots sections = all_from size roots [] sections

within_one : (size : ℕ) (roots : List (List ℕ)) (part : List Section) (s : Section) → fits size roots part s ≡ true → IsWithin size roots (part ++ s ∷ [])
within_one size roots [] s e = inr (omega arith)
within_one size roots (first ∷ more) s e = inl (leb-true (length (car_bytes roots (first ∷ more ++ s ∷ []))) size e)

within_from : (size : ℕ) (roots : List (List ℕ)) (part ss : List Section) → IsWithin size roots part → AllByRecursion (IsWithin size roots) (parts_from size roots part ss)
within_from size roots part [] h = (h, tt)
within_from size roots part (s ∷ ss) h = by (fits size roots part s) refl (λ e. within_from size roots (part ++ s ∷ []) ss (within_one size roots part s e)) (within_from size roots (s ∷ []) ss (inr (omega arith)))
  where
    by : (b : Bool) → fits size roots part s ≡ b → (fits size roots part s ≡ true → AllByRecursion (IsWithin size roots) (parts_from size roots (part ++ s ∷ []) ss)) → AllByRecursion (IsWithin size roots) (parts_from size roots (s ∷ []) ss) → AllByRecursion (IsWithin size roots) (parts_from size roots part (s ∷ ss))
    by true e joined following = subst (AllByRecursion (IsWithin size roots)) (sym (joins size roots part s ss e)) (joined e)
    by false e joined following = subst (AllByRecursion (IsWithin size roots)) (sym (begins size roots part s ss e)) (h, following)

pub are_within : PartsAreWithin
are_within size roots sections = within_from size roots [] sections (inr (omega arith))

some_from : (size : ℕ) (roots : List (List ℕ)) (part ss : List Section) → part ≢ [] → AllByRecursion (λ (p : List Section). p ≢ []) (parts_from size roots part ss)
some_from size roots part [] h = (h, tt)
some_from size roots part (s ∷ ss) h = by (fits size roots part s) refl (some_from size roots (part ++ s ∷ []) ss (some_after part s)) (some_from size roots (s ∷ []) ss (λ k. cc k))
  where
    by : (b : Bool) → fits size roots part s ≡ b → AllByRecursion (λ (p : List Section). p ≢ []) (parts_from size roots (part ++ s ∷ []) ss) → AllByRecursion (λ (p : List Section). p ≢ []) (parts_from size roots (s ∷ []) ss) → AllByRecursion (λ (p : List Section). p ≢ []) (parts_from size roots part (s ∷ ss))
    by true e joined following = subst (AllByRecursion (λ (p : List Section). p ≢ [])) (sym (joins size roots part s ss e)) joined
    by false e joined following = subst (AllByRecursion (λ (p : List Section). p ≢ [])) (sym (begins size roots part s ss e)) (h, following)

pub have_sections : PartsHaveSections
have_sections size roots [] h = absurd (h refl)
have_sections size roots (s ∷ ss) h = some_from size roots (s ∷ []) ss (λ k. cc k)

-- ---- lengths

groups_some : (k n : ℕ) → 0 < length (varint_groups (suc k) n)
groups_some k n = elim (cases_lt n 128) [
  | inl h ↦ omega (arith, ap length (one_group k n h))
  | inr h ↦ omega (arith, ap length (more_groups k n h))
]

varint_some : (n : ℕ) → 0 < length (varint n)
unfolding varint
varint_some n = groups_some 9 n

section_some : (s : Section) → 0 < length (section_bytes s)
section_some s = omega (arith, varint_some (length (section_body s)), length-append (varint (length (section_body s))) (section_body s))

car_push : (roots : List (List ℕ)) (part : List Section) (s : Section) → car_bytes roots (part ++ s ∷ []) ≡ car_bytes roots part ++ section_bytes s
car_push roots part s =
    ap (λ l. header_bytes roots ++ l) (flat_map-append section_bytes part (s ∷ []) ∙ ap (λ l. flat_map section_bytes part ++ l) (append-nil (section_bytes s)))
    ∙ sym (append_assoc (header_bytes roots) (flat_map section_bytes part) (section_bytes s))

car_none : (roots : List (List ℕ)) → car_bytes roots [] ≡ header_bytes roots
car_none roots = append-nil (header_bytes roots)

car_length : (roots : List (List ℕ)) (part : List Section) (s : Section) → length (car_bytes roots (part ++ s ∷ [])) ≡ length (car_bytes roots part) + length (section_bytes s)
car_length roots part s = ap length (car_push roots part s) ∙ length-append (car_bytes roots part) (section_bytes s)

-- the room that is left is enough exactly if the sum is within the size
same_test : (n l size : ℕ) → 0 < n → nat_le n (size - l) ≡ nat_le (l + n) size
same_test n l size some = by (leb_tells n (size - l)) (leb_tells (l + n) size)
  where
    by : ((nat_le n (size - l) ≡ true) × (n ≤ size - l)) ⊎ ((nat_le n (size - l) ≡ false) × (size - l < n)) → ((nat_le (l + n) size ≡ true) × (l + n ≤ size)) ⊎ ((nat_le (l + n) size ≡ false) × (size < l + n)) → nat_le n (size - l) ≡ nat_le (l + n) size
    by (inl p) (inl q) = p.0 ∙ sym q.0
    by (inr p) (inr q) = p.0 ∙ sym q.0
    by (inl p) (inr q) = absurd (omega (arith, p.1, q.1, some))
    by (inr p) (inl q) = absurd (omega (arith, p.1, q.1, some))

abbrev pub has_some : List Section → Bool
has_some [] = false
has_some (s ∷ ss) = true

some_push : (part : List Section) (s : Section) → has_some (part ++ s ∷ []) ≡ true
some_push [] s = refl
some_push (first ∷ more) s = refl

-- a section goes in exactly if it fits
fits_so : (w : Work) (size : ℕ) (roots : List (List ℕ)) (part : List Section) (s : Section) → w.holds ≡ has_some part → w.room ≡ size - length (car_bytes roots part) → goes_in w (length (section_bytes s)) ≡ fits size roots part s
fits_so w size roots [] s some room = ap (λ b. not b || nat_le (length (section_bytes s)) w.room) some
fits_so w size roots (first ∷ more) s some room =
    ap (λ b. not b || nat_le (length (section_bytes s)) w.room) some
    ∙ ap (λ n. nat_le (length (section_bytes s)) n) room
    ∙ same_test (length (section_bytes s)) (length (car_bytes roots (first ∷ more))) size (section_some s)
    ∙ ap (λ n. nat_le n size) (sym (car_length roots (first ∷ more) s))

-- ---- files

map_push : {X Y : Type 0} (f : X → Y) (xs : List X) (x : X) → map f (xs ++ x ∷ []) ≡ map f xs ++ f x ∷ []
map_push f [] x = refl
map_push f (y ∷ xs) x = ap (λ l. f y ∷ l) (map_push f xs x)

files_push : (prefix : List ℕ) (n : ℕ) (bs : List (List ℕ)) (b : List ℕ) → part_files prefix n (bs ++ b ∷ []) ≡ part_files prefix n bs ++ (part_name prefix (n + length bs), b) ∷ []
files_push prefix n [] b = let e : n ≡ n + length {A = List ℕ} [] = omega arith in ap (λ k. (part_name prefix k, b) ∷ []) e
files_push prefix n (x ∷ bs) b =
    let e : n + 1 + length bs ≡ n + length (x ∷ bs) = omega arith in
    ap (λ l. (part_name prefix n, x) ∷ l) (files_push prefix (n + 1) bs b ∙ ap (λ k. part_files prefix (n + 1) bs ++ (part_name prefix k, b) ∷ []) e)

-- the files of these parts
abbrev pub files_of : List ℕ → List (List ℕ) → List (List Section) → List Named
files_of prefix roots closed = part_files prefix 0 (map (car_bytes roots) closed)

one_file : (prefix : List ℕ) (roots : List (List ℕ)) (closed : List (List Section)) (part : List Section) → files_of prefix roots (closed ++ part ∷ []) ≡ files_of prefix roots closed ++ (part_name prefix (length closed), car_bytes roots part) ∷ []
one_file prefix roots closed part =
    let e : 0 + length (map (car_bytes roots) closed) ≡ length closed = omega (arith, length-map closed (car_bytes roots)) in
    ap (part_files prefix 0) (map_push (car_bytes roots) closed part)
    ∙ files_push prefix 0 (map (car_bytes roots) closed) (car_bytes roots part)
    ∙ ap (λ k. files_of prefix roots closed ++ (part_name prefix k, car_bytes roots part) ∷ []) e

pub adds_none : (old : Option (List Named)) → AddsFiles old old []
adds_none old before is = is ∙ ap Some (sym (append-nil before))

appended : (old new : Option (List ℕ)) (x b : List ℕ) → old ≡ Some x → Appends old new b → new ≡ Some (x ++ b)
appended old new x b is h = by new (subst (λ o. Appends o new b) is h)
  where
    by : (now : Option (List ℕ)) → Appends (Some x) now b → now ≡ Some (x ++ b)
    by None k = absurd k
    by (Some y) k = ap Some k

-- ---- so far

-- How the sections taken so far are divided: these parts are finished, and this one is begun.
pub record Divided (plan : Plan) (roots : List (List ℕ)) (first : Option (List Named)) (w : Work) (done : List Section) : Type 0 where
  pub closed : List (List Section)
  pub part : List Section
  pub cut : (more : List Section) → parts plan.asked.now.size roots (done ++ more) ≡ closed ++ parts_from plan.asked.now.size roots part more
  pub plan_is : w.plan ≡ plan
  pub number_is : w.number ≡ length closed
  pub room_is : w.room ≡ plan.asked.now.size - length (car_bytes roots part)
  pub some : w.holds ≡ has_some part
  pub told : (before : List Named) → first ≡ Some before
      → (w.whole ≡ Some (before ++ files_of plan.asked.now.prefix.now roots closed)) × (w.written ≡ Some (car_bytes roots part))

module _ (plan : Plan) (roots : List (List ℕ)) (first : Option (List Named)) (header : plan.header.items ≡ header_bytes roots) where
  abbrev size : ℕ
  size = plan.asked.now.size

  abbrev prefix : List ℕ
  prefix = plan.asked.now.prefix.now

  pub none_yet : (w : Work) → w.plan ≡ plan → w.number ≡ 0 → w.room ≡ size - length plan.header.items → w.holds ≡ false → w.whole ≡ first → ((before : List Named) → first ≡ Some before → w.written ≡ Some plan.header.items) → Divided plan roots first w []
  none_yet w same number room none whole bytes = record {
    closed = [];
    part = [];
    cut = λ more. refl;
    plan_is = same;
    number_is = number;
    room_is = room ∙ ap (λ b. size - length b) (header ∙ sym (car_none roots));
    some = none;
    told = λ before is. (whole ∙ is ∙ ap Some (sym (append-nil before)), bytes before is ∙ ap Some (header ∙ sym (car_none roots)));
  }

  -- the section goes into the part that is begun
  joined : (s : Section) (old new : Work) (done : List Section) (h : Divided plan roots first old done) → fits size roots h.part s ≡ true → new.plan ≡ old.plan → new.whole ≡ old.whole → IsPut (section_bytes s) old new → Divided plan roots first new (done ++ s ∷ [])
  joined s old new done h is same whole put = record {
    closed = h.closed;
    part = h.part ++ s ∷ [];
    cut = λ more. ap (parts size roots) (append_assoc done (s ∷ []) more) ∙ h.cut (s ∷ more) ∙ ap (λ l. h.closed ++ l) (joins size roots h.part s more is);
    plan_is = same ∙ h.plan_is;
    number_is = put.number_same ∙ h.number_is;
    room_is = put.room_is ∙ ap (λ r. r - length (section_bytes s)) h.room_is ∙ omega (arith, car_length roots h.part s);
    some = put.some ∙ sym (some_push h.part s);
    told = λ before e. (whole ∙ (h.told before e).0, appended old.written new.written (car_bytes roots h.part) (section_bytes s) (h.told before e).1 put.bytes ∙ ap Some (sym (car_push roots h.part s)));
  }

  -- the part that was begun is finished
  finished : (old new : Work) (done : List Section) (h : Divided plan roots first old done) → IsFinished old new → AddsFiles first new.whole (files_of prefix roots (h.closed ++ h.part ∷ []))
  finished old new done h k before is =
      let t = h.told before is in
      let all = files_of prefix roots h.closed in
      let named : Plan → ℕ → List Named = λ p n. (part_name p.asked.now.prefix.now n, car_bytes roots h.part) ∷ [] in
      k (car_bytes roots h.part) t.1 (before ++ all) t.0
      ∙ ap Some (append_assoc before all (named old.plan old.number)
      ∙ ap (λ p. before ++ (all ++ named p old.number)) h.plan_is
      ∙ ap (λ n. before ++ (all ++ named plan n)) h.number_is
      ∙ ap (λ l. before ++ l) (sym (one_file prefix roots h.closed h.part)))

  -- it goes into the next
  begun : (s : Section) (old mid new : Work) (done : List Section) (h : Divided plan roots first old done) → fits size roots h.part s ≡ false → new.plan ≡ old.plan → IsNext old mid → new.whole ≡ mid.whole → IsPut (section_bytes s) mid new → Divided plan roots first new (done ++ s ∷ [])
  begun s old mid new done h is same next whole put = record {
    closed = h.closed ++ h.part ∷ [];
    part = s ∷ [];
    cut = λ more. ap (parts size roots) (append_assoc done (s ∷ []) more) ∙ h.cut (s ∷ more) ∙ ap (λ l. h.closed ++ l) (begins size roots h.part s more is) ∙ sym (append_assoc h.closed (h.part ∷ []) (parts_from size roots (s ∷ []) more));
    plan_is = same ∙ h.plan_is;
    number_is = put.number_same ∙ next.number_is ∙ ap (λ n. n + 1) h.number_is ∙ omega (arith, length-append h.closed (h.part ∷ []));
    room_is = put.room_is ∙ ap (λ r. r - length (section_bytes s)) (next.room_is ∙ ap (λ p. p.asked.now.size - length p.header.items) h.plan_is ∙ ap (λ b. size - length b) (header ∙ sym (car_none roots))) ∙ omega (arith, car_length roots [] s);
    some = put.some;
    told = λ before e.
        let f = finished old mid done h next.finished before e in (
          whole ∙ f,
          appended mid.written new.written (header_bytes roots) (section_bytes s) (next.bytes (before ++ files_of prefix roots (h.closed ++ h.part ∷ [])) f ∙ ap (λ p. Some p.header.items) h.plan_is ∙ ap Some header) put.bytes
              ∙ ap Some (ap (λ b. b ++ section_bytes s) (sym (car_none roots)) ∙ sym (car_push roots [] s)),
        );
  }

  pub one_more : (s : Section) (old new : Work) (done : List Section) → Divided plan roots first old done → SplitsSection s old (Ok tt) new → Divided plan roots first new (done ++ s ∷ [])
  one_more s old new done h k = by (fits size roots h.part s) refl
    where
      by : (b : Bool) → fits size roots h.part s ≡ b → Divided plan roots first new (done ++ s ∷ [])
      by true e =
          let same : k.2.0 ≡ old = subst (λ b. MatchBool b (k.2.0 ≡ old) (IsNext old k.2.0)) (fits_so old size roots h.part s h.some h.room_is ∙ e) k.2.1 in
          joined s old new done h e k.1 (k.2.2 ∙ ap (λ (w : Work). w.whole) same) (subst (λ w. IsPut (section_bytes s) w new) same k.2.3)
      by false e =
          let next : IsNext old k.2.0 = subst (λ b. MatchBool b (k.2.0 ≡ old) (IsNext old k.2.0)) (fits_so old size roots h.part s h.some h.room_is ∙ e) k.2.1 in
          begun s old k.2.0 new done h e k.1 next k.2.2 k.2.3

  -- ---- the parts that are finished

  -- the parts of the sections taken are those that are finished, and the one that is begun
  pub parts_now : (w : Work) (done : List Section) (h : Divided plan roots first w done) → parts size roots done ≡ h.closed ++ h.part ∷ []
  parts_now w done h = ap (parts size roots) (sym (append-nil done)) ∙ h.cut []

  -- if the next section does not fit, it begins one more part
  pub parts_next : (w : Work) (done : List Section) (s : Section) (h : Divided plan roots first w done) → goes_in w (length (section_bytes s)) ≡ false → parts size roots (done ++ s ∷ []) ≡ (h.closed ++ h.part ∷ []) ++ (s ∷ []) ∷ []
  parts_next w done s h full =
      h.cut (s ∷ []) ∙ ap (λ l. h.closed ++ l) (begins size roots h.part s [] (sym (fits_so w size roots h.part s h.some h.room_is) ∙ full)) ∙ sym (append_assoc h.closed (h.part ∷ []) ((s ∷ []) ∷ []))

  pub files_now : (w : Work) (done : List Section) (h : Divided plan roots first w done) → files_of prefix roots (parts size roots done) ≡ files_of prefix roots h.closed ++ (part_name prefix (length h.closed), car_bytes roots h.part) ∷ []
  files_now w done h = ap (files_of prefix roots) (parts_now w done h) ∙ one_file prefix roots h.closed h.part

  pub files_next : (w : Work) (done : List Section) (s : Section) (h : Divided plan roots first w done) → goes_in w (length (section_bytes s)) ≡ false → files_of prefix roots (parts size roots (done ++ s ∷ [])) ≡ files_of prefix roots (h.closed ++ h.part ∷ []) ++ (part_name prefix (length h.closed + 1), car_bytes roots (s ∷ [])) ∷ []
  files_next w done s h full =
      let e : length (h.closed ++ h.part ∷ []) ≡ length h.closed + 1 = omega (arith, length-append h.closed (h.part ∷ [])) in
      ap (files_of prefix roots) (parts_next w done s h full) ∙ one_file prefix roots (h.closed ++ h.part ∷ []) (s ∷ [])
      ∙ ap (λ n. files_of prefix roots (h.closed ++ h.part ∷ []) ++ (part_name prefix n, car_bytes roots (s ∷ [])) ∷ []) e

  pub whole_now : (w : Work) (done : List Section) (h : Divided plan roots first w done) → AddsFiles first w.whole (files_of prefix roots h.closed)
  whole_now w done h before is = (h.told before is).0

  pub whole_next : (old new : Work) (done : List Section) (h : Divided plan roots first old done) → IsFinished old new → AddsFiles first new.whole (files_of prefix roots (h.closed ++ h.part ∷ []))
  whole_next old new done h k = finished old new done h k

-- ---- one section

-- the bytes of a section were written if there is room for them, or writing failed
pub put_so : (s : Section) (n : ℕ) (b : List ℕ) (old mid new : Work) (r : Result (Unit {0}) PartFault) → n ≡ length (section_bytes s) → b ≡ section_bytes s → MakesRoom n old (Ok tt) mid → PutsBytes b mid r new → SplitsSection s old r new
put_so s n b old mid new (Ok u) length_is is h k = (
  k.0 ∙ h.0,
  k.1 ∙ h.1,
  (mid, subst (λ m. HasRoom old m mid) length_is h.2, k.2, subst (λ x. IsPut x mid new) is k.3),
)
put_so s n b old mid new (Err why) length_is is h k = (k.0 ∙ h.0, k.1 ∙ h.1, by (goes_in old (length (section_bytes s))) refl)
  where
    by : (t : Bool) → goes_in old (length (section_bytes s)) ≡ t → ((new.whole ≡ old.whole) × ((e : ToolError) × (why ≡ Failed e))) ⊎ ((goes_in old (length (section_bytes s)) ≡ false) × IsFinished old new × IsFaultOf old.plan (old.number + 1) new.has why)
    by true e =
        let same : mid ≡ old = subst (λ t. MatchBool t (mid ≡ old) (IsNext old mid)) (ap (goes_in old) length_is ∙ e) h.2 in
        inl (k.2 ∙ ap (λ (w : Work). w.whole) same, k.3)
    by false e =
        let next : IsNext old mid = subst (λ t. MatchBool t (mid ≡ old) (IsNext old mid)) (ap (goes_in old) length_is ∙ e) h.2 in
        inr (e, (λ x at before first. k.2 ∙ next.finished x at before first), subst (IsFaultOf old.plan (old.number + 1) new.has) (sym k.3.1) tt)
