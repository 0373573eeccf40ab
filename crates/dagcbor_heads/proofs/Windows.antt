-- Copies of a source's first bytes, and what is known of its bytes after those that were taken.
use Rattle.std.proofs.Common.{◌≡◌, ℕ, ◌+◌, ◌-◌, ◌<◌, ◌≤◌, min, List, [], ◌∷◌, ◌++◌, length, take, drop, Bool, true, false, ◌&&◌, Option, None, Some, IfSome, refl, sym, ap, ap₂, subst, ◌∙◌, arith, length-append, append_assoc, length-take, length-drop, drop-drop, take-append-drop, le-leb, bytes_eq, nat_le, if◌then◌else◌, MatchOption, MatchBool}
use Rattle.std.proofs.lemmas.List.{take_min, take-append-le, drop-append-le}
use Rattle.std.proofs.lemmas.Slice.Eq.{bytes_eq-Decides}
use Rattle.std.proofs.Math.Facts.{leb_yes}
use Rattle.std.proofs.lemmas.Float.{T_from_true}
use Rattle.std.specs.Io.BufRead.{DropsConsumable}
use Rattle.dagcbor_core.specs.Head.{head}
use Rattle.dagcbor_core.specs.Splits.{SplitsHead}
use Rattle.dagcbor_heads.specs.IoReading.{bytes_told, may_consume, BeginsWithHeadOf, Refills, TakesHeadOf, Windowed}
use Rattle.dagcbor_heads.specs.Reading.{Reading, Stays}
use Rattle.dagcbor_heads.specs.Fronts.{TakesHead, TakesSome}
use Rattle.dagcbor_heads.specs.Looking.{LooksAtTaken}
use Rattle.std.proofs.Math.Seq.{drop-append_seam}
use Rattle.dagcbor_core.proofs.HeadForms.{begins}
use Rattle.dagcbor_heads.proofs.Slices.{head_short}
use Rattle.dagcbor_heads.proofs.Taking.{shown_whole, take_of_shown}

-- ---- what is known of the bytes

both : (a b : Bool) → (a && b) ≡ true → (a ≡ true) × (b ≡ true)
both true b e = (refl, e)
both false b e = absurd (cc e)

if_some : (u : Bool) (x : List ℕ) (P : List ℕ → Type 0) → (u ≡ true → P x) → IfSome (if u then Some x else None) P
if_some true x P f = f refl
if_some false x P f = tt

may_within : (most : Option ℕ) (n : ℕ) → may_consume n most ≡ true → IfSome most (λ k. n ≤ k)
may_within None n e = tt
may_within (Some k) n e = leb_yes (T_from_true (nat_le n k) e)

within_may : (most : Option ℕ) (n : ℕ) → IfSome most (λ k. n ≤ k) → may_consume n most ≡ true
within_may None n e = refl
within_may (Some k) n e = le-leb n k e

-- what is known of copies whose source is known: they are its beginning, and may be consumed
pub record Told (copies : List ℕ) (taken : ℕ) (source : Option (List ℕ)) (most : Option ℕ) (x : List ℕ) : Type 0 where
  pub b : List ℕ
  pub source_is : source ≡ Some b
  pub begins : take (length copies) b ≡ copies
  pub may : may_consume (length copies) most ≡ true
  pub is : x ≡ drop taken b

some_is : {x y : List ℕ} → ◌≡◌ {A = Option (List ℕ)} (Some x) (Some y) → x ≡ y
some_is e = cc e

pub told_of : (copies : List ℕ) (taken : ℕ) (source : Option (List ℕ)) (most : Option ℕ) (x : List ℕ) → bytes_told copies taken source most ≡ Some x → Told copies taken source most x
told_of copies taken None most x e = absurd (cc e)
told_of copies taken (Some b) most x e = by (bytes_eq (take (length copies) b) copies && may_consume (length copies) most) refl e
  where
    by : (u : Bool) → u ≡ (bytes_eq (take (length copies) b) copies && may_consume (length copies) most) → (if u then Some (drop taken b) else None) ≡ Some x → Told copies taken (Some b) most x
    by true is e = let k = both _ _ (sym is) in record {
      b = b;
      source_is = refl;
      begins = (bytes_eq-Decides (take (length copies) b) copies).0 k.0;
      may = k.1;
      is = sym (some_is e);
    }
    by false is e = absurd (cc e)

pub told_is : (copies : List ℕ) (taken : ℕ) (b : List ℕ) (most : Option ℕ) → take (length copies) b ≡ copies → may_consume (length copies) most ≡ true → bytes_told copies taken (Some b) most ≡ Some (drop taken b)
told_is copies taken b most e may = ap₂ (λ (u v : Bool). if u && v then Some (drop taken b) else None) ((bytes_eq-Decides (take (length copies) b) copies).1 e) may

-- ---- a fill

filled_at : (x : List ℕ) (most : Option ℕ) (s c : List ℕ) (k : ℕ) → take (length s) x ≡ s → (length s ≡ 0 → x ≡ []) → IfSome most (λ n. length s ≤ n) → c ≡ take k s → (length c ≡ 0 → length s ≡ 0)
    → (bytes_told c 0 (Some x) most ≡ Some x) × (length c ≡ 0 → x ≡ [])
filled_at x most s c k front end limit is some =
    let long = ap length is ∙ length-take k s in (
      told_is c 0 x most
          (take_of_shown x s (length c) front (omega (arith, long)) ∙ ap (λ n. take n s) long ∙ take_min k s ∙ sym is)
          (within_may most (length c) (fewer most limit (omega (arith, long)))),
      λ none. end (some none),
    )
  where
    fewer : (most : Option ℕ) → IfSome most (λ n. length s ≤ n) → length c ≤ length s → IfSome most (λ n. length c ≤ n)
    fewer None h few = tt
    fewer (Some n) h few = omega (arith, h, few)

pub fill_told : (copies : List ℕ) (taken : ℕ) (source mid new : Option (List ℕ)) (before after : Option ℕ) (s c : List ℕ) (k : ℕ)
    → taken ≡ length copies → DropsConsumable source mid before taken → IfSome mid (λ x. take (length s) x ≡ s) → IfSome mid (λ x. length s ≡ 0 → x ≡ []) → IfSome mid (λ x. new ≡ Some x)
    → IfSome mid (λ x. IfSome after (λ n. length s ≤ n)) → c ≡ take k s → (length c ≡ 0 → length s ≡ 0)
    → IfSome (bytes_told copies taken source before) (λ b. (bytes_told c 0 new after ≡ Some b) × (length c ≡ 0 → b ≡ []))
fill_told copies taken None mid new before after s c k all drops front end kept limit is some = tt
fill_told copies taken (Some b) mid new before after s c k all drops front end kept limit is some =
    if_some (bytes_eq (take (length copies) b) copies && may_consume (length copies) before) (drop taken b) _ (λ ok. at_mid mid
    (drops (may_within before taken (subst (λ n. may_consume n before ≡ true) (sym all) (both _ _ ok).1))) front end kept limit)
  where
    at_mid : (mid : Option (List ℕ)) → mid ≡ Some (drop taken b) → IfSome mid (λ x. take (length s) x ≡ s) → IfSome mid (λ x. length s ≡ 0 → x ≡ []) → IfSome mid (λ x. new ≡ Some x)
        → IfSome mid (λ x. IfSome after (λ n. length s ≤ n)) → (bytes_told c 0 new after ≡ Some (drop taken b)) × (length c ≡ 0 → drop taken b ≡ [])
    at_mid None e front end kept limit = absurd (cc e)
    at_mid (Some x) e front end kept limit = subst (λ y. (bytes_told c 0 new after ≡ Some y) × (length c ≡ 0 → y ≡ [])) (some_is e)
        (subst (λ o. (bytes_told c 0 o after ≡ Some x) × (length c ≡ 0 → x ≡ [])) (sym kept) (filled_at x after s c k front end limit is some))

-- ---- what is taken

-- the bytes that are left begin with what was copied and not taken
pub copied_first : (copies x : List ℕ) (taken : ℕ) (source : Option (List ℕ)) (most : Option ℕ) → taken ≤ length copies → bytes_told copies taken source most ≡ Some x → (rest : List ℕ) × (x ≡ drop taken copies ++ rest)
copied_first copies x taken source most few e =
    let t = told_of copies taken source most x e in
    let rest = drop (length copies) t.b in
    (rest, t.is ∙ ap (drop taken) (shown_whole t.b copies t.begins) ∙ drop-append-le taken copies rest few)

-- what is at hand begins the bytes that are left
pub at_hand_first : {left : Option (List ℕ)} (s : List ℕ) (w : Windowed) (source : Option (List ℕ)) (most : Option ℕ) → left ≡ bytes_told w.copies w.taken source most → w.taken ≤ length w.copies → s ≡ drop w.taken w.copies
    → (b : List ℕ) → left ≡ Some b → (rest : List ℕ) × (b ≡ s ++ rest)
at_hand_first {left} s w source most before within is b l =
    let k = copied_first w.copies b w.taken source most within (sym before ∙ l) in
    (k.0, k.1 ∙ ap (λ x. x ++ k.0) (sym is))

pub more_taken : (copies x : List ℕ) (taken : ℕ) (source : Option (List ℕ)) (most : Option ℕ) (n : ℕ) → bytes_told copies taken source most ≡ Some x → bytes_told copies (taken + n) source most ≡ Some (drop n x)
more_taken copies x taken source most n e =
    let t = told_of copies taken source most x e in
    subst (λ o. bytes_told copies (taken + n) o most ≡ Some (drop n x)) (sym t.source_is)
    (told_is copies (taken + n) t.b most t.begins t.may ∙ ap Some (sym (drop-drop n taken t.b) ∙ ap (drop n) (sym t.is)))

-- ---- a head

pub head_begins : {b following : List ℕ} {first major argument : ℕ} (rest : List ℕ) → b ≡ first ∷ following → SplitsHead b major argument rest → BeginsWithHeadOf b major argument first (length b - length rest)
head_begins {b} {following} {first} {major} {argument} rest e h = record {
  major_fits = h.0;
  argument_fits = h.1;
  major_of_first = (begins first following major argument rest h.1 (sym e ∙ h.2)).major_is;
  counted = omega (arith, ap length h.2, length-append (head major argument) rest);
  short = omega (arith, ap length h.2, length-append (head major argument) rest, head_short major argument h.1);
  rest = rest;
  is = h.2;
  more = following;
  starts = e;
}

-- ---- what is shown

-- a beginning of what was copied and not taken is shown
pub shown_told : (copies x : List ℕ) (taken : ℕ) (source : Option (List ℕ)) (most : Option ℕ) (want : ℕ) → taken ≤ length copies → bytes_told copies taken source most ≡ Some x
    → take (length (take want (drop taken copies))) x ≡ take want (drop taken copies)
shown_told copies x taken source most want few e =
    let k = copied_first copies x taken source most few e in
    let following = drop taken copies in
    ap (take (length (take want following))) k.1 ∙ take-append-le _ following k.0 (let l = length-take want following in omega (arith, l))
    ∙ ap (λ n. take n following) (length-take want following) ∙ take_min want following

if_told : (o : Option (List ℕ)) (P : List ℕ → Type 0) → ((x : List ℕ) → o ≡ Some x → P x) → IfSome o P
if_told None P f = tt
if_told (Some x) P f = f x refl

pub shown_copies : (copies : List ℕ) (taken : ℕ) (source : Option (List ℕ)) (most : Option ℕ) (old : Option (List ℕ)) (want : ℕ) → taken ≤ length copies
    → IfSome old (λ b. (bytes_told copies taken source most ≡ Some b) × (length (drop taken copies) ≡ 0 → b ≡ []))
    → Refills old (bytes_told copies taken source most) want (take want (drop taken copies))
shown_copies copies taken source most old want few h = record {
  kept = kept old h;
  begins = if_told (bytes_told copies taken source most) _ (λ x e. shown_told copies x taken source most want few e);
  end = end old h;
}
  where
    kept : (old : Option (List ℕ)) → IfSome old (λ b. (bytes_told copies taken source most ≡ Some b) × (length (drop taken copies) ≡ 0 → b ≡ [])) → IfSome old (λ b. bytes_told copies taken source most ≡ Some b)
    kept None h = tt
    kept (Some b) h = h.0

    end : (old : Option (List ℕ)) → IfSome old (λ b. (bytes_told copies taken source most ≡ Some b) × (length (drop taken copies) ≡ 0 → b ≡ [])) → IfSome old (λ b. 0 < want → length (take want (drop taken copies)) ≡ 0 → b ≡ [])
    end None h = tt
    end (Some b) h = λ some none. h.1 (let l = length-take want (drop taken copies) in omega (arith, l, some, none))

pub shown_window : (old : Option (List ℕ)) (source : Option (List ℕ)) (most : Option ℕ) (want : ℕ) (mid new : Windowed)
    → new ≡ record {
      copies = mid.copies;
      taken = mid.taken;
      shown = take want (drop mid.taken mid.copies);
      faults = mid.faults;
      looked = mid.looked + min want (length (drop mid.taken mid.copies));
    }
    → mid.taken ≤ length mid.copies → IfSome old (λ b. (bytes_told mid.copies mid.taken source most ≡ Some b) × (length (drop mid.taken mid.copies) ≡ 0 → b ≡ []))
    → Refills old (bytes_told new.copies new.taken source most) want new.shown × (new.faults ≡ mid.faults) × (new.looked ≡ mid.looked + min want (length new.shown))
shown_window old source most want mid new e few h = subst
    (λ w. Refills old (bytes_told w.copies w.taken source most) want w.shown × (w.faults ≡ mid.faults) × (w.looked ≡ mid.looked + min want (length w.shown)))
    (sym e) (
      shown_copies mid.copies mid.taken source most old want few h,
      refl,
      let l = length-take want (drop mid.taken mid.copies) in omega (arith, l),
    )

-- ---- a head that is taken

module _ (old new : Reading) (w after : Windowed) (source : Option (List ℕ)) (most : Option ℕ) (before : old.left ≡ bytes_told w.copies w.taken source most) (following : new.left ≡ bytes_told after.copies after.taken source most) where
  rest_of : {major argument first : ℕ} → TakesHeadOf w major argument first after → (b : List ℕ) → old.left ≡ Some b
      → (rest : List ℕ) × (b ≡ head major argument ++ rest) × (new.left ≡ Some rest) × ((more : List ℕ) × (b ≡ first ∷ more))
  rest_of {major} {argument} {first} h b l =
      let f = h.found in
      let k = copied_first w.copies b w.taken source most (omega (arith, ap length f.starts, length-drop w.taken w.copies)) (sym before ∙ l) in
      let e : b ≡ head major argument ++ (f.rest ++ k.0) = k.1 ∙ ap (λ s. s ++ k.0) f.is ∙ append_assoc (head major argument) f.rest k.0 in
      let m = more_taken w.copies b w.taken source most h.count (sym before ∙ l) in
      let past : drop h.count b ≡ f.rest ++ k.0 = ap₂ (λ n s. drop n s) f.counted e ∙ drop-append_seam (head major argument) (f.rest ++ k.0) in
      (f.rest ++ k.0, e, following ∙ ap (λ (v : Windowed). bytes_told v.copies v.taken source most) h.is ∙ m ∙ ap Some past, (f.more ++ k.0, k.1 ∙ ap (λ s. s ++ k.0) f.starts))

  head_taken : {major argument first : ℕ} → Stays old new → TakesHeadOf w major argument first after → TakesHead old major argument first new
  head_taken {major} {argument} {first} same h = record {
    major_fits = h.found.major_fits;
    argument_fits = h.found.argument_fits;
    major_of_first = h.found.major_of_first;
    starts = λ b l. (rest_of h b l).3;
    takes = record { taken = λ b l. (let k = rest_of h b l in (k.0, k.1, k.2)); same = same };
  }

  head_looked : {major argument first : ℕ} → old.looked ≡ w.looked → new.looked ≡ after.looked → new.shown ≡ after.shown → TakesHeadOf w major argument first after → LooksAtTaken 2 0 old new
  head_looked {major} {argument} {first} was is shown h = record {
    grows = omega (arith, was, is, ap (λ (v : Windowed). v.looked) h.is);
    most = λ b l.
        let k = rest_of h b l in
        (k.0, h.count, k.2, omega (arith, ap length k.1, length-append (head major argument) k.0, h.found.counted), omega (arith, was, is, ap (λ (v : Windowed). v.looked) h.is));
    none_shown = shown ∙ ap (λ (v : Windowed). v.shown) h.is;
  }

  pub head_at_once : (found : Option (ℕ × ℕ × ℕ)) → Stays old new → (after ≡ w → new ≡ old) → MatchOption found (after ≡ w) (λ h. TakesHeadOf w h.0 h.1 h.2 after)
      → MatchOption found (new ≡ old) (λ h. TakesHead old h.0 h.1 h.2 new)
  head_at_once None same none h = none h
  head_at_once (Some x) same none h = head_taken same h

  pub head_at_once_looked : (found : Option (ℕ × ℕ × ℕ)) → old.looked ≡ w.looked → new.looked ≡ after.looked → new.shown ≡ after.shown → MatchOption found (after ≡ w) (λ h. TakesHeadOf w h.0 h.1 h.2 after)
      → IfSome found (λ h. LooksAtTaken 2 0 old new)
  head_at_once_looked None was is shown h = tt
  head_at_once_looked (Some x) was is shown h = head_looked was is shown h

  some_taken : (n : ℕ) → Stays old new → w.taken ≤ length w.copies → n ≤ length (drop w.taken w.copies) → after ≡ record {
    copies = w.copies;
    taken = w.taken + n;
    shown = [];
    faults = w.faults;
    looked = w.looked + n;
  } → old.looked ≡ w.looked → new.looked ≡ after.looked → new.shown ≡ after.shown → TakesSome n old new
  some_taken n same within few e was is shown =
      let x = drop w.taken w.copies in record {
        bytes = take n x;
        counted = (let l = length-take n x in omega (arith, l, few));
        takes = record {
          taken = λ b l. (
              let k = copied_first w.copies b w.taken source most within (sym before ∙ l) in (
                drop n b,
                sym (take-append-drop n b) ∙ ap (λ s. s ++ drop n b) (ap (take n) k.1 ∙ take-append-le n x k.0 few),
                following ∙ ap (λ (v : Windowed). bytes_told v.copies v.taken source most) e ∙ more_taken w.copies b w.taken source most n (sym before ∙ l),
              )
              );
          same = same;
        };
        looked = omega (arith, was, is, ap (λ (v : Windowed). v.looked) e);
        none_shown = shown ∙ ap (λ (v : Windowed). v.shown) e;
      }

  pub taken_at_hand : (done : Bool) (n : ℕ) → Stays old new → (after ≡ w → new ≡ old) → w.taken ≤ length w.copies → old.looked ≡ w.looked → new.looked ≡ after.looked → new.shown ≡ after.shown
      → MatchBool done ((n ≤ length (drop w.taken w.copies)) × (after ≡ record {
        copies = w.copies;
        taken = w.taken + n;
        shown = [];
        faults = w.faults;
        looked = w.looked + n;
      })) (after ≡ w) → MatchBool done (TakesSome n old new) (new ≡ old)
  taken_at_hand true n same none within was is shown h = some_taken n same within h.0 h.1 was is shown
  taken_at_hand false n same none within was is shown h = none h
