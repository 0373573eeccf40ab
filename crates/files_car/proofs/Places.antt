-- A place in a file of either version, after some of its sections.
use Rattle.std.proofs.Common.{◌≡◌, inl, inr, ℕ, ◌+◌, ◌<◌, List, [], ◌∷◌, ◌++◌, length, length-append, take, drop, refl, sym, ap, ap₂, ◌∙◌, subst, arith, append_assoc, append-nil, Option, None, Some, option_map, flat_map}
use lib.Seq.{drop-append-add}
use Rattle.std.specs.List.{AllByRecursion}
use Rattle.dagcbor_heads.specs.Reading.{Reading, Stays}
use Rattle.dagcbor_heads.proofs.Taking.{stays}
use Rattle.files_car.specs.Car.{header_bytes, Section, section_bytes, car_bytes, IsHeader, IsSection, IsCar}
use Rattle.files_car.specs.Splits.{SplitsSection, BeginsNoSection}
use Rattle.files_car.specs.Versions.{IsVersion2, begin_of, length_of, HasSpan, HoldsCar, IsFile}
use Rattle.files_car.specs.Extents.{bytes_within, wanting, Spends, EndsThere}
use Rattle.files_car.specs.Sources.{IsStartOfFile, RefusesStart, RefusesNext}
use Rattle.files_car.specs.Checks.{IsCarFront, IsFileFront, IsNoFile, StandAfter}
use Rattle.files_car.specs.declared.error.CarError.{CarError}
use Rattle.files_car.proofs.Cars.{section_unique, section_some, header_unique}
use Rattle.files_car.proofs.Spending.{within_after, wanting_after}
use Rattle.files_car.proofs.Starting.{holds_one, no_span, start_holds, start_after, start_all}

-- ---- one section more

pub flat_push : (ss : List Section) (s : Section) → flat_map section_bytes (ss ++ s ∷ []) ≡ flat_map section_bytes ss ++ section_bytes s
flat_push [] s = append-nil (section_bytes s)
flat_push (x ∷ ss) s = ap (λ more. section_bytes x ++ more) (flat_push ss s) ∙ sym (append_assoc (section_bytes x) (flat_map section_bytes ss) (section_bytes s))

all_push : (ss : List Section) (s : Section) → AllByRecursion IsSection ss → IsSection s → AllByRecursion IsSection (ss ++ s ∷ [])
all_push [] s h p = (p, tt)
all_push (x ∷ ss) s h p = (h.0, all_push ss s h.1 p)

front_begun : (rest : List ℕ) (roots : List (List ℕ)) → IsHeader roots → IsCarFront (header_bytes roots ++ rest) roots [] rest
front_begun rest roots h = record { header = h; all = tt; is = ap (λ x. x ++ rest) (sym (append-nil (header_bytes roots))) }

front_more : (b rest following : List ℕ) (roots : List (List ℕ)) (ss : List Section) (s : Section) → IsCarFront b roots ss rest → SplitsSection rest s following → IsCarFront b roots (ss ++ s ∷ []) following
front_more b rest following roots ss s h k = record {
  header = h.header;
  all = all_push ss s h.all k.0;
  is =
      h.is
      ∙ ap (λ r. car_bytes roots ss ++ r) k.1
      ∙ sym (append_assoc (car_bytes roots ss) (section_bytes s) following)
      ∙ ap (λ x. x ++ following) (append_assoc (header_bytes roots) (flat_map section_bytes ss) (section_bytes s) ∙ ap (λ x. header_bytes roots ++ x) (sym (flat_push ss s)));
}

whole_car : (b rest : List ℕ) (roots : List (List ℕ)) (ss : List Section) → rest ≡ [] → IsCarFront b roots ss rest → IsCar b roots ss
whole_car b rest roots ss none h = record { header = h.header; all = h.all; is = h.is ∙ ap (λ r. car_bytes roots ss ++ r) none ∙ append-nil (car_bytes roots ss) }

-- ---- bytes that are not a file

-- after the same sections, the rest is other sections
pub others_after : (ss ts : List Section) (rest : List ℕ) → AllByRecursion IsSection ss → AllByRecursion IsSection ts → flat_map section_bytes ss ++ rest ≡ flat_map section_bytes ts
    → (more : List Section) × AllByRecursion IsSection more × (rest ≡ flat_map section_bytes more) × (ts ≡ ss ++ more)
others_after [] ts rest p q e = (ts, q, e, refl)
others_after (s ∷ ss) [] rest p q e = absurd (omega (arith, ap length e, section_some s p.0, length-append (section_bytes s ++ flat_map section_bytes ss) rest, length-append (section_bytes s) (flat_map section_bytes ss)))
others_after (s ∷ ss) (t ∷ ts) rest p q e =
    let first = section_unique s t (flat_map section_bytes ss ++ rest) (flat_map section_bytes ts) p.0 q.0 (sym (append_assoc (section_bytes s) (flat_map section_bytes ss) rest) ∙ e) in
    let w = others_after ss ts rest p.1 q.1 first.1 in
    (w.0, w.1, w.2, ap₂ (λ x xs. x ∷ xs) (sym first.0) w.3)

-- the sections are followed by others up to the end
no_car_after : (b rest : List ℕ) (roots : List (List ℕ)) (ss : List Section) → IsCarFront b roots ss rest → 0 < length rest → BeginsNoSection rest → (others : List (List ℕ)) (ts : List Section) → IsCar b others ts → ⊥
no_car_after b rest roots ss h some none others ts car =
    let same = header_unique roots others (flat_map section_bytes ss ++ rest) (flat_map section_bytes ts) h.header car.header (sym (append_assoc (header_bytes roots) (flat_map section_bytes ss) rest) ∙ sym h.is ∙ car.is) in
    let w = others_after ss ts rest h.all car.all same.1 in
    first w.0 w.1 w.2
  where
    first : (more : List Section) → AllByRecursion IsSection more → rest ≡ flat_map section_bytes more → ⊥
    first [] a e = omega (arith, some, ap length e)
    first (s ∷ more) a e = none s (flat_map section_bytes more) (a.0, e)

pub no_file : {E : Type 0} (e : CarError E) (b : List ℕ) → RefusesStart e b → IsNoFile b
no_file {E} e b (inl f) roots ss file = no_span {E = E} e b f file.0 file.1
no_file e b (inr w) roots ss file =
    let same = holds_one b file.0 w.0 0 w.1 file.1 w.2 in
    w.3.0 roots (flat_map section_bytes ss) (file.2.header, sym same.0 ∙ file.2.is)

-- ---- a place in a file

-- After the header and these sections this is left of the bytes, and so much of the file.
pub record IsPlace (b : List ℕ) (roots : List (List ℕ)) (ss : List Section) (extent : Option ℕ) (rest : List ℕ) : Type 0 where
  pub car : List ℕ
  pub inside : HoldsCar b car (wanting extent rest)
  pub front : IsCarFront car roots ss (bytes_within extent rest)
  pub following : (n : ℕ) → extent ≡ Some n → HasSpan b × (drop (begin_of b + length_of b) b ≡ drop n rest)
  pub all : extent ≡ None → IsVersion2 b → ⊥

pub place_begun : (front rest : List ℕ) (roots : List (List ℕ)) (extent : Option ℕ) → IsHeader roots → IsStartOfFile front roots extent → IsPlace (front ++ rest) roots [] extent rest
place_begun front rest roots extent header start = record {
  car = header_bytes roots ++ bytes_within extent rest;
  inside = start_holds front rest roots extent header start;
  front = front_begun (bytes_within extent rest) roots header;
  following = start_after front rest roots extent start;
  all = start_all front rest roots extent header start;
}

drop_spent : (m : ℕ) (front rest : List ℕ) → drop (m + length front) (front ++ rest) ≡ drop m rest
drop_spent m front rest =
    let sum : m + length front ≡ length front + m = omega arith in
    ap (λ n. drop n (front ++ rest)) sum ∙ drop-append-add front rest m

pub place_more : (b rest : List ℕ) (roots : List (List ℕ)) (ss : List Section) (extent more : Option ℕ) (s : Section) → IsPlace b roots ss extent (section_bytes s ++ rest) → IsSection s → Spends extent (length (section_bytes s)) more → IsPlace b roots (ss ++ s ∷ []) more rest
place_more b rest roots ss extent more s h is e = record {
  car = h.car;
  inside = subst (λ n. HoldsCar b h.car n) (sym (wanting_after extent more (section_bytes s) rest e)) h.inside;
  front = front_more h.car (bytes_within extent (section_bytes s ++ rest)) (bytes_within more rest) roots ss s h.front (is, within_after extent more (section_bytes s) rest e);
  following = λ m l. let k = h.following (m + length (section_bytes s)) (e ∙ ap (option_map (λ j. j + length (section_bytes s))) l) in (k.0, k.1 ∙ drop_spent m (section_bytes s) rest);
  all = λ l. h.all (e ∙ ap (option_map (λ j. j + length (section_bytes s))) l);
}

pub place_none : {E : Type 0} (e : CarError E) (b rest : List ℕ) (roots : List (List ℕ)) (ss : List Section) (extent : Option ℕ) → IsPlace b roots ss extent rest → RefusesNext extent e rest → IsNoFile b
place_none e b rest roots ss extent h r others ts file =
    let same = holds_one b file.0 h.car 0 (wanting extent rest) file.1 h.inside in
    no_car_after h.car (bytes_within extent rest) roots ss h.front (omega (arith, r.0, same.1)) r.1 others ts (subst (λ c. IsCar c others ts) same.0 file.2)

-- the front of the file, without the bytes after it
pub place_front : (b rest : List ℕ) (roots : List (List ℕ)) (ss : List Section) (extent : Option ℕ) → IsPlace b roots ss extent rest → IsFileFront b roots ss (wanting extent rest) (bytes_within extent rest)
place_front b rest roots ss extent h = (h.car, h.inside, h.front)

-- at the end of a file none of its bytes is left or missing
pub ended : (extent more : Option ℕ) (mid now : Reading) (rest : List ℕ) → EndsThere extent mid more now → mid.left ≡ Some rest → (bytes_within extent rest ≡ []) × (wanting extent rest ≡ 0) × (now.left ≡ Some rest)
ended None more mid now rest h l = (h.0.none_left rest l, refl, h.0.kept rest l)
ended (Some n) more mid now rest h l = (ap (λ k. take k rest) h.0, omega (arith, h.0), ap (λ r. r.left) h.1 ∙ l)

pub ends_same : (extent more : Option ℕ) (mid now : Reading) → EndsThere extent mid more now → Stays mid now
ends_same None more mid now h = h.0.same
ends_same (Some n) more mid now h = subst (Stays mid) (sym h.1) (stays mid)

pub place_whole : (b rest : List ℕ) (roots : List (List ℕ)) (ss : List Section) (extent more : Option ℕ) (mid now : Reading) → IsPlace b roots ss extent rest → EndsThere extent mid more now → mid.left ≡ Some rest → IsFile b roots ss
place_whole b rest roots ss extent more mid now h end l =
    let e = ended extent more mid now rest end l in
    (h.car, subst (λ n. HoldsCar b h.car n) e.1 h.inside, whole_car h.car (bytes_within extent rest) roots ss e.0 h.front)

-- the bytes after the file
pub place_end : (b rest : List ℕ) (roots : List (List ℕ)) (ss : List Section) (extent more : Option ℕ) (mid now : Reading) → IsPlace b roots ss extent rest → EndsThere extent mid more now → mid.left ≡ Some rest → StandAfter b rest
place_end b rest roots ss None more mid now h end l = inl (h.all refl, end.0.none_left rest l)
place_end b rest roots ss (Some n) more mid now h end l = let k = h.following n refl in inr (k.0, sym (k.1 ∙ ap (λ j. drop j rest) end.0))
