-- What a filter writes.
use Rattle.std.proofs.Common.{◌≡◌, inl, inr, ℕ, ◌==◌, List, [], ◌∷◌, ◌++◌, length, append-nil, append_assoc, take, get_or, ◌+◌, ◌<◌, Bool, true, false, if◌then◌else◌, refl, sym, ap, ◌∙◌, subst, Option, Some, Result, Ok, Err, MatchResult, IsErrAnd, flat_map, map}
use Rattle.std.specs.List.{filter}
use Rattle.std.proofs.lemmas.List.{take_more}
use Rattle.std.specs.BTreeSet.{insert_key}
use Rattle.std.proofs.lemmas.Grind.{flat_map-append}
use Rattle.std.proofs.lemmas.List.Elements.{filter-append}
use Rattle.std.specs.Io.KnownBytes.{Appends}
use Rattle.std.proofs.KnownBytes.{Appends-nil, Appends-trans}
use Rattle.ipld_tree.specs.Cid.{CidParts, cid_cmp}
use Rattle.dagcbor_items.specs.Walks.{forms}
use Rattle.files_car.specs.Car.{Section, section_bytes, header_bytes, car_bytes}
use Rattle.files_car.specs.Versions.{IsFile}
use Rattle.files_car.specs.Checks.{IsFileFront}
use Rattle.files_car.specs.Each.{SinkTakes}
use Rattle.dagcbor_heads.specs.Reading.{Reading}
use Rattle.files_car.specs.Extents.{bytes_within, wanting}
use Rattle.files_car.specs.Sources.{RefusesStart, TakesStart}
use Rattle.files_car.proofs.Places.{place_front, no_file}
use Rattle.program_parts.specs.Lines.{missing_line, refused_line, TextFails, SaysLines}
use Rattle.program_inspect.specs.Names.{distinct}
use Rattle.program_inspect.proofs.Counting.{distinct_push, map_push}
use Rattle.program_parts.specs.Taking.{TookEach, TakesFileFront, EndsAt}
use Rattle.program_parts.proofs.Taking.{took_knows, left_begun, alone, alone_line, header_alone}
use Rattle.program_parts.proofs.Saying.{text_breaks}
use Rattle.program_parts.specs.Taking.{IsOfBytes}
use Rattle.files_car.specs.Sources.{CarRefuses}
use Rattle.program_parts.specs.declared.take.Ended.{Ended}
use Rattle.program_parts.specs.declared.take.Ended.TheVariants as ended
use Rattle.files_car.specs.declared.error.CarError.{CarError}
use Rattle.program_shared.specs.declared.fault.ToolError.{ToolError}
use Rattle.program_sections.specs.Kept.{keeps, kept_sections, roots_of, found_in, missing_of}
use Rattle.program_sections.specs.Sending.{SaysSent}
use Rattle.program_sections.specs.Filtering.{filtered, missing_in, IsFiltered, IsFilteredFront}
use Rattle.program_sections.specs.Steps.{Work, Filters, sent_of, found_with, TellsRest}
use Rattle.program_sections.specs.declared.kept.Kept.{Kept}
use Rattle.program_sections.specs.declared.kept.Kept.TheVariants.{Codec, Named}
use Rattle.program_sections.specs.declared.filter.Filter.{Filter}
use Rattle.program_sections.proofs.Sending.{told_so, stopped_so, broke_so}

-- ---- the elements that are kept

-- one more element, which is kept if it passes the test
pub kept_more : {X : Type 0} (p : X → Bool) (done : List X) (x : X) (t : Bool) (got new : List X) → got ≡ filter p done → t ≡ p x → new ≡ (if t then got ++ x ∷ [] else got) → new ≡ filter p (done ++ x ∷ [])
kept_more p done x t got new h is e = e ∙ by t is ∙ sym (filter-append p done (x ∷ []))
  where
    by : (u : Bool) → u ≡ p x → (if u then got ++ x ∷ [] else got) ≡ filter p done ++ filter p (x ∷ [])
    by true k = ap (λ l. l ++ x ∷ []) h ∙ ap (λ b. filter p done ++ (if b then x ∷ [] else [])) k
    by false k = h ∙ sym (append-nil (filter p done)) ∙ ap (λ b. filter p done ++ (if b then x ∷ [] else [])) k

pub kept_next : {X : Type 0} (p : X → Bool) (xs : List X) (i : ℕ) (x : X) (t : Bool) (got new : List X) → i < length xs → x ≡ get_or xs i x → got ≡ filter p (take i xs) → t ≡ p x → new ≡ (if t then got ++ x ∷ [] else got) → new ≡ filter p (take (i + 1) xs)
kept_next p xs i x t got new lt at h is e = kept_more p (take i xs) x t got new h is e ∙ sym (ap (filter p) (take_more xs i x lt ∙ ap (λ y. take i xs ++ y ∷ []) (sym at)))

-- ---- one more section

one_sent : (kept : Kept) (s : Section) (t : Bool) → keeps kept s.0 ≡ t → sent_of kept s ≡ flat_map section_bytes (kept_sections kept (s ∷ []))
one_sent kept s true e = ap (λ b. if b then section_bytes s else []) e ∙ sym (ap (λ b. flat_map section_bytes (if b then s ∷ [] else [])) e ∙ append-nil (section_bytes s))
one_sent kept s false e = ap (λ b. if b then section_bytes s else []) e ∙ sym (ap (λ b. flat_map section_bytes (if b then s ∷ [] else [])) e)

kept_push : (kept : Kept) (done : List Section) (s : Section) → kept_sections kept (done ++ s ∷ []) ≡ kept_sections kept done ++ kept_sections kept (s ∷ [])
kept_push kept done s = filter-append (λ (t : Section). keeps kept t.0) done (s ∷ [])

sent_push : (kept : Kept) (done : List Section) (s : Section) → flat_map section_bytes (kept_sections kept done) ++ sent_of kept s ≡ flat_map section_bytes (kept_sections kept (done ++ s ∷ []))
sent_push kept done s = ap (λ l. flat_map section_bytes (kept_sections kept done) ++ l) (one_sent kept s (keeps kept s.0) refl)
    ∙ sym (flat_map-append section_bytes (kept_sections kept done) (kept_sections kept (s ∷ [])))
    ∙ sym (ap (flat_map section_bytes) (kept_push kept done s))

filtered_push : (f : Filter) (roots : List CidParts) (done : List Section) (s : Section) → filtered f roots done ++ sent_of f.kept s ≡ filtered f roots (done ++ s ∷ [])
filtered_push f roots done s =
    let header = header_bytes (forms (roots_of f.roots.items f.kept roots)) in
    append_assoc header (flat_map section_bytes (kept_sections f.kept done)) (sent_of f.kept s) ∙ ap (λ l. header ++ l) (sent_push f.kept done s)

found_one : (kept : Kept) (s : Section) (ks : List Section) (t : Bool) → keeps kept s.0 ≡ t → found_with kept (found_in kept ks) s ≡ found_in kept (ks ++ kept_sections kept (s ∷ []))
found_one (Codec n) s ks true e = ap (λ b. if b then [] else []) e
found_one (Codec n) s ks false e = ap (λ b. if b then [] else []) e
found_one (Named names) s ks true e =
    ap (λ b. if b then insert_key cid_cmp (distinct (map (λ (u : Section). u.0) ks)) s.0 else distinct (map (λ (u : Section). u.0) ks)) e
    ∙ sym (distinct_push [] (map (λ (u : Section). u.0) ks) s.0)
    ∙ sym (ap distinct (map_push (λ (u : Section). u.0) ks s))
    ∙ sym (ap (λ b. distinct (map (λ (u : Section). u.0) (ks ++ (if b then s ∷ [] else [])))) e)
found_one (Named names) s ks false e =
    ap (λ b. if b then insert_key cid_cmp (distinct (map (λ (u : Section). u.0) ks)) s.0 else distinct (map (λ (u : Section). u.0) ks)) e
    ∙ sym (ap (λ b. distinct (map (λ (u : Section). u.0) (ks ++ (if b then s ∷ [] else [])))) e ∙ ap (λ l. distinct (map (λ (u : Section). u.0) l)) (append-nil ks))

found_push : (kept : Kept) (done : List Section) (s : Section) → found_with kept (found_in kept (kept_sections kept done)) s ≡ found_in kept (kept_sections kept (done ++ s ∷ []))
found_push kept done s = found_one kept s (kept_sections kept done) (keeps kept s.0) refl ∙ sym (ap (found_in kept) (kept_push kept done s))

-- what was written and found after these sections
pub record Sent (f : Filter) (roots : List CidParts) (first : Option (List ℕ)) (w : Work) (done : List Section) : Type 0 where
  pub kept : w.kept ≡ f.kept
  pub out : Appends first w.written (filtered f roots done)
  pub found : w.found ≡ found_in f.kept (kept_sections f.kept done)

pub none_yet : (f : Filter) (roots : List CidParts) (first : Option (List ℕ)) (w : Work) → w.kept ≡ f.kept → w.found ≡ [] → Appends first w.written (header_bytes (forms (roots_of f.roots.items f.kept roots))) → Sent f roots first w []
none_yet f roots first w kept found out = record {
  kept = kept;
  out = subst (Appends first w.written) (sym (append-nil (header_bytes (forms (roots_of f.roots.items f.kept roots))))) out;
  found = found ∙ none f.kept;
}
  where
    none : (k : Kept) → [] ≡ found_in k (kept_sections k [])
    none (Codec n) = refl
    none (Named names) = refl

one_more : (f : Filter) (roots : List CidParts) (first : Option (List ℕ)) (s : Section) (old new : Work) (done : List Section) → Sent f roots first old done → Filters s old (Ok tt) new → Sent f roots first new (done ++ s ∷ [])
one_more f roots first s old new done h k = record {
  kept = k.1 ∙ h.kept;
  out = subst (Appends first new.written) (filtered_push f roots done s) (Appends-trans first old.written new.written (filtered f roots done) (sent_of f.kept s) h.out (subst (λ x. Appends old.written new.written (sent_of x s)) h.kept k.2.0));
  found = k.2.1 ∙ ap (λ x. found_with x old.found s) h.kept ∙ ap (λ x. found_with f.kept x s) h.found ∙ found_push f.kept done s;
}

-- ---- the whole

pub whole_front : (b : List ℕ) (roots : List (List ℕ)) (sections : List Section) → IsFile b roots sections → IsFileFront b roots sections 0 []
whole_front b roots sections (car, holds, is) = (car, holds, record { header = is.header; all = is.all; is = is.is ∙ sym (append-nil (car_bytes roots sections)) })

module _ {S : Type 0} (takes : SinkTakes S ToolError) (work : S → Work) (step : (s : Section) (old : S) (r : Result (Unit {0}) ToolError) (new : S) → takes s old r new → Filters s (work old) r (work new)) (f : Filter) (roots : List CidParts) (b : List ℕ) (first heard : Option (List ℕ)) (old new : S) (begun : Sent f roots first (work old) []) where
  abbrev IsOut : List ℕ → Type 0
  IsOut = IsFilteredFront f b

  abbrev IsAll : Bool → List ℕ → List ℕ → Type 0
  IsAll = IsFiltered f b

  sent_each : (ss : List Section) (now : S) → TookEach takes old ss now → Sent f roots first (work now) ss
  sent_each ss now t = took_knows takes (λ it done. Sent f roots first (work it) done) (λ s x y done h k. one_more f roots first s (work x) (work y) done h (step s x (Ok tt) y k)) [] ss old now begun t

  out_of : (ss : List Section) (n : ℕ) (rest : List ℕ) → IsFileFront b (forms roots) ss n rest → IsOut (filtered f roots ss)
  out_of ss n rest h = inr (roots, ss, n, rest, h, refl)

  pub all_told : (ended : Result (Ended ToolError) ToolError) (kept : Kept) (r : Result Bool ToolError) (after : Option (List ℕ)) → kept ≡ f.kept → MatchResult ended (λ e. EndsAt takes (forms roots) b old e new) (λ _. TakesFileFront takes (forms roots) b old new) → TellsRest kept (work new).found ended heard r after → SaysSent IsOut IsAll first heard r (work new).written after
  all_told (Ok ended.Whole) kept r after same h told =
      let at = sent_each h.sections new h.took in
      let lost : missing_of kept (work new).found ≡ missing_in f h.sections = ap (λ k. missing_of k (work new).found) same ∙ ap (missing_of f.kept) at.found in
      let told_lines : SaysLines (flat_map missing_line (missing_in f h.sections)) (length (missing_in f h.sections) == 0) heard r after = subst (λ l. SaysLines (flat_map missing_line l) (length l == 0) heard r after) lost told in
      told_so IsOut IsAll first heard (work new).written (filtered f roots h.sections) (flat_map missing_line (missing_in f h.sections)) (length (missing_in f h.sections) == 0) r after at.out
      (out_of h.sections 0 [] (whole_front b (forms roots) h.sections h.file)) (inl (roots, h.sections, h.file, refl, refl, refl)) told_lines
  all_told (Ok (ended.Stopped e)) kept r after same h told =
      let at = sent_each h.first.sections h.it h.first.took in
      let k = step h.section h.it (Err e) new h.refused in
      let sent = sent_of f.kept h.section in
      let fails : TextFails sent (work h.it).written e (work new).written = subst (λ x. TextFails (sent_of x h.section) (work h.it).written e (work new).written) at.kept k.2 in
      let broke = text_breaks (λ out. out ≡ sent) sent (work h.it).written (work new).written e refl fails in
      broke_so IsOut IsAll first heard (work new).written (work h.it).written (filtered f roots h.first.sections) sent r e after at.out
      (out_of h.first.sections h.first.wanting h.first.rest h.first.front)
      (subst IsOut (sym (filtered_push f roots h.first.sections h.section)) (out_of (h.first.sections ++ h.section ∷ []) h.wanting h.rest h.front))
      broke told.0 told.1
  all_told (Ok (ended.Fault line)) kept r after same h told =
      let first_part = h.1.first in
      let at = sent_each first_part.sections new first_part.took in
      told_so IsOut IsAll first heard (work new).written (filtered f roots first_part.sections) line.items false r after at.out
      (out_of first_part.sections first_part.wanting first_part.rest first_part.front)
      (inr (refl, (h.0, h.1.none, inr (roots, first_part.sections, first_part.wanting, first_part.rest, first_part.front, h.1.refuses, refl), h.2))) told
  all_told (Err e) kept r after same h told =
      let at = sent_each h.sections new h.took in
      stopped_so IsOut IsAll first heard (work new).written (filtered f roots h.sections) r e after at.out (out_of h.sections h.wanting h.rest h.front) told.0 told.1

-- the header was written, or writing it broke off
pub err_is : {T : Type 0} (r : Result T ToolError) (e : ToolError) → IsErrAnd r (λ x. x ≡ e) → r ≡ Err e
err_is (Ok t) e is = absurd is
err_is (Err x) e is = ap Err is

pub begun_front : (roots : List (List ℕ)) (extent : Option ℕ) (start source : Reading) (b : List ℕ) → TakesStart start roots extent source → start.left ≡ Some b → (n : ℕ) × (rest : List ℕ) × IsFileFront b roots [] n rest
begun_front roots extent start source b h l =
    let w = left_begun roots extent start source b h l in
    (wanting extent w.0, bytes_within extent w.0, place_front b w.0 roots [] extent w.2)

pub header_broke : (f : Filter) (roots : List CidParts) (extent : Option ℕ) (start source : Reading) (b : List ℕ) (old heard new : Option (List ℕ)) (r : Result Bool ToolError) (e : ToolError) → TakesStart start (forms roots) extent source → start.left ≡ Some b → IsErrAnd r (λ x. x ≡ e) → TextFails (header_bytes (forms (roots_of f.roots.items f.kept roots))) old e new → SaysSent (IsFilteredFront f b) (IsFiltered f b) old heard r new heard
header_broke f roots extent start source b old heard new r e h l is fails =
    let k = begun_front (forms roots) extent start source b h l in
    let header = header_bytes (forms (roots_of f.roots.items f.kept roots)) in
    broke_so (IsFilteredFront f b) (IsFiltered f b) old heard new old [] header r e heard (Appends-nil old) (inl refl) (inr (roots, [], k.0, k.1, k.2, sym (append-nil header))) (text_breaks (λ out. out ≡ header) header old new e refl fails) (err_is r e is) refl

pub start_refused : {E : Type 0} (f : Filter) (source now : Reading) (error : CarError E) (b line : List ℕ) → CarRefuses RefusesStart source error now → IsOfBytes error → line ≡ refused_line error → source.left ≡ Some b → IsFiltered f b false [] line
start_refused f source now error b line h is tells l =
    let r = header_alone source now error is h b l in
    inr (refl, (alone error, no_file (alone error) b r, inl (r, refl), tells ∙ alone_line error is))
