-- What a merge writes.
use Rattle.std.proofs.Common.{◌≡◌, ◌↔◌, ◌⊎◌, inl, inr, ℕ, ◌+◌, List, [], ◌∷◌, ◌++◌, length, length-append, append-nil, append_assoc, map, Bool, true, false, refl, sym, ap, ◌∙◌, subst, arith, Option, None, Some, Result, Ok, Err, MatchResult, MatchOption, IsErrAnd, flat_map, Vec, Global}
use Rattle.std.proofs.lemmas.Grind.{flat_map-append}
use Rattle.std.specs.Io.KnownBytes.{Appends}
use Rattle.std.proofs.KnownBytes.{Appends-nil, Appends-trans}
use Rattle.std.specs.declared.convert.Infallible.{Infallible}
use Rattle.dagcbor_heads.specs.Reading.{Reading}
use Rattle.ipld_tree.specs.Cid.{CidParts}
use Rattle.dagcbor_items.specs.Walks.{forms}
use Rattle.ipld_links.specs.Verdicts.{IsVerified}
use Rattle.ipld_links.specs.Held.{IsHeldName, HoldsNone, AddsName}
use Rattle.ipld_links.specs.declared.held.HeldNames.{HeldNames}
use Rattle.ipld_links.proofs.Members.{among_push, push_among}
use Rattle.files_car.specs.Car.{Section, section_bytes, header_bytes, car_bytes}
use Rattle.files_car.specs.Versions.{IsFile}
use Rattle.files_car.specs.Checks.{IsHeldInFile, IsNoFile}
use Rattle.files_car.specs.Each.{SinkTakes}
use Rattle.files_car.specs.Sources.{CarRefuses, RefusesStart, TakesStart}
use Rattle.files_car.specs.declared.error.CarError.{CarError}
use Rattle.files_car.proofs.Places.{no_file}
use Rattle.program_parts.specs.Lines.{refused_line, TextFails}
use Rattle.program_parts.specs.Taking.{TookEach, TakesFileFront, EndsAt, IsOfBytes}
use Rattle.program_parts.specs.declared.take.Ended.{Ended}
use Rattle.program_parts.specs.declared.take.Ended.TheVariants as ended
use Rattle.program_parts.proofs.Taking.{took_knows, ends_same, alone, alone_line, header_alone}
use Rattle.program_parts.proofs.Saying.{text_breaks}
use Rattle.program_shared.specs.declared.fault.ToolError.{ToolError}
use Rattle.program_sections.specs.Sending.{SaysSent}
use Rattle.program_sections.specs.Merging.{once_with, merged_roots, IsMerged, AreFiles, BeginFiles, FilesFront, file_line, TellsNoneBegins, TellsBreak, IsMergedOf, IsMergedFront}
use Rattle.program_sections.specs.MergeSteps.{AddsRoots, Work, HoldsIt, Merges, Sent, BreaksSections, Place, IsAfter, HasFirst, TellsFileBreak, MergesFile, TellsEnd, AreAfter, MergesFiles, AreLeft, BeginsOne, BeginsAll, place_of, given_or, TellsFault}
use Rattle.program_sections.specs.declared.merge.Begun.{Begun}
use Rattle.program_sections.specs.declared.merge.Following.{Following}
use Rattle.program_inspect.proofs.Counting.{map_push}
use Rattle.dagcbor_heads.specs.Inputs.{input_reading}
use Rattle.program_sections.proofs.Sending.{told_so, broke_so}
use Rattle.program_sections.proofs.Filtering.{begun_front, err_is}

-- ---- what is left of sections

merged_left : (before ss : List Section) (s : Section) (left : List Section) → IsMerged before ss left → IsHeldInFile s.0 (before ++ ss) → IsMerged before (ss ++ s ∷ []) left
merged_left before [] s left m h = inl (subst (IsHeldInFile s.0) (append-nil before) h, m)
merged_left before (t ∷ ss) s left (inl (held, m)) h = inl (held, merged_left (before ++ t ∷ []) ss s left m (subst (IsHeldInFile s.0) (sym (append_assoc before (t ∷ []) ss)) h))
merged_left before (t ∷ ss) s left (inr (none, (more, e, m))) h = inr (none, (more, e, merged_left (before ++ t ∷ []) ss s more m (subst (IsHeldInFile s.0) (sym (append_assoc before (t ∷ []) ss)) h)))

merged_more : (before ss : List Section) (s : Section) (left : List Section) → IsMerged before ss left → (IsHeldInFile s.0 (before ++ ss) → ⊥) → IsMerged before (ss ++ s ∷ []) (left ++ s ∷ [])
merged_more before [] s left m none = inr (λ h. none (subst (IsHeldInFile s.0) (sym (append-nil before)) h), ([], ap (λ l. l ++ s ∷ []) m, refl))
merged_more before (t ∷ ss) s left (inl (held, m)) none = inl (held, merged_more (before ++ t ∷ []) ss s left m (λ h. none (subst (IsHeldInFile s.0) (append_assoc before (t ∷ []) ss) h)))
merged_more before (t ∷ ss) s left (inr (other, (more, e, m))) none = inr (other, (more ++ s ∷ [], ap (λ l. l ++ s ∷ []) e, merged_more (before ++ t ∷ []) ss s more m (λ h. none (subst (IsHeldInFile s.0) (append_assoc before (t ∷ []) ss) h))))

car_push : (roots : List (List ℕ)) (ss : List Section) (s : Section) → car_bytes roots ss ++ section_bytes s ≡ car_bytes roots (ss ++ s ∷ [])
car_push roots ss s = append_assoc (header_bytes roots) (flat_map section_bytes ss) (section_bytes s) ∙ ap (λ l. header_bytes roots ++ l) (ap (λ l. flat_map section_bytes ss ++ l) (sym (append-nil (section_bytes s))) ∙ sym (flat_map-append section_bytes ss (s ∷ [])))

-- ---- one more section

abbrev Knows : HeldNames → List Section → Type 0
Knows held done = (c : CidParts) → IsHeldName c held ↔ IsHeldInFile c done

held_before : (s : Section) (done : List Section) (c : CidParts) → IsHeldInFile c done → IsHeldInFile c (done ++ s ∷ [])
held_before s done c k = (k.0, push_among (c, k.0) done s (inl k.1), k.2)

-- the names held stay the same if this one is held, or its bytes do not match
held_same : (s : Section) (done : List Section) (old new : HeldNames) → Knows old done → new ≡ old → (IsVerified s → IsHeldName s.0 old) → Knows new (done ++ s ∷ [])
held_same s done old new h same if_held c = (λ m. held_before s done c ((h c).0 (subst (IsHeldName c) same m)), λ k. subst (IsHeldName c) (sym same) (back k))
  where
    back : IsHeldInFile c (done ++ s ∷ []) → IsHeldName c old
    back k = elim (among_push (c, k.0) done s k.1) [
      | inl m ↦ (h c).1 (k.0, m, k.2)
      | inr e ↦ subst (λ x. IsHeldName x old) (sym (ap (λ (p : Section). p.0) e)) (if_held (subst IsVerified e k.2))
    ]

held_more : (s : Section) (done : List Section) (old new : HeldNames) → Knows old done → IsVerified s → AddsName s.0 old new → Knows new (done ++ s ∷ [])
held_more s done old new h v a c = (there, back)
  where
    there : IsHeldName c new → IsHeldInFile c (done ++ s ∷ [])
    there m = elim ((a.1 c).0 m) [
      | inl o ↦ held_before s done c ((h c).0 o)
      | inr e ↦ (s.1, push_among (c, s.1) done s (inr (λ i. (e i, s.1))), subst (λ d. IsVerified (d, s.1)) (sym e) v)
    ]

    back : IsHeldInFile c (done ++ s ∷ []) → IsHeldName c new
    back k = elim (among_push (c, k.0) done s k.1) [
      | inl m ↦ (a.1 c).1 (inl ((h c).1 (k.0, m, k.2)))
      | inr e ↦ (a.1 c).1 (inr (ap (λ (p : Section). p.0) e))
    ]

held_next : (s : Section) (done : List Section) (old new : HeldNames) → Knows old done → HoldsIt s old new → Knows new (done ++ s ∷ [])
held_next s done old new h (inl k) = held_more s done old new h k.0 k.1
held_next s done old new h (inr k) = held_same s done old new h k.1 (λ v. absurd (k.0 v))

none_held : (s : Section) (done : List Section) (held : HeldNames) → Knows held done → (IsHeldName s.0 held → ⊥) → IsHeldInFile s.0 done → ⊥
none_held s done held h none k = none ((h s.0).1 k)

sent_more : (roots : List CidParts) (first : Option (List ℕ)) (s : Section) (old new : Work) (done : List Section) → Sent roots first old done → Merges s old (Ok tt) new → Sent roots first new (done ++ s ∷ [])
sent_more roots first s old new done h (t, inl k) = record {
  held = held_same s done old.held new.held h.held k.1 (λ v. k.0);
  left = h.left;
  merged = merged_left [] done s h.left h.merged ((h.held s.0).0 k.0);
  out = subst (λ w. Appends first w (car_bytes (forms roots) h.left)) (sym k.2) h.out;
}
sent_more roots first s old new done h (t, inr k) = record {
  held = held_next s done old.held new.held h.held k.1;
  left = h.left ++ s ∷ [];
  merged = merged_more [] done s h.left h.merged (none_held s done old.held h.held k.0);
  out = subst (Appends first new.written) (car_push (forms roots) h.left s) (Appends-trans first old.written new.written (car_bytes (forms roots) h.left) (section_bytes s) h.out k.2);
}

pub none_yet : (roots : List CidParts) (first : Option (List ℕ)) (w : Work) → HoldsNone w.held → Appends first w.written (header_bytes (forms roots)) → Sent roots first w []
none_yet roots first w none out = record {
  held = λ c. (λ m. absurd (none c m), λ k. absurd k.1);
  left = [];
  merged = refl;
  out = subst (Appends first w.written) (sym (append-nil (header_bytes (forms roots)))) out;
}

-- ---- one file

stopped : (IsFront : List Section → Type 0) (roots : List CidParts) (first : Option (List ℕ)) (w : Work) (ss : List Section) (e : ToolError) → IsFront ss → Sent roots first w ss → BreaksSections IsFront roots first e w.written
stopped IsFront roots first w ss e front h =
    let said = car_bytes (forms roots) h.left in
    (ss, ss, said, [], w.written, front, front, (h.left, h.merged, refl), (h.left, h.merged, append-nil said), h.out, inl (Appends-nil w.written))

module _ {S : Type 0} (takes : SinkTakes S ToolError) (work : S → Work) (step : (s : Section) (old : S) (r : Result (Unit {0}) ToolError) (new : S) → takes s old r new → Merges s (work old) r (work new)) (number : ℕ) (b : List ℕ) (file roots : List CidParts) (first : Option (List ℕ)) (done : List Section) (old new : S) (begun : Sent roots first (work old) done) where
  abbrev IsFront : List Section → Type 0
  IsFront all = (ss : List Section) × (all ≡ done ++ ss) × HasFirst b file ss

  abbrev Merged : Result (Option (Vec ℕ Global)) ToolError → Type 0
  Merged r = MatchResult r
      (λ told. (ss : List Section) × Sent roots first (work new) (done ++ ss) × MatchOption told (IsFile b (forms file) ss) (λ line. TellsFileBreak b file number ss line.items))
      (λ e. BreaksSections IsFront roots first e (work new).written)

  sent_each : (ss : List Section) (now : S) → TookEach takes old ss now → Sent roots first (work now) (done ++ ss)
  sent_each ss now t = took_knows takes (λ it all. Sent roots first (work it) all) (λ s x y all h k. sent_more roots first s (work x) (work y) all h (step s x (Ok tt) y k)) done ss old now begun t

  pub file_through : (ended : Result (Ended ToolError) ToolError) → MatchResult ended (λ e. EndsAt takes (forms file) b old e new) (λ _. TakesFileFront takes (forms file) b old new) → (work new).through ≡ (work old).through
  file_through ended h = ends_same takes (λ t. (work t).through) (λ s x r y q. (step s x r y q).0) (forms file) b old new ended h

  stopped_at : (h : TakesFileFront takes (forms file) b old new) (e : ToolError) → Merged (Err e)
  stopped_at h e = stopped IsFront roots first (work new) (done ++ h.sections) e (h.sections, refl, (h.wanting, h.rest, h.front)) (sent_each h.sections new h.took)

  pub file_merged : (ended : Result (Ended ToolError) ToolError) (r : Result (Option (Vec ℕ Global)) ToolError) → MatchResult ended (λ e. EndsAt takes (forms file) b old e new) (λ _. TakesFileFront takes (forms file) b old new) → TellsEnd number ended r → Merged r
  file_merged (Ok ended.Whole) r h told = subst Merged (sym told) (h.sections, sent_each h.sections new h.took, h.file)
  file_merged (Ok (ended.Stopped e)) r h told =
      let at = sent_each h.first.sections h.it h.first.took in
      let k = step h.section h.it (Err e) new h.refused in
      let ss = done ++ h.first.sections in
      let more = merged_more [] ss h.section at.left at.merged (none_held h.section ss (work h.it).held at.held k.1.0) in
      let broke : Merged (Err e) = (
        ss,
        done ++ (h.first.sections ++ h.section ∷ []),
        car_bytes (forms roots) at.left,
        section_bytes h.section,
        (work h.it).written,
        (h.first.sections, refl, (h.first.wanting, h.first.rest, h.first.front)),
        (h.first.sections ++ h.section ∷ [], refl, (h.wanting, h.rest, h.front)),
        (at.left, at.merged, refl),
        (at.left ++ h.section ∷ [], subst (λ l. IsMerged [] l (at.left ++ h.section ∷ [])) (append_assoc done h.first.sections (h.section ∷ [])) more, car_push (forms roots) at.left h.section),
        at.out,
        text_breaks (λ out. out ≡ section_bytes h.section) (section_bytes h.section) (work h.it).written (work new).written e refl k.1.1,
      ) in
      subst Merged (sym told) broke
  file_merged (Ok (ended.Fault line)) (Ok None) h told = absurd told
  file_merged (Ok (ended.Fault line)) (Ok (Some v)) h told =
      let f = h.1.first in
      (f.sections, sent_each f.sections new f.took, (f.wanting, f.rest, h.0, f.front, h.1.none, h.1.refuses, told ∙ ap (file_line number) h.2))
  file_merged (Ok (ended.Fault line)) (Err e) h told = stopped_at h.1.first e
  file_merged (Err e) r h told = subst Merged (sym told) (stopped_at h e)

-- ---- all files

files_push : (before : List (List ℕ)) (b : List ℕ) (roots more : List CidParts) (sections ss : List Section) → AreFiles before roots sections → IsFile b (forms more) ss → AreFiles (before ++ b ∷ []) (roots ++ more) (sections ++ ss)
files_push [] b roots more sections ss (r, s) is = (more, [], ss, [], is, (refl, refl), ap (λ l. l ++ more) r ∙ sym (append-nil more), ap (λ l. l ++ ss) s ∙ sym (append-nil ss))
files_push (c ∷ before) b roots more sections ss (f, m, s, o, at, are, er, es) is = (f, m ++ more, s, o ++ ss, at, files_push before b m more o ss are is, ap (λ l. l ++ more) er ∙ append_assoc f m more, ap (λ l. l ++ ss) es ∙ append_assoc s o ss)

begin_one : (b : List ℕ) (roots : List CidParts) (at : Place) → IsAfter b roots at → HasFirst b roots []
begin_one b roots at (start, h, l) = begun_front (forms roots) at.extent start at.source b h l

begin_of : (n : ℕ) (bs : List (List ℕ)) (roots : List CidParts) (places : List Place) → AreAfter n bs roots places → BeginFiles bs roots
begin_of n [] roots [] h = h
begin_of n [] roots (at ∷ places) h = absurd h
begin_of n (b ∷ bs) roots [] h = absurd h
begin_of n (b ∷ bs) roots (at ∷ places) (first, more, is, m, rest, e) = (first, more, begin_one b first at is, begin_of (n + 1) bs more places rest, e)

after_push : (n : ℕ) (bs : List (List ℕ)) (b : List ℕ) (roots more : List CidParts) (places : List Place) (at : Place) → AreAfter n bs roots places → IsAfter b more at → at.number ≡ n + length bs → AreAfter n (bs ++ b ∷ []) (roots ++ more) (places ++ at ∷ [])
after_push n [] b roots more [] at h is m = (more, [], is, omega (arith, m), refl, ap (λ l. l ++ more) h ∙ sym (append-nil more))
after_push n [] b roots more (p ∷ places) at h is m = absurd h
after_push n (c ∷ bs) b roots more [] at h is m = absurd h
after_push n (c ∷ bs) b roots more (p ∷ places) at (f, o, i, k, rest, e) is m = (f, o ++ more, i, k, after_push (n + 1) bs b o more places at rest is (omega (arith, m)), ap (λ l. l ++ more) e ∙ append_assoc f o more)

-- some files were taken, and these places are left
pub record Mid (bs : List (List ℕ)) (file_roots roots : List CidParts) (first : Option (List ℕ)) (places : List Place) (old w : Work) : Type 0 where
  pub before : List (List ℕ)
  pub after : List (List ℕ)
  pub all : bs ≡ before ++ after
  pub roots_before : List CidParts
  pub roots_after : List CidParts
  pub all_roots : file_roots ≡ roots_before ++ roots_after
  pub sections : List Section
  pub are : AreFiles before roots_before sections
  pub following : AreAfter (length before + 1) after roots_after places
  pub sent : Sent roots first w sections
  pub through : w.through ≡ old.through

-- whatever they are
abbrev pub MergedSoFar : List Place → Work → List Place → Work → Type 0
MergedSoFar places old left now = (bs : List (List ℕ)) (file_roots roots : List CidParts) (first : Option (List ℕ))
    → AreAfter 1 bs file_roots places → Sent roots first old [] → Mid bs file_roots roots first left old now

-- a file of these is being taken
record Next (bs : List (List ℕ)) (file_roots roots : List CidParts) (first : Option (List ℕ)) (at : Place) (next : List Place) (old w : Work) (mid : Mid bs file_roots roots first (at ∷ next) old w) : Type 0 where
  b : List ℕ
  after : List (List ℕ)
  all : bs ≡ mid.before ++ b ∷ after
  roots_at : List CidParts
  roots_after : List CidParts
  all_roots : file_roots ≡ mid.roots_before ++ (roots_at ++ roots_after)
  is : IsAfter b roots_at at
  number : at.number ≡ length mid.before + 1
  following : AreAfter (length mid.before + 1 + 1) after roots_after next

next_of : (bs : List (List ℕ)) (file_roots roots : List CidParts) (first : Option (List ℕ)) (at : Place) (next : List Place) (old w : Work) (mid : Mid bs file_roots roots first (at ∷ next) old w) → Next bs file_roots roots first at next old w mid
next_of bs file_roots roots first at next old w mid = by mid.after mid.all mid.following
  where
    by : (after : List (List ℕ)) → bs ≡ mid.before ++ after → AreAfter (length mid.before + 1) after mid.roots_after (at ∷ next) → Next bs file_roots roots first at next old w mid
    by [] e h = absurd h
    by (b ∷ after) e (f, more, is, m, rest, r) = record {
      b = b;
      after = after;
      all = e;
      roots_at = f;
      roots_after = more;
      all_roots = mid.all_roots ∙ ap (λ l. mid.roots_before ++ l) r;
      is = is;
      number = m;
      following = rest;
    }

front_of : (bs : List (List ℕ)) (file_roots roots : List CidParts) (first : Option (List ℕ)) (at : Place) (next : List Place) (old w : Work) (mid : Mid bs file_roots roots first (at ∷ next) old w) (n : Next bs file_roots roots first at next old w mid) (ss all : List Section) → all ≡ mid.sections ++ ss → HasFirst n.b n.roots_at ss → FilesFront bs file_roots all
front_of bs file_roots roots first at next old w mid n ss all e (wanting, rest, front) = record {
  before = mid.before;
  at = n.b;
  after = n.after;
  all = n.all;
  roots_before = mid.roots_before;
  roots_at = n.roots_at;
  roots_after = n.roots_after;
  all_roots = n.all_roots;
  sections_before = mid.sections;
  sections_at = ss;
  all_sections = e;
  wanting = wanting;
  rest = rest;
  are = mid.are;
  front = front;
  begin = begin_of (length mid.before + 1 + 1) n.after n.roots_after next n.following;
}

-- one more file
one_file : (bs : List (List ℕ)) (file_roots roots : List CidParts) (first : Option (List ℕ)) (at : Place) (next : List Place) (old w new : Work) → Mid bs file_roots roots first (at ∷ next) old w → MergesFile at w (Ok None) new → Mid bs file_roots roots first next old new
one_file bs file_roots roots first at next old w new mid h =
    let n = next_of bs file_roots roots first at next old w mid in
    let k = h n.b n.roots_at roots first mid.sections n.is mid.sent in
    let count : length mid.before + 1 + 1 ≡ length (mid.before ++ n.b ∷ []) + 1 = ap (λ x. x + 1) (sym (length-append mid.before (n.b ∷ []))) in
    record {
      before = mid.before ++ n.b ∷ [];
      after = n.after;
      all = n.all ∙ sym (append_assoc mid.before (n.b ∷ []) n.after);
      roots_before = mid.roots_before ++ n.roots_at;
      roots_after = n.roots_after;
      all_roots = n.all_roots ∙ sym (append_assoc mid.roots_before n.roots_at n.roots_after);
      sections = mid.sections ++ k.1.0;
      are = files_push mid.before n.b mid.roots_before n.roots_at mid.sections k.1.0 mid.are k.1.2;
      following = subst (λ x. AreAfter x n.after n.roots_after next) count n.following;
      sent = k.1.1;
      through = k.0 ∙ mid.through;
    }

pub so_far_more : (places left next : List Place) (at : Place) (old w new : Work) → MergedSoFar places old left w → left ≡ at ∷ next → MergesFile at w (Ok None) new → MergedSoFar places old next new
so_far_more places left next at old w new h e k bs file_roots roots first following sent =
    one_file bs file_roots roots first at next old w new (subst (λ l. Mid bs file_roots roots first l old w) e (h bs file_roots roots first following sent)) k

-- all of them
pub so_far_all : (places left : List Place) (old w : Work) → MergedSoFar places old left w → left ≡ [] → MergesFiles places old (Ok None) w
so_far_all places left old w h none bs file_roots roots first following sent = (mid.through, by mid.after mid.all mid.following)
  where
    mid : Mid bs file_roots roots first [] old w
    mid = subst (λ l. Mid bs file_roots roots first l old w) none (h bs file_roots roots first following sent)

    by : (after : List (List ℕ)) → bs ≡ mid.before ++ after → AreAfter (length mid.before + 1) after mid.roots_after [] → (ss : List Section) × Sent roots first w ss × AreFiles bs file_roots ss
    by [] e r = (mid.sections, mid.sent, subst (λ x. AreFiles x file_roots mid.sections) (sym (e ∙ append-nil mid.before)) (subst (λ x. AreFiles mid.before x mid.sections) (sym (mid.all_roots ∙ ap (λ l. mid.roots_before ++ l) r ∙ append-nil mid.roots_before)) mid.are))
    by (b ∷ after) e r = absurd r

-- or up to one that is not a CAR file
pub so_far_told : (places left next : List Place) (at : Place) (old w new : Work) (line : Vec ℕ Global) → MergedSoFar places old left w → left ≡ at ∷ next → MergesFile at w (Ok (Some line)) new → MergesFiles places old (Ok (Some line)) new
unfolding front_of
so_far_told places left next at old w new line h e k bs file_roots roots first following sent =
    let mid = subst (λ l. Mid bs file_roots roots first l old w) e (h bs file_roots roots first following sent) in
    let n = next_of bs file_roots roots first at next old w mid in
    let m = k n.b n.roots_at roots first mid.sections n.is mid.sent in
    (m.0 ∙ mid.through, by mid n m.1.0 m.1.1 m.1.2)
  where
    by : (mid : Mid bs file_roots roots first (at ∷ next) old w) (n : Next bs file_roots roots first at next old w mid) (ss : List Section) → Sent roots first new (mid.sections ++ ss) → TellsFileBreak n.b n.roots_at at.number ss line.items → (all : List Section) × Sent roots first new all × TellsBreak bs file_roots all line.items
    by mid n ss s (wanting, rest, fault, front, none, refuses, told) = (mid.sections ++ ss, s, (front_of bs file_roots roots first at next old w mid n ss (mid.sections ++ ss) refl (wanting, rest, front), fault, none, refuses, told ∙ ap (λ x. file_line x (refused_line fault)) n.number))

-- or broke off
so_far_err : (places left next : List Place) (at : Place) (old w new : Work) (e : ToolError) → MergedSoFar places old left w → left ≡ at ∷ next → MergesFile at w (Err e) new → MergesFiles places old (Err e) new
so_far_err places left next at old w new e h is k bs file_roots roots first following sent =
    let mid = subst (λ l. Mid bs file_roots roots first l old w) is (h bs file_roots roots first following sent) in
    let n = next_of bs file_roots roots first at next old w mid in
    let m = k n.b n.roots_at roots first mid.sections n.is mid.sent in
    (m.0 ∙ mid.through, by mid n m.1)
  where
    by : (mid : Mid bs file_roots roots first (at ∷ next) old w) (n : Next bs file_roots roots first at next old w mid) → BreaksSections (λ all. (ss : List Section) × (all ≡ mid.sections ++ ss) × HasFirst n.b n.roots_at ss) roots first e new.written → BreaksSections (FilesFront bs file_roots) roots first e new.written
    by mid n (ss, more, said, text, at_mid, (u, eu, fu), (v, ev, fv), is_said, is_more, out, broke) = (ss, more, said, text, at_mid, front_of bs file_roots roots first at next old w mid n u ss eu fu, front_of bs file_roots roots first at next old w mid n v more ev fv, is_said, is_more, out, broke)

pub so_far_broke : (places left next : List Place) (at : Place) (old w new : Work) (r : Result (Option (Vec ℕ Global)) ToolError) (e : ToolError) → MergedSoFar places old left w → left ≡ at ∷ next → MergesFile at w (Err e) new → IsErrAnd r (λ x. x ≡ e) → MergesFiles places old r new
so_far_broke places left next at old w new (Ok v) e h is k same = absurd same
so_far_broke places left next at old w new (Err x) e h is k same = subst (λ y. MergesFiles places old (Err y) new) (sym same) (so_far_err places left next at old w new e h is k)

-- there is no error line
pub none_told : (told : Option (Vec ℕ Global)) → ((line : Vec ℕ Global) → told ≡ Some line → ⊥) → told ≡ None
none_told None other = refl
none_told (Some line) other = absurd (other line refl)

pub nil_of : {X : Type 0} (xs : List X) (n : ℕ) → n ≡ 0 → n ≡ length xs → xs ≡ []
nil_of [] n zero is = refl
nil_of (x ∷ xs) n zero is = absurd (omega (arith, zero, is))

-- ---- the whole

pub sections_told : (places : List Place) (bs : List (List ℕ)) (given roots : List CidParts) (first heard : Option (List ℕ)) (old new : Work) (told : Result (Option (Vec ℕ Global)) ToolError) (r : Result Bool ToolError) (after : Option (List ℕ)) → AreAfter 1 bs roots places → Sent (merged_roots given roots) first old [] → MergesFiles places old told new → TellsFault told heard r after → SaysSent (IsMergedFront given bs) (IsMergedOf given bs) first heard r new.written after
sections_told places bs given roots first heard old new told r after following begun h is = by told (h bs roots (merged_roots given roots) first following begun).1 is
  where
    by : (t : Result (Option (Vec ℕ Global)) ToolError) → MatchResult t (λ x. (ss : List Section) × Sent (merged_roots given roots) first new ss × MatchOption x (AreFiles bs roots ss) (λ line. TellsBreak bs roots ss line.items)) (λ e. BreaksSections (FilesFront bs roots) (merged_roots given roots) first e new.written) → TellsFault t heard r after → SaysSent (IsMergedFront given bs) (IsMergedOf given bs) first heard r new.written after
    by (Ok None) (ss, sent, are) (w, same) =
        let all : SaysSent (IsMergedFront given bs) (IsMergedOf given bs) first heard (Ok true) new.written heard = (car_bytes (forms (merged_roots given roots)) sent.left, [], inl (roots, ss, are, (sent.left, sent.merged, refl), refl, refl), sent.out, Appends-nil heard) in
        subst (λ x. SaysSent (IsMergedFront given bs) (IsMergedOf given bs) first heard x new.written after) (sym w) (subst (λ x. SaysSent (IsMergedFront given bs) (IsMergedOf given bs) first heard (Ok true) new.written x) (sym same) all)
    by (Ok (Some line)) (ss, sent, breaks) says =
        told_so (IsMergedFront given bs) (IsMergedOf given bs) first heard new.written (car_bytes (forms (merged_roots given roots)) sent.left) line.items false r after sent.out
        (inr (roots, ss, inr breaks.0, (sent.left, sent.merged, refl))) (inr (refl, inr (roots, ss, breaks, (sent.left, sent.merged, refl)))) says
    by (Err e) (ss, more, said, text, mid, fs, fm, is_said, is_more, out, broke) (w, same) =
        broke_so (IsMergedFront given bs) (IsMergedOf given bs) first heard new.written mid said text r e after out
        (inr (roots, ss, inr fs, is_said)) (inr (roots, more, inr fm, is_more)) broke w same

given_same : (given listed roots : List CidParts) → listed ≡ once_with [] roots → given_or given listed ≡ merged_roots given roots
given_same [] listed roots e = e
given_same (c ∷ given) listed roots e = refl

none_of : (bs : List (List ℕ)) (roots : List CidParts) (places : List Place) → AreAfter 1 bs roots places → AreFiles bs roots [] ⊎ FilesFront bs roots []
none_of [] roots [] h = inl (h, refl)
none_of [] roots (at ∷ places) h = absurd h
none_of (b ∷ bs) roots [] h = absurd h
none_of (b ∷ bs) roots (at ∷ places) (first, more, is, m, rest, e) =
    let k = begin_one b first at is in
    inr (record {
      before = [];
      at = b;
      after = bs;
      all = refl;
      roots_before = [];
      roots_at = first;
      roots_after = more;
      all_roots = e;
      sections_before = [];
      sections_at = [];
      all_sections = refl;
      wanting = k.0;
      rest = k.1;
      are = (refl, refl);
      front = k.2;
      begin = begin_of 2 bs more places rest;
    })

pub header_sent : (given listed roots : List CidParts) (old new : Option (List ℕ)) → listed ≡ once_with [] roots → Appends old new (header_bytes (forms (given_or given listed))) → Appends old new (header_bytes (forms (merged_roots given roots)))
header_sent given listed roots old new e h = subst (λ l. Appends old new (header_bytes (forms l))) (given_same given listed roots e) h

pub merge_header_broke : (bs : List (List ℕ)) (given listed roots : List CidParts) (places : List Place) (old heard new : Option (List ℕ)) (r : Result Bool ToolError) (e : ToolError) → AreAfter 1 bs roots places → listed ≡ once_with [] roots → IsErrAnd r (λ x. x ≡ e) → TextFails (header_bytes (forms (given_or given listed))) old e new → SaysSent (IsMergedFront given bs) (IsMergedOf given bs) old heard r new heard
merge_header_broke bs given listed roots places old heard new r e following same is fails =
    let header = header_bytes (forms (merged_roots given roots)) in
    broke_so (IsMergedFront given bs) (IsMergedOf given bs) old heard new old [] header r e heard (Appends-nil old) (inl refl)
    (inr (roots, [], none_of bs roots places following, ([], refl, sym (append-nil header))))
    (text_breaks (λ out. out ≡ header) header old new e refl (subst (λ l. TextFails (header_bytes (forms l)) old e new) (given_same given listed roots same) fails)) (err_is r e is) refl

-- ---- the headers

-- some headers were read
pub record BegunMid {R : Type 0} (reading : R → Reading) (bs : List (List ℕ)) (left : List Reading) (number : ℕ) (begun : Begun R) : Type 0 where
  pub before : List (List ℕ)
  pub after : List (List ℕ)
  pub all : bs ≡ before ++ after
  pub count : number ≡ length before
  pub known : AreLeft left after
  pub roots : List CidParts
  pub following : AreAfter 1 before roots (map (place_of reading) begun.files.items)
  pub listed : (more : List CidParts) → begun.roots.listed.items ++ once_with begun.roots.seen.keys more ≡ once_with [] (roots ++ more)

abbrev pub BegunSoFar : {R : Type 0} → (R → Reading) → List Reading → List Reading → ℕ → Begun R → Type 0
BegunSoFar reading sources left number begun = (bs : List (List ℕ)) → AreLeft sources bs → BegunMid reading bs left number begun

pub begun_none : {R : Type 0} (reading : R → Reading) (sources left : List Reading) (begun : Begun R) → left ≡ sources → begun.files.items ≡ [] → begun.roots.listed.items ≡ [] → begun.roots.seen.keys ≡ [] → BegunSoFar reading sources left 0 begun
begun_none reading sources left begun e files listed seen bs h = record {
  before = [];
  after = bs;
  all = refl;
  count = refl;
  known = subst (λ l. AreLeft l bs) (sym e) h;
  roots = [];
  following = subst (λ l. AreAfter 1 [] [] (map (place_of reading) l)) (sym files) refl;
  listed = λ more. ap (λ l. l ++ once_with begun.roots.seen.keys more) listed ∙ ap (λ l. once_with l more) seen;
}

record HasNext (source : Reading) (next : List Reading) (after : List (List ℕ)) : Type 0 where
  b : List ℕ
  rest : List (List ℕ)
  is : after ≡ b ∷ rest
  known : source.left ≡ Some b
  left : AreLeft next rest

has_next : (source : Reading) (next : List Reading) (after : List (List ℕ)) → AreLeft (source ∷ next) after → HasNext source next after
has_next source next [] h = absurd h
has_next source next (b ∷ rest) h = record { b = b; rest = rest; is = refl; known = h.0; left = h.1 }

pub begun_more : {R : Type 0} (reading : R → Reading) (sources left next : List Reading) (source : Reading) (number : ℕ) (old new : Begun R) → BegunSoFar reading sources left number old → left ≡ source ∷ next → BeginsOne reading (number + 1) source old (Ok None) new → BegunSoFar reading sources next (number + 1) new
begun_more reading sources left next source number old new h e k bs l =
    let mid = h bs l in
    let n = has_next source next mid.after (subst (λ x. AreLeft x mid.after) e mid.known) in
    by mid n (k n.b n.known)
  where
    by : (mid : BegunMid reading bs left number old) (n : HasNext source next mid.after) → (roots : List CidParts) × (at : Place) × IsAfter n.b roots at × (at.number ≡ number + 1)
        × (map (place_of reading) new.files.items ≡ map (place_of reading) old.files.items ++ at ∷ []) × AddsRoots roots old.roots new.roots → BegunMid reading bs next (number + 1) new
    by mid n (roots, at, is, place, files, adds) = record {
      before = mid.before ++ n.b ∷ [];
      after = n.rest;
      all = mid.all ∙ ap (λ x. mid.before ++ x) n.is ∙ sym (append_assoc mid.before (n.b ∷ []) n.rest);
      count = omega (arith, mid.count, length-append mid.before (n.b ∷ []));
      known = n.left;
      roots = mid.roots ++ roots;
      following = subst (AreAfter 1 (mid.before ++ n.b ∷ []) (mid.roots ++ roots)) (sym files) (after_push 1 mid.before n.b mid.roots roots (map (place_of reading) old.files.items) at mid.following is (omega (arith, mid.count, place)));
      listed = λ more. adds more ∙ mid.listed (roots ++ more) ∙ ap (once_with []) (sym (append_assoc mid.roots roots more));
    }

pub begun_all : {R : Type 0} (reading : R → Reading) (sources left : List Reading) (number : ℕ) (begun : Begun R) → BegunSoFar reading sources left number begun → left ≡ [] → BeginsAll reading sources (Ok begun)
begun_all reading sources left number begun h none bs l =
    let mid = h bs l in
    by mid mid.after mid.all (subst (λ x. AreLeft x mid.after) none mid.known)
  where
    by : (mid : BegunMid reading bs left number begun) (after : List (List ℕ)) → bs ≡ mid.before ++ after → AreLeft [] after → (roots : List CidParts) × AreAfter 1 bs roots (map (place_of reading) begun.files.items) × (begun.roots.listed.items ≡ once_with [] roots)
    by mid [] e k = (mid.roots, subst (λ x. AreAfter 1 x mid.roots (map (place_of reading) begun.files.items)) (sym (e ∙ append-nil mid.before)) mid.following, sym (append-nil begun.roots.listed.items) ∙ mid.listed [] ∙ ap (once_with []) (append-nil mid.roots))
    by mid (b ∷ after) e k = absurd k

pub begun_told : {R : Type 0} (reading : R → Reading) (sources left next : List Reading) (source : Reading) (number : ℕ) (old new : Begun R) (line : Vec ℕ Global) → BegunSoFar reading sources left number old → left ≡ source ∷ next → BeginsOne reading (number + 1) source old (Ok (Some line)) new → BeginsAll {R = R} reading sources (Err line)
begun_told reading sources left next source number old new line h e k bs l =
    let mid = h bs l in
    let n = has_next source next mid.after (subst (λ x. AreLeft x mid.after) e mid.known) in
    by mid n (k n.b n.known)
  where
    by : (mid : BegunMid reading bs left number old) (n : HasNext source next mid.after) → (f : CarError Infallible) × IsNoFile n.b × RefusesStart f n.b × (line.items ≡ file_line (number + 1) (refused_line f)) → TellsNoneBegins bs line.items
    by mid n (f, none, refuses, told) = (mid.before, n.b, n.rest, mid.roots, f, mid.all ∙ ap (λ x. mid.before ++ x) n.is, begin_of 1 mid.before mid.roots (map (place_of reading) old.files.items) mid.following, none, refuses, told ∙ ap (λ x. file_line (x + 1) (refused_line f)) mid.count)

-- ---- one header

pub begun_one : {R : Type 0} (reading : R → Reading) (b : List ℕ) (start : Reading) (roots lent : List CidParts) (at : Following R) (old new : Begun R) → TakesStart start (forms roots) at.extent (input_reading reading at.input) → start.left ≡ Some b → new.files.items ≡ old.files.items ++ at ∷ [] → AddsRoots lent old.roots new.roots → lent ≡ roots
    → (all : List CidParts) × (place : Place) × IsAfter b all place × (place.number ≡ at.number)
    × (map (place_of reading) new.files.items ≡ map (place_of reading) old.files.items ++ place ∷ []) × AddsRoots all old.roots new.roots
begun_one reading b start roots lent at old new h l files adds same =
    (roots, place_of reading at, (start, h, l), refl, ap (map (place_of reading)) files ∙ map_push (place_of reading) old.files.items at, subst (λ x. AddsRoots x old.roots new.roots) same adds)

pub refuses_start : {E : Type 0} (source now : Reading) (error : CarError E) (number : ℕ) (b line told : List ℕ) → CarRefuses RefusesStart source error now → IsOfBytes error → line ≡ refused_line error → told ≡ file_line number line → source.left ≡ Some b → (e : CarError Infallible) × IsNoFile b × RefusesStart e b × (told ≡ file_line number (refused_line e))
refuses_start source now error number b line told h is tells says l =
    let r = header_alone source now error is h b l in
    (alone error, no_file (alone error) b r, r, says ∙ ap (file_line number) (tells ∙ alone_line error is))
