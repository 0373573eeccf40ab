-- How a split ends.
use Rattle.std.proofs.Common.{◌≡◌, ◌⊎◌, inl, inr, ℕ, ◌+◌, ◌-◌, List, [], ◌∷◌, ◌++◌, length, append-nil, Bool, false, refl, sym, ap, ◌∙◌, subst, Option, Some, Result, Ok, Err, MatchResult, String, string_bytes}
use Rattle.std.specs.Io.KnownBytes.{Appends}
use Rattle.std.proofs.KnownBytes.{Appends-nil}
use Rattle.std.specs.declared.alloc.Global.{Global}
use Rattle.ipld_tree.specs.Cid.{CidParts}
use Rattle.dagcbor_items.specs.Walks.{forms}
use Rattle.files_car.specs.Car.{Section, car_bytes, section_bytes}
use Rattle.files_car.specs.Each.{SinkTakes}
use Rattle.files_car.specs.Sources.{CarRefuses, RefusesStart}
use Rattle.files_car.specs.declared.error.CarError.{CarError}
use Rattle.files_car.proofs.Places.{no_file}
use Rattle.dagcbor_heads.specs.Reading.{Reading}
use Rattle.program_parts.specs.Lines.{refused_line}
use Rattle.program_parts.specs.Taking.{IsOfBytes, TookEach, TakesFileFront, EndsAt}
use Rattle.program_parts.proofs.Taking.{took_knows, alone, alone_line, header_alone}
use Rattle.program_parts.specs.declared.take.Ended.{Ended}
use Rattle.program_parts.specs.declared.take.Ended.TheVariants as ended
use Rattle.program_shared.specs.declared.fault.ToolError.{ToolError}
use Rattle.program_shared.specs.declared.fault.ToolError.TheVariants.{Input, Output, OutOfMemory}
use Rattle.program_sections.specs.NewFiles.{Named, AddsFiles}
use Rattle.program_sections.specs.Parts.{part_name, roots_of_parts, split_files}
use Rattle.program_sections.specs.Splitting.{IsSplitOf, IsSplitFront, HasSections, Splits, Making, making, there_line}
use Rattle.program_sections.specs.SplitSteps.{IsFaultOf, Work, goes_in, IsFinished, SplitsSection, IsPlanOf, Made, made, FinishesLast, EndsParts, BreaksParts, SplitsEnded, EndsTold, TellsSplit}
use Rattle.program_sections.specs.declared.split_words.Split.{Split}
use Rattle.program_sections.specs.declared.part.Plan.{Plan}
use Rattle.program_sections.specs.declared.part.PartFault.{PartFault}
use Rattle.program_sections.specs.declared.part.PartFault.TheVariants as faults
use Rattle.program_sections.specs.declared.split.SplitEnd.{SplitEnd}
use Rattle.program_sections.specs.declared.split.SplitEnd.TheVariants as ends
use Rattle.program_sections.proofs.Filtering.{whole_front}
use Rattle.program_sections.proofs.Dividing.{Divided, files_of, one_more, adds_none, files_now, files_next, parts_now, whole_now, whole_next}

-- no more files are finished
adds_same : (first now after : Option (List Named)) (files : List Named) → after ≡ now → AddsFiles first now files → AddsFiles first after files
adds_same first now after files same h before is = same ∙ h before is

-- ---- the sections

module _ {S : Type 0} (takes : SinkTakes S PartFault) (work : S → Work) (step : (s : Section) (old : S) (r : Result (Unit {0}) PartFault) (new : S) → takes s old r new → SplitsSection s (work old) r (work new)) (plan : Plan) (roots : List CidParts) (b : List ℕ) (first : Option (List Named)) (is : IsPlanOf roots plan) (old new : S) (begun : Divided plan (forms (roots_of_parts plan.asked.now.roots.items roots)) first (work old) []) where
  abbrev asked : Split
  asked = plan.asked.now

  abbrev all : List (List ℕ)
  all = forms (roots_of_parts asked.roots.items roots)

  abbrev prefix : List ℕ
  prefix = asked.prefix.now

  split_each : (ss : List Section) (now : S) → TookEach takes old ss now → Divided plan all first (work now) ss
  split_each ss now t = took_knows takes (λ it done. Divided plan all first (work it) done) (λ s x y done h k. one_more plan all first is s (work x) (work y) done h (step s x (Ok tt) y k)) [] ss old now begun t

  -- the parts before the one that is begun
  front_now : (ss : List Section) (now : S) (after : Made) → Divided plan all first (work now) ss → HasSections b roots ss → after.whole ≡ (work now).whole → BreaksParts asked b (making first after.whole after.has)
  front_now ss now after at stand same = (
    files_of prefix all at.closed,
    inr (roots, ss, (part_name prefix (length at.closed), car_bytes all at.part) ∷ [], stand, files_now plan all first is (work now) ss at),
    adds_same first (work now).whole after.whole (files_of prefix all at.closed) same (whole_now plan all first is (work now) ss at),
  )

  -- all parts
  all_now : (ss : List Section) (now : S) (after : Made) → Divided plan all first (work now) ss → ((x : List ℕ) → (work now).written ≡ Some x → AddsFiles (work now).whole after.whole ((part_name prefix (work now).number, x) ∷ [])) → AddsFiles first after.whole (split_files asked roots ss)
  all_now ss now after at k =
      let done : IsFinished (work now) (record (work now) { whole = after.whole }) = subst (λ (p : Plan). (x : List ℕ) → (work now).written ≡ Some x → AddsFiles (work now).whole after.whole ((part_name p.asked.now.prefix.now (work now).number, x) ∷ [])) (sym at.plan_is) k in
      subst (λ ps. AddsFiles first after.whole (files_of prefix all ps)) (sym (parts_now plan all first is (work now) ss at)) (whole_next plan all first is (work now) (record (work now) { whole = after.whole }) ss at done)

  -- the last part, after these sections, which are all or those before a fault
  last_part : (ss : List Section) (now : S) (after : Made) (end : Ended PartFault) (r : Result (Ended PartFault) ToolError) (at : Divided plan all first (work now) ss) → HasSections b roots ss
      → (AddsFiles first after.whole (split_files asked roots ss) → SplitsEnded asked b (Ok end) (making first after.whole after.has))
      → FinishesLast plan end (record { number = (work now).number; written = (work now).written }) (made (work now).whole (work now).has) r after → SplitsEnded asked b r (making first after.whole after.has)
  last_part ss now after end (Ok e) at stand good k = subst (λ x. SplitsEnded asked b (Ok x) (making first after.whole after.has)) (sym k.0) (good (all_now ss now after at k.1))
  last_part ss now after end (Err e) at stand good k = front_now ss now after at stand k

  -- a section was refused
  stopped : (ss : List Section) (s : Section) (it now : S) (why : PartFault) → Divided plan all first (work it) ss → HasSections b roots ss → HasSections b roots (ss ++ s ∷ []) → SplitsSection s (work it) (Err why) (work now) → SplitsEnded asked b (Ok (ended.Stopped why)) (making first (work now).whole (work now).has)
  stopped ss s it now why at stand more k = by why k.2
    where
      next : goes_in (work it) (length (section_bytes s)) ≡ false → split_files asked roots (ss ++ s ∷ []) ≡ files_of prefix all (at.closed ++ at.part ∷ []) ++ (part_name prefix (length at.closed + 1), car_bytes all (s ∷ [])) ∷ []
      next full = files_next plan all first is (work it) ss s at full

      by : (x : PartFault) → (((work now).whole ≡ (work it).whole) × ((e : ToolError) × (x ≡ faults.Failed e))) ⊎ ((goes_in (work it) (length (section_bytes s)) ≡ false) × IsFinished (work it) (work now) × IsFaultOf (work it).plan ((work it).number + 1) (work now).has x) → SplitsEnded asked b (Ok (ended.Stopped x)) (making first (work now).whole (work now).has)
      by x (inl h) = subst (λ y. SplitsEnded asked b (Ok (ended.Stopped y)) (making first (work now).whole (work now).has)) (sym h.1.1) (front_now ss it (made (work now).whole (work now).has) at stand h.0)
      by (faults.Failed e) (inr h) = (
        files_of prefix all (at.closed ++ at.part ∷ []),
        inr (roots, ss ++ s ∷ [], (part_name prefix (length at.closed + 1), car_bytes all (s ∷ [])) ∷ [], more, next h.0),
        whole_next plan all first is (work it) (work now) ss at h.1,
      )
      by (faults.Exists name) (inr h) =
          let named = h.2.0 ∙ ap (λ (p : Plan). part_name p.asked.now.prefix.now ((work it).number + 1)) at.plan_is ∙ ap (λ n. part_name prefix (n + 1)) at.number_is in (
            files_of prefix all (at.closed ++ at.part ∷ []),
            (
              roots,
              ss ++ s ∷ [],
              string_bytes name,
              car_bytes all (s ∷ []),
              more,
              next h.0 ∙ ap (λ n. files_of prefix all (at.closed ++ at.part ∷ []) ++ (n, car_bytes all (s ∷ [])) ∷ []) (sym named),
              h.2.1,
              refl,
            ),
            whole_next plan all first is (work it) (work now) ss at h.1,
          )

  pub all_ended : (ended : Result (Ended PartFault) ToolError) (r : Result (Ended PartFault) ToolError) (after : Made) → MatchResult ended (λ e. EndsAt takes (forms roots) b old e new) (λ _. TakesFileFront takes (forms roots) b old new)
      → EndsParts plan ended (record { number = (work new).number; written = (work new).written }) (made (work new).whole (work new).has) r after → SplitsEnded asked b r (making first after.whole after.has)
  all_ended (Ok ended.Whole) r after h k =
      let stand : HasSections b roots h.sections = (0, [], whole_front b (forms roots) h.sections h.file) in
      last_part h.sections new after ended.Whole r (split_each h.sections new h.took) stand
      (λ adds. (split_files asked roots h.sections, (roots, h.sections, h.file, refl, refl), adds)) k
  all_ended (Ok (ended.Fault line)) r after h k =
      let f = h.1.first in
      let stand : HasSections b roots f.sections = (f.wanting, f.rest, f.front) in
      last_part f.sections new after (ended.Fault line) r (split_each f.sections new f.took) stand
      (λ adds. (split_files asked roots f.sections, (h.0, (h.1.none, inr (roots, f.sections, f.wanting, f.rest, f.front, h.1.refuses, refl)), h.2), adds)) k
  all_ended (Ok (ended.Stopped why)) r after h k =
      let f = h.first in
      let at = stopped f.sections h.section h.it new why (split_each f.sections h.it f.took) (f.wanting, f.rest, f.front) (h.wanting, h.rest, h.front) (step h.section h.it (Err why) new h.refused) in
      subst (λ x. SplitsEnded asked b x (making first after.whole after.has)) (sym k.0) (subst (λ (x : Made). SplitsEnded asked b (Ok (ended.Stopped why)) (making first x.whole x.has)) (sym k.1) at)
  all_ended (Err e) r after h k =
      let at = front_now h.sections new (made (work new).whole (work new).has) (split_each h.sections new h.took) (h.wanting, h.rest, h.front) refl in
      subst (λ x. SplitsEnded asked b x (making first after.whole after.has)) (sym k.0) (subst (λ (x : Made). SplitsEnded asked b (Err e) (making first x.whole x.has)) (sym k.1) at)

-- the header is refused
pub start_refused : {E : Type 0} (of : Split) (has : List ℕ → Option Bool) (source now : Reading) (error : CarError E) (b line : List ℕ) → CarRefuses RefusesStart source error now → IsOfBytes error → line ≡ refused_line error → source.left ≡ Some b → IsSplitOf of b has ends.Fault [] line
start_refused of has source now error b line h is tells l =
    let r = header_alone source now error is h b l in
    (alone error, (no_file (alone error) b r, inl (r, refl)), tells ∙ alone_line error is)

-- the first part was not begun
pub first_stopped : (plan : Plan) (roots : List CidParts) (b : List ℕ) (first now : Option (List Named)) (has : List ℕ → Option Bool) (why : PartFault) → HasSections b roots [] → now ≡ first → IsFaultOf plan 0 has why → SplitsEnded plan.asked.now b (Ok (ended.Stopped why)) (making first now has)
first_stopped plan roots b first now has (faults.Failed e) stand same h = ([], inl refl, adds_same first first now [] same (adds_none first))
first_stopped plan roots b first now has (faults.Exists name) stand same h =
    let all = forms (roots_of_parts plan.asked.now.roots.items roots) in
    ([], (roots, [], string_bytes name, car_bytes all [], stand, ap (λ n. (n, car_bytes all []) ∷ []) (sym h.0), h.1, refl), adds_same first first now [] same (adds_none first))

-- ---- the error lines

module _ (asked : Split) (b : List ℕ) (m : Making) (heard : Option (List ℕ)) where
  -- the files are the first ones
  front_of : (end : SplitEnd) (files : List Named) (told : List ℕ) → IsSplitOf asked b m.has end files told → IsSplitFront asked b files
  front_of ends.Whole files told h = inr (h.0, h.1, [], (0, [], whole_front b (forms h.0) h.1 h.2), sym h.3 ∙ sym (append-nil files))
  front_of ends.Fault files told (e, (none, inl h), is) = inl h.1
  front_of ends.Fault files told (e, (none, inr h), is) = inr (h.0, h.1, [], (h.2, h.3, h.4), sym h.6 ∙ sym (append-nil files))
  front_of ends.Exists files told h = inr (h.0, h.1, (h.2, h.3) ∷ [], h.4, h.5)

  pub ends_told : (end : SplitEnd) (files : List Named) (line : List ℕ) (r : Result SplitEnd ToolError) (after : Option (List ℕ)) → IsSplitOf asked b m.has end files line → AddsFiles m.old m.new files → EndsTold end line heard r after → Splits asked b m heard r after
  ends_told end files line (Ok answer) after is adds h = (files, line, subst (λ x. IsSplitOf asked b m.has x files line) (sym h.0) is, adds, h.1)
  ends_told end files line (Err Output) after is adds h = inr (end, files, h.0, h.1, subst (IsSplitOf asked b m.has end files) h.2 is, refl, adds, h.3)
  ends_told end files line (Err OutOfMemory) after is adds same = inl (files, front_of end files line is, adds, subst (λ x. Appends heard x []) (sym same) (Appends-nil heard))
  ends_told end files line (Err Input) after is adds h = absurd h

  -- the run broke off, and no error line was written
  pub broke_off : (e : ToolError) (r : Result SplitEnd ToolError) (after : Option (List ℕ)) → BreaksParts asked b m → (r ≡ Err e) → after ≡ heard → Splits asked b m heard r after
  broke_off e r after h is same =
      let at : Splits asked b m heard (Err e) heard = inl (h.0, h.1, h.2, Appends-nil heard) in
      subst (λ x. Splits asked b m heard x after) (sym is) (subst (λ x. Splits asked b m heard (Err e) x) (sym same) at)

  pub split_told : (ended : Result (Ended PartFault) ToolError) (r : Result SplitEnd ToolError) (after : Option (List ℕ)) → SplitsEnded asked b ended m → TellsSplit ended heard r after → Splits asked b m heard r after
  split_told (Ok ended.Whole) r after h k =
      let at : Splits asked b m heard (Ok ends.Whole) heard = (h.0, [], h.1, h.2, Appends-nil heard) in
      subst (λ x. Splits asked b m heard x after) (sym k.0) (subst (λ x. Splits asked b m heard (Ok ends.Whole) x) (sym k.1) at)
  split_told (Ok (ended.Fault line)) r after h k = ends_told ends.Fault h.0 line.items r after h.1 h.2 k
  split_told (Ok (ended.Stopped (faults.Exists name))) r after h k = ends_told ends.Exists h.0 (there_line (string_bytes name)) r after h.1 h.2 k
  split_told (Ok (ended.Stopped (faults.Failed e))) r after h k = broke_off e r after h k.0 k.1
  split_told (Err e) r after h k = broke_off e r after h k.0 k.1

-- the name of a part is taken
pub told_there : (how : Result (Ended PartFault) ToolError) (name : String Global) (line : List ℕ) (heard : Option (List ℕ)) (r : Result SplitEnd ToolError) (after : Option (List ℕ)) → how ≡ Ok (ended.Stopped (faults.Exists name)) → line ≡ there_line (string_bytes name) → EndsTold ends.Exists line heard r after → TellsSplit how heard r after
told_there how name line heard r after is same h = subst (λ e. TellsSplit e heard r after) (sym is) (subst (λ l. EndsTold ends.Exists l heard r after) same h)
