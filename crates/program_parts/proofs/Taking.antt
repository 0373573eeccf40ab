-- A file that is taken section by section.
use Rattle.std.proofs.Common.{◌≡◌, inl, inr, ℕ, List, [], ◌∷◌, ◌++◌, length, append_assoc, append-nil, refl, sym, ap, ◌∙◌, subst, Option, Some, Result, Ok, Err, IfOk, MatchResult, Vec, Global}
use Rattle.dagcbor_heads.specs.Reading.{Reading}
use Rattle.ipld_tree.specs.Cid.{CidParts}
use Rattle.dagcbor_items.specs.Walks.{forms}
use Rattle.files_car.specs.Car.{Section}
use Rattle.files_car.specs.Each.{SinkTakes, TakesEach, StopsEach, RunsEach}
use Rattle.files_car.specs.Extents.{bytes_within, wanting, EndsThere}
use Rattle.files_car.specs.Sources.{CarRefuses, RefusesStart, RefusesNext, TakesStart, TakesSectionBytes}
use Rattle.files_car.specs.declared.error.CarError.{CarError}
use Rattle.files_car.specs.declared.error.CarError.TheVariants as faults
use Rattle.files_car.specs.declared.each.ReadCarError.{ReadCarError}
use Rattle.files_car.specs.declared.each.ReadCarError.TheVariants as stop
use Rattle.files_car.proofs.Places.{IsPlace, no_file, place_begun, place_more, place_none, place_front, place_whole}
use Rattle.std.specs.declared.convert.Infallible.{Infallible}
use Rattle.program_shared.specs.declared.fault.ToolError.{ToolError}
use Rattle.program_parts.specs.Lines.{refused_line}
use Rattle.program_parts.specs.Taking.{IsOfBytes, TookEach, TakesFileFront, TakesWhole, StopsAtSection, EndsAt, EndsBy, EndsByFault, TakesAfter, TakesAll, TakesFile}
use Rattle.program_parts.specs.declared.take.Ended.{Ended}
use Rattle.program_parts.specs.declared.take.Ended.TheVariants as ended

-- ---- refusals of the bytes

-- the same refusal, for a source that cannot fail
abbrev pub alone : {E : Type 0} → CarError E → CarError Infallible
alone (faults.Read f) = faults.Truncated
alone faults.Truncated = faults.Truncated
alone faults.InvalidLength = faults.InvalidLength
alone (faults.InvalidCid f) = faults.InvalidCid f
alone (faults.NoBlock f) = faults.NoBlock f
alone faults.OtherHeader = faults.OtherHeader
alone faults.InvalidOffset = faults.InvalidOffset
alone faults.OutOfMemory = faults.OutOfMemory

pub alone_line : {E : Type 0} (e : CarError E) → IsOfBytes e → refused_line e ≡ refused_line (alone e)
alone_line (faults.Read f) is = absurd is
alone_line _ is = refl

pub section_alone : {E : Type 0} (extent : Option ℕ) (old now : Reading) (e : CarError E) → IsOfBytes e → CarRefuses (RefusesNext extent) old e now → (b : List ℕ) → old.left ≡ Some b → RefusesNext extent (alone e) b
section_alone extent old now (faults.Read f) is r = absurd is
section_alone extent old now faults.OutOfMemory is r = absurd is
section_alone extent old now _ is r = r.1

pub header_alone : {E : Type 0} (old now : Reading) (e : CarError E) → IsOfBytes e → CarRefuses RefusesStart old e now → (b : List ℕ) → old.left ≡ Some b → RefusesStart (alone e) b
header_alone old now (faults.Read f) is r = absurd is
header_alone old now faults.OutOfMemory is r = absurd is
header_alone old now _ is r = r.1

-- ---- one section after the other

-- what each section preserves is known after all of them
pub took_knows : {S Stop : Type 0} (takes : SinkTakes S Stop) (knows : S → List Section → Type 0) → ((s : Section) (old new : S) (done : List Section) → knows old done → takes s old (Ok tt) new → knows new (done ++ s ∷ []))
    → (done more : List Section) (old new : S) → knows old done → TookEach takes old more new → knows new (done ++ more)
took_knows takes knows step done [] old new h t = subst (knows new) (sym (append-nil done)) (subst (λ x. knows x done) (sym t) h)
took_knows takes knows step done (s ∷ more) old new h t = subst (knows new) (append_assoc done (s ∷ []) more) (took_knows takes knows step (done ++ s ∷ []) more t.0 new (step s old t.0 done h t.1) t.2)

-- sections taken in one way are taken in any weaker way
took_as : {S Stop : Type 0} (P Q : SinkTakes S Stop) → ((s : Section) (old : S) (r : Result (Unit {0}) Stop) (new : S) → P s old r new → Q s old r new) → (ss : List Section) (old new : S) → TookEach P old ss new → TookEach Q old ss new
took_as P Q f [] old new t = t
took_as P Q f (s ∷ ss) old new t = (t.0, f s old (Ok tt) t.0 t.1, took_as P Q f ss t.0 new t.2)

abbrev front_as : {S Stop : Type 0} (P Q : SinkTakes S Stop) → ((s : Section) (old : S) (r : Result (Unit {0}) Stop) (new : S) → P s old r new → Q s old r new) → (roots : List (List ℕ)) (b : List ℕ) (old new : S) → TakesFileFront P roots b old new → TakesFileFront Q roots b old new
front_as P Q f roots b old new h = record {
  sections = h.sections;
  wanting = h.wanting;
  rest = h.rest;
  front = h.front;
  took = took_as P Q f h.sections old new h.took;
}

pub ends_as : {S Stop : Type 0} (P Q : SinkTakes S Stop) → ((s : Section) (old : S) (r : Result (Unit {0}) Stop) (new : S) → P s old r new → Q s old r new) → (roots : List (List ℕ)) (b : List ℕ) (old new : S) (w : Result (Ended Stop) ToolError) → MatchResult w (λ e. EndsAt P roots b old e new) (λ _. TakesFileFront P roots b old new)
    → MatchResult w (λ e. EndsAt Q roots b old e new) (λ _. TakesFileFront Q roots b old new)
ends_as P Q f roots b old new (Ok ended.Whole) h = record { sections = h.sections; file = h.file; took = took_as P Q f h.sections old new h.took }
ends_as P Q f roots b old new (Ok (ended.Stopped stop)) h = record {
  it = h.it;
  first = front_as P Q f roots b old h.it h.first;
  section = h.section;
  wanting = h.wanting;
  rest = h.rest;
  front = h.front;
  refused = f h.section h.it (Err stop) new h.refused;
}
ends_as P Q f roots b old new (Ok (ended.Fault line)) h = (h.0, record { first = front_as P Q f roots b old new h.1.first; none = h.1.none; refuses = h.1.refuses }, h.2)
ends_as P Q f roots b old new (Err e) h = front_as P Q f roots b old new h

-- what no section changes
took_same : {S Stop X : Type 0} (takes : SinkTakes S Stop) (f : S → X) → ((s : Section) (old : S) (r : Result (Unit {0}) Stop) (new : S) → takes s old r new → f new ≡ f old) → (ss : List Section) (old new : S) → TookEach takes old ss new → f new ≡ f old
took_same takes f stays [] old new t = ap f t
took_same takes f stays (s ∷ ss) old new t = took_same takes f stays ss t.0 new t.2 ∙ stays s old (Ok tt) t.0 t.1

pub ends_same : {S Stop X : Type 0} (takes : SinkTakes S Stop) (f : S → X) → ((s : Section) (old : S) (r : Result (Unit {0}) Stop) (new : S) → takes s old r new → f new ≡ f old) → (roots : List (List ℕ)) (b : List ℕ) (old new : S) (w : Result (Ended Stop) ToolError)
    → MatchResult w (λ e. EndsAt takes roots b old e new) (λ _. TakesFileFront takes roots b old new) → f new ≡ f old
ends_same takes f stays roots b old new (Ok ended.Whole) h = took_same takes f stays h.sections old new h.took
ends_same takes f stays roots b old new (Ok (ended.Stopped stop)) h = stays h.section h.it (Err stop) new h.refused ∙ took_same takes f stays h.first.sections old h.it h.first.took
ends_same takes f stays roots b old new (Ok (ended.Fault line)) h = took_same takes f stays h.1.first.sections old new h.1.first.took
ends_same takes f stays roots b old new (Err e) h = took_same takes f stays h.sections old new h.took

-- what is left in the source after the header and these sections
abbrev IsLeft : List ℕ → List (List ℕ) → List Section → Option ℕ → Reading → Type 0
IsLeft b roots ss extent source = (rest : List ℕ) × (source.left ≡ Some rest) × IsPlace b roots ss extent rest

-- a header was taken
pub left_begun : (roots : List (List ℕ)) (extent : Option ℕ) (start source : Reading) (b : List ℕ) → TakesStart start roots extent source → start.left ≡ Some b → IsLeft b roots [] extent source
left_begun roots extent start source b h l = let w = h.takes.taken b l in (w.0, w.2, subst (λ x. IsPlace x roots [] extent w.0) (sym w.1) (place_begun h.front w.0 roots extent h.header h.start))

-- one more section
left_more : (b : List ℕ) (roots : List (List ℕ)) (ss : List Section) (s : Section) (extent more : Option ℕ) (source following : Reading) → IsLeft b roots ss extent source → TakesSectionBytes extent source s more following → IsLeft b roots (ss ++ s ∷ []) more following
left_more b roots ss s extent more source following h t =
    let w = t.1.takes.taken h.0 h.1 in
    (w.0, w.2, place_more b w.0 roots ss extent more s (subst (λ x. IsPlace b roots ss extent x) w.1 h.2) t.0 t.1.spends)

left_each : {S Stop : Type 0} (takes : SinkTakes S Stop) (b : List ℕ) (roots : List (List ℕ)) (ss more : List Section) (extent rest : Option ℕ) (source mid : Reading) (old new : S) → IsLeft b roots ss extent source → TakesEach takes extent source old more rest mid new → IsLeft b roots (ss ++ more) rest mid × TookEach takes old more new
left_each takes b roots ss [] extent rest source mid old new h t = (
  subst (λ e. IsLeft b roots (ss ++ []) e mid) (sym t.0) (subst (IsLeft b roots (ss ++ []) extent) (sym t.1) (subst (λ l. IsLeft b roots l extent source) (sym (append-nil ss)) h)),
  t.2,
)
left_each takes b roots ss (s ∷ more) extent rest source mid old new h t =
    let w = left_each takes b roots (ss ++ s ∷ []) more t.0 rest t.1 mid t.2 new (left_more b roots ss s extent t.0 source t.1 h t.3) t.5 in
    (subst (λ l. IsLeft b roots l rest mid) (append_assoc ss (s ∷ []) more) w.0, (t.2, t.4, w.1))

module _ {S Stop : Type 0} (takes : SinkTakes S Stop) (roots : List (List ℕ)) (b : List ℕ) where
  abbrev taken_front : (ss : List Section) (extent : Option ℕ) (source : Reading) (old new : S) → IsLeft b roots ss extent source → TookEach takes old ss new → TakesFileFront takes roots b old new
  taken_front ss extent source old new h t = record {
    sections = ss;
    wanting = wanting extent h.0;
    rest = bytes_within extent h.0;
    front = place_front b h.0 roots ss extent h.2;
    took = t;
  }

  -- all sections were taken
  pub all_taken : (extent more : Option ℕ) (source following : Reading) (old new : S) (count : ℕ) → IsLeft b roots [] extent source → ((ss : List Section) × (rest : Option ℕ) × (mid : Reading) × TakesEach takes extent source old ss rest mid new × (count ≡ length ss) × EndsThere rest mid more following) → TakesWhole takes roots b old new
  all_taken extent more source following old new count h k =
      let w = left_each takes b roots [] k.0 extent k.1 source k.2 old new h k.3 in
      record { sections = k.0; file = place_whole b w.0.0 roots k.0 k.1 more k.2 following w.0.2 k.5 w.0.1; took = w.1 }

  -- some were taken, up to a fault of the bytes
  fault_after : {E : Type 0} (count : ℕ) (ss : List Section) (extent more : Option ℕ) (mid following : Reading) (old it new : S) (e : CarError E) (r : Result (Ended Stop) ToolError) → IsLeft b roots ss extent mid → TookEach takes old ss it → StopsEach takes (length ss) extent mid it (stop.Section count e) more following new → EndsByFault {Stop = Stop} e r
      → MatchResult r (λ w. EndsAt takes roots b old w new) (λ _. TakesFileFront takes roots b old new)
  fault_after count ss extent more mid following old it new e (Err x) h t k told = taken_front ss extent mid old new h (subst (TookEach takes old ss) (sym k.2) t)
  fault_after count ss extent more mid following old it new e (Ok (ended.Fault line)) h t k told = (
    alone e,
    record {
      first = taken_front ss extent mid old new h (subst (TookEach takes old ss) (sym k.2) t);
      none = place_none (alone e) b h.0 roots ss extent h.2 (section_alone extent mid following e told.1 k.1.0 h.0 h.1);
      refuses = section_alone extent mid following e told.1 k.1.0 h.0 h.1;
    },
    told.0 ∙ alone_line e told.1,
  )
  fault_after count ss extent more mid following old it new e (Ok ended.Whole) h t k told = absurd told.0
  fault_after count ss extent more mid following old it new e (Ok (ended.Stopped stop)) h t k told = absurd told.0

  stopped : {E : Type 0} (ss : List Section) (extent more : Option ℕ) (mid following : Reading) (old it new : S) (e : ReadCarError E Stop) (r : Result (Ended Stop) ToolError) → IsLeft b roots ss extent mid → TookEach takes old ss it → StopsEach takes (length ss) extent mid it e more following new → EndsBy e r
      → MatchResult r (λ w. EndsAt takes roots b old w new) (λ _. TakesFileFront takes roots b old new)
  stopped ss extent more mid following old it new (stop.Header e) r h t k told = absurd k
  stopped ss extent more mid following old it new (stop.Section count e) r h t k told = fault_after count ss extent more mid following old it new e r h t k told
  stopped ss extent more mid following old it new (stop.Block count name why) r h t k told =
      let next = left_more b roots ss k.0 extent more mid following h k.2 in
      let at : StopsAtSection takes roots b old why new = record {
        it = it;
        first = taken_front ss extent mid old it h t;
        section = k.0;
        wanting = wanting more next.0;
        rest = bytes_within more next.0;
        front = place_front b next.0 roots (ss ++ k.0 ∷ []) more next.2;
        refused = k.4;
      } in
      subst (λ x. MatchResult x (λ w. EndsAt takes roots b old w new) (λ _. TakesFileFront takes roots b old new)) (sym told) at

  too_many : {E : Type 0} (count : ℕ) (e : ReadCarError E Stop) (r : Result (Ended Stop) ToolError) (X : Ended Stop → Type 0) (Y : Type 0) → e ≡ stop.Section count faults.OutOfMemory → EndsBy e r → Y → MatchResult r X (λ _. Y)
  too_many count e (Err x) X Y is told y = y
  too_many {E} count e (Ok w) X Y is told y = none w (subst (λ x. EndsBy x (Ok w)) is told)
    where
      none : {Z : Type 0} (w : Ended Stop) → EndsByFault {E = E} faults.OutOfMemory (Ok w) → Z
      none w k = absurd k.1

  -- some were taken
  pub some_taken : {E : Type 0} (extent more : Option ℕ) (source following : Reading) (old new : S) (e : ReadCarError E Stop) (r : Result (Ended Stop) ToolError) → IsLeft b roots [] extent source → RunsEach takes extent source old (Err e) more following new → EndsBy e r
      → MatchResult r (λ w. EndsAt takes roots b old w new) (λ _. TakesFileFront takes roots b old new)
  some_taken extent more source following old new e r h (ss, rest, mid, it, t, inl k) told =
      let w = left_each takes b roots [] ss extent rest source mid old it h t in
      stopped ss rest more mid following old it new e r w.0 w.1 k told
  some_taken extent more source following old new e r h (ss, rest, mid, it, t, inr k) told =
      let w = left_each takes b roots [] ss extent rest source mid old it h t in
      too_many (length ss) e r (λ w. EndsAt takes roots b old w new) (TakesFileFront takes roots b old new) k.2.0 told (taken_front ss rest mid old new w.0 (subst (TookEach takes old ss) (sym k.1) w.1))

-- ---- the whole

-- all sections after a header, if a header was read
pub after_header : {S Stop : Type 0} (takes : SinkTakes S Stop) (extent : Option ℕ) (start source : Reading) (roots : Vec CidParts Global) (old new : S) (w : Ended Stop) → TakesStart start (forms roots.items) extent source → TakesAfter takes extent source old (Ok w) new → TakesFile takes start old (Ok (roots, w)) new
after_header takes extent start source roots old new w h k = λ b l. inr (k start (forms roots.items) h b l)

pub not_begun : {S Stop E : Type 0} (takes : SinkTakes S Stop) (start source : Reading) (it : S) (error : CarError E) (v : Vec ℕ Global) (none : Vec CidParts Global) → CarRefuses RefusesStart start error source → IsOfBytes error → v.items ≡ refused_line error → none.items ≡ [] → (b : List ℕ) → start.left ≡ Some b → TakesAll takes b it (none, ended.Fault v) it
not_begun takes start source it error v none h is told free b l =
    let refused = header_alone start source error is h b l in
    inl ((alone error, no_file (alone error) b refused, refused, told ∙ alone_line error is), free, refl)

-- if the bytes are known, what holds of an `Ok` for all bytes holds for these
pub of_known : {A E : Type 0} (P : List ℕ → A → Type 0) (r : Result A E) (known : Option (List ℕ)) → IfOk r (λ x. (b : List ℕ) → known ≡ Some b → P b x) → (b : List ℕ) → known ≡ Some b → IfOk r (P b)
of_known P (Ok x) known h b l = h b l
of_known P (Err e) known h b l = tt
