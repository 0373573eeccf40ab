-- What was said of a file so far, and how a run ends.
use Rattle.std.proofs.Common.{◌≡◌, inl, inr, ℕ, List, [], ◌∷◌, ◌++◌, Bool, true, false, ◌&&◌, refl, sym, ap, ◌∙◌, subst, append_assoc, append-nil, ◌↔◌, IsTrue, Option, Result, Ok, Err, MatchResult, IfOk, IsErrAnd, Vec, flat_map, Global}
use Rattle.std.specs.Io.KnownBytes.{Appends}
use Rattle.std.proofs.KnownBytes.{Appends-nil, Appends-trans}
use Rattle.std.specs.declared.convert.Infallible.{Infallible}
use Rattle.dagcbor_heads.specs.Reading.{Reading}
use Rattle.ipld_tree.specs.Cid.{CidParts}
use Rattle.files_car.specs.Car.{Section, car_bytes}
use Rattle.files_car.specs.Versions.{IsFile}
use Rattle.files_car.specs.Each.{SinkTakes}
use Rattle.files_car.specs.Extents.{bytes_within, wanting}
use Rattle.files_car.specs.Sources.{CarRefuses, RefusesStart, TakesStart}
use Rattle.files_car.specs.Checks.{IsAfter, ListsMissingInFile, IsFileFront}
use Rattle.files_car.specs.declared.check.CarCheck.{CarCheck}
use Rattle.files_car.specs.declared.error.CarError.{CarError}
use Rattle.files_car.proofs.Places.{no_file, place_front}
use Rattle.program_parts.specs.Lines.{missing_line, refused_line, BreaksLine, SaysToDevice, SaysLines}
use Rattle.program_parts.proofs.Saying.{lines_said, each_push}
use Rattle.program_shared.specs.Writing.{WritesFront}
use Rattle.program_dagcar.specs.Answers.{check_speech}
use Rattle.program_dagcar.specs.Speeches.{Speech, beside, IsSaidSoFar, IsSaidOfBytes, AreFirstLines, AreLines, BreaksSpeech, SaysBytes, SaysFile}
use Rattle.program_dagcar.specs.Steps.{Knowing, SaysAtEnd, Work, SaysSection, SaysRest}
use Rattle.program_parts.specs.Taking.{IsOfBytes, TookEach, TakesFileFront, TakesWhole, FaultAfter, EndsAt}
use Rattle.program_parts.proofs.Taking.{took_knows, left_begun, alone, alone_line, header_alone}
use Rattle.program_parts.specs.declared.take.Ended.{Ended}
use Rattle.program_parts.specs.declared.take.Ended.TheVariants as ended
use Rattle.program_shared.specs.declared.fault.ToolError.{ToolError}
use Rattle.program_shared.specs.declared.fault.ToolError.TheVariants.{Input, Output, OutOfMemory}

-- ---- sections

so_far_push : (speech : Speech) (roots : List (List ℕ)) (ss : List Section) (s : Section) (all well : Bool) (said line : List ℕ) → IsSaidSoFar speech roots ss all said → speech.of_section s well line → IsSaidSoFar speech roots (ss ++ s ∷ []) (all && well) (said ++ line)
so_far_push speech roots ss s all well said line h is = (h.0 ++ line, each_push speech.of_section ss s all well h.0 line h.1 is, ap (λ x. x ++ line) h.2 ∙ append_assoc (speech.of_roots roots) h.0 line)

none_yet : (speech : Speech) (roots : List (List ℕ)) (text : List ℕ) → text ≡ speech.of_roots roots → IsSaidSoFar speech roots [] true text
none_yet speech roots text is = ([], (refl, refl), is ∙ sym (append-nil (speech.of_roots roots)))

-- a file is a prefix of itself
whole_front : {b : List ℕ} {roots : List (List ℕ)} {ss : List Section} → IsFile b roots ss → IsFileFront b roots ss 0 []
whole_front {b} {roots} {ss} h = (h.0, h.1, record { header = h.2.header; all = h.2.all; is = h.2.is ∙ sym (append-nil (car_bytes roots ss)) })

-- ---- a line after others

-- the run broke off in, or before, what is said next
broken : (speech : Speech) (b whole : List ℕ) (before between after : Option (List ℕ)) (IsLine : List ℕ → Type 0) (e : ToolError) → AreFirstLines speech b whole → Appends before between whole → ((text : List ℕ) → IsLine text → AreLines speech b (whole ++ text)) → BreaksLine IsLine between after e
    → BreaksSpeech speech b before after e
broken speech b whole before between after IsLine e first out next (inl none) = record { whole = whole; front = []; first = first; out = Appends-trans before between after whole [] out none; next = inl refl }
broken speech b whole before between after IsLine e first out next (inr k) = record { whole = whole; front = k.0; first = first; out = Appends-trans before between after whole k.0 out k.4; next = inr (k.3, (k.1, next (k.0 ++ k.1) k.2)) }

-- the last lines
last_said : (IsLast : Bool → List ℕ → Type 0) (speech : Speech) (b whole : List ℕ) (before between after : Option (List ℕ)) (r : Result Bool ToolError) → AreFirstLines speech b whole → Appends before between whole → ((well : Bool) (text : List ℕ) → IsLast well text → IsSaidOfBytes speech b well (whole ++ text)) → SaysToDevice IsLast between r after
    → SaysBytes speech b before r after
last_said IsLast speech b whole before between after (Ok well) first out next k = (whole ++ k.0, next well k.0 k.1, Appends-trans before between after whole k.0 out k.2)
last_said IsLast speech b whole before between after (Err e) first out next k =
    broken speech b whole before between after (λ text. (well : Bool) × IsLast well text) e first out (λ text is. inr (is.0, next is.0 text is.1)) k

-- ---- a teller at work

-- where others are written, no lines are
lines_silent : (lines : List ℕ) (well : Bool) (before heard : Option (List ℕ)) (r : Result Bool ToolError) (after : Option (List ℕ)) → SaysLines lines well before r after → SaysLines [] well heard r heard
lines_silent lines well before heard (Ok answer) after says = (says.0, Appends-nil heard)
lines_silent lines well before heard (Err Output) after says = ([], [], refl, Appends-nil heard)
lines_silent lines well before heard (Err OutOfMemory) after says = refl
lines_silent lines well before heard (Err Input) after says = absurd says

-- the error lines about sections were written, and there are none for a fault or at the end
pub rest_silent : {T : Type 0} (speech : Speech) (TellsOf : Section → List ℕ → Type 0) (knows : Knowing T) (teller : T) (well : Bool) (w : Result (Ended ToolError) ToolError) (before heard : Option (List ℕ)) (r : Result Bool ToolError) (after : Option (List ℕ)) → SaysRest speech knows teller well w before r after → SaysRest (beside TellsOf) knows teller well w heard r heard
rest_silent speech TellsOf knows teller well (Ok ended.Whole) before heard (Ok answer) after says = λ roots sections k.
    let s = says roots sections k in
    ([], (s.1.0, refl, s.1.2), Appends-nil heard)
rest_silent speech TellsOf knows teller well (Ok ended.Whole) before heard (Err e) after says = λ roots sections k. inl (Appends-nil heard)
rest_silent speech TellsOf knows teller well (Ok (ended.Stopped e)) before heard r after says = (says.0, refl)
rest_silent speech TellsOf knows teller well (Ok (ended.Fault line)) before heard r after says = lines_silent (speech.of_fault line.items) false before heard r after says
rest_silent speech TellsOf knows teller well (Err e) before heard r after says = (says.0, refl)

-- what a teller does to its work
abbrev pub Tells : {S T : Type 0} → Speech → Knowing T → (S → Work T) → SinkTakes S ToolError
Tells speech knows work s old result new = SaysSection speech knows s (work old) result (work new)

module _ {S T : Type 0} (speech : Speech) (knows : Knowing T) (work : S → Work T) (roots : List (List ℕ)) (b : List ℕ) (before : Option (List ℕ)) where
  -- what was said of these sections
  pub record SoFar (it : S) (done : List Section) : Type 0 where
    pub said : List ℕ
    pub far : IsSaidSoFar speech roots done (work it).well said
    pub after : knows (work it).teller roots done
    pub out : Appends before (work it).written said

  one_more : (s : Section) (old new : S) (done : List Section) → SoFar old done → SaysSection speech knows s (work old) (Ok tt) (work new) → SoFar new (done ++ s ∷ [])
  one_more s old new done h k = record {
    said = h.said ++ k.1.1;
    far = subst (λ w. IsSaidSoFar speech roots (done ++ s ∷ []) w (h.said ++ k.1.1)) (sym k.1.4) (so_far_push speech roots done s (work old).well k.1.0 h.said k.1.1 h.far k.1.2);
    after = k.1.3 roots done h.after;
    out = Appends-trans before (work old).written (work new).written h.said k.1.1 h.out k.1.5;
  }

  pub all_said : (ss : List Section) (old new : S) → SoFar old [] → TookEach (Tells speech knows work) old ss new → SoFar new ss
  all_said ss old new h t = took_knows (Tells speech knows work) SoFar one_more [] ss old new h t

  first_lines : (it : S) (ss : List Section) (n : ℕ) (rest : List ℕ) (h : SoFar it ss) → IsFileFront b roots ss n rest → AreFirstLines speech b h.said
  first_lines it ss n rest h front = inr (roots, ss, n, rest, (work it).well, front, h.far)

  -- the run broke off between two lines
  nothing_more : (it : S) (ss : List Section) (n : ℕ) (rest : List ℕ) (e : ToolError) → SoFar it ss → IsFileFront b roots ss n rest → BreaksSpeech speech b before (work it).written e
  nothing_more it ss n rest e h front = record {
    whole = h.said;
    front = [];
    first = first_lines it ss n rest h front;
    out = subst (Appends before (work it).written) (sym (append-nil h.said)) h.out;
    next = inl refl;
  }

  -- the lines of a section broke off
  section_broken : (it new : S) (ss : List Section) (s : Section) (n m : ℕ) (rest following : List ℕ) (e : ToolError) → SoFar it ss → IsFileFront b roots ss n rest → IsFileFront b roots (ss ++ s ∷ []) m following → SaysSection speech knows s (work it) (Err e) (work new) → BreaksSpeech speech b before (work new).written e
  section_broken it new ss s n m rest following e h front next k =
      broken speech b h.said before (work it).written (work new).written (λ text. (well : Bool) × speech.of_section s well text) e (first_lines it ss n rest h front) h.out
      (λ text is. inl (inr (roots, ss ++ s ∷ [], m, following, (work it).well && is.0, next, so_far_push speech roots ss s (work it).well is.0 h.said text h.far is.1))) k.1

  -- a line that says why the bytes are not a section
  none_said : (it : S) (e : CarError Infallible) (text : List ℕ) (old : S) (h : FaultAfter (Tells speech knows work) roots b old e it) → (far : SoFar it h.first.sections) → text ≡ speech.of_fault (refused_line e) → IsSaidOfBytes speech b false (far.said ++ text)
  none_said it e text old h far is = inr (
    refl,
    record {
      error = e;
      said = far.said;
      none = h.none;
      stands = inr (roots, h.first.sections, h.first.wanting, h.first.rest, (work it).well, h.first.front, far.far, h.refuses);
      lines = ap (λ x. far.said ++ x) is;
    },
  )

  file_said : (it : S) (old : S) (h : TakesWhole (Tells speech knows work) roots b old it) (far : SoFar it h.sections) (end_well : Bool) (text : List ℕ) → speech.of_end roots h.sections end_well text → IsSaidOfBytes speech b (end_well && (work it).well) (far.said ++ text)
  file_said it old h far end_well text ending = inl (record {
    roots = roots;
    sections = h.sections;
    file = h.file;
    all_well = (work it).well;
    said = far.said;
    far = far.far;
    end_well = end_well;
    last = text;
    ending = ending;
    lines = refl;
    wellness = refl;
  })

  pub rest_said : (old new : S) (w : Result (Ended ToolError) ToolError) (r : Result Bool ToolError) (after : Option (List ℕ)) → SoFar old [] → MatchResult w (λ e. EndsAt (Tells speech knows work) roots b old e new) (λ _. TakesFileFront (Tells speech knows work) roots b old new) → SaysRest speech knows (work new).teller (work new).well w (work new).written r after
      → SaysBytes speech b before r after
  rest_said old new (Ok ended.Whole) r after h k says =
      let far = all_said k.sections old new h k.took in
      last_said (λ answer text. (end_well : Bool) × speech.of_end roots k.sections end_well text × (answer ≡ (end_well && (work new).well))) speech b far.said before (work new).written after r (inr (roots, k.sections, 0, [], (work new).well, whole_front k.file, far.far)) far.out
      (λ answer text is. subst (λ x. IsSaidOfBytes speech b x (far.said ++ text)) (sym is.2) (file_said new old k far is.0 text is.1)) (says roots k.sections far.after)
  rest_said old new (Ok (ended.Stopped e)) r after h k says =
      let far = all_said k.first.sections old k.it h k.first.took in
      subst (λ x. SaysBytes speech b before x after) (sym says.0) (subst (λ a. BreaksSpeech speech b before a e) (sym says.1)
      (section_broken k.it new k.first.sections k.section k.first.wanting k.wanting k.first.rest k.rest e far k.first.front k.front k.refused))
  rest_said old new (Ok (ended.Fault line)) r after h k says =
      let far = all_said k.1.first.sections old new h k.1.first.took in
      last_said (λ answer text. (answer ≡ false) × (text ≡ speech.of_fault line.items)) speech b far.said before (work new).written after r (first_lines new k.1.first.sections k.1.first.wanting k.1.first.rest far k.1.first.front) far.out
      (λ answer text is. subst (λ x. IsSaidOfBytes speech b x (far.said ++ text)) (sym is.0) (none_said new k.0 text old k.1 far (is.1 ∙ ap speech.of_fault k.2))) (lines_said (λ answer text. (answer ≡ false) × (text ≡ speech.of_fault line.items)) (speech.of_fault line.items) false (work new).written after r (refl, refl) says)
  rest_said old new (Err e) r after h k says =
      let far = all_said k.sections old new h k.took in
      subst (λ x. SaysBytes speech b before x after) (sym says.0) (subst (λ a. BreaksSpeech speech b before a e) (sym says.1) (nothing_more new k.sections k.wanting k.rest e far k.front))

  pub none_told : (it : S) → (work it).well ≡ true → knows (work it).teller roots [] → Appends before (work it).written (speech.of_roots roots) → SoFar it []
  none_told it well k out = record {
    said = speech.of_roots roots;
    far = subst (λ w. IsSaidSoFar speech roots [] w (speech.of_roots roots)) (sym well) (none_yet speech roots (speech.of_roots roots) refl);
    after = k;
    out = out;
  }

-- ---- the roots

-- the device failed while the lines of the roots were written
pub roots_broken : (speech : Speech) (start now : Reading) (extent : Option ℕ) (roots : List (List ℕ)) (text : List ℕ) (before after : Option (List ℕ)) (r : Result Bool ToolError) (e : ToolError) (w : Result Unit ToolError) → TakesStart start roots extent now → text ≡ speech.of_roots roots → IsErrAnd r (λ x. x ≡ e) → e ≡ Output → WritesFront before after w text
    → SaysFile speech start before r after
roots_broken speech start now extent roots text before after (Ok v) e w h is same out k b l = absurd same
roots_broken speech start now extent roots text before after (Err x) e w h is same out k b l =
    let t = left_begun roots extent start now b h l in
    broken speech b [] before before after (λ y. y ≡ text) x (inl refl) (Appends-nil before) (λ y same. inl (inr (roots, [], wanting extent t.0, bytes_within extent t.0, true, place_front b t.0 roots [] extent t.2, none_yet speech roots y (same ∙ is)))) (inr (k.0, k.1, sym k.2, same ∙ out, k.3))

-- ---- the header is refused

pub header_said : {E : Type 0} (speech : Speech) (old now : Reading) (before after : Option (List ℕ)) (e : CarError E) (line : List ℕ) (r : Result Bool ToolError) → CarRefuses RefusesStart old e now → IsOfBytes e → line ≡ speech.of_fault (refused_line e) → SaysLines line false before r after → SaysFile speech old before r after
header_said speech old now before after e line r h is same says b l =
    let refused = header_alone old now e is h b l in
    last_said (λ answer text. (answer ≡ false) × (text ≡ line)) speech b [] before before after r (inl refl) (Appends-nil before)
    (λ answer text k. inr (k.0, record { error = alone e; said = []; none = no_file (alone e) b refused; stands = inl (refused, refl); lines = k.1 ∙ same ∙ ap speech.of_fault (alone_line e is) })) (lines_said (λ answer text. (answer ≡ false) × (text ≡ line)) line false before after r (refl, refl) says)

-- the header is refused, and that is the only error line
pub header_silent : {E : Type 0} (TellsOf : Section → List ℕ → Type 0) (old now : Reading) (heard before after : Option (List ℕ)) (e : CarError E) (line : List ℕ) (r : Result Bool ToolError) → CarRefuses RefusesStart old e now → IsOfBytes e → SaysLines line false before r after → SaysFile (beside TellsOf) old heard r heard
header_silent TellsOf old now heard before after e line r h is says =
    header_said (beside TellsOf) old now heard heard e [] r h is refl (lines_silent line false before heard r after says)

pub not_begun : (speech : Speech) (old : Reading) (before : Option (List ℕ)) (e : ToolError) → SaysFile speech old before (Err e) before
not_begun speech old before e b l = record { whole = []; front = []; first = inl refl; out = Appends-nil before; next = inl refl }

-- nothing was written
pub broke : (speech : Speech) (old : Reading) (before : Option (List ℕ)) (e : ToolError) (r : Result Bool ToolError) → IsErrAnd r (λ x. x ≡ e) → SaysFile speech old before r before
broke speech old before e (Ok v) is b l = absurd is
broke speech old before e (Err x) is b l = not_begun speech old before x b l

-- ---- what `check` says

pub missing_is_said : {E : Type 0} (check : CarCheck) (v : Vec CidParts Global) (items : List CidParts) (r : Result (Vec ℕ Global × Bool) E) → items ≡ v.items → ((roots : List (List ℕ)) (sections : List Section) → IsAfter check roots sections → ListsMissingInFile roots sections v)
    → IfOk r (λ p. p.0.items ≡ flat_map missing_line items) → IfOk r (λ p. IsTrue p.1 ↔ (items ≡ [])) → SaysAtEnd check_speech IsAfter check r
missing_is_said check v items (Ok p) is lists lines well roots sections k = record {
  missing = v;
  lists = lists roots sections k;
  lines = lines ∙ ap (λ x. flat_map missing_line x) is;
  wellness = subst (λ x. IsTrue p.1 ↔ (x ≡ [])) is well;
}
missing_is_said check v items (Err e) is lists lines well roots sections k = tt
