-- What is written for the lines of the input.
use Rattle.std.proofs.Common.{◌≡◌, ◌≢◌, ◌++◌, ◌∷◌, ◌<◌, ◌≤◌, ◌+◌, ℕ, List, [], length, length-append, length-drop, take, drop, Option, Some, None, IfSome, Result, Ok, Err, refl, sym, ap, subst, ◌∙◌, append_assoc, arith, OnOk, OnErr, IfOk, IfErr, append-nil, zero-le, take-append-drop}
use Rattle.std.proofs.Math.Seq.{take-add, take-append_seam, drop-append_seam}
use Rattle.std.proofs.lemmas.List.{drop-drop, flat_map_more}
use Rattle.std.proofs.lemmas.List.Concat.{flat_map-append}
use Rattle.std.specs.Io.{StartsWith}
use Rattle.std.specs.Borrow.{Bor}
use Rattle.std.specs.Io.BufRead.{FillKeeps, DropsConsumable}
use Rattle.std.specs.Io.KnownBytes.{Consumes, Appends, Keeps, IsAtEnd, prepend_known}
use Rattle.std.specs.Str.Lines.{lines}
use Rattle.std.proofs.KnownBytes.{Appends-nil, Appends-trans, Keeps-refl, starts_with_rest}
use Rattle.program_shared.specs.Writing.{WritesFront}
use Rattle.program_shared.specs.declared.fault.ToolError.{ToolError}
use Rattle.program_shared.specs.declared.fault.ToolError.TheVariants.{Input, Output, OutOfMemory}
use Rattle.program_dagcbor.specs.Pieces.{IsOfOneLine}
use Rattle.program_dagcbor.specs.declared.command.Command.{Command}
use Rattle.program_dagcbor.specs.Answers.{MayEndAfter, most_lines, answer_to, answers, AppendsLine, BeginsWithLines, AppendsAnswers, WritesWhole, WritesBeginning, WritesUntil, HasAnswered, BreaksOff, AnswersAll, AnswersSome, RunsLines}
use Rattle.program_dagcbor.proofs.Lines.{begins_next, lines_last}
use Rattle.program_dagcbor.proofs.LinkLines.{kept_before, kept_front}

-- ---- ends

pub on_err : {E P : Type 0} (r : Result Unit E) → P → OnErr r P
on_err (Ok v) p = tt
on_err (Err e) p = p

-- whole lines were answered until the run ended with this error
until_so : (command : Command) (e : ToolError) (done count : ℕ) (input : List ℕ) (old new : Option (List ℕ)) → e ≢ Output → MayEndAfter (done + count) e → WritesWhole command count input old new → WritesUntil command e done input old new
until_so command Output done count input old new other may wrote = absurd (other refl)
until_so command Input done count input old new other may wrote = (count, may, wrote)
until_so command OutOfMemory done count input old new other may wrote = (count, may, wrote)

-- ---- answers, one after the other

answers_join : (command : Command) (done others : List (List ℕ)) → answers command (done ++ others) ≡ answers command done ++ answers command others
answers_join command done others = flat_map-append (λ line. answer_to command line ++ 10 ∷ []) done others

-- the answers of some lines, and then of others, were written
written_both : (command : Command) (done others asked : List (List ℕ)) (old now new : Option (List ℕ)) → done ++ others ≡ asked
    → Appends old now (answers command done) → Appends now new (answers command others) → Appends old new (answers command asked)
written_both command done others asked old now new whole first next =
    subst (Appends old new) (sym (answers_join command done others) ∙ ap (answers command) whole) (Appends-trans old now new (answers command done) (answers command others) first next)

-- the answers of the first lines of an input were written
whole_of : (command : Command) (input : List ℕ) (done others : List (List ℕ)) (old new : Option (List ℕ)) → lines input ≡ done ++ others → Appends old new (answers command done)
    → WritesWhole command (length done) input old new
whole_of command input done others old new split wrote = record {
  enough = omega (arith, ap length split, length-append done others);
  appended = subst (λ ls. Appends old new (answers command ls)) (sym (ap (take (length done)) split ∙ take-append_seam done others)) wrote;
}

-- and those of the next lines
whole_next : (command : Command) (n m : ℕ) (input left : List ℕ) (old now new : Option (List ℕ)) → lines left ≡ drop n (lines input) → WritesWhole command n input old now → WritesWhole command m left now new
    → WritesWhole command (n + m) input old new
whole_next command n m input left old now new others first next = record {
  enough = omega (arith, first.enough, next.enough, ap length others, length-drop n (lines input));
  appended = written_both command (take n (lines input)) (take m (lines left)) (take (n + m) (lines input)) old now new
      (ap (λ ls. take n (lines input) ++ take m ls) others ∙ sym (take-add n m (lines input))) first.appended next.appended;
}

-- a beginning of the answers of the first lines is one of the answers of all
begun_first : (command : Command) (asked done others : List (List ℕ)) (front back : List ℕ) → asked ≡ done ++ others → answers command done ≡ front ++ back → StartsWith (answers command asked) front
begun_first command asked done others front back split cut =
    kept_before front back (answers command others) (ap (answers command) split ∙ answers_join command done others ∙ ap (λ (s : List ℕ). s ++ answers command others) cut)

-- one more line of the text was answered
pub appends_next : (command : Command) (done : List (List ℕ)) (text left following line old now new : List ℕ) → AppendsAnswers command done text left old now
    → BeginsWithLines left (line ∷ []) following → AppendsLine (answer_to command line) now new → AppendsAnswers command (done ++ line ∷ []) text following old new
appends_next command done text left following line old now new so_far next answer = (
  begins_next text left following done (line ∷ []) so_far.0 next,
  answer ∙ ap (λ (s : List ℕ). s ++ (answer_to command line ++ 10 ∷ [])) so_far.1 ∙ flat_map_more (λ asked. answer_to command asked ++ 10 ∷ []) old done line,
)

-- all of the bytes were written
all_of : (bytes front back : List ℕ) → bytes ≡ front ++ back → back ≡ [] → bytes ≡ front
all_of bytes front back parts end = parts ∙ ap (λ (s : List ℕ). front ++ s) end ∙ append-nil front

-- ---- the answers of a fill

-- the lines of an input that the text begins
lines_shown : (text shown left : List ℕ) (asked : List (List ℕ)) (xs : List ℕ) (partial : List ℕ) → BeginsWithLines (partial ++ shown) asked left → xs ≡ shown ++ text → lines (partial ++ xs) ≡ asked ++ lines (left ++ text)
lines_shown text shown left asked xs partial begins parts =
    ap (λ (s : List ℕ). lines (partial ++ s)) parts ∙ ap lines (sym (append_assoc partial shown text)) ∙ begins text

-- what is shown was consumed
pub consumed_shown : {E : Type 0} (before mid after : Option (List ℕ)) (limit : Option ℕ) (r : Result (Bor (List ℕ)) E) (shown : Bor (List ℕ)) (n : ℕ) → r ≡ Ok shown
    → IfSome before (λ xs. StartsWith xs shown.now) → FillKeeps before mid limit r → DropsConsumable mid after limit n → n ≡ length shown.now → Consumes before after shown.now
consumed_shown None mid after limit r shown n ok starts kept drops is = tt
consumed_shown (Some xs) None after limit r shown n ok starts kept drops is = absurd kept.0
consumed_shown (Some xs) (Some ys) after limit r shown n ok starts kept drops is =
    let within = subst (λ q. IfOk q (λ s. IfSome limit (λ most. length s.now ≤ most))) ok kept.1 in
    let left : after ≡ Some (drop (length shown.now) xs) = drops (below limit within) ∙ ap Some (ap (λ (k : ℕ). drop k ys) is ∙ ap (drop (length shown.now)) kept.0) in
    subst (λ (k : Option (List ℕ)). Consumes (Some xs) k shown.now) (sym left) (starts_with_rest xs shown.now starts)
  where
    below : (k : Option ℕ) → IfSome k (λ most. length shown.now ≤ most) → IfSome k (λ most. n ≤ most)
    below None h = tt
    below (Some most) h = omega (arith, h, is)

-- answers appended to nothing are these bytes
pub answers_are : (command : Command) (done : List (List ℕ)) (text left old new bytes : List ℕ) → old ≡ [] → bytes ≡ new → AppendsAnswers command done text left old new → AppendsAnswers command done text left [] bytes
answers_are command done text left old new bytes empty same h = (h.0, same ∙ h.1 ∙ ap (λ (s : List ℕ). s ++ answers command done) empty)

-- all answers of a fill were written
pub fill_written : (command : Command) (done : List (List ℕ)) (before old new : Option (List ℕ)) (partial shown left out front back : List ℕ)
    → IfSome before (λ xs. StartsWith xs shown) → AppendsAnswers command done (partial ++ shown) left [] out → out ≡ front ++ back → Appends old new front → back ≡ []
    → IfSome (prepend_known partial before) (λ input. WritesWhole command (length done) input old new)
fill_written command done None old new partial shown left out front back starts answered parts grown end = tt
fill_written command done (Some xs) old new partial shown left out front back starts answered parts grown end =
    let following = drop (length shown) xs in
    whole_of command (partial ++ xs) done (lines (left ++ following)) old new
    (lines_shown following shown left done xs partial answered.0 (starts_with_rest xs shown starts))
    (subst (Appends old new) (sym (all_of out front back parts end) ∙ answered.1) grown)

-- all of a fill was answered, written and consumed
pub fill_answered : (command : Command) (done : List (List ℕ)) (before after old new : Option (List ℕ)) (partial shown left out front back : List ℕ)
    → Consumes before after shown → AppendsAnswers command done (partial ++ shown) left [] out → out ≡ front ++ back → Appends old new front → back ≡ []
    → IfSome (prepend_known partial before) (λ input. HasAnswered command (length done) input (prepend_known left after) old new)
fill_answered command done None after old new partial shown left out front back consumed answered parts grown end = tt
fill_answered command done (Some xs) None old new partial shown left out front back consumed answered parts grown end = absurd consumed
fill_answered command done (Some xs) (Some rest) old new partial shown left out front back consumed answered parts grown end =
    let split = lines_shown rest shown left done xs partial answered.0 consumed in
    record {
      left = left ++ rest;
      remains = refl;
      others = sym (ap (drop (length done)) split ∙ drop-append_seam done (lines (left ++ rest)));
      wrote = whole_of command (partial ++ xs) done (lines (left ++ rest)) old new split (subst (Appends old new) (sym (all_of out front back parts end) ∙ answered.1) grown);
    }

-- nothing was written
pub nothing_written : (a : Option (List ℕ)) → Appends a a []
nothing_written a = Appends-nil a

none_whole : (command : Command) (input : List ℕ) (old : Option (List ℕ)) → WritesWhole command 0 input old old
none_whole command input old = record { enough = zero-le; appended = Appends-nil old }

-- nothing was shown, and nothing written
pub none_answered : (command : Command) (before after old : Option (List ℕ)) (partial : List ℕ) → Keeps before after
    → IfSome (prepend_known partial before) (λ input. HasAnswered command 0 input (prepend_known partial after) old old)
none_answered command None after old partial kept = tt
none_answered command (Some xs) None old partial kept = absurd kept
none_answered command (Some xs) (Some ys) old partial kept =
    record { left = partial ++ ys; remains = refl; others = ap (λ (s : List ℕ). lines (partial ++ s)) kept; wrote = none_whole command (partial ++ xs) old }

-- it broke off within the fill
pub fill_stopped : (command : Command) (e : ToolError) (done : ℕ) (before after old new : Option (List ℕ)) (partial : List ℕ) → IsOfOneLine partial → Keeps before after
    → IfSome (prepend_known partial before) (λ input. WritesUntil command e done input old new) → IfSome (prepend_known partial before) (λ input. BreaksOff command e done input after old new)
fill_stopped command e done None after old new partial plain kept wrote = tt
fill_stopped command e done (Some xs) None old new partial plain kept wrote = absurd kept
fill_stopped command e done (Some xs) (Some ys) old new partial plain kept wrote =
    record { taken = partial; left = ys; split = ap (λ (s : List ℕ). partial ++ s) (sym kept); remains = refl; of_one_line = plain; wrote = wrote }

-- the fill failed
pub fill_failed : (command : Command) (done : ℕ) (before after old : Option (List ℕ)) (partial : List ℕ) → IsOfOneLine partial → Keeps before after
    → IfSome (prepend_known partial before) (λ input. BreaksOff command Input done input after old old)
fill_failed command done before after old partial plain kept = fill_stopped command Input done before after old old partial plain kept (nothing before)
  where
    nothing : (before : Option (List ℕ)) → IfSome (prepend_known partial before) (λ input. WritesUntil command Input done input old old)
    nothing None = tt
    nothing (Some xs) = (0, tt, none_whole command (partial ++ xs) old)

-- a prefix of the answers of a fill was written
pub fill_begun : (command : Command) (done : List (List ℕ)) (before old new : Option (List ℕ)) (partial shown left out front back : List ℕ)
    → IfSome before (λ xs. StartsWith xs shown) → AppendsAnswers command done (partial ++ shown) left [] out → out ≡ front ++ back → Appends old new front
    → IfSome (prepend_known partial before) (λ input. WritesBeginning command (lines input) old new)
fill_begun command done None old new partial shown left out front back starts answered parts grown = tt
fill_begun command done (Some xs) old new partial shown left out front back starts answered parts grown =
    let following = drop (length shown) xs in (
      front,
      begun_first command (lines (partial ++ xs)) done (lines (left ++ following)) front back
          (lines_shown following shown left done xs partial answered.0 (starts_with_rest xs shown starts)) (sym answered.1 ∙ parts),
      grown,
    )

-- all of them were, and then it broke off
pub fill_until : (command : Command) (e : ToolError) (lines_done count : ℕ) (before old new : Option (List ℕ)) (partial : List ℕ) → e ≢ Output → MayEndAfter (lines_done + count) e
    → IfSome (prepend_known partial before) (λ input. WritesWhole command count input old new) → IfSome (prepend_known partial before) (λ input. WritesUntil command e lines_done input old new)
fill_until command e lines_done count None old new partial other may wrote = tt
fill_until command e lines_done count (Some xs) old new partial other may wrote = until_so command e lines_done count (partial ++ xs) old new other may wrote

-- ---- the last line

-- bytes appended to nothing are its answer
pub answer_is : (command : Command) (line partial old new bytes : List ℕ) → line ≡ partial → old ≡ [] → bytes ≡ new → 0 < length partial → IsOfOneLine partial
    → AppendsLine (answer_to command line) old new → answers command (lines partial) ≡ bytes
answer_is command line partial old new bytes same empty is some plain h =
    ap (answers command) (lines_last partial some plain)
    ∙ append-nil (answer_to command partial ++ 10 ∷ [])
    ∙ ap (λ (s : List ℕ). answer_to command s ++ 10 ∷ []) (sym same)
    ∙ ap (λ (s : List ℕ). s ++ (answer_to command line ++ 10 ∷ [])) (sym empty)
    ∙ sym h
    ∙ sym is

-- a beginning of it was written
pub last_begun : {E : Type 0} (command : Command) (r : Result Unit E) (asked : List (List ℕ)) (bytes : List ℕ) (old new : Option (List ℕ)) → answers command asked ≡ bytes → WritesFront old new r bytes
    → WritesBeginning command asked old new
last_begun command r asked bytes old new is wrote = (wrote.0, kept_front wrote.0 wrote.1 (is ∙ wrote.2), wrote.3)

-- all of it was
pub last_answered : {E : Type 0} (command : Command) (r : Result Unit E) (asked : List (List ℕ)) (bytes : List ℕ) (old new : Option (List ℕ)) → answers command asked ≡ bytes → WritesFront old new r bytes
    → OnOk r (Appends old new (answers command asked))
last_answered command (Err e) asked bytes old new is wrote = tt
last_answered command (Ok v) asked bytes old new is wrote = subst (Appends old new) (sym (is ∙ all_of bytes wrote.0 wrote.1 wrote.2 wrote.4)) wrote.3

-- ---- one fill after the other

pub answered_none : (command : Command) (before old : Option (List ℕ)) (partial : List ℕ) → partial ≡ [] → IfSome before (λ input. HasAnswered command 0 input (prepend_known partial before) old old)
answered_none command None old partial empty = tt
answered_none command (Some input) old partial empty =
    record { left = partial ++ input; remains = refl; others = ap (λ (s : List ℕ). lines (s ++ input)) empty; wrote = none_whole command input old }

pub answered_next : (n m k : ℕ) (command : Command) (before mid after old now new : Option (List ℕ)) → k ≡ n + m → IfSome before (λ input. HasAnswered command n input mid old now)
    → IfSome mid (λ input. HasAnswered command m input after now new) → IfSome before (λ input. HasAnswered command k input after old new)
answered_next n m k command None mid after old now new sum h next = tt
answered_next n m k command (Some input) mid after old now new sum h next =
    let o : HasAnswered command m h.left after now new = subst (λ (k : Option (List ℕ)). IfSome k (λ input. HasAnswered command m input after now new)) h.remains next in
    subst (λ j. HasAnswered command j input after old new) (sym sum) (record {
      left = o.left;
      remains = o.remains;
      others = o.others ∙ ap (drop m) h.others ∙ drop-drop m n (lines input);
      wrote = whole_next command n m input h.left old now new h.others h.wrote o.wrote;
    })

-- it broke off after lines that were answered
pub answered_some : (n : ℕ) (command : Command) (e : ToolError) (before mid after old now new : Option (List ℕ)) → IfSome before (λ input. HasAnswered command n input mid old now)
    → IfSome mid (λ input. BreaksOff command e n input after now new) → IfSome before (λ input. AnswersSome command e input after old new)
answered_some n command e None mid after old now new h broke = tt
answered_some n command e (Some input) mid after old now new h broke =
    record {
      count = n;
      left = h.left;
      now = now;
      answered = subst (λ (k : Option (List ℕ)). HasAnswered command n input k old now) h.remains h;
      broken = subst (λ (k : Option (List ℕ)). IfSome k (λ input. BreaksOff command e n input after now new)) h.remains broke;
    }

-- ---- the end of the input

-- if the bytes of an input are known, its end is too
pub end_told : (n : ℕ) (command : Command) (before mid after old now : Option (List ℕ)) (partial : List ℕ) → IfSome before (λ input. HasAnswered command n input (prepend_known partial mid) old now)
    → IfSome mid (λ _. IsAtEnd after) → IfSome before (λ _. IsAtEnd after)
end_told n command None mid after old now partial h end = tt
end_told n command (Some input) None after old now partial h end = let never : None ≡ Some h.left = h.remains in absurd cc
end_told n command (Some input) (Some xs) after old now partial h end = end

-- the bytes kept are those left to answer
held_left : (after : Option (List ℕ)) (partial rest : List ℕ) → prepend_known partial after ≡ Some rest → IsAtEnd after → (after ≡ Some []) × (rest ≡ partial)
held_left None partial rest e end = absurd cc
held_left (Some xs) partial rest e end =
    let same : partial ++ xs ≡ rest = cc in
    (ap Some end, sym same ∙ ap (λ (s : List ℕ). partial ++ s) end ∙ append-nil partial)

all_answered : (n : ℕ) (command : Command) (before after old now new : Option (List ℕ)) (partial : List ℕ) → IfSome before (λ input. HasAnswered command n input (prepend_known partial after) old now)
    → IfSome before (λ _. IsAtEnd after) → Appends now new (answers command (lines partial)) → IfSome before (λ input. AnswersAll command input after old new)
all_answered n command None after old now new partial h end last = tt
all_answered n command (Some input) after old now new partial h end last =
    let e = held_left after partial h.left h.remains end in
    let rest : lines partial ≡ drop n (lines input) = ap lines (sym e.1) ∙ h.others in
    record {
      wrote = written_both command (take n (lines input)) (lines partial) (lines input) old now new (ap (λ ls. take n (lines input) ++ ls) rest ∙ take-append-drop n (lines input)) h.wrote.appended last;
      at_end = e.0;
    }

-- it broke off in the last line
last_broken : (n : ℕ) (command : Command) (e : ToolError) (before after old now new : Option (List ℕ)) (partial : List ℕ) → IsOfOneLine partial → IfSome before (λ input. HasAnswered command n input (prepend_known partial after) old now)
    → IfSome before (λ _. IsAtEnd after) → WritesUntil command e n partial now new → IfSome before (λ input. AnswersSome command e input after old new)
last_broken n command e None after old now new partial plain h end wrote = tt
last_broken n command e (Some input) after old now new partial plain h end wrote = answered_some n command e (Some input) (prepend_known partial after) after old now new h (broken after end)
  where
    broken : (after : Option (List ℕ)) → IsAtEnd after → IfSome (prepend_known partial after) (λ input. BreaksOff command e n input after now new)
    broken None end = tt
    broken (Some xs) end =
        let whole : partial ++ xs ≡ partial = ap (λ (s : List ℕ). partial ++ s) end ∙ append-nil partial in
        record { taken = partial; left = xs; split = refl; remains = refl; of_one_line = plain; wrote = subst (λ (s : List ℕ). WritesUntil command e n s now new) (sym whole) wrote }

-- what was written for the last line, if the run ended there
last_until : (n : ℕ) (command : Command) (e : ToolError) (now new : Option (List ℕ)) (partial : List ℕ) → n < most_lines → WritesBeginning command (lines partial) now new → (e ≢ Output → Appends now new []) → WritesUntil command e n partial now new
last_until n command Output now new partial few begun none = begun
last_until n command Input now new partial few begun none = (0, tt, record { enough = zero-le; appended = none (λ e. cc e) })
last_until n command OutOfMemory now new partial few begun none = (0, omega (arith, few), record { enough = zero-le; appended = none (λ e. cc e) })

-- the input was at its end, and the line kept is answered, or not
pub last_ended : (n : ℕ) (command : Command) (r : Result Unit ToolError) (before after old now new : Option (List ℕ)) (partial : List ℕ) → n < most_lines → IsOfOneLine partial
    → IfSome before (λ input. HasAnswered command n input (prepend_known partial after) old now) → IfSome before (λ _. IsAtEnd after) → OnOk r (Appends now new (answers command (lines partial)))
    → OnErr r (WritesBeginning command (lines partial) now new) → IfErr r (λ e. e ≢ Output → Appends now new []) → RunsLines command before after old new r
last_ended n command (Ok v) before after old now new partial few plain h end all begun none = all_answered n command before after old now new partial h end all
last_ended n command (Err e) before after old now new partial few plain h end all begun none = last_broken n command e before after old now new partial plain h end (last_until n command e now new partial few begun none)

-- the run was given up between fills
pub answered_so_far : (n : ℕ) (command : Command) (before mid old now : Option (List ℕ)) (partial : List ℕ) → IsOfOneLine partial
    → IfSome before (λ input. HasAnswered command n input (prepend_known partial mid) old now) → IfSome before (λ input. AnswersSome command Input input mid old now)
answered_so_far n command before mid old now partial plain h =
    answered_some n command Input before (prepend_known partial mid) mid old now now h (fill_failed command n mid mid now partial plain (Keeps-refl mid))
