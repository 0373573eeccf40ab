-- The steps of `merge`.
use Rattle.std.specs.Prelude.{◌≡◌, ◌⊎◌, ◌↔◌, ℕ, ◌+◌, List, [], ◌∷◌, ◌++◌, map, Option, None, Some, Result, Ok, Err, MatchResult, MatchOption, IfOk, Vec, Bool, true, false, ⊤}
use Rattle.std.specs.declared.alloc.Global.{Global}
use Rattle.std.specs.Io.KnownBytes.{Appends}
use Rattle.std.specs.declared.convert.Infallible.{Infallible}
use Rattle.dagcbor_heads.specs.Reading.{Reading}
use Rattle.dagcbor_heads.specs.Inputs.{input_reading}
use Rattle.ipld_tree.specs.Cid.{CidParts}
use Rattle.dagcbor_items.specs.Walks.{forms}
use Rattle.files_car.specs.Car.{Section, section_bytes, header_bytes, car_bytes}
use Rattle.files_car.specs.Versions.{IsFile}
use Rattle.files_car.specs.Sources.{TakesStart, RefusesStart, RefusesSection}
use Rattle.files_car.specs.Checks.{IsHeldInFile, IsFileFront, IsNoFile}
use Rattle.files_car.specs.declared.error.CarError.{CarError}
use Rattle.ipld_links.specs.Verdicts.{IsVerified}
use Rattle.ipld_links.specs.Held.{IsHeldName, AddsName}
use Rattle.ipld_links.specs.declared.held.HeldNames.{HeldNames}
use Rattle.program_parts.specs.Lines.{TextFails, BreaksLine, SaysLines, refused_line}
use Rattle.program_sections.specs.Merging.{once_with, IsMerged, IsMergedFile, AreFiles, FilesFront, TellsNoneBegins, TellsBreak, file_line, merged_roots, IsMergedOf, IsMergedFront}
use Rattle.program_sections.specs.Sending.{SaysSent}
use Rattle.program_sections.specs.Steps.{Run}
use Rattle.program_parts.specs.declared.take.Ended.{Ended}
use Rattle.program_parts.specs.declared.take.Ended.TheVariants as ended
use Rattle.program_sections.specs.declared.merge.Merging.{Merging}
use Rattle.program_sections.specs.declared.merge.Following.{Following}
use Rattle.program_sections.specs.declared.merge.Begun.{Begun}
use Rattle.program_sections.specs.declared.merge.Roots.{Roots}
use Rattle.program_shared.specs.declared.fault.ToolError.{ToolError}

-- ---- roots

-- these roots were added after the others, so later roots are listed after them
abbrev pub AddsRoots : List CidParts → Roots → Roots → Type 0
AddsRoots roots old new = (more : List CidParts)
    → (new.listed.items ++ once_with new.seen.keys more ≡ old.listed.items ++ once_with old.seen.keys (roots ++ more))

-- ---- sections

-- the names held, what the device holds, and the reference it is written through
pub record Work : Type 0 where
  pub held : HeldNames
  pub written : Option (List ℕ)
  pub through : ℕ

-- a merge at work as contracts see it, where `contents` gives the bytes of its output
abbrev pub merging_work : {W : Type 0} → (W → Option (List ℕ)) → Merging W → Work
merging_work contents m = record {
  held = m.held;
  written = contents m.output.now;
  through = m.output.ghost_name;
}

-- the section's name is now held, if its bytes match it
abbrev pub HoldsIt : Section → HeldNames → HeldNames → Type 0
HoldsIt s old new = (IsVerified s × AddsName s.0 old new) ⊎ ((¬ IsVerified s) × (new ≡ old))

-- a section was left out because its name is held; or it was written; or writing it broke off
abbrev pub Merges : Section → Work → Result (Unit {0}) ToolError → Work → Type 0
Merges s old result new = (new.through ≡ old.through) × MatchResult result
    (λ _. (IsHeldName s.0 old.held × (new.held ≡ old.held) × (new.written ≡ old.written))
    ⊎ ((¬ IsHeldName s.0 old.held) × HoldsIt s old.held new.held
    × Appends old.written new.written (section_bytes s)))
    (λ e. (¬ IsHeldName s.0 old.held) × TextFails (section_bytes s) old.written e new.written)

-- the names held, and the output, after the header with these roots and these sections
pub record Sent (roots : List CidParts) (first : Option (List ℕ)) (w : Work) (done : List Section) : Type 0 where
  pub held : (c : CidParts) → IsHeldName c w.held ↔ IsHeldInFile c done
  pub left : List Section
  pub merged : IsMerged [] done left
  pub out : Appends first w.written (car_bytes (forms roots) left)

-- Writing broke off: the output for the sections before was written, and a prefix of what comes
-- next, for one section or none.
abbrev pub BreaksSections : (List Section → Type 0) → List CidParts → Option (List ℕ) → ToolError → Option (List ℕ)
    → Type 0
BreaksSections IsFront roots first e new = (ss more : List Section) × (said text : List ℕ) × (mid : Option (List ℕ))
    × IsFront ss × IsFront more × IsMergedFile roots ss said × IsMergedFile roots more (said ++ text)
    × Appends first mid said × BreaksLine (λ out. out ≡ text) mid new e

-- ---- one file

-- what follows a file's header: the number of the file, its length if known, and the input
pub record Place : Type 0 where
  pub number : ℕ
  pub extent : Option ℕ
  pub source : Reading

abbrev pub place_of : {R : Type 0} → (R → Reading) → Following R → Place
place_of reading f = record { number = f.number; extent = f.extent; source = input_reading reading f.input }

-- the bytes begin with a header with these roots, and the place follows it
abbrev pub IsAfter : List ℕ → List CidParts → Place → Type 0
IsAfter b roots at = (start : Reading) × TakesStart start (forms roots) at.extent at.source × (start.left ≡ Some b)

-- the bytes begin with a header with these roots and with these sections, all or the first ones
abbrev pub HasFirst : List ℕ → List CidParts → List Section → Type 0
HasFirst b roots ss = (n : ℕ) × (rest : List ℕ) × IsFileFront b (forms roots) ss n rest

-- the bytes after these sections are not a whole section, and a line says why
abbrev pub TellsFileBreak : List ℕ → List CidParts → ℕ → List Section → List ℕ → Type 0
TellsFileBreak b roots number ss told = (n : ℕ) × (rest : List ℕ) × (e : CarError Infallible)
    × IsFileFront b (forms roots) ss n rest × IsNoFile b × RefusesSection n e rest
    × (told ≡ file_line number (refused_line e))

-- the sections of one file, or the first ones, were written after those of the files before
abbrev pub MergesFile : Place → Work → Result (Option (Vec ℕ Global)) ToolError → Work → Type 0
MergesFile at old result new = (b : List ℕ) (file roots : List CidParts) (first : Option (List ℕ)) (done : List Section)
    → IsAfter b file at → Sent roots first old done → (new.through ≡ old.through) × MatchResult result
    (λ told. (ss : List Section) × Sent roots first new (done ++ ss)
    × MatchOption told (IsFile b (forms file) ss) (λ line. TellsFileBreak b file at.number ss line.items))
    (λ e. BreaksSections (λ all. (ss : List Section) × (all ≡ done ++ ss) × HasFirst b file ss) roots first e new.written)

-- the error line for how far a file was read
abbrev pub TellsEnd : ℕ → Result (Ended ToolError) ToolError → Result (Option (Vec ℕ Global)) ToolError → Type 0
TellsEnd number (Ok ended.Whole) result = result ≡ Ok None
TellsEnd number (Ok (ended.Stopped e)) result = result ≡ Err e
TellsEnd number (Ok (ended.Fault line)) result = IfOk result (λ told. MatchOption told ⊥
    (λ v. v.items ≡ file_line number line.items))
TellsEnd number (Err e) result = result ≡ Err e

-- ---- all files

-- the bytes begin with headers, and these places follow them, numbered from `n`
abbrev pub AreAfter : ℕ → List (List ℕ) → List CidParts → List Place → Type 0
AreAfter n [] roots [] = roots ≡ []
AreAfter n (b ∷ bs) roots (at ∷ places) = (first more : List CidParts) × IsAfter b first at × (at.number ≡ n)
    × AreAfter (n + 1) bs more places × (roots ≡ first ++ more)
AreAfter n _ roots _ = ⊥

-- the sections of all files, or the first ones, were written
abbrev pub MergesFiles : List Place → Work → Result (Option (Vec ℕ Global)) ToolError → Work → Type 0
MergesFiles places old result new = (bs : List (List ℕ)) (file_roots roots : List CidParts) (first : Option (List ℕ))
    → AreAfter 1 bs file_roots places → Sent roots first old [] → (new.through ≡ old.through) × MatchResult result
    (λ told. (ss : List Section) × Sent roots first new ss
    × MatchOption told (AreFiles bs file_roots ss) (λ line. TellsBreak bs file_roots ss line.items))
    (λ e. BreaksSections (FilesFront bs file_roots) roots first e new.written)

-- one more file begins, with these roots, and its place is the last; or a line says why it does not
abbrev pub BeginsOne : {R : Type 0} → (R → Reading) → ℕ → Reading → Begun R
    → Result (Option (Vec ℕ Global)) ToolError → Begun R → Type 0
BeginsOne reading number source old result new = (b : List ℕ) → source.left ≡ Some b → IfOk result (λ told. MatchOption told
    ((roots : List CidParts) × (at : Place) × IsAfter b roots at × (at.number ≡ number)
    × (map (place_of reading) new.files.items ≡ map (place_of reading) old.files.items ++ at ∷ [])
    × AddsRoots roots old.roots new.roots)
    (λ line. (e : CarError Infallible) × IsNoFile b × RefusesStart e b
    × (line.items ≡ file_line number (refused_line e))))

-- the bytes left in these sources, each of which is known
abbrev pub AreLeft : List Reading → List (List ℕ) → Type 0
AreLeft [] [] = ⊤
AreLeft (source ∷ sources) (b ∷ bs) = (source.left ≡ Some b) × AreLeft sources bs
AreLeft _ _ = ⊥

-- all headers were read, and their roots are listed; or a line says which file does not begin, and
-- why
abbrev pub BeginsAll : {R : Type 0} → (R → Reading) → List Reading → Result (Begun R) (Vec ℕ Global) → Type 0
BeginsAll reading sources result = (bs : List (List ℕ)) → AreLeft sources bs → MatchResult result
    (λ begun. (roots : List CidParts) × AreAfter 1 bs roots (map (place_of reading) begun.files.items)
    × (begun.roots.listed.items ≡ once_with [] roots))
    (λ line. TellsNoneBegins bs line.items)

-- ---- the whole

-- the given roots, or the others if none are given
abbrev pub given_or : List CidParts → List CidParts → List CidParts
given_or [] roots = roots
given_or (given ∷ more) roots = given ∷ more

-- the error output after the sections
abbrev pub TellsFault : Result (Option (Vec ℕ Global)) ToolError → Option (List ℕ) → Result Bool ToolError
    → Option (List ℕ) → Type 0
TellsFault (Ok None) heard result after = (result ≡ Ok true) × (after ≡ heard)
TellsFault (Ok (Some line)) heard result after = SaysLines line.items false heard result after
TellsFault (Err e) heard result after = (result ≡ Err e) × (after ≡ heard)

-- the header was written, and then what the merge leaves of the sections
abbrev pub MergesSections : List Place → Run → Type 0
MergesSections places r = (bs : List (List ℕ)) (given roots : List CidParts) (first : Option (List ℕ))
    → AreAfter 1 bs roots places → Appends first r.old (header_bytes (forms (merged_roots given roots)))
    → SaysSent (IsMergedFront given bs) (IsMergedOf given bs) first r.heard r.answer r.new r.after

-- the whole output was written, for files whose headers these places follow and whose distinct
-- roots are these
abbrev pub MergesBegun : List CidParts → List CidParts → List Place → Run → Type 0
MergesBegun given listed places r = (bs : List (List ℕ)) (roots : List CidParts) → AreAfter 1 bs roots places
    → listed ≡ once_with [] roots
    → SaysSent (IsMergedFront given bs) (IsMergedOf given bs) r.old r.heard r.answer r.new r.after
