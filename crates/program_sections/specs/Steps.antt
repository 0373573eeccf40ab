-- The steps of `filter`.
use Rattle.std.specs.Prelude.{◌≡◌, ◌==◌, ℕ, List, [], length, Bool, false, if◌then◌else◌, Option, Some, Result, Ok, Err, MatchResult, flat_map}
use Rattle.std.specs.Io.KnownBytes.{Appends}
use Rattle.dagcbor_heads.specs.Reading.{Reading}
use Rattle.ipld_tree.specs.Cid.{CidParts}
use Rattle.dagcbor_items.specs.Walks.{forms}
use Rattle.files_car.specs.Car.{Section, header_bytes, section_bytes}
use Rattle.files_car.specs.Sources.{TakesStart}
use Rattle.program_parts.specs.Lines.{missing_line, TextFails, SaysLines}
use Rattle.program_parts.specs.declared.take.Ended.{Ended}
use Rattle.program_parts.specs.declared.take.Ended.TheVariants as ended
use Rattle.program_sections.specs.Kept.{keeps, note, roots_of, missing_of}
use Rattle.program_sections.specs.Sending.{SaysSent}
use Rattle.program_sections.specs.Filtering.{IsFiltered, IsFilteredFront}
use Rattle.program_sections.specs.declared.kept.Kept.{Kept}
use Rattle.program_sections.specs.declared.filter.Filter.{Filter}
use Rattle.program_sections.specs.declared.filter.Filtering.{Filtering}
use Rattle.program_shared.specs.declared.fault.ToolError.{ToolError}

-- ---- a filter at work

-- what it keeps, the names found, what the device holds, and the reference it is written through
pub record Work : Type 0 where
  pub kept : Kept
  pub found : List CidParts
  pub written : Option (List ℕ)
  pub through : ℕ

-- a filter at work as contracts see it, where `contents` gives the bytes of its output
abbrev pub filtering_work : {W : Type 0} → (W → Option (List ℕ)) → Filtering W → Work
filtering_work contents f = record {
  kept = f.kept.now;
  found = f.found.keys;
  written = contents f.output.now;
  through = f.output.ghost_name;
}

-- what is written for a section, and the names found after it
abbrev pub sent_of : Kept → Section → List ℕ
sent_of kept s = if keeps kept s.0 then section_bytes s else []

abbrev pub found_with : Kept → List CidParts → Section → List CidParts
found_with kept found s = if keeps kept s.0 then note kept found s.0 else found

-- a section was written if it is kept, or writing it broke off
abbrev pub Filters : Section → Work → Result (Unit {0}) ToolError → Work → Type 0
Filters s old result new = (new.through ≡ old.through) × (new.kept ≡ old.kept) × MatchResult result
    (λ _. Appends old.written new.written (sent_of old.kept s)
    × (new.found ≡ found_with old.kept old.found s))
    (λ e. TextFails (sent_of old.kept s) old.written e new.written)

-- the error output after the sections, if these names were found
abbrev pub TellsRest : Kept → List CidParts → Result (Ended ToolError) ToolError → Option (List ℕ)
    → Result Bool ToolError → Option (List ℕ) → Type 0
TellsRest kept found (Ok ended.Whole) heard result after =
    SaysLines (flat_map missing_line (missing_of kept found)) (length (missing_of kept found) == 0) heard result after
TellsRest kept found (Ok (ended.Stopped e)) heard result after = (result ≡ Err e) × (after ≡ heard)
TellsRest kept found (Ok (ended.Fault line)) heard result after = SaysLines line.items false heard result after
TellsRest kept found (Err e) heard result after = (result ≡ Err e) × (after ≡ heard)

-- ---- the whole

-- what follows a file's header: the length of the file, if known, and the input
pub record Following : Type 0 where
  pub extent : Option ℕ
  pub source : Reading

abbrev pub following : Option ℕ → Reading → Following
following extent source = record { extent = extent; source = source }

-- a call that writes output and errors: what both devices held before, the answer, and what they
-- hold after
pub record Run : Type 0 where
  pub old : Option (List ℕ)
  pub heard : Option (List ℕ)
  pub answer : Result Bool ToolError
  pub new : Option (List ℕ)
  pub after : Option (List ℕ)

abbrev pub run : Option (List ℕ) → Option (List ℕ) → Result Bool ToolError → Option (List ℕ) → Option (List ℕ) → Run
run old heard answer new after = record { old = old; heard = heard; answer = answer; new = new; after = after }

-- the new header was written, and then all sections kept after a header with these roots
abbrev pub FiltersSections : Filter → Following → Run → Type 0
FiltersSections f at r = (start : Reading) (roots : List CidParts) (first : Option (List ℕ)) (b : List ℕ)
    → TakesStart start (forms roots) at.extent at.source → start.left ≡ Some b
    → Appends first r.old (header_bytes (forms (roots_of f.roots.items f.kept roots)))
    → SaysSent (IsFilteredFront f b) (IsFiltered f b) first r.heard r.answer r.new r.after

-- the whole output was written, for a file with these roots, from the input after its header
abbrev pub FiltersHeader : Filter → List CidParts → Following → Run → Type 0
FiltersHeader f roots at r = (start : Reading) (b : List ℕ) → TakesStart start (forms roots) at.extent at.source
    → start.left ≡ Some b → SaysSent (IsFilteredFront f b) (IsFiltered f b) r.old r.heard r.answer r.new r.after

-- the same for the bytes left in the source, if these are known
abbrev pub FiltersFile : Filter → Reading → Run → Type 0
FiltersFile f source r = (b : List ℕ) → source.left ≡ Some b
    → SaysSent (IsFilteredFront f b) (IsFiltered f b) r.old r.heard r.answer r.new r.after
