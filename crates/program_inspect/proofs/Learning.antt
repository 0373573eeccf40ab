-- What is known of a file, section by section.
use Rattle.std.proofs.Common.{◌≡◌, inl, ℕ, ◌+◌, ◌-◌, ◌<◌, List, [], ◌∷◌, ◌++◌, length, take, get_or, map, sym, ap, ◌∙◌, subst, Vec, Global, Option, None, Some, IfSome, Result, Ok, Err, OnOk, IfOk}
use Rattle.std.specs.Prelude.{⊤}
use Rattle.std.specs.Fmt.{option_append}
use Rattle.std.proofs.lemmas.List.{take_more}
use Rattle.dagcbor_heads.specs.Reading.{Reading}
use Rattle.std.specs.declared.alloc.AllocError.{AllocError}
use Rattle.ipld_tree.specs.Cid.{CidParts}
use Rattle.dagcbor_items.specs.Walks.{forms}
use Rattle.files_car.specs.Car.{Section}
use Rattle.files_car.specs.Versions.{IsFile}
use Rattle.files_car.specs.Sources.{CarRefuses, RefusesStart, TakesStart}
use Rattle.files_car.specs.Checks.{TakesSection, IsAfter, ListsMissingInFile}
use Rattle.files_car.specs.declared.error.CarError.{CarError}
use Rattle.files_car.proofs.Places.{no_file}
use Rattle.program_parts.specs.Lines.{refused_line}
use Rattle.program_parts.specs.Taking.{IsOfBytes, TookEach, EndsAt}
use Rattle.program_parts.specs.Holding.{TellsFault}
use Rattle.program_parts.proofs.Taking.{took_knows, alone, alone_line, header_alone}
use Rattle.program_parts.proofs.Keeping.{fault_told}
use Rattle.program_parts.specs.declared.take.Ended.{Ended}
use Rattle.program_parts.specs.declared.take.Ended.TheVariants as ended
use Rattle.program_inspect.specs.Counts.{Measure, AreCounts}
use Rattle.program_inspect.specs.Names.{distinct}
use Rattle.program_inspect.specs.Front.{TakesFront}
use Rattle.program_inspect.specs.Inspecting.{version_of, index_told, root_unless, root_in, measures, AreFacts, AreFactsOf, AreFactsOfFile, IsFound, Knows, LearnsNext}
use Rattle.program_inspect.specs.declared.counts.Counts.{Counts}
use Rattle.program_inspect.specs.declared.facts.Root.{Root}
use Rattle.program_inspect.specs.declared.facts.Index.{Index}
use Rattle.program_inspect.specs.declared.facts.Facts.{Facts}
use Rattle.program_inspect.specs.declared.inspect.Inspecting.{Inspecting}
use Rattle.program_inspect.proofs.Counting.{map_push}

pub learns : (s : Section) (n : ℕ) (old new : Inspecting) (r : Result (Unit {0}) AllocError) → n ≡ length s.1 → TakesSection s old.check new.check → OnOk r ((ms : List Measure) → AreCounts old.counts ms → AreCounts new.counts (ms ++ (s.0, n) ∷ [])) → LearnsNext s old r new
learns s n old new (Err e) is takes counts = tt
learns s n old new (Ok x) is takes counts = λ roots sections k. (takes roots sections k.0, subst (AreCounts new.counts) (sym (map_push (λ (t : Section). (t.0, length t.1)) sections s)) (subst (λ m. AreCounts new.counts (measures sections ++ (s.0, m) ∷ [])) is (counts (measures sections) k.1)))

knows_each : (roots : List (List ℕ)) (done more : List Section) (old new : Inspecting) → Knows old roots done → TookEach LearnsNext old more new → Knows new roots (done ++ more)
knows_each roots done more old new k t = took_knows LearnsNext (λ it ss. Knows it roots ss) (λ s old new done k t. t roots done k) done more old new k t

-- how far the file with these roots goes
abbrev pub EndsKnown : {E : Type 0} → List CidParts → List ℕ → Ended E → Inspecting → Type 0
EndsKnown roots b ended.Whole new = (sections : List Section) × IsFile b (forms roots) sections × Knows new (forms roots) sections
EndsKnown roots b (ended.Stopped stop) new = ⊤
EndsKnown roots b (ended.Fault line) new = TellsFault (λ ss. ⊤) b line.items

pub ends_known : (roots : List CidParts) (b : List ℕ) (old new : Inspecting) (e : Ended AllocError) → Knows old (forms roots) [] → EndsAt LearnsNext (forms roots) b old e new → EndsKnown roots b e new
ends_known roots b old new ended.Whole k h = (h.sections, h.file, knows_each (forms roots) [] h.sections old new k h.took)
ends_known roots b old new (ended.Stopped stop) k h = tt
ends_known roots b old new (ended.Fault line) k h = fault_told LearnsNext (λ ss. ⊤) b line.items (forms roots) old new h.0 h.1 tt h.2

-- the facts after the sections
pub facts_known : (roots : List CidParts) (b front : List ℕ) (index : Index) (new : Inspecting) (facts : Facts) → EndsKnown {E = AllocError} roots b ended.Whole new → ((sections : List Section) → Knows new (forms roots) sections → AreFactsOf facts front index roots sections) → AreFactsOfFile b front index facts
facts_known roots b front index new facts h f = (roots, h.0, h.1, f h.0 h.2)

-- one more root
pub root_more : (missing keys : List CidParts) (roots : List CidParts) (i : ℕ) (root : CidParts) (told new : List Root) (it : Root) → keys ≡ distinct missing → it ≡ root_unless keys root → i < length roots → root ≡ get_or roots i root → told ≡ map (root_in missing) (take i roots) → new ≡ told ++ it ∷ [] → new ≡ map (root_in missing) (take (i + 1) roots)
root_more missing keys roots i root told new it same is lt at h e =
    e ∙ ap (λ r. told ++ r ∷ []) (is ∙ ap (λ k. root_unless k root) same) ∙ ap (λ l. l ++ root_in missing root ∷ []) h
    ∙ sym (ap (map (root_in missing)) (take_more roots i root lt ∙ ap (λ r. take i roots ++ r ∷ []) (sym at)) ∙ map_push (root_in missing) (take i roots) root)

-- the facts, by the counts
pub facts_are : (counts : Counts) (facts : Facts) (front : List ℕ) (index : Index) (roots lost : List CidParts)
    → facts.version ≡ version_of front → facts.index ≡ index_told index front → facts.roots.items ≡ map (root_in lost) roots
    → facts.all ≡ counts.all → facts.repeated ≡ counts.all.count - length counts.names.cids.keys → facts.least ≡ counts.least → facts.greatest ≡ counts.greatest
    → facts.codecs.items ≡ counts.codecs.rows.entries → facts.hashes.items ≡ counts.hashes.rows.entries → facts.missing ≡ length lost
    → (blocks : List Measure) → AreCounts counts blocks → AreFacts facts front index roots blocks lost
facts_are counts facts front index roots lost version told named all repeated low high codecs hashes missing blocks h = record {
  version = version;
  told = told;
  roots = named;
  sections = ap (λ row. row.count) all ∙ h.sections;
  repeated = repeated ∙ ap (λ n. n - length counts.names.cids.keys) h.sections ∙ ap (λ keys. length blocks - length keys) h.names;
  bytes = ap (λ row. row.bytes) all ∙ h.bytes;
  least = low ∙ h.least;
  greatest = high ∙ h.greatest;
  codecs = codecs ∙ h.codecs;
  hashes = hashes ∙ h.hashes;
  missing = missing;
}

-- the facts, with the names of missing blocks as they are listed
pub facts_listed : {E : Type 0} (r : Result Facts E) (it : Inspecting) (front : List ℕ) (index : Index) (roots : List CidParts) (v : Vec CidParts Global) (items : List CidParts) → items ≡ v.items
    → ((named : List (List ℕ)) (sections : List Section) → IsAfter it.check named sections → ListsMissingInFile named sections v)
    → IfOk r (λ facts. (blocks : List Measure) → AreCounts it.counts blocks → AreFacts facts front index roots blocks items)
    → (sections : List Section) → Knows it (forms roots) sections → IfOk r (λ facts. AreFactsOf facts front index roots sections)
facts_listed (Err e) it front index roots v items is lists f sections k = tt
facts_listed (Ok facts) it front index roots v items is lists f sections k = (v, lists (forms roots) sections k.0, subst (AreFacts facts front index roots (measures sections)) is (f (measures sections) k.1))

-- a header was taken first
pub after_start : {A E : Type 0} (P : List ℕ → A → Type 0) (r : Result A E) (start source : Reading) (roots : Vec CidParts Global) (items : List CidParts) (extent : Option ℕ) → items ≡ roots.items → TakesStart start (forms roots.items) extent source
    → IfOk r (λ found. (begun : Reading) (b : List ℕ) → TakesStart begun (forms items) extent source → begun.left ≡ Some b → P b found)
    → IfOk r (λ found. (b : List ℕ) → start.left ≡ Some b → P b found)
after_start P (Err e) start source roots items extent is h f = tt
after_start P (Ok found) start source roots items extent is h f = λ b l. f start b (subst (λ rs. TakesStart start (forms rs) extent source) (sym is) h) l

-- the header is refused
pub start_fault : {E : Type 0} (start source : Reading) (error : CarError E) (v : Vec ℕ Global) → CarRefuses RefusesStart start error source → IsOfBytes error → v.items ≡ refused_line error → (b : List ℕ) → start.left ≡ Some b → TellsFault (λ ss. ⊤) b v.items
start_fault start source error v h is told b l =
    let refused = header_alone start source error is h b l in
    (alone error, (no_file (alone error) b refused, inl refused), told ∙ alone_line error is)

-- the first bytes come before the others again
pub whole_found : {E : Type 0} (known left whole : Option (List ℕ)) (items slice front : List ℕ) (index : Index) (r : Result (Result Facts (Vec ℕ Global)) E)
    → IfSome known (λ b. TakesFront 51 b items left) → whole ≡ option_append (Some slice) left → slice ≡ items → front ≡ items
    → IfSome whole (λ b. IfOk r (IsFound b front index)) → IfSome known (λ b. IfOk r (IsFound b (take 51 b) index))
whole_found None left whole items slice front index r h is same at f = tt
whole_found (Some b) left whole items slice front index r h is same at f =
    let all : whole ≡ Some b = is ∙ ap (option_append (Some slice)) h.2 ∙ ap (λ s. Some (s ++ h.0)) same ∙ ap Some (sym h.1) in
    let found = subst (λ w. IfSome w (λ b. IfOk r (IsFound b front index))) all f in
    subst (λ x. IfOk r (IsFound b x index)) (at ∙ h.3) found
