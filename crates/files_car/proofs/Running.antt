-- Sequences of calls, against the bytes.
use Rattle.std.proofs.Common.{◌≡◌, ◌⊎◌, inl, inr, ℕ, ◌<◌, Bool, true, false, List, [], ◌∷◌, ◌++◌, take, length, length-append, refl, sym, ap, ◌∙◌, subst, arith, Option, None, Some, option_map, Result, Ok, Err, MatchBool, flat_map}
use Rattle.std.proofs.lemmas.Bool.{MatchBool-at_true, MatchBool-at_false}
use Rattle.std.specs.List.{AllByRecursion}
use Rattle.dagcbor_heads.specs.Reading.{Reading}
use Rattle.dagcbor_heads.specs.Written.{Written, WroteAll}
use Rattle.dagcbor_heads.proofs.Writing.{WroteAll_then, Appends_nothing}
use Rattle.dagcbor_items.specs.Walks.{forms}
use Rattle.files_car.specs.Car.{Section, section_bytes, IsSection, header_bytes}
use Rattle.files_car.specs.Versions.{HoldsCar, IsFile}
use Rattle.files_car.specs.Extents.{bytes_within, wanting, EndsThere}
use Rattle.files_car.specs.Sources.{RefusesSection, SectionStream, section_stream, GivesNextSection, NotBegun}
use Rattle.files_car.specs.Writers.{WriterState, WritesSection}
use Rattle.files_car.specs.Runs.{Item, GivesItems, AreNone, GivesUpOnFile, AreItemsOf, RunsAreExact, AreSections, DoesNotBegin, CarsReadBack, WritesSections, CarsAreWritten}
use Rattle.files_car.specs.declared.error.CarError.{CarError}
use Rattle.files_car.specs.declared.error.CarError.TheVariants.{Read, OutOfMemory}
use Rattle.files_car.specs.declared.error.CarWriteError.{CarWriteError}
use Rattle.files_car.specs.declared.error.CarWriteError.TheVariants.{Failed}
use Rattle.files_car.proofs.Cars.{section_unique, section_some, header_unique}
use Rattle.files_car.proofs.Spending.{within_after, wanting_after}
use Rattle.files_car.proofs.Starting.{holds_one, start_holds}
use Rattle.files_car.proofs.Places.{no_file}

-- ---- runs of `next`

-- if both cases imply R, R holds
either : (b : Bool) (P Q R : Type 0) → (P → R) → (Q → R) → MatchBool b P Q → R
either true P Q R f g h = f h
either false P Q R f g h = g h

-- a stream that is done gives nothing more
nothing_more : {E : Type 0} (s : SectionStream) (items : List (Item E)) → s.done ≡ true → GivesItems s items → AreNone items
nothing_more s [] d h = tt
nothing_more s (item ∷ items) d h =
    let k = MatchBool-at_true _ _ d h.1 in
    (k.0, nothing_more h.0 items (ap (λ t. t.done) k.1 ∙ d) h.2)

-- why no section came
why : {E : Type 0} (e : CarError E) (extent rest : Option ℕ) (old new : Reading) (b : List ℕ) → old.left ≡ Some b → GivesNextSection extent old (Err e) rest new → GivesUpOnFile old.lends (bytes_within extent b) e ⊎ RefusesSection (wanting extent b) e (bytes_within extent b)
why (Read f) extent rest old new b l n = inl tt
why OutOfMemory extent rest old new b l n = inl (n.memory.0, λ none. n.memory.1 (ap (option_map (bytes_within extent)) l ∙ ap Some none))
why e extent rest old new b l n = inr (n.taken.1 b l)

-- the bytes left of a file that ends
none_left : (extent rest : Option ℕ) (old new : Reading) (b : List ℕ) → EndsThere extent old rest new → old.left ≡ Some b → (bytes_within extent b ≡ []) × (wanting extent b ≡ 0)
none_left None rest old new b h l = (h.0.none_left b l, refl)
none_left (Some n) rest old new b h l = (ap (λ k. take k b) h.0, omega (arith, h.0))

pub exact : (E : Type 0) → RunsAreExact E
exact E s b [] d l h = tt
exact E s b (Some (Ok t) ∷ items) d l h =
    let k = MatchBool-at_false _ _ d h.1 in
    let t = k.1.taken in
    let w = t.1.takes.taken b l in
    let more = exact E h.0 w.0 items k.0 w.2 h.2 in
    let lends : h.0.source.lends ≡ s.source.lends = t.1.takes.same.lends in
    let wants : wanting h.0.extent w.0 ≡ wanting s.extent b = wanting_after s.extent h.0.extent _ w.0 t.1.spends ∙ ap (wanting s.extent) (sym w.1) in (
      bytes_within h.0.extent w.0,
      (t.0, ap (bytes_within s.extent) w.1 ∙ within_after s.extent h.0.extent _ w.0 t.1.spends),
      subst (λ n. AreItemsOf {E = E} s.source.lends n (bytes_within h.0.extent w.0) items) wants (subst (λ x. AreItemsOf {E = E} x (wanting h.0.extent w.0) (bytes_within h.0.extent w.0) items) lends more),
    )
exact E s b (Some (Err e) ∷ items) d l h =
    let k = MatchBool-at_false _ _ d h.1 in
    (why e s.extent h.0.extent s.source h.0.source b l k.1, nothing_more h.0 items k.0 h.2)
exact E s b (None ∷ items) d l h =
    let k = MatchBool-at_false _ _ d h.1 in
    let e = none_left s.extent h.0.extent s.source h.0.source b k.1.taken l in
    (e.0, e.1, nothing_more h.0 items k.0 h.2)

-- ---- a file, read back

-- the bytes of sections
abbrev bytes_of : List Section → List ℕ
bytes_of sections = flat_map section_bytes sections

some_bytes : (s : Section) (sections : List Section) → IsSection s → 0 < length (bytes_of (s ∷ sections))
some_bytes s sections h = omega (arith, section_some s h, length-append (section_bytes s) (bytes_of sections))

-- if sections are left, the next is not refused
not_refused : {E : Type 0} (e : CarError E) (sections : List Section) → AllByRecursion IsSection sections → RefusesSection 0 e (bytes_of sections) → ⊥
not_refused e [] all r = omega (arith, r.0)
not_refused e (s ∷ sections) all r = r.1 s (bytes_of sections) (all.0, refl)

sections_given : {E : Type 0} (lends : Bool) (items : List (Item E)) (sections : List Section) → AllByRecursion IsSection sections → AreItemsOf lends 0 (bytes_of sections) items → AreSections lends items sections
sections_given lends [] sections all h = tt
sections_given lends (Some (Ok t) ∷ items) [] all h = absurd (omega (arith, ap length h.1.1, section_some t h.1.0, length-append (section_bytes t) h.0))
sections_given {E} lends (Some (Ok t) ∷ items) (s ∷ sections) all h =
    let same = section_unique t s h.0 (bytes_of sections) h.1.0 all.0 (sym h.1.1) in
    (sections, ap (λ x. x ∷ sections) (sym same.0), sections_given lends items sections all.1 (subst (λ b. AreItemsOf {E = E} lends 0 b items) same.1 h.2))
sections_given lends (Some (Err e) ∷ items) sections all h = (elim h.0 [ inl g ↦ g | inr r ↦ absurd (not_refused e sections all r) ], h.1)
sections_given lends (None ∷ items) [] all h = (refl, h.2)
sections_given lends (None ∷ items) (s ∷ sections) all h = absurd (omega (arith, ap length h.0, some_bytes s sections all.0))

-- the start of a file is not refused
gives_up : {E : Type 0} (e : CarError E) (old : Reading) (b : List ℕ) (roots : List (List ℕ)) (sections : List Section) → IsFile b roots sections → old.left ≡ Some b → NotBegun old e → DoesNotBegin e
gives_up (Read f) old b roots sections file l n = tt
gives_up OutOfMemory old b roots sections file l n = tt
gives_up {E} e old b roots sections file l n = absurd (no_file {E = E} e b (n b l) roots sections file)

pub read_back : {R : Type 0} (E : Type 0) (reading : R → Reading) → CarsReadBack E reading
read_back {R} E reading b roots sections old (Err e) file l h = gives_up e old b roots sections file l h
read_back {R} E reading b roots sections old (Ok p) file l h =
    let from = section_stream reading p.1 in
    let w = h.0.takes.taken b l in
    let car = header_bytes (forms p.0.items) ++ bytes_within from.extent w.0 in
    let holds : HoldsCar b car (wanting from.extent w.0) = subst (λ x. HoldsCar x car (wanting from.extent w.0)) (sym w.1) (start_holds h.0.front w.0 (forms p.0.items) from.extent h.0.header h.0.start) in
    let one = holds_one b car file.0 (wanting from.extent w.0) 0 holds file.1 in
    let same = header_unique (forms p.0.items) roots (bytes_within from.extent w.0) (bytes_of sections) h.0.header file.2.header (one.0 ∙ file.2.is) in
    (same.0, λ items g. subst (λ x. AreSections {E = E} x items sections) h.0.takes.same.lends (sections_given from.source.lends items sections file.2.all (subst (λ n. AreItemsOf {E = E} from.source.lends n (bytes_of sections) items) one.1 (subst (λ c. AreItemsOf {E = E} from.source.lends (wanting from.extent w.0) c items) same.1 (exact E from w.0 items h.1 w.2 g)))))

-- ---- runs of `write`

-- a section that was written
section_out : {W : Type 0} (E : Type 0) (written : W → Written) (takes_memory : Bool) (s : Section) (old new : WriterState W) → WritesSection {T = Unit {0}} {E = E} written takes_memory s old (Ok tt) new
    → IsSection s × WroteAll (Some (section_bytes s)) (written old.writer) (written new.writer)
section_out E written takes_memory s old new h = either old.failed _ _ _ (λ k. no_failure k.0) (λ k. (k.0, k.2.0)) h
  where
    no_failure : {X : Type 0} → ◌≡◌ {A = Result (Unit {0}) (CarWriteError E)} (Ok tt) (Err Failed) → X
    no_failure e = absurd (cc e)

sections_out : {W : Type 0} (E : Type 0) (written : W → Written) (takes_memory : Bool) (old new : WriterState W) (sections : List Section) → WritesSections E written takes_memory old sections new
    → AllByRecursion IsSection sections × WroteAll (Some (bytes_of sections)) (written old.writer) (written new.writer)
sections_out E written takes_memory old new [] h =
    (tt, subst (λ t. WroteAll (Some []) (written old.writer) (written t.writer)) (sym h) (Appends_nothing (written old.writer).bytes, refl, refl))
sections_out E written takes_memory old new (s ∷ sections) h =
    let first = section_out E written takes_memory s old h.0 h.1 in
    let more = sections_out E written takes_memory h.0 new sections h.2 in
    ((first.0, more.0), WroteAll_then (Some (section_bytes s)) (Some (bytes_of sections)) (written old.writer) (written h.0.writer) (written new.writer) first.1 more.1)

pub written_car : {W : Type 0} (E : Type 0) (written : W → Written) (takes_memory : Bool) → CarsAreWritten E written takes_memory
written_car E written takes_memory old begun new roots sections h k =
    let more = sections_out E written takes_memory begun new sections k in (
      record { header = h.0; all = more.0; is = refl },
      WroteAll_then (Some (header_bytes roots)) (Some (bytes_of sections)) (written old) (written begun.writer) (written new.writer) h.2 more.1,
    )
