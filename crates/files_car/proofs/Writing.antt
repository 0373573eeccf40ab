-- A file that is written section by section.
use Rattle.std.proofs.Common.{◌≡◌, ℕ, suc, ◌+◌, ◌<◌, add-one, List, [], ◌∷◌, ◌++◌, length, drop, get_or, Bool, true, false, Result, Ok, Err, sym, ap, ◌∙◌, subst, append_assoc, append-nil, Some, flat_map, IsErrAnd, drop-cons}
use Rattle.std.specs.List.{AllByRecursion}
use Rattle.std.proofs.lemmas.Grind.{flat_map-append}
use Rattle.ipld_tree.specs.Cid.{CidParts}
use Rattle.dagcbor_heads.specs.Written.{Written, WroteAll, Stops, Writes, WantsMemoryOnlyIf}
use Rattle.dagcbor_core.specs.declared.error.EncodeError.{EncodeError}
use Rattle.dagcbor_core.specs.declared.error.EncodeError.TheVariants.{OutOfMemory}
use Rattle.dagcbor_heads.proofs.Writing.{WroteAll_then, Stops-then, Writes_exit}
use Rattle.files_car.specs.Writers.{UnsentWithoutMemory}
use Rattle.ipld_links.specs.Reaching.{Stored}
use Rattle.files_car.specs.Reached.{section_at, sections_at}
use Rattle.files_car.specs.Car.{Section, header_bytes, section_bytes, car_bytes, IsHeader, IsSection}

-- the bytes of some sections, and then of others
joined : (roots : List (List ℕ)) (seen these rest : List Section) → (car_bytes roots seen ++ flat_map section_bytes these) ++ flat_map section_bytes rest ≡ car_bytes roots (seen ++ (these ++ rest))
joined roots seen these rest =
    append_assoc (car_bytes roots seen) (flat_map section_bytes these) (flat_map section_bytes rest)
    ∙ append_assoc (header_bytes roots) (flat_map section_bytes seen) (flat_map section_bytes these ++ flat_map section_bytes rest)
    ∙ ap (λ more. header_bytes roots ++ (flat_map section_bytes seen ++ more)) (sym (flat_map-append section_bytes these rest))
    ∙ ap (λ more. header_bytes roots ++ more) (sym (flat_map-append section_bytes seen (these ++ rest)))

all_append : (xs ys : List Section) → AllByRecursion IsSection xs → AllByRecursion IsSection ys → AllByRecursion IsSection (xs ++ ys)
all_append [] ys h k = k
all_append (x ∷ xs) ys h k = (h.0, all_append xs ys h.1 k)

-- one section is written as a list of one
pub one_section : (s : Section) → section_bytes s ≡ flat_map section_bytes (s ∷ [])
one_section s = sym (append-nil (section_bytes s))

-- the sections of names, of which the first is the one at this place
pub sections_left : (stored : Stored) (names : List CidParts) (i : ℕ) (name : CidParts) → i < length names → name ≡ get_or names i name → sections_at stored (drop i names) ≡ section_at stored name ++ sections_at stored (drop (i + 1) names)
sections_left stored names i name lt is = ap (sections_at stored) (drop-cons names i name lt) ∙ ap (λ q. section_at stored q ++ sections_at stored (drop (suc i) names)) (sym is) ∙ ap (λ n. section_at stored name ++ sections_at stored (drop n names)) (sym (add-one i))

-- ---- how far a file was written

-- some of the sections were written after the header, and the rest is to come
pub record WrittenTo (roots : List (List ℕ)) (sections rest : List Section) (old now : Written) : Type 0 where
  pub seen : List Section
  pub all : sections ≡ seen ++ rest
  pub header : IsHeader roots
  pub valid : AllByRecursion IsSection seen
  pub wrote : WroteAll (Some (car_bytes roots seen)) old now

pub written_more : (roots : List (List ℕ)) (sections before these rest : List Section) (old mid now : Written) → before ≡ these ++ rest → WrittenTo roots sections before old mid → AllByRecursion IsSection these → WroteAll (Some (flat_map section_bytes these)) mid now
    → WrittenTo roots sections rest old now
written_more roots sections before these rest old mid now is h own wrote = record {
  seen = h.seen ++ these;
  all = h.all ∙ ap (λ l. h.seen ++ l) is ∙ sym (append_assoc h.seen these rest);
  header = h.header;
  valid = all_append h.seen these h.valid own;
  wrote =
      let text : car_bytes roots h.seen ++ flat_map section_bytes these ≡ car_bytes roots (h.seen ++ these) = sym (append-nil (car_bytes roots h.seen ++ flat_map section_bytes these)) ∙ joined roots h.seen these [] ∙ ap (λ l. car_bytes roots (h.seen ++ l)) (append-nil these) in
      subst (λ b. WroteAll (Some b) old now) text (WroteAll_then (Some (car_bytes roots h.seen)) (Some (flat_map section_bytes these)) old mid now h.wrote wrote);
}

-- ---- refusals, at the exit of a `?`

pub header_stopped : {T E : Type 0} (roots : List (List ℕ)) (sections : List Section) (old now : Written) (r : Result T (EncodeError E)) (e : EncodeError E) → IsErrAnd r (λ d. d ≡ e) → Stops (Some (header_bytes roots)) old now e → Writes (Some (car_bytes roots sections)) old now r
header_stopped roots sections old now r e same stops = Writes_exit (Some (header_bytes roots)) (Some (flat_map section_bytes sections)) old now r e same stops

pub section_stopped : {T E : Type 0} (roots : List (List ℕ)) (sections before these rest : List Section) (old mid now : Written) (r : Result T (EncodeError E)) (e : EncodeError E) → before ≡ these ++ rest → WrittenTo roots sections before old mid
    → IsErrAnd r (λ d. d ≡ e) → Stops (Some (flat_map section_bytes these)) mid now e → Writes (Some (car_bytes roots sections)) old now r
section_stopped roots sections before these rest old mid now r e is h same stops =
    let front = Stops-then (Some (car_bytes roots h.seen)) (Some (flat_map section_bytes these)) old mid now e h.wrote stops in
    let exit = Writes_exit (Some (car_bytes roots h.seen ++ flat_map section_bytes these)) (Some (flat_map section_bytes rest)) old now r e same front in
    subst (λ b. Writes (Some b) old now r) (joined roots h.seen these rest ∙ ap (λ ss. car_bytes roots ss) (sym (h.all ∙ ap (λ l. h.seen ++ l) is))) exit

-- ---- out of memory, at the exit of a `?`

pub header_unsent : {T E : Type 0} (U : Type 0) (takes_memory : Bool) (old new : Written) (r : Result T (EncodeError E)) (e : EncodeError E) → IsErrAnd r (λ d. d ≡ e) → UnsentWithoutMemory {T = U} takes_memory old (Err e) new → UnsentWithoutMemory takes_memory old r new
header_unsent U takes_memory old new (Ok x) e same h = absurd same
header_unsent {T} {E} U takes_memory old new (Err y) e same h = by y (subst (λ z. UnsentWithoutMemory {T = U} {E = E} takes_memory old (Err z) new) (sym same) h)
  where
    by : (z : EncodeError E) → UnsentWithoutMemory {T = U} {E = E} takes_memory old (Err z) new → UnsentWithoutMemory {T = T} {E = E} takes_memory old (Err z) new
    by OutOfMemory k = k
    by z k = tt

pub section_unsent : {T E : Type 0} (U : Type 0) (takes_memory : Bool) (old new : Written) (r : Result T (EncodeError E)) (e : EncodeError E) → IsErrAnd r (λ d. d ≡ e) → WantsMemoryOnlyIf {T = U} takes_memory (Err e) → UnsentWithoutMemory takes_memory old r new
section_unsent U takes_memory old new (Ok x) e same h = absurd same
section_unsent {T} {E} U takes_memory old new (Err y) e same h = by y takes_memory (subst (λ z. WantsMemoryOnlyIf {T = U} {E = E} takes_memory (Err z)) (sym same) h)
  where
    by : (z : EncodeError E) (may : Bool) → WantsMemoryOnlyIf {T = U} {E = E} may (Err z) → UnsentWithoutMemory {T = T} {E = E} may old (Err z) new
    by OutOfMemory true k = λ none. absurd (cc none)
    by OutOfMemory false k = absurd (cc k)
    by z may k = tt
