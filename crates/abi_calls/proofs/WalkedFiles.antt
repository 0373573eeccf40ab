-- For a CAR file its roots and sections are reported, and the end only for a CAR file.
use Rattle.std.proofs.Common.{◌≡◌, inl, inr, ℕ, ◌+◌, ◌≤◌, Bool, List, [], ◌∷◌, ◌++◌, length, length-append, refl, sym, ap, ◌∙◌, subst, arith, flat_map}
use Rattle.std.specs.List.{AllByRecursion}
use Rattle.ipld_tree.specs.Cid.{varint}
use Rattle.ipld_tree.specs.Spelling.{spelling}
use Rattle.files_car.specs.Car.{Section, section_bytes, header_tree, header_bytes, IsSection, IsCar}
use Rattle.files_car.specs.Versions.{HoldsCar, IsFile, MayBeVersion2}
use Rattle.files_car.proofs.Cars.{section_unique, header_unique}
use Rattle.files_car.proofs.HeaderShape.{link_list, after_roots, header_spelled}
use Rattle.files_car.proofs.Starting.{holds_one, surely}
use Rattle.abi_calls.specs.Sections.{section_places}
use Rattle.abi_calls.specs.Walks.{header_places, IsSectionCode}
use Rattle.abi_calls.specs.WalkRuns.{offsets, Told, AreToldOfSections, BeginsAt, AreToldOf, AreSections, AreOfFile, TellsEnd, FilesAreTold}
use Rattle.abi_calls.proofs.WalkRuns.{fault_below, header_below, section_number}
use Rattle.abi_calls.proofs.WalksAgree.{AtCar, same_pair, untold, section_or_end}

-- ---- of a file

ends : (unjudged : Bool) (place : ℕ) (told : List Told) → AreToldOfSections unjudged 0 place [] told → AreSections unjudged place [] told
ends unjudged place [] h = tt
ends unjudged place (t ∷ told) (inl h) = absurd (section_or_end [] h.0 h.1 h.2 refl)
ends unjudged place (t ∷ told) (inr (inl h)) = (h.2, ends unjudged place told h.3)
ends unjudged place (t ∷ told) (inr (inr h)) = absurd (omega (arith, h.1.0))

in_turn : (unjudged : Bool) (place : ℕ) (sections : List Section) (told : List Told) → AllByRecursion IsSection sections → AreToldOfSections unjudged 0 place (flat_map section_bytes sections) told → AreSections unjudged place sections told
in_turn unjudged place [] told all h = ends unjudged place told h
in_turn unjudged place (s ∷ sections) [] all h = tt
in_turn unjudged place (s ∷ sections) (t ∷ told) all (inl h) =
    let same = section_unique h.0 s h.1 (flat_map section_bytes sections) h.2.0 all.0 (sym h.2.1) in
    let more = subst (λ rest. AreToldOfSections unjudged 0 (place + length (section_bytes s)) rest told) same.1 (subst (λ x. AreToldOfSections unjudged 0 (place + length (section_bytes x)) h.1 told) same.0 h.5) in
    (subst (λ x. IsSectionCode unjudged x t.0) same.0 h.3, h.4 ∙ ap (λ x. offsets place (section_places x)) same.0, in_turn unjudged (place + length (section_bytes s)) sections told all.1 more)
in_turn unjudged place (s ∷ sections) (t ∷ told) all (inr (inl h)) = absurd (section_or_end (flat_map section_bytes (s ∷ sections)) s (flat_map section_bytes sections) (all.0, refl) h.0)
in_turn unjudged place (s ∷ sections) (t ∷ told) all (inr (inr h)) = absurd (h.1.1 s (flat_map section_bytes sections) (all.0, refl))

-- a file begins somewhere
header_long : (roots : List (List ℕ)) → 11 ≤ length (header_bytes roots)
header_long roots = omega (arith, ap length (header_spelled roots), length-append (spelling (link_list roots)) after_roots, length-append (varint (length (spelling (header_tree roots)))) (spelling (header_tree roots)))

begins : (file car : List ℕ) (roots : List (List ℕ)) (sections : List Section) → HoldsCar file car 0 → IsCar car roots sections → (begin : ℕ) × BeginsAt file begin
begins file car roots sections (inr h) is = (_, inr (h.0, refl))
begins file car roots sections (inl h) is = (0, inl (may_not, refl))
  where
    long : 11 ≤ length file
    long = omega (arith, ap length h.1, ap length is.is, length-append (header_bytes roots) (flat_map section_bytes sections), header_long roots)

    may_not : ¬ MayBeVersion2 file
    may_not m = h.0 (surely file long m)

of_car : (unjudged : Bool) (file : List ℕ) (begin : ℕ) (car : List ℕ) (n : ℕ) (roots : List (List ℕ)) (sections : List Section) (t : Told) (told : List Told) → BeginsAt file begin → n ≡ 0 → IsCar car roots sections → AtCar unjudged file begin car n t told → AreOfFile unjudged file roots sections (t ∷ told)
of_car unjudged file begin car n roots sections t told at zero is (inl h) =
    let same = header_unique h.0 roots h.1 (flat_map section_bytes sections) h.2.0 is.header (sym h.2.1 ∙ is.is) in
    let whole = subst (λ m. AreToldOfSections unjudged m (begin + length (header_bytes roots)) (flat_map section_bytes sections) told) zero (subst (λ rest. AreToldOfSections unjudged n (begin + length (header_bytes roots)) rest told) same.1 (subst (λ x. AreToldOfSections unjudged n (begin + length (header_bytes x)) h.1 told) same.0 h.4)) in
    (begin, at, h.3 ∙ same_pair refl (ap (λ x. offsets begin (header_places 0 x)) same.0), in_turn unjudged (begin + length (header_bytes roots)) sections told is.all whole)
of_car unjudged file begin car n roots sections t told at zero is (inr h) = absurd (h.1.0 roots (flat_map section_bytes sections) (is.header, is.is))

of_file : (unjudged : Bool) (file : List ℕ) (roots : List (List ℕ)) (sections : List Section) (told : List Told) → IsFile file roots sections → AreToldOf unjudged file told → AreOfFile unjudged file roots sections told
of_file unjudged file roots sections [] is h = tt
of_file unjudged file roots sections (t ∷ told) is (inl h) =
    let at = begins file is.0 roots sections is.1 is.2 in
    absurd (untold h.0 file at.0 h.1 at.1)
of_file unjudged file roots sections (t ∷ told) is (inr h) =
    let same = holds_one file is.0 h.1 0 h.2 is.1 h.4 in
    of_car unjudged file h.0 h.1 h.2 roots sections t told h.3 (sym same.1) (subst (λ c. IsCar c roots sections) same.0 is.2) h.5

-- ---- to the end

-- the bytes are these sections
abbrev AreBytes : List ℕ → Type 0
AreBytes b = (sections : List Section) × AllByRecursion IsSection sections × (b ≡ flat_map section_bytes sections)

to_end : (unjudged : Bool) (n place : ℕ) (b : List ℕ) (told : List Told) → AreToldOfSections unjudged n place b told → TellsEnd told → (n ≡ 0) × AreBytes b
to_end unjudged n place b [] h e = absurd e
to_end unjudged n place b (t ∷ told) (inl h) (inl e) = absurd (elim (section_number unjudged h.0 t.0 12 h.3 e) [ inl low ↦ omega (arith, low) | inr is ↦ omega (arith, is) ])
to_end unjudged n place b (t ∷ told) (inl h) (inr e) =
    let more = to_end unjudged n (place + length (section_bytes h.0)) h.1 told h.5 e in
    (more.0, (h.0 ∷ more.1.0, (h.2.0, more.1.1), h.2.1 ∙ ap (λ x. section_bytes h.0 ++ x) more.1.2))
to_end unjudged n place b (t ∷ told) (inr (inl h)) e = (h.1, ([], tt, h.0))
to_end unjudged n place b (t ∷ told) (inr (inr h)) (inl e) = absurd (fault_below h.0 12 (sym (ap (λ x. x.0) h.2) ∙ e))
to_end unjudged n place b (t ∷ told) (inr (inr h)) (inr e) = to_end unjudged n place b told h.3 e

car_ended : (unjudged : Bool) (file : List ℕ) (begin : ℕ) (car : List ℕ) (n : ℕ) (t : Told) (told : List Told) → HoldsCar file car n → (AreToldOf unjudged file told → TellsEnd told → (roots : List (List ℕ)) × (sections : List Section) × IsFile file roots sections)
    → AtCar unjudged file begin car n t told → TellsEnd (t ∷ told) → (roots : List (List ℕ)) × (sections : List Section) × IsFile file roots sections
car_ended unjudged file begin car n t told holds next (inl h) (inl e) = (let clash : ◌≡◌ {A = ℕ} 11 12 = (let k = sym (ap (λ x. x.0) h.3) ∙ e in cc k) in absurd (omega (arith, clash)))
car_ended unjudged file begin car n t told holds next (inl h) (inr e) =
    let end = to_end unjudged n (begin + length (header_bytes h.0)) h.1 told h.4 e in
    let is : IsCar car h.0 end.1.0 = record { header = h.2.0; all = end.1.1; is = h.2.1 ∙ ap (λ x. header_bytes h.0 ++ x) end.1.2 } in
    (h.0, end.1.0, (car, subst (HoldsCar file car) end.0 holds, is))
car_ended unjudged file begin car n t told holds next (inr h) (inl e) = absurd (header_below h.0 12 (sym (ap (λ x. x.0) h.2) ∙ e))
car_ended unjudged file begin car n t told holds next (inr h) (inr e) = next h.3 e

file_ended : (unjudged : Bool) (file : List ℕ) (told : List Told) → AreToldOf unjudged file told → TellsEnd told → (roots : List (List ℕ)) × (sections : List Section) × IsFile file roots sections
file_ended unjudged file [] h e = absurd e
file_ended unjudged file (t ∷ told) (inl h) (inl e) = absurd (fault_below h.0 12 (sym (ap (λ x. x.0) h.2) ∙ e))
file_ended unjudged file (t ∷ told) (inl h) (inr e) = file_ended unjudged file told h.3 e
file_ended unjudged file (t ∷ told) (inr h) e = car_ended unjudged file h.0 h.1 h.2 t told h.4 (file_ended unjudged file told) h.5 e

pub files_are_told : FilesAreTold
files_are_told unjudged file told h = (λ roots sections is. of_file unjudged file roots sections told is h, file_ended unjudged file told h)
