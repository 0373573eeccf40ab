-- Where the sections of a file begin, and what is found of an index.
use Rattle.std.proofs.Common.{◌≡◌, ℕ, List, [], ◌∷◌, ◌++◌, length, sym, ap, ◌∙◌, append-nil, append_assoc, Ok, Vec, Global}
use Rattle.files_car.specs.Car.{Section, header_bytes}
use Rattle.program_parts.specs.Taking.{TookEach, TakesWhole}
use Rattle.program_index.specs.Judged.{placed, places_of, PlacesNext, ArePlaced}
use Rattle.files_index.specs.declared.judging.Placed.{Placed}
use Rattle.program_index.specs.declared.placing.Placing.{Placing}

placed_all : (ss : List Section) (old new : Placing) → TookEach PlacesNext old ss new → new.sections.items ≡ old.sections.items ++ places_of old.place ss
placed_all [] old new t = ap (λ (x : Placing). x.sections.items) t ∙ sym (append-nil old.sections.items)
placed_all (s ∷ ss) old new t =
    let it = t.0 in
    placed_all ss it new t.2 ∙ (ap (λ l. l ++ places_of it.place ss) t.1.0 ∙ (append_assoc old.sections.items (placed old.place s ∷ []) (places_of it.place ss) ∙ ap (λ n. old.sections.items ++ (placed old.place s ∷ places_of n ss)) t.1.1))

-- the sections of a whole file
pub whole_placed : (b : List ℕ) (roots : List (List ℕ)) (old new : Placing) (v : Vec Placed Global) → v ≡ new.sections → TakesWhole PlacesNext roots b old new → old.sections.items ≡ [] → old.place ≡ length (header_bytes roots) → ArePlaced b (Ok v)
whole_placed b roots old new v same w none header =
    (roots, w.sections, w.file, ap (λ (x : Vec Placed Global). x.items) same ∙ placed_all w.sections old new w.took ∙ ap (λ l. l ++ places_of old.place w.sections) none ∙ ap (λ n. places_of n w.sections) header)
