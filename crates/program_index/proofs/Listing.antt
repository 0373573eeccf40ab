-- A block of a file with an index that `index` wrote.
use Rattle.std.proofs.Common.{◌≡◌, ℕ, ◌+◌, ◌-◌, ◌^◌, ◌<◌, List, [], ◌∷◌, ◌++◌, length, drop, sym, ap, ◌∙◌, refl, inl, inr, arith, length-append, append_assoc, append-nil, flat_map, All}
use Rattle.std.proofs.lemmas.Grind.{flat_map-append}
use Rattle.std.proofs.lemmas.List.Elements.{All-nil, All-cons, All-tail, All-head}
use Rattle.std.proofs.lemmas.List.Sorted.{All-permutation}
use Rattle.std.proofs.lemmas.Nat.{from_le_bytes-to_le_bytes_8}
use Rattle.std.proofs.lemmas.List.{drop-drop}
use Rattle.std.proofs.Math.Seq.{drop-append_seam}
use Rattle.std.specs.List.{AllByRecursion}
use Rattle.ipld_tree.specs.Cid.{AreCidParts}
use Rattle.files_car.specs.Car.{Section, section_bytes, IsSection, header_bytes, car_bytes}
use Rattle.files_car.specs.Versions.{begin_of, length_of}
use Rattle.files_index.specs.Index.{EntryParts, index_bytes}
use Rattle.files_index.specs.Leading.{HasRoom}
use Rattle.program_index.specs.Indexed.{entry_of, entries_of, version_2_header, indexed_bytes}
use Rattle.program_index.specs.Layouts.{index_field}
use Rattle.program_index.specs.Finds.{written, IndexLists}

-- the bytes some way after an offset
after_front : (b xs rest : List ℕ) (p n : ℕ) → n ≡ length xs → drop p b ≡ xs ++ rest → drop (p + n) b ≡ rest
after_front b xs rest p n long is =
    sym (drop-drop n p b) ∙ (ap (drop n) is ∙ (ap (λ m. drop m (xs ++ rest)) long ∙ drop-append_seam xs rest))

-- ---- entries have room

entry_room : (place : ℕ) (s : Section) → AreCidParts s.0 → place < 2 ^ 64 → HasRoom (entry_of place s)
entry_room place s (inl h) fits = (omega (arith, h.2), omega (arith, h.3), fits)
entry_room place s (inr h) fits = (h.2, omega (arith, h.3), fits)

entries_room : (place : ℕ) (ss : List Section) → AllByRecursion IsSection ss → place + length (flat_map section_bytes ss) < 2 ^ 64 → All HasRoom (entries_of place ss)
entries_room place [] h fits = All-nil HasRoom
entries_room place (s ∷ ss) h fits =
    let both : length (section_bytes s ++ flat_map section_bytes ss) ≡ length (section_bytes s) + length (flat_map section_bytes ss) = length-append (section_bytes s) (flat_map section_bytes ss) in
    All-cons HasRoom (entry_of place s) (entries_of (place + length (section_bytes s)) ss) (entry_room place s h.0.0 (omega (arith, fits, both)))
    (entries_room (place + length (section_bytes s)) ss h.1 (omega (arith, fits, both)))

each_of : (es : List EntryParts) → All HasRoom es → AllByRecursion HasRoom es
each_of [] h = tt
each_of (e ∷ es) h = (All-head HasRoom e es h, each_of es (All-tail HasRoom e es h))

-- ---- the parts of the file

module _ (car index : List ℕ) (fits : 51 + length car < 2 ^ 64) where
  begins : begin_of (indexed_bytes car index) ≡ 51
  begins = from_le_bytes-to_le_bytes_8 51 (omega arith)

  long : length_of (indexed_bytes car index) ≡ length car
  long = from_le_bytes-to_le_bytes_8 (length car) (omega (arith, fits))

  listed : index_field (indexed_bytes car index) ≡ 51 + length car
  listed = from_le_bytes-to_le_bytes_8 (51 + length car) fits

  data_after : drop 51 (indexed_bytes car index) ≡ car ++ index
  data_after = refl

  index_after : drop (51 + length car) (indexed_bytes car index) ≡ index
  index_after = after_front (indexed_bytes car index) car index 51 (length car) refl data_after

-- ---- the whole

pub lists : IndexLists
lists roots before following s entries k all verified are few stands early below =
    let sections : List Section = before ++ (s ∷ following) in
    let car : List ℕ = car_bytes roots sections in
    let index : List ℕ = index_bytes entries in
    let offset : ℕ = length (car_bytes roots before) in
    let rest : List ℕ = flat_map section_bytes following in
    let parts : car ≡ car_bytes roots before ++ (section_bytes s ++ rest) =
    ap (λ l. header_bytes roots ++ l) (flat_map-append section_bytes before (s ∷ following)) ∙ sym (append_assoc (header_bytes roots) (flat_map section_bytes before) (section_bytes s ++ rest)) in
    let whole : length (written roots sections entries) ≡ 51 + (length car + length index) =
    length-append (version_2_header (length car)) (car ++ index) ∙ ap (λ n. 51 + n) (length-append car index) in
    let fits : 51 + length car < 2 ^ 64 = omega (arith, below, whole) in
    let inside : length car ≡ offset + (length (section_bytes s) + length rest) = ap length parts ∙ (length-append (car_bytes roots before) (section_bytes s ++ rest) ∙ ap (λ n. offset + n) (length-append (section_bytes s) rest)) in
    let there : drop (51 + offset) (written roots sections entries) ≡ section_bytes s ++ (rest ++ index) =
    after_front (written roots sections entries) (car_bytes roots before) (section_bytes s ++ (rest ++ index)) 51 offset refl
    (data_after car index fits ∙ (ap (λ l. l ++ index) parts ∙ (append_assoc (car_bytes roots before) (section_bytes s ++ rest) index ∙ ap (λ l. car_bytes roots before ++ l) (append_assoc (section_bytes s) rest index)))) in
    let room : AllByRecursion HasRoom entries = each_of entries (All-permutation HasRoom (entries_of (length (header_bytes roots)) sections) entries are.each
    (entries_room (length (header_bytes roots)) sections all (omega (arith, fits, length-append (header_bytes roots) (flat_map section_bytes sections))))) in
    record {
      entries = entries;
      block = s.1;
      offset = offset;
      before = k;
      index = record {
        sorted = are.sorted;
        room = room;
        few = few;
        more = [];
        there = ap (λ p. drop p (written roots sections entries)) (listed car index fits) ∙ (index_after car index fits ∙ sym (append-nil index));
        fits = below;
      };
      entry = stands;
      early = early;
      there = record {
        block = s.1;
        rest = rest ++ index;
        is = ap (λ p. drop (p + offset) (written roots sections entries)) (begins car index fits) ∙ there;
        within = omega (arith, inside, long car index fits);
        section = section_here before all;
        verified = verified;
      };
    }
  where
    section_here : (ss : List Section) → AllByRecursion IsSection (ss ++ (s ∷ following)) → IsSection s
    section_here [] h = h.0
    section_here (x ∷ xs) h = section_here xs h.1
