-- The entries of the sections of a file.
use Rattle.std.specs.Bool.{⊤}
use Rattle.std.proofs.Common.{◌≡◌, ℕ, ◌+◌, List, [], ◌∷◌, ◌++◌, length, sym, ap, ◌∙◌, subst, inl, append-nil, append_assoc, arith, length-append, flat_map, Option, Some, IsPermutation, IsSorted, add-zero, IfSome, None, drop}
use Rattle.std.specs.Option.{option_map}
use Rattle.ipld_tree.specs.Cid.{varint}
use Rattle.dagcbor_heads.specs.Reading.{Reading}
use Rattle.files_car.specs.Car.{Section, section_bytes, header_bytes, counted}
use Rattle.files_car.specs.Sources.{CarRefuses, RefusesStart}
use Rattle.files_car.specs.declared.error.CarError.{CarError}
use Rattle.files_car.proofs.Places.{no_file}
use Rattle.program_parts.specs.Lines.{refused_line}
use Rattle.files_index.specs.Index.{entry_cmp}
use Rattle.program_parts.specs.Taking.{IsOfBytes, TookEach, TakesWhole}
use Rattle.program_parts.specs.Holding.{TellsFault}
use Rattle.program_parts.proofs.Taking.{alone, alone_line, header_alone}
use Rattle.program_index.specs.Indexed.{entry_of, entries_of}
use Rattle.program_index.specs.Steps.{GathersNext, IsGathered}
use Rattle.program_index.specs.declared.gather.Gathering.{Gathering}
use Rattle.program_index.specs.declared.gather.Gathered.{Gathered}

pub section_long : (name block : List ℕ) → length (counted (name ++ block)) ≡ length (varint (length name + length block)) + (length name + length block)
section_long name block =
    let body : length (name ++ block) ≡ length name + length block = length-append name block in
    let all : length (counted (name ++ block)) ≡ length (varint (length (name ++ block))) + length (name ++ block) = length-append (varint (length (name ++ block))) (name ++ block) in
    all ∙ ap (λ n. length (varint n) + n) body

-- all sections were gathered
pub gathered : (ss : List Section) (old new : Gathering) → TookEach GathersNext old ss new → (new.entries.items ≡ old.entries.items ++ entries_of old.place ss) × (new.place ≡ old.place + length (flat_map section_bytes ss))
gathered [] old new t = (ap (λ (x : Gathering). x.entries.items) t ∙ sym (append-nil old.entries.items), ap (λ (x : Gathering). x.place) t ∙ sym (add-zero old.place))
gathered (s ∷ ss) old new t =
    let it = t.0 in
    let k = gathered ss it new t.2 in (
      k.0 ∙ (ap (λ l. l ++ entries_of it.place ss) t.1.0 ∙ (append_assoc old.entries.items (entry_of old.place s ∷ []) (entries_of it.place ss) ∙ ap (λ n. old.entries.items ++ (entry_of old.place s ∷ entries_of n ss)) t.1.1)),
      omega (arith, k.1, t.1.1, length-append (section_bytes s) (flat_map section_bytes ss)),
    )

-- and these are the entries of a whole file
pub whole_gathered : (b : List ℕ) (roots : List (List ℕ)) (old mid : Gathering) (found : Gathered) → TakesWhole GathersNext roots b old mid → old.entries.items ≡ [] → old.place ≡ length (header_bytes roots) → IsPermutation mid.entries.items found.entries.items → IsSorted entry_cmp found.entries.items → found.length ≡ mid.place → IsGathered b found
whole_gathered b roots old mid found w none header same sorted long =
    let k = gathered w.sections old mid w.took in
    let all : mid.entries.items ≡ entries_of (length (header_bytes roots)) w.sections = k.0 ∙ (ap (λ l. l ++ entries_of old.place w.sections) none ∙ ap (λ n. entries_of n w.sections) header) in
    record {
      roots = roots;
      sections = w.sections;
      file = w.file;
      entries = record { each = subst (λ l. IsPermutation l found.entries.items) all same; sorted = sorted };
      length = omega (arith, long, k.1, header, length-append (header_bytes roots) (flat_map section_bytes w.sections));
    }

-- the header is refused
pub none_begun : {E : Type 0} (start source : Reading) (error : CarError E) (b told : List ℕ) → CarRefuses RefusesStart start error source → IsOfBytes error → told ≡ refused_line error → start.left ≡ Some b → TellsFault (λ ss. ⊤) b told
none_begun start source error b told h is said l =
    let refused = header_alone start source error is h b l in
    (alone error, (no_file (alone error) b refused, inl refused), said ∙ alone_line error is)

-- all bytes from the start
pub from_first : (known left : Option (List ℕ)) (P : List ℕ → Type 0) → left ≡ option_map (drop 0) known → IfSome left P → IfSome known P
from_first None left P is h = tt
from_first (Some b) left P is h = subst (λ x. IfSome x P) is h
