-- The blocks of a file, section by section.
use Rattle.std.proofs.Common.{◌≡◌, inl, inr, ℕ, ◌<◌, List, [], ◌∷◌, ◌++◌, Bool, true, false, cond, length, length-append, refl, sym, ap, ◌∙◌, arith, append_assoc, append-nil, None, Some, option_map, flat_map, Vec, BTreeMap, Global}
use Rattle.std.specs.Map.{lookup}
use Rattle.std.specs.BTreeMap.{is_at, get}
use Rattle.std.specs.List.{AllByRecursion}
use Rattle.std.specs.declared.convert.Infallible.{Infallible}
use Rattle.ipld_tree.specs.Cid.{CidParts, cid_cmp}
use Rattle.ipld_links.specs.Reaching.{Stored, stored_in}
use Rattle.files_car.specs.Car.{header_bytes, Section, section_bytes, IsSection}
use Rattle.files_car.specs.Splits.{SplitsHeader, BeginsNoHeader, HeaderRefused, SplitsSection, BeginsNoSection, SectionFault}
use Rattle.files_car.specs.declared.error.CarError.{CarError}
use Rattle.files_car.specs.declared.error.CarError.TheVariants as faults
use Rattle.files_car.proofs.Cars.{header_unique, section_some}
use Rattle.files_car.proofs.Places.{flat_push, others_after}
use Rattle.files_car.specs.Blocks.{put_section, put_sections, nothing_stored, stored_of, HoldsBlocks, HoldsSections, SplitsSections, StopsAt, NoSections, IsNoCar, IsNoCarFor, BlocksRefused}

-- ---- one block more

-- a map after a block was stored under a name
pub stored_put : (old new : BTreeMap CidParts (Vec ℕ Global)) (s : Section) (v : Vec ℕ Global) → v.items ≡ s.1 → ((q : CidParts) → get cid_cmp new q ≡ cond (is_at (cid_cmp s.0) q) (Some v) (get cid_cmp old q)) → stored_in new ≡ put_section (stored_in old) s
stored_put old new s v bytes put = λ i q. each q i
  where
    by : (t : Bool) (q : CidParts) → option_map (λ (w : Vec ℕ Global). w.items) (cond t (Some v) (get cid_cmp old q)) ≡ cond t (Some s.1) (stored_in old q)
    by true q = ap Some bytes
    by false q = refl

    each : (q : CidParts) → stored_in new q ≡ put_section (stored_in old) s q
    each q = ap (option_map (λ (w : Vec ℕ Global). w.items)) (put q) ∙ by (is_at (cid_cmp s.0) q) q

pub stored_nothing : (blocks : BTreeMap CidParts (Vec ℕ Global)) → blocks.entries ≡ [] → stored_in blocks ≡ nothing_stored
stored_nothing blocks none = λ i q. each q i
  where
    each : (q : CidParts) → stored_in blocks q ≡ None
    each q = ap (λ es. option_map (λ (w : Vec ℕ Global). w.items) (lookup (is_at (cid_cmp q)) es)) none

put_push : (stored : Stored) (ss : List Section) (s : Section) → put_sections stored (ss ++ s ∷ []) ≡ put_section (put_sections stored ss) s
put_push stored [] s = refl
put_push stored (t ∷ ss) s = put_push (put_section stored t) ss s

all_push : (ss : List Section) (s : Section) → AllByRecursion IsSection ss → IsSection s → AllByRecursion IsSection (ss ++ s ∷ [])
all_push [] s h p = (p, tt)
all_push (x ∷ ss) s h p = (h.0, all_push ss s h.1 p)

-- after some sections this is left, and their blocks are stored
pub record SoFar (b rest : List ℕ) (stored : Stored) : Type 0 where
  pub sections : List Section
  pub splits : SplitsSections b sections rest
  pub holds : stored ≡ stored_of sections

pub none_taken : (b : List ℕ) (stored : Stored) → stored ≡ nothing_stored → SoFar b b stored
none_taken b stored e = record { sections = []; splits = (tt, refl); holds = e }

pub one_taken : (b rest following : List ℕ) (old new : Stored) (s : Section) → SoFar b rest old → SplitsSection rest s following → new ≡ put_section old s → SoFar b following new
one_taken b rest following old new s h split put = record {
  sections = h.sections ++ s ∷ [];
  splits = (
    all_push h.sections s h.splits.0 split.0,
    h.splits.1 ∙ ap (λ r. flat_map section_bytes h.sections ++ r) split.1
        ∙ sym (append_assoc (flat_map section_bytes h.sections) (section_bytes s) following)
        ∙ ap (λ x. x ++ following) (sym (flat_push h.sections s)),
  );
  holds = put ∙ ap (λ st. put_section st s) h.holds ∙ sym (put_push nothing_stored h.sections s);
}

pub all_taken : (b rest : List ℕ) (stored : Stored) → SoFar b rest stored → rest ≡ [] → HoldsSections b stored
all_taken b rest stored h none = (h.sections, (h.splits.0, h.splits.1 ∙ ap (λ r. flat_map section_bytes h.sections ++ r) none), h.holds)

pub stopped : (b rest : List ℕ) (stored : Stored) (e : CarError Infallible) → SoFar b rest stored → StopsAt rest e → NoSections b e
stopped b rest stored e h stop = (h.sections, rest, h.splits, stop)

-- a section is refused for the bytes alone
pub fault_stops : (b : List ℕ) (e : CarError Infallible) → BeginsNoSection b → SectionFault e b → 0 < length b → StopsAt b e
fault_stops b faults.OutOfMemory none fault some = absurd fault
fault_stops b (faults.Read f) none fault some = (none, fault, some)
fault_stops b faults.Truncated none fault some = (none, fault, some)
fault_stops b faults.InvalidLength none fault some = (none, fault, some)
fault_stops b (faults.InvalidCid f) none fault some = (none, fault, some)
fault_stops b (faults.NoBlock f) none fault some = (none, fault, some)
fault_stops b faults.OtherHeader none fault some = (none, fault, some)
fault_stops b faults.InvalidOffset none fault some = (none, fault, some)

pub section_shorter : (b following : List ℕ) (s : Section) → SplitsSection b s following → length following < length b
section_shorter b following s h = omega (arith, section_some s h.0, ap length h.1, length-append (section_bytes s) following)

-- ---- the whole

pub whole : (b rest : List ℕ) (roots : List (List ℕ)) (stored : Stored) → SplitsHeader b roots rest → HoldsSections rest stored → HoldsBlocks b roots stored
whole b rest roots stored h k = (k.0, record { header = h.0; all = k.1.0; is = h.1 ∙ ap (λ r. header_bytes roots ++ r) (k.1.1 ∙ append-nil (flat_map section_bytes k.0)) }, k.2)

no_header : (b : List ℕ) → BeginsNoHeader b → IsNoCar b
no_header b none roots ss car = none roots (flat_map section_bytes ss) (car.header, car.is)

header_for : (b : List ℕ) (e : CarError Infallible) → HeaderRefused e b → IsNoCarFor b e
header_for b faults.OutOfMemory h = tt
header_for b (faults.Read f) h = no_header b h.0
header_for b faults.Truncated h = no_header b h.0
header_for b faults.InvalidLength h = no_header b h.0
header_for b (faults.InvalidCid f) h = no_header b h.0
header_for b (faults.NoBlock f) h = no_header b h.0
header_for b faults.OtherHeader h = no_header b h.0
header_for b faults.InvalidOffset h = no_header b h.0

pub header_refused : (b : List ℕ) (e : CarError Infallible) → HeaderRefused e b → BlocksRefused b e
header_refused b e h = (header_for b e h, inl h)

-- bytes with a header, and sections, and then bytes that begin with no section, are not a file
no_sections : (b rest left : List ℕ) (roots : List (List ℕ)) (ss : List Section) → SplitsHeader b roots rest → SplitsSections rest ss left → BeginsNoSection left → 0 < length left → IsNoCar b
no_sections b rest left roots ss h split none some others ts car =
    let same = header_unique roots others rest (flat_map section_bytes ts) h.0 car.header (sym h.1 ∙ car.is) in
    let w = others_after ss ts left split.0 car.all (sym split.1 ∙ same.1) in
    first w.0 w.1 w.2
  where
    first : (more : List Section) → AllByRecursion IsSection more → left ≡ flat_map section_bytes more → ⊥
    first [] a e = omega (arith, some, ap length e)
    first (s ∷ more) a e = none s (flat_map section_bytes more) (a.0, e)

sections_for : (b rest : List ℕ) (roots : List (List ℕ)) (e : CarError Infallible) → SplitsHeader b roots rest → NoSections rest e → IsNoCarFor b e
sections_for b rest roots faults.OutOfMemory h k = tt
sections_for b rest roots (faults.Read f) h k = no_sections b rest k.1 roots k.0 h k.2 k.3.0 k.3.2
sections_for b rest roots faults.Truncated h k = no_sections b rest k.1 roots k.0 h k.2 k.3.0 k.3.2
sections_for b rest roots faults.InvalidLength h k = no_sections b rest k.1 roots k.0 h k.2 k.3.0 k.3.2
sections_for b rest roots (faults.InvalidCid f) h k = no_sections b rest k.1 roots k.0 h k.2 k.3.0 k.3.2
sections_for b rest roots (faults.NoBlock f) h k = no_sections b rest k.1 roots k.0 h k.2 k.3.0 k.3.2
sections_for b rest roots faults.OtherHeader h k = no_sections b rest k.1 roots k.0 h k.2 k.3.0 k.3.2
sections_for b rest roots faults.InvalidOffset h k = no_sections b rest k.1 roots k.0 h k.2 k.3.0 k.3.2

pub sections_refused : (b rest : List ℕ) (roots : List (List ℕ)) (e : CarError Infallible) → SplitsHeader b roots rest → NoSections rest e → BlocksRefused b e
sections_refused b rest roots e h k = (sections_for b rest roots e h k, inr (roots, rest, h, k))
