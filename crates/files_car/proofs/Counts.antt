-- A length and its bytes at the front, and a section there.
use Rattle.std.proofs.Common.{◌≡◌, inl, inr, ℕ, List, [], ◌++◌, length, length-append, sym, ap, ◌∙◌, arith, append_assoc, append-nil}
use Rattle.ipld_tree.specs.Cid.{varint}
use Rattle.ipld_tree.specs.declared.cid_error.CidError.{CidError}
use Rattle.ipld_tree.proofs.Cids.{varint_unique}
use Rattle.files_car.specs.Car.{Section, section_body}
use Rattle.files_car.specs.Splits.{SplitsCounted, CountFault, BeginsNoCid, SplitsSection, BeginsNoSection, SectionFault}
use Rattle.files_car.specs.declared.error.CarError.{CarError}
use Rattle.files_car.specs.declared.error.CarError.TheVariants.{Truncated, InvalidLength, InvalidCid}
use Rattle.files_car.proofs.Cars.{counted_unique}

-- ---- a length and its bytes

begins : (b inner rest : List ℕ) → SplitsCounted b inner rest → b ≡ varint (length inner) ++ (inner ++ rest)
begins b inner rest h = h.1 ∙ append_assoc (varint (length inner)) inner rest

-- if there is this fault, no length with its bytes is at the front
pub no_counted : {E : Type 0} (e : CarError E) (b inner rest : List ℕ) → CountFault e b → SplitsCounted b inner rest → ⊥
no_counted Truncated b inner rest (inl cut) h =
    let whole : varint (length inner) ++ ((inner ++ rest) ++ cut.1) ≡ varint cut.0 ++ [] =
    sym (append_assoc (varint (length inner)) (inner ++ rest) cut.1) ∙ ap (λ x. x ++ cut.1) (sym (begins b inner rest h)) ∙ cut.4 ∙ sym (append-nil (varint cut.0)) in
    let none = (varint_unique (length inner) cut.0 ((inner ++ rest) ++ cut.1) [] h.0 cut.2 whole).1 in
    omega (arith, ap length none, length-append (inner ++ rest) cut.1, cut.3)
no_counted Truncated b inner rest (inr short) h =
    let same = varint_unique (length inner) short.0 (inner ++ rest) short.1 h.0 short.2 (sym (begins b inner rest h) ∙ short.4) in
    omega (arith, same.0, ap length same.1, length-append inner rest, short.3)
no_counted InvalidLength b inner rest none h = none (length inner) [] (inner ++ rest) h.0 (append-nil b ∙ begins b inner rest h)
no_counted _ b inner rest none h = none

-- ---- a section

section_counted : (b : List ℕ) (s : Section) (rest : List ℕ) → SplitsSection b s rest → SplitsCounted b (section_body s) rest
section_counted b s rest h = (h.0.1, h.1)

at_count : {E : Type 0} (e : CarError E) (b : List ℕ) → CountFault e b → SectionFault e b
at_count Truncated b h = h
at_count InvalidLength b h = h
at_count (InvalidCid f) b h = absurd h
at_count _ b h = h

pub no_section_counted : {E : Type 0} (e : CarError E) (b : List ℕ) → CountFault e b → BeginsNoSection b × SectionFault e b
no_section_counted e b f = (λ s rest h. no_counted e b (section_body s) rest f (section_counted b s rest h), at_count e b f)

pub no_section_named : (E : Type 0) (f : CidError) (b body rest : List ℕ) → SplitsCounted b body rest → BeginsNoCid f body → BeginsNoSection b × SectionFault {E = E} (InvalidCid f) b
no_section_named E f b body rest h none = (λ s more k. by s more k, (body, rest, h, none.1))
  where
    by : (s : Section) (more : List ℕ) → SplitsSection b s more → ⊥
    by s more k =
        let same = counted_unique body (section_body s) rest more h.0 k.0.1 (sym h.1 ∙ k.1) in
        none.0 s.0 s.1 (k.0.0, same.0)
