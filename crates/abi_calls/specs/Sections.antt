-- What callers in other languages get for a block under a name, and for a section.
use Rattle.std.specs.Prelude.{◌≡◌, ◌⊎◌, ℕ, ◌+◌, ℤ, negsuc, List, [], ◌∷◌, length}
use Rattle.std.specs.declared.convert.Infallible.{Infallible}
use Rattle.ipld_tree.specs.Cid.{varint, CidParts, AreCidParts, cid_bytes, IsCid}
use Rattle.files_car.specs.Car.{Section, section_body, section_bytes}
use Rattle.files_car.specs.Splits.{SplitsSection, BeginsNoSection, SectionFault}
use Rattle.ipld_links.specs.Verdicts.{IsVerdict}
use Rattle.files_car.specs.declared.error.CarError.{CarError}
use Rattle.ipld_links.specs.declared.verdict.Verdict.{Verdict}
use Rattle.abi_calls.specs.Codes.{verdict_code, fault_code}

-- the number of the verdict on the block under the CID that the name's bytes are; or they are not a
-- CID, and -26 is returned
abbrev pub IsVerifyAnswer : List ℕ → List ℕ → ℤ → Type 0
IsVerifyAnswer name block code =
    ((c : CidParts) × (v : Verdict) × AreCidParts c × (name ≡ cid_bytes c) × IsVerdict (c, block) v
    × (code ≡ verdict_code v))
    ⊎ ((¬ IsCid name) × (code ≡ negsuc 25))

-- where the CID of a section begins, after the length; where it ends and the block begins; and
-- where the block ends, and with it the section
abbrev pub section_places : Section → List ℕ
section_places s = length (varint (length (section_body s)))
    ∷ (length (varint (length (section_body s))) + length (cid_bytes s.0))
    ∷ length (section_bytes s) ∷ []

-- the number of the verdict on the block of the section that begins the bytes, and its places; or
-- the number of a cause for which there is no section, and then nothing is changed
abbrev pub IsSectionAnswer : List ℕ → List ℕ → List ℕ → ℤ → Type 0
IsSectionAnswer b old new code =
    ((s : Section) × (rest : List ℕ) × (v : Verdict) × SplitsSection b s rest × IsVerdict s v
    × (code ≡ verdict_code v) × (new ≡ section_places s))
    ⊎ ((e : CarError Infallible) × BeginsNoSection b × SectionFault e b × (code ≡ fault_code e)
    × (new ≡ old))
