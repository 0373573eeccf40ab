-- What callers in other languages get on their way through a CAR file: what comes next in the bytes
-- at hand.
use Rattle.std.specs.Prelude.{◌≡◌, ◌≢◌, ◌⊎◌, ℕ, ◌+◌, ◌-◌, ◌/◌, ◌%◌, ◌^◌, ◌<◌, ◌≤◌, nat_eq, nat_lt, Bool, true, false, not, ◌&&◌, IsTrue, ℤ, pos, negsuc, List, [], ◌∷◌, length, take, drop}
use Rattle.std.specs.declared.convert.Infallible.{Infallible}
use Rattle.ipld_tree.specs.Cid.{varint}
use Rattle.ipld_tree.specs.Spelling.{spelling}
use Rattle.ipld_links.specs.Verdicts.{IsVerdict}
use Rattle.ipld_links.specs.declared.verdict.Verdict.{Verdict}
use Rattle.files_car.specs.Car.{Section, section_bytes, header_tree, header_bytes}
use Rattle.files_car.specs.Splits.{SplitsSection, BeginsNoSection, SectionFault, SplitsHeader, BeginsNoHeader, HeaderFault}
use Rattle.files_car.specs.Versions.{begin_of, length_of, HasSpan, MayBeVersion2, SpanRefused}
use Rattle.files_car.specs.declared.error.CarError.{CarError}
use Rattle.files_car.specs.declared.error.CarError.TheVariants.{Truncated}
use Rattle.abi_calls.specs.Codes.{verdict_code, fault_code, header_code}
use Rattle.abi_calls.specs.Sections.{section_places}
use Rattle.abi_calls.specs.declared.walk.CarWalk.{CarWalk}

-- ---- what the caller says

-- no bytes of the file follow those at hand
abbrev pub is_last : ℕ → Bool
is_last how = nat_eq (how % 2) 1

-- a section is only found, and its block not judged
abbrev pub is_unjudged : ℕ → Bool
is_unjudged how = nat_eq (how / 2 % 2) 1

-- ---- what is at hand

-- the bytes at hand that belong to the file of version 1
abbrev pub shown : CarWalk → List ℕ → List ℕ
shown w b = take (w.end - w.place) b

-- more bytes of that file may follow those at hand
abbrev pub may_grow : Bool → CarWalk → List ℕ → Bool
may_grow last w b = not last && nat_lt (length b) (w.end - w.place)

-- the number of a cause; but 10, for more bytes, if these end too early and more may follow
abbrev pub code_or_more : {E : Type 0} → CarError E → Bool → ℤ → ℤ
code_or_more Truncated true code = pos 10
code_or_more e more code = code

-- ---- the header

-- after n bytes: where the header of these roots begins, where its block does, and where it ends
abbrev pub header_places : ℕ → List (List ℕ) → List ℕ
header_places n roots = n ∷ (n + length (varint (length (spelling (header_tree roots)))))
    ∷ (n + length (header_bytes roots)) ∷ []

-- the walk after the header of these roots, where sections come next
abbrev pub after_header : CarWalk → List (List ℕ) → CarWalk
after_header w roots = record w { place = w.place + length (header_bytes roots); step = 1 }

-- The header comes first, after n bytes that were passed: 11. Or there is none, for this cause, and
-- then nothing is changed.
abbrev pub IsHeaderStep : Bool → ℕ → CarWalk → List ℕ → List ℕ → CarWalk → List ℕ → ℤ → Type 0
IsHeaderStep last n w b old after new code =
    ((roots : List (List ℕ)) × (rest : List ℕ) × SplitsHeader (shown w b) roots rest
    × (code ≡ pos 11) × (after ≡ after_header w roots) × (new ≡ header_places n roots))
    ⊎ ((e : CarError Infallible) × BeginsNoHeader (shown w b) × HeaderFault e (shown w b)
    × (code ≡ code_or_more e (may_grow last w b) (header_code e)) × (after ≡ w) × (new ≡ old))

-- ---- a section

-- the number of the verdict on the section's block; or 13, if it is not judged
abbrev pub IsSectionCode : Bool → Section → ℤ → Type 0
IsSectionCode true s code = code ≡ pos 13
IsSectionCode false s code = (v : Verdict) × IsVerdict s v × (code ≡ verdict_code v)

-- the sections are at their end: where the file of version 1 ends; or, unless it is in a file of
-- version 2, where no bytes are at hand, and none follow
abbrev pub IsAtEnd : Bool → CarWalk → List ℕ → Type 0
IsAtEnd last w b = (w.end ≤ w.place) ⊎ ((w.version ≢ 2) × (b ≡ []) × IsTrue last)

-- The sections are at their end: 12. Or a section comes first, and the walk goes on to its end. Or
-- there is none, for this cause. Only in the second case is anything changed.
abbrev pub IsSectionStep : Bool → Bool → CarWalk → List ℕ → List ℕ → CarWalk → List ℕ → ℤ → Type 0
IsSectionStep last unjudged w b old after new code =
    (IsAtEnd last w b × (code ≡ pos 12) × (after ≡ w) × (new ≡ old))
    ⊎ (((s : Section) × (rest : List ℕ) × SplitsSection (shown w b) s rest × IsSectionCode unjudged s code
    × (after ≡ record w { place = w.place + length (section_bytes s) }) × (new ≡ section_places s))
    ⊎ ((e : CarError Infallible) × (¬ IsAtEnd last w b) × BeginsNoSection (shown w b)
    × SectionFault e (shown w b) × (code ≡ code_or_more e (may_grow last w b) (fault_code e))
    × (after ≡ w) × (new ≡ old)))

-- ---- the front of the file

-- the walk, now through a file of version 1
abbrev pub of_version_1 : CarWalk → CarWalk
of_version_1 w = record w { end = 2 ^ 64 - 1; version = 1 }

-- the walk, now through a file of version 2 that begins with these bytes, at the file of version 1
-- in it
abbrev pub of_version_2 : CarWalk → List ℕ → CarWalk
of_version_2 w b = record w {
  place = w.place + begin_of b;
  end = w.place + (begin_of b + length_of b);
  version = 2;
}

-- the header of version 2 is whole, and the file of version 1 ends below 2 ^ 64, counted from where
-- the walk began
abbrev pub HasPart : CarWalk → List ℕ → Type 0
HasPart w b = HasSpan b × (w.place + (begin_of b + length_of b) < 2 ^ 64)

-- The bytes do not begin a file of version 2, and the header comes first; or they do, and it comes
-- where they say. Or they do not tell: more are needed, or their offsets are invalid, -35, and then
-- nothing is changed.
abbrev pub IsFrontStep : Bool → CarWalk → List ℕ → List ℕ → CarWalk → List ℕ → ℤ → Type 0
IsFrontStep last w b old after new code =
    ((¬ MayBeVersion2 b) × IsHeaderStep last 0 (of_version_1 w) b old after new code)
    ⊎ ((HasPart w b × IsHeaderStep last (begin_of b) (of_version_2 w b) (drop (begin_of b) b) old after new code)
    ⊎ ((HasSpan b × (¬ HasPart w b) × (code ≡ negsuc 34) × (after ≡ w) × (new ≡ old))
    ⊎ ((e : CarError Infallible) × SpanRefused e b × (code ≡ code_or_more e (not last) (fault_code e))
    × (after ≡ w) × (new ≡ old))))

-- ---- what comes next

-- the answer of a call over the bytes at hand: the walk after it, the places, and the number
abbrev pub IsNextAnswer : ℕ → CarWalk → List ℕ → List ℕ → CarWalk → List ℕ → ℤ → Type 0
IsNextAnswer how w b old after new code =
    ((w.step ≢ 0) × IsSectionStep (is_last how) (is_unjudged how) w b old after new code)
    ⊎ (((w.step ≡ 0) × (w.version ≢ 0) × IsHeaderStep (is_last how) 0 w b old after new code)
    ⊎ ((w.step ≡ 0) × (w.version ≡ 0) × IsFrontStep (is_last how) w b old after new code))
