-- A file proves a record without an error message, or there is only a message.
use Rattle.std.proofs.Common.{◌≡◌, ◌⊎◌, inl, inr, ℕ, List, [], ◌∷◌, Bool, true, false, sym, ◌∙◌, subst, Option}
use Rattle.ipld_tree.specs.Cid.{CidParts}
use Rattle.ipld_links.specs.Reaching.{Stored}
use Rattle.program_records.specs.Records.{IsToldAlone}
use Rattle.program_records.specs.Commits.{OfRoots, OfFile}
use Rattle.program_records.specs.Proofs.{IsRecordLost, IsProofGiven, IsProofSaid, IsProofAt}

abbrev Either : Bool → List ℕ → List ℕ → Type 0
Either well out told = ((well ≡ true) × (told ≡ [])) ⊎ ((well ≡ false) × (out ≡ []))

alone : (line : List ℕ) (well : Bool) (out told : List ℕ) → IsToldAlone line well out told → Either well out told
alone line well out told h = inr (h.0, h.1)

of_lost : (stored : Stored) (name : CidParts) (well : Bool) (out told : List ℕ) → IsRecordLost stored name well out told → Either well out told
of_lost stored name well out told (inl h) = alone _ well out told h.1
of_lost stored name well out told (inr h) = alone _ well out told h.2.1.2

of_given : (stored : Stored) (root : CidParts) (way : List CidParts) (found : Option CidParts) (well : Bool) (out told : List ℕ) → IsProofGiven stored root way found well out told → Either well out told
of_given stored root way found well out told (inl h) = inl (h.1, h.2)
of_given stored root way found well out told (inr h) = of_lost stored h.0 well out told h.2

of_said : (stored : Stored) (key : List ℕ) (root tree : CidParts) (well : Bool) (out told : List ℕ) → IsProofSaid stored key root tree well out told → Either well out told
of_said stored key root tree well out told (inl h) = of_given stored root h.0 h.1 well out told h.4
of_said stored key root tree well out told (inr h) = alone _ well out told h.3

of_commit : (key : List ℕ) (stored : Stored) (root : CidParts) (well : Bool) (out told : List ℕ) → IsProofAt key stored root well out told → Either well out told
of_commit key stored root well out told (inl h) = of_said stored key root h.0.data well out told h.2
of_commit key stored root well out told (inr h) = alone _ well out told h.1.3

of_roots : (key : List ℕ) (stored : Stored) (roots : List CidParts) (well : Bool) (out told : List ℕ) → OfRoots (IsProofAt key) stored roots well out told → Either well out told
of_roots key stored [] well out told h = alone _ well out told h
of_roots key stored (root ∷ others) well out told h = of_commit key stored root well out told h

of_file : (key b : List ℕ) (well : Bool) (out told : List ℕ) → OfFile (IsProofAt key) b well out told → Either well out told
of_file key b well out told (inl h) = of_roots key h.1 h.0 well out told h.3
of_file key b well out told (inr h) = alone _ well out told h.2

-- ---- which

none_told : (well : Bool) (out told : List ℕ) → Either well out told → well ≡ true → told ≡ []
none_told well out told (inl h) is = h.1
none_told well out told (inr h) is = let clash : false ≡ true = sym h.0 ∙ is in absurd (cc clash)

none_said : (well : Bool) (out told : List ℕ) → Either well out told → well ≡ false → out ≡ []
none_said well out told (inl h) is = let clash : true ≡ false = sym h.0 ∙ is in absurd (cc clash)
none_said well out told (inr h) is = h.1

pub file_given : (key b : List ℕ) (well : Bool) (out told : List ℕ) → OfFile (IsProofAt key) b well out told → well ≡ true → OfFile (IsProofAt key) b true out []
file_given key b well out told h is = subst (λ w. OfFile (IsProofAt key) b w out []) is
    (subst (OfFile (IsProofAt key) b well out) (none_told well out told (of_file key b well out told h) is) h)

pub line_told : (key b : List ℕ) (well : Bool) (out told : List ℕ) → OfFile (IsProofAt key) b well out told → well ≡ false → OfFile (IsProofAt key) b false [] told
line_told key b well out told h is = subst (λ w. OfFile (IsProofAt key) b w [] told) is
    (subst (λ o. OfFile (IsProofAt key) b well o told) (none_said well out told (of_file key b well out told h) is) h)
