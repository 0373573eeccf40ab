-- What a CAR file that `prove` writes decides.
use Rattle.std.proofs.Common.{◌≡◌, inl, inr, ℕ, List, [], ◌∷◌, Bool, true, false, refl, sym, ap, ◌∙◌, subst, Option, None, Some, is_some, option_map, option_to_list}
use Rattle.ipld_tree.specs.Cid.{CidParts, cid_bytes}
use Rattle.files_car.specs.Car.{Section}
use Rattle.files_car.specs.Versions.{IsFile}
use Rattle.files_car.specs.Reached.{section_at, sections_at}
use Rattle.files_car.proofs.Starting.{file_of_car, file_unique}
use Rattle.ipld_links.specs.Sets.{Among}
use Rattle.ipld_links.specs.Reaching.{Stored, AreBytesOf, IsThere}
use Rattle.ipld_links.proofs.Members.{among_append, append_among}
use Rattle.ipld_paths.specs.Resolving.{AreOnTheWay, AreOnceEach}
use Rattle.ipld_paths.specs.Laws.{AgreeOn}
use Rattle.ipld_paths.proofs.Deciding.{ends_decided, items_decided}
use Rattle.program_parts.specs.Ends.{IsToldAt}
use Rattle.program_parts.specs.Raw.{IsRawOf}
use Rattle.program_parts.specs.Proof.{IsProofFile, IsProofOf}
use Rattle.program_parts.specs.Holding.{Stores}
use Rattle.program_parts.specs.declared.holding.Kept.TheVariants as which
use Rattle.program_parts.specs.Paths.{IsAtOf, IsAnswerOf, IsAnswerOfFile, ProofsDecide}
use Rattle.program_parts.specs.declared.at.Asked.{Asked}
use Rattle.program_parts.specs.declared.at.Asked.TheVariants as asks

-- ---- the sections of a proof

among_at : (stored : Stored) (name q : CidParts) (b : List ℕ) → Among (q, b) (section_at stored name) → stored q ≡ Some b
among_at stored name q b m = by (stored name) refl m
  where
    by : (o : Option (List ℕ)) → stored name ≡ o → Among {X = Section} (q, b) (option_to_list (option_map (λ x. (name, x)) o)) → stored q ≡ Some b
    by None e m = absurd m
    by (Some x) e (inl is) = ap stored (ap (λ (p : Section). p.0) is) ∙ e ∙ ap Some (sym (ap (λ (p : Section). p.1) is))
    by (Some x) e (inr m) = absurd m

-- each section is a stored block
among_sections : (stored : Stored) (names : List CidParts) (q : CidParts) (b : List ℕ) → Among (q, b) (sections_at stored names) → stored q ≡ Some b
among_sections stored [] q b m = absurd m
among_sections stored (name ∷ names) q b m = elim (among_append (q, b) (section_at stored name) (sections_at stored names) m) [
  | inl h ↦ among_at stored name q b h
  | inr h ↦ among_sections stored names q b h
]

at_among : (stored : Stored) (name : CidParts) (b : List ℕ) → stored name ≡ Some b → Among (name, b) (section_at stored name)
at_among stored name b is = subst (λ o. Among {X = Section} (name, b) (option_to_list (option_map (λ x. (name, x)) o))) (sym is) (inl refl)

-- a block stored under one of the names is a section
sections_among : (stored : Stored) (names : List CidParts) (q : CidParts) (b : List ℕ) → Among q names → stored q ≡ Some b → Among (q, b) (sections_at stored names)
sections_among stored [] q b m is = absurd m
sections_among stored (name ∷ names) q b (inl e) is = append_among (q, b) (section_at stored name) (sections_at stored names) (inl (subst (λ n. Among (q, b) (section_at stored n)) e (at_among stored q b is)))
sections_among stored (name ∷ names) q b (inr m) is = append_among (q, b) (section_at stored name) (sections_at stored names) (inr (sections_among stored names q b m is))

-- ---- what is read from it

-- the bytes under a name on the way are the same
same_stored : (stored others : Stored) (names : List CidParts) (q : CidParts) → Stores which.All (sections_at stored names) others → Among q names → others q ≡ stored q
same_stored stored others names q o m = by (others q) (stored q) refl refl
  where
    none_there : others q ≡ None → IsThere others q → ⊥
    none_there none is = let clash : true ≡ false = sym is ∙ ap is_some none in absurd (cc clash)

    by : (x y : Option (List ℕ)) → others q ≡ x → stored q ≡ y → others q ≡ stored q
    by None None e f = e ∙ sym f
    by (Some b) y e f = e ∙ sym (among_sections stored names q b (o.some q b e).0)
    by None (Some b) e f = absurd (none_there e (o.all (q, b) (sections_among stored names q b m f) tt))

under : (stored others : Stored) (q : CidParts) (b : List ℕ) → others q ≡ stored q → AreBytesOf stored q b → AreBytesOf others q b
under stored others q b e (inl h) = inl (e ∙ h)
under stored others q b e (inr h) = inr (e ∙ h.0, h.1, h.2)

agree : (stored others : Stored) (way once : List CidParts) → Stores which.All (sections_at stored once) others → AreOnceEach way once → AgreeOn way stored others
agree stored others way once o each q m b =
    let same = same_stored stored others once q o ((each.lists.all q).1 m) in
    (under stored others q b same, under others stored q b (sym same))

-- ---- the answer

module _ (stored others : Stored) (root : CidParts) (path : List (List ℕ)) (way : List CidParts) (passed : AreOnTheWay stored root path way) (alike : AgreeOn way stored others) where
  pub told_here : (well : Bool) (out told : List ℕ) → IsToldAt others root path well out told → IsToldAt stored root path well out told
  told_here well out told h = (h.0, (ends_decided stored others root path way passed alike h.0).1 h.1, h.2, h.3, h.4, h.5)

  pub data_here : (well : Bool) (out told : List ℕ) → IsAtOf others root path well out told → IsAtOf stored root path well out told
  data_here well out told (inl h) = inl (h.0, h.1, (items_decided stored others root path way passed alike h.0 (Some h.1)).1 h.2, h.3, h.4, h.5)
  data_here well out told (inr h) = inr (told_here well out told h)

  pub bytes_here : (well : Bool) (out told : List ℕ) → IsRawOf others root path well out told → IsRawOf stored root path well out told
  bytes_here well out told (inl h) = inl (h.0, h.1, (items_decided stored others root path way passed alike h.0 (Some h.1)).1 h.2, h.3, h.4, h.5)
  bytes_here well out told (inr h) = inr (told_here well out told h)

-- the CAR file of a path that was decided
written : (stored : Stored) (root : CidParts) (path : List (List ℕ)) (out told : List ℕ) → IsProofOf stored root path true out told → IsProofFile stored root path out
written stored root path out told h = elim h.2 [ inl k ↦ k.1 | inr k ↦ absurd (let clash : true ≡ false = k.1 in cc clash) ]

-- an answer over the sections of a proof is one over the whole file
abbrev Passes : Asked → Type 0
Passes asked = (stored others : Stored) (root : CidParts) (path : List (List ℕ)) (way : List CidParts) → AreOnTheWay stored root path way → AgreeOn way stored others → (well : Bool) (out told : List ℕ) → IsAnswerOf asked root path others well out told → IsAnswerOf asked root path stored well out told

decided : (asked : Asked) → Passes asked → ProofsDecide asked
decided asked passes root path b proof told (inr none) well out heard h = absurd (let clash : true ≡ false = none.0 in cc clash)
decided asked passes root path b proof told (inl k) well out heard h = by h
  where
    file : IsProofFile k.3.0 root path proof
    file = written k.3.0 root path proof told k.3.2

    is_file : IsFile proof (cid_bytes root ∷ []) (sections_at k.3.0 file.once)
    is_file = file_of_car proof (cid_bytes root ∷ []) (sections_at k.3.0 file.once) file.file

    by : IsAnswerOfFile asked root path proof well out heard → IsAnswerOfFile asked root path b well out heard
    by (inr none) = absurd (none.2.1.0 (cid_bytes root ∷ []) (sections_at k.3.0 file.once) is_file)
    by (inl l) =
        let same = (file_unique proof l.0 (cid_bytes root ∷ []) l.1 (sections_at k.3.0 file.once) l.2 is_file).1 in
        let alike = agree k.3.0 l.3.0 file.way file.once (subst (λ ss. Stores which.All ss l.3.0) same l.3.1) file.each in
        inl (k.0, k.1, k.2, (k.3.0, k.3.1, passes k.3.0 l.3.0 root path file.way file.passed alike well out heard l.3.2))

pub data_decided : ProofsDecide asks.Data
data_decided = decided asks.Data data_here

pub bytes_decided : ProofsDecide asks.Bytes
bytes_decided = decided asks.Bytes bytes_here
