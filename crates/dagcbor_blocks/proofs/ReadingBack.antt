-- A file that one store writes is read by an empty one.
use Rattle.std.proofs.Common.{◌≡◌, inl, inr, ℕ, List, [], ◌∷◌, ◌++◌, length, length-append, refl, sym, ap, ◌∙◌, subst, arith, append_assoc, ◌↔◌, Option, None, Some, Ok, Err, flat_map}
use Rattle.std.specs.List.{AllByRecursion}
use Rattle.std.specs.Map.{keys_of}
use Rattle.std.specs.List.Sorted.{IsStrictlySortedBy}
use Rattle.std.specs.declared.convert.Infallible.{Infallible}
use Rattle.std.proofs.Math.Logic.{∥∥₁_map}
use Rattle.std.proofs.lemmas.Grind.{not_there}
use Rattle.serde_ipld_dagcbor.specs.Reading.{Reading}
use Rattle.serde_ipld_dagcbor.specs.Cid.{CidParts, cid_cmp}
use Rattle.serde_ipld_dagcbor.specs.Walks.{forms}
use Rattle.files_car.specs.Car.{Section, header_bytes, section_bytes, IsSection, IsCar}
use Rattle.files_car.specs.Extents.{bytes_within, wanting}
use Rattle.files_car.specs.Laws.{FilesAreUnique}
use Rattle.ipld_links.specs.Sets.{Among}
use Rattle.files_car.specs.Sources.{CarRefuses, RefusesStart, RefusesNext}
use Rattle.files_car.specs.declared.error.CarError.{CarError}
use Rattle.files_car.specs.declared.error.CarError.TheVariants as car
use Rattle.files_car.proofs.Cars.{section_unique, section_some, header_unique}
use Rattle.files_car.proofs.Places.{others_after, no_file}
use Rattle.files_car.proofs.Spending.{within_after}
use Rattle.files_car.proofs.Starting.{holds_one, car_holds, file_of_car}
use Rattle.dagcbor_blocks.specs.Blocks.{Held, block_at, HoldsAlso, HoldsOther, FindsMembers}
use Rattle.ipld_links.specs.Sound.{IsSound}
use Rattle.ipld_links.proofs.Sounding.{never_unsound}
use Rattle.dagcbor_blocks.specs.Sound.{IsSoundEntry}
use Rattle.dagcbor_blocks.specs.Bytes.{PutBytesRefused}
use Rattle.dagcbor_blocks.specs.Cars.{KeepsNoneNext, NoFileBegins, FileUnread}
use Rattle.dagcbor_blocks.specs.Laws.{IsFilledBack, WrittenThenFilled}
use Rattle.dagcbor_blocks.specs.declared.put_error.PutBlockError.{PutBlockError}
use Rattle.dagcbor_blocks.specs.declared.put_error.PutBlockError.TheVariants.{Unsound, Collision, OutOfMemory}
use Rattle.files_car.specs.declared.each.ReadCarError.{ReadCarError}
use Rattle.files_car.specs.declared.each.ReadCarError.TheVariants as stop
use Rattle.dagcbor_blocks.proofs.Keeping.{BlockEntry, shown}
use Rattle.ipld_links.proofs.Members.{map_among}
use Rattle.dagcbor_blocks.proofs.Members.{all_among, finds_members}

-- ---- the same blocks

-- options of which the same is known are the same
same_option : {X : Type 0} (x y : Option X) → ((v : X) → (x ≡ Some v) ↔ (y ≡ Some v)) → x ≡ y
same_option None None h = refl
same_option None (Some v) h = let clash = (h v).1 refl in absurd (cc clash)
same_option (Some v) None h = let clash = (h v).0 refl in absurd (cc clash)
same_option (Some v) (Some w) h = sym ((h v).0 refl)

-- a store that was empty has only blocks of the sections
only_these : (sections after : Held) → HoldsAlso [] sections after → (q : CidParts) (c : List ℕ) → block_at q after ≡ Some c → Among {X = Section} (q, c) sections
only_these sections after h q c e = elim ((h q c).0 e) [ inl m ↦ m | inr clash ↦ absurd (cc clash) ]

pub same_held : (blocks after : Held) → FindsMembers blocks → HoldsAlso [] blocks after → (name : CidParts) → block_at name after ≡ block_at name blocks
same_held blocks after finds h name = same_option (block_at name after) (block_at name blocks) (λ c. (λ e. (finds name c).1 (only_these blocks after h name c e), λ e. (h name c).1 (inl ((finds name c).0 e))))

-- ---- no refusal of a section

among_left : {X : Type 0} (x : X) (xs ys : List X) → Among x xs → Among x (xs ++ ys)
among_left x (z ∷ zs) ys (inl e) = inl e
among_left x (z ∷ zs) ys (inr h) = inr (among_left x zs ys h)
among_left x [] ys h = absurd h

among_mid : {X : Type 0} (xs : List X) (x : X) (ys : List X) → Among x (xs ++ x ∷ ys)
among_mid [] x ys = inl refl
among_mid (z ∷ zs) x ys = inr (among_mid zs x ys)

-- a stored block is sound under its name
held_named : (es : List BlockEntry) (s : Section) → AllByRecursion IsSoundEntry es → Among s (shown es) → IsSound s
held_named es s sound m =
    let e = map_among (λ (e : BlockEntry). (e.0, e.1.items)) s es m in
    let k = all_among IsSoundEntry es e.0 sound e.1 in
    subst IsSound (sym e.2) k.sound

-- bytes of one name in a store are the same
no_other : (blocks ss after : Held) (s : Section) → FindsMembers blocks → Among s blocks → ((e : Section) → Among e ss → Among e blocks) → HoldsAlso [] ss after → HoldsOther s.0 s.1 after → ⊥
no_other blocks ss after s finds m within h other =
    let found = (finds s.0 other.0).1 (within (s.0, other.0) (only_these ss after h s.0 other.0 other.1)) in
    let own = (finds s.0 s.1).1 m in
    let same : Some other.0 ≡ Some s.1 = sym found ∙ own in
    other.2 (cc same)

module _ (roots : List (List ℕ)) (blocks ss after : Held) (s : Section) (finds : FindsMembers blocks) (m : Among s blocks) (within : (e : Section) → Among e ss → Among e blocks) (h : HoldsAlso [] ss after) where
  -- a section that is held is not refused
  not_refused : IsSound s → (e : PutBlockError) → PutBytesRefused s after e → (e ≡ OutOfMemory → ⊥) → ⊥
  not_refused sound (Unsound e) r n = never_unsound s e sound r
  not_refused sound Collision r n = no_other blocks ss after s finds m within h r.1
  not_refused sound OutOfMemory r n = n refl

  pub for_memory : ∥ IsSound s ∥₁ → (n : ℕ) (name : CidParts) (e : PutBlockError) → PutBytesRefused s after e → IsFilledBack roots blocks (Err (stop.Block n name e)) after
  for_memory sound n name OutOfMemory r = tt
  for_memory sound n name e r = absurd (not_there sound (λ k. not_refused k e r (λ same. cc same)))

-- ---- no refusal of the file

-- if no cause can hold, a refusal is out of memory
begins_for_memory : (old new : Reading) (b : List ℕ) (roots : List (List ℕ)) (blocks after : Held) → old.left ≡ Some b → ((c : CarError Infallible) → RefusesStart c b → ⊥) → (c : CarError Infallible) → CarRefuses RefusesStart old c new → IsFilledBack roots blocks (Err (stop.Header c)) after
begins_for_memory old new b roots blocks after l never (car.Read f) r = elim f [ ]
begins_for_memory old new b roots blocks after l never car.OutOfMemory r = tt
begins_for_memory old new b roots blocks after l never c r = absurd (never c (r.1 b l))

goes_on_for_memory : (extent : Option ℕ) (mid new : Reading) (rest : List ℕ) (roots : List (List ℕ)) (blocks after : Held) (n : ℕ) → mid.left ≡ Some rest → ((c : CarError Infallible) → RefusesNext extent c rest → ⊥) → (c : CarError Infallible) → CarRefuses (RefusesNext extent) mid c new → IsFilledBack roots blocks (Err (stop.Section n c)) after
goes_on_for_memory extent mid new rest roots blocks after n l never (car.Read f) r = elim f [ ]
goes_on_for_memory extent mid new rest roots blocks after n l never car.OutOfMemory r = tt
goes_on_for_memory extent mid new rest roots blocks after n l never c r = absurd (never c (r.1 rest l))

-- if sections are left, the next is not refused
never_no_section : (rest : List ℕ) (extent : Option ℕ) (more : List Section) → AllByRecursion IsSection more → wanting extent rest ≡ 0 → bytes_within extent rest ≡ flat_map section_bytes more → (c : CarError Infallible) → RefusesNext extent c rest → ⊥
never_no_section rest extent [] all none is c r = omega (arith, r.0, none, ap length is)
never_no_section rest extent (s ∷ more) all none is c r = r.1 s (flat_map section_bytes more) (all.0, is)

-- a section at the front is the next one
next_among : (rest following : List ℕ) (ss more blocks : List Section) (s : Section) → AllByRecursion IsSection more → rest ≡ flat_map section_bytes more → blocks ≡ ss ++ more → IsSection s → rest ≡ section_bytes s ++ following → Among s blocks
next_among rest following ss [] blocks s all is whole own first = absurd (omega (arith, section_some s own, ap length (sym is ∙ first), length-append (section_bytes s) following))
next_among rest following ss (t ∷ more) blocks s all is whole own first =
    let same = section_unique s t following (flat_map section_bytes more) own all.0 (sym first ∙ is) in
    subst (Among s) (sym whole) (subst (λ x. Among s (ss ++ x ∷ more)) same.0 (among_mid ss s more))

module _ (es : List BlockEntry) (finds : FindsMembers (shown es)) (sound : ∥ AllByRecursion IsSoundEntry es ∥₁) (b : List ℕ) (roots : List (List ℕ)) (old new : Reading) (after : Held) (file : IsCar b roots (shown es)) (l : old.left ≡ Some b) where
  stops_for_memory : (others : List (List ℕ)) (ss more : List Section) (extent : Option ℕ) (mid : Reading) (rest : List ℕ) (e : ReadCarError Infallible PutBlockError) → HoldsAlso [] ss after → AllByRecursion IsSection more → wanting extent rest ≡ 0 → bytes_within extent rest ≡ flat_map section_bytes more → shown es ≡ ss ++ more → mid.left ≡ Some rest
      → KeepsNoneNext (length ss) extent mid after e new → IsFilledBack roots (shown es) (Err e) after
  stops_for_memory others ss more extent mid rest (stop.Header c) holds all none is whole left f = absurd f
  stops_for_memory others ss more extent mid rest (stop.Section n c) holds all none is whole left f = goes_on_for_memory extent mid new rest roots (shown es) after n left (never_no_section rest extent more all none is) c f.1.0
  stops_for_memory others ss more extent mid rest (stop.Block n name e) holds all none is whole left t =
      let w = t.3.1.takes.taken rest left in
      let first = ap (bytes_within extent) w.1 ∙ within_after extent t.1 (section_bytes t.0) w.0 t.3.1.spends in
      let m = next_among (bytes_within extent rest) (bytes_within t.1 w.0) ss more (shown es) t.0 all is whole t.3.0 first in
      for_memory roots (shown es) ss after t.0 finds m (λ x n. subst (Among x) (sym whole) (among_left x ss more n)) holds (∥∥₁_map sound (λ k. held_named es t.0 k m)) n name e t.5

  begun_for_memory : (e : ReadCarError Infallible PutBlockError) → NoFileBegins old e new → IsFilledBack roots (shown es) (Err e) after
  begun_for_memory (stop.Header c) h = begins_for_memory old new b roots (shown es) after l (λ c r. no_file c b r roots (shown es) (file_of_car b roots (shown es) file)) c h.0
  begun_for_memory e h = absurd h

  refused_for_memory : (e : ReadCarError Infallible PutBlockError) → FileUnread old [] e new after → IsFilledBack roots (shown es) (Err e) after
  refused_for_memory e (inl h) = begun_for_memory e h.0
  refused_for_memory e (inr (others, ss, extent, mid, to, inr many)) = subst (λ (x : ReadCarError Infallible PutBlockError). IsFilledBack roots (shown es) (Err x) after) (sym many.1.0) tt
  refused_for_memory e (inr (others, ss, extent, mid, to, inl stops)) =
      let k = to.known b l in
      let one = holds_one b k.2.0 b (wanting extent k.0) 0 k.2.1 (car_holds b roots (shown es) file) in
      let front = k.2.2 in
      let bytes = sym (append_assoc (header_bytes others) (flat_map section_bytes ss) (bytes_within extent k.0)) ∙ sym front.is ∙ one.0 ∙ file.is in
      let same = header_unique others roots (flat_map section_bytes ss ++ bytes_within extent k.0) (flat_map section_bytes (shown es)) front.header file.header bytes in
      let o = others_after ss (shown es) (bytes_within extent k.0) front.all file.all same.1 in
      stops_for_memory others ss o.0 extent mid k.0 e to.holds o.1 one.1 o.2 o.3 k.1 stops

pub reads_back : FilesAreUnique → (es : List BlockEntry) → IsStrictlySortedBy cid_cmp (keys_of es) → ∥ AllByRecursion IsSoundEntry es ∥₁ → WrittenThenFilled (shown es)
reads_back law es sorted sound b roots old new after (Ok v) file l h =
    let same = law b (forms v.items) roots h.0 (shown es) (h.1.is_car b l).0 (file_of_car b roots (shown es) file) in
    (same.0, same_held (shown es) after (finds_members es sorted) (subst (λ ss. HoldsAlso [] ss after) same.1 h.1.holds))
reads_back law es sorted sound b roots old new after (Err e) file l h = refused_for_memory es (finds_members es sorted) sound b roots old new after file l e h
