-- A file that is read into a store, section by section.
use Rattle.std.proofs.Common.{◌≡◌, ◌⊎◌, inl, inr, ℕ, List, [], ◌∷◌, ◌++◌, length, refl, sym, subst, Option, Some, Ok, Err}
use Rattle.std.specs.List.{AllByRecursion}
use Rattle.dagcbor_heads.proofs.Taking.{stays_both}
use Rattle.serde_ipld_dagcbor.specs.Reading.{Reading, Stays}
use Rattle.files_car.specs.Car.{Section}
use Rattle.files_car.specs.Extents.{EndsThere}
use Rattle.ipld_links.specs.Sets.{Among}
use Rattle.ipld_links.specs.Sound.{IsSound}
use Rattle.files_car.specs.Sources.{CarRefuses, RefusesStart, LacksMemoryIf, FileLacks, TakesStart, TakesSectionBytes}
use Rattle.files_car.specs.Each.{SinkTakes, TakesEach, StopsEach, RunsEach}
use Rattle.files_car.specs.declared.error.CarError.{CarError}
use Rattle.files_car.specs.declared.each.ReadCarError.{ReadCarError}
use Rattle.files_car.specs.declared.each.ReadCarError.TheVariants as stop
use Rattle.dagcbor_blocks.specs.Blocks.{Held, held_blocks, block_at, HoldsAlso}
use Rattle.dagcbor_blocks.specs.Bytes.{PutsBytes, PutBytesRefused}
use Rattle.dagcbor_blocks.specs.Cars.{IsKeptTo, KeepsAll, FileUnread}
use Rattle.dagcbor_blocks.specs.declared.put_error.PutBlockError.{PutBlockError}
use Rattle.dagcbor_blocks.specs.declared.store.Blocks.{Blocks}
use Rattle.ipld_links.proofs.Members.{among_push, push_among}
use Rattle.files_car.proofs.Places.{IsPlace, place_begun, place_more, place_front, place_whole, place_end, ended, ends_same}
use Rattle.files_car.proofs.Taking.{each_along, lacks_alike}

-- ---- stored blocks

pub also_none : (blocks : Held) → HoldsAlso blocks [] blocks
also_none blocks q b = (inr, back)
  where
    back : Among {X = Section} (q, b) [] ⊎ (block_at q blocks ≡ Some b) → block_at q blocks ≡ Some b
    back (inl m) = absurd m
    back (inr e) = e

pub also_more : (old mid new these : Held) (s : Section) → HoldsAlso old these mid → HoldsAlso mid (s ∷ []) new → HoldsAlso old (these ++ s ∷ []) new
also_more old mid new these s h k q b = (λ e. there ((k q b).0 e), back)
  where
    before : block_at q mid ≡ Some b → Among {X = Section} (q, b) (these ++ s ∷ []) ⊎ (block_at q old ≡ Some b)
    before e = elim ((h q b).0 e) [ inl m ↦ inl (push_among (q, b) these s (inl m)) | inr o ↦ inr o ]

    there : Among {X = Section} (q, b) (s ∷ []) ⊎ (block_at q mid ≡ Some b) → Among {X = Section} (q, b) (these ++ s ∷ []) ⊎ (block_at q old ≡ Some b)
    there (inl (inl e)) = inl (push_among (q, b) these s (inr e))
    there (inl (inr m)) = absurd m
    there (inr e) = before e

    back : Among {X = Section} (q, b) (these ++ s ∷ []) ⊎ (block_at q old ≡ Some b) → block_at q new ≡ Some b
    back (inl m) = elim (among_push (q, b) these s m) [ inl n ↦ (k q b).1 (inr ((h q b).1 (inl n))) | inr e ↦ (k q b).1 (inl (inl e)) ]
    back (inr o) = (k q b).1 (inr ((h q b).1 (inr o)))

-- ---- how far a file was read

sound_push : (ss : List Section) (s : Section) → AllByRecursion IsSound ss → IsSound s → AllByRecursion IsSound (ss ++ s ∷ [])
sound_push [] s h p = (p, tt)
sound_push (x ∷ ss) s h p = (h.0, sound_push ss s h.1 p)

-- these sections were taken, and stored
pub record IsReadAt (roots : List (List ℕ)) (sections : List Section) (old : Reading) (before : Held) (extent : Option ℕ) (now : Reading) (after : Held) : Type 0 where
  pub known : (b : List ℕ) → old.left ≡ Some b → (rest : List ℕ) × (now.left ≡ Some rest) × IsPlace b roots sections extent rest
  pub same : Stays old now
  pub blocks : AllByRecursion IsSound sections
  pub holds : HoldsAlso before sections after

pub read_to : {roots : List (List ℕ)} {ss : List Section} {old : Reading} {before : Held} {extent : Option ℕ} {now : Reading} {after : Held} → IsReadAt roots ss old before extent now after → IsKeptTo roots ss old before extent now after
read_to {roots} {ss} {old} {before} {extent} {now} {after} h = record {
  known = λ b l. let k = h.known b l in (k.0, k.1, place_front b k.0 roots ss extent k.2);
  same = h.same;
  blocks = h.blocks;
  holds = h.holds;
}

pub read_begun : (roots : List (List ℕ)) (extent : Option ℕ) (old now : Reading) (blocks : Held) → TakesStart old roots extent now → IsReadAt roots [] old blocks extent now blocks
read_begun roots extent old now blocks h = record {
  known = λ b l. let w = h.takes.taken b l in (w.0, w.2, subst (λ x. IsPlace x roots [] extent w.0) (sym w.1) (place_begun h.front w.0 roots extent h.header h.start));
  same = h.takes.same;
  blocks = tt;
  holds = also_none blocks;
}

pub read_more : (roots : List (List ℕ)) (ss : List Section) (s : Section) (extent more : Option ℕ) (old mid now : Reading) (before held after : Held) → IsReadAt roots ss old before extent mid held → TakesSectionBytes extent mid s more now → IsSound s → HoldsAlso held (s ∷ []) after
    → IsReadAt roots (ss ++ s ∷ []) old before more now after
read_more roots ss s extent more old mid now before held after h k sound also = record {
  known = λ b l.
      let far = h.known b l in
      let w = k.1.takes.taken far.0 far.1 in
      (w.0, w.2, place_more b w.0 roots ss extent more s (subst (λ x. IsPlace b roots ss extent x) w.1 far.2) k.0 k.1.spends);
  same = stays_both h.same k.1.takes.same;
  blocks = sound_push ss s h.blocks sound;
  holds = also_more before held after ss s h.holds also;
}

pub read_whole : (roots : List (List ℕ)) (ss : List Section) (extent more : Option ℕ) (old mid new : Reading) (before held after : Held) → IsReadAt roots ss old before extent mid held → EndsThere extent mid more new → after ≡ held → KeepsAll roots ss old before new after
read_whole roots ss extent more old mid new before held after h end same = record {
  is_car = λ b l.
      let k = h.known b l in
      (place_whole b k.0 roots ss extent more mid new k.2 end k.1, (k.0, place_end b k.0 roots ss extent more mid new k.2 end k.1, (ended extent more mid new k.0 end k.1).2));
  same = stays_both h.same (ends_same extent more mid new end);
  blocks = h.blocks;
  holds = subst (λ blocks. HoldsAlso before ss blocks) (sym same) h.holds;
}

-- ---- the sections, one by one

-- the effect of taking a section on a store
abbrev Keeps : SinkTakes Blocks PutBlockError
Keeps s old result new = PutsBytes s (held_blocks old) result (held_blocks new)

pub read_along : (roots : List (List ℕ)) (ss : List Section) (extent rest : Option ℕ) (start source mid : Reading) (before : Held) (old new : Blocks) → IsReadAt roots [] start before extent source (held_blocks old) → TakesEach Keeps extent source old ss rest mid new
    → IsReadAt roots ss start before rest mid (held_blocks new)
read_along roots ss extent rest start source mid before old new =
    each_along Keeps (λ seen extent source it. IsReadAt roots seen start before extent source (held_blocks it))
    (λ seen s extent more source following from to h t k. read_more roots seen s extent more start source following before (held_blocks from) (held_blocks to) h t k.0 k.1)
    [] ss extent rest source mid old new

-- ---- refusals

pub not_begun : {E : Type 0} (T : Type 0) (e : CarError E) (old new : Reading) (blocks : Held) → CarRefuses RefusesStart old e new → LacksMemoryIf {T = T} (FileLacks old) (Err e) → FileUnread old blocks (stop.Header e) new blocks
not_begun T e old new blocks refused memory = inl ((refused, lacks_alike T (FileLacks old) e memory), refl)

module _ {E : Type 0} (roots : List (List ℕ)) (start : Reading) (before : Held) where
  stopped : (ss : List Section) (extent : Option ℕ) (mid : Reading) (it : Blocks) (e : ReadCarError E PutBlockError) (more : Option ℕ) (following : Reading) (new : Blocks) → IsReadAt roots ss start before extent mid (held_blocks it) → StopsEach Keeps (length ss) extent mid it e more following new → FileUnread start before e following (held_blocks new)
  stopped ss extent mid it (stop.Header e) more following new h k = absurd k
  stopped ss extent mid it (stop.Section n e) more following new h k = inr (roots, ss, extent, mid, subst (λ (b : Blocks). IsKeptTo roots ss start before extent mid (held_blocks b)) (sym k.2) (read_to h), inl (k.0, k.1))
  stopped ss extent mid it (stop.Block n name e) more following new h k =
      inr (roots, ss, extent, mid, subst (IsKeptTo roots ss start before extent mid) (sym k.4.0) (read_to h), inl (k.0, more, k.1, k.2, k.3, subst (λ held. PutBytesRefused k.0 held e) (sym k.4.0) k.4.1))

  pub read_stopped : (extent : Option ℕ) (source : Reading) (old : Blocks) (e : ReadCarError E PutBlockError) (more : Option ℕ) (following : Reading) (new : Blocks) → IsReadAt roots [] start before extent source (held_blocks old) → RunsEach Keeps extent source old (Err e) more following new → FileUnread start before e following (held_blocks new)
  read_stopped extent source old e more following new h (ss, rest, mid, it, t, inl k) = stopped ss rest mid it e more following new (read_along roots ss extent rest start source mid before old it h t) k
  read_stopped extent source old e more following new h (ss, rest, mid, it, t, inr k) =
      let at = read_along roots ss extent rest start source mid before old it h t in
      inr (roots, ss, rest, mid, subst (λ (b : Blocks). IsKeptTo roots ss start before rest mid (held_blocks b)) (sym k.1) (read_to at), inr (k.0, k.2))

pub read_all : (E : Type 0) (roots : List (List ℕ)) (start : Reading) (before : Held) (extent : Option ℕ) (source : Reading) (old : Blocks) (count : ℕ) (more : Option ℕ) (following : Reading) (new : Blocks) → IsReadAt roots [] start before extent source (held_blocks old) → RunsEach {E = E} Keeps extent source old (Ok count) more following new
    → (sections : List Section) × KeepsAll roots sections start before following (held_blocks new)
read_all E roots start before extent source old count more following new h k =
    let at = read_along roots k.0 extent k.1 start source k.2 before old new h k.3 in
    (k.0, read_whole roots k.0 k.1 more start k.2 following before (held_blocks new) (held_blocks new) at k.5 refl)
