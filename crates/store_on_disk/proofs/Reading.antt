-- A CAR file that is read into a store, section by section.
use Rattle.std.proofs.Common.{◌≡◌, ◌⊎◌, inl, inr, ℕ, List, [], ◌∷◌, ◌++◌, length, append_assoc, append-nil, refl, sym, ap, ◌∙◌, subst, arith, Option, Some, Result, Ok, Err}
use Rattle.std.specs.List.{AllByRecursion}
use Rattle.dagcbor_heads.proofs.Taking.{stays_both}
use Rattle.dagcbor_heads.specs.Reading.{Reading, Stays}
use Rattle.sqlite_trees.specs.Tree.{Trees}
use Rattle.sqlite_trees.specs.View.{IsClean}
use Rattle.sqlite_trees.specs.declared.store.Store.{Ghosts}
use Rattle.ipld_tree.specs.Cid.{CidParts}
use Rattle.dagcbor_items.specs.Walks.{forms}
use Rattle.files_car.specs.Car.{Section}
use Rattle.files_car.specs.Extents.{EndsThere}
use Rattle.files_car.specs.Sources.{CarRefuses, LacksMemoryIf, TakesStart, TakesSectionBytes}
use Rattle.files_car.specs.declared.error.CarError.{CarError}
use Rattle.files_car.specs.declared.error.CarError.TheVariants.{OutOfMemory}
use Rattle.files_car.proofs.Places.{IsPlace, place_begun, place_more, place_front, place_whole, place_end, ended, ends_same}
use Rattle.ipld_links.specs.Sound.{IsSound}
use Rattle.store_on_disk.specs.Stored.{IsUndone, FailsByStore}
use Rattle.store_on_disk.specs.Roots.{GainsRoots, IsAnyTooLong, RootsRefused}
use Rattle.store_on_disk.specs.declared.error.StoreRefusal.{StoreRefusal}
use Rattle.store_on_disk.specs.declared.error.StoreRefusal.TheVariants as kind
use Rattle.store_on_disk.specs.Cars.{TellsOfFile, FileRefused, IsReadTo, IsFileRead, AddsSections, NextRefused, AddRefused, ReadRefused, StopsAt, RootsNotKept, HoldsSections, MayLeave, TellsOfRun, TakesBlock, of_block, of_refusal}
use Rattle.store_on_disk.specs.declared.car_error.ReadCarError.{ReadCarError}
use Rattle.store_on_disk.specs.declared.car_error.ReadCarError.TheVariants as own
use Rattle.store_rows.specs.Ends.{Quiet}
use Rattle.store_on_disk.proofs.Adding.{not_kept, fails_from, fails_until, quiet_itself, quiet_then, adds_more}
use Rattle.files_car.proofs.Taking.{lacks_alike}
use Rattle.files_car.specs.Each.{TakesEach, StopsEach, RunsEach}
use Rattle.files_car.specs.declared.each.ReadCarError as run
use Rattle.files_car.specs.declared.each.ReadCarError.TheVariants as stop

-- ---- how far a file was read

sound_push : (ss : List Section) (s : Section) → AllByRecursion IsSound ss → IsSound s → AllByRecursion IsSound (ss ++ s ∷ [])
sound_push [] s h p = (p, tt)
sound_push (x ∷ ss) s h p = (h.0, sound_push ss s h.1 p)

-- these sections were taken
pub record IsReadAt (roots : List (List ℕ)) (sections : List Section) (old : Reading) (extent : Option ℕ) (now : Reading) : Type 0 where
  pub known : (b : List ℕ) → old.left ≡ Some b → (rest : List ℕ) × (now.left ≡ Some rest) × IsPlace b roots sections extent rest
  pub same : Stays old now
  pub blocks : AllByRecursion IsSound sections

pub read_to : {roots : List (List ℕ)} {ss : List Section} {old : Reading} {extent : Option ℕ} {now : Reading} → IsReadAt roots ss old extent now → IsReadTo roots ss old extent now
read_to {roots} {ss} {old} {extent} {now} h = record {
  known = λ b l. let k = h.known b l in (k.0, k.1, place_front b k.0 roots ss extent k.2);
  same = h.same;
  blocks = h.blocks;
}

pub read_begun : (roots : List (List ℕ)) (extent : Option ℕ) (old now : Reading) → TakesStart old roots extent now → IsReadAt roots [] old extent now
read_begun roots extent old now h = record {
  known = λ b l. let w = h.takes.taken b l in (w.0, w.2, subst (λ x. IsPlace x roots [] extent w.0) (sym w.1) (place_begun h.front w.0 roots extent h.header h.start));
  same = h.takes.same;
  blocks = tt;
}

pub read_more : (roots : List (List ℕ)) (ss : List Section) (s : Section) (extent more : Option ℕ) (old mid now : Reading) → IsReadAt roots ss old extent mid → TakesSectionBytes extent mid s more now → IsSound s
    → IsReadAt roots (ss ++ s ∷ []) old more now
read_more roots ss s extent more old mid now h k named = record {
  known = λ b l.
      let far = h.known b l in
      let w = k.1.takes.taken far.0 far.1 in
      (w.0, w.2, place_more b w.0 roots ss extent more s (subst (λ x. IsPlace b roots ss extent x) w.1 far.2) k.0 k.1.spends);
  same = stays_both h.same k.1.takes.same;
  blocks = sound_push ss s h.blocks named;
}

pub read_whole : (roots : List (List ℕ)) (ss : List Section) (extent more : Option ℕ) (old mid new : Reading) → IsReadAt roots ss old extent mid → EndsThere extent mid more new → IsFileRead roots ss old new
read_whole roots ss extent more old mid new h end = record {
  is_car = λ b l.
      let k = h.known b l in
      (place_whole b k.0 roots ss extent more mid new k.2 end k.1, (k.0, place_end b k.0 roots ss extent more mid new k.2 end k.1, (ended extent more mid new k.0 end k.1).2));
  same = stays_both h.same (ends_same extent more mid new end);
  blocks = h.blocks;
}

-- ---- refusals

pub file_refused : {E : Type 0} (T : Type 0) (variant : CarError E → ReadCarError E) (stands : CarError E → List ℕ → Type 0) (lacks : Type 0) (e : CarError E) (told : ReadCarError E) (old new : Reading) → TellsOfFile variant e told → CarRefuses stands old e new → LacksMemoryIf {T = T} lacks (Err e) → FileRefused variant stands lacks old told new
file_refused T variant stands lacks e told old new tells refused memory = record { error = e; tells = tells; refused = refused; memory = lacks_alike T lacks e memory }

module _ {S : Type 0} (g : Ghosts S) where
  stops_at : {E : Type 0} (roots : List CidParts) (ss : List Section) (extent : Option ℕ) (mid new : Reading) (before held after last : S) (e : ReadCarError E) → AddsSections g roots ss before held → Quiet g held after → Quiet g after last → g.blamed last ≡ g.blamed after
      → (IsClean (g.view last) → IsUndone (g.view after) (g.view last)) → NextRefused g (length ss) extent mid held e new after → StopsAt g ss extent mid before e new last
  stops_at roots ss extent mid new before held after last e h quiet following blame undone (inl f) = inl f.0
  stops_at roots ss extent mid new before held after last e h quiet following blame undone (inr p) =
      inr (inl (record { section = p.section; more = p.more; told = p.told; taken = p.taken; says = p.says; why = not_kept g roots ss p.section before held after last p.told h quiet following blame undone p.why }))

  pub roots_not_kept : (roots : List CidParts) (before after last : S) (told : StoreRefusal) → Quiet g after last → g.blamed last ≡ g.blamed after → (IsClean (g.view last) → IsUndone (g.view after) (g.view last))
      → RootsRefused g roots before after told → RootsNotKept g roots before last told
  roots_not_kept roots before after last kind.EarlierVersion following blame undone p = (p.0, p.1)
  roots_not_kept roots before after last kind.NoNumber following blame undone p = λ clean.
      let k = p (omega (arith, following.clean)) in
      record { mid = k.held.trees; first = k.first; name = k.name; stands = k.stands; gains = k.added.roots; lacks = k.lacks }
  roots_not_kept roots before after last told following blame undone p = fails_until g (IsAnyTooLong (g.view before) roots) before after last told following blame undone p

  -- nothing of the file is kept
  pub read_refused : {E : Type 0} (old new : Reading) (before after last : S) (e : ReadCarError E) → Quiet g after last → g.blamed last ≡ g.blamed after
      → (IsClean (g.view last) → IsUndone (g.view after) (g.view last)) → AddRefused g old before e new after → ReadRefused g old before e new last
  read_refused old new before after last e following blame undone (inl f) = inl f.0
  read_refused old new before after last e following blame undone (inr (inl r)) =
      inr (inl (record { roots = r.roots; extent = r.extent; told = r.told; taken = r.taken; says = r.says; why = roots_not_kept r.roots before after last r.told following blame undone r.why }))
  read_refused old new before after last e following blame undone (inr (inr r)) = inr (inr (record {
    roots = r.roots;
    sections = r.sections;
    extent = r.extent;
    mid = r.mid;
    keeps = r.adds.keeps;
    taken = r.taken;
    stops = elim r.stops [
      | inl n ↦ stops_at r.roots r.sections r.extent r.mid new before r.held after last e r.adds r.quiet following blame undone n
      | inr m ↦ inr (inr (inr m.1))
    ];
  }))

  -- the commit failed
  pub commit_refused : {E : Type 0} (roots : List CidParts) (ss : List Section) (extent more : Option ℕ) (old mid new : Reading) (before after last : S) (told : StoreRefusal) → IsReadTo (forms roots) ss old extent mid → EndsThere extent mid more new → AddsSections g roots ss before after
      → (IsClean (g.view last) → IsClean (g.view after)) → FailsByStore g ⊥ after last told → ReadRefused {E = E} g old before (of_refusal told) new last
  commit_refused roots ss extent more old mid new before after last told to end h was f =
      inr (inr (record {
        roots = roots;
        sections = ss;
        extent = extent;
        mid = mid;
        keeps = h.keeps;
        taken = to;
        stops = inr (inr (inl (record { more = more; told = told; ends = end; says = refl; failed = fails_from g ⊥ ⊥ roots ss before after last told h was (λ clean none. none) f })));
      }))

  -- what a crash after the commit leaves
  pub may_leave : (roots : List CidParts) (ss : List Section) (old new : Reading) (before after last : S) → IsFileRead (forms roots) ss old new → AddsSections g roots ss before after → (IsClean (g.view last) → IsClean (g.view after))
      → ((db : Trees) → g.recovers last db → (db ≡ (g.view after).trees) ⊎ g.recovers after db)
      → (db : Trees) → g.recovers last db → g.recovers before db ⊎ (IsClean (g.view last) → MayLeave old new (g.view before).trees db)
  may_leave roots ss old new before after last read h was crash db r = elim (crash db r) [
    | inl e ↦ inr (λ clean. let a = h.added (was clean) in record { roots = roots; sections = ss; read = read; holds = subst (λ (t : Trees). HoldsSections (g.view before).trees t ss) (sym e) a.trees; gains = subst (λ (t : Trees). GainsRoots (g.view before).trees t roots) (sym e) a.gains })
    | inr earlier ↦ inl (h.quiet.outcomes db earlier)
  ]

-- ---- the sections, one by one

module _ {S : Type 0} (g : Ghosts S) (roots : List CidParts) (start : Reading) (before : S) where
  -- these roots and sections were taken, and added
  abbrev IsAddedTo : List Section → Option ℕ → Reading → S → Type 0
  IsAddedTo ss extent source it = IsReadAt (forms roots) ss start extent source × AddsSections g roots ss before it

  along : (ss more : List Section) (extent rest : Option ℕ) (source mid : Reading) (old new : S) → IsAddedTo ss extent source old → TakesEach (TakesBlock g) extent source old more rest mid new → IsAddedTo (ss ++ more) rest mid new
  along ss [] extent rest source mid old new h t =
      subst (λ e. IsAddedTo (ss ++ []) e mid new) (sym t.0)
      (subst (λ m. IsAddedTo (ss ++ []) extent m new) (sym t.1)
      (subst (λ x. IsAddedTo (ss ++ []) extent source x) (sym t.2)
      (subst (λ l. IsAddedTo l extent source old) (sym (append-nil ss)) h)))
  along ss (s ∷ more) extent rest source mid old new h t =
      subst (λ l. IsAddedTo l rest mid new) (append_assoc ss (s ∷ []) more)
      (along (ss ++ s ∷ []) more t.0 rest t.1 mid t.2 new (read_more (forms roots) ss s extent t.0 start source t.1 h.0 t.3 t.4.1.0, adds_more g roots ss s before old t.2 h.1 t.4.1.1 t.4.0) t.5)

  pub added_all : (ss : List Section) (extent rest : Option ℕ) (source mid : Reading) (held new : S) → IsAddedTo [] extent source held → TakesEach (TakesBlock g) extent source held ss rest mid new → IsAddedTo ss rest mid new
  added_all ss extent rest source mid held new h t = along [] ss extent rest source mid held new h t

  stopped : {E : Type 0} (ss : List Section) (extent more : Option ℕ) (mid following : Reading) (it new : S) (e : run.ReadCarError E StoreRefusal) (told : ReadCarError E) → IsAddedTo ss extent mid it → StopsEach (TakesBlock g) (length ss) extent mid it e more following new → TellsOfRun e told → AddRefused g start before told following new
  stopped ss extent more mid following it new (stop.Header e) told h k tells = absurd k
  stopped ss extent more mid following it new (stop.Section n e) told h k tells =
      inr (inr (record {
        roots = roots;
        sections = ss;
        extent = extent;
        mid = mid;
        held = it;
        taken = read_to h.0;
        adds = h.1;
        quiet = subst (Quiet g it) (sym k.2) (quiet_itself g it);
        stops = inl (inl (record { error = e; tells = subst (λ n. TellsOfFile (own.Section n) e told) k.0 tells; refused = k.1.0; memory = k.1.1 }, k.2));
      }))
  stopped {E} ss extent more mid following it new (stop.Block n name refusal) told h k tells =
      inr (inr (record {
        roots = roots;
        sections = ss;
        extent = extent;
        mid = mid;
        held = it;
        taken = read_to h.0;
        adds = h.1;
        quiet = k.4.0;
        stops = inl (inr (record { section = k.0; more = more; told = refusal; taken = k.2; says = tells ∙ ap (λ n. of_block {E = E} n name refusal) k.1 ∙ ap (λ c. of_block {E = E} (length ss) c refusal) k.3; why = k.4.1 }));
      }))

  too_many : {E : Type 0} (n : ℕ) (e : run.ReadCarError E StoreRefusal) (told : ReadCarError E) → e ≡ stop.Section n OutOfMemory → TellsOfRun e told → told ≡ own.OutOfMemory
  too_many n e told is tells = subst (λ x. TellsOfRun x told) is tells

  pub run_refused : {E : Type 0} (extent more : Option ℕ) (source following : Reading) (held new : S) (e : run.ReadCarError E StoreRefusal) (told : ReadCarError E) → IsAddedTo [] extent source held → RunsEach (TakesBlock g) extent source held (Err e) more following new → TellsOfRun e told → AddRefused g start before told following new
  run_refused extent more source following held new e told h (ss, rest, mid, it, t, inl k) tells = stopped ss rest more mid following it new e told (added_all ss extent rest source mid held it h t) k tells
  run_refused extent more source following held new e told h (ss, rest, mid, it, t, inr k) tells =
      let at = added_all ss extent rest source mid held it h t in
      inr (inr (record {
        roots = roots;
        sections = ss;
        extent = rest;
        mid = mid;
        held = it;
        taken = read_to at.0;
        adds = at.1;
        quiet = subst (Quiet g it) (sym k.1) (quiet_itself g it);
        stops = inr (k.1, record { same = k.0; says = too_many (length ss) e told k.2.0 tells; many = k.2.1 });
      }))

module _ {S : Type 0} (g : Ghosts S) where
  each_quiet : (extent rest : Option ℕ) (source mid : Reading) (old new : S) (ss : List Section) → TakesEach (TakesBlock g) extent source old ss rest mid new → Quiet g old new
  each_quiet extent rest source mid old new [] t = subst (Quiet g old) (sym t.2) (quiet_itself g old)
  each_quiet extent rest source mid old new (s ∷ ss) t = quiet_then g old t.2 new t.4.0 (each_quiet t.0 rest t.1 mid t.2 new ss t.5)

  stop_quiet : {E : Type 0} (extent more : Option ℕ) (source following : Reading) (old new : S) (count : ℕ) (e : run.ReadCarError E StoreRefusal) → StopsEach (TakesBlock g) count extent source old e more following new → Quiet g old new
  stop_quiet extent more source following old new count (stop.Header e) k = absurd k
  stop_quiet extent more source following old new count (stop.Section n e) k = subst (Quiet g old) (sym k.2) (quiet_itself g old)
  stop_quiet extent more source following old new count (stop.Block n name refusal) k = k.4.0

  pub run_quiet : {E : Type 0} (extent more : Option ℕ) (source following : Reading) (old new : S) (r : Result ℕ (run.ReadCarError E StoreRefusal)) → RunsEach (TakesBlock g) extent source old r more following new → Quiet g old new
  run_quiet extent more source following old new (Ok count) k = each_quiet extent k.1 source k.2 old new k.0 k.3
  run_quiet extent more source following old new (Err e) (ss, rest, mid, it, t, inl k) = quiet_then g old it new (each_quiet extent rest source mid old it ss t) (stop_quiet rest more mid following it new (length ss) e k)
  run_quiet extent more source following old new (Err e) (ss, rest, mid, it, t, inr k) = subst (Quiet g old) (sym k.1) (each_quiet extent rest source mid old it ss t)
