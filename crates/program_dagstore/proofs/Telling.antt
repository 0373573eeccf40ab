-- What is written of the names that are listed in a store, one after the other.
use Rattle.std.proofs.Common.{◌≡◌, inl, inr, ℕ, List, [], ◌∷◌, ◌++◌, Bool, true, false, ◌&&◌, refl, sym, subst, arith, Option, None, Some, Ok, Err}
use Rattle.std.specs.Io.KnownBytes.{Appends}
use Rattle.std.proofs.KnownBytes.{Appends-nil, Appends-trans}
use Rattle.sqlite_trees.specs.Tree.{Trees}
use Rattle.sqlite_trees.specs.View.{View, IsClean}
use Rattle.sqlite_trees.specs.declared.store.Store.{Ghosts}
use Rattle.ipld_tree.specs.Cid.{CidParts, cid_bytes}
use Rattle.program_shared.specs.declared.fault.ToolError.{ToolError}
use Rattle.program_parts.specs.Lines.{TextFails, IsSaidOfEach}
use Rattle.program_parts.proofs.Saying.{text_breaks, each_push, each_map}
use Rattle.store_on_disk.specs.Ends.{Quiet}
use Rattle.store_on_disk.specs.Rows.{name_tree, IsListed as IsIn}
use Rattle.store_on_disk.specs.Stored.{IsNext, GivesNextName, ListsName, IsSame, StaysSame}
use Rattle.store_on_disk.proofs.Adding.{quiet_itself, quiet_then}
use Rattle.store_on_disk.proofs.Walking.{next_same, none_same, holds_same, damaged_same, same_itself, same_then, fails_same}
use Rattle.program_dagstore.specs.Said.{StoreFails, Breaks}
use Rattle.program_dagstore.specs.Names.{AreFirst, AreAll, last_of, Telling, IsNextLine, SaysNames, IsListedLine}
use Rattle.program_dagstore.specs.declared.fault.Fault.{Fault}
use Rattle.program_dagstore.specs.declared.fault.Fault.TheVariants as fault

-- ---- names

first_push : (v : View) (last : Option CidParts) (names : List CidParts) (c : CidParts) → AreFirst v last names → IsNext (v.trees name_tree) (last_of last names) c → AreFirst v last (names ++ c ∷ [])
first_push v last [] c h next = (next, tt)
first_push v last (x ∷ xs) c h next = (h.0, first_push v (Some x) xs c h.1 next)

last_push : (last : Option CidParts) (names : List CidParts) (c : CidParts) → Some c ≡ last_of last (names ++ c ∷ [])
last_push last [] c = refl
last_push last (x ∷ xs) c = last_push (Some x) xs c

first_all : (v : View) (last : Option CidParts) (names : List CidParts) → AreFirst v last names → GivesNextName v (last_of last names) None → AreAll v last names
first_all v last [] h none = none
first_all v last (x ∷ xs) h none = (h.0, first_all v (Some x) xs h.1 none)

all_first : (v : View) (last : Option CidParts) (names : List CidParts) → AreAll v last names → AreFirst v last names
all_first v last [] h = tt
all_first v last (x ∷ xs) h = (h.0, all_first v (Some x) xs h.1)

-- ---- what is written of each

-- what was written stays true after more calls that change nothing
abbrev pub StaysSaid : Telling → Type 0
StaysSaid IsSaid = (old mid now new : View) → (IsClean new → IsClean now) → (IsClean new → IsSame old mid) → (c : CidParts) (w : Bool) (t : List ℕ) → IsSaid mid now c w t → IsSaid old new c w t

pub listed_stays : StaysSaid IsListedLine
listed_stays old mid now new later same c true t h = (h.0, h.1, λ clean. holds_same old mid c h.0 (same clean) (h.2 (later clean)), h.3)
listed_stays old mid now new later same c false t h = (λ clean. damaged_same old mid c (same clean) (h.0 (later clean)), h.1)

-- what is written of the next name, if something is listed under it
pub said_of_next : (IsSaid : Telling) (old mid new : View) (last : Option CidParts) (c : CidParts) (w : Bool) (t : List ℕ) → StaysSaid IsSaid → (IsClean new → IsClean mid) → (IsClean mid → IsSame old mid) → (IsClean mid → IsNext (old.trees name_tree) last c)
    → ((IsClean new → ListsName mid c) → IsSaid mid new c w t) → IsSaid old new c w t
said_of_next IsSaid old mid new last c w t stays was same next is =
    stays old mid new new (λ clean. clean) (λ clean. same (was clean)) c w t (is (λ clean. subst (λ (u : Trees). IsIn (u name_tree) (cid_bytes c)) (sym (same (was clean)).trees) (next (was clean)).listed))

-- ---- the walk

-- the line of the next name was cut short
pub line_broken : (IsSaid : Telling) (old new : View) (last : Option CidParts) (c : CidParts) (well : Bool) (said : List ℕ) (before after : Option (List ℕ)) (e : ToolError) → (IsClean new → IsNext (old.trees name_tree) last c) → IsSaid old new c well said
    → TextFails said before e after → Breaks (IsNextLine IsSaid old last new) before after (fault.Tool e)
line_broken IsSaid old new last c well said before after e next is fails = text_breaks (IsNextLine IsSaid old last new) said before after e (c, well, is, next) fails

-- nothing was written after the lines of all names
pub nothing_after : (IsSaid : Telling) (old new : View) (before after : Option (List ℕ)) (well : Bool) (e : ToolError) → SaysNames IsSaid old before (Ok well) new after → SaysNames IsSaid old before (Err (fault.Tool e)) new after
nothing_after IsSaid old new before after well e h = (h.0, well, h.1, after, λ clean. all_first old None h.0 (h.2 clean), h.3, h.4, inl (Appends-nil after))

breaks_map : (P Q : List ℕ → Type 0) (old new : Option (List ℕ)) (e : Fault) → ((t : List ℕ) → P t → Q t) → Breaks P old new e → Breaks Q old new e
breaks_map P Q old new (fault.Store told) f h = h
breaks_map P Q old new (fault.Tool e) f (inl none) = inl none
breaks_map P Q old new (fault.Tool e) f (inr k) = inr (k.0, k.1, f (k.0 ++ k.1) k.2, k.3, k.4)

module _ {S : Type 0} (g : Ghosts S) where
  pub record SaidSoFar (IsSaid : Telling) (old : S) (before : Option (List ℕ)) (names : List CidParts) (last : Option CidParts) (well : Bool) (now : S) (between : Option (List ℕ)) : Type 0 where
    pub said : List ℕ
    pub first : IsClean (g.view now) → IsSame (g.view old) (g.view now) × AreFirst (g.view old) None names
    pub is_last : last ≡ last_of None names
    pub each : IsSaidOfEach (IsSaid (g.view old) (g.view now)) names well said
    pub lines : Appends before between said
    pub quiet : Quiet g old now

  pub none_said : (IsSaid : Telling) (old : S) (before : Option (List ℕ)) → SaidSoFar IsSaid old before [] None true old before
  none_said IsSaid old before = record {
    said = [];
    first = λ clean. (same_itself (g.view old), tt);
    is_last = refl;
    each = (refl, refl);
    lines = Appends-nil before;
    quiet = quiet_itself g old;
  }

  pub said_more : (IsSaid : Telling) (old mid new : S) (before between after : Option (List ℕ)) (names : List CidParts) (last : Option CidParts) (all well : Bool) (c : CidParts) (text : List ℕ) → StaysSaid IsSaid → SaidSoFar IsSaid old before names last all mid between → IsSaid (g.view mid) (g.view new) c well text
      → (IsClean (g.view new) → IsNext ((g.view mid).trees name_tree) last c) → Appends between after text → StaysSame g mid new → Quiet g mid new → SaidSoFar IsSaid old before (names ++ c ∷ []) (Some c) (all && well) new after
  said_more IsSaid old mid new before between after names last all well c text stays h is next out same quiet = record {
    said = h.said ++ text;
    first = λ clean.
        let w = h.first (was clean) in (
          same_then (g.view old) (g.view mid) (g.view new) w.0 (same clean),
          first_push (g.view old) None names c w.1 (subst (λ l. IsNext ((g.view old).trees name_tree) l c) h.is_last (next_same (g.view old) (g.view mid) last c w.0 (next clean))),
        );
    is_last = last_push None names c;
    each = each_push (IsSaid (g.view old) (g.view new)) names c all well h.said text
        (each_map (IsSaid (g.view old) (g.view mid)) (IsSaid (g.view old) (g.view new)) names all h.said (stays (g.view old) (g.view old) (g.view mid) (g.view new) was (λ clean. same_itself (g.view old))) h.each)
        (stays (g.view old) (g.view mid) (g.view new) (g.view new) (λ clean. clean) (λ clean. (h.first (was clean)).0) c well text is);
    lines = Appends-trans before between after h.said text h.lines out;
    quiet = quiet_then g old mid new h.quiet quiet;
  }
    where
      was : IsClean (g.view new) → IsClean (g.view mid)
      was clean = omega (arith, quiet.clean)

  pub all_names : (IsSaid : Telling) (old mid new : S) (before between : Option (List ℕ)) (names : List CidParts) (last : Option CidParts) (well : Bool) → SaidSoFar IsSaid old before names last well mid between → (IsClean (g.view new) → GivesNextName (g.view mid) last None) → Quiet g mid new
      → IsClean (g.view new) → AreAll (g.view old) None names
  all_names IsSaid old mid new before between names last well h none quiet clean =
      let w = h.first (omega (arith, quiet.clean)) in
      first_all (g.view old) None names w.1 (subst (λ l. GivesNextName (g.view old) l None) h.is_last (none_same (g.view old) (g.view mid) last w.0 (none clean)))

  pub all_said : (IsSaid : Telling) (old mid new : S) (before between after : Option (List ℕ)) (names : List CidParts) (last : Option CidParts) (well : Bool) → StaysSaid IsSaid → SaidSoFar IsSaid old before names last well mid between → after ≡ between
      → (IsClean (g.view new) → GivesNextName (g.view mid) last None) → Quiet g mid new → SaysNames IsSaid (g.view old) before (Ok well) (g.view new) after
  all_said IsSaid old mid new before between after names last well stays h out none quiet = (
    names,
    h.said,
    all_names IsSaid old mid new before between names last well h none quiet,
    each_map (IsSaid (g.view old) (g.view mid)) (IsSaid (g.view old) (g.view new)) names well h.said (stays (g.view old) (g.view old) (g.view mid) (g.view new) was (λ clean. same_itself (g.view old))) h.each,
    subst (λ o. Appends before o h.said) (sym out) h.lines,
  )
    where
      was : IsClean (g.view new) → IsClean (g.view mid)
      was clean = omega (arith, quiet.clean)

  pub said_broken : (IsSaid : Telling) (old mid new : S) (before between after : Option (List ℕ)) (names : List CidParts) (last : Option CidParts) (well : Bool) (e : Fault) → StaysSaid IsSaid → SaidSoFar IsSaid old before names last well mid between
      → Breaks (IsNextLine IsSaid (g.view mid) last (g.view new)) between after e → Quiet g mid new → SaysNames IsSaid (g.view old) before (Err e) (g.view new) after
  said_broken IsSaid old mid new before between after names last well e stays h broke quiet = (
    names,
    well,
    h.said,
    between,
    λ clean. (h.first (was clean)).1,
    each_map (IsSaid (g.view old) (g.view mid)) (IsSaid (g.view old) (g.view new)) names well h.said (stays (g.view old) (g.view old) (g.view mid) (g.view new) was (λ clean. same_itself (g.view old))) h.each,
    h.lines,
    breaks_map (IsNextLine IsSaid (g.view mid) last (g.view new)) (IsNextLine IsSaid (g.view old) (last_of None names) (g.view new)) between after e (λ text k. (
      k.0,
      k.1,
      stays (g.view old) (g.view mid) (g.view new) (g.view new) (λ clean. clean) (λ clean. (h.first (was clean)).0) k.0 k.1 text k.2,
      λ clean. subst (λ l. IsNext ((g.view old).trees name_tree) l k.0) h.is_last (next_same (g.view old) (g.view mid) last k.0 (h.first (was clean)).0 (k.3 clean)),
    )) broke,
  )
    where
      was : IsClean (g.view new) → IsClean (g.view mid)
      was clean = omega (arith, quiet.clean)

  pub fails_from : (old mid new : S) (e : Fault) → Quiet g old mid → StaysSame g old mid → Quiet g mid new → StoreFails g mid new e → StoreFails g old new e
  fails_from old mid new (fault.Store told) before same quiet f = fails_same g old mid new told before same quiet f
  fails_from old mid new (fault.Tool e) before same quiet f = λ clean. same_then (g.view old) (g.view mid) (g.view new) (same (omega (arith, quiet.clean))) (f clean)

-- if nothing more was written, the output was cut short
pub nothing_out : (IsLine : List ℕ → Type 0) (before : Option (List ℕ)) (e : Fault) → Breaks IsLine before before e
nothing_out IsLine before (fault.Store told) = Appends-nil before
nothing_out IsLine before (fault.Tool e) = inl (Appends-nil before)
