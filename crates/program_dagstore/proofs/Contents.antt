-- IPFS files, read from a store block by block.
use Rattle.std.proofs.Common.{◌≡◌, inl, inr, ℕ, List, [], ◌∷◌, ◌++◌, map, Bool, true, false, refl, sym, ap, ◌∙◌, subst, append_assoc, append-nil, arith, Option, None, Some, option_map, IfSome, IfErr, Result, Ok, Err, Vec, Global}
use Rattle.std.proofs.lemmas.List.{map-append}
use Rattle.std.proofs.KnownBytes.{Appends-nil}
use Rattle.sqlite_trees.proofs.ListLemmas.{all-append}
use Rattle.sqlite_trees.specs.View.{View, IsClean}
use Rattle.sqlite_trees.specs.declared.store.Store.{Ghosts}
use Rattle.ipld_tree.specs.Cid.{CidParts, AreCidParts}
use Rattle.ipld_links.specs.Reaching.{Stored}
use Rattle.files_unix_fs.specs.Reading.{Asked, asked}
use Rattle.files_unix_fs.specs.declared.wanted.Wanted.{Wanted}
use Rattle.program_parts.specs.Content.{IsReadTo, IsNextName, SaysNext}
use Rattle.program_parts.specs.FileNames.{HasEntry, NamesNothing, LeadsByNames, EndsByNames, IsNoPath, names_line}
use Rattle.program_parts.specs.declared.file_names.NamesEnd.{NamesEnd}
use Rattle.program_parts.proofs.Contents.{front_of_none}
use Rattle.program_parts.specs.Lines.{SaysBoth}
use Rattle.program_parts.proofs.Saying.{both_of}
use Rattle.program_shared.specs.declared.fault.ToolError.{ToolError}
use Rattle.store_on_disk.specs.Ends.{Quiet}
use Rattle.store_on_disk.specs.Stored.{IsNamedBy, GetsSome, StaysSame, IsDamaged}
use Rattle.store_on_disk.specs.Trees.{OfStored}
use Rattle.store_on_disk.proofs.Trees.{got_stored, shows_same}
use Rattle.store_on_disk.proofs.Walking.{same_then, damaged_same, fails_same}
use Rattle.store_on_disk.specs.declared.error.StoreRefusal.TheVariants as refusal
use Rattle.program_dagstore.specs.Blocks.{GetFails}
use Rattle.program_dagstore.specs.Contents.{Got, IsNamedGot, Gives, OfGot, SaysFile, IsOnTheWay, IsWantedIn, FailsAt, FailsAtNext}
use Rattle.program_dagstore.specs.declared.fault.Fault.{Fault}
use Rattle.program_dagstore.specs.declared.fault.Fault.TheVariants as fault

-- ---- what was read

gives_each : (stored : Stored) (xs ys : List Got) → Gives stored (xs ++ ys) → Gives stored xs × Gives stored ys
gives_each stored [] ys h = (tt, h)
gives_each stored (x ∷ xs) ys h = let k = gives_each stored xs ys h.1 in ((h.0, k.0), k.1)

-- nothing was read
pub got_nothing : (old new : View) (IsSo : Stored → Type 0) → ((stored : Stored) → IsSo stored) → OfGot old new IsSo
got_nothing old new IsSo h = ([], tt, λ clean stored shows. tt, λ stored gives. h stored)

-- what is under one name was read
pub got_one : (old new : View) (name : CidParts) (found : Option (Vec ℕ Global)) (IsSo : Stored → Type 0) → IfSome found (λ b. IsNamedBy name b.items) → (IsClean new → GetsSome old name (option_map (λ (b : Vec ℕ Global). b.items) found))
    → ((stored : Stored) → stored name ≡ option_map (λ (b : Vec ℕ Global). b.items) found → IsSo stored) → OfGot old new IsSo
got_one old new name found IsSo named gets h = (
  (name, bytes) ∷ [],
  (by found named, tt),
  λ clean stored shows. (got_stored old stored name bytes shows (gets clean), tt),
  λ stored gives. h stored gives.0,
)
  where
    bytes : Option (List ℕ)
    bytes = option_map (λ (b : Vec ℕ Global). b.items) found

    by : (o : Option (Vec ℕ Global)) → IfSome o (λ b. IsNamedBy name b.items) → IfSome (option_map (λ (b : Vec ℕ Global). b.items) o) (IsNamedBy name)
    by None k = k
    by (Some b) k = k

-- it is so for another reason
pub got_so : (old new : View) (First IsSo : Stored → Type 0) → OfGot old new First → ((stored : Stored) → First stored → IsSo stored) → OfGot old new IsSo
got_so old new First IsSo h f = (h.0, h.1, h.2, λ stored gives. f stored (h.3 stored gives))

module _ {S : Type 0} (g : Ghosts S) where
  -- some was read, and then more
  pub got_on : (old mid new : S) (First Then IsSo : Stored → Type 0) → StaysSame g old mid → Quiet g mid new → OfGot (g.view old) (g.view mid) First → OfGot (g.view mid) (g.view new) Then → ((stored : Stored) → First stored → Then stored → IsSo stored) → OfGot (g.view old) (g.view new) IsSo
  got_on old mid new First Then IsSo same quiet h k f = (
    h.0 ++ k.0,
    all-append IsNamedGot h.0 k.0 h.1 k.1,
    λ clean stored shows.
        let was : IsClean (g.view mid) = omega (arith, quiet.clean) in
        all-append (λ p. stored p.0 ≡ p.1) h.0 k.0 (h.2 was stored shows) (k.2 clean stored (shows_same (g.view old) (g.view mid) stored (same was) shows)),
    λ stored gives. let each = gives_each stored h.0 k.0 gives in f stored (h.3 stored each.0) (k.3 stored each.1),
  )

  -- unless a wrong answer of the disk was taken as true, it is so of what was stored
  pub got_stored_so : (old mid : S) (IsSo : Stored → Type 0) → OfGot (g.view old) (g.view mid) IsSo → IsClean (g.view mid) → OfStored (g.view old) IsSo
  got_stored_so old mid IsSo h clean = λ stored shows. h.3 stored (h.2 clean stored shows)

  -- ---- why no more was

  -- it failed at one name
  pub fails_at : (old mid new : S) (name : CidParts) (At : Stored → CidParts → Type 0) (e : Fault) → Quiet g old mid → StaysSame g old mid → Quiet g mid new → (IsClean (g.view mid) → OfStored (g.view old) (λ stored. At stored name)) → GetFails g name mid new e → FailsAt g At old new e
  fails_at old mid new name At (fault.Store (refusal.Damaged n)) before same quiet at w = λ clean.
      let was : IsClean (g.view mid) = omega (arith, quiet.clean) in
      let k = w.1 clean in (
        (
          subst (IsDamaged (g.view old)) (sym w.0) (damaged_same (g.view old) (g.view mid) name (same was) k.0),
          λ stored shows. subst (At stored) (sym w.0) (at was stored shows),
        ),
        same_then (g.view old) (g.view mid) (g.view new) (same was) k.1,
      )
  fails_at old mid new name At (fault.Store told) before same quiet at w = fails_same g old mid new told before same quiet w
  fails_at old mid new name At (fault.Tool e) before same quiet at w = λ clean. same_then (g.view old) (g.view mid) (g.view new) (same (omega (arith, quiet.clean))) (w clean)

  -- it failed after a call that changed nothing
  pub fails_then : (old mid new : S) (At More : Stored → CidParts → Type 0) (e : Fault) → Quiet g old mid → StaysSame g old mid → Quiet g mid new → (IsClean (g.view mid) → OfStored (g.view old) (λ stored. (n : CidParts) → At stored n → More stored n)) → FailsAt g At mid new e → FailsAt g More old new e
  fails_then old mid new At More (fault.Store (refusal.Damaged n)) before same quiet more w = λ clean.
      let was : IsClean (g.view mid) = omega (arith, quiet.clean) in
      let k = w clean in (
        (
          damaged_same (g.view old) (g.view mid) n (same was) k.0.0,
          λ stored shows. more was stored shows n (k.0.1 stored (shows_same (g.view old) (g.view mid) stored (same was) shows)),
        ),
        same_then (g.view old) (g.view mid) (g.view new) (same was) k.1,
      )
  fails_then old mid new At More (fault.Store told) before same quiet more w = fails_same g old mid new told before same quiet w
  fails_then old mid new At More (fault.Tool e) before same quiet more w = λ clean. same_then (g.view old) (g.view mid) (g.view new) (same (omega (arith, quiet.clean))) (w clean)

  pub fails_after : {A : Type 0} (old mid new : S) (At More : Stored → CidParts → Type 0) (r : Result A Fault) → Quiet g old mid → StaysSame g old mid → Quiet g mid new → (IsClean (g.view mid) → OfStored (g.view old) (λ stored. (n : CidParts) → At stored n → More stored n)) → IfErr r (FailsAt g At mid new) → IfErr r (FailsAt g More old new)
  fails_after old mid new At More (Ok a) before same quiet more w = w
  fails_after old mid new At More (Err e) before same quiet more w = fails_then old mid new At More e before same quiet more w

  -- so it is at more names
  pub fails_so : (old new : S) (At More : Stored → CidParts → Type 0) (e : Fault) → ((stored : Stored) (n : CidParts) → At stored n → More stored n) → FailsAt g At old new e → FailsAt g More old new e
  fails_so old new At More (fault.Store (refusal.Damaged n)) more w = λ clean. let k = w clean in ((k.0.0, λ stored shows. more stored n (k.0.1 stored shows)), k.1)
  fails_so old new At More (fault.Store told) more w = w
  fails_so old new At More (fault.Tool e) more w = w

  pub fails_next : {A : Type 0} (wanted below : List Asked) (w : Asked) (name : CidParts) (old new : S) (r : Result A Fault) → IsNextName wanted below w name → IfErr r (GetFails g name old new) → IfErr r (FailsAtNext g wanted old new)
  fails_next wanted below w name old new (Ok a) is k = k
  fails_next wanted below w name old new (Err e) is k = (below, w, name, is, k)

  pub fails_wanted : (root : CidParts) (wanted : List Asked) (old mid new : S) (e : Fault) → Quiet g old mid → StaysSame g old mid → Quiet g mid new → (IsClean (g.view mid) → OfStored (g.view old) (λ stored. (out : List ℕ) × IsReadTo stored root out wanted)) → FailsAtNext g wanted mid new e → FailsAt g (IsWantedIn root) old new e
  fails_wanted root wanted old mid new e before same quiet read w =
      fails_at old mid new w.2 (IsWantedIn root) e before same quiet (λ clean stored shows. let k = read clean stored shows in (k.0, wanted, w.0, w.1, k.1, w.3)) w.4

-- ---- a path

-- the first names of the path lead there, where these are left
abbrev pub CameTo : CidParts → List (List ℕ) → CidParts → List (List ℕ) → Stored → Type 0
CameTo root path at left stored = (front : List (List ℕ)) × (path ≡ front ++ left) × LeadsByNames stored root front at

pub came_nowhere : (stored : Stored) (root : CidParts) (path : List (List ℕ)) → CameTo root path root path stored
came_nowhere stored root path = ([], refl, refl)

leads_on : (stored : Stored) (root at next : CidParts) (front : List (List ℕ)) (name : List ℕ) → LeadsByNames stored root front at → HasEntry stored at name next → LeadsByNames stored root (front ++ name ∷ []) next
leads_on stored root at next [] name h entry = (next, subst (λ q. HasEntry stored q name next) (sym h) entry, refl)
leads_on stored root at next (n ∷ front) name h entry = (h.0, h.1, leads_on stored h.0 at next front name h.2 entry)

ends_on : (stored : Stored) (root at : CidParts) (front left : List (List ℕ)) (end : NamesEnd) → LeadsByNames stored root front at → EndsByNames stored at left end → EndsByNames stored root (front ++ left) end
ends_on stored root at [] left end h k = subst (λ q. EndsByNames stored q left end) (sym h) k
ends_on stored root at (n ∷ front) left end h k = inr (h.0, h.1, ends_on stored h.0 at front left end h.2 k)

pub came_on : (stored : Stored) (root at next : CidParts) (path left more : List (List ℕ)) (name : List ℕ) → left ≡ name ∷ more → CameTo root path at left stored → HasEntry stored at name next → CameTo root path next more stored
came_on stored root at next path left more name is h entry = (
  h.0 ++ name ∷ [],
  h.1 ∙ ap (λ x. h.0 ++ x) is ∙ sym (append_assoc h.0 (name ∷ []) more),
  leads_on stored root at next h.0 name h.2 entry,
)

pub came_there : (stored : Stored) (root at : CidParts) (path left : List (List ℕ)) → left ≡ [] → CameTo root path at left stored → LeadsByNames stored root path at
came_there stored root at path left none h = subst (λ x. LeadsByNames stored root x at) (sym (h.1 ∙ ap (λ x. h.0 ++ x) none ∙ append-nil h.0)) h.2

pub came_no_further : (stored : Stored) (root at : CidParts) (path left more : List (List ℕ)) (end : NamesEnd) → left ≡ end.name.now ∷ more → end.block ≡ at → CameTo root path at left stored → NamesNothing stored at end.name.now end.cause → EndsByNames stored root path end
came_no_further stored root at path left more end is same h nothing =
    subst (λ x. EndsByNames stored root x end) (sym (h.1 ∙ ap (λ x. h.0 ++ x) is)) (ends_on stored root at h.0 (end.name.now ∷ more) end h.2 (inl (same, refl, nothing)))

pub came_on_the_way : (stored : Stored) (root at : CidParts) (path left : List (List ℕ)) → CameTo root path at left stored → IsOnTheWay root path stored at
came_on_the_way stored root at path left h = (h.0, left, h.1, h.2)

-- ---- a file

-- the block of the last of those that are wanted comes next
pub next_named : (items below : List Wanted) (w : Wanted) → AreCidParts w.cid → items ≡ below ++ w ∷ [] → IsNextName (map asked items) (map asked below) (asked w) w.cid
next_named items below w valid is = (valid, ap (map asked) is ∙ map-append asked below (w ∷ []), refl)

-- nothing more was written
pub next_refused : (stored : Stored) (wanted left : List Asked) (old heard : Option (List ℕ)) (e : Fault) → SaysNext stored wanted left old heard (Err e) old heard
next_refused stored wanted left old heard e = ([], [], front_of_none stored wanted, inl refl, Appends-nil old, Appends-nil heard)

pub next_ended : (stored : Stored) (wanted : List Asked) (old heard : Option (List ℕ)) → wanted ≡ [] → SaysNext {E = Fault} stored wanted wanted old heard (Ok (Some true)) old heard
next_ended stored wanted old heard none = ([], inl (none, refl, refl), Appends-nil old, Appends-nil heard)

pub file_refused : (stored : Stored) (root : CidParts) (path : List (List ℕ)) (old heard : Option (List ℕ)) (e : Fault) → SaysFile stored root path old heard (Err e) old heard
file_refused stored root path old heard (fault.Store told) = inr (Appends-nil old, Appends-nil heard)
file_refused stored root path old heard (fault.Tool e) = inr (inl (Appends-nil old, Appends-nil heard))

-- the path leads nowhere
pub end_told : (stored : Stored) (root : CidParts) (path : List (List ℕ)) (end : NamesEnd) (old heard : Option (List ℕ)) (r : Result Bool ToolError) (new after : Option (List ℕ)) → EndsByNames stored root path end
    → SaysBoth (λ well out told. (well ≡ false) × (out ≡ []) × (told ≡ names_line end)) old heard r new after → SaysBoth (IsNoPath stored root path) old heard r new after
end_told stored root path end old heard r new after ends k =
    both_of (λ well out told. (well ≡ false) × (out ≡ []) × (told ≡ names_line end)) (IsNoPath stored root path) old heard r new after (λ well out told h. (end, ends, h.0, h.1, h.2)) k
