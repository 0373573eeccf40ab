-- The blocks on the way of a path, read from a store.
use Rattle.std.proofs.Common.{◌≡◌, inl, inr, ℕ, zero, suc, List, [], ◌∷◌, ◌++◌, Bool, true, false, cond, refl, sym, ap, ◌∙◌, subst, arith, Option, None, Some, option_map, Vec, Global, BTreeMap}
use Rattle.std.specs.BTreeMap.{is_at, get}
use Rattle.std.specs.Map.{lookup}
use Rattle.sqlite_trees.specs.View.{View, IsClean}
use Rattle.sqlite_trees.specs.declared.store.Store.{Ghosts}
use Rattle.ipld_tree.specs.Cid.{CidParts, cid_cmp}
use Rattle.ipld_links.specs.Sets.{Among}
use Rattle.ipld_links.specs.Reaching.{Stored, stored_in, AreBytesOf}
use Rattle.ipld_links.proofs.Members.{at_same, same_at, among_push}
use Rattle.ipld_paths.specs.Resolving.{LeadsOn, GoesOver, AreOnTheWay}
use Rattle.ipld_paths.specs.Laws.{AgreeOn}
use Rattle.ipld_paths.proofs.Gathering.{WentTo, went_nowhere, went_on, went_to_end}
use Rattle.store_on_disk.specs.Ends.{Quiet}
use Rattle.store_on_disk.specs.Stored.{GetsSome, IsSame, IsDamaged}
use Rattle.store_on_disk.specs.Trees.{ShowsStored, OfStored}
use Rattle.store_on_disk.proofs.Trees.{got_stored}
use Rattle.store_on_disk.proofs.Walking.{same_then, damaged_same, fails_same}
use Rattle.store_on_disk.specs.declared.error.StoreRefusal.TheVariants as refusal
use Rattle.program_dagstore.specs.Blocks.{GetFails}
use Rattle.program_parts.specs.Paths.{IsAnswerOf}
use Rattle.program_parts.specs.declared.at.Asked.{Asked}
use Rattle.program_parts.proofs.Proving.{data_here, bytes_here}
use Rattle.program_dagstore.specs.Ways.{IsPartOf, HoldsNameToo, HoldsWay, asked_of, IsAnswerIn, ComesTo, WayFails}
use Rattle.program_dagstore.specs.declared.fault.Fault.{Fault}
use Rattle.program_dagstore.specs.declared.fault.Fault.TheVariants as fault

-- ---- one block

-- no block is stored under the name
pub none_held : (v : View) (name : CidParts) (held : Stored) → GetsSome v name None → HoldsNameToo v name held held
none_held v name held none stored shows part = (part, by (held name) refl, λ q same. same)
  where
    free : stored name ≡ None
    free = got_stored v stored name None shows none

    by : (o : Option (List ℕ)) → held name ≡ o → held name ≡ stored name
    by None e = e ∙ sym free
    by (Some b) e = let k : Some b ≡ None = sym (part name b e) ∙ free in absurd (cc k)

pub one_held : (v : View) (name : CidParts) (block : Vec ℕ Global) (old new : BTreeMap CidParts (Vec ℕ Global)) → GetsSome v name (Some block.items)
    → ((q : CidParts) → get cid_cmp new q ≡ cond (is_at (cid_cmp name) q) (Some block) (get cid_cmp old q)) → HoldsNameToo v name (stored_in old) (stored_in new)
one_held v name block old new gets put stored shows part = (
  λ q b e. some q b (is_at (cid_cmp name) q) refl (sym (now q) ∙ e),
  now name ∙ ap (λ t. cond t (Some block.items) (stored_in old name)) (same_at name name refl) ∙ sym there,
  λ q same. now q ∙ kept q (is_at (cid_cmp name) q) refl same,
)
  where
    there : stored name ≡ Some block.items
    there = got_stored v stored name (Some block.items) shows gets

    by : (q : CidParts) (t : Bool) → option_map (λ (w : Vec ℕ Global). w.items) (cond t (Some block) (get cid_cmp old q)) ≡ cond t (Some block.items) (stored_in old q)
    by q true = refl
    by q false = refl

    now : (q : CidParts) → stored_in new q ≡ cond (is_at (cid_cmp name) q) (Some block.items) (stored_in old q)
    now q = ap (option_map (λ (w : Vec ℕ Global). w.items)) (put q) ∙ by q (is_at (cid_cmp name) q)

    some : (q : CidParts) (b : List ℕ) (t : Bool) → is_at (cid_cmp name) q ≡ t → cond t (Some block.items) (stored_in old q) ≡ Some b → stored q ≡ Some b
    some q b true t e = subst (λ x. stored x ≡ Some b) (at_same name q t) (there ∙ e)
    some q b false t e = part q b e

    kept : (q : CidParts) (t : Bool) → is_at (cid_cmp name) q ≡ t → stored_in old q ≡ stored q → cond t (Some block.items) (stored_in old q) ≡ stored q
    kept q true t same = sym there ∙ ap stored (at_same name q t)
    kept q false t same = same

pub nothing_held : (held : BTreeMap CidParts (Vec ℕ Global)) → held.entries ≡ [] → (q : CidParts) → stored_in held q ≡ None
nothing_held held none q =
    let free : lookup (is_at (cid_cmp q)) held.entries ≡ None = ap (λ es. lookup (is_at (cid_cmp q)) es) none in
    ap (option_map (λ (v : Vec ℕ Global). v.items)) free

-- ---- the way

pub comes_further : (n : ℕ) (stored : Stored) (root name next : CidParts) (path left more : List (List ℕ)) → ComesTo n stored root path name left → LeadsOn stored name left next more → ComesTo (suc n) stored root path next more
comes_further zero stored root name next path left more h g =
    let here = subst (λ q. LeadsOn stored q path next more) (sym h.0) (subst (λ p. LeadsOn stored name p next more) (sym h.1) g) in
    (next, more, here, (refl, refl))
comes_further (suc n) stored root name next path left more h g = (h.0, h.1, h.2, comes_further n stored h.0 name next h.1 left more h.3 g)

-- each block held is stored, and those stored under the names passed so far are held
pub record Gathered (stored : Stored) (root : CidParts) (path : List (List ℕ)) (held : Stored) (name : CidParts) (left : List (List ℕ)) : Type 0 where
  pub part : IsPartOf held stored
  pub names : List CidParts
  pub all : (q : CidParts) → Among q names → held q ≡ stored q
  pub went : WentTo stored root path names name left
  pub count : ℕ
  pub came : ComesTo count stored root path name left

pub none_gathered : (stored : Stored) (root : CidParts) (path : List (List ℕ)) (held : Stored) → ((q : CidParts) → held q ≡ None) → Gathered stored root path held root path
none_gathered stored root path held none = record {
  part = λ q b e. let k : None ≡ Some b = sym (none q) ∙ e in absurd (cc k);
  names = [];
  all = λ q m. absurd m;
  went = went_nowhere stored root path;
  count = 0;
  came = (refl, refl);
}

held_too : (stored held now : Stored) (names : List CidParts) (name : CidParts) → ((q : CidParts) → Among q names → held q ≡ stored q) → ((q : CidParts) → held q ≡ stored q → now q ≡ stored q) → now name ≡ stored name
    → (q : CidParts) → Among q (names ++ name ∷ []) → now q ≡ stored q
held_too stored held now names name all kept own q m = elim (among_push q names name m) [ inl o ↦ kept q (all q o) | inr e ↦ subst (λ x. now x ≡ stored x) (sym e) own ]

pub gathered_on : (v : View) (stored : Stored) (root name next : CidParts) (path left more : List (List ℕ)) (held now : Stored) → ShowsStored v stored → Gathered stored root path held name left → HoldsNameToo v name held now → ((s : Stored) → s name ≡ now name → LeadsOn s name left next more) → Gathered stored root path now next more
gathered_on v stored root name next path left more held now shows h also on =
    let k = also stored shows h.part in
    let g = on stored (sym k.1) in
    record {
      part = k.0;
      names = h.names ++ name ∷ [];
      all = held_too stored held now h.names name h.all k.2 k.1;
      went = went_on stored root name next path left more h.names _ h.went refl g;
      count = suc h.count;
      came = comes_further h.count stored root name next path left more h.came g;
    }

agree : (names : List CidParts) (stored held : Stored) → ((q : CidParts) → Among q names → held q ≡ stored q) → AgreeOn names stored held
agree names stored held all q m b = (subst (λ o. under o) (sym (all q m)), subst (λ o. under o) (all q m))
  where
    under : Option (List ℕ) → Type 0
    under o = AreBytesOf (λ _. o) q b

pub gathered_all : (v : View) (stored : Stored) (root name : CidParts) (path left : List (List ℕ)) (held now : Stored) → ShowsStored v stored → Gathered stored root path held name left → HoldsNameToo v name held now → ((s : Stored) → s name ≡ now name → GoesOver s name left [])
    → (names : List CidParts) × AreOnTheWay stored root path names × AgreeOn names stored now
gathered_all v stored root name path left held now shows h also end =
    let k = also stored shows h.part in (
      h.names ++ name ∷ [],
      went_to_end stored root name path left h.names _ h.went refl (end stored (sym k.1)),
      agree (h.names ++ name ∷ []) stored now (held_too stored held now h.names name h.all k.2 k.1),
    )

-- ---- why it is not read

pub way_fails : {S : Type 0} (g : Ghosts S) (root name : CidParts) (path left : List (List ℕ)) (held : Stored) (old mid new : S) (e : Fault) → Quiet g old mid → (IsClean (g.view mid) → IsSame (g.view old) (g.view mid)) → Quiet g mid new
    → (IsClean (g.view mid) → OfStored (g.view old) (λ stored. Gathered stored root path held name left)) → GetFails g name mid new e → WayFails g root path old new e
way_fails g root name path left held old mid new (fault.Store (refusal.Damaged n)) before same quiet h w = λ clean.
    let was : IsClean (g.view mid) = omega (arith, quiet.clean) in
    let k = w.1 clean in (
      (
        subst (IsDamaged (g.view old)) (sym w.0) (damaged_same (g.view old) (g.view mid) name (same was) k.0),
        λ stored shows.
            let t = h was stored shows in
            (t.count, left, subst (λ q. ComesTo t.count stored root path q left) (sym w.0) t.came),
      ),
      same_then (g.view old) (g.view mid) (g.view new) (same was) k.1,
    )
way_fails g root name path left held old mid new (fault.Store told) before same quiet h w = fails_same g old mid new told before same quiet w
way_fails g root name path left held old mid new (fault.Tool e) before same quiet h w = λ clean. same_then (g.view old) (g.view mid) (g.view new) (same (omega (arith, quiet.clean))) (w clean)

-- ---- what is answered

here : (is_raw : Bool) (stored held : Stored) (root : CidParts) (path : List (List ℕ)) (names : List CidParts) → AreOnTheWay stored root path names → AgreeOn names stored held → (well : Bool) (out told : List ℕ)
    → IsAnswerOf (asked_of is_raw) root path held well out told → IsAnswerOf (asked_of is_raw) root path stored well out told
here true stored held root path names passed alike well out told h = bytes_here stored held root path names passed alike well out told h
here false stored held root path names passed alike well out told h = data_here stored held root path names passed alike well out told h

pub answered : (is_raw : Bool) (asked : Asked) (root : CidParts) (path : List (List ℕ)) (old new : View) (held : Stored) → asked ≡ asked_of is_raw → (IsClean new → HoldsWay old root path held) → (well : Bool) (out told : List ℕ)
    → IsAnswerOf asked root path held well out told → IsAnswerIn is_raw root path old new well out told
answered is_raw asked root path old new held is holds well out told h =
    let answer = subst (λ a. IsAnswerOf a root path held well out told) is h in (
      λ clean stored shows. let k = holds clean stored shows in here is_raw stored held root path k.0 k.1 k.2 well out told answer,
      (held, answer),
    )
