-- The blocks of a store that links lead to from a root, and the CAR file of them.
use Rattle.std.proofs.Common.{◌≡◌, inl, inr, ℕ, zero, suc, ◌+◌, ◌<◌, ◌≤◌, List, [], ◌∷◌, ◌++◌, length, get_or, drop, ◌==◌, true, false, refl, sym, ap, ◌∙◌, subst, arith, append_assoc, append-nil, ◌↔◌, Option, None, Some, is_some, option_map, option_to_list, Vec, Global, drop-cons, eqb-true}
use Rattle.std.specs.List.{AllByRecursion}
use Rattle.std.proofs.lemmas.List.{drop_all, nil_from_length}
use Rattle.sqlite_trees.specs.Tree.{Trees}
use Rattle.sqlite_trees.specs.View.{View, IsClean}
use Rattle.sqlite_trees.specs.declared.store.Store.{Ghosts}
use Rattle.dagcbor_heads.specs.Written.{Written, WroteAll, Stops}
use Rattle.dagcbor_heads.proofs.Writing.{WroteAll_then, Stops-then}
use Rattle.ipld_tree.specs.Cid.{CidParts, cid_bytes}
use Rattle.ipld_links.specs.Names.{IsInline}
use Rattle.files_car.specs.Car.{Section, header_bytes, section_bytes, car_bytes, IsHeader, IsSection}
use Rattle.ipld_links.specs.Sets.{Among}
use Rattle.ipld_links.specs.Reaching.{Stored, IsThere, IsLost, ListsReachable}
use Rattle.files_car.specs.Reached.{sections_at}
use Rattle.ipld_links.specs.declared.reach.Reached.{Reached}
use Rattle.ipld_links.proofs.Reaching.{none_found}
use Rattle.files_car.proofs.Writing.{sections_left}
use Rattle.store_rows.specs.Rows.{name_tree, IsStored, IsListed}
use Rattle.store_on_disk.specs.Stored.{IsNamedBy, HoldsOnly, GetsSome, ListsName, IsSame, FindsSo}
use Rattle.store_on_disk.specs.Walking.{AreAllNamed, HeaderUnwritten}
use Rattle.store_on_disk.specs.Trees.{ShowsStored, OfStored, Reaches, ReachRefused, AreFirstReached, WritesTree, TreeRefused, AreFirstAt, NamedRefused, NamesRefused, NamedUnwritten, WritesNames, NamesUnwritten}
use Rattle.store_on_disk.specs.declared.error.StoreRefusal.{StoreRefusal}
use Rattle.store_on_disk.specs.declared.error.StoreRefusal.TheVariants as refusal
use Rattle.store_on_disk.specs.declared.car_error.WriteCarError.{WriteCarError}
use Rattle.store_on_disk.specs.declared.car_error.WriteCarError.TheVariants as car
use Rattle.store_on_disk.specs.declared.car_error.WriteTreeError.TheVariants as tree
use Rattle.store_rows.proofs.Surveying.{all_more}
use Rattle.store_rows.specs.Ends.{Quiet}
use Rattle.store_on_disk.proofs.Adding.{quiet_itself, quiet_then}
use Rattle.store_on_disk.proofs.Walking.{holds_same, damaged_same, same_itself, same_then, fails_same, not_unread, car_push}

-- ---- what is stored

pub shows_same : (old mid : View) (stored : Stored) → IsSame old mid → ShowsStored old stored → ShowsStored mid stored
shows_same old mid stored same h = subst (λ (t : Trees). (q : CidParts) (b : List ℕ) → (stored q ≡ Some b) ↔ IsStored t (cid_bytes q) b) (sym same.trees) h

pub got_stored : (v : View) (stored : Stored) (name : CidParts) (found : Option (List ℕ)) → ShowsStored v stored → GetsSome v name found → stored name ≡ found
got_stored v stored name (Some b) shows gets = (shows name b).1 gets.0
got_stored v stored name None shows none = nothing (stored name) refl
  where
    nothing : (o : Option (List ℕ)) → stored name ≡ o → stored name ≡ None
    nothing None e = e
    nothing (Some b) e = let s = (shows name b).0 e in absurd (none (s.id, s.listed))

-- ---- the names of a file

at_among : {X : Type 0} (xs : List X) (i : ℕ) (x : X) → i < length xs → x ≡ get_or xs i x → Among x xs
at_among {X} xs i x lt is = later i xs (subst (Among x) (sym (drop-cons xs i x lt)) (inl is))
  where
    later : (n : ℕ) (ys : List X) → Among x (drop n ys) → Among x ys
    later zero ys m = m
    later (suc n) [] m = absurd m
    later (suc n) (y ∷ ys) m = inr (later n ys m)

push_at : (v : View) (names : List CidParts) (ss : List Section) (i : ℕ) (name : CidParts) (b : List ℕ) → i < length names → name ≡ get_or names i name → HoldsOnly v name b → OfStored v (λ stored. ss ++ sections_at stored (drop i names) ≡ sections_at stored names)
    → OfStored v (λ stored. (ss ++ (name, b) ∷ []) ++ sections_at stored (drop (i + 1) names) ≡ sections_at stored names)
push_at v names ss i name b lt is holds h stored shows =
    let at : stored name ≡ Some b = (shows name b).1 holds.0 in
    let rest = sections_at stored (drop (i + 1) names) in
    append_assoc ss ((name, b) ∷ []) rest
    ∙ ap (λ l. ss ++ l) (ap (λ (o : Option (List ℕ)). option_to_list (option_map (λ c. (name, c)) o) ++ rest) (sym at) ∙ sym (sections_left stored names i name lt is))
    ∙ h stored shows

-- the root is not lost if something was found, or if it holds its block inline
pub not_lost : (stored : Stored) (root : CidParts) (found : List CidParts) → ListsReachable stored root found → (found ≡ [] → IsInline root) → IsLost stored root → ⊥
not_lost stored root [] l either gone = gone.1 (either refl)
not_lost stored root (x ∷ xs) l either gone = ((none_found stored root gone).lists.all x).1 ((l.lists.all x).0 (inl refl))

pub lost_root : (stored : Stored) (root : CidParts) (found : List CidParts) → ListsReachable stored root found → found ≡ [] → (IsInline root → ⊥) → IsLost stored root
lost_root stored root found l none other = (nothing (stored root) refl, other)
  where
    nothing : (o : Option (List ℕ)) → stored root ≡ o → stored root ≡ None
    nothing None e = e
    nothing (Some b) e = let f = l.first (ap is_some e) in absurd (cc (sym none ∙ f.1))

pub none_there : (v : Vec CidParts Global) → true ≡ (v.len == 0) → v.items ≡ []
none_there v e = nil_from_length v.items (sym v.ok.0 ∙ eqb-true v.len 0 (sym e))

pub some_there : (v : Vec CidParts Global) → false ≡ (v.len == 0) → v.items ≡ [] → ⊥
some_there v e none = let clash : false ≡ true = e ∙ ap (λ n. n == 0) (v.ok.0 ∙ ap length none) in absurd (cc clash)

pub listed_there : (v : View) (stored : Stored) (name : CidParts) → ShowsStored v stored → IsThere stored name → ListsName v name
listed_there v stored name shows there = some (stored name) refl
  where
    some : (o : Option (List ℕ)) → stored name ≡ o → ListsName v name
    some None e = let clash : true ≡ false = sym there ∙ ap is_some e in absurd (cc clash)
    some (Some b) e = let s = (shows name b).0 e in (s.id, s.listed)

module _ {S : Type 0} (g : Ghosts S) where
  -- ---- a file

  -- how much of the CAR file of these names was written
  pub record IsTreeWritten (root : CidParts) (names : List CidParts) (old : S) (before : Written) (i : ℕ) (sections : List Section) (now : Written) (mid : S) : Type 0 where
    pub header : IsHeader (cid_bytes root ∷ [])
    pub named : AreAllNamed sections
    pub sections_are : AllByRecursion IsSection sections
    pub wrote : WroteAll (Some (car_bytes (cid_bytes root ∷ []) sections)) before now
    pub walked : IsClean (g.view mid) → IsSame (g.view old) (g.view mid) × OfStored (g.view old) (λ stored. sections ++ sections_at stored (drop i names) ≡ sections_at stored names)
    pub quiet : Quiet g old mid

  module _ (root : CidParts) (names : List CidParts) (old : S) (before : Written) where
    pub tree_begun : (now : Written) → IsHeader (cid_bytes root ∷ []) → WroteAll (Some (header_bytes (cid_bytes root ∷ []))) before now → IsTreeWritten root names old before 0 [] now old
    tree_begun now header wrote = record {
      header = header;
      named = tt;
      sections_are = tt;
      wrote = subst (λ b. WroteAll (Some b) before now) (sym (append-nil (header_bytes (cid_bytes root ∷ [])))) wrote;
      walked = λ clean. (same_itself (g.view old), λ stored shows. refl);
      quiet = quiet_itself g old;
    }

    pub tree_unbegun : {E : Type 0} (after : Written) (e : WriteCarError E) → HeaderUnwritten (cid_bytes root ∷ []) before after e → NamesUnwritten g root names old before e after old
    tree_unbegun after (car.Store told) stops = absurd stops
    tree_unbegun after (car.Write e) stops = record {
      sections = [];
      named = tt;
      stops = subst (λ b. Stops (Some b) before after e) (sym (append-nil (header_bytes (cid_bytes root ∷ [])))) stops;
      are_so = λ clean. ((names, λ stored shows. refl), same_itself (g.view old));
    }

    module _ (mid new : S) (now after : Written) (i : ℕ) (ss : List Section) (h : IsTreeWritten root names old before i ss now mid) (quiet : Quiet g mid new) where
      before_clean : IsClean (g.view new) → IsSame (g.view old) (g.view mid) × OfStored (g.view old) (λ stored. ss ++ sections_at stored (drop i names) ≡ sections_at stored names)
      before_clean clean = h.walked (omega (arith, quiet.clean))

      more_clean : (name : CidParts) (b : List ℕ) → i < length names → name ≡ get_or names i name → FindsSo g mid new (λ v. HoldsOnly v name b)
          → IsClean (g.view new) → IsSame (g.view old) (g.view new) × OfStored (g.view old) (λ stored. (ss ++ (name, b) ∷ []) ++ sections_at stored (drop (i + 1) names) ≡ sections_at stored names)
      more_clean name b lt is next clean =
          let w = before_clean clean in
          let n = next clean in (
            same_then (g.view old) (g.view mid) (g.view new) w.0 n.1,
            push_at (g.view old) names ss i name b lt is (holds_same (g.view old) (g.view mid) name b w.0 n.0) w.1,
          )

      pub tree_more : (name : CidParts) (b : List ℕ) → i < length names → name ≡ get_or names i name → IsNamedBy name b → IsSection (name, b) → WroteAll (Some (section_bytes (name, b))) now after
          → FindsSo g mid new (λ v. HoldsOnly v name b) → IsTreeWritten root names old before (i + 1) (ss ++ (name, b) ∷ []) after new
      tree_more name b lt is named own wrote next = record {
        header = h.header;
        named = all_more (λ (s : Section). IsNamedBy s.0 s.1) ss (name, b) h.named named;
        sections_are = all_more IsSection ss (name, b) h.sections_are own;
        wrote = subst (λ t. WroteAll (Some t) before after) (car_push g (cid_bytes root ∷ []) ss (name, b)) (WroteAll_then (Some (car_bytes (cid_bytes root ∷ []) ss)) (Some (section_bytes (name, b))) before now after h.wrote wrote);
        walked = more_clean name b lt is next;
        quiet = quiet_then g old mid new h.quiet quiet;
      }

      named_refused : (name : CidParts) (told : StoreRefusal) → i < length names → name ≡ get_or names i name → NamedRefused g name mid new told → NamesRefused g names old new told
      named_refused name (refusal.Damaged n) lt is p = (
        subst (λ x. Among x names) (sym p.0) (at_among names i name lt is),
        λ clean.
            let s = (before_clean clean).0 in
            let k = p.1 clean in (
              λ l. damaged_same (g.view old) (g.view mid) n s (k.0 (subst (λ (t : Trees). IsListed (t name_tree) (cid_bytes n)) (sym s.trees) l)),
              same_then (g.view old) (g.view mid) (g.view new) s k.1,
            ),
      )
      named_refused name told lt is p = fails_same g old mid new told h.quiet (λ clean. (h.walked clean).0) quiet p

      pub tree_stopped : {E : Type 0} (name : CidParts) (e : WriteCarError E) → i < length names → name ≡ get_or names i name → NamedUnwritten g name mid now e after new → NamesUnwritten g root names old before e after new
      tree_stopped name (car.Write e) lt is n = record {
        sections = ss ++ (name, n.bytes) ∷ [];
        named = all_more (λ (s : Section). IsNamedBy s.0 s.1) ss (name, n.bytes) h.named n.named;
        stops = subst (λ t. Stops (Some t) before after e) (car_push g (cid_bytes root ∷ []) ss (name, n.bytes)) (Stops-then (Some (car_bytes (cid_bytes root ∷ []) ss)) (Some (section_bytes (name, n.bytes))) before now after e h.wrote n.stops);
        are_so = λ clean. let k = more_clean name n.bytes lt is n.is_so clean in ((drop (i + 1) names, k.1), k.0);
      }
      tree_stopped name (car.Store told) lt is n = (
        record {
          sections = ss;
          named = h.named;
          wrote = subst (λ w. WroteAll (Some (car_bytes (cid_bytes root ∷ []) ss)) before w) (sym n.0) h.wrote;
          are_so = λ clean. (drop i names, (before_clean clean).1);
        },
        named_refused name told lt is n.1,
      )

    pub tree_done : (mid : S) (now : Written) (i : ℕ) (ss : List Section) → length names ≤ i → IsTreeWritten root names old before i ss now mid → WritesNames g root names old before now mid
    tree_done mid now i ss end h = record {
      sections = ss;
      named = h.named;
      wrote = h.wrote;
      is_car = record { header = h.header; all = h.sections_are; is = refl };
      are_so = λ clean.
          let w = h.walked clean in
          (λ stored shows. sym (append-nil ss) ∙ ap (λ ns. ss ++ sections_at stored ns) (sym (drop_all i names end)) ∙ w.1 stored shows, w.0);
    }

  -- ---- the call

  module _ (root : CidParts) (old mid : S) (r : Reached) (before : Quiet g old mid) (same : IsClean (g.view mid) → IsSame (g.view old) (g.view mid)) (reached : IsClean (g.view mid) → Reaches (g.view old) root r) where
    pub tree_lost : (E : Type 0) (sent : Written) → r.found.items ≡ [] → (IsInline root → ⊥) → TreeRefused {E = E} g root old sent tree.NotStored sent mid
    tree_lost E sent none other = (refl, λ clean. (λ stored shows. lost_root stored root r.found.items (reached clean stored shows).0 none other, same clean))

    module _ (new : S) (sent after : Written) (quiet : Quiet g mid new) (either : r.found.items ≡ [] → IsInline root) where
      was : IsClean (g.view new) → IsClean (g.view mid)
      was clean = omega (arith, quiet.clean)

      leads : IsClean (g.view new) → OfStored (g.view old) (λ stored. IsLost stored root → ⊥)
      leads clean stored shows = not_lost stored root r.found.items (reached (was clean) stored shows).0 either

      first_reached : (ss : List Section) → IsClean (g.view new) → AreFirstAt r.found.items (g.view mid) ss → OfStored (g.view old) (λ stored. (IsLost stored root → ⊥) × AreFirstReached stored root ss)
      first_reached ss clean f stored shows = (
        leads clean stored shows,
        (sections_at stored f.0, (r.found.items, (reached (was clean) stored shows).0, f.1 stored (shows_same (g.view old) (g.view mid) stored (same (was clean)) shows))),
      )

      pub tree_written : WritesNames g root r.found.items mid sent after new → WritesTree g root old sent r.lost.items after new
      tree_written w = record {
        sections = w.sections;
        named = w.named;
        wrote = w.wrote;
        is_car = w.is_car;
        are_so = λ clean. (
          λ stored shows. (
            leads clean stored shows,
            (reached (was clean) stored shows).1,
            (r.found.items, (reached (was clean) stored shows).0, (w.are_so clean).0 stored (shows_same (g.view old) (g.view mid) stored (same (was clean)) shows)),
          ),
          same_then (g.view old) (g.view mid) (g.view new) (same (was clean)) (w.are_so clean).1,
        );
      }

      names_refused : (told : StoreRefusal) → NamesRefused g r.found.items mid new told → ReachRefused g root old new told
      names_refused (refusal.Damaged n) p = λ clean.
          let s = same (was clean) in
          let k = p.1 clean in (
            λ stored shows.
                let q = ((reached (was clean) stored shows).0.lists.all n).0 p.0 in
                (damaged_same (g.view old) (g.view mid) n s (k.0 (listed_there (g.view mid) stored n (shows_same (g.view old) (g.view mid) stored s shows) q.0)), q.1),
            same_then (g.view old) (g.view mid) (g.view new) s k.1,
          )
      names_refused (refusal.LinksUnread n verdict) p = absurd (not_unread g p.error n verdict p.tells)
      names_refused told p = fails_same g old mid new told before same quiet p

      pub tree_refused : {E : Type 0} (e : WriteCarError E) → NamesUnwritten g root r.found.items mid sent e after new → TreeRefused g root old sent (tree.Unwritten e) after new
      tree_refused (car.Write e) n = record {
        sections = n.sections;
        named = n.named;
        stops = n.stops;
        are_so = λ clean. (
          first_reached n.sections clean (n.are_so clean).0,
          same_then (g.view old) (g.view mid) (g.view new) (same (was clean)) (n.are_so clean).1,
        );
      }
      tree_refused (car.Store told) n = (
        names_refused told n.1,
        inr (record { sections = n.0.sections; named = n.0.named; wrote = n.0.wrote; are_so = λ clean. first_reached n.0.sections clean (n.0.are_so clean) }),
      )
