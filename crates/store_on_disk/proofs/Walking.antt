-- A walk over the blocks of a store, in the order of their names.
use Rattle.std.proofs.Common.{◌≡◌, inl, inr, ℕ, List, [], ◌∷◌, ◌++◌, Less, refl, sym, ap, ◌∙◌, subst, arith, append_assoc, append-nil, ◌⊎◌, ◌↔◌, Option, None, Some, flat_map}
use Rattle.std.specs.List.{AllByRecursion}
use Rattle.std.proofs.lemmas.Cmp.{nat_list_cmp_total}
use Rattle.sqlite_trees.specs.Tree.{Trees}
use Rattle.sqlite_trees.specs.View.{View, IsClean}
use Rattle.sqlite_trees.specs.declared.store.Store.{Ghosts}
use Rattle.dagcbor_heads.specs.Written.{Written, WroteAll, Stops}
use Rattle.dagcbor_heads.proofs.Writing.{WroteAll_then, Stops-then}
use Rattle.ipld_tree.specs.Cid.{CidParts, AreCidParts, cid_bytes}
use Rattle.files_car.specs.Car.{Section, header_bytes, section_bytes, car_bytes, IsHeader, IsSection, IsCar}
use Rattle.ipld_links.specs.Sets.{Among}
use Rattle.ipld_links.specs.declared.verdict.Verdict.{Verdict}
use Rattle.ipld_links.proofs.Members.{among_push}
use Rattle.files_car.proofs.Places.{flat_push}
use Rattle.store_rows.specs.Rows.{name_tree, name_cmp, IsStored, IsListed}
use Rattle.store_on_disk.specs.Stored.{IsNamedBy, IsAfter, IsNext, GivesNextName, HoldsOnly, IsDamaged, IsSame, FindsSo, FailsByStore, GetRefused, TellsOfStore}
use Rattle.sqlite_trees.specs.declared.error.StoreError.{StoreError}
use Rattle.sqlite_trees.specs.declared.error.StoreError.TheVariants as stored
use Rattle.store_on_disk.specs.Cars.{IsNameIn, IsSectionIn}
use Rattle.store_on_disk.specs.Walking.{AreBefore, AreRising, AreFirstBlocks, AreBlocks, AreAllNamed, WalkRefused, IsOfNext, WriteRefused, HeaderUnwritten, IsNextSection, NextUnwritten}
use Rattle.store_on_disk.specs.declared.error.StoreRefusal.{StoreRefusal}
use Rattle.store_on_disk.specs.declared.error.StoreRefusal.TheVariants as refusal
use Rattle.store_on_disk.specs.declared.car_error.WriteCarError.{WriteCarError}
use Rattle.store_on_disk.specs.declared.car_error.WriteCarError.TheVariants as car
use Rattle.store_rows.proofs.Surveying.{all_more, ascending_more}
use Rattle.store_rows.specs.Ends.{Quiet}
use Rattle.store_on_disk.proofs.Adding.{push_name, quiet_itself, quiet_then, last_same, fails_after}

-- ---- how far a walk has come

pub record IsWalked (v : View) (last : Option CidParts) (sections : List Section) : Type 0 where
  pub valid : (s : Section) → Among s sections → AreCidParts s.0
  pub stored : (s : Section) → Among s sections → HoldsOnly v s.0 s.1
  pub rising : AreRising sections
  pub last_is : (q : List ℕ) → IsAfter last q ↔ AreBefore sections q
  pub reached : (q : List ℕ) → IsListed (v.trees name_tree) q → IsNameIn sections q ⊎ AreBefore sections q

pub walked_none : (v : View) → IsWalked v None []
walked_none v = record { valid = λ s m. absurd m; stored = λ s m. absurd m; rising = tt; last_is = λ q. (λ h. tt, λ h. tt); reached = λ q l. inr tt }

before_then : (ss : List Section) (c q : List ℕ) → AreBefore ss c → name_cmp c q ≡ Less → AreBefore ss q
before_then [] c q all less = tt
before_then (s ∷ ss) c q all less = (nat_list_cmp_total.trans (cid_bytes s.0) c q all.0 less, before_then ss c q all.1 less)

all_last : {X : Type 0} (P : X → Type 0) (xs : List X) (x : X) → AllByRecursion P (xs ++ x ∷ []) → P x
all_last P [] x all = all.0
all_last P (y ∷ ys) x all = all_last P ys x all.1

pub walked_more : (v : View) (last : Option CidParts) (ss : List Section) (c : CidParts) (b : List ℕ) → IsWalked v last ss → IsNext (v.trees name_tree) last c → HoldsOnly v c b → IsWalked v (Some c) (ss ++ (c, b) ∷ [])
walked_more v last ss c b h n holds = record {
  valid = λ s m. elim (among_push s ss (c, b) m) [ inl o ↦ h.valid s o | inr e ↦ subst (λ (x : Section). AreCidParts x.0) (sym e) n.valid ];
  stored = λ s m. elim (among_push s ss (c, b) m) [ inl o ↦ h.stored s o | inr e ↦ subst (λ (x : Section). HoldsOnly v x.0 x.1) (sym e) holds ];
  rising = ascending_more (λ (s t : Section). name_cmp (cid_bytes s.0) (cid_bytes t.0) ≡ Less) ss (c, b) h.rising before;
  last_is = λ q. (
    λ less. all_more (λ (s : Section). name_cmp (cid_bytes s.0) q ≡ Less) ss (c, b) (before_then ss (cid_bytes c) q before less) less,
    λ all. all_last (λ (s : Section). name_cmp (cid_bytes s.0) q ≡ Less) ss (c, b) all,
  );
  reached = λ q l. elim (h.reached q l) [
    | inl m ↦ inl (push_name ss (c, b) q (inl m))
    | inr early ↦ elim (n.first q l ((h.last_is q).1 early)) [
      | inl e ↦ inl (push_name ss (c, b) q (inr (sym e)))
      | inr less ↦ inr (all_more (λ (s : Section). name_cmp (cid_bytes s.0) q ≡ Less) ss (c, b) early less)
    ]
  ];
}
  where
    before : AreBefore ss (cid_bytes c)
    before = (h.last_is (cid_bytes c)).0 n.following

pub first_blocks : (v : View) (last : Option CidParts) (ss : List Section) → IsWalked v last ss → AreFirstBlocks v ss
first_blocks v last ss h = record { stored = h.stored; rising = h.rising; reached = h.reached }

pub all_blocks : (v : View) (last : Option CidParts) (ss : List Section) → IsWalked v last ss → GivesNextName v last None → AreBlocks v ss
all_blocks v last ss h none = record { stored = λ q b. (there q b, back q b); lists = lists; rising = h.rising }
  where
    lists : (q : List ℕ) → IsListed (v.trees name_tree) q → IsNameIn ss q
    lists q l = elim (h.reached q l) [ inl m ↦ m | inr early ↦ absurd (none q l ((h.last_is q).1 early)) ]

    there : (q b : List ℕ) → IsSectionIn ss q b → IsStored v.trees q b
    there q b n = subst (λ d. IsStored v.trees q d) n.3 (subst (λ m. IsStored v.trees m n.0.1) n.2 (h.stored n.0 n.1).0)

    back : (q b : List ℕ) → IsStored v.trees q b → IsSectionIn ss q b
    back q b s =
        let m = lists q (s.id, s.listed) in
        (m.0, m.1, m.2, sym ((h.stored m.0 m.1).1 b (subst (λ n. IsStored v.trees n b) (sym m.2) s)))

-- ---- the same view

pub next_same : (old mid : View) (last : Option CidParts) (c : CidParts) → IsSame old mid → IsNext (mid.trees name_tree) last c → IsNext (old.trees name_tree) last c
next_same old mid last c same h = subst (λ (t : Trees). IsNext (t name_tree) last c) same.trees h

pub holds_same : (old mid : View) (c : CidParts) (b : List ℕ) → IsSame old mid → HoldsOnly mid c b → HoldsOnly old c b
holds_same old mid c b same h = subst (λ (t : Trees). IsStored t (cid_bytes c) b × ((d : List ℕ) → IsStored t (cid_bytes c) d → d ≡ b)) same.trees h

pub none_same : (old mid : View) (last : Option CidParts) → IsSame old mid → GivesNextName mid last None → GivesNextName old last None
none_same old mid last same h = subst (λ (t : Trees). (q : List ℕ) → IsListed (t name_tree) q → IsAfter last q → ⊥) same.trees h

pub damaged_same : (old mid : View) (c : CidParts) → IsSame old mid → IsDamaged mid c → IsDamaged old c
damaged_same old mid c same h = subst (λ (t : Trees). IsListed (t name_tree) (cid_bytes c) × ((b : List ℕ) → IsStored t (cid_bytes c) b → IsNamedBy c b → ⊥)) same.trees h

pub same_itself : (v : View) → IsSame v v
same_itself v = record { trees = refl; committed = refl; is_open = refl; broken = refl }

pub same_then : (a b c : View) → IsSame a b → IsSame b c → IsSame a c
same_then a b c p q = record { trees = q.trees ∙ p.trees; committed = q.committed ∙ p.committed; is_open = q.is_open ∙ p.is_open; broken = q.broken ∙ p.broken }

module _ {S : Type 0} (g : Ghosts S) where
  -- a failure after a call that changed nothing
  pub fails_same : (old mid new : S) (told : StoreRefusal) → Quiet g old mid → (IsClean (g.view mid) → IsSame (g.view old) (g.view mid)) → Quiet g mid new → FailsByStore g ⊥ mid new told → FailsByStore g ⊥ old new told
  fails_same old mid new told before same quiet w =
      fails_after g ⊥ ⊥ old mid new told before (λ clean. omega (arith, quiet.clean)) (λ clean. let s = same clean in (s.broken, last_same (g.view old) (g.view mid) s, λ u. u)) w

  pub walk_refused : (old mid new : S) (told : StoreRefusal) → Quiet g old mid → (IsClean (g.view mid) → IsSame (g.view old) (g.view mid)) → Quiet g mid new → WalkRefused g mid new told → WalkRefused g old new told
  walk_refused old mid new (refusal.Damaged n) before same quiet w = λ clean.
      let k = w clean in
      let s = same (omega (arith, quiet.clean)) in
      (damaged_same (g.view old) (g.view mid) n s k.0, same_then (g.view old) (g.view mid) (g.view new) s k.1)
  walk_refused old mid new told before same quiet w = fails_same old mid new told before same quiet w

  -- ---- the next block

  pub not_damaged : (e : StoreError) (n : CidParts) → TellsOfStore e (refusal.Damaged n) → ⊥
  not_damaged stored.OutOfMemory n h = cc
  not_damaged stored.Broken n (inl h) = cc
  not_damaged stored.Broken n (inr h) = h
  not_damaged _ n h = cc

  pub not_unread : (e : StoreError) (n : CidParts) (verdict : Verdict) → TellsOfStore e (refusal.LinksUnread n verdict) → ⊥
  not_unread stored.OutOfMemory n v h = cc
  not_unread stored.Broken n v (inl h) = cc
  not_unread stored.Broken n v (inr h) = h
  not_unread _ n v h = cc

  pub not_lacking : (e : StoreError) (n : CidParts) → TellsOfStore e (refusal.NoBlock n) → ⊥
  not_lacking stored.OutOfMemory n h = cc
  not_lacking stored.Broken n (inl h) = cc
  not_lacking stored.Broken n (inr h) = h
  not_lacking _ n h = cc

  pub get_of_next : (name : CidParts) (last : Option CidParts) (old mid new : S) (told : StoreRefusal) → (IsClean (g.view new) → IsNext ((g.view old).trees name_tree) last name) → GetRefused g name mid new told → IsOfNext g last old new told
  get_of_next name last old mid new (refusal.Damaged n) next p = λ clean. subst (IsNext ((g.view old).trees name_tree) last) (sym p.0) (next clean)
  get_of_next name last old mid new _ next p = tt

  get_walk : (name : CidParts) (old new : S) (told : StoreRefusal) → GetRefused g name old new told → WalkRefused g old new told
  get_walk name old new (refusal.Damaged n) p = λ clean. let k = p.1 clean in (subst (IsDamaged (g.view old)) (sym p.0) k.0, k.1)
  get_walk name old new told p = p

  pub get_refused_next : (name : CidParts) (old mid new : S) (told : StoreRefusal) → Quiet g old mid → (IsClean (g.view mid) → IsSame (g.view old) (g.view mid)) → Quiet g mid new → GetRefused g name mid new told → WalkRefused g old new told
  get_refused_next name old mid new told before same quiet p = walk_refused old mid new told before same quiet (get_walk name mid new told p)

  -- ---- how much was written

  pub record IsWritten (roots : List (List ℕ)) (old : S) (before : Written) (last : Option CidParts) (sections : List Section) (now : Written) (mid : S) : Type 0 where
    pub header : IsHeader roots
    pub named : AreAllNamed sections
    pub sections_are : AllByRecursion IsSection sections
    pub wrote : WroteAll (Some (car_bytes roots sections)) before now
    pub walked : IsClean (g.view mid) → IsSame (g.view old) (g.view mid) × IsWalked (g.view old) last sections
    pub quiet : Quiet g old mid

  pub written_begun : (roots : List (List ℕ)) (old : S) (before now : Written) → IsHeader roots → WroteAll (Some (header_bytes roots)) before now → IsWritten roots old before None [] now old
  written_begun roots old before now header wrote = record {
    header = header;
    named = tt;
    sections_are = tt;
    wrote = subst (λ b. WroteAll (Some b) before now) (sym (append-nil (header_bytes roots))) wrote;
    walked = λ clean. (same_itself (g.view old), walked_none (g.view old));
    quiet = quiet_itself g old;
  }

  pub car_push : (roots : List (List ℕ)) (ss : List Section) (s : Section) → car_bytes roots ss ++ section_bytes s ≡ car_bytes roots (ss ++ s ∷ [])
  car_push roots ss s = append_assoc (header_bytes roots) (flat_map section_bytes ss) (section_bytes s) ∙ ap (λ more. header_bytes roots ++ more) (sym (flat_push ss s))

  pub written_more : (roots : List (List ℕ)) (old mid new : S) (before now after : Written) (last : Option CidParts) (ss : List Section) (c : CidParts) (b : List ℕ) → IsWritten roots old before last ss now mid → IsNamedBy c b → IsSection (c, b)
      → FindsSo g mid new (λ v. IsNextSection v last (c, b)) → WroteAll (Some (section_bytes (c, b))) now after → Quiet g mid new
      → IsWritten roots old before (Some c) (ss ++ (c, b) ∷ []) after new
  written_more roots old mid new before now after last ss c b h named own next wrote quiet = record {
    header = h.header;
    named = all_more (λ (s : Section). IsNamedBy s.0 s.1) ss (c, b) h.named named;
    sections_are = all_more IsSection ss (c, b) h.sections_are own;
    wrote = subst (λ t. WroteAll (Some t) before after) (car_push roots ss (c, b)) (WroteAll_then (Some (car_bytes roots ss)) (Some (section_bytes (c, b))) before now after h.wrote wrote);
    walked = λ clean.
        let w = h.walked (omega (arith, quiet.clean)) in
        let n = next clean in (
          same_then (g.view old) (g.view mid) (g.view new) w.0 n.1,
          walked_more (g.view old) last ss c b w.1 (next_same (g.view old) (g.view mid) last c w.0 n.0.0) (holds_same (g.view old) (g.view mid) c b w.0 n.0.1),
        );
    quiet = quiet_then g old mid new h.quiet quiet;
  }

  pub header_unwritten : {E : Type 0} (roots : List (List ℕ)) (old : S) (before after : Written) (e : WriteCarError E) → HeaderUnwritten roots before after e → WriteRefused g roots old before e after old
  header_unwritten roots old before after (car.Store told) stops = absurd stops
  header_unwritten roots old before after (car.Write e) stops = record {
    sections = [];
    named = tt;
    stops = subst (λ b. Stops (Some b) before after e) (sym (append-nil (header_bytes roots))) stops;
    are_so = λ clean. (first_blocks (g.view old) None [] (walked_none (g.view old)), same_itself (g.view old));
  }

  pub next_unwritten : {E : Type 0} (roots : List (List ℕ)) (old mid new : S) (before now after : Written) (last : Option CidParts) (ss : List Section) (e : WriteCarError E) → IsWritten roots old before last ss now mid → Quiet g mid new
      → NextUnwritten g last mid now e after new → WriteRefused g roots old before e after new
  next_unwritten roots old mid new before now after last ss (car.Write e) h quiet (c, n) = record {
    sections = ss ++ (c, n.bytes) ∷ [];
    named = all_more (λ (s : Section). IsNamedBy s.0 s.1) ss (c, n.bytes) h.named n.named;
    stops = subst (λ t. Stops (Some t) before after e) (car_push roots ss (c, n.bytes)) (Stops-then (Some (car_bytes roots ss)) (Some (section_bytes (c, n.bytes))) before now after e h.wrote n.stops);
    are_so = λ clean.
        let w = h.walked (omega (arith, quiet.clean)) in
        let k = n.is_so clean in (
          first_blocks (g.view old) (Some c) (ss ++ (c, n.bytes) ∷ []) (walked_more (g.view old) last ss c n.bytes w.1 (next_same (g.view old) (g.view mid) last c w.0 k.0.0) (holds_same (g.view old) (g.view mid) c n.bytes w.0 k.0.1)),
          same_then (g.view old) (g.view mid) (g.view new) w.0 k.1,
        );
  }
  next_unwritten roots old mid new before now after last ss (car.Store told) h quiet n = (
    record {
      sections = ss;
      named = h.named;
      wrote = subst (λ w. WroteAll (Some (car_bytes roots ss)) before w) (sym n.0) h.wrote;
      are_so = λ clean. first_blocks (g.view old) last ss (h.walked (omega (arith, quiet.clean))).1;
    },
    walk_refused old mid new told h.quiet (λ clean. (h.walked clean).0) quiet n.1,
  )

  pub is_car : (roots : List (List ℕ)) (old mid : S) (before now : Written) (last : Option CidParts) (ss : List Section) → IsWritten roots old before last ss now mid → IsCar (car_bytes roots ss) roots ss
  is_car roots old mid before now last ss h = record { header = h.header; all = h.sections_are; is = refl }

  -- the walk gave up, and what was not committed is undone
  pub gave_up : (roots : List (List ℕ)) (old mid new : S) (before now : Written) (last : Option CidParts) (ss : List Section) (told : StoreRefusal) → IsWritten roots old before last ss now mid → Quiet g mid new → WalkRefused g mid new told
      → WriteRefused {E = ℕ} g roots old before (car.Store told) now new
  gave_up roots old mid new before now last ss told h quiet w = next_unwritten {E = ℕ} roots old mid new before now now last ss (car.Store told) h quiet (refl, w)
