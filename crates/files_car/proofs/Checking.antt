-- A file, section by section: its blocks, its links, and the links that lead to no block.
use Rattle.std.proofs.Common.{◌≡◌, inl, inr, ℕ, List, [], ◌∷◌, ◌++◌, refl, sym, ap, ◌∙◌, subst, ◌↔◌, ◌⊎◌, Result, Ok, Err, OnOk, IfOk, Vec, false, Global}
use Rattle.std.specs.declared.convert.Infallible.{Infallible}
use Rattle.dagcbor_core.specs.declared.error.DecodeError.{DecodeError}
use Rattle.std.specs.List.Sorted.{IsStrictlySortedBy}
use Rattle.ipld_tree.specs.Cid.{CidParts, AreCidParts, cid_bytes, cid_cmp}
use Rattle.ipld_tree.proofs.Cids.{cid_unique}
use Rattle.dagcbor_items.specs.Walks.{forms}
use Rattle.dag_pb.specs.declared.error.PbError.{PbError}
use Rattle.ipld_links.specs.Blocks.{HasLinks}
use Rattle.ipld_links.proofs.Rows.{one_links}
use Rattle.ipld_links.proofs.Linking.{refused_unlinked, no_node_unlinked, unread_unlinked, unknown_unlinked}
use Rattle.files_car.specs.Car.{Section}
use Rattle.ipld_links.specs.Verdicts.{IsVerified, IsVerdict}
use Rattle.ipld_links.specs.Sets.{Among, members, RemovesCid, AreCids}
use Rattle.ipld_links.specs.Held.{IsHeldName, HoldsNone, AddsName, AreNames}
use Rattle.ipld_links.specs.Within.{IsLinkWithin, IsReached, IsReachedName, AddsReached, AddsAll, AddsLinks}
use Rattle.ipld_links.proofs.Within.{HoldsReached, reached_only, reached_of_cids, reached_cid, not_inline}
use Rattle.files_car.specs.Checks.{IsHeldInFile, IsLinkedFrom, NamesNoneInFile, ListsMissingInFile, IsAfter, TakesSection, HoldsName, FollowsLinks}
use Rattle.ipld_links.specs.declared.verdict.Verdict.{Verdict}
use Rattle.ipld_links.specs.declared.verdict.Verdict.TheVariants.{Refused, NoNode, OtherBytes, NotRead, LinksNotRead, Unverified}
use Rattle.ipld_links.specs.declared.cid_set.CidSet.{CidSet}
use Rattle.ipld_links.specs.declared.held.HeldNames.{HeldNames}
use Rattle.files_car.specs.declared.check.CarCheck.{CarCheck}
use Rattle.ipld_links.proofs.Testing.{verified_testable}
use Rattle.ipld_links.proofs.Members.{among_push, push_among, map_among, among_forms}

-- ---- the roots

pub after_header : (roots : List CidParts) (held : HeldNames) (start missing : CidSet) → HoldsNone held → members start ≡ [] → AddsAll roots held start missing → IsAfter record { held = held; missing = missing; failed = false } (forms roots) []
after_header roots held start missing none empty h = record {
  held = λ c. (λ m. absurd (none c m), λ m. absurd m.1);
  names = λ q m. absurd (none q m);
  missing = λ form. (there form, λ l. back form l.0 l.1);
  cids = λ q m. ((whole q).0 m).0;
}
  where
    whole : HoldsReached missing (forms roots)
    whole = reached_only held start missing (forms roots) none empty h.1

    there : (form : List ℕ) → Among form (forms (members missing)) → IsLinkedFrom form (forms roots) [] × NamesNoneInFile form []
    there form m =
        let q = map_among cid_bytes form (members missing) m in
        let w = (whole q.0).0 q.1 in (
          (w.2.0, w.2.1, inl w.2.2, subst (IsLinkWithin w.2.1 w.2.0) (sym q.2) w.2.3),
          (not_inline form q.0 w.0 w.1 q.2, λ s k. absurd k),
        )

    back : (form : List ℕ) → IsLinkedFrom form (forms roots) [] → NamesNoneInFile form [] → Among form (forms (members missing))
    back form (link, n, inl m, w) free =
        let c = reached_of_cids roots form h.0 (link, n, m, w) in
        among_forms form c.0 (members missing) ((whole c.0).1 (c.1, (λ i. free.0 (c.0, c.1, c.2, i)), (link, n, m, subst (IsLinkWithin n link) c.2 w))) c.2
    back form (link, n, inr l, w) free = absurd l.2

-- ---- a section

-- a link stays a link, after one more section
linked_still : (form : List ℕ) (roots : List (List ℕ)) (sections : List Section) (s : Section) → IsLinkedFrom form roots sections → IsLinkedFrom form roots (sections ++ s ∷ [])
linked_still form roots sections s (link, n, inl m, w) = (link, n, inl m, w)
linked_still form roots sections s (link, n, inr l, w) = (link, n, inr (l.0, l.1, push_among l.0 sections s (inl l.2), l.3, l.4, l.5), w)

-- a name joined those of the verified blocks
held_more : (s : Section) (sections : List Section) (old new : HeldNames) → IsVerified s → AddsName s.0 old new → ((c : CidParts) → IsHeldName c old ↔ IsHeldInFile c sections) → (c : CidParts) → IsHeldName c new ↔ IsHeldInFile c (sections ++ s ∷ [])
held_more s sections old new v a h c = (there, back)
  where
    there : IsHeldName c new → IsHeldInFile c (sections ++ s ∷ [])
    there m = elim ((a.1 c).0 m) [
      | inl o ↦ let k = (h c).0 o in (k.0, push_among (c, k.0) sections s (inl k.1), k.2)
      | inr e ↦ (s.1, push_among (c, s.1) sections s (inr (λ i. (e i, s.1))), subst (λ d. IsVerified (d, s.1)) (sym e) v)
    ]

    back : IsHeldInFile c (sections ++ s ∷ []) → IsHeldName c new
    back k = elim (among_push (c, k.0) sections s k.1) [
      | inl m ↦ (a.1 c).1 (inl ((h c).1 (k.0, m, k.2)))
      | inr e ↦ (a.1 c).1 (inr (ap (λ (p : Section). p.0) e))
    ]

names_more : (c : CidParts) (old new : HeldNames) → AddsName c old new → AreNames old → AreNames new
names_more c old new a h q m = elim ((a.1 q).0 m) [ inl o ↦ h q o | inr e ↦ subst AreCidParts (sym e) a.0 ]

-- the form is reached from a link of the section's block, which is verified and of a codec that is
-- read
abbrev IsLinkOf : List ℕ → Section → Type 0
IsLinkOf form s = (links : List (List ℕ)) × IsVerified s × HasLinks s.0.codec s.1 links × IsReached form links

-- a link was a link before, or is one of this section
linked_by : (form : List ℕ) (roots : List (List ℕ)) (sections : List Section) (s : Section) → IsLinkedFrom form roots (sections ++ s ∷ []) → IsLinkedFrom form roots sections ⊎ IsLinkOf form s
linked_by form roots sections s (link, n, inl m, w) = inl (link, n, inl m, w)
linked_by form roots sections s (link, n, inr l, w) = elim (among_push l.0 sections s l.2) [
  | inl m ↦ inl (link, n, inr (l.0, l.1, m, l.3, l.4, l.5), w)
  | inr e ↦ inr (l.1, subst IsVerified e l.3, subst (λ (p : Section). HasLinks p.0.codec p.1 l.1) e l.4, (link, n, l.5, w))
]

-- a form that names no block of more sections names no block of the first ones
none_before : (form : List ℕ) (sections : List Section) (s : Section) → NamesNoneInFile form (sections ++ s ∷ []) → NamesNoneInFile form sections
none_before form sections s none = (none.0, λ k m. none.1 k (push_among k sections s (inl m)))

-- a form that names no block of the first sections, nor of this one, names no block of all
none_more : (form : List ℕ) (sections : List Section) (s : Section) → NamesNoneInFile form sections → (IsVerified s → cid_bytes s.0 ≡ form → ⊥) → NamesNoneInFile form (sections ++ s ∷ [])
none_more form sections s none other = (
  none.0,
  λ k m v e. elim (among_push k sections s m) [
    | inl o ↦ none.1 k o v e
    | inr is ↦ other (subst IsVerified is v) (subst (λ (p : Section). cid_bytes p.0 ≡ form) is e)
  ],
)

-- the name of a verified block is missing no more
name_out : (s : Section) (roots : List (List ℕ)) (sections : List Section) (old new : CidSet) → IsVerified s → AreCidParts s.0 → AreCids old → RemovesCid s.0 old new
    → ((form : List ℕ) → Among form (forms (members old)) ↔ (IsLinkedFrom form roots sections × NamesNoneInFile form sections))
    → (form : List ℕ) → Among form (forms (members new)) ↔ (IsLinkedFrom form roots sections × NamesNoneInFile form (sections ++ s ∷ []))
name_out s roots sections old new v valid cids cut h form = (there, back)
  where
    there : Among form (forms (members new)) → IsLinkedFrom form roots sections × NamesNoneInFile form (sections ++ s ∷ [])
    there m =
        let q = map_among cid_bytes form (members new) m in
        let w = (cut q.0).0 q.1 in
        let o = (h form).0 (among_forms form q.0 (members old) w.0 q.2) in
        (o.0, none_more form sections s o.1 (λ _ e. w.1 (sym (cid_unique s.0 q.0 valid (cids q.0 w.0) (e ∙ q.2)))))

    back : IsLinkedFrom form roots sections × NamesNoneInFile form (sections ++ s ∷ []) → Among form (forms (members new))
    back m =
        let q = map_among cid_bytes form (members old) ((h form).1 (m.0, none_before form sections s m.1)) in
        among_forms form q.0 (members new) ((cut q.0).1 (q.1, λ e. m.1.1 s (push_among s sections s (inr refl)) v (ap cid_bytes (sym e) ∙ sym q.2))) q.2

fewer_cids : (c : CidParts) (old new : CidSet) → RemovesCid c old new → AreCids old → AreCids new
fewer_cids c old new cut h q m = h q ((cut q).0 m).0

-- the links that are not held are missing too
links_in : (s : Section) (links : List (List ℕ)) (roots : List (List ℕ)) (sections : List Section) (held : HeldNames) (old new : CidSet) → IsVerified s → HasLinks s.0.codec s.1 links → AddsReached links held old new
    → AreNames held → ((c : CidParts) → IsHeldName c held ↔ IsHeldInFile c (sections ++ s ∷ []))
    → ((form : List ℕ) → Among form (forms (members old)) ↔ (IsLinkedFrom form roots sections × NamesNoneInFile form (sections ++ s ∷ [])))
    → (form : List ℕ) → Among form (forms (members new)) ↔ (IsLinkedFrom form roots (sections ++ s ∷ []) × NamesNoneInFile form (sections ++ s ∷ []))
links_in s links roots sections held old new v block joins names has h form = (there, back)
  where
    more : List Section
    more = sections ++ s ∷ []

    there : Among form (forms (members new)) → IsLinkedFrom form roots more × NamesNoneInFile form more
    there m =
        let q = map_among cid_bytes form (members new) m in
        elim ((joins q.0).0 q.1) [
          | inl o ↦ let k = (h form).0 (among_forms form q.0 (members old) o q.2) in (linked_still form roots sections s k.0, k.1)
          | inr (r, free) ↦ (
            (r.2.0, r.2.1, inr (s, links, push_among s sections s (inr refl), v, block, r.2.2), subst (IsLinkWithin r.2.1 r.2.0) (sym q.2) r.2.3),
            (
              not_inline form q.0 r.0 r.1 q.2,
              λ k n u e.
                  let found = (has k.0).1 (k.1, n, u) in
                  let same = cid_unique k.0 q.0 (names k.0 found) r.0 (e ∙ q.2) in
                  free (subst (λ c. IsHeldName c held) same found),
            ),
          )
        ]

    joined : IsReached form links → NamesNoneInFile form more → Among form (forms (members new))
    joined r none =
        let q = reached_cid s.0.codec s.1 links form block r in
        let name : IsReachedName q.0 links = (q.1, (λ i. none.0 (q.0, q.1, q.2, i)), (r.0, r.1, r.2, subst (IsLinkWithin r.1 r.0) q.2 r.3)) in
        among_forms form q.0 (members new) ((joins q.0).1 (inr (name, λ found. let w = (has q.0).0 found in none.1 (q.0, w.0) w.1 w.2 (sym q.2)))) q.2

    stays : Among form (forms (members old)) → Among form (forms (members new))
    stays m = let q = map_among cid_bytes form (members old) m in among_forms form q.0 (members new) ((joins q.0).1 (inl q.1)) q.2

    back : IsLinkedFrom form roots more × NamesNoneInFile form more → Among form (forms (members new))
    back m = elim (linked_by form roots sections s m.0) [
      | inl o ↦ stays ((h form).1 (o, m.1))
      | inr k ↦ joined (subst (IsReached form) (one_links s.0.codec s.1 k.0 links k.2 block) k.3) m.1
    ]

more_cids : (links : List (List ℕ)) (held : HeldNames) (old new : CidSet) → AddsReached links held old new → AreCids old → AreCids new
more_cids links held old new joins h q m = elim ((joins q).0 m) [ inl o ↦ h q o | inr w ↦ w.0.0 ]

pub links_followed : {E : Type 0} (codec : ℕ) (b : List ℕ) (old : CarCheck) (after : CidSet) (r : Result (Unit {0}) E) → AddsLinks codec b old.held old.missing r after
    → OnOk r (FollowsLinks codec b old record { held = old.held; missing = after; failed = old.failed })
links_followed codec b old after (Ok u) found = (refl, found)
links_followed codec b old after (Err e) found = tt

-- a verified block of a codec that is read
block_taken : (s : Section) (old mid new : CarCheck) → IsVerified s → HoldsName s.0 old mid → FollowsLinks s.0.codec s.1 mid new → TakesSection s old new
block_taken s old mid new v (a, cut) (same, (links, block, joins)) roots sections h = record {
  held = subst (λ k. (c : CidParts) → IsHeldName c k ↔ IsHeldInFile c (sections ++ s ∷ [])) (sym same) held;
  names = subst AreNames (sym same) names;
  missing = links_in s links roots sections mid.held mid.missing new.missing v block joins names held (name_out s roots sections old.missing mid.missing v a.0 h.cids cut h.missing);
  cids = more_cids links mid.held mid.missing new.missing joins (fewer_cids s.0 old.missing mid.missing cut h.cids);
}
  where
    held : (c : CidParts) → IsHeldName c mid.held ↔ IsHeldInFile c (sections ++ s ∷ [])
    held = held_more s sections old.held mid.held v a h.held

    names : AreNames mid.held
    names = names_more s.0 old.held mid.held a h.names

-- if the section has no links, the links stay the same
links_stay : (s : Section) (roots : List (List ℕ)) (sections : List Section) (missing : CidSet) → ((links : List (List ℕ)) → IsVerified s → HasLinks s.0.codec s.1 links → ⊥)
    → ((form : List ℕ) → Among form (forms (members missing)) ↔ (IsLinkedFrom form roots sections × NamesNoneInFile form (sections ++ s ∷ [])))
    → (form : List ℕ) → Among form (forms (members missing)) ↔ (IsLinkedFrom form roots (sections ++ s ∷ []) × NamesNoneInFile form (sections ++ s ∷ []))
links_stay s roots sections missing none h form = (
  λ m. let w = (h form).0 m in (linked_still form roots sections s w.0, w.1),
  λ m. elim (linked_by form roots sections s m.0) [
    | inl o ↦ (h form).1 (o, m.1)
    | inr k ↦ absurd (none k.0 k.1 k.2)
  ],
)

-- a verified block of which no links are read
named_taken : (s : Section) (old new : CarCheck) → IsVerified s → ((links : List (List ℕ)) → IsVerified s → HasLinks s.0.codec s.1 links → ⊥) → HoldsName s.0 old new → TakesSection s old new
named_taken s old new v none (a, cut) roots sections h = record {
  held = held_more s sections old.held new.held v a h.held;
  names = names_more s.0 old.held new.held a h.names;
  missing = links_stay s roots sections new.missing none (name_out s roots sections old.missing new.missing v a.0 h.cids cut h.missing);
  cids = fewer_cids s.0 old.missing new.missing cut h.cids;
}

-- a block that is not verified
unnamed_taken : (s : Section) (k : CarCheck) → (IsVerified s → ⊥) → TakesSection s k k
unnamed_taken s k none roots sections h = record {
  held = λ c. (
    λ m. let w = (h.held c).0 m in (w.0, push_among (c, w.0) sections s (inl w.1), w.2),
    λ w. elim (among_push (c, w.0) sections s w.1) [
      | inl m ↦ (h.held c).1 (w.0, m, w.2)
      | inr e ↦ absurd (none (subst IsVerified e w.2))
    ],
  );
  names = h.names;
  missing = links_stay s roots sections k.missing (λ ls v b. none v) (λ form. (
    λ m. let w = (h.missing form).0 m in (w.0, none_more form sections s w.1 (λ v e. none v)),
    λ m. (h.missing form).1 (m.0, none_before form sections s m.1),
  ));
  cids = h.cids;
}

-- the state depends on the two sets only
known_same : (k j : CarCheck) (roots : List (List ℕ)) (sections : List Section) → j.held ≡ k.held → j.missing ≡ k.missing → IsAfter k roots sections → IsAfter j roots sections
known_same k j roots sections held missing h = record {
  held = subst (λ x. (c : CidParts) → IsHeldName c x ↔ IsHeldInFile c sections) (sym held) h.held;
  names = subst AreNames (sym held) h.names;
  missing = subst (λ x. (form : List ℕ) → Among form (forms (members x)) ↔ (IsLinkedFrom form roots sections × NamesNoneInFile form sections)) (sym missing) h.missing;
  cids = subst AreCids (sym missing) h.cids;
}

pub taken_same : (s : Section) (old before following new : CarCheck) → before.held ≡ old.held → before.missing ≡ old.missing → new.held ≡ following.held → new.missing ≡ following.missing → TakesSection s before following → TakesSection s old new
taken_same s old before following new a b c d h roots sections k = known_same following new roots (sections ++ s ∷ []) c d (h roots sections (known_same old before roots sections a b k))

-- ---- by the verdict

pub linked_noted : {E : Type 0} (s : Section) (codec : ℕ) (r : Result (Unit {0}) E) (old mid new : CarCheck) → codec ≡ s.0.codec → IsVerified s → HoldsName s.0 old mid → OnOk r (FollowsLinks codec s.1 mid new) → OnOk r (TakesSection s old new)
linked_noted s codec (Ok u) old mid new is v a l = block_taken s old mid new v a (subst (λ n. FollowsLinks n s.1 mid new) is l)
linked_noted s codec (Err e) old mid new is v a l = tt

pub refused_noted : {E : Type 0} (s : Section) (v : Verdict) (x : DecodeError Infallible) (r : Result (Unit {0}) E) (old new : CarCheck) → v ≡ Refused x → IsVerdict s v → OnOk r (HoldsName s.0 old new) → OnOk r (TakesSection s old new)
refused_noted s v x (Ok u) old new is verdict a =
    let w = subst (IsVerdict s) is verdict in
    named_taken s old new w.0 (λ ls _ h. refused_unlinked s x w ls h) a
refused_noted s v x (Err e) old new is verdict a = tt

pub no_node_noted : {E : Type 0} (s : Section) (v : Verdict) (x : PbError) (r : Result (Unit {0}) E) (old new : CarCheck) → v ≡ NoNode x → IsVerdict s v → OnOk r (HoldsName s.0 old new) → OnOk r (TakesSection s old new)
no_node_noted s v x (Ok u) old new is verdict a =
    let w = subst (IsVerdict s) is verdict in
    named_taken s old new w.0 (λ ls _ h. no_node_unlinked s x w ls h) a
no_node_noted s v x (Err e) old new is verdict a = tt

pub unread_noted : {E : Type 0} (s : Section) (v : Verdict) (r : Result (Unit {0}) E) (old new : CarCheck) → v ≡ NotRead → IsVerdict s v → OnOk r (HoldsName s.0 old new) → OnOk r (TakesSection s old new)
unread_noted s v (Ok u) old new is verdict a =
    let w = subst (IsVerdict s) is verdict in
    named_taken s old new w.0 (λ ls _ h. unread_unlinked s w ls h) a
unread_noted s v (Err e) old new is verdict a = tt

pub unknown_noted : {E : Type 0} (s : Section) (v : Verdict) (r : Result (Unit {0}) E) (old new : CarCheck) → v ≡ LinksNotRead → IsVerdict s v → OnOk r (HoldsName s.0 old new) → OnOk r (TakesSection s old new)
unknown_noted s v (Ok u) old new is verdict a =
    let w = subst (IsVerdict s) is verdict in
    named_taken s old new w.0 (λ ls _ h. unknown_unlinked s w ls h) a
unknown_noted s v (Err e) old new is verdict a = tt

pub others_noted : (s : Section) (v : Verdict) (k : CarCheck) → v ≡ OtherBytes → IsVerdict s v → TakesSection s k k
others_noted s v k is verdict =
    let w = subst (IsVerdict s) is verdict in
    unnamed_taken s k w.1

pub unverified_noted : (s : Section) (v : Verdict) (k : CarCheck) → v ≡ Unverified → IsVerdict s v → TakesSection s k k
unverified_noted s v k is verdict =
    let w = subst (IsVerdict s) is verdict in
    unnamed_taken s k (λ named. w (verified_testable s named))

-- ---- missing blocks

pub missing_told : {E : Type 0} (r : Result (Vec CidParts Global) E) (k : CarCheck) (roots : List (List ℕ)) (sections : List Section) → IfOk r (λ v. IsStrictlySortedBy cid_cmp v.items) → IfOk r (λ v. v.items ≡ members k.missing)
    → IsAfter k roots sections → IfOk r (ListsMissingInFile roots sections)
missing_told (Ok v) k roots sections sorted all h = (sorted, subst (λ qs. (form : List ℕ) → Among form (forms qs) ↔ (IsLinkedFrom form roots sections × NamesNoneInFile form sections)) (sym all) h.missing)
missing_told (Err e) k roots sections sorted all h = tt
