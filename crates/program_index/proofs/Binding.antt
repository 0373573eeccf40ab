-- What is refused over blocks that match their CIDs, no other such blocks have.
use Rattle.std.proofs.Common.{◌≡◌, ◌⊎◌, inl, inr, ℕ, zero, suc, List, sym, subst, Option, None, Some}
use Rattle.std.specs.Bool.{⊤}
use Rattle.ipld_tree.specs.Cid.{CidParts, cid_bytes}
use Rattle.ipld_tree.specs.Tree.{Tree, link}
use Rattle.ipld_tree.proofs.Cids.{cid_unique}
use Rattle.dag_pb_model.specs.Refusals.{HasNoModel}
use Rattle.dag_pb_model.specs.declared.error.ModelError.TheVariants.{NameNotText}
use Rattle.dagcbor_decode.specs.Blocks.{IsBlock}
use Rattle.ipld_paths.specs.Finding.{LeadsInto}
use Rattle.ipld_paths.proofs.Ends.{no_part_of_link}
use Rattle.ipld_links.specs.Verdicts.{IsVerified, IsVerdict}
use Rattle.ipld_links.specs.Reaching.{Stored, AreBytesOf}
use Rattle.ipld_links.specs.Collisions.{Collides}
use Rattle.ipld_paths.specs.Resolving.{IsReadUnder, LeadsOn, EndsAs, ResolvesIn, Resolves}
use Rattle.ipld_paths.specs.Laws.{LeadsInBlock, Leads, IsNothing}
use Rattle.ipld_paths.specs.declared.resolution.End.{End}
use Rattle.ipld_paths.specs.declared.resolution.End.TheVariants as ends
use Rattle.ipld_paths.specs.declared.resolution.Resolved.{Resolved}
use Rattle.ipld_paths.proofs.Binding.{one_named, same_block, into_unique, no_end_at_link, paths_bind}
use Rattle.ipld_paths.proofs.Reading.{none_read, not_modelled}
use Rattle.ipld_paths.proofs.Telling.{nothing_is_led_to}
use Rattle.program_index.specs.Ways.{AreVerified}

-- ---- the same way

-- if one path goes on, so does the other
follows : (n : ℕ) (s o : Stored) (name next : CidParts) (path left : List (List ℕ)) (found : Option Tree) → LeadsOn s name path next left → Leads n o name path found → ((m : ℕ) × Leads m o next left found) ⊎ Collides
follows zero s o name next path left found g k = elim (same_block o s name k.0 g.1.0 k.1 g.1.2) [
  | inl is ↦ absurd (no_end_at_link g.1.0 path left g.1.1 next found g.1.3 g.1.4 (subst (λ z. LeadsInBlock z path found) is k.2))
  | inr c ↦ inr c
]
follows (suc n) s o name next path left found g k = elim (same_block s o name g.1.0 k.2.1.0 g.1.2 k.2.1.2) [
  | inl is ↦
      let h = subst (λ z. LeadsInto z path left g.1.1 (link (cid_bytes next))) is g.1.3 in
      let same = into_unique k.2.1.0 path left k.1 g.1.1 k.2.1.1 (link (cid_bytes next)) (link (cid_bytes k.0)) h k.2.1.3 (no_part_of_link left (cid_bytes next) g.1.4) (no_part_of_link k.1 (cid_bytes k.0) k.2.1.4) in
      let cids : cid_bytes next ≡ cid_bytes k.0 = cc same.0 in
      inl (n, subst (λ p. Leads n o next p found) (sym same.1) (subst (λ q. Leads n o q k.1 found) (sym (cid_unique next k.0 g.0 k.2.0 cids)) k.3))
  | inr c ↦ inr c
]

-- ---- a refused block

abbrev IsRefusal : End → Type 0
IsRefusal (ends.NoBlock verdict) = ⊤
IsRefusal ends.NoModel = ⊤
IsRefusal _ = ⊥

verified_under : (s : Stored) (name : CidParts) (b : List ℕ) → AreVerified s → AreBytesOf s name b → IsVerified (name, b)
verified_under s name b v (inl is) = v name b is
verified_under s name b v (inr k) = inr (k.1, k.2)

refused_unread : (s o : Stored) (name : CidParts) (path : List (List ℕ)) (end : End) (x : List ℕ) (t : Tree) → AreVerified s → EndsAs s name path end → IsRefusal end → IsReadUnder o name x → IsBlock x t → Collides
refused_unread s o name path (ends.NoBlock v) x t all h is k block = elim (one_named name h.0 k.0 (verified_under s name h.0 all h.1) k.2) [
  | inl same ↦ absurd (none_read name k.0 x t v k.2 k.3 block (subst (λ z. IsVerdict (name, z) v) same h.2) h.3)
  | inr c ↦ c
]
refused_unread s o name path ends.NoModel x t all h is k block = elim (one_named name h.0 k.0 h.2 k.2) [
  | inl same ↦ absurd (not_modelled name k.0 x NameNotText h.3 (subst (λ z. HasNoModel z NameNotText) same h.4) k.3)
  | inr c ↦ c
]
refused_unread s o name path _ x t all h is k block = absurd is

refused_here : (n : ℕ) (s o : Stored) (name : CidParts) (path : List (List ℕ)) (end : End) (u : Tree) → AreVerified s → EndsAs s name path end → IsRefusal end → Leads n o name path (Some u) → Collides
refused_here zero s o name path end u all h is k = refused_unread s o name path end k.0 k.2.0 all h is k.1 k.2.1
refused_here (suc n) s o name path end u all h is k = refused_unread s o name path end k.2.1.0 k.2.1.1 all h is k.2.1.2 k.2.1.3.block

refused_binds : (m n : ℕ) (s o : Stored) (name : CidParts) (path : List (List ℕ)) (r : Resolved) (u : Tree) → AreVerified s → ResolvesIn m s name path r → IsRefusal r.end → Leads n o name path (Some u) → Collides
refused_binds zero n s o name path r u all h is k = refused_here n s o name path r.end u all h.2 is k
refused_binds (suc m) n s o name path r u all h is k = elim (follows n s o name h.0 path h.1 (Some u) h.2 k) [
  | inl more ↦ refused_binds m more.0 s o h.0 h.1 r u all h.3 is more.1
  | inr c ↦ c
]

-- ---- a path that leads to no item

-- it leads nowhere, but not for lack of a block
abbrev pub IsFailure : End → Type 0
IsFailure (ends.NoSuchPath left) = ⊤
IsFailure (ends.NoBlock verdict) = ⊤
IsFailure ends.NoModel = ⊤
IsFailure _ = ⊥

why_failed : (end : End) → IsFailure end → IsNothing end ⊎ IsRefusal end
why_failed (ends.NoSuchPath left) is = inl tt
why_failed (ends.NoBlock verdict) is = inr tt
why_failed ends.NoModel is = inr tt
why_failed _ is = absurd is

pub failure_binds : (n : ℕ) (s o : Stored) (root : CidParts) (path : List (List ℕ)) (r : Resolved) (u : Tree) → AreVerified s → Resolves s root path r → IsFailure r.end → Leads n o root path (Some u) → Collides
failure_binds n s o root path r u all h is k = elim (why_failed r.end is) [
  | inl nothing ↦
      let none = nothing_is_led_to s root path r h nothing in
      elim (paths_bind s o none.0 n root path None (Some u) none.1 k) [ inl e ↦ absurd (let clash : None ≡ Some u = e in cc clash) | inr c ↦ c ]
  | inr refused ↦ refused_binds h.0 n s o root path r u all h.1 refused k
]
