-- The blocks on the way of a path determine where it ends.
use Rattle.std.proofs.Common.{◌≡◌, ◌↔◌, inl, inr, arith, ℕ, zero, suc, List, [], ◌∷◌, refl, subst, Option, None, Some}
use Rattle.ipld_tree.specs.Cid.{CidParts, cid_bytes}
use Rattle.ipld_tree.specs.Tree.{Tree, link}
use Rattle.ipld_tree.proofs.Cids.{cid_unique}
use Rattle.ipld_paths.specs.Paths.{segments}
use Rattle.ipld_paths.specs.Finding.{LeadsInto}
use Rattle.ipld_paths.proofs.Ends.{no_part_of_link}
use Rattle.ipld_links.specs.Reaching.{Stored, AreBytesOf}
use Rattle.ipld_links.specs.Verdicts.{IsVerified, IsVerdict}
use Rattle.ipld_links.specs.declared.verdict.Verdict.{Verdict}
use Rattle.ipld_paths.specs.Resolving.{IsReadAs, IsReadUnder, LeadsOn, IsNoBlock, HasNoModelUnder, EndsAs, ResolvesIn, IsEndlessAfter, GoesOver}
use Rattle.ipld_paths.specs.Laws.{LeadsInBlock, Leads, AgreeOn, WaysDecideEnds, WaysDecideItems}
use Rattle.ipld_paths.specs.declared.resolution.End.{End}
use Rattle.ipld_paths.specs.declared.resolution.End.TheVariants as ends
use Rattle.ipld_paths.specs.declared.resolution.Resolved.{Resolved}
use Rattle.ipld_paths.proofs.Binding.{into_unique, no_end_at_link}
use Rattle.dag_pb_model.specs.declared.error.ModelError.TheVariants.{NameNotText}
use Rattle.ipld_paths.proofs.Reading.{none_read, not_modelled}
use Rattle.ipld_paths.proofs.Telling.{bytes_unique, read_unique}

-- ---- in one store

-- it goes on to one block at most
pub go_unique : (s : Stored) (name next also : CidParts) (path left more : List (List ℕ)) → LeadsOn s name path next left → LeadsOn s name path also more → (next ≡ also) × (left ≡ more)
go_unique s name next also path left more g k =
    let is = read_unique s name g.1.0 k.1.0 g.1.2 k.1.2 in
    let h = subst (λ z. LeadsInto z path left g.1.1 (link (cid_bytes next))) is g.1.3 in
    let same = into_unique k.1.0 path left more g.1.1 k.1.1 (link (cid_bytes next)) (link (cid_bytes also)) h k.1.3 (no_part_of_link left (cid_bytes next) g.1.4) (no_part_of_link more (cid_bytes also) k.1.4) in
    let cids : cid_bytes next ≡ cid_bytes also = cc same.0 in
    (cid_unique next also g.0 k.0 cids, same.1)

-- a path does not go on from a block in which it leads to a tree, or to none
led_no_further : (s : Stored) (name next : CidParts) (path left : List (List ℕ)) (found : Option Tree) (x : List ℕ) → IsReadUnder s name x → LeadsInBlock x path found → LeadsOn s name path next left → ⊥
led_no_further s name next path left found x h k g =
    no_end_at_link g.1.0 path left g.1.1 next found g.1.3 g.1.4 (subst (λ z. LeadsInBlock z path found) (read_unique s name x g.1.0 h g.1.2) k)

no_block_goes_on : (s : Stored) (name next : CidParts) (path left : List (List ℕ)) (v : Verdict) (b : List ℕ) → AreBytesOf s name b → IsVerdict (name, b) v → IsNoBlock v → LeadsOn s name path next left → ⊥
no_block_goes_on s name next path left v b h is none g = none_read name b g.1.0 g.1.1 v (subst (λ z. IsVerified (name, z)) same g.1.2.2) (subst (λ z. IsReadAs name z g.1.0) same g.1.2.3) g.1.3.block is none
  where
    same : g.1.2.0 ≡ b
    same = bytes_unique s name g.1.2.0 b g.1.2.1 h

no_model_goes_on : (s : Stored) (name next : CidParts) (path left : List (List ℕ)) → HasNoModelUnder s name → LeadsOn s name path next left → ⊥
no_model_goes_on s name next path left h g = not_modelled name h.0 g.1.0 NameNotText h.3 h.4 (subst (λ z. IsReadAs name z g.1.0) (bytes_unique s name g.1.2.0 h.0 g.1.2.1 h.1) g.1.2.3)

-- a path does not go on from the block at which it ends
pub ends_no_further : (s : Stored) (name : CidParts) (path : List (List ℕ)) (end : End) → EndsAs s name path end → ((n : ℕ) → IsEndlessAfter n end) → GoesOver s name path []
ends_no_further s name path (ends.Item kind place end) h never next left g = led_no_further s name next path left (Some h.2) h.0 h.3 (h.1, h.4, h.5) g
ends_no_further s name path (ends.NoSuchPath more) h never next left g = led_no_further s name next path left None h.0 h.3 (h.1, h.2, segments more.now, h.4, h.5, h.6) g
ends_no_further s name path ends.NotHeld h never next left g = h g.1.2.0 g.1.2.1
ends_no_further s name path ends.NoModel h never next left g = no_model_goes_on s name next path left h g
ends_no_further s name path (ends.NoBlock v) h never next left g = no_block_goes_on s name next path left v h.0 h.1 h.2 h.3 g
ends_no_further s name path ends.Endless h never next left g = absurd (omega (arith, never 0))

-- ---- in another store

-- it has the same bytes under the name
abbrev Agree : Stored → Stored → CidParts → Type 0
Agree s o name = (b : List ℕ) → AreBytesOf s name b ↔ AreBytesOf o name b

turned : (s o : Stored) (names : List CidParts) → AgreeOn names s o → AgreeOn names o s
turned s o names a q m b = ((a q m b).1, (a q m b).0)

read_there : (s o : Stored) (name : CidParts) (b : List ℕ) → Agree s o name → IsReadUnder s name b → IsReadUnder o name b
read_there s o name b a h = (h.0, (a h.0).0 h.1, h.2, h.3)

goes_there : (s o : Stored) (name next : CidParts) (path left : List (List ℕ)) → Agree s o name → LeadsOn s name path next left → LeadsOn o name path next left
goes_there s o name next path left a g = (g.0, (g.1.0, g.1.1, read_there s o name g.1.0 a g.1.2, g.1.3, g.1.4))

ends_there : (s o : Stored) (name : CidParts) (path : List (List ℕ)) (end : End) → Agree s o name → EndsAs s name path end → EndsAs o name path end
ends_there s o name path (ends.Item kind place end) a h = (h.0, h.1, h.2, read_there s o name h.0 a h.3, h.4, h.5, h.6, h.7)
ends_there s o name path (ends.NoSuchPath left) a h = (h.0, h.1, h.2, read_there s o name h.0 a h.3, h.4, h.5, h.6)
ends_there s o name path ends.NotHeld a h = λ b under. h b ((a b).1 under)
ends_there s o name path (ends.NoBlock v) a h = (h.0, (a h.0).0 h.1, h.2, h.3)
ends_there s o name path ends.NoModel a h = (h.0, (a h.0).0 h.1, h.2, h.3, h.4)
ends_there s o name path ends.Endless a h = tt

over_there : (s o : Stored) (name : CidParts) (path : List (List ℕ)) (more : List CidParts) → AgreeOn (name ∷ more) s o → GoesOver s name path more → GoesOver o name path more
over_there s o name path [] a h = λ next left g. h next left (goes_there o s name next path left (turned s o (name ∷ []) a name (inl refl)) g)
over_there s o name path (next ∷ more) a h = (
  h.0,
  goes_there s o name next path h.0 (a name (inl refl)) h.1,
  over_there s o next h.0 more (λ q m. a q (inr m)) h.2,
)

resolves_there : (n : ℕ) (s o : Stored) (name : CidParts) (path : List (List ℕ)) (more : List CidParts) (r : Resolved) → AgreeOn (name ∷ more) s o → GoesOver s name path more → ResolvesIn n s name path r → ResolvesIn n o name path r
resolves_there zero s o name path more r a w h = (h.0, h.1, ends_there s o name path r.end (a name (inl refl)) h.2)
resolves_there (suc n) s o name path [] r a w h = absurd (w h.0 h.1 h.2)
resolves_there (suc n) s o name path (next ∷ more) r a w h =
    let same = go_unique s name next h.0 path w.0 h.1 w.1 h.2 in
    let over = subst (λ q. GoesOver s q h.1 more) same.0 (subst (λ p. GoesOver s next p more) same.1 w.2) in
    (h.0, h.1, goes_there s o name h.0 path h.1 (a name (inl refl)) h.2, resolves_there n s o h.0 h.1 more r (subst (λ q. AgreeOn (q ∷ more) s o) same.0 (λ q m. a q (inr m))) over h.3)

leads_there : (n : ℕ) (s o : Stored) (name : CidParts) (path : List (List ℕ)) (more : List CidParts) (found : Option Tree) → AgreeOn (name ∷ more) s o → GoesOver s name path more → Leads n s name path found → Leads n o name path found
leads_there zero s o name path more found a w h = (h.0, read_there s o name h.0 (a name (inl refl)) h.1, h.2)
leads_there (suc n) s o name path [] found a w h = absurd (w h.0 h.1 h.2)
leads_there (suc n) s o name path (next ∷ more) found a w h =
    let same = go_unique s name next h.0 path w.0 h.1 w.1 h.2 in
    let over = subst (λ q. GoesOver s q h.1 more) same.0 (subst (λ p. GoesOver s next p more) same.1 w.2) in
    (h.0, h.1, goes_there s o name h.0 path h.1 (a name (inl refl)) h.2, leads_there n s o h.0 h.1 more found (subst (λ q. AgreeOn (q ∷ more) s o) same.0 (λ q m. a q (inr m))) over h.3)

pub ends_decided : WaysDecideEnds
ends_decided s o root path names w a r =
    let agree = subst (λ ns. AgreeOn ns s o) w.1 a in (
      λ h. (h.0, resolves_there h.0 s o root path w.0 r agree w.2 h.1, h.2),
      λ h. (h.0, resolves_there h.0 o s root path w.0 r (turned s o (root ∷ w.0) agree) (over_there s o root path w.0 agree w.2) h.1, h.2),
    )

pub items_decided : WaysDecideItems
items_decided s o root path names w a n found =
    let agree = subst (λ ns. AgreeOn ns s o) w.1 a in (
      λ h. leads_there n s o root path w.0 found agree w.2 h,
      λ h. leads_there n o s root path w.0 found (turned s o (root ∷ w.0) agree) (over_there s o root path w.0 agree w.2) h,
    )
