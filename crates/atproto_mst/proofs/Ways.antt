-- The way of a key over nodes.
use Rattle.std.proofs.Common.{◌≡◌, inl, inr, ℕ, zero, suc, ◌+◌, ◌-◌, ◌<◌, List, [], ◌∷◌, ◌++◌, Option, Some, None, refl, sym, ap, ◌∙◌, subst, append_assoc}
use Rattle.ipld_tree.specs.Cid.{CidParts}
use Rattle.ipld_links.specs.Reaching.{Stored}
use Rattle.atproto_mst.specs.Nodes.{NodeParts, IsNodeAt}
use Rattle.atproto_mst.specs.Walks.{most_layers}
use Rattle.atproto_mst.specs.Finding.{seek_in, FindsBelow, FindsRecord, WayBelow, IsWay}
use Rattle.atproto_mst.specs.Laws.{AreSameUnder, WaysDecideRecords, WaysLead}
use Rattle.atproto_mst.specs.declared.find.Sought.{Sought}
use Rattle.atproto_mst.specs.declared.find.Sought.TheVariants as sought
use Rattle.atproto_mst.proofs.Nodes.{same_node_at}
use Rattle.atproto_mst.proofs.Searching.{layers_left, finds_never_stops}

-- ---- the search, layer by layer

-- the names on the way from this node, after those already read, are those from the root
pub record WentTo (most : ℕ) (stored : Stored) (key : List ℕ) (root : CidParts) (layer : ℕ) (name : CidParts) (names : List CidParts) : Type 0 where
  pub all : (more : List CidParts) → IsWay (most - layer) stored key name more → IsWay most stored key root (names ++ more)

module _ (most : ℕ) (stored : Stored) (key : List ℕ) (root name : CidParts) (layer : ℕ) (names after : List CidParts) (lt : layer < most) (went : WentTo most stored key root layer name names) (is : after ≡ names ++ name ∷ []) (p : NodeParts) (at : IsNodeAt stored name p) (s : Sought) (says : s ≡ seek_in key p) where
  goes_here : (more : List CidParts) → WayBelow (IsWay (most - (layer + 1)) stored key) s more → IsWay most stored key root (after ++ more)
  goes_here more h = subst (IsWay most stored key root) (sym (append_assoc names (name ∷ []) more) ∙ ap (λ ns. ns ++ more) (sym is))
      (went.all (name ∷ more) (subst (λ m. IsWay m stored key name (name ∷ more)) (layers_left most layer lt) (p, at, (more, refl, subst (λ y. WayBelow (IsWay (most - (layer + 1)) stored key) y more) says h))))

  ends_here : WayBelow (IsWay (most - (layer + 1)) stored key) s [] → IsWay most stored key root after
  ends_here h = subst (IsWay most stored key root) (sym (none_after after)) (goes_here [] h)
    where
      none_after : (ns : List CidParts) → ns ≡ ns ++ []
      none_after [] = refl
      none_after (n ∷ ns) = ap (λ xs. n ∷ xs) (none_after ns)

  pub way_to_record : (value : CidParts) → s ≡ sought.Record value → IsWay most stored key root after
  way_to_record value e = ends_here (subst (λ y. WayBelow (IsWay (most - (layer + 1)) stored key) y []) (sym e) refl)

  pub way_to_none : s ≡ sought.Below None → IsWay most stored key root after
  way_to_none e = ends_here (subst (λ y. WayBelow (IsWay (most - (layer + 1)) stored key) y []) (sym e) refl)

  pub way_goes_on : (next : CidParts) → s ≡ sought.Below (Some next) → WentTo most stored key root (layer + 1) next after
  way_goes_on next e = record { all = λ more h. goes_here more (subst (λ y. WayBelow (IsWay (most - (layer + 1)) stored key) y more) (sym e) h) }

-- ---- what the way decides

below_leads : (F : CidParts → Option CidParts → Type 0) (W : CidParts → List CidParts → Type 0) (s : Sought) (names : List CidParts)
    → ((next : CidParts) (more : List CidParts) → W next more → (found : Option CidParts) × F next found) → WayBelow W s names → (found : Option CidParts) × FindsBelow F s found
below_leads F W (sought.Record value) names h w = (Some value, refl)
below_leads F W (sought.Below None) names h w = (None, refl)
below_leads F W (sought.Below (Some next)) names h w = h next names w
below_leads F W sought.KeyFront names h w = absurd w

-- a way leads to an answer
pub way_leads : (m : ℕ) (stored : Stored) (key : List ℕ) (name : CidParts) (names : List CidParts) → IsWay m stored key name names → (found : Option CidParts) × FindsRecord m stored key name found
way_leads zero stored key name names w = absurd w
way_leads (suc m) stored key name names w =
    let below = below_leads (FindsRecord m stored key) (IsWay m stored key) (seek_in key w.0) w.2.0 (way_leads m stored key) w.2.2 in
    (below.0, (w.0, w.1, below.1))

node_there : (stored other : Stored) (name : CidParts) (p : NodeParts) → stored name ≡ other name → IsNodeAt stored name p → IsNodeAt other name p
node_there stored other name p e h = record { block = h.block; is = sym e ∙ h.is; named = h.named; node = h.node }

way_below_there : (V W : CidParts → List CidParts → Type 0) (s : Sought) (names : List CidParts)
    → ((next : CidParts) → V next names → W next names) → WayBelow V s names → WayBelow W s names
way_below_there V W (sought.Record value) names h w = w
way_below_there V W (sought.Below None) names h w = w
way_below_there V W (sought.Below (Some next)) names h w = h next w
way_below_there V W sought.KeyFront names h w = absurd w

-- another store that agrees has the same way
pub way_there : (m : ℕ) (stored other : Stored) (key : List ℕ) (name : CidParts) (names : List CidParts) → AreSameUnder names stored other → IsWay m stored key name names → IsWay m other key name names
way_there zero stored other key name names a w = absurd w
way_there (suc m) stored other key name names a w =
    let agree = subst (λ ns. AreSameUnder ns stored other) w.2.1 a in (
      w.0,
      node_there stored other name w.0 (agree name (inl refl)) w.1,
      (
        w.2.0,
        w.2.1,
        way_below_there (IsWay m stored key) (IsWay m other key) (seek_in key w.0) w.2.0 (λ next. way_there m stored other key next w.2.0 (λ q n. agree q (inr n))) w.2.2,
      ),
    )

found_below_there : (F G : CidParts → Option CidParts → Type 0) (W : CidParts → List CidParts → Type 0) (s : Sought) (names : List CidParts) (found : Option CidParts)
    → ((next : CidParts) → W next names → F next found → G next found) → WayBelow W s names → FindsBelow F s found → FindsBelow G s found
found_below_there F G W (sought.Record value) names found h w f = f
found_below_there F G W (sought.Below None) names found h w f = f
found_below_there F G W (sought.Below (Some next)) names found h w f = h next w f
found_below_there F G W sought.KeyFront names found h w f = absurd f

-- and the same answers
pub found_there : (m : ℕ) (stored other : Stored) (key : List ℕ) (name : CidParts) (names : List CidParts) (found : Option CidParts) → AreSameUnder names stored other → IsWay m stored key name names
    → FindsRecord m stored key name found → FindsRecord m other key name found
found_there zero stored other key name names found a w f = absurd f
found_there (suc m) stored other key name names found a w f =
    let agree = subst (λ ns. AreSameUnder ns stored other) w.2.1 a in
    let here = subst (λ p. FindsBelow (FindsRecord m stored key) (seek_in key p) found) (same_node_at stored name f.0 w.0 f.1 w.1) f.2 in (
      w.0,
      node_there stored other name w.0 (agree name (inl refl)) w.1,
      found_below_there (FindsRecord m stored key) (FindsRecord m other key) (IsWay m stored key) (seek_in key w.0) w.2.0 found (λ next. found_there m stored other key next w.2.0 found (λ q n. agree q (inr n))) w.2.2 here,
    )

turned : (stored other : Stored) (names : List CidParts) → AreSameUnder names stored other → AreSameUnder names other stored
turned stored other names a q n = sym (a q n)

pub records_decided : WaysDecideRecords
records_decided stored other root key names w a found = (
  found_there most_layers stored other key root names found a w,
  found_there most_layers other stored key root names found (turned stored other names a) (way_there most_layers stored other key root names a w),
)

pub ways_lead : WaysLead
ways_lead stored other root key names w a =
    let there = way_leads most_layers other key root names (way_there most_layers stored other key root names a w) in
    (there, λ e. finds_never_stops most_layers other key root there.0 e there.1)
