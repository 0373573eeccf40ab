-- Searching a key from a root.
use Rattle.std.proofs.Common.{◌≡◌, ◌⊎◌, inl, inr, ℕ, zero, suc, ◌+◌, ◌-◌, ◌<◌, ◌≤◌, List, Option, Some, None, refl, sym, ap, ◌∙◌, subst, arith}
use Rattle.ipld_tree.specs.Cid.{CidParts}
use Rattle.ipld_links.specs.Reaching.{Stored}
use Rattle.atproto_mst.specs.Keys.{Entry, Rise}
use Rattle.atproto_mst.specs.Nodes.{NodeParts, IsNodeAt}
use Rattle.atproto_mst.specs.Walks.{WalksTree}
use Rattle.atproto_mst.specs.Stops.{IsStoredNamed, NodeFault}
use Rattle.atproto_mst.specs.Finding.{lookup, seek_in, FindsBelow, FindsRecord, FaultBelow, FindStops}
use Rattle.atproto_mst.specs.declared.error.MstError.{MstError}
use Rattle.atproto_mst.specs.declared.error.MstError.TheVariants as error
use Rattle.atproto_mst.specs.declared.find.Sought.{Sought}
use Rattle.atproto_mst.specs.declared.find.Sought.TheVariants as sought
use Rattle.atproto_mst.proofs.Nodes.{same_node_at}
use Rattle.atproto_mst.proofs.Agreeing.{one_store}
use Rattle.atproto_mst.proofs.Stopping.{no_fault}
use Rattle.atproto_mst.proofs.Seeking.{finds_walked}

-- ---- one answer

-- under a name the stores have one node, or else this
abbrev pub NodesAgree : Stored → Stored → Type 0 → Type 0
NodesAgree stored other C = (name : CidParts) (p q : NodeParts) → IsNodeAt stored name p → IsNodeAt other name q → (p ≡ q) ⊎ C

below_agrees : (F G : CidParts → Option CidParts → Type 0) (C : Type 0) (s t : Sought) (found other : Option CidParts) → s ≡ t
    → ((next : CidParts) → F next found → G next other → (found ≡ other) ⊎ C) → FindsBelow F s found → FindsBelow G t other → (found ≡ other) ⊎ C
below_agrees F G C s t found other e h f g = by s f (subst (λ x. FindsBelow G x other) (sym e) g)
  where
    by : (x : Sought) → FindsBelow F x found → FindsBelow G x other → (found ≡ other) ⊎ C
    by (sought.Record value) a b = inl (a ∙ sym b)
    by (sought.Below None) a b = inl (a ∙ sym b)
    by (sought.Below (Some next)) a b = h next a b
    by sought.KeyFront a b = absurd a

pub finds_agree : (m n : ℕ) (stored others : Stored) (C : Type 0) (key : List ℕ) (name : CidParts) (found other : Option CidParts) → NodesAgree stored others C
    → FindsRecord m stored key name found → FindsRecord n others key name other → (found ≡ other) ⊎ C
finds_agree zero n stored others C key name found other same f g = absurd f
finds_agree (suc m) zero stored others C key name found other same f g = absurd g
finds_agree (suc m) (suc n) stored others C key name found other same f g = elim (same name f.0 g.0 f.1 g.1) [
  | inl e ↦ below_agrees (FindsRecord m stored key) (FindsRecord n others key) C (seek_in key f.0) (seek_in key g.0) found other (ap (seek_in key) e)
      (λ next a b. finds_agree m n stored others C key next found other same a b) f.2 g.2
  | inr c ↦ inr c
]

pub finds_one : (m n : ℕ) (stored : Stored) (key : List ℕ) (name : CidParts) (found other : Option CidParts) → FindsRecord m stored key name found → FindsRecord n stored key name other → found ≡ other
finds_one m n stored key name found other f g = elim (finds_agree m n stored stored ⊥ key name found other (one_store ⊥ stored) f g) [
  | inl e ↦ e
  | inr c ↦ absurd c
]

-- ---- no fault where there is an answer

below_goes_on : (F : CidParts → Option CidParts → Type 0) (S : CidParts → MstError → Type 0) (s t : Sought) (found : Option CidParts) (e : MstError) → s ≡ t
    → ((next : CidParts) → F next found → S next e → ⊥) → FindsBelow F s found → FaultBelow S t e → ⊥
below_goes_on F S s t found e is h f g = by s f (subst (λ x. FaultBelow S x e) (sym is) g)
  where
    by : (x : Sought) → FindsBelow F x found → FaultBelow S x e → ⊥
    by (sought.Record value) a b = absurd b
    by (sought.Below None) a b = absurd b
    by (sought.Below (Some next)) a b = h next a b
    by sought.KeyFront a b = absurd a

pub finds_never_stops : (m : ℕ) (stored : Stored) (key : List ℕ) (name : CidParts) (found : Option CidParts) (e : MstError) → FindsRecord m stored key name found → FindStops m stored key name e → ⊥
finds_never_stops zero stored key name found e f g = absurd f
finds_never_stops (suc m) stored key name found e f g = elim g [
  | inl fault ↦ no_fault stored name e f.0 fault f.1
  | inr s ↦ below_goes_on (FindsRecord m stored key) (FindStops m stored key) (seek_in key f.0) (seek_in key s.0) found e (ap (seek_in key) (same_node_at stored name f.0 s.0 f.1 s.1))
      (λ next a b. finds_never_stops m stored key next found e a b) f.2 s.2
]

-- ---- the search, layer by layer

-- What is found from this node over the remaining layers, and what stops the search, is the same
-- from the root. If bytes are stored and named at the node, so they are at the root.
pub record SearchedTo (most : ℕ) (stored : Stored) (key : List ℕ) (root : CidParts) (layer : ℕ) (name : CidParts) : Type 0 where
  pub found : (x : Option CidParts) → FindsRecord (most - layer) stored key name x → FindsRecord most stored key root x
  pub stops : (e : MstError) → FindStops (most - layer) stored key name e → FindStops most stored key root e
  pub named : IsStoredNamed stored name → IsStoredNamed stored root

pub layers_left : (most layer : ℕ) → layer < most → suc (most - (layer + 1)) ≡ most - layer
layers_left most layer lt = omega (arith, lt)

module _ (most : ℕ) (stored : Stored) (key : List ℕ) (root name : CidParts) (layer : ℕ) (lt : layer < most) (to : SearchedTo most stored key root layer name) where
  pub fault_stops : (e : MstError) → NodeFault stored name e → FindStops most stored key root e
  fault_stops e f = to.stops e (subst (λ m. FindStops m stored key name e) (layers_left most layer lt) (inl f))

  module _ (p : NodeParts) (at : IsNodeAt stored name p) (s : Sought) (says : s ≡ seek_in key p) where
    finds_here : (x : Option CidParts) → FindsBelow (FindsRecord (most - (layer + 1)) stored key) s x → FindsRecord most stored key root x
    finds_here x h = to.found x (subst (λ m. FindsRecord m stored key name x) (layers_left most layer lt) (p, at, subst (λ y. FindsBelow (FindsRecord (most - (layer + 1)) stored key) y x) says h))

    stops_here : (e : MstError) → FaultBelow (FindStops (most - (layer + 1)) stored key) s e → FindStops most stored key root e
    stops_here e h = to.stops e (subst (λ m. FindStops m stored key name e) (layers_left most layer lt) (inr (p, at, subst (λ y. FaultBelow (FindStops (most - (layer + 1)) stored key) y e) says h)))

    pub record_found : (value : CidParts) → s ≡ sought.Record value → FindsRecord most stored key root (Some value)
    record_found value is = finds_here (Some value) (subst (λ y. FindsBelow (FindsRecord (most - (layer + 1)) stored key) y (Some value)) (sym is) refl)

    pub none_found : s ≡ sought.Below None → FindsRecord most stored key root None
    none_found is = finds_here None (subst (λ y. FindsBelow (FindsRecord (most - (layer + 1)) stored key) y None) (sym is) refl)

    pub front_stops : s ≡ sought.KeyFront → FindStops most stored key root error.KeyFront
    front_stops is = stops_here error.KeyFront (subst (λ y. FaultBelow (FindStops (most - (layer + 1)) stored key) y error.KeyFront) (sym is) refl)

    pub root_named : IsStoredNamed stored root
    root_named = to.named (at.block, at.is, at.named)

    pub search_goes_on : (next : CidParts) → s ≡ sought.Below (Some next) → SearchedTo most stored key root (layer + 1) next
    search_goes_on next is = record {
      found = λ x h. finds_here x (subst (λ y. FindsBelow (FindsRecord (most - (layer + 1)) stored key) y x) (sym is) h);
      stops = λ e h. stops_here e (subst (λ y. FaultBelow (FindStops (most - (layer + 1)) stored key) y e) (sym is) h);
      named = λ h. root_named;
    }

pub depth_stops : (most : ℕ) (stored : Stored) (key : List ℕ) (root name : CidParts) (layer : ℕ) → most ≤ layer → SearchedTo most stored key root layer name → FindStops most stored key root (error.TooDeep name)
depth_stops most stored key root name layer end to =
    let none : 0 ≡ most - layer = omega (arith, end) in
    to.stops (error.TooDeep name) (subst (λ m. FindStops m stored key name (error.TooDeep name)) none refl)

-- ---- a tree that is stored whole

pub found_of_walked : (most : ℕ) (stored : Stored) (root : CidParts) (key : List ℕ) (es : List Entry) (found : Option CidParts) → WalksTree most stored root es → Rise es → FindsRecord most stored key root found → found ≡ lookup key es
found_of_walked most stored root key es found w r f = finds_one most most stored key root found (lookup key es) f (finds_walked most stored root es key w r)

pub refused_of_walked : (most : ℕ) (stored : Stored) (root : CidParts) (key : List ℕ) (es : List Entry) (e : MstError) → WalksTree most stored root es → Rise es → (e ≡ error.OutOfMemory) ⊎ FindStops most stored key root e → e ≡ error.OutOfMemory
refused_of_walked most stored root key es e w r (inl m) = m
refused_of_walked most stored root key es e w r (inr s) = absurd (finds_never_stops most stored key root (lookup key es) e (finds_walked most stored root es key w r) s)
