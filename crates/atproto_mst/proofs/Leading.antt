-- The nodes that links of nodes lead to, and what is known of names that bind.
use Rattle.std.proofs.Common.{◌≡◌, ◌⊎◌, inl, inr, ℕ, zero, suc, ◌+◌, Bool, true, false, List, [], ◌∷◌, ◌++◌, map, refl, sym, ap, ◌∙◌, subst, arith, Option, Some, None}
use Rattle.std.specs.Prelude.{if◌then◌else◌}
use Rattle.std.specs.Ordering.{eq_by_cmp}
use Rattle.ipld_tree.specs.Cid.{CidParts, cid_cmp}
use Rattle.files_car.specs.Car.{Section}
use Rattle.ipld_links.specs.Sets.{Among}
use Rattle.ipld_links.specs.Reaching.{Stored}
use Rattle.ipld_links.proofs.Members.{among_append}
use Rattle.atproto_mst.specs.Keys.{Entry}
use Rattle.atproto_mst.specs.Trees.{nodes_of}
use Rattle.atproto_mst.specs.Entries.{AreStored, IsMst}
use Rattle.atproto_mst.specs.Nodes.{NodeRow, NodeParts, IsNode, IsNodeAt, key_of_row}
use Rattle.atproto_mst.specs.Walks.{WalksLink, WalksRows, WalksNode, WalksTree, most_layers}
use Rattle.atproto_mst.specs.Stops.{IsStoredNamed, NodeFault}
use Rattle.atproto_mst.specs.Levels.{LevelItem, an_entry, a_link, link_items, row_items, node_items, link_names, OpensItems, IsOfShape, LevelLinksRefused}
use Rattle.atproto_mst.specs.Differing.{IsRootOfEntries, NamesBind, HasLink, IsLedTo, LacksNode, LacksOne}
use Rattle.atproto_mst.specs.declared.error.MstError.{MstError}
use Rattle.atproto_mst.specs.declared.error.MstError.TheVariants as error
use Rattle.atproto_mst.proofs.Canonical.{mst_walked}
use Rattle.atproto_mst.proofs.Comparing.{equal_name, other_name}
use Rattle.atproto_mst.proofs.Descending.{Steps}
use Rattle.atproto_mst.proofs.Nodes.{same_node, same_node_at}
use Rattle.atproto_mst.proofs.Opening.{links_joined}
use Rattle.atproto_mst.proofs.Stopping.{no_fault}

-- ---- names that links lead to

led_more : (m : ℕ) (stored : Stored) (root name : CidParts) → IsLedTo m stored root name → IsLedTo (suc m) stored root name
led_more zero stored root name h = absurd h
led_more (suc m) stored root name (inl e) = inl e
led_more (suc m) stored root name (inr (above, led, more)) = inr (above, led_more m stored root above led, more)

pub led_within : (k m n : ℕ) (stored : Stored) (root name : CidParts) → n ≡ k + m → IsLedTo m stored root name → IsLedTo n stored root name
led_within zero m n stored root name e h = let same : m ≡ n = omega (arith, e) in subst (λ x. IsLedTo x stored root name) same h
led_within (suc k) m n stored root name e h = led_within k (suc m) n stored root name (omega (arith, e)) (led_more m stored root name h)

link_named : (q : CidParts) (l : Option CidParts) → Among q (link_names (link_items l)) → Some q ≡ l
link_named q None h = absurd h
link_named q (Some name) (inl e) = ap (λ x. Some x) e
link_named q (Some name) (inr h) = absurd h

row_named : (q : CidParts) (rows : List NodeRow) (previous : List ℕ) → Among q (link_names (row_items previous rows)) → Among (Some q) (map (λ r. r.after) rows)
row_named q [] previous h = absurd h
row_named q (r ∷ rs) previous h =
    elim (among_append q (link_names (link_items r.after)) (link_names (row_items (key_of_row previous r) rs)) (subst (Among q) (links_joined (link_items r.after) (row_items (key_of_row previous r) rs)) h)) [
      | inl here ↦ inl (link_named q r.after here)
      | inr there ↦ inr (row_named q rs (key_of_row previous r) there)
    ]

node_named : (q : CidParts) (p : NodeParts) → Among q (link_names (node_items p)) → HasLink p q
node_named q p h = elim (among_append q (link_names (link_items p.left)) (link_names (row_items [] p.rows)) (subst (Among q) (links_joined (link_items p.left) (row_items [] p.rows)) h)) [
  | inl here ↦ inl (link_named q p.left here)
  | inr there ↦ inr (row_named q p.rows [] there)
]

abbrev pub AreLed : ℕ → Stored → CidParts → List CidParts → Type 0
AreLed m stored root names = (q : CidParts) → Among q names → IsLedTo m stored root q

-- what a level opens to is led to by one node more
led_below : (m : ℕ) (stored : Stored) (root : CidParts) (dropped : List CidParts) (xs ys : List LevelItem) → OpensItems stored dropped xs ys → AreLed m stored root (link_names xs) → AreLed (suc m) stored root (link_names ys)
led_below m stored root dropped [] ys none led q h = absurd (subst (λ l. Among q (link_names l)) none h)
led_below m stored root dropped (an_entry e ∷ xs) ys (first, more, this, opens, is) led q h =
    led_below m stored root dropped xs more opens led q (subst (λ l. Among q (link_names l)) (is ∙ ap (λ l. l ++ more) this) h)
led_below m stored root dropped (a_link name ∷ xs) ys (first, more, inl (d, this), opens, is) led q h =
    led_below m stored root dropped xs more opens (λ n a. led n (inr a)) q (subst (λ l. Among q (link_names l)) (is ∙ ap (λ l. l ++ more) this) h)
led_below m stored root dropped (a_link name ∷ xs) ys (first, more, inr (not, (p, at, this)), opens, is) led q h =
    elim (among_append q (link_names (node_items p)) (link_names more) (subst (Among q) (ap link_names (is ∙ ap (λ l. l ++ more) this) ∙ links_joined (node_items p) more) h)) [
      | inl here ↦ inr (name, led name (inl refl), (p, at, node_named q p here))
      | inr there ↦ led_below m stored root dropped xs more opens (λ n a. led n (inr a)) q there
    ]

led_or_stays : (m : ℕ) (stored : Stored) (root : CidParts) (dropped : List CidParts) (xs ys : List LevelItem) → OpensItems stored dropped xs ys ⊎ ((dropped ≡ []) × (ys ≡ xs))
    → AreLed m stored root (link_names xs) → AreLed (suc m) stored root (link_names ys)
led_or_stays m stored root dropped xs ys (inl o) led = led_below m stored root dropped xs ys o led
led_or_stays m stored root dropped xs ys (inr (none, is)) led = λ q h. led_more m stored root q (led q (subst (λ l. Among q (link_names l)) is h))

-- both levels are of names that their roots lead to
pub record BothLed (m : ℕ) (stored : Stored) (old new : CidParts) (xs ys : List LevelItem) : Type 0 where
  pub before : AreLed m stored old (link_names xs)
  pub after : AreLed m stored new (link_names ys)

root_led : (stored : Stored) (root : CidParts) → AreLed 1 stored root (root ∷ [])
root_led stored root q (inl e) = inl e
root_led stored root q (inr h) = absurd h

pub both_begin : (stored : Stored) (old new : CidParts) → BothLed 1 stored old new (a_link old ∷ []) (a_link new ∷ [])
both_begin stored old new = record { before = root_led stored old; after = root_led stored new }

pub both_below : (m : ℕ) (stored : Stored) (old new : CidParts) (xs ys below beside : List LevelItem) → Steps stored xs ys below beside → BothLed m stored old new xs ys → BothLed (suc m) stored old new below beside
both_below m stored old new xs ys below beside (dropped, common, one, two) led = record {
  before = led_or_stays m stored old dropped xs below one led.before;
  after = led_or_stays m stored new dropped ys beside two led.after;
}

abbrev pub DiffStops : Stored → CidParts → CidParts → MstError → Type 0
DiffStops stored old new e = ((e ≡ error.OutOfMemory) × IsStoredNamed stored old) ⊎ (IsOfShape e ⊎ LacksOne stored old new e)

-- the root of a tree is stored as a node
abbrev pub HasRoot : Stored → CidParts → Type 0
HasRoot stored root = (p : NodeParts) × IsNodeAt stored root p

root_named : (stored : Stored) (root : CidParts) → HasRoot stored root → IsStoredNamed stored root
root_named stored root (p, at) = (at.block, at.is, at.named)

pub both_stop : (k m : ℕ) (stored : Stored) (old new : CidParts) (xs ys : List LevelItem) → HasRoot stored old → most_layers ≡ k + m → BothLed m stored old new xs ys → (e : MstError)
    → LevelLinksRefused stored (link_names xs) e ⊎ LevelLinksRefused stored (link_names ys) e → DiffStops stored old new e
both_stop k m stored old new xs ys there within led e (inl (inl memory)) = inl (memory, root_named stored old there)
both_stop k m stored old new xs ys there within led e (inl (inr (inl shape))) = inr (inl shape)
both_stop k m stored old new xs ys there within led e (inl (inr (inr (name, a, fault)))) = inr (inr (inl (name, led_within k m most_layers stored old name within (led.before name a), fault)))
both_stop k m stored old new xs ys there within led e (inr (inl memory)) = inl (memory, root_named stored old there)
both_stop k m stored old new xs ys there within led e (inr (inr (inl shape))) = inr (inl shape)
both_stop k m stored old new xs ys there within led e (inr (inr (inr (name, a, fault)))) = inr (inr (inr (there, (name, led_within k m most_layers stored new name within (led.after name a), fault))))

-- a fault of the root itself
pub root_lacks : (stored : Stored) (root : CidParts) (e : MstError) → NodeFault stored root e → LacksNode stored root e
root_lacks stored root e fault = (root, led_within 128 1 most_layers stored root root refl (inl refl), fault)

-- the first root is refused; or the second, if the first is a node
pub first_stops : (stored : Stored) (old new : CidParts) (e : MstError) → ((e ≡ error.OutOfMemory) × IsStoredNamed stored old) ⊎ NodeFault stored old e → DiffStops stored old new e
first_stops stored old new e (inl memory) = inl memory
first_stops stored old new e (inr fault) = inr (inr (inl (root_lacks stored old e fault)))

pub second_stops : (stored : Stored) (old new : CidParts) (e : MstError) → HasRoot stored old → ((e ≡ error.OutOfMemory) × IsStoredNamed stored new) ⊎ NodeFault stored new e → DiffStops stored old new e
second_stops stored old new e there (inl memory) = inl (memory.0, root_named stored old there)
second_stops stored old new e there (inr fault) = inr (inr (inr (there, root_lacks stored new e fault)))

-- later, at a shape
pub later_stops : (stored : Stored) (old new : CidParts) (e : MstError) → HasRoot stored old → (e ≡ error.OutOfMemory) ⊎ IsOfShape e → DiffStops stored old new e
later_stops stored old new e there (inl memory) = inl (memory, root_named stored old there)
later_stops stored old new e there (inr shape) = inr (inl shape)

-- ---- a tree that is stored lacks none

walked_rows : (W : CidParts → List Entry → Type 0) (name : CidParts) (rows : List NodeRow) (previous : List ℕ) (es : List Entry) → WalksRows W previous rows es → Among (Some name) (map (λ r. r.after) rows)
    → (fs : List Entry) × W name fs
walked_rows W name [] previous es w h = absurd h
walked_rows W name (r ∷ rs) previous es (shares, (below, more, link, rest, is)) (inl e) = (below, (subst (λ l. WalksLink W l below) (sym e) link).0)
walked_rows W name (r ∷ rs) previous es (shares, (below, more, link, rest, is)) (inr h) = walked_rows W name rs (key_of_row previous r) more rest h

walked_node : (W : CidParts → List Entry → Type 0) (name : CidParts) (p : NodeParts) (es : List Entry) → WalksNode W p es → HasLink p name → (fs : List Entry) × W name fs
walked_node W name p es (below, more, link, rest, is) (inl e) = (below, (subst (λ l. WalksLink W l below) (sym e) link).0)
walked_node W name p es (below, more, link, rest, is) (inr h) = walked_rows W name p.rows [] more rest h

abbrev IsWalked : Stored → CidParts → Type 0
IsWalked stored name = (m : ℕ) × (es : List Entry) × WalksTree m stored name es

walked_above : (stored : Stored) (name above : CidParts) (p : NodeParts) → IsWalked stored above → IsNodeAt stored above p → HasLink p name → IsWalked stored name
walked_above stored name above p (zero, es, w) at h = absurd w
walked_above stored name above p (suc m, es, (q, there, walk)) at h =
    let below = walked_node (WalksTree m stored) name p es (subst (λ x. WalksNode (WalksTree m stored) x es) (same_node_at stored above q p there at) walk) h in
    (m, below.0, below.1)

walked_led : (m : ℕ) (stored : Stored) (root name : CidParts) → IsWalked stored root → IsLedTo m stored root name → IsWalked stored name
walked_led zero stored root name w h = absurd h
walked_led (suc m) stored root name w (inl e) = subst (IsWalked stored) (sym e) w
walked_led (suc m) stored root name w (inr (above, led, (p, at, h))) = walked_above stored name above p (walked_led m stored root above w led) at h

walked_there : (stored : Stored) (name : CidParts) (e : MstError) → IsWalked stored name → NodeFault stored name e → ⊥
walked_there stored name e (zero, es, w) fault = absurd w
walked_there stored name e (suc m, es, (p, at, walk)) fault = no_fault stored name e p fault at

pub lacks_none : (stored : Stored) (root : CidParts) (es : List Entry) (e : MstError) → IsMst stored root es → LacksNode stored root e → ⊥
lacks_none stored root es e h (name, led, fault) = walked_there stored name e (walked_led most_layers stored root name (most_layers, es, mst_walked stored root es h) led) fault

-- ---- a store of some nodes

pub held : List Section → Stored
held [] q = None
held (s ∷ ss) q = if eq_by_cmp cid_cmp s.0 q then Some s.1 else held ss q

abbrev OneBlock : Section → List Section → Type 0
OneBlock s nodes = (t : Section) → Among t nodes → s.0 ≡ t.0 → s.1 ≡ t.1

held_one : (s : Section) (nodes : List Section) → OneBlock s nodes → Among s nodes → held nodes s.0 ≡ Some s.1
unfolding held
held_one s [] one m = absurd m
held_one s (n ∷ ns) one m = by (eq_by_cmp cid_cmp n.0 s.0) refl m (held_one s ns (λ t x. one t (inr x)))
  where
    by : (b : Bool) → eq_by_cmp cid_cmp n.0 s.0 ≡ b → (s ≡ n) ⊎ Among s ns → (Among s ns → held ns s.0 ≡ Some s.1) → (if b then Some n.1 else held ns s.0) ≡ Some s.1
    by true is a f = ap (λ x. Some x) (sym (one n (inl refl) (sym (equal_name n.0 s.0 true refl (sym is)))))
    by false is (inl e) f = absurd (other_name n.0 s.0 false refl (sym is) (ap (λ t. t.0) (sym e)))
    by false is (inr a) f = f a

held_from : (q : CidParts) (b : List ℕ) (nodes : List Section) → held nodes q ≡ Some b → (s : Section) × Among s nodes × (s.0 ≡ q) × (s.1 ≡ b)
unfolding held
held_from q b [] h = absurd (cc h)
held_from q b (n ∷ ns) h = by (eq_by_cmp cid_cmp n.0 q) refl h (held_from q b ns)
  where
    by : (t : Bool) → eq_by_cmp cid_cmp n.0 q ≡ t → (if t then Some n.1 else held ns q) ≡ Some b
        → (held ns q ≡ Some b → (s : Section) × Among s ns × (s.0 ≡ q) × (s.1 ≡ b)) → (s : Section) × Among s (n ∷ ns) × (s.0 ≡ q) × (s.1 ≡ b)
    by true is e f = let same : n.1 ≡ b = cc e in (n, inl refl, equal_name n.0 q true refl (sym is), same)
    by false is e f = let x = f e in (x.0, inr x.1, x.2, x.3)

all_held : (nodes some : List Section) → ((s : Section) → Among s some → held nodes s.0 ≡ Some s.1) → AreStored (held nodes) some
all_held nodes [] f = tt
all_held nodes (s ∷ ss) f = (f s (inl refl), all_held nodes ss (λ t m. f t (inr m)))

section_left : (s : Section) (a b : List Section) → Among s a → Among s (a ++ b)
section_left s [] b h = absurd h
section_left s (x ∷ a) b (inl e) = inl e
section_left s (x ∷ a) b (inr h) = inr (section_left s a b h)

section_right : (s : Section) (a b : List Section) → Among s b → Among s (a ++ b)
section_right s [] b h = h
section_right s (x ∷ a) b h = inr (section_right s a b h)

module _ (stored : Stored) (es fs : List Entry) (bind : NamesBind stored (nodes_of es ++ nodes_of fs)) where
  abbrev all_nodes : List Section
  all_nodes = nodes_of es ++ nodes_of fs

  node_held : (s : Section) → Among s all_nodes → held all_nodes s.0 ≡ Some s.1
  node_held s m = held_one s all_nodes (λ t a. bind.of_nodes s t m a) m

  pub first_held : (root : CidParts) → IsRootOfEntries root es → IsMst (held all_nodes) root es
  first_held root h = record { valid = h.0; root_is = h.1; all = all_held all_nodes (nodes_of es) (λ s m. node_held s (section_left s (nodes_of es) (nodes_of fs) m)) }

  pub second_held : (root : CidParts) → IsRootOfEntries root fs → IsMst (held all_nodes) root fs
  second_held root h = record { valid = h.0; root_is = h.1; all = all_held all_nodes (nodes_of fs) (λ s m. node_held s (section_right s (nodes_of es) (nodes_of fs) m)) }

  -- what is stored under the name of a node is that node
  pub held_agrees : (name : CidParts) (p q : NodeParts) → IsNodeAt stored name p → IsNodeAt (held all_nodes) name q → p ≡ q
  held_agrees name p q h k =
      let (s, m, named, block) = held_from name k.block all_nodes k.is in
      let same = bind.of_stored s h.block m (ap stored named ∙ h.is) (named ∙ h.named) in
      same_node k.block p q (subst (λ b. IsNode b p) (same ∙ block) h.node) k.node

-- ---- where both trees are stored, names bind

-- what is stored under the names of some nodes is stored under one of them
stored_one : (stored : Stored) (nodes : List Section) (s : Section) → AreStored stored nodes → Among s nodes → stored s.0 ≡ Some s.1
stored_one stored (x ∷ xs) s h (inl e) = ap (λ y. stored y.0) e ∙ h.0 ∙ ap (λ y. Some y.1) (sym e)
stored_one stored (x ∷ xs) s h (inr m) = stored_one stored xs s h.1 m
stored_one stored [] s h m = absurd m

both_stored : (stored : Stored) (a b : List Section) → AreStored stored a → AreStored stored b → AreStored stored (a ++ b)
both_stored stored [] b h k = k
both_stored stored (s ∷ a) b h k = (h.0, both_stored stored a b h.1 k)

pub stored_bind : (stored : Stored) (es fs : List Entry) → AreStored stored (nodes_of es) → AreStored stored (nodes_of fs) → NamesBind stored (nodes_of es ++ nodes_of fs)
stored_bind stored es fs h k =
    let all = both_stored stored (nodes_of es) (nodes_of fs) h k in
    record {
      of_nodes = λ s t m n named. (let same : s.1 ≡ t.1 = cc (stored_one stored (nodes_of es ++ nodes_of fs) s all m, stored_one stored (nodes_of es ++ nodes_of fs) t all n, ap stored named) in same);
      of_stored = λ s b m there named. (let same : b ≡ s.1 = cc (stored_one stored (nodes_of es ++ nodes_of fs) s all m, there) in same);
    }
