-- Finding one record of a stored tree.
use Rattle.std.specs.Prelude.{◌≡◌, ◌⊎◌, ℕ, zero, suc, List, [], ◌∷◌, length, Option, None, Some, if◌then◌else◌, bytes_eq, nat_lt}
use Rattle.std.specs.declared.cmp.Ordering.{Ordering}
use Rattle.std.specs.declared.cmp.Ordering.TheVariants.{Less, Equal, Greater}
use Rattle.std.specs.Ordering.{nat_cmp}
use Rattle.std.specs.Cmp.Lexicographic.{slice_cmp}
use Rattle.ipld_tree.specs.Cid.{CidParts}
use Rattle.ipld_links.specs.Reaching.{Stored}
use Rattle.atproto_mst.specs.Keys.{Entry}
use Rattle.atproto_mst.specs.Nodes.{NodeRow, NodeParts, IsNodeAt, key_of_row}
use Rattle.atproto_mst.specs.Stops.{NodeFault}
use Rattle.atproto_mst.specs.declared.error.MstError.{MstError}
use Rattle.atproto_mst.specs.declared.error.MstError.TheVariants as error
use Rattle.atproto_mst.specs.declared.find.Sought.{Sought}
use Rattle.atproto_mst.specs.declared.find.Sought.TheVariants as sought

-- the record of the key among the entries
abbrev pub lookup : List ℕ → List Entry → Option CidParts
lookup key [] = None
lookup key (e ∷ es) = if bytes_eq e.0 key then Some e.1 else lookup key es

-- ---- in a node

-- one of three values, for less, equal and greater
abbrev pub by_order : {X : Type 0} → Ordering → X → X → X → X
by_order Less x y z = x
by_order Equal x y z = y
by_order Greater x y z = z

-- What the rows after `previous` say about the key, if `before` is the subtree before them: the
-- record of the row that has the key, or the subtree that may have it, if there is one.
abbrev pub seek : List ℕ → List ℕ → Option CidParts → List NodeRow → Sought
seek key previous before [] = sought.Below before
seek key previous before (r ∷ rs) =
    if nat_lt (length previous) r.shared then sought.KeyFront
    else by_order (slice_cmp nat_cmp key (key_of_row previous r)) (sought.Below before) (sought.Record r.value)
    (seek key (key_of_row previous r) r.after rs)

-- what a node says about the key
abbrev pub seek_in : List ℕ → NodeParts → Sought
seek_in key p = seek key [] p.left p.rows

-- ---- in a tree

-- found in a node, or else in the subtree below it; without a subtree, nothing is found
abbrev pub FindsBelow : (CidParts → Option CidParts → Type 0) → Sought → Option CidParts → Type 0
FindsBelow F (sought.Record value) found = found ≡ Some value
FindsBelow F (sought.Below None) found = found ≡ None
FindsBelow F (sought.Below (Some next)) found = F next found
FindsBelow F sought.KeyFront found = ⊥

-- found from this root, over at most the given number of nodes
abbrev pub FindsRecord : ℕ → Stored → List ℕ → CidParts → Option CidParts → Type 0
FindsRecord zero stored key name found = ⊥
FindsRecord (suc m) stored key name found = (p : NodeParts) × IsNodeAt stored name p
    × FindsBelow (FindsRecord m stored key) (seek_in key p) found

-- the first fault below a node
abbrev pub FaultBelow : (CidParts → MstError → Type 0) → Sought → MstError → Type 0
FaultBelow F (sought.Below (Some next)) e = F next e
FaultBelow F sought.KeyFront e = e ≡ error.KeyFront
FaultBelow F _ e = ⊥

-- why a search from this root stops
abbrev pub FindStops : ℕ → Stored → List ℕ → CidParts → MstError → Type 0
FindStops zero stored key name e = e ≡ error.TooDeep name
FindStops (suc m) stored key name e = NodeFault stored name e
    ⊎ ((p : NodeParts) × IsNodeAt stored name p × FaultBelow (FindStops m stored key) (seek_in key p) e)

-- ---- the way

-- the names of the nodes on the way below a node: empty if the node has the record, or no subtree
-- may have it
abbrev pub WayBelow : (CidParts → List CidParts → Type 0) → Sought → List CidParts → Type 0
WayBelow F (sought.Below (Some next)) names = F next names
WayBelow F sought.KeyFront names = ⊥
WayBelow F _ names = names ≡ []

-- the names of the nodes on the way from this root to the key, at most the given number
abbrev pub IsWay : ℕ → Stored → List ℕ → CidParts → List CidParts → Type 0
IsWay zero stored key name names = ⊥
IsWay (suc m) stored key name names = (p : NodeParts) × IsNodeAt stored name p
    × ((more : List CidParts) × (names ≡ name ∷ more) × WayBelow (IsWay m stored key) (seek_in key p) more)
