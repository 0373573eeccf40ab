-- Laws that hold over all stores.
use Rattle.std.specs.Prelude.{◌≡◌, ◌≢◌, ◌⊎◌, ◌↔◌, ℕ, zero, suc, List, Option, None, Some, MatchOption, ⊤}
use Rattle.ipld_tree.specs.Cid.{CidParts}
use Rattle.ipld_tree.specs.Tree.{Tree, link}
use Rattle.dagcbor_decode.specs.Blocks.{IsBlock}
use Rattle.ipld_paths.specs.Paths.{At}
use Rattle.ipld_paths.specs.Finding.{LeadsInto, HasNoPart}
use Rattle.ipld_links.specs.Collisions.{Collides}
use Rattle.ipld_links.specs.Sets.{Among}
use Rattle.ipld_links.specs.Reaching.{Stored, AreBytesOf}
use Rattle.ipld_paths.specs.Resolving.{IsReadUnder, LeadsOn, Resolves, AreOnTheWay}
use Rattle.ipld_paths.specs.declared.resolution.End.{End}
use Rattle.ipld_paths.specs.declared.resolution.End.TheVariants as ends
use Rattle.ipld_paths.specs.declared.resolution.Resolved.{Resolved}

-- the path leads in the block to u; or to an item that is not a link, and then nowhere (`None`)
abbrev pub LeadsInBlock : List ℕ → List (List ℕ) → Option Tree → Type 0
LeadsInBlock b path (Some u) = (t : Tree) × IsBlock b t × At path t u
LeadsInBlock b path None = (t u : Tree) × (left : List (List ℕ)) × LeadsInto b path left t u × HasNoPart left u
    × ((cid : List ℕ) → u ≢ link cid)

-- Over n links, the path leads from the root to a tree, or to none. Each block on the way is
-- stored, matches its name, and is read by its codec, DAG-CBOR or DAG-PB.
abbrev pub Leads : ℕ → Stored → CidParts → List (List ℕ) → Option Tree → Type 0
Leads zero stored name path found = (b : List ℕ) × IsReadUnder stored name b × LeadsInBlock b path found
Leads (suc n) stored name path found = (next : CidParts) × (left : List (List ℕ))
    × LeadsOn stored name path next left × Leads n stored next left found

-- A root and a path determine the answer: if they lead to answers over two stores, these are equal,
-- or two different byte strings have the same SHA-256.
abbrev pub PathsBind : Type 0
PathsBind = (stored others : Stored) (m n : ℕ) (root : CidParts) (path : List (List ℕ))
    (found other : Option Tree) → Leads m stored root path found → Leads n others root path other
    → (found ≡ other) ⊎ Collides

-- the path ends at an item of a block from which its next segment leads nowhere
abbrev pub IsNothing : End → Type 0
IsNothing (ends.NoSuchPath left) = ⊤
IsNothing _ = ⊥

-- A path that ends so leads to `None`: `PathsBind` holds of that answer too.
abbrev pub NothingIsLedTo : Type 0
NothingIsLedTo = (stored : Stored) (root : CidParts) (path : List (List ℕ)) (r : Resolved)
    → Resolves stored root path r → IsNothing r.end → (n : ℕ) × Leads n stored root path None

-- ---- what the blocks on the way decide

-- both stores have the same bytes under each of the names, or both have none
abbrev pub AgreeOn : List CidParts → Stored → Stored → Type 0
AgreeOn names stored other = (q : CidParts) → Among q names → (b : List ℕ)
    → AreBytesOf stored q b ↔ AreBytesOf other q b

-- The bytes under the names on a path's way determine where it ends: two stores that agree on these
-- names give the same answers.
abbrev pub WaysDecideEnds : Type 0
WaysDecideEnds = (stored other : Stored) (root : CidParts) (path : List (List ℕ)) (names : List CidParts)
    → AreOnTheWay stored root path names → AgreeOn names stored other
    → (r : Resolved) → Resolves stored root path r ↔ Resolves other root path r

-- The bytes under the names on a path's way determine what the path leads to.
abbrev pub WaysDecideItems : Type 0
WaysDecideItems = (stored other : Stored) (root : CidParts) (path : List (List ℕ)) (names : List CidParts)
    → AreOnTheWay stored root path names → AgreeOn names stored other
    → (n : ℕ) (found : Option Tree) → Leads n stored root path found ↔ Leads n other root path found

-- ---- the bytes of an item

-- the bytes are the block of the tree to which the path leads; or it ended otherwise (`None`)
abbrev pub GivesItem : {A : Type 0} → (A → List ℕ) → Stored → CidParts → List (List ℕ) → End → Option A
    → Type 0
GivesItem bytes_of stored root path (ends.Item kind place end) result = MatchOption result ⊥
    (λ a. (n : ℕ) × (u : Tree) × Leads n stored root path (Some u) × IsBlock (bytes_of a) u)
GivesItem bytes_of stored root path _ result = MatchOption result ⊤ (λ a. ⊥)
