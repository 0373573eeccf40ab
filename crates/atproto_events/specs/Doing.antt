-- Changes applied to entries, in order, and undone.
use Rattle.std.specs.Prelude.{◌≡◌, ℕ, List, [], ◌∷◌, Option, None, Some}
use Rattle.ipld_tree.specs.Cid.{CidParts}
use Rattle.ipld_links.specs.Reaching.{Stored}
use Rattle.atproto_mst.specs.Keys.{Entry, HaveRisingKeys}
use Rattle.atproto_mst.specs.Trees.{root_of, nodes_of}
use Rattle.atproto_mst.specs.Finding.{lookup}
use Rattle.atproto_mst.specs.Changes.{Changed, set_entry, unset_entry}
use Rattle.atproto_mst.specs.Differing.{IsRootOfEntries, NamesBind}

-- the entries with the key's record set to this one, or removed
abbrev pub set_record : List ℕ → Option CidParts → List Entry → List Entry
set_record key (Some value) es = set_entry key value es
set_record key None es = unset_entry key es

-- the change is applied: the key has the record before, and then the record after
abbrev pub Does : Changed → List Entry → List Entry → Type 0
Does c before after = (lookup c.0 before ≡ c.1.0) × (after ≡ set_record c.0 c.1.1 before)

-- the change with its two records exchanged, which undoes it
abbrev pub turned : Changed → Changed
turned c = (c.0, (c.1.1, c.1.0))

-- the changes are applied, in order
abbrev pub DoesAll : List Changed → List Entry → List Entry → Type 0
DoesAll [] before after = after ≡ before
DoesAll (c ∷ cs) before after = (between : List Entry) × Does c before between × DoesAll cs between after

-- the changes are undone, the last first
abbrev pub UndoesAll : List Changed → List Entry → List Entry → Type 0
UndoesAll [] after before = before ≡ after
UndoesAll (c ∷ cs) after before = (between : List Entry) × UndoesAll cs after between × Does (turned c) between before

-- For any entries that have this root, the changes lead to them from entries that have the other
-- root, if names bind the stored nodes.
abbrev pub LeadsFrom : Stored → CidParts → List Changed → CidParts → Type 0
LeadsFrom stored old cs root = (es : List Entry) → IsRootOfEntries root es → NamesBind stored (nodes_of es)
    → (before : List Entry) × HaveRisingKeys before × (old ≡ root_of before) × DoesAll cs before es
    × UndoesAll cs es before
