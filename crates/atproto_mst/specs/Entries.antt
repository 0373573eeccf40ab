-- Entries in memory, and why they are refused.
use Rattle.std.specs.Prelude.{◌≡◌, List, map, Some}
use Rattle.std.specs.List.{AllByRecursion}
use Rattle.ipld_tree.specs.Cid.{CidParts}
use Rattle.files_car.specs.Car.{Section}
use Rattle.ipld_links.specs.Reaching.{Stored}
use Rattle.atproto_mst.specs.Keys.{Entry, HaveKeys, Rise, AreMstEntries}
use Rattle.atproto_mst.specs.Trees.{root_of, nodes_of}
use Rattle.atproto_mst.specs.declared.entries.MstEntry.{MstEntry}
use Rattle.atproto_mst.specs.declared.error.MstError.{MstError}
use Rattle.atproto_mst.specs.declared.error.MstError.TheVariants.{OutOfMemory, KeyLength, KeyOrder}

abbrev pub entry_of : MstEntry → Entry
entry_of e = (e.key.items, e.value)

-- the keys and the values
abbrev pub entries : List MstEntry → List Entry
entries es = map entry_of es

-- why entries are refused: lengths are checked before order; out of memory, only if they are valid
abbrev pub EntriesRefused : MstError → List Entry → Type 0
EntriesRefused OutOfMemory es = AreMstEntries es
EntriesRefused KeyLength es = ¬ HaveKeys es
EntriesRefused KeyOrder es = HaveKeys es × ¬ Rise es
EntriesRefused _ es = ⊥

-- the block of each node is stored under its name
abbrev pub AreStored : Stored → List Section → Type 0
AreStored stored nodes = AllByRecursion (λ s. stored s.0 ≡ Some s.1) nodes

-- the tree of these entries is stored, and this is the name of its root
pub record IsMst (stored : Stored) (root : CidParts) (es : List Entry) : Type 0 where
  pub valid : AreMstEntries es
  pub root_is : root ≡ root_of es
  pub all : AreStored stored (nodes_of es)
