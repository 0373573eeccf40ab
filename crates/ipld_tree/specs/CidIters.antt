-- What an iterator over CIDs has still to give.
use Rattle.std.specs.Prelude.{List}
use Rattle.std.specs.Vec.Iter.{into_iter_items}
use Rattle.ipld_tree.specs.Cid.{CidParts}
use Rattle.ipld_tree.specs.declared.cid_iter.CidIter.{CidIter}

-- the CIDs that are still to come
abbrev pub cids_left : CidIter → List CidParts
cids_left it = into_iter_items it.cids
