-- What a search finds in a tree that is stored whole.
use Rattle.std.proofs.Common.{◌≡◌, ◌⊎◌, inl, inr, ℕ, List, Option}
use Rattle.ipld_tree.specs.Cid.{CidParts}
use Rattle.ipld_links.specs.Reaching.{Stored}
use Rattle.atproto_mst.specs.Keys.{Entry}
use Rattle.atproto_mst.specs.Entries.{IsMst}
use Rattle.atproto_mst.specs.Walks.{most_layers}
use Rattle.atproto_mst.specs.Stops.{IsStoredNamed}
use Rattle.atproto_mst.specs.Finding.{lookup, FindsRecord, FindStops}
use Rattle.atproto_mst.specs.declared.error.MstError.{MstError}
use Rattle.atproto_mst.specs.declared.error.MstError.TheVariants.{OutOfMemory}
use Rattle.atproto_mst.proofs.Canonical.{mst_walked}
use Rattle.atproto_mst.proofs.Searching.{found_of_walked, refused_of_walked}

pub found_whole : (stored : Stored) (root : CidParts) (key : List ℕ) (found : Option CidParts) → FindsRecord most_layers stored key root found → (es : List Entry) → IsMst stored root es → found ≡ lookup key es
found_whole stored root key found f es h = found_of_walked most_layers stored root key es found (mst_walked stored root es h) h.valid.rise f

pub refused_whole : (stored : Stored) (root : CidParts) (key : List ℕ) (e : MstError) → ((e ≡ OutOfMemory) × IsStoredNamed stored root) ⊎ FindStops most_layers stored key root e → (es : List Entry) → IsMst stored root es → e ≡ OutOfMemory
refused_whole stored root key e (inl m) es h = m.0
refused_whole stored root key e (inr s) es h = refused_of_walked most_layers stored root key es e (mst_walked stored root es h) h.valid.rise (inr s)
