-- The invariant of each stored block.
use Rattle.std.specs.Prelude.{ℕ, Vec}
use Rattle.std.specs.declared.alloc.Global.{Global}
use Rattle.serde_ipld_dagcbor.specs.Cid.{CidParts, AreCidParts}
use Rattle.ipld_links.specs.Sound.{IsSound}

-- the name is a CID, and the bytes are sound under it
pub record IsSoundEntry (e : CidParts × Vec ℕ Global) : Type 0 where
  pub valid : AreCidParts e.0
  pub sound : IsSound (e.0, e.1.items)
