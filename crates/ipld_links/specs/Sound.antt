-- The blocks that a store keeps under their names.
use Rattle.std.specs.Prelude.{◌≡◌, ◌≢◌}
use Rattle.sha2.specs.Sha256.{sha256}
use Rattle.dagcbor_decode.specs.Verdicts.{IsRefusedAt}
use Rattle.dag_pb.specs.Node.{HasNode}
use Rattle.dag_pb.specs.Causes.{IsNoNode}
use Rattle.ipld_links.specs.Names.{IsBySha256}
use Rattle.ipld_links.specs.Blocks.{NamedBlock}
use Rattle.ipld_links.specs.Blocks.{HasBlock}
use Rattle.ipld_links.specs.Verdicts.{IsDagCbor, IsDagPb}
use Rattle.ipld_links.specs.declared.sound.Unsound.{Unsound}
use Rattle.ipld_links.specs.declared.sound.Unsound.TheVariants.{OtherHash, OtherBytes, NoBlock, NoNode}

-- the name is by SHA-256, and its digest is that of the bytes; if its codec
-- is DAG-CBOR or DAG-PB, they are a block of it
pub record IsSound (s : NamedBlock) : Type 0 where
  pub by_sha256 : IsBySha256 s.0
  pub digest : s.0.digest ≡ sha256 s.1
  pub read : IsDagCbor s.0 → HasBlock s.1
  pub node : IsDagPb s.0 → HasNode s.1

-- why a store does not keep the bytes under the name: the cause, and the byte of it
abbrev pub IsUnsound : NamedBlock → Unsound → Type 0
IsUnsound s OtherHash = ¬ IsBySha256 s.0
IsUnsound s OtherBytes = IsBySha256 s.0 × (s.0.digest ≢ sha256 s.1)
IsUnsound s (NoBlock e place) = IsBySha256 s.0 × (s.0.digest ≡ sha256 s.1) × IsDagCbor s.0
    × IsRefusedAt s.1 e place
IsUnsound s (NoNode e) = IsBySha256 s.0 × (s.0.digest ≡ sha256 s.1) × IsDagPb s.0 × IsNoNode s.1 e
