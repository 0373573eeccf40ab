-- Verdicts on blocks under a name.
use Rattle.std.specs.Prelude.{◌≡◌, ◌≢◌, ◌⊎◌, ℕ, List}
use Rattle.sha2.specs.Sha256.{sha256}
use Rattle.ipld_tree.specs.Cid.{CidParts}
use Rattle.ipld_tree.specs.Tree.{Tree}
use Rattle.dagcbor_decode.specs.Verdicts.{IsRefusedFor}
use Rattle.dagcbor_decode.specs.Blocks.{IsBlock}
use Rattle.dagcbor_decode.specs.TreeKinds.{kind_of}
use Rattle.dag_pb.specs.Node.{HasNode}
use Rattle.dag_pb.specs.Causes.{IsNoNode}
use Rattle.ipld_links.specs.Names.{IsBySha256, IsInline}
use Rattle.ipld_links.specs.Blocks.{NamedBlock, IsReadCodec, HasKnownLinks}
use Rattle.ipld_links.specs.declared.verdict.Verdict.{Verdict}
use Rattle.ipld_links.specs.declared.verdict.Verdict.TheVariants.{Block, Refused, Node, NoNode, NotRead, LinksNotRead, OtherBytes, Unverified}

-- the name's digest is the SHA-256 of the bytes, or is the bytes themselves
abbrev pub IsVerified : NamedBlock → Type 0
IsVerified s = (IsBySha256 s.0 × (s.0.digest ≡ sha256 s.1)) ⊎ (IsInline s.0 × (s.0.digest ≡ s.1))

-- the name can be compared with bytes: it is by a SHA-256 of 32 bytes, or by the identity
abbrev pub IsTestable : CidParts → Type 0
IsTestable c = IsBySha256 c ⊎ IsInline c

-- the codec of the name is DAG-CBOR (multicodec table)
abbrev pub IsDagCbor : CidParts → Type 0
IsDagCbor c = c.codec ≡ 0x71

-- the codec of the name is DAG-PB (multicodec table)
abbrev pub IsDagPb : CidParts → Type 0
IsDagPb c = c.codec ≡ 0x70

-- the verdict holds of the bytes as a block of the codec (multicodec table)
abbrev pub IsVerdictOn : ℕ → List ℕ → Verdict → Type 0
IsVerdictOn codec b (Block kind) = (codec ≡ 0x71) × ((t : Tree) × IsBlock b t × (kind ≡ kind_of t))
IsVerdictOn codec b (Refused e) = (codec ≡ 0x71) × IsRefusedFor b e
IsVerdictOn codec b Node = (codec ≡ 0x70) × HasNode b
IsVerdictOn codec b (NoNode e) = (codec ≡ 0x70) × IsNoNode b e
IsVerdictOn codec b NotRead = codec ≡ 0x55
IsVerdictOn codec b LinksNotRead = (codec ≢ 0x55) × ¬ IsReadCodec codec
IsVerdictOn codec b _ = ⊥

-- The verdict holds of the block under the name.
abbrev pub IsVerdict : NamedBlock → Verdict → Type 0
IsVerdict s OtherBytes = IsTestable s.0 × ¬ IsVerified s
IsVerdict s Unverified = ¬ IsTestable s.0
IsVerdict s verdict = IsVerified s × IsVerdictOn s.0.codec s.1 verdict

-- the bytes have this verdict as a block of the codec, and their links are not known
abbrev pub HidesLinks : ℕ → List ℕ → Verdict → Type 0
HidesLinks codec b verdict = IsVerdictOn codec b verdict × ¬ HasKnownLinks codec b
