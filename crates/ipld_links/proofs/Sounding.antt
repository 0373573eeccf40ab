-- Blocks that a store keeps, and those that it refuses.
use Rattle.std.proofs.Common.{◌≡◌, inl, inr, ℕ, List, refl, arith}
use Rattle.std.specs.declared.convert.Infallible.{Infallible}
use Rattle.sha2.specs.Sha256.{sha256}
use Rattle.sha2.proofs.Facts256.{length-sha256}
use Rattle.dagcbor_core.specs.declared.error.DecodeError.{DecodeError}
use Rattle.ipld_tree.specs.Tree.{Tree}
use Rattle.dagcbor_decode.specs.Blocks.{IsBlock}
use Rattle.dagcbor_decode.specs.Verdicts.{IsRefusedAt}
use Rattle.dagcbor_decode.proofs.Laws.{refused_no_block, refused_for}
use Rattle.dag_pb.specs.declared.error.PbError.{PbError}
use Rattle.ipld_links.specs.Names.{IsBySha256, block_name}
use Rattle.ipld_links.specs.Blocks.{NamedBlock}
use Rattle.ipld_links.specs.Blocks.{HasBlock}
use Rattle.ipld_links.specs.Verdicts.{IsVerified, IsVerdict}
use Rattle.ipld_links.specs.Sound.{IsSound, IsUnsound}
use Rattle.ipld_links.specs.declared.sound.Unsound.{Unsound}
use Rattle.ipld_links.specs.declared.sound.Unsound.TheVariants as unsound
use Rattle.ipld_links.specs.declared.verdict.Verdict.TheVariants.{Block, Refused, Node, NoNode, OtherBytes, NotRead, LinksNotRead}

-- a name by SHA-256 is not by the identity
by_sha256 : (s : NamedBlock) → s.0.hash_code ≡ 0x12 → IsVerified s → IsBySha256 s.0 × (s.0.digest ≡ sha256 s.1)
by_sha256 s by (inl h) = h
by_sha256 s by (inr h) = absurd (omega (arith, by, h.0))

-- a block of DAG-CBOR under a name by SHA-256 is sound, if its verdict says so
pub sound_read : (s : NamedBlock) (kind : _) → s.0.hash_code ≡ 0x12 → IsVerdict s (Block kind) → IsSound s
sound_read s kind by h = let v = by_sha256 s by h.0 in record { by_sha256 = v.0; digest = v.1; read = λ dag. (h.1.1.0, h.1.1.1); node = λ pb. absurd (omega (arith, pb, h.1.0)) }

pub sound_unread : (s : NamedBlock) → s.0.hash_code ≡ 0x12 → IsVerdict s NotRead → IsSound s
sound_unread s by h = let v = by_sha256 s by h.0 in record { by_sha256 = v.0; digest = v.1; read = λ dag. absurd (omega (arith, h.1, dag)); node = λ pb. absurd (omega (arith, h.1, pb)) }

pub sound_unknown : (s : NamedBlock) → s.0.hash_code ≡ 0x12 → IsVerdict s LinksNotRead → IsSound s
sound_unknown s by h = let v = by_sha256 s by h.0 in record { by_sha256 = v.0; digest = v.1; read = λ dag. absurd (h.1.1 (inl dag)); node = λ pb. absurd (h.1.1 (inr pb)) }

pub sound_node : (s : NamedBlock) → s.0.hash_code ≡ 0x12 → IsVerdict s Node → IsSound s
sound_node s by h = let v = by_sha256 s by h.0 in record { by_sha256 = v.0; digest = v.1; read = λ dag. absurd (omega (arith, dag, h.1.0)); node = λ pb. h.1.1 }

pub unsound_node : (s : NamedBlock) (e : PbError) → s.0.hash_code ≡ 0x12 → IsVerdict s (NoNode e) → IsUnsound s (unsound.NoNode e)
unsound_node s e by h = let v = by_sha256 s by h.0 in (v.0, v.1, h.1.0, h.1.1)

-- and of one that is not: it is judged again for its place
pub sound_after : (s : NamedBlock) (e : DecodeError Infallible) (t : Tree) → s.0.hash_code ≡ 0x12 → IsVerdict s (Refused e) → IsBlock s.1 t → IsSound s
sound_after s e t by h b = let v = by_sha256 s by h.0 in record { by_sha256 = v.0; digest = v.1; read = λ dag. (t, b); node = λ pb. absurd (omega (arith, pb, h.1.0)) }

pub unsound_refused : (s : NamedBlock) (said e : DecodeError Infallible) (place : ℕ) → s.0.hash_code ≡ 0x12 → IsVerdict s (Refused said) → IsRefusedAt s.1 e place → IsUnsound s (unsound.NoBlock e place)
unsound_refused s said e place by h r = let v = by_sha256 s by h.0 in (v.0, v.1, h.1.0, r)

pub unsound_bytes : (s : NamedBlock) → s.0.hash_code ≡ 0x12 → IsVerdict s OtherBytes → IsUnsound s unsound.OtherBytes
unsound_bytes s by (inl h, not) = (h, λ e. not (inl (h, e)))
unsound_bytes s by (inr h, not) = absurd (omega (arith, by, h))

-- ---- DAG-CBOR and DAG-PB

-- a sound block is not refused
pub never_unsound : (s : NamedBlock) (e : Unsound) → IsSound s → IsUnsound s e → ⊥
never_unsound s unsound.OtherHash h r = r h.by_sha256
never_unsound s unsound.OtherBytes h r = r.1 h.digest
never_unsound s (unsound.NoBlock e place) h r = let block = h.read r.2 in refused_no_block s.1 e block.0 (refused_for s.1 e place r.3) block.1
never_unsound s (unsound.NoNode e) h r = r.3.0 (h.node r.2)

-- a block of DAG-CBOR is sound under its own name
pub sound_own : (b : List ℕ) → HasBlock b → IsSound (block_name b, b)
sound_own b h = record { by_sha256 = (refl, length-sha256 b); digest = refl; read = λ dag. h; node = λ pb. absurd (omega (arith, pb)) }
