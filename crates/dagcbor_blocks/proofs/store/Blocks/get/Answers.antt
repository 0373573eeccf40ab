use Rattle.std.proofs.Common.{◌≡◌, sym, subst, ◌⊎◌, true}
use Rattle.serde_ipld_dagcbor.specs.Whole.{IsWhole, HoldsNoValue, OfWhole, LacksMemoryIf}
use Rattle.dagcbor_blocks.proofs.Keeping.{block_found, no_block_found, digest_of_found, not_got}
use Rattle.serde_ipld_dagcbor.specs.Steps.{default_steps}
use Rattle.serde_ipld_dagcbor.specs.DecodeError.TheVariants.{OutOfMemory}
use Rattle.dagcbor_blocks.proofs.store.Blocks.get.Goals as goal

pub returns-in_default-clause-gets : goal.returns-in_default-clause-gets
returns-in_default-clause-gets g c = no_block_found c.args.name.now c.args.self.now.blocks.entries (sym c.in_default.ensures.value)

pub returns-then-not-is_dag_cbor-clause-gets : goal.returns-then-not-is_dag_cbor-clause-gets
returns-then-not-is_dag_cbor-clause-gets g c =
    let found = sym c.in-Some.ensures.value in (
      (
        c.in-Some.block.now.items,
        (block_found c.args.name.now c.args.self.now.blocks.entries c.in-Some.block.now found, digest_of_found c.args.name.now c.args.self.now.blocks.entries c.in-Some.block.now found c.args.self.now.sound),
      ),
      rw c.if-not-is_dag_cbor.true at c.is_dag_cbor.ensures,
    )

pub returns-in-Ok-clause-gets : goal.returns-in-Ok-clause-gets
returns-in-Ok-clause-gets g c =
    let found = sym c.in-Some.ensures.value in (
      c.in-Some.block.now.items,
      (
        (block_found c.args.name.now c.args.self.now.blocks.entries c.in-Some.block.now found, digest_of_found c.args.name.now c.args.self.now.blocks.entries c.in-Some.block.now found c.args.self.now.sound),
        rw c.if-not-is_dag_cbor.false at c.is_dag_cbor.ensures,
      ),
      subst (λ b. IsWhole g.T.Shown.shape default_steps b (g.T.Shown.meaning c.in-Ok.value)) c.deref.ensures.value c.in-Ok.ensures.value,
    )

pub returns-in-Err-clause-gets : goal.returns-in-Err-clause-gets
returns-in-Err-clause-gets g c =
    let found = sym c.in-Some.ensures.value in
    not_got g.T.Shown.shape c.args.name.now _ c.in-Some.block.now.items c.in-Err.error c.of_decoding.result (
      (block_found c.args.name.now c.args.self.now.blocks.entries c.in-Some.block.now found, digest_of_found c.args.name.now c.args.self.now.blocks.entries c.in-Some.block.now found c.args.self.now.sound),
      rw c.if-not-is_dag_cbor.false at c.is_dag_cbor.ensures,
    )
    (subst (λ b. ((c.in-Err.error ≡ OutOfMemory) ⊎ HoldsNoValue g.T.Shown.shape default_steps b) × OfWhole c.in-Err.error × LacksMemoryIf (g.T.Shown.shape.memory true) c.in-Err.error) c.deref.ensures.value (c.in-Err.ensures.refused, c.in-Err.ensures.never, c.in-Err.ensures.memory)) c.of_decoding.ensures
