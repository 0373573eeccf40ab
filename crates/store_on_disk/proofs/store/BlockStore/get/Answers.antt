use Rattle.std.proofs.Common.{◌≡◌, subst, ◌⊎◌}
use Rattle.dagcbor_core.specs.Steps.{default_steps}
use Rattle.dagcbor_core.specs.declared.error.DecodeError.TheVariants.{OutOfMemory}
use Rattle.dagcbor_read.specs.Whole.{IsWhole, HoldsNoValue}
use Rattle.store_on_disk.proofs.store.BlockStore.get.Goals as goal

pub returns-in-Ok-clause-gets : goal.returns-in-Ok-clause-gets
returns-in-Ok-clause-gets g c clean = (
  rw c.if-not-is_dag_cbor.false at c.is_dag_cbor.ensures,
  (
    c.in-Ok-Some.block.items,
    rw c.in-Ok-Some.field-0-is at (c.in-Ok-Some.ensures.found clean),
    subst (λ b. IsWhole g.T.Shown.shape default_steps b (g.T.Shown.meaning c.in-Ok.value)) c.deref.ensures.value c.in-Ok.ensures.value,
  ),
)

pub returns-clause-refused : goal.returns-clause-refused
returns-clause-refused g c =
    let e = c.in-Err-from_slice_owned.error in (
      rw c.if-not-is_dag_cbor.false at c.is_dag_cbor.ensures,
      (
        c.in-Ok-Some.block.items,
        (
          rw c.in-Ok-Some.field-0-is at c.in-Ok-Some.ensures.verified,
          λ clean. (rw c.in-Ok-Some.field-0-is at (c.in-Ok-Some.ensures.found clean), c.in-Ok-Some.ensures.reads.same clean),
        ),
        record {
          of_whole = c.in-Err-from_slice_owned.ensures.never;
          memory = c.in-Err-from_slice_owned.ensures.memory;
          why = subst (λ b. (e ≡ OutOfMemory) ⊎ HoldsNoValue g.T.Shown.shape default_steps b) c.deref.ensures.value c.in-Err-from_slice_owned.ensures.refused;
        },
      ),
    )
