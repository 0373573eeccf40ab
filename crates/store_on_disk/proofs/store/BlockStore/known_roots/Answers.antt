use Rattle.std.proofs.Common.{subst}
use Rattle.store_on_disk.specs.Roots.{HasJust}
use Rattle.store_on_disk.proofs.store.BlockStore.known_roots.Goals as goal

pub returns-in-Ok-clause-ok : goal.returns-in-Ok-clause-ok
returns-in-Ok-clause-ok g c clean = (c.in_ok-names.names.items, c.in_ok-names.ensures.ok clean, subst (λ ns. HasJust ns c.in-Ok.known) c.deref.ensures.value c.in-Ok.ensures)
