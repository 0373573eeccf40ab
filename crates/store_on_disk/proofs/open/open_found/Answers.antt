use Rattle.std.proofs.Common.{sym, ◌∙◌, subst, subst₂}
use Rattle.sqlite_pool.specs.File.{IsSoundFile}
use Rattle.sqlite_pool.specs.Stored.{Recovers}
use Rattle.sqlite_store.specs.Unopened.{image}
use Rattle.store_on_disk.specs.Left.{store_objects, ListsObjects, IsStoreFile}
use Rattle.store_on_disk.proofs.open.open_found.Goals as goal

pub open_listed-requires-clause-ours : goal.open_listed-requires-clause-ours
open_listed-requires-clause-ours g c at clean lists =
    let new = c.read_catalog.new.self in
    let e = c.in-Ok.ensures in
    let listed = e.ok clean in
    let held = c.requires.ours at (e.honest clean) in
    let sound = subst₂ (λ n p. ∥ IsSoundFile n p ∥₁) (e.kept clean).size listed.shows.committed listed.shows.clean.sound in
    let size = (e.kept clean).size in
    record {
      pages = listed.pages;
      found = subst (λ n. Recovers n (image new) listed.pages) (sym size) listed.again;
      ours = subst (λ n. IsStoreFile n listed.pages) (sym size) (held.left _ listed.pages held.names listed.found sound (subst (ListsObjects store_objects) (c.as_slice.ensures.value ∙ listed.lists) lists));
      schema = e.schema ∙ c.requires.schema;
    }
