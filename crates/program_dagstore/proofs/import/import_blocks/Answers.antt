use Rattle.std.proofs.Common.{inl, inr, refl}
use Rattle.dagcbor_items.specs.Walks.{forms}
use Rattle.program_dagstore.proofs.Importing.{read_from, refused_from}
use Rattle.program_dagstore.proofs.import.import_blocks.Goals as goal

pub returns-in-Ok-clause-imports : goal.returns-in-Ok-clause-imports
returns-in-Ok-clause-imports g c =
    let k = c.in-Ok.ensures.ok in (
      _,
      inl (record {
        roots = c.in-Ok.read.0.items;
        sections = k.0;
        read = read_from (forms c.in-Ok.read.0.items) k.0 c.new.result _ _ c.new.ensures k.2;
        filled = k.3;
        gains = c.in-Ok.ensures.roots;
        keeps = c.in-Ok.ensures.table;
        ended = c.say_stored.result;
        says = rw (c.deref.ensures.value, k.1) at c.say_stored.ensures;
        is_status = c.end.ensures.status;
        tells = c.end.ensures.told;
      }),
    )

pub returns-clause-imports : goal.returns-clause-imports
returns-clause-imports g c = (
  _,
  inr (record {
    error = c.in-Err.error;
    refused = refused_from g.S.Store c.new.result _ _ c.args.store.now c.in-Err.error c.read_car.new.self c.new.ensures c.in-Err.ensures.refused;
    undone = c.in-Err.ensures.undone;
    nothing = refl;
    is_status = c.tell_unread.ensures.status;
    tells = c.tell_unread.ensures.told;
  }),
)
