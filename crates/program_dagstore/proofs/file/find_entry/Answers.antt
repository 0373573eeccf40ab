use Rattle.std.proofs.Common.{sym, ◌∙◌, MatchResult}
use Rattle.program_parts.specs.FileNames.{HasEntry, NamesNothing}
use Rattle.program_dagstore.proofs.Contents.{got_one}
use Rattle.program_dagstore.proofs.file.find_entry.Goals as goal

pub returns-clause-found : goal.returns-clause-found
returns-clause-found g c =
    got_one (g.S.Store.view c.args.store.now) (g.S.Store.view c.get_block.new.self) c.args.block.now c.in_ok-got.got
    (λ stored. MatchResult c.entry_stored.result (HasEntry stored c.args.block.now c.args.name.now) (NamesNothing stored c.args.block.now c.args.name.now))
    c.in_ok-got.ensures.verified c.in_ok-got.ensures.found (λ stored e. c.entry_stored.ensures stored (e ∙ sym c.bytes_got.ensures))
