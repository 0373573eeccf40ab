use Rattle.std.proofs.Common.{string_bytes, map}
use Rattle.program_dagstore.proofs.Commanding.{no_done, no_word}
use Rattle.program_dagstore.proofs.command.names_after.Goals as goal

pub returns-in-None-clause-known : goal.returns-in-None-clause-known
returns-in-None-clause-known c = λ imports puts ats cats lists.
    no_done c.texts_tell_cids.ensures c.text_faults.ensures c.args.path.now c.args.word.now (map string_bytes c.args.rest.now) c.in-Ok.names.items imports puts ats cats lists (rw c.in-Ok.is at c.in_ok-names.ensures.read) c.in-None.ensures

pub returns-in-Err-2-clause-known : goal.returns-in-Err-2-clause-known
returns-in-Err-2-clause-known c = λ imports puts ats cats lists.
    no_word c.text_faults.ensures c.args.path.now c.args.word.now (map string_bytes c.args.rest.now) c.in-Err.cause imports puts ats cats lists (rw c.in-Err.is at c.in_ok-names.ensures.read) c.if-takes_names.ensures
