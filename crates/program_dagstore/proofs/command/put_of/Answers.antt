use Rattle.std.proofs.Common.{string_bytes, map}
use Rattle.program_dagstore.proofs.Commanding.{no_put, one_word}
use Rattle.program_dagstore.proofs.command.put_of.Goals as goal

pub returns-in-None : goal.returns-in-None
returns-in-None c = no_put c.args.path.now c.as_str.result.now (map string_bytes c.args.rest.now) (one_word string_bytes c.args.rest.now c.word-item.result c.as_str.result.now c.in-len1.len_at_least c.in-len1.len_below c.word-item.is c.as_str.ensures.value) c.in-None.ensures
