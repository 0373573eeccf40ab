use Rattle.std.proofs.Common.{map}
use Rattle.ipld_links.specs.Reaching.{stored_in}
use Rattle.files_unix_fs.specs.Reading.{asked}
use Rattle.program_parts.proofs.Contents.{HasSaid}
use Rattle.program_parts.proofs.content.say_content.Given as goal

abbrev pub invariant-loop-count : goal.invariant-loop-count
invariant-loop-count g l = HasSaid (stored_in l.blocks) l.root (map asked l.reader.wanted.items) (g.W.Write.contents l.fn.output) (g.V.Write.contents l.fn.errors) (g.W.Write.contents l.output) (g.V.Write.contents l.errors)
