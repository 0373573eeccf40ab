use Rattle.std.proofs.Common.{rules}
use Rattle.dagcbor_items.specs.Walks.{forms}
use Rattle.files_car.specs.Car.{header_bytes}
use Rattle.program_parts.proofs.Saying.{front_sent}
use Rattle.program_sections.proofs.send.send_header.Goals as goal

pub returns-in-Write : goal.returns-in-Write
returns-in-Write g c = front_sent (header_bytes (forms c.args.roots.now)) c.new-writer.result c.push_header-sent.new.writer c.in-Err.error c.in-Write.field-0 _ _ c.in-Err.ensures.written c.in-Write.is (search rules) (search rules)
