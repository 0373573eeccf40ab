use Rattle.std.proofs.Common.{inr, sym, ◌∙◌}
use Rattle.ipld_links.specs.Reaching.{stored_in}
use Rattle.ipld_paths.specs.Paths.{segments}
use Rattle.ipld_paths.specs.Resolving.{readable_bytes}
use Rattle.program_parts.proofs.Saying.{line_whole, both_of}
use Rattle.program_parts.proofs.Ending.{end_told, raw_written, raw_broken}
use Rattle.program_parts.proofs.raw.say_raw.Goals as goal

pub returns-in-None : goal.returns-in-None
returns-in-None g c = both_of _ _ _ _ c.say_end.result _ _ (λ well said told k. inr (end_told readable_bytes (stored_in c.args.blocks.now) c.args.root.now (segments c.args.path.now) c.in-Ok.resolved c.in-Ok.ensures ((rw c.in-None.is at c.in_ok-item.ensures) c.args.root.now (segments c.args.path.now) c.in-Ok.ensures) well said told k)) c.say_end.ensures

pub returns-in_err-write_all-in-Some : goal.returns-in_err-write_all-in-Some
returns-in_err-write_all-in-Some g c =
    let given = (rw c.in-Some.is at c.in_ok-item.ensures) c.args.root.now (segments c.args.path.now) c.in-Ok.ensures in
    let w = c.in_err-write_all-in-Some.ensures.written in
    raw_broken readable_bytes (stored_in c.args.blocks.now) c.args.root.now (segments c.args.path.now) c.in-Ok.resolved.end c.in-Some.item given _ _ _ c.from_residual-in_err-write_all-in-Some.result c.in_err-write_all-in-Some.field-0.0 c.from_residual-in_err-write_all-in-Some.ensures.1 c.in_err-write_all-in-Some.ensures.fault (w.0, w.1, sym c.bytes.ensures ∙ w.2, w.3)

pub returns-in_ok-write_all-in-Some : goal.returns-in_ok-write_all-in-Some
returns-in_ok-write_all-in-Some g c =
    let given = (rw c.in-Some.is at c.in_ok-item.ensures) c.args.root.now (segments c.args.path.now) c.in-Ok.ensures in
    raw_written readable_bytes (stored_in c.args.blocks.now) c.args.root.now (segments c.args.path.now) c.in-Ok.resolved.end c.in-Some.item given _ _ _ (line_whole _ _ c.bytes.result.now (readable_bytes c.in-Some.item) c.in_ok-write_all-in-Some.ensures.written c.bytes.ensures)
