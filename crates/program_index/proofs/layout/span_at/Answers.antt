use Rattle.std.proofs.Common.{rules}
use Rattle.std.proofs.lemmas.Bool.{MatchBool-at_true}
use Rattle.program_parts.proofs.Known.{if_some}
use Rattle.program_index.proofs.Spanning.{span_of_all}
use Rattle.program_index.proofs.layout.span_at.Goals as goal

pub returns-then-full : goal.returns-then-full
returns-then-full g c = if_some (g.S.ReadAt.bytes c.args.source.now) c.in-Ok.ensures (λ b h. span_of_all b c.fill.new.room c.span_in.result (MatchBool-at_true _ _ c.if-full.true h) (search rules) c.span_in.ensures)
