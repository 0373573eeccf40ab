use Rattle.std.proofs.Common.{◌≡◌, List, ℕ, ap, ◌∙◌, subst, take, drop, length, rules}
use Rattle.std.proofs.lemmas.Bool.{MatchBool-at_true}
use Rattle.program_shared.specs.Writing.{WritesFront}
use Rattle.program_parts.proofs.Known.{if_some}
use Rattle.program_index.proofs.copy.copy_piece.Goals as goal

pub returns-then-full : goal.returns-then-full
returns-then-full g c = if_some (g.S.ReadAt.bytes c.args.source.now) c.in-Ok.ensures (λ b h.
    let long : length c.fill.new.room ≡ c.args.count = search rules in
    subst (λ (l : List ℕ). WritesFront (g.W.Write.contents c.args.output.now) (g.W.Write.contents c.write_all.new.writer) c.write_all.result l)
    (MatchBool-at_true _ _ c.if-full.true h ∙ ap (λ n. take n (drop c.args.place b)) long) c.write_all.ensures.written)
