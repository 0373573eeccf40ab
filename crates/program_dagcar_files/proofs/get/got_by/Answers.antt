use Rattle.std.proofs.Common.{inl, inr, refl, subst}
use Rattle.program_parts.proofs.Known.{if_known}
use Rattle.program_index.specs.Finds.{IsFound, IsListed}
use Rattle.program_index.specs.Layouts.{HasIndex}
use Rattle.program_dagcar_files.proofs.Getting.{at_known, ok_map}
use Rattle.program_dagcar_files.proofs.get.got_by.Goals as goal

pub returns-in-Block : goal.returns-in-Block
returns-in-Block g c = if_known (g.S.ReadAt.bytes c.args.source.now) (λ b known f.
    let k = subst (IsFound (g.S.ReadAt.bytes c.args.source.now) c.args.name.now) c.in-Block.is f in
    inr (at_known HasIndex (g.S.ReadAt.bytes c.args.source.now) b known k.1, inl (refl, c.new.ensures.items, k.0)))

pub returns-in_ok-answer-in-NoEntry : goal.returns-in_ok-answer-in-NoEntry
returns-in_ok-answer-in-NoEntry g c = if_known (g.S.ReadAt.bytes c.args.source.now) (λ b known f.
    let k = subst (IsFound (g.S.ReadAt.bytes c.args.source.now) c.args.name.now) c.in-NoEntry.is f in
    ok_map c.past_index.result (c.past_index.ensures c.args.name.now b (at_known _ (g.S.ReadAt.bytes c.args.source.now) b known c.in_ok-answer-in-NoEntry.ensures)) (λ p h.
    let lists = at_known (λ b. HasIndex b × ¬ IsListed b c.args.name.now) (g.S.ReadAt.bytes c.args.source.now) b known k in
    inr (lists.0, inr (lists.1, h))))
