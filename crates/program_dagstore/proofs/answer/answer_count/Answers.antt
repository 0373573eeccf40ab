use Rattle.program_dagstore.proofs.answer.answer_count.Goals as goal

pub returns : goal.returns
returns g c =
    let w = c.count_blocks.ensures in
    (c.count_blocks.result, (c.end.ensures.status, c.end.ensures.told), w.says, w.reads, w.fault)
