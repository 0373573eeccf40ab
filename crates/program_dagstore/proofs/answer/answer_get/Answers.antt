use Rattle.program_dagstore.proofs.answer.answer_get.Goals as goal

pub returns : goal.returns
returns g c =
    let w = c.get_block-ended.ensures in
    (c.get_block-ended.result, _, w.says, w.reads, w.fault, (c.end.ensures.status, c.end.ensures.told))
