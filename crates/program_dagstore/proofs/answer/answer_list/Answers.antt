use Rattle.program_dagstore.proofs.answer.answer_list.Goals as goal

pub returns : goal.returns
returns g c =
    let w = c.list_blocks.ensures in
    (c.list_blocks.result, (c.end.ensures.status, c.end.ensures.told), w.says, w.reads, w.fault)
