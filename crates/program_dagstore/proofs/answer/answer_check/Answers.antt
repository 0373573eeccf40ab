use Rattle.program_dagstore.proofs.answer.answer_check.Goals as goal

pub returns : goal.returns
returns g c =
    let w = c.check_store.ensures in
    (c.check_store.result, (c.end.ensures.status, c.end.ensures.told), w.says, w.reads, w.fault)
