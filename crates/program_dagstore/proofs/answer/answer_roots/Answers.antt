use Rattle.program_dagstore.proofs.answer.answer_roots.Goals as goal

pub returns : goal.returns
returns g c =
    let w = c.list_roots.ensures in
    (c.list_roots.result, (c.end.ensures.status, c.end.ensures.told), w.says, w.reads, w.fault)
