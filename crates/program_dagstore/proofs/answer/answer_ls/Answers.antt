use Rattle.program_dagstore.proofs.answer.answer_ls.Goals as goal

pub returns : goal.returns
returns g c =
    let w = c.write_listing-ended.ensures in
    (c.write_listing-ended.result, _, w.says, w.reads, w.fault, (c.end.ensures.status, c.end.ensures.told))
