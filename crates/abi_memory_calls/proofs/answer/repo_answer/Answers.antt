use Rattle.program_records.specs.Repositories.{IsRepoFile}
use Rattle.abi_memory_calls.proofs.answer.repo_answer.Goals as goal

pub returns-in_ok-block-in-Ok-Ok : goal.returns-in_ok-block-in-Ok-Ok
returns-in_ok-block-in-Ok-Ok c =
    let is : IsRepoFile c.args.file.now c.in-Ok-Ok.repo.commit c.in-Ok-Ok.repo.records.items = rw c.in-Ok-Ok.field-0-is at c.in-Ok-Ok.ensures in
    (c.in-Ok-Ok.repo.commit, c.in-Ok-Ok.repo.records.items, is, c.in_ok-block-in-Ok-Ok.ensures)
