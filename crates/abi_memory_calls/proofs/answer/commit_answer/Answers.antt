use Rattle.program_records.specs.Commits.{IsCommitFile}
use Rattle.abi_memory_calls.proofs.answer.commit_answer.Goals as goal

pub returns-in_ok-block-in-Ok-Ok : goal.returns-in_ok-block-in-Ok-Ok
returns-in_ok-block-in-Ok-Ok c =
    let is : IsCommitFile c.args.file.now c.in-Ok-Ok.name c.in-Ok-Ok.commit = rw c.in-Ok-Ok.field-0-is at c.in-Ok-Ok.ensures in
    (c.in-Ok-Ok.name, c.in-Ok-Ok.commit, is, c.in_ok-block-in-Ok-Ok.ensures)
