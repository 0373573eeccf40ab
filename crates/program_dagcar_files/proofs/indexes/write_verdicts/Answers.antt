use Rattle.program_parts.proofs.Known.{if_known}
use Rattle.program_dagcar.specs.Speeches.{beside}
use Rattle.program_dagcar.specs.Answers.{check_speech, TellsPlace, SaysWithPlaces}
use Rattle.program_dagcar_files.proofs.Getting.{from_first}
use Rattle.program_dagcar_files.proofs.Indexed.{nothing_said}
use Rattle.program_dagcar_files.proofs.indexes.write_verdicts.Goals as goal

pub returns-in-Ok : goal.returns-in-Ok
returns-in-Ok g c = from_first (g.S.ReadAt.bytes c.args.source.now) _ (λ b. SaysWithPlaces check_speech b (g.W.Write.contents c.args.output.now) (g.V.Write.contents c.args.errors.now) c.run.result (g.W.Write.contents c.run.new.output) (g.V.Write.contents c.run.new.errors)) c.in-Ok.ensures c.run.ensures.runs

pub returns-in-Err : goal.returns-in-Err
returns-in-Err g c = if_known (g.S.ReadAt.bytes c.args.source.now) (λ b known. (nothing_said check_speech b (g.W.Write.contents c.args.output.now) _, nothing_said (beside TellsPlace) b (g.V.Write.contents c.args.errors.now) _))
