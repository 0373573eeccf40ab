use Rattle.files_car.proofs.writer.CarWriter.new.Goals as goal

pub returns-in-Err : goal.returns-in-Err
returns-in-Err g c = (c.push_header.new.writer, rw c.refusal.ensures c.in-Err.ensures.written)
