use Rattle.std.proofs.Common.{arith}
use Rattle.ipld_paths.proofs.item.part_in.Goals as goal

pub returns-in-Some : goal.returns-in-Some
returns-in-Some c = λ block read. (rw c.in-Some.is at c.in_ok-part.ensures) c.args.name.now block (omega (arith, c.codec.ensures, c.if-codec-eq-DAG_PB.true)) read

pub returns-in-None : goal.returns-in-None
returns-in-None c = λ block read. (rw c.in-None.is at c.in_ok-part.ensures) c.args.name.now block (omega (arith, c.codec.ensures, c.if-codec-eq-DAG_PB.true)) read
