use Rattle.std.proofs.Common.{sym, subst}
use Rattle.ipld_paths.specs.Paths.{segments}
use Rattle.ipld_links.specs.Reaching.{stored_in}
use Rattle.program_parts.specs.Lines.{SaysBoth}
use Rattle.program_parts.specs.Paths.{IsAnswerOf}
use Rattle.program_parts.proofs.at.say_asked.Goals as goal

pub returns-in-Data : goal.returns-in-Data
returns-in-Data g c = subst (λ a. SaysBoth (IsAnswerOf a c.args.root.now (segments c.args.path.now) (stored_in c.args.blocks.now)) (g.W.Write.contents c.args.output.now) (g.V.Write.contents c.args.errors.now) c.say_at.result (g.W.Write.contents c.say_at.new.output) (g.V.Write.contents c.say_at.new.errors)) (sym c.in-Data.is) c.say_at.ensures

pub returns-in-Bytes : goal.returns-in-Bytes
returns-in-Bytes g c = subst (λ a. SaysBoth (IsAnswerOf a c.args.root.now (segments c.args.path.now) (stored_in c.args.blocks.now)) (g.W.Write.contents c.args.output.now) (g.V.Write.contents c.args.errors.now) c.say_raw.result (g.W.Write.contents c.say_raw.new.output) (g.V.Write.contents c.say_raw.new.errors)) (sym c.in-Bytes.is) c.say_raw.ensures

pub returns-in-Proof : goal.returns-in-Proof
returns-in-Proof g c = subst (λ a. SaysBoth (IsAnswerOf a c.args.root.now (segments c.args.path.now) (stored_in c.args.blocks.now)) (g.W.Write.contents c.args.output.now) (g.V.Write.contents c.args.errors.now) c.say_proof.result (g.W.Write.contents c.say_proof.new.output) (g.V.Write.contents c.say_proof.new.errors)) (sym c.in-Proof.is) c.say_proof.ensures
