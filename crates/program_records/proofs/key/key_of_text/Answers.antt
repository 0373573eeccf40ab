use Rattle.std.proofs.Common.{ap, ◌∙◌, length, arith, rules}
use Rattle.std.proofs.lemmas.List.{length-drop}
use Rattle.program_records.proofs.Spelled.{rest_all, reads_on, reads_end}
use Rattle.program_records.proofs.key.key_of_text.Goals as goal

pub loop-at-preserved : goal.loop-at-preserved
loop-at-preserved c =
    let at = c.loop-at.at in
    let text = c.args.text.now in
    record {
      bound = omega (arith, c.front_byte-byte.ensures.bound.1, ap length (rest_all at text), length-drop at text, c.loop-at-test.true);
      reads = reads_on text c.loop-at.key.items c.push.new.self.items at c.front_byte-byte.result.1 c.front_byte-byte.result.0 (omega (arith, c.loop-at-test.true)) c.loop-at.invariant.reads (search rules)
          (λ b more l is. c.front_byte-byte.ensures.value b more l (rest_all at text ∙ is));
    }

pub returns : goal.returns
returns c = reads_end c.args.text.now c.loop-at.key.items c.loop-at.at (omega (arith, c.loop-at-test.false)) c.loop-at.invariant.reads
