use Rattle.std.proofs.Common.{string_bytes, subst}
use Rattle.text_cid.specs.Texts.{IsTextOf, IsTextFault}
use Rattle.program_dagstore.proofs.Commanding.{texts_more, fault_found}
use Rattle.program_dagstore.proofs.command.cids_of.Goals as goal

pub returns-in-Err-clause-read : goal.returns-in-Err-clause-read
returns-in-Err-clause-read c = fault_found string_bytes c.args.words.now c.loop-word.word-index c.word-item.result c.loop-word.names.items c.in-Err.cause c.loop-word-test.true c.word-item.is c.loop-word.invariant (subst (IsTextFault c.in-Err.cause) c.as_bytes.ensures.value c.in-Err.ensures.1)

pub loop-word-preserved : goal.loop-word-preserved
loop-word-preserved c = rw c.in_ok-push-in-Ok.ensures.items (texts_more string_bytes c.args.words.now c.loop-word.word-index c.word-item.result c.loop-word.names.items c.in-Ok.name c.loop-word-test.true c.word-item.is c.loop-word.invariant (subst (λ t. IsTextOf t c.in-Ok.name) c.as_bytes.ensures.value c.in-Ok.ensures))
