use Rattle.std.proofs.Common.{refl, rules, sym, ◌∙◌}
use Rattle.dagcbor_decode.proofs.CidTest.{cid_tested}
use Rattle.types_serde.specs.declared.frame.Stage.TheVariants as stage
use Rattle.types_serde.proofs.Opening.{cid_steps}
use Rattle.types_serde.proofs.sink.Sink.cid.Goals as goal

pub returns-then-not-is_cid-clause-refused : goal.returns-then-not-is_cid-clause-refused
returns-then-not-is_cid-clause-refused c = λ valid. cc ((cid_tested _).1 valid, c.is_cid.ensures, c.if-not-is_cid.true)

pub returns-clause-moved : goal.returns-clause-moved
returns-clause-moved c = cid_steps c.args.self.now (record c.args.self.now { bytes = c.append_link.new.out; top = record c.args.self.now.top { stage = stage.Linked } }) c.args.v.now c.requires (search rules) ((cid_tested _).0 (sym c.is_cid.ensures ∙ c.if-not-is_cid.false)) c.in_ok-append_link.ensures.appended refl refl refl
