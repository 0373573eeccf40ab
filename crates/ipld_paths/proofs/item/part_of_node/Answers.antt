use Rattle.std.proofs.Common.{◌∙◌, subst}
use Rattle.std.proofs.lemmas.Result.{IfOk-weaker}
use Rattle.ipld_paths.specs.Resolving.{GivesBetween}
use Rattle.ipld_paths.proofs.Reading.{not_modelled, made_read}
use Rattle.ipld_paths.proofs.item.part_of_node.Goals as goal

pub returns-in-Ok : goal.returns-in-Ok
returns-in-Ok c = IfOk-weaker c.copy_between.result _ _ (λ r given name block is read.
    subst (λ z. GivesBetween (λ v. v.items) z c.args.place c.args.end r) (c.deref.ensures.value ∙ made_read name c.args.node.now c.in-Ok.block.items block is (rw c.in-Ok.is at c.in_ok-block.ensures) read) given) c.copy_between.ensures

pub returns-in-Err : goal.returns-in-Err
returns-in-Err c = λ name block is read part stands ends. absurd (not_modelled name c.args.node.now block _ is (rw c.in-Err.is at c.in_ok-block.ensures) read)
