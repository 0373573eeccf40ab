use Rattle.std.proofs.lemmas.Result.{IfOk-weaker}
use Rattle.ipld_links.proofs.Within.{names_of}
use Rattle.ipld_links.proofs.names.names_of_block.Goals as goal

pub returns-clause-names : goal.returns-clause-names
returns-clause-names c = IfOk-weaker c.into_vec.result _ _ (λ v is. names_of c.args.codec c.args.block.now v.items c.new.result c.new-names.result c.add_links.new.self c.new.ensures c.new-names.ensures c.in_ok-add_links.ensures is) c.into_vec.ensures.all
