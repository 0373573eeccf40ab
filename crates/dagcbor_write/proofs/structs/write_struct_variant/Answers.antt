use Rattle.std.proofs.Common.{arith}
use Rattle.dagcbor_heads.proofs.Writing.{next_part, exit_part, last_part}
use Rattle.ipld_tree.specs.Tree.{entries_tree}
use Rattle.dagcbor_write.specs.Trees.{variant_head}
use Rattle.dagcbor_write.proofs.Enums.{begin_newtype_variant}
use Rattle.dagcbor_write.proofs.Messages.{variant_spelled, exit_head, after_head}
use Rattle.dagcbor_write.proofs.structs.write_struct_variant.Goals as goal

pub returns-in_err-push_variant-clause-written : goal.returns-in_err-push_variant-clause-written
returns-in_err-push_variant-clause-written g c =
    exit_part (begin_newtype_variant c.args.variant.now (entries_tree (g.F.FieldRow.pairs c.args.fields)) _) _ _ _ c.from_residual.ensures.1 c.in_err-push_variant.ensures.written

pub returns-clause-written : goal.returns-clause-written
returns-clause-written g c =
    last_part (next_part (begin_newtype_variant c.args.variant.now (entries_tree (g.F.FieldRow.pairs c.args.fields)) _) _ c.in_ok-push_variant.ensures.written) _ _ c.write_struct.ensures.written

pub returns-in_err-push_variant-clause-message : goal.returns-in_err-push_variant-clause-message
returns-in_err-push_variant-clause-message g c = exit_head (g.F.FieldRow.pairs c.args.fields) _ (variant_head c.args.variant.now) (g.W.Write.written c.args.ser.now) (g.W.Write.written c.push_variant.new.self) _ (variant_spelled c.args.variant.now (omega arith)) c.in_err-push_variant.ensures.written c.from_residual.ensures.1

pub returns-clause-message : goal.returns-clause-message
returns-clause-message g c = after_head _ _ (variant_head c.args.variant.now) g.W.Write.written _ _ _ c.in_ok-push_variant.ensures.written c.write_struct.ensures.message
