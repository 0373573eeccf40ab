use Rattle.std.proofs.Common.{ap}
use Rattle.std.specs.Prelude.{⊤}
use Rattle.std.specs.declared.io.Error.{Error}
use Rattle.dagcbor_heads.proofs.Refusing.{as_refusal}
use Rattle.dagcbor_items.proofs.SliceReads.{if_err}
use Rattle.types_serde.proofs.SourceReads.{whole_refused, bytes_of_rest, if_not}
use Rattle.types_serde.proofs.source.block_from_reader.Goals as goal

pub returns-in_err-block-clause-refused : goal.returns-in_err-block-clause-refused
returns-in_err-block-clause-refused g c =
    let start = c.new.ensures in
    if_err (λ _. ⊤) _ c.from_residual.result (as_refusal _ _ _ _ c.from_residual.ensures.1 (whole_refused (g.R.Read.remaining c.args.reader) _ _ _ (ap (λ r. r.left) start) (ap (λ r. r.steps) start) c.in_err-block.ensures.block))

pub returns-clause-refused : goal.returns-clause-refused
returns-clause-refused g c =
    let start = c.new.ensures in
    let shown = if_not _ _ _ c.if-branch.false c.in_ok-is_at_end.ensures.end in
    bytes_of_rest Error (g.R.Read.remaining c.args.reader) _ _ _ _ _ (ap (λ r. r.left) start) (ap (λ r. r.steps) start) c.in_ok-block.ensures.block.1 shown.1
