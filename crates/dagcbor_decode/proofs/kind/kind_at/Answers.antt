use Rattle.std.proofs.Common.{subst, sym}
use Rattle.dagcbor_decode.specs.TreeKinds.{IsKindAt}
use Rattle.dagcbor_decode.proofs.FrontKinds.{kind_is_at}
use Rattle.dagcbor_decode.proofs.kind.kind_at.Goals as goal

pub returns : goal.returns
returns c = subst (IsKindAt c.args.first) (sym c.kind_by.ensures) (kind_is_at c.args.first)
