-- The kind of an item, by its first byte.
use Rattle.std.proofs.Common.{ℕ, subst}
use Rattle.dagcbor_heads.specs.Reading.{Reading}
use Rattle.dagcbor_heads.specs.Fronts.{ShowsByte}
use Rattle.ipld_tree.specs.Spelling.{IsFront}
use Rattle.dagcbor_decode.specs.TreeKinds.{IsKindAt}
use Rattle.dagcbor_decode.specs.declared.kind.Kind.{Kind}
use Rattle.dagcbor_read.specs.Kinds.{ShowsKind}

-- the byte that is shown tells the kind of any item at the front
pub kind_shown : {old new : Reading} {byte : ℕ} {kind : Kind} → ShowsByte old byte new → IsKindAt byte kind → ShowsKind old kind new
kind_shown {old} {new} {byte} {kind} s k = record {
  is = λ b l t rest f.
      let m = s.starts b l in
      k t m.0 rest (subst (λ x. IsFront x t rest) m.1 f);
  kept = s.kept;
  same = s.same;
}
