-- Where a reader stops.
use Rattle.std.proofs.Common.{◌≡◌, ℕ, List, [], ◌++◌, length, sym, ap, ◌∙◌, subst, arith, append_assoc, append-nil}
use Rattle.dag_pb.specs.declared.error.PbCause.{PbCause}
use Rattle.dag_pb.specs.declared.stop.Stop.{Stop}
use Rattle.dag_pb.specs.Causes.{IsCause, StopsIn}

-- the cause is at the front of the bytes
pub stops_here : (b : List ℕ) (cause : PbCause) (stop : Stop) → stop ≡ record { cause = cause; left = length b } → IsCause cause b → StopsIn b stop
stops_here b cause stop is h = subst (StopsIn b) (sym is) ([], b, [], sym (append-nil b), omega arith, h)

-- a stop in the rest is a stop in the whole
pub stops_after : (b front rest : List ℕ) (stop : Stop) → b ≡ front ++ rest → StopsIn rest stop → StopsIn b stop
stops_after b front rest stop e (before, at, following, is, left, h) = (
  front ++ before,
  at,
  following,
  e ∙ ap (λ r. front ++ r) is ∙ sym (append_assoc front before (at ++ following)),
  left,
  h,
)
