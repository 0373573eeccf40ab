use Rattle.std.proofs.Common.{refl, sym, subst}
use Rattle.serde.specs.Event.{Log}
use Rattle.types_serde.specs.Building.{start}
use Rattle.types_serde.specs.Holds.{FollowsLog}
use Rattle.types_serde.proofs.writer.Writer.new.Goals as goal

pub invariant_of-result : goal.invariant_of-result
invariant_of-result c =
    let P : Log → Type 0 = λ k. FollowsLog k c.new.result in
    record { follows = ∣ subst P (sym c.new-2.ensures) (start, refl, c.new.ensures) ∣₁ }
