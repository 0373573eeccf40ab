use Rattle.std.proofs.Common.{arith, ap, refl, length-append}
use Rattle.dagcbor_core.specs.Causes.{PayloadCause}
use Rattle.dagcbor_heads.proofs.Refusing.{as_refusal, unlent_refused}
use Rattle.dagcbor_heads.proofs.Looking.{lent_looked, some_taken}
use Rattle.dagcbor_heads.proofs.pull.pull_payload.Goals as goal

pub returns-in_err-gather-in-Reader-clause-taken :
    goal.returns-in_err-gather-in-Reader-clause-taken
returns-in_err-gather-in-Reader-clause-taken g c =
    rw c.in-Reader.is (as_refusal _ _ _ _ c.from_residual.ensures.1
    (unlent_refused (PayloadCause c.args.n) (g.R.Read.reading c.in-Reader.reader) (g.R.Read.reading c.gather.new.reader) _ (λ h. record { payload = h.payload; rest = h.rest; long = h.long; left = h.left }) (λ _. refl) c.in_err-gather-in-Reader.ensures.taken))

pub returns-in-Some-clause-lent : goal.returns-in-Some-clause-lent
returns-in-Some-clause-lent g c = rw c.in-Slice.is (λ _. c.lend.ensures.lends, λ _. tt)

pub returns-in-None-clause-taken : goal.returns-in-None-clause-taken
returns-in-None-clause-taken g c =
    let none = c.in-None.ensures.lent in
    rw (c.in-Slice.is, c.end.ensures.1) (
      ap (λ r. r.faults) none.0,
      λ h. omega (arith, none.1 _ h.left, h.long, length-append h.payload h.rest),
      λ b l. (c.new.ensures, none.1 b l),
    )

pub returns-in-Some-clause-looked : goal.returns-in-Some-clause-looked
returns-in-Some-clause-looked g c = let lent = c.in-Some.ensures.lent in rw c.in-Slice.is (some_taken (lent_looked lent.0 lent.1 lent.2 c.in-Some.ensures.shown))
