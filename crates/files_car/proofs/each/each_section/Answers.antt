use Rattle.std.proofs.Common.{◌≡◌, ◌-◌, ◌^◌, length, [], ◌∷◌, ◌++◌, inl, inr, refl, sym, ap, subst, arith, length-append}
use Rattle.std.proofs.lemmas.Result.{err_from_is_err_and}
use Rattle.dagcbor_heads.specs.Inputs.{input_reading}
use Rattle.files_car.specs.Each.{TakesEach, StopsEach}
use Rattle.files_car.specs.declared.error.CarError.TheVariants.{OutOfMemory}
use Rattle.files_car.specs.declared.each.ReadCarError.TheVariants.{Section}
use Rattle.files_car.proofs.Taking.{each_begun, each_more}
use Rattle.files_car.proofs.each.each_section.Goals as goal

pub loop-count-init : goal.loop-count-init
loop-count-init g c = ([], refl, each_begun g.S.SectionSink.takes c.args.left.now (input_reading g.R.Read.reading c.args.input.now) c.args.sink.now)

pub returns-in_err-more : goal.returns-in_err-more
returns-in_err-more g c =
    let p = err_from_is_err_and c.from_residual.result c.from_residual.ensures.1 in
    let i = c.loop-count.invariant in
    let source = input_reading g.R.Read.reading c.loop-count.input in
    let following = input_reading g.R.Read.reading c.take_next.new.input in
    let stops = subst (λ n. StopsEach g.S.SectionSink.takes n c.loop-count.left source c.loop-count.sink c.in_err-more.field-0.0 c.take_next.new.left following c.take_next.new.sink) (sym i.1) c.in_err-more.ensures in
    rw (p.1, p.2) (i.0, c.loop-count.left, source, c.loop-count.sink, i.2, inl stops)

pub returns-then-not-more : goal.returns-then-not-more
returns-then-not-more g c =
    let w = rw c.if-not-more.true at c.in_ok-more.ensures in
    let i = c.loop-count.invariant in
    (i.0, c.loop-count.left, input_reading g.R.Read.reading c.loop-count.input, subst (λ x. TakesEach g.S.SectionSink.takes c.args.left.now (input_reading g.R.Read.reading c.args.input.now) c.args.sink.now i.0 c.loop-count.left (input_reading g.R.Read.reading c.loop-count.input) x) (sym w.1) i.2, sym i.1, w.0)

pub loop-count-preserved : goal.loop-count-preserved
loop-count-preserved g c =
    let w = rw c.if-not-more.false at c.in_ok-more.ensures in
    let i = c.loop-count.invariant in (
      i.0 ++ w.0 ∷ [],
      omega (arith, i.1, length-append i.0 (w.0 ∷ [])),
      each_more g.S.SectionSink.takes i.0 w.0 _ _ _ _ _ _ _ _ _ i.2 w.1 w.2,
    )

pub returns : goal.returns
returns g c =
    let i = c.loop-count.invariant in
    let many : length i.0 ≡ 2 ^ 64 - 1 = omega (arith, i.1) in
    (i.0, c.loop-count.left, input_reading g.R.Read.reading c.loop-count.input, c.loop-count.sink, i.2, inr (refl, refl, (ap (λ n. Section n OutOfMemory) (sym many), many)))
