use Rattle.std.proofs.Common.{◌∙◌, ap, sym, subst, IfOk, Result, Ok, Err, true}
use Rattle.serde_ipld_dagcbor.specs.Streams.{AreStreamItems, AreUpTo}
use Rattle.tests_io.proofs.tests.streams.items_of.Goals as goal

if_ok : {A B : Type 0} (P Q : A → Type 0) (r : Result A B) → ((v : A) → P v → Q v) → IfOk r P → IfOk r Q
if_ok P Q (Ok v) f h = f v h
if_ok P Q (Err e) f h = tt

pub returns : goal.returns
returns g c = if_ok _ _ c.collect.result (λ v h. λ items k.
    let stream = c.into_iter.ensures in
    let start = c.from_slice.ensures in
    let law = c.streams_exact.ensures c.into_iter.result true h.0 (h.1.0, h.1.1, λ e. h.1.2 tt) in
    let steps = ap (λ s. s.source.input.steps) stream ∙ ap (λ p. p.input.steps) start in
    let lends = ap (λ s. s.source.input.lends) stream ∙ ap (λ p. p.input.lends) start in
    let came = law.same c.args.bytes.now record {
      goes_on = ap (λ s. s.done) stream;
      sound = ap (λ s. s.source.failed) stream ∙ ap (λ p. p.failed) start;
      left = ap (λ s. s.source.input.left) stream ∙ ap (λ p. p.input.left) start;
    } items (subst (λ n. AreStreamItems g.T.Shown.shape n c.args.bytes.now items) (sym steps) k) in
    subst (λ xs. AreUpTo g.T.Shown.meaning g.T.Shown.shape true true xs items) (sym h.2.0) (subst (λ l. AreUpTo g.T.Shown.meaning g.T.Shown.shape l true h.0 items) lends came)) c.collect.ensures.ran
