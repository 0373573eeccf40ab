use Rattle.std.proofs.Common.{◌≡◌, ap, ◌∙◌, sym, subst, List, ℕ, OnOk}
use Rattle.serde.specs.Spelling.{spelled}
use Rattle.serde.proofs.Spellings.{spelled-AsIs}
use Rattle.types_serde.specs.Holds.{MovesTop, put_name}
use Rattle.types_serde.proofs.sink.Sink.cased.Goals as goal

pub returns-in-AsIs : goal.returns-in-AsIs
returns-in-AsIs c =
    let same : spelled c.args.case c.args.kind c.args.name.now ≡ c.args.name.now = ap (λ k. spelled k c.args.kind c.args.name.now) c.in-AsIs.is ∙ spelled-AsIs c.args.kind c.args.name.now in
    let P : List ℕ → Type 0 = λ k. OnOk c.named.result (MovesTop (put_name c.args.is_key k) c.args.self.now c.named.new.self) in
    subst P (sym same) c.named.ensures
