use Rattle.std.proofs.Common.{sym, subst, Bool, OnOk}
use Rattle.types_serde.specs.Holds.{MovesTop, put_name}
use Rattle.types_serde.proofs.sink.Sink.named.Goals as goal

pub returns-then-is_key : goal.returns-then-is_key
returns-then-is_key c =
    let P : Bool → Type 0 = λ b. OnOk c.key.result (MovesTop (put_name b c.args.name.now) c.args.self.now c.key.new.self) in
    subst P (sym c.if-is_key.true) c.key.ensures.moved

pub returns-else-is_key : goal.returns-else-is_key
returns-else-is_key c =
    let P : Bool → Type 0 = λ b. OnOk c.text.result (MovesTop (put_name b c.args.name.now) c.args.self.now c.text.new.self) in
    subst P (sym c.if-is_key.false) c.text.ensures.moved
