use Rattle.std.proofs.Common.{rules, arith, refl, length-take}
use Rattle.dagcbor_heads.proofs.Windows.{fill_told}
use Rattle.dagcbor_heads.proofs.window.Window.refill.Goals as goal

pub returns-in-Ok : goal.returns-in-Ok
returns-in-Ok g c = record {
  filled = (
    fill_told c.args.self.now.copies c.args.self.now.taken (g.R.Read.remaining c.args.source.now) (g.R.Read.remaining c.consume.new.self) (g.R.Read.remaining c.fill_buf.follows.lender-at-none) _ _ c.in-Ok.bytes.now _ c.copy_front-self-inside.result
        c.requires (search rules) c.in-Ok.ensures.front c.in-Ok.ensures.end (search rules) (search rules) c.copy_front-self-inside.ensures.copied (λ none. omega (arith, none, length-take c.copy_front-self-inside.result c.copy_front-self-inside.new.room, c.copy_front-self-inside.ensures.count, c.copy_front-self-inside.ensures.room)),
    refl,
    refl,
    search rules,
    search rules,
  );
}
