use Rattle.std.proofs.Common.{◌∙◌, ◌+◌, min, length, ap}
use Rattle.dagcbor_heads.proofs.Windows.{shown_window}
use Rattle.dagcbor_heads.proofs.window.Window.look.Goals as goal

pub returns : goal.returns
returns g c =
    let h = c.in_ok-prepare.ensures.ready in
    let k = shown_window _ _ _ c.args.want c.prepare.new.self c.show.new.self c.show.ensures h.1 h.0 in
    record { shown = (k.0, k.1 ∙ h.2, k.2 ∙ ap (λ n. n + min c.args.want (length c.show.new.self.shown)) h.3) }
