use Rattle.std.proofs.Common.{◌++◌, sym, subst}
use Rattle.text_cid.specs.Texts.{cid_text}
use Rattle.program_shared.specs.Writing.{WritesFront}
use Rattle.program_dagstore.specs.Refusals.{dagstore_line, state_lines}
use Rattle.program_dagstore.proofs.refusal.write_state.Goals as goal

pub returns-in-LinksUnread : goal.returns-in-LinksUnread
returns-in-LinksUnread g c =
    subst (λ r. WritesFront (g.V.Write.contents c.args.errors.now) (g.V.Write.contents c.write_named-in-LinksUnread.new.errors) c.write_named-in-LinksUnread.result (state_lines r)) (sym c.in-LinksUnread.is)
    (subst (λ t. WritesFront (g.V.Write.contents c.args.errors.now) (g.V.Write.contents c.write_named-in-LinksUnread.new.errors) c.write_named-in-LinksUnread.result (dagstore_line (cid_text c.in-LinksUnread.name ++ t))) c.verdict_words.ensures c.write_named-in-LinksUnread.ensures)
