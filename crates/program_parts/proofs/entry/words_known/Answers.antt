use Rattle.std.proofs.Common.{sym, subst}
use Rattle.ipld_links.specs.Reaching.{stored_in}
use Rattle.program_parts.specs.Entries.{AreWordsOf}
use Rattle.program_parts.proofs.Listing.{known_said, knows_more}
use Rattle.program_parts.proofs.entry.words_known.Goals as goal

pub returns-in-Some : goal.returns-in-Some
returns-in-Some c = λ h.
    (h, known_said (stored_in c.args.blocks.now) c.args.known.now c.args.cid.now c.in-Some.said h (rw c.in-Some.is at c.in_ok-said.ensures))

pub returns : goal.returns
returns c = λ h.
    let stored = stored_in c.args.blocks.now in
    let same = c.deref.ensures.value in
    let is = c.in_ok-words.ensures stored (sym c.stored_bytes.ensures) in
    (knows_more stored c.args.known.now c.keep_words.new.known c.args.cid.now c.in_ok-words.has_kind c.deref.result.now h c.in_ok-keep_words.ensures (subst (AreWordsOf stored c.args.cid.now c.in_ok-words.has_kind) (sym same) is), is)
