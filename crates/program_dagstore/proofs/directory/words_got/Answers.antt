use Rattle.std.proofs.Common.{sym, ◌∙◌, subst}
use Rattle.program_parts.specs.Entries.{AreWordsOf, KnowsWords}
use Rattle.program_parts.proofs.Listing.{known_said, knows_more}
use Rattle.program_dagstore.proofs.Contents.{got_nothing, got_one}
use Rattle.program_dagstore.proofs.directory.words_got.Goals as goal

pub returns-in-Some-clause-says : goal.returns-in-Some-clause-says
returns-in-Some-clause-says g c =
    let store = g.S.Store.view c.args.store.now in
    let known = c.args.known.now in
    let said = c.in-Some.said in
    got_nothing store store (λ stored. KnowsWords stored known → KnowsWords stored known × AreWordsOf stored c.args.cid.now said.1 said.0.items)
    (λ stored h. (h, known_said stored known c.args.cid.now said h (rw c.in-Some.is at c.in_ok-said.ensures)))

pub returns-clause-says : goal.returns-clause-says
returns-clause-says g c =
    let cid = c.args.cid.now in
    let known = c.args.known.now in
    let more = c.keep_words.new.known in
    let words = c.in_ok-words.words in
    let well = c.in_ok-words.has_kind in
    got_one (g.S.Store.view c.args.store.now) (g.S.Store.view c.get_block.new.self) cid c.in_ok-got.got
    (λ stored. KnowsWords stored known → KnowsWords stored more × AreWordsOf stored cid well words.items)
    c.in_ok-got.ensures.verified c.in_ok-got.ensures.found
    (λ stored e h.
    let is = c.in_ok-words.ensures stored (e ∙ sym c.bytes_got.ensures) in
    (knows_more stored known more cid well c.deref.result.now h c.in_ok-keep_words.ensures (subst (AreWordsOf stored cid well) (sym c.deref.ensures.value) is), is))
