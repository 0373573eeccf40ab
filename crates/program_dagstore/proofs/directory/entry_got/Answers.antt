use Rattle.std.proofs.Common.{ap, ◌∙◌}
use Rattle.dag_pb.specs.Reads.{link_of}
use Rattle.program_parts.specs.Entries.{AreWordsOf, KnowsWords, IsEntry, entry_line}
use Rattle.program_dagstore.proofs.Contents.{got_so}
use Rattle.program_dagstore.proofs.directory.entry_got.Goals as goal

pub returns-clause-says : goal.returns-clause-says
returns-clause-says g c =
    let known = c.args.known.now in
    let more = c.words_got.new.known in
    let link = link_of c.args.link.now in
    let words = c.in_ok-words.words in
    let well = c.in_ok-words.has_kind in
    got_so (g.S.Store.view c.args.store.now) (g.S.Store.view c.words_got.new.store)
    (λ stored. KnowsWords stored known → KnowsWords stored more × AreWordsOf stored link.hash well words.items)
    (λ stored. KnowsWords stored known → KnowsWords stored more × IsEntry stored link well c.in_ok-line.line.items)
    c.in_ok-words.ensures.says
    (λ stored f h.
    let k = f h in
    (k.0, (words.items, k.1, c.in_ok-line.ensures ∙ ap (λ x. entry_line x link) c.deref.ensures.value)))
