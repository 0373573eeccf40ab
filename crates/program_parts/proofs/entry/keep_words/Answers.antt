use Rattle.std.proofs.Common.{rules, ◌≡◌, refl}
use Rattle.program_parts.proofs.Listing.{words_kept}
use Rattle.program_parts.proofs.entry.keep_words.Goals as goal

pub returns-in-Ok : goal.returns-in-Ok
returns-in-Ok c =
    let same : c.in_ok-copy.copy.items ≡ c.args.words.now = search rules in
    words_kept c.args.known.now c.insert.new.self c.args.cid.now (c.in_ok-copy.copy, c.args.has_kind) c.args.has_kind c.args.words.now c.in-Ok.ensures.updates.0 refl same
