use Rattle.std.proofs.Common.{rules, ◌≡◌}
use Rattle.program_parts.specs.Entries.{stop_words}
use Rattle.program_parts.proofs.Listing.{entity_said, stop_said}
use Rattle.program_parts.proofs.entry.words_stored.Goals as goal

pub returns-in_ok-entity_words-in-Ok : goal.returns-in_ok-entity_words-in-Ok
returns-in_ok-entity_words-in-Ok c = λ all stored.
    entity_said all c.args.cid.now c.in-Ok._block.now c.in-Ok.entity c.in_ok-entity_words-in-Ok.field-0.items (c.in-Ok.ensures all stored) c.in_ok-entity_words-in-Ok.ensures

pub returns-in_ok-to_vec-in-Err : goal.returns-in_ok-to_vec-in-Err
returns-in_ok-to_vec-in-Err c = λ all stored.
    let same : c.in_ok-to_vec-in-Err.field-0.items ≡ stop_words c.in-Err.stop = search rules in
    stop_said all c.args.cid.now c.in-Err.stop c.in_ok-to_vec-in-Err.field-0.items (c.in-Err.ensures all stored) same
