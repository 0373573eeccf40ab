use Rattle.std.proofs.Common.{rules, ◌≡◌, Some, refl}
use Rattle.std.specs.BTreeMap.{get}
use Rattle.ipld_tree.specs.Cid.{cid_cmp}
use Rattle.program_parts.proofs.entry.known_words.Goals as goal

pub returns-in_ok-to_vec-in-Some : goal.returns-in_ok-to_vec-in-Some
returns-in_ok-to_vec-in-Some c =
    let same : c.in_ok-to_vec-in-Some.field-0.items ≡ c.in-Some.field-0.now.0.items = search rules in
    let there : get cid_cmp c.args.known.now c.args.cid.now ≡ Some c.in-Some.field-0.now = search rules in
    (c.in-Some.field-0.now, there, refl, same)
