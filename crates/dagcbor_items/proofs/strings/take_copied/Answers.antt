use Rattle.std.proofs.Common.{rules, ap, string_bytes, Some, ◌≡◌}
use Rattle.ipld_tree.specs.Tree.{text}
use Rattle.dagcbor_items.proofs.Lent.{front_at_hand}
use Rattle.dagcbor_items.proofs.strings.take_copied.Goals as goal

-- src/strings.rt:174:1
pub returns-then-take_at_hand-clause-taken : goal.returns-then-take_at_hand-clause-taken
returns-then-take_at_hand-clause-taken g c =
    let found = c.in-Some.ensures in
    let same : c.in-Some.text.now ≡ string_bytes c.in_ok-copy.copy = search rules in
    front_at_hand (text c.in-Some.text.now) (string_bytes c.in_ok-copy.copy) c.at_hand.ensures found.1 (ap Some same) found.2 c.if-take_at_hand.ensures
