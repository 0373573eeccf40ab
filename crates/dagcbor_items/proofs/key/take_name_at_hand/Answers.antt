use Rattle.std.proofs.Common.{option_map}
use Rattle.std.specs.Cow.{cow_str_bytes}
use Rattle.dagcbor_items.proofs.Lent.{name_taken}
use Rattle.dagcbor_items.proofs.key.take_name_at_hand.Goals as goal

pub returns : goal.returns
returns g c =
    let found = c.in-Some.ensures in
    name_taken (option_map cow_str_bytes c.args.last.now) c.args.name.now c.in-Some._following.now (g.R.Read.reading c.args.reader.now) (g.R.Read.reading c.take_at_hand.new.self) c.take_at_hand.result c.utf8.name c.at_hand.ensures found.0 found.2 (c.follows.ensures.0 c.if-not-follows.false) c.take_at_hand.ensures
