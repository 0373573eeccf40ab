use Rattle.std.proofs.Common.{refl}
use Rattle.ipld_links.proofs.Reaching.{name_seen}
use Rattle.ipld_links.proofs.reach.Walk.see.Goals as goal

pub returns : goal.returns
returns c = record {
  valid = c.version-version.ensures.valid;
  seen = name_seen c.args.name c.args.self.now.seen c.insert.new.self c.in_ok-insert.ensures.updates.0;
  waiting = refl;
  found = refl;
  lost = refl;
}
