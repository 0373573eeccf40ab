use Rattle.ipld_paths.proofs.find.find_judged.Goals as goal

pub returns : goal.returns
returns c = c.found_at.ensures _ c.follow.ensures.led c.requires.0 c.requires.1
