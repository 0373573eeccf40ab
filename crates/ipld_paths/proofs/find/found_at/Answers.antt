use Rattle.ipld_paths.proofs.Ends.{ends_at_item, ends_at_none, ends_at_link, ends_nowhere}
use Rattle.ipld_paths.proofs.find.found_at.Goals as goal

pub returns-in-Some-first_link : goal.returns-in-Some-first_link
returns-in-Some-first_link c = λ path w t h. ends_at_link c.args.block.now c.args.at.now c.in-Some._segment.now c.in-Some-first_link.cid path _ _ w c.in-Some.ensures.first c.in-Some-first_link.ensures t h

pub returns-in-None : goal.returns-in-None
returns-in-None c = λ path w t h. ends_nowhere c.args.block.now c.args.at.now c.in-Some._segment.now path _ _ w c.in-Some.ensures.first c.in-None.ensures t h

pub returns-in-Some-item_in : goal.returns-in-Some-item_in
returns-in-Some-item_in c = λ path w t h. ends_at_item c.args.block.now c.args.at.now path _ c.in-Some-item_in.item w c.in_default.ensures.first c.in-Some-item_in.ensures t h

pub returns-in-None-item_in : goal.returns-in-None-item_in
returns-in-None-item_in c = λ path w t h. ends_at_none c.args.block.now c.args.at.now path _ w c.in-None-item_in.ensures t h
