use Rattle.ipld_paths.proofs.ByHeads.{too_few_for_key, key_split, after_head, dropped_end}
use Rattle.ipld_paths.proofs.parts.split_key.Goals as goal

pub returns-then-following-count-clause-key : goal.returns-then-following-count-clause-key
returns-then-following-count-clause-key c = too_few_for_key _ _ c.args.bytes.now c.in_ok-_major.following.now c.in_ok-_major.ensures c.if-following-count.true

pub returns-clause-key : goal.returns-clause-key
returns-clause-key c = key_split _ _ c.args.bytes.now c.in_ok-_major.following.now _ _ c.in_ok-_major.ensures c.split_at.ensures.front c.split_at.ensures.back

pub returns-clause-within : goal.returns-clause-within
returns-clause-within c = after_head _ _ c.args.bytes.now c.in_ok-_major.following.now _ c.in_ok-_major.ensures (dropped_end _ _ _ c.split_at.ensures.back)
