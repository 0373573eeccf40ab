use Rattle.std.proofs.Common.{map, string_bytes, sym, subst}
use Rattle.program_sections.proofs.Wording.{Split, split_more, split_wrong}
use Rattle.program_sections.proofs.words.split_roots.Goals as goal

pub returns-in_default-root : goal.returns-in_default-root
returns-in_default-root c = split_wrong (map string_bytes c.args.args.now) (map string_bytes c.loop-root.rest.now) (map string_bytes c.in-Some.following.now) c.loop-root.roots.items c.loop-root.invariant (rw c.in_default-root.is at c.in-Some.ensures)

pub loop-root-preserved : goal.loop-root-preserved
loop-root-preserved c = subst (Split (map string_bytes c.args.args.now) (map string_bytes c.in-Some.following.now)) (sym c.in_ok-push.ensures.items) (split_more (map string_bytes c.args.args.now) (map string_bytes c.loop-root.rest.now) (map string_bytes c.in-Some.following.now) c.loop-root.roots.items c.in-Some-root.root c.loop-root.invariant (rw c.in-Some-root.is at c.in-Some.ensures))
