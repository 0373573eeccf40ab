use Rattle.std.proofs.Common.{refl, sym, subst, Some}
use Rattle.atproto_mst.proofs.Comparing.{same_name}
use Rattle.atproto_mst.proofs.Naming.{other_name}
use Rattle.atproto_events.specs.Roots.{BeginsAt, NoBegin}
use Rattle.atproto_events.specs.declared.refusal.EventError.TheVariants.{OtherRoot}
use Rattle.atproto_events.proofs.commit_root.root_before.Goals as goal

pub returns-then-ne : goal.returns-then-ne
returns-then-ne c = subst (λ s. NoBegin s c.args.known OtherRoot) (sym c.in-Some-Some.is-0) (subst (λ k. NoBegin (Some c.in-Some-Some.said) k OtherRoot) (sym c.in-Some-Some.is-1) (other_name c.in-Some-Some.said c.in-Some-Some.known c.ne.result c.if-ne.true c.ne.ensures))

pub returns-else-ne : goal.returns-else-ne
returns-else-ne c = subst (λ s. BeginsAt s c.args.known c.in-Some-Some.said) (sym c.in-Some-Some.is-0) (subst (λ k. BeginsAt (Some c.in-Some-Some.said) k c.in-Some-Some.said) (sym c.in-Some-Some.is-1) (refl, sym (same_name c.in-Some-Some.said c.in-Some-Some.known c.ne.result c.if-ne.false c.ne.ensures)))
