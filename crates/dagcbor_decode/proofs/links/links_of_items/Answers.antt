use Rattle.dagcbor_decode.proofs.Rows.{none_so_far, one_so_far, all_so_far, some_left, not_none}
use Rattle.std.proofs.Common.{Err, Ok, Result, IfErr}
use Rattle.dagcbor_decode.proofs.links.links_of_items.Goals as goal

pub next_link-requires : goal.next_link-requires
next_link-requires c = some_left c.args.items.now c.loop-found.links.items c.loop-found.rest.now c.loop-found.invariant

pub loop-found-init : goal.loop-found-init
loop-found-init c = rw c.new-links.ensures.items (none_so_far c.args.items.now c.requires)

pub loop-found-preserved : goal.loop-found-preserved
loop-found-preserved c = rw c.in_ok-push.ensures.items (one_so_far c.args.items.now c.loop-found.links.items c.in-Some.found.0 c.loop-found.rest.now c.in-Some.found.1.now c.loop-found.invariant c.in-Some.ensures.link)

whatever : {A E : Type 0} (r : Result A E) (P : Type 0) → P → IfErr r (λ _. P)
whatever (Ok a) P p = tt
whatever (Err e) P p = p

pub returns-in_err-push-clause-memory : goal.returns-in_err-push-clause-memory
returns-in_err-push-clause-memory c links h = whatever c.from_residual.result _ (not_none c.args.items.now c.loop-found.links.items c.in-Some.found.0 c.loop-found.rest.now c.in-Some.found.1.now c.loop-found.invariant c.in-Some.ensures.link links h)

pub returns-clause-links : goal.returns-clause-links
returns-clause-links c = all_so_far c.args.items.now c.loop-found.links.items c.loop-found.rest.now c.loop-found.invariant c.in_default.ensures.link
