use Rattle.dagcbor_items.proofs.Fronts.{definite}
use Rattle.dagcbor_heads.proofs.Refusing.{as_refusal}
use Rattle.dagcbor_heads.proofs.Looking.{taken_left}
use Rattle.std.proofs.Common.{inr, [], refl}
use Rattle.ipld_tree.specs.Cid.{cid_bytes}
use Rattle.ipld_tree.specs.Tree.{link}
use Rattle.dagcbor_items.proofs.Links.{item_link, link_refused}
use Rattle.dagcbor_items.specs.Walks.{WalkLacks}
use Rattle.dagcbor_items.proofs.Steps.{more_lacks}
use Rattle.dagcbor_items.proofs.Walking.{none_handed}
use Rattle.dagcbor_items.proofs.walk.walk_link.Goals as goal

pub returns-in_err-cid-clause-item : goal.returns-in_err-cid-clause-item
returns-in_err-cid-clause-item g c =
    as_refusal _ _ _ _ c.from_residual.ensures.1 record { refuses = more_lacks (WalkLacks g.S.LinkSink.sink.takes_memory (g.R.Read.reading c.args.reader.now)) 1 _ (g.R.Read.reading c.pull_link.new.reader) _ (λ x. absurd x) (link_refused _ _ _ c.requires c.in_err-cid.ensures.link); handed = none_handed g.S.LinkSink.sink _ _ }

pub returns-in-Ok-clause-item : goal.returns-in-Ok-clause-item
returns-in-Ok-clause-item g c = (link (cid_bytes c.in_ok-cid.cid), item_link _ c.in_ok-cid.ensures.link, c.in-Ok.ensures)

pub returns-in-Err-clause-item : goal.returns-in-Err-clause-item
returns-in-Err-clause-item g c = record {
  refuses = (c.in_ok-cid.ensures.link.same.faults, inr (c.in-Err.ensures.0, λ b l. (let k = (item_link _ c.in_ok-cid.ensures.link).taken b l in (cid_bytes c.in_ok-cid.cid, ([], b, k.0, refl, k.1, tt)))));
  handed = record { found = []; finds = c.in-Err.ensures.1; stand = λ b l. tt };
}

pub returns-in_err-cid-clause-looked : goal.returns-in_err-cid-clause-looked
returns-in_err-cid-clause-looked g c = as_refusal _ _ _ _ c.from_residual.ensures.1 (c.in_err-cid.ensures.peeked (definite (g.R.Read.reading c.args.reader.now) c.requires))

pub returns-in-Err-clause-looked : goal.returns-in-Err-clause-looked
returns-in-Err-clause-looked g c = taken_left (c.in_ok-cid.ensures.peeked (definite (g.R.Read.reading c.args.reader.now) c.requires))
