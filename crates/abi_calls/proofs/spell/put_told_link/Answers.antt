use Rattle.std.proofs.Common.{◌≡◌, ◌+◌, ◌≤◌, length, Some, sym, ◌∙◌, subst}
use Rattle.lent_memory.specs.Puts.{PutsAt, link_form}
use Rattle.abi_calls.proofs.Spelling.{link_is}
use Rattle.abi_calls.proofs.spell.put_told_link.Goals as goal

pub put_link-requires : goal.put_link-requires
put_link-requires c =
    let token = c.args.token.now in
    let cid = c.payload_told.result.now in
    let found = link_is c.args.bytes.now cid token.place token.number c.payload_told.ensures in
    let same : Some (link_form cid) ≡ Some c.requires.0 = sym found ∙ c.requires.1 in
    let equal : link_form cid ≡ c.requires.0 = cc same in
    subst (λ o. c.args.at + length o ≤ length c.args.out.now) (sym equal) c.requires.2

pub returns : goal.returns
returns c s told =
    let token = c.args.token.now in
    let cid = c.payload_told.result.now in
    let found = link_is c.args.bytes.now cid token.place token.number c.payload_told.ensures in
    let is : Some (link_form cid) ≡ Some s = sym found ∙ told in
    let equal : link_form cid ≡ s = cc is in
    subst (λ o. PutsAt o c.args.at c.args.out.now c.put_link.new.out c.put_link.result) equal c.put_link.ensures
