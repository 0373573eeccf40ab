use Rattle.std.proofs.Common.{arith, inl, sym, ◌∙◌, subst}
use Rattle.std.proofs.lemmas.Result.{err_from_is_err_and}
use Rattle.sqlite_trees.specs.View.{IsClean}
use Rattle.ipld_links.specs.Blocks.{IsBlockOf}
use Rattle.ipld_links.specs.Verdicts.{HidesLinks}
use Rattle.ipld_links.proofs.Linking.{linked_read}
use Rattle.store_on_disk.specs.Lost.{AtListed, AddsLost}
use Rattle.store_on_disk.proofs.Walking.{fails_same}
use Rattle.store_on_disk.proofs.Marking.{fails_stops}
use Rattle.store_on_disk.proofs.Unlisted.{lost_same, linked_unless}
use Rattle.store_on_disk.proofs.store.BlockStore.add_links.Goals as goal

pub returns-in-Some-hidden_links-clause-refused : goal.returns-in-Some-hidden_links-clause-refused
returns-in-Some-hidden_links-clause-refused g c = λ clean.
    let next = (rw c.in-Some.is at c.in_ok-next.ensures.next) clean in
    let hides = subst (λ n. HidesLinks n c.in-Some.next.1.items c.in-Some-hidden_links.verdict) c.codec.ensures (subst (λ b. HidesLinks c.codec.result b c.in-Some-hidden_links.verdict) c.deref.ensures.value c.in-Some-hidden_links.ensures) in
    (((c.in-Some.next.1.items, hides, inl (next.1, rw c.in-Some.is at c.in_ok-next.ensures.verified)), next.0.listed), c.in_ok-next.ensures.reads.same clean)

pub add_lost-requires : goal.add_lost-requires
add_lost-requires g c =
    subst (λ n. IsBlockOf n c.deref-2.result.now) (c.codec.ensures ∙ sym c.codec-3.ensures) (subst (IsBlockOf c.codec.result) (c.deref.ensures.value ∙ sym c.deref-2.ensures.value)
    (linked_unless c.codec.result c.deref.result.now c.in_default.ensures (λ raw. c.if-codec-eq-RAW.false (c.codec-2.ensures ∙ sym c.codec.ensures ∙ raw))))

pub returns-in_err-add_lost-clause-refused : goal.returns-in_err-add_lost-clause-refused
returns-in_err-add_lost-clause-refused g c =
    let p = err_from_is_err_and c.from_residual-in_err-add_lost.result c.from_residual-in_err-add_lost.ensures.1 in
    rw (p.1, p.2) (fails_stops g.S.Store AtListed c.args.self.now c.add_lost.new.self c.in_err-add_lost.field-0.0
    (fails_same g.S.Store c.args.self.now c.next_block.new.self c.add_lost.new.self c.in_err-add_lost.field-0.0 c.next_block.ensures.reads.quiet c.in_ok-next.ensures.reads.same c.add_lost.ensures.reads.quiet c.in_err-add_lost.ensures.refused))

pub returns-clause-ok : goal.returns-clause-ok
returns-clause-ok g c clean =
    let mid : IsClean (g.S.Store.view c.next_block.new.self) = omega (arith, c.add_lost.ensures.reads.quiet.clean) in
    let next = (rw c.in-Some.is at c.in_ok-next.ensures.next) mid in
    let linked = linked_unless c.codec.result c.deref.result.now c.in_default.ensures (λ raw. c.if-codec-eq-RAW.false (c.codec-2.ensures ∙ sym c.codec.ensures ∙ raw)) in
    let block = subst (λ n. IsBlockOf n c.in-Some.next.1.items) c.codec.ensures (subst (IsBlockOf c.codec.result) c.deref.ensures.value linked) in (
      next.0,
      (
        c.in-Some.next.1.items,
        next.1,
        inl (
          linked_read c.in-Some.next.0.codec c.in-Some.next.1.items block.0 block.1,
          lost_same (g.S.Store.view c.args.self.now) (g.S.Store.view c.next_block.new.self) c.in-Some.next.0.codec c.in-Some.next.1.items c.args.lost.now c.add_lost.new.lost (c.in_ok-next.ensures.reads.same mid)
              (subst (λ n. AddsLost (g.S.Store.view c.next_block.new.self) n c.in-Some.next.1.items c.args.lost.now c.add_lost.new.lost) c.codec-3.ensures
              (subst (λ b. AddsLost (g.S.Store.view c.next_block.new.self) c.codec-3.result b c.args.lost.now c.add_lost.new.lost) c.deref-2.ensures.value (c.in_ok-add_lost.ensures.ok clean))),
        ),
      ),
    )
