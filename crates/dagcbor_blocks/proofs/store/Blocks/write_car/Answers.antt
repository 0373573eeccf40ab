use Rattle.std.proofs.Common.{Some, [], ◌∷◌, ap, subst}
use Rattle.std.specs.List.{AllByRecursion}
use Rattle.serde_ipld_dagcbor.specs.Walks.{forms}
use Rattle.serde_ipld_dagcbor.specs.Written.{WroteAll, Stops}
use Rattle.files_car.specs.Car.{Section, section_bytes, IsSection}
use Rattle.files_car.proofs.Writing.{one_section, written_more, header_stopped, section_stopped, header_unsent, section_unsent}
use Rattle.dagcbor_blocks.proofs.Keeping.{shown}
use Rattle.dagcbor_blocks.proofs.store.Blocks.write_car.Goals as goal

pub returns-in_err-push_header-clause-written : goal.returns-in_err-push_header-clause-written
returns-in_err-push_header-clause-written g c = header_stopped (forms c.args.roots.now) (shown c.args.self.now.blocks.entries) (g.W.Write.written c.args.writer.now) (g.W.Write.written c.push_header.new.writer) c.from_residual.result c.in_err-push_header.field-0.0 c.from_residual.ensures.1 c.in_err-push_header.ensures.written

pub loop-name-preserved : goal.loop-name-preserved
loop-name-preserved g c =
    let s : Section = (c.in-Some.name.now, c.in-Some.block.now.items) in
    written_more (forms c.args.roots.now) (shown c.args.self.now.blocks.entries) (shown c.loop-name.name-iterator) (s ∷ []) (shown c.next.new.self) _ _ (g.W.Write.written c.push_section.new.writer) (ap shown c.in-Some.ensures.steps) c.loop-name.invariant
    (subst (λ b. AllByRecursion IsSection ((c.in-Some.name.now, b) ∷ [])) c.deref.ensures.value (c.in_ok-push_section.ensures.section, tt))
    (subst (λ b. WroteAll (Some b) (g.W.Write.written c.loop-name.writer) (g.W.Write.written c.push_section.new.writer)) (one_section s) (subst (λ b. WroteAll (Some (section_bytes (c.in-Some.name.now, b))) (g.W.Write.written c.loop-name.writer) (g.W.Write.written c.push_section.new.writer)) c.deref.ensures.value c.in_ok-push_section.ensures.written))

pub returns-in_err-push_section-clause-written : goal.returns-in_err-push_section-clause-written
returns-in_err-push_section-clause-written g c =
    let s : Section = (c.in-Some.name.now, c.in-Some.block.now.items) in
    section_stopped (forms c.args.roots.now) (shown c.args.self.now.blocks.entries) (shown c.loop-name.name-iterator) (s ∷ []) (shown c.next.new.self) _ _ (g.W.Write.written c.push_section.new.writer) c.from_residual-in_err-push_section.result c.in_err-push_section.field-0.0 (ap shown c.in-Some.ensures.steps)
    c.loop-name.invariant c.from_residual-in_err-push_section.ensures.1
    (subst (λ b. Stops (Some b) (g.W.Write.written c.loop-name.writer) (g.W.Write.written c.push_section.new.writer) c.in_err-push_section.field-0.0) (one_section s) (subst (λ b. Stops (Some (section_bytes (c.in-Some.name.now, b))) (g.W.Write.written c.loop-name.writer) (g.W.Write.written c.push_section.new.writer) c.in_err-push_section.field-0.0) c.deref.ensures.value c.in_err-push_section.ensures.written))

pub returns-in_err-push_header-clause-unsent : goal.returns-in_err-push_header-clause-unsent
returns-in_err-push_header-clause-unsent g c = header_unsent (Unit {0}) g.W.Write.takes_memory _ _ c.from_residual.result c.in_err-push_header.field-0.0 c.from_residual.ensures.1 c.in_err-push_header.ensures.unsent

pub returns-in_err-push_section-clause-unsent : goal.returns-in_err-push_section-clause-unsent
returns-in_err-push_section-clause-unsent g c = section_unsent (Unit {0}) g.W.Write.takes_memory _ _ c.from_residual-in_err-push_section.result c.in_err-push_section.field-0.0 c.from_residual-in_err-push_section.ensures.1 c.in_err-push_section.ensures.memory
