use Rattle.std.proofs.Common.{Some, subst}
use Rattle.dagcbor_heads.specs.Written.{WroteAll, Stops}
use Rattle.files_car.specs.Car.{section_bytes, IsSection}
use Rattle.store_on_disk.proofs.store.BlockStore.push_next.Goals as goal

pub returns-in-Ok-clause-next : goal.returns-in-Ok-clause-next
returns-in-Ok-clause-next g c =
    let name = c.in-Ok-Some.next.0 in
    record {
      bytes = c.in-Ok-Some.next.1.items;
      named = rw c.in-Ok-Some.field-0-is at c.in-Ok-Some.ensures.verified;
      is_section = subst (λ b. IsSection (name, b)) c.deref.ensures.value c.in-Ok.ensures.section;
      wrote = subst (λ b. WroteAll (Some (section_bytes (name, b))) (g.W.Write.written c.args.writer.now) (g.W.Write.written c.push_section.new.writer)) c.deref.ensures.value c.in-Ok.ensures.written;
      is_so = λ clean. ((rw c.in-Ok-Some.field-0-is at c.in-Ok-Some.ensures.next) clean, c.in-Ok-Some.ensures.reads.same clean);
    }

pub returns-clause-next : goal.returns-clause-next
returns-clause-next g c =
    let name = c.in-Ok-Some.next.0 in (
      name,
      record {
        bytes = c.in-Ok-Some.next.1.items;
        named = rw c.in-Ok-Some.field-0-is at c.in-Ok-Some.ensures.verified;
        stops = subst (λ b. Stops (Some (section_bytes (name, b))) (g.W.Write.written c.args.writer.now) (g.W.Write.written c.push_section.new.writer) c.in-Err-push_section.error) c.deref.ensures.value c.in-Err-push_section.ensures.written;
        is_so = λ clean. ((rw c.in-Ok-Some.field-0-is at c.in-Ok-Some.ensures.next) clean, c.in-Ok-Some.ensures.reads.same clean);
      },
    )
