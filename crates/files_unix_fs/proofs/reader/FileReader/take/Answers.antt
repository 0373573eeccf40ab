use Rattle.std.proofs.Common.{map, subst, sym, ap, ◌∙◌}
use Rattle.std.proofs.lemmas.Result.{err_from_is_err_and}
use Rattle.files_unix_fs.specs.Reading.{asked, HasLinks}
use Rattle.files_unix_fs.proofs.Pairing.{asked-append}
use Rattle.files_unix_fs.proofs.Stacks.{none_last}
use Rattle.files_unix_fs.proofs.Parts.{next_is, part_taken, goes_on, not_taken}
use Rattle.files_unix_fs.proofs.reader.FileReader.take.Goals as goal

pub returns-in_err-part : goal.returns-in_err-part
returns-in_err-part c =
    let p = err_from_is_err_and c.from_residual.result c.from_residual.ensures.1 in
    let is = ap (map asked) c.in-Some.ensures.items ∙ asked-append c.pop.new.self.items c.in-Some.next in
    rw (p.1, p.2) (record {
      taken = λ blocks below w next. not_taken c.in_err-part.field-0.0 blocks (map asked c.args.self.now.wanted.items) (map asked c.pop.new.self.items) below (asked c.in-Some.next) w c.args.block.now is next c.in_err-part.ensures;
      ended = λ none. absurd (none_last c.pop.new.self.items c.in-Some.next (sym c.in-Some.ensures.items ∙ none));
    })

pub returns-in_err-push_all : goal.returns-in_err-push_all
returns-in_err-push_all c =
    let is = ap (map asked) c.in-Some.ensures.items ∙ asked-append c.pop.new.self.items c.in-Some.next in
    let p = err_from_is_err_and c.from_residual-in_err-push_all.result c.from_residual-in_err-push_all.ensures.1 in
    rw (p.1, p.2, c.in_err-push_all.ensures.0) (record {
      taken = λ blocks below w next. (
        subst (λ x. HasLinks x c.args.block.now)
            (next_is blocks (map asked c.args.self.now.wanted.items) (map asked c.pop.new.self.items) below (asked c.in-Some.next) w c.args.block.now is next)
            (c.in_ok-part.ensures.links c.in_err-push_all.ensures.1),
        tt,
      );
      ended = λ none. absurd (none_last c.pop.new.self.items c.in-Some.next (sym c.in-Some.ensures.items ∙ none));
    })

pub returns : goal.returns
returns c =
    let is = ap (map asked) c.in-Some.ensures.items ∙ asked-append c.pop.new.self.items c.in-Some.next in
    record {
      taken = λ blocks below w next. (
        part_taken blocks (map asked c.args.self.now.wanted.items) (map asked c.pop.new.self.items) below (map asked c.in_ok-part.part.after.items) (map asked c.push_all.new.wanted.items) (asked c.in-Some.next) w c.args.block.now c.in_ok-part.part.content.now is c.in_ok-part.ensures (c.in_ok-push_all.ensures.0 blocks) next,
        goes_on blocks (map asked c.args.self.now.wanted.items) (map asked c.pop.new.self.items) below (map asked c.in_ok-part.part.after.items) (map asked c.push_all.new.wanted.items) (asked c.in-Some.next) w c.args.block.now c.in_ok-part.part.content.now is c.in_ok-part.ensures c.in_ok-push_all.ensures.1 next,
      );
      ended = λ none. absurd (none_last c.pop.new.self.items c.in-Some.next (sym c.in-Some.ensures.items ∙ none));
    }
