use Rattle.std.proofs.Common.{◌≡◌, [], arith, map, sym, ap, ◌∙◌, subst}
use Rattle.std.proofs.lemmas.Grind.{common_steps}
use Rattle.std.proofs.lemmas.Result.{err_from_is_err_and}
use Rattle.files_unix_fs.specs.Reading.{asked}
use Rattle.files_unix_fs.proofs.Pairing.{asked-append, asked-empty}
use Rattle.files_unix_fs.proofs.Stacks.{SameWhole, one_moved, all_moved, none_last}
use Rattle.files_unix_fs.proofs.reader.push_all.Goals as goal

pub loop-last-preserved : goal.loop-last-preserved
loop-last-preserved c =
    let row = ap (map asked) c.in-Some.ensures.items ∙ asked-append c.pop.new.self.items c.in-Some.last in
    let stack = ap (map asked) c.in_ok-push_one.ensures ∙ asked-append c.loop-last.wanted.items c.in-Some.last in
    subst (λ s. SameWhole (map asked c.pop.new.self.items) s (map asked c.args.first.items) (map asked c.args.wanted.now.items)) (sym stack)
    (one_moved (map asked c.pop.new.self.items) (map asked c.loop-last.wanted.items) (map asked c.args.first.items) (map asked c.args.wanted.now.items) (asked c.in-Some.last)
    (subst (λ r. SameWhole r (map asked c.loop-last.wanted.items) (map asked c.args.first.items) (map asked c.args.wanted.now.items)) row c.loop-last.invariant))

pub returns-in_err-push_one : goal.returns-in_err-push_one
returns-in_err-push_one c =
    let row = ap (map asked) c.in-Some.ensures.items ∙ asked-append c.pop.new.self.items c.in-Some.last in
    let p = err_from_is_err_and c.from_residual.result c.from_residual.ensures.1 in
    rw (p.1, p.2) (c.in_err-push_one.ensures.0, λ none. none_last (map asked c.pop.new.self.items) (asked c.in-Some.last) (sym row ∙ c.loop-last.invariant.some none))

pub returns : goal.returns
returns c =
    let empty : map asked c.loop-last.left.items ≡ [] = asked-empty c.loop-last.left.items (grind (arith, common_steps)) in
    all_moved (map asked c.loop-last.wanted.items) (map asked c.args.first.items) (map asked c.args.wanted.now.items)
    (subst (λ r. SameWhole r (map asked c.loop-last.wanted.items) (map asked c.args.first.items) (map asked c.args.wanted.now.items)) empty c.loop-last.invariant)
