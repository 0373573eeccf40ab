use Rattle.std.proofs.Common.{◌++◌, codes}
use Rattle.program_inspect.specs.Facts.{number_line}
use Rattle.program_dagcar.proofs.Summing.{join, on_ok}
use Rattle.program_dagcar.proofs.summary.push_counts.Goals as goal

pub returns : goal.returns
returns c = on_ok c.push_number-8.result (λ last.
    let l1 = number_line (codes "sections") c.args.counts.now.sections in
    let l2 = number_line (codes "ok") c.args.counts.now.ok in
    let l3 = number_line (codes "not read") c.args.counts.now.not_read in
    let l4 = number_line (codes "links not read") c.args.counts.now.links_not_read in
    let l5 = number_line (codes "refused") c.args.counts.now.refused in
    let l6 = number_line (codes "other bytes") c.args.counts.now.other_bytes in
    let l7 = number_line (codes "not verified") c.args.counts.now.unverified in
    let l8 = number_line (codes "missing") c.args.missing in
    let k7 = join c.push_number-6.new.out.items c.push_number-7.new.out.items c.push_number-8.new.out.items l7 l8 c.in_ok-push_number-7.ensures last in
    let k6 = join c.push_number-5.new.out.items c.push_number-6.new.out.items c.push_number-8.new.out.items l6 (l7 ++ l8) c.in_ok-push_number-6.ensures k7 in
    let k5 = join c.push_number-4.new.out.items c.push_number-5.new.out.items c.push_number-8.new.out.items l5 (l6 ++ (l7 ++ l8)) c.in_ok-push_number-5.ensures k6 in
    let k4 = join c.push_number-3.new.out.items c.push_number-4.new.out.items c.push_number-8.new.out.items l4 (l5 ++ (l6 ++ (l7 ++ l8))) c.in_ok-push_number-4.ensures k5 in
    let k3 = join c.push_number-2.new.out.items c.push_number-3.new.out.items c.push_number-8.new.out.items l3 (l4 ++ (l5 ++ (l6 ++ (l7 ++ l8)))) c.in_ok-push_number-3.ensures k4 in
    let k2 = join c.push_number.new.out.items c.push_number-2.new.out.items c.push_number-8.new.out.items l2 (l3 ++ (l4 ++ (l5 ++ (l6 ++ (l7 ++ l8))))) c.in_ok-push_number-2.ensures k3 in
    let k1 = join c.args.out.now.items c.push_number.new.out.items c.push_number-8.new.out.items l1 (l2 ++ (l3 ++ (l4 ++ (l5 ++ (l6 ++ (l7 ++ l8)))))) c.in_ok-push_number.ensures k2 in
    k1) c.push_number-8.ensures
