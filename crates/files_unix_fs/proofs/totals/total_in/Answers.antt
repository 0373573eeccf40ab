use Rattle.std.proofs.Common.{◌≡◌, refl, sym, ap, arith, ◌+◌, ◌^◌, sum}
use Rattle.files_unix_fs.specs.UnixFs.{sizes_of}
use Rattle.files_unix_fs.proofs.Fronts.{nat_lt_yes}
use Rattle.files_unix_fs.proofs.totals.total_in.Goals as goal

pub returns : goal.returns
returns c =
    let same : c.loop-size.total ≡ c.args.content + sum (sizes_of c.args.sizes.now) = omega (arith, c.loop-size.invariant.0, ap sum c.in_default.ensures.size) in
    sym (rw (sym same, nat_lt_yes c.loop-size.total (2 ^ 64) c.loop-size.invariant.1) refl)
