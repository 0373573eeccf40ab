use Rattle.std.proofs.Common.{◌⊎◌, List, inl, inr}
use Rattle.std.proofs.lemmas.Result.{err_from_is_err_and}
use Rattle.ipld_links.specs.Reaching.{stored_in}
use Rattle.atproto_mst.specs.Keys.{Entry}
use Rattle.atproto_mst.specs.Entries.{entries, IsMst}
use Rattle.atproto_mst.specs.Stops.{MstRefused}
use Rattle.atproto_mst.specs.declared.error.MstError.TheVariants.{OutOfMemory}
use Rattle.atproto_mst.proofs.Listings.{stored_root}
use Rattle.atproto_mst.proofs.Refusals.{handed_on_err}
use Rattle.atproto_mst.proofs.diffs.diff_whole.Goals as goal

pub returns-in_err-after-clause-refused : goal.returns-in_err-after-clause-refused
returns-in_err-after-clause-refused c =
    let p = err_from_is_err_and c.from_residual-in_err-after.result c.from_residual-in_err-after.ensures.1 in
    rw (p.1, p.2) (inr (entries c.in_ok-before.before.items, c.in_ok-before.ensures.read, c.in_err-after.ensures.refused))

pub returns-in_err-found-clause-refused : goal.returns-in_err-found-clause-refused
returns-in_err-found-clause-refused c =
    handed_on_err (λ e. MstRefused (stored_in c.args.blocks.now) c.args.old.now e ⊎ ((es : List Entry) × IsMst (stored_in c.args.blocks.now) c.args.old.now es × MstRefused (stored_in c.args.blocks.now) c.args.new.now e))
    c.from_residual-in_err-found.result OutOfMemory c.from_residual-in_err-found.ensures.1
    (inl (stored_root (stored_in c.args.blocks.now) c.args.old.now (entries c.in_ok-before.before.items) c.in_ok-before.ensures.read))
