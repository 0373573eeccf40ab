use Rattle.std.proofs.Common.{◌∷◌, ◌<◌, ◌+◌, length, arith, subst, sym, ap, ◌∙◌, List, drop}
use Rattle.files_index.specs.Index.{EntryParts, runs}
use Rattle.files_index.specs.Keys.{key_of}
use Rattle.files_index.proofs.Runs.{run_split}
use Rattle.files_index.proofs.run.split_run.Goals as goal

pub returns : goal.returns
returns c =
    let front = c.split_at.ensures.front in
    let back = c.split_at.ensures.back in
    let k = run_split (key_of c.args.key) c.args.entries.now c.first-item.result c.key_of-number.result c.count_of.result (omega arith) c.first-item.is c.key_of-number.ensures c.count_of.ensures.count in (
      subst (λ (b : List EntryParts). length b < length c.args.entries.now) (sym back) k.0,
      (k.1
          ∙ ap (λ (f : List EntryParts). (c.key_of-number.result, f) ∷ runs (key_of c.args.key) (drop (1 + c.count_of.result) c.args.entries.now)) (sym front))
          ∙ ap (λ (b : List EntryParts). (c.key_of-number.result, c.split_at.result.0.now) ∷ runs (key_of c.args.key) b) (sym back),
    )
