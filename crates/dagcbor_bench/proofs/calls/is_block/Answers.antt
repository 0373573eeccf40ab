use Rattle.std.proofs.Common.{◌≡◌, ℕ, List, true, Result, Ok, Err, refl, sym, ◌∙◌}
use Rattle.std.specs.Result.{is_ok}
use Rattle.serde_ipld_dagcbor.specs.Tree.{Tree}
use Rattle.serde_ipld_dagcbor.specs.DecodeError.{DecodeError}
use Rattle.dagcbor_decode.specs.Blocks.{IsBlock}
use Rattle.dagcbor_decode.specs.Decode.{decode}
use Rattle.dagcbor_decode.specs.Verdicts.{answer, answered}
use Rattle.dagcbor_decode.specs.declared.kind.Kind.{Kind}
use Rattle.dagcbor_decode.proofs.Laws.{refused_no_block}
use Rattle.dagcbor_bench.proofs.calls.is_block.Goals as goal

is_told : {E : Type 0} (b : List ℕ) (r : Result Kind (DecodeError E)) (t : Tree) → IsBlock b t → answered r ≡ answer (decode b) → is_ok r ≡ true
is_told b (Ok kind) t h d = refl
is_told b (Err e) t h d = absurd (refused_no_block b e t (sym d) h)

pub returns-clause-block : goal.returns-clause-block
returns-clause-block c t h = c.is_ok.ensures.value ∙ is_told c.args.block.now c.check_slice.result t h c.check_slice.ensures.decoded
