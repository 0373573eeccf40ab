use Rattle.std.proofs.Common.{rules, w32, sym, subst, IfOk}
use Rattle.std.proofs.lemmas.Int.{to_z-of_z}
use Rattle.ipld_paths.specs.Paths.{segments}
use Rattle.ipld_paths.specs.Finding.{FindsItemIn}
use Rattle.abi_calls.specs.Finds.{IsFindAnswer}
use Rattle.abi_calls.proofs.Finding.{found_answer}
use Rattle.abi_calls.proofs.find.put_found.Goals as goal

pub returns : goal.returns
returns c =
    let text = c.in-Ok.ensures.cases in
    let path = c.args.path.now in
    let code = c.put_item.result in
    let found = subst (λ s. IfOk c.find_slice.result (FindsItemIn c.args.block.now (segments s))) text.0 c.find_slice.ensures.found in
    let told = found_answer c.args.block.now path (segments path) c.find_slice.result _ _ code text.1 found c.find_slice.ensures.refused c.put_item.ensures in
    subst (λ z. IsFindAnswer c.args.block.now path (c.args.place.now, c.args.end.now) (c.put_item.new.place, c.put_item.new.end) z) (sym (to_z-of_z w32 code (search rules))) told
