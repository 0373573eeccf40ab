use Rattle.std.proofs.Common.{rules, w32, ℕ, List, [], ◌∷◌, sym, subst, IfOk}
use Rattle.std.proofs.lemmas.Int.{to_z-of_z}
use Rattle.ipld_paths.specs.Finding.{FindsItemIn}
use Rattle.abi_calls.specs.Finds.{IsPartAnswer}
use Rattle.abi_calls.proofs.Finding.{found_answer}
use Rattle.abi_calls.proofs.find.put_part.Goals as goal

pub returns : goal.returns
returns c =
    let text = c.in-Ok.ensures.cases in
    let code = c.put_item.result in
    let segment = c.args.segment.now in
    let found = subst (λ (s : List ℕ). IfOk c.find_segments.result (FindsItemIn c.args.block.now (s ∷ []))) text.0 c.find_segments.ensures.found in
    let told = found_answer c.args.block.now segment (segment ∷ []) c.find_segments.result _ _ code text.1 found c.find_segments.ensures.refused c.put_item.ensures in
    subst (λ z. IsPartAnswer c.args.block.now segment (c.args.place.now, c.args.end.now) (c.put_item.new.place, c.put_item.new.end) z) (sym (to_z-of_z w32 code (search rules))) told
