use Rattle.std.proofs.Common.{List, ℕ, ap, sym, ◌++◌, ◌∙◌, codes}
use Rattle.text_dag_json.specs.DagJson.{bytes_text}
use Rattle.text_dag_json.proofs.Listing.{pushed}
use Rattle.text_dag_json.proofs.leaves.push_bytes.Goals as goal

pub returns : goal.returns
returns c =
    pushed (codes "{\"/\":{\"bytes\":\"" ++ (c.as_bytes.result.now ++ codes "\"}}")) (bytes_text c.args.bytes.now) c.args.out.now.items c.push_between.result c.push_between.new.out.items
    (ap (λ (x : List ℕ). codes "{\"/\":{\"bytes\":\"" ++ (x ++ codes "\"}}")) (sym (c.as_bytes.ensures.value ∙ c.in_ok-text.ensures.text))) c.push_between.ensures
