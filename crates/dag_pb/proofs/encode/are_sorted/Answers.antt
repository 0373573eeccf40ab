use Rattle.std.proofs.Common.{rules}
use Rattle.std.proofs.lemmas.Fn.{always_returns_same}
use Rattle.dag_pb.proofs.Sorting.{links_ascend, sorted_answer}
use Rattle.dag_pb.proofs.encode.are_sorted.Goals as goal

pub returns : goal.returns
returns c = sorted_answer c.args.links.now c.is_sorted_by.result (c.is_sorted_by.ensures.cases links_ascend (always_returns_same _ _ _ (λ a r f' k. search rules)))
