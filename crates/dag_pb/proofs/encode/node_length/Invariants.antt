use Rattle.std.proofs.Common.{◌≡◌, ◌≤◌, ◌^◌, ◌*◌, length, take, map}
use Rattle.std.specs.List.{AllByRecursion}
use Rattle.dag_pb.specs.Reads.{link_of}
use Rattle.dag_pb.specs.Spelling.{IsSpellableLink}
use Rattle.dag_pb.proofs.Placing.{first_links}
use Rattle.dag_pb.proofs.encode.node_length.Given as goal

abbrev pub invariant-loop-link : goal.invariant-loop-link
invariant-loop-link l = record {
  fits : l.count ≤ 2 ^ 64 * l.link-index;
  counted : l.count ≡ length (first_links l.links l.link-index);
  spellable : AllByRecursion IsSpellableLink (map link_of (take l.link-index l.links));
}
