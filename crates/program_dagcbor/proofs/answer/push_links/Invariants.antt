use Rattle.std.proofs.Common.{◌≡◌, ◌++◌, map, take}
use Rattle.hex.specs.Hex.{encode_lower}
use Rattle.ipld_tree.specs.Cid.{cid_bytes}
use Rattle.program_dagcbor.specs.Answers.{after_spaces}
use Rattle.program_dagcbor.proofs.answer.push_links.Given as goal

abbrev pub invariant-loop-link : goal.invariant-loop-link
invariant-loop-link l = l.out.items ≡ (l.fn.out.items ++ encode_lower (cid_bytes l.first)) ++ after_spaces (map cid_bytes (take l.link-index l.others))
