use Rattle.std.proofs.Common.{rules}
use Rattle.ipld_links.proofs.Members.{at_same, same_at}
use Rattle.program_index.proofs.Sought.{verified_of}
use Rattle.program_index.proofs.find.is_sought.Goals as goal

pub returns-then-ne : goal.returns-then-ne
returns-then-ne c = λ h. let same = same_at c.args.section.now.cid c.args.name.now h.0 in search (same, rules)

pub returns-in_default : goal.returns-in_default
returns-in_default c = (at_same c.args.section.now.cid c.args.name.now (search rules), verified_of (c.args.section.now.cid, c.args.section.now.block.now) c.verify.result c.verify.ensures c.in_default.not-OtherBytes c.in_default.not-Unverified)
