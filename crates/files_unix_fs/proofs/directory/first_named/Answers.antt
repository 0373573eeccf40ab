use Rattle.std.proofs.Common.{sym, ◌∙◌}
use Rattle.dag_pb.specs.Reads.{link_of}
use Rattle.files_unix_fs.proofs.Entries.{one_named, none_named}
use Rattle.files_unix_fs.proofs.directory.first_named.Goals as goal

pub returns-then-is_named : goal.returns-then-is_named
returns-then-is_named c =
    rw (c.in-Some.link-is) (one_named c.args.name.now c.args.block.now c.loop-link.links.now c.in-Some.more.now (link_of c.in-Some.link) c.loop-link.invariant c.in-Some.ensures.link (sym c.is_named.ensures ∙ c.if-is_named.true))

pub returns : goal.returns
returns c =
    none_named c.args.name.now c.args.block.now c.loop-link.links.now c.loop-link.invariant c.in_default.ensures.link
