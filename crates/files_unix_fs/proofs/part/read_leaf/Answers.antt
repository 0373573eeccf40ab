use Rattle.std.proofs.Common.{inl, map, sym, ap, subst}
use Rattle.files_unix_fs.specs.Reading.{asked, HasPart}
use Rattle.files_unix_fs.proofs.Fronts.{test_false}
use Rattle.files_unix_fs.proofs.Parts.{leaf_part, leaf_other, leaf_long}
use Rattle.files_unix_fs.proofs.part.read_leaf.Goals as goal

pub returns-then-not-is_announced : goal.returns-then-not-is_announced
returns-then-not-is_announced c =
    let other = test_false c.is_announced.result c.if-not-is_announced.true c.is_announced.ensures.1 in (
      inl (c.requires.codec, λ same. other (leaf_long c.args.wanted.now.size c.args.block.now same)),
      leaf_other (asked c.args.wanted.now) c.args.block.now c.requires.codec c.requires.deep other,
    )

pub returns : goal.returns
returns c =
    subst (HasPart (asked c.args.wanted.now) c.args.block.now c.args.block.now) (ap (map asked) (sym c.new.ensures.items))
    (leaf_part (asked c.args.wanted.now) c.args.block.now c.requires.codec c.requires.deep (c.is_announced.ensures.0 c.if-not-is_announced.false))
