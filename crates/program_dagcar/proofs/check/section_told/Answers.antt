use Rattle.std.proofs.Common.{inr, subst}
use Rattle.ipld_links.specs.Blocks.{NamedBlock}
use Rattle.ipld_links.specs.Verdicts.{IsVerdict}
use Rattle.program_dagcar.proofs.RefusedPlaces.{other_verdict, judged_so, place_told}
use Rattle.program_dagcar.proofs.check.section_told.Goals as goal
use Rattle.program_dagcar.proofs.check.section_told.Goals.{in-Refused, in_default}

pub returns-then-not-matches : goal.returns-then-not-matches
returns-then-not-matches c h = elim c.match-matches.branch [
  | in-Refused w ↦ absurd (cc w.matches-is)
  | in_default w ↦ inr (other_verdict (c.args.section.now.cid, c.args.section.now.block.now) c.args.verdict.now h w.in_default.not-Refused, c.new.ensures.items)
]

pub returns-in-Err : goal.returns-in-Err
returns-in-Err c h = elim c.match-matches.branch [
  | in-Refused w ↦
      let s : NamedBlock = (c.args.section.now.cid, c.args.section.now.block.now) in
      place_told c.section_place_line.result s c.in-Err.refused c.section_place_line.ensures (judged_so s _ c.in-Err.refused (subst (IsVerdict s) w.in-Refused.is h) c.in-Err.ensures.decoded) c.in-Err.ensures.decoded
  | in_default w ↦ absurd (cc (w.matches-is, c.if-not-matches.false))
]
