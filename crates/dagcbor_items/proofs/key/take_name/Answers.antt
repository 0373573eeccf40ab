use Rattle.std.proofs.Common.{rules, refl, arith, ap, ◌∙◌, Some}
use Rattle.dagcbor_heads.proofs.Looking.{lent_looked}
use Rattle.ipld_tree.specs.Tree.{text}
use Rattle.dagcbor_items.proofs.Lent.{front_lent}
use Rattle.dagcbor_items.proofs.Names.{name_front, name_long}
use Rattle.dagcbor_items.proofs.key.take_name.Goals as goal

pub returns-in_err-_taken-clause-taken : goal.returns-in_err-_taken-clause-taken
returns-in_err-_taken-clause-taken g c =
    let found = c.in_ok-key.ensures in
    let front = c.in_ok-front.front.now in
    let few = c.in_err-_taken.ensures.lent.1 (c.in_ok-front.ensures.lends.1 refl) front c.in_ok-front.ensures.bytes in
    absurd (omega (arith, few, name_long c.args.name.now c.in_ok-key._following.now found.0 found.2))

pub returns-clause-taken : goal.returns-clause-taken
returns-clause-taken g c =
    let name = c.args.name.now in
    let found = c.in_ok-key.ensures in
    let at_front = name_front name c.in_ok-key._following.now c.utf8.name found.0 found.2 in
    let lent = c.in_ok-_taken.ensures.lent in
    let bytes = c.in_ok-front.ensures.bytes in (
      found.1,
      record { rest = c.in_ok-key._following.now; lends = search rules; short = found.0; left = bytes ∙ ap Some found.2; follows = search rules },
      front_lent (text name) name c.in_ok-_taken._taken.now bytes at_front refl lent.1 (omega (arith, lent.0, name_long name c.in_ok-key._following.now found.0 found.2)),
    )

pub returns-clause-looked : goal.returns-clause-looked
returns-clause-looked g c =
    let lent = c.in_ok-_taken.ensures.lent in
    lent_looked lent.0 lent.1 lent.2 c.in_ok-_taken.ensures.shown
