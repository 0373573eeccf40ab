use Rattle.std.proofs.Common.{◌∷◌, ap, ◌∙◌, arith}
use Rattle.text_cid.specs.declared.base.Base.TheVariants as bases
use Rattle.text_cid.proofs.Texting.{read_prefixed, read_unprefixed, other_character}
use Rattle.text_cid.proofs.read.cid_from_text.Goals as goal

pub returns-in-102 : goal.returns-in-102
returns-in-102 c = read_prefixed bases.Base16Lower c.args.text.now c.in-Some.rest.now c.cid_in.result c.of_version.result (c.in-Some.ensures ∙ ap (λ x. x ∷ c.in-Some.rest.now) c.in-102.is) c.cid_in.ensures c.of_version.ensures

pub returns-in-98 : goal.returns-in-98
returns-in-98 c = read_prefixed bases.Base32Lower c.args.text.now c.in-Some.rest.now c.cid_in-in-98.result c.of_version-in-98.result (c.in-Some.ensures ∙ ap (λ x. x ∷ c.in-Some.rest.now) c.in-98.is) c.cid_in-in-98.ensures c.of_version-in-98.ensures

pub returns-in-66 : goal.returns-in-66
returns-in-66 c = read_prefixed bases.Base32Upper c.args.text.now c.in-Some.rest.now c.cid_in-in-66.result c.of_version-in-66.result (c.in-Some.ensures ∙ ap (λ x. x ∷ c.in-Some.rest.now) c.in-66.is) c.cid_in-in-66.ensures c.of_version-in-66.ensures

pub returns-in-122 : goal.returns-in-122
returns-in-122 c = read_prefixed bases.Base58Btc c.args.text.now c.in-Some.rest.now c.cid_in-in-122.result c.of_version-in-122.result (c.in-Some.ensures ∙ ap (λ x. x ∷ c.in-Some.rest.now) c.in-122.is) c.cid_in-in-122.ensures c.of_version-in-122.ensures

pub returns-in-81 : goal.returns-in-81
returns-in-81 c = read_unprefixed c.args.text.now c.in-Some.rest.now c.cid_in-in-81.result c.of_version-in-81.result (c.in-Some.ensures ∙ ap (λ x. x ∷ c.in-Some.rest.now) c.in-81.is) c.cid_in-in-81.ensures c.of_version-in-81.ensures

pub returns-in_default-first : goal.returns-in_default-first
returns-in_default-first c = other_character c.args.text.now c.in-Some.rest.now c.in-Some.first c.in-Some.ensures (omega arith) (omega arith) (omega arith) (omega arith) (omega arith)
