use Rattle.std.proofs.Common.{ℕ, refl, false, ◌≡◌, true, codes}
use Rattle.serde_ipld_dagcbor.specs.ByHand.{as_refusal, held_refused}
use Rattle.serde_ipld_dagcbor.specs.Deserializers.{de_state}
use Rattle.serde_ipld_dagcbor.specs.Enums.{enum_state}
use Rattle.types_by_hand.specs.Color.{color_variants, two_numbers}
use Rattle.types_by_hand.specs.declared.color.Color.TheVariants.{Alpha}
use Rattle.types_by_hand.proofs.color.ColorVariants.read_variant.Goals as goal

abbrev parts : ℕ × ℕ → ℕ × (ℕ × Unit {0})
parts p = (p.0, (p.1, tt))

pub returns-in_err-n-in-Alpha-clause-variant : goal.returns-in_err-n-in-Alpha-clause-variant
returns-in_err-n-in-Alpha-clause-variant g c = as_refusal _ _ _ _ c.from_residual-in_err-n-in-Alpha.ensures.1
    (held_refused color_variants (λ p. Alpha p.0 p.1.0) two_numbers g.row.R-Error.Denot parts (false ≡ true) (enum_state c.args.variant) (de_state g.R.Read.reading c.args.de.now) (de_state g.R.Read.reading c.newtype_variant-in-Alpha.new.de) (codes "Alpha") _
    c.in-Alpha.is refl (λ t. refl) (λ t. refl) (λ x. x) (λ lends x. x) c.requires.sound c.in_err-n-in-Alpha.ensures.part)
