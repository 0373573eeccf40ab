use Rattle.dagcbor_heads.proofs.Refusing.{as_refusal}
use Rattle.dagcbor_read.specs.Deserializers.{de_state}
use Rattle.dagcbor_read.proofs.NamedVariants.{not_begun, not_named, enum_read}
use Rattle.dagcbor_read.proofs.Handing.{enum_not_begun, enum_not_named, variant_refused}
use Rattle.dagcbor_read.proofs.access.variants.read_enum.Goals as goal

pub returns-in_err-form-clause-value : goal.returns-in_err-form-clause-value
returns-in_err-form-clause-value g c = λ sound. as_refusal _ _ _ _ c.from_residual.ensures.1
    (not_begun g.V.Variants.shape _ c.args.name.now (de_state g.R.Read.reading c.args.de.now) (de_state g.R.Read.reading c.deserialize_enum.new.self) _ sound c.in_err-form.ensures.form)

pub returns-in_err-variant_name-clause-value : goal.returns-in_err-variant_name-clause-value
returns-in_err-variant_name-clause-value g c = λ sound. as_refusal _ _ _ _ c.from_residual-in_err-variant_name.ensures.1
    (not_named g.V.Variants.shape _ c.args.name.now (de_state g.R.Read.reading c.args.de.now) (de_state g.R.Read.reading c.deserialize_enum.new.self) (de_state g.R.Read.reading c.variant.new.de) _ _ c.in_ok-form.ensures.form c.in_err-variant_name.ensures.text)

pub returns-clause-value : goal.returns-clause-value
returns-clause-value g c =
    enum_read g.V.Variants.shape g.V.Variants.meaning c.args.name.now (de_state g.R.Read.reading c.args.de.now) (de_state g.R.Read.reading c.deserialize_enum.new.self) (de_state g.R.Read.reading c.variant.new.de) (de_state g.R.Read.reading c.read_variant.new.de) _ _ _ c.read_variant.result c.in_ok-form.ensures.form c.in_ok-variant_name.ensures.text c.in_ok-variant_name.ensures.same c.as_str.ensures.value c.read_variant.ensures.variant

pub returns-in_err-form-clause-refuses : goal.returns-in_err-form-clause-refuses
returns-in_err-form-clause-refuses g c = enum_not_begun g.V.Variants.refuses c.args.name.now _ _ _ _ c.from_residual.ensures.1 c.in_err-form.ensures.form

pub returns-in_err-variant_name-clause-refuses : goal.returns-in_err-variant_name-clause-refuses
returns-in_err-variant_name-clause-refuses g c = enum_not_named g.V.Variants.refuses c.args.name.now _ _ _ _ _ _ c.from_residual-in_err-variant_name.ensures.1 c.in_ok-form.ensures.form c.in_err-variant_name.ensures.text

pub returns-clause-refuses : goal.returns-clause-refuses
returns-clause-refuses g c = variant_refused g.V.Variants.refuses c.args.name.now _ _ _ _ _ _ c.read_variant.result c.in_ok-form.ensures.form c.in_ok-variant_name.ensures.text c.read_variant.ensures.refuses
