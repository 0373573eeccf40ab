use Rattle.std.proofs.Common.{◌∙◌, sym, ap}
use Rattle.text_dag_json.specs.Reading.{is_whole}
use Rattle.text_dag_json.proofs.Numbers.{no_fit}
use Rattle.text_dag_json.proofs.number.integer_of.Goals as goal

pub returns-in_default-2 : goal.returns-in_default-2
returns-in_default-2 c = no_fit c.args.text.now (ap is_whole (sym c.as_bytes.ensures.value) ∙ sym c.is_whole.ensures ∙ c.if-not-is_whole.false) c.in_default.ensures.value.0
