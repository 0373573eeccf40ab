use Rattle.std.proofs.Common.{◌↔◌, IfSome, IsUtf8, IsTrue, option_map, sym, ◌∙◌, subst}
use Rattle.std.proofs.lemmas.Str.{IsUtf8-from_is_utf8, is_utf8-from_IsUtf8}
use Rattle.dag_pb_model.proofs.measure.is_text_name.Goals as goal

pub returns-in-Some : goal.returns-in-Some
returns-in-Some c =
    let is = c.is_text.ensures in
    let name = c.in-Some.name.now in
    subst (λ o. IsTrue c.is_text.result ↔ IfSome (option_map (λ s. s.now) o) IsUtf8) (sym c.in-Some.is) (λ t. IsUtf8-from_is_utf8 name (sym is ∙ t), λ t. is ∙ is_utf8-from_IsUtf8 name t)
