use Rattle.std.proofs.Common.{◌∙◌, sym, subst, IsUtf8}
use Rattle.std.specs.Prelude.{⊤}
use Rattle.dagcbor_core.specs.declared.error.DecodeError.TheVariants.{RequireUtf8}
use Rattle.dagcbor_heads.specs.Inputs.{input_reading}
use Rattle.dagcbor_items.proofs.Looks.{front_looked}
use Rattle.dagcbor_items.proofs.StringItems.{text_as_tree, text_refused}
use Rattle.dagcbor_items.proofs.StringReads.{text_string_taken, no_text_refused}
use Rattle.dagcbor_items.proofs.leaf.read_text.Goals as goal

pub returns-in-Ok-clause-item : goal.returns-in-Ok-clause-item
returns-in-Ok-clause-item g c =
    let string = c.in-Some.ensures.taken in
    let text = c.in-Some-as_text.ensures in
    let same = c.in-Ok.ensures.ok ∙ text.0 in
    text_as_tree _ (text_string_taken _ _ same (subst IsUtf8 (sym same) text.1)
    record { fits = string.1; takes = string.2 })

pub returns-in-Ok-clause-looked : goal.returns-in-Ok-clause-looked
returns-in-Ok-clause-looked g c =
    let string = c.in-Some.ensures.taken in
    let text = c.in-Some-as_text.ensures in
    let same = c.in-Ok.ensures.ok ∙ text.0 in
    front_looked c.in-Some.ensures.looked (text_string_taken _ _ same
    (subst IsUtf8 (sym same) text.1) record { fits = string.1; takes = string.2 })

pub returns-in-None-clause-item : goal.returns-in-None-clause-item
returns-in-None-clause-item g c =
    let string = c.in-Some.ensures.taken in
    let told = c.no_text.ensures in
    let old = input_reading g.R.Read.reading c.args.input.now in
    let new = input_reading g.R.Read.reading c.take_string.new.self in
    rw told.1 (text_refused {E = g.row.R-Error.Denot} ⊤ old new (RequireUtf8 told.0) c.requires
    (no_text_refused g.row.R-Error.Denot _ _ told.0 told.2
    record { fits = string.1; takes = string.2 } c.in-None.ensures))

pub returns-clause-item : goal.returns-clause-item
returns-clause-item g c =
    text_as_tree _ (rw c.in_default.ensures.taken at c.in_ok-text.ensures.text)

pub returns-clause-looked : goal.returns-clause-looked
returns-clause-looked g c = front_looked
    (rw c.in_default.ensures.taken at c.in_ok-text.ensures.looked)
    (rw c.in_default.ensures.taken at c.in_ok-text.ensures.text)
