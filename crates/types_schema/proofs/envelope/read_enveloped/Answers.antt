use Rattle.std.proofs.Common.{inl, Err, codes}
use Rattle.std.specs.Cow.{cow_str_bytes}
use Rattle.dagcbor_heads.proofs.Refusing.{as_refusal}
use Rattle.dagcbor_read.specs.Accessors.{BeginsItems, accessor_state}
use Rattle.dagcbor_read.proofs.Progressing.{call_told}
use Rattle.dagcbor_read.proofs.Wholes.{on_refusal}
use Rattle.types_schema.proofs.EnvelopeFronts.{at_first_key, at_told, at_second_key, at_held, tag_refused, name_refused, content_refused, held_refused, end_refused, envelope_read}
use Rattle.types_schema.proofs.SchemaRefusals.{tag_told, name_told, content_told, held_told, unread_told}
use Rattle.types_schema.proofs.envelope.read_enveloped.Goals as goal

pub returns-in_err-read_named_key-clause-value : goal.returns-in_err-read_named_key-clause-value
returns-in_err-read_named_key-clause-value g c = λ sound.
    let T = c.args.tag.now in
    let C = c.args.content.now in
    let S = g.V.Enveloped.shape in
    let first = at_first_key T C S g.row.R-Error.Denot _ _ _ c.in_ok-entries.ensures.begun in
    as_refusal _ _ _ _ c.from_residual-in_err-read_named_key.ensures.1 (tag_refused T C S _ _ _ first c.in_err-read_named_key.ensures.key)

pub returns-in_err-name-clause-value : goal.returns-in_err-name-clause-value
returns-in_err-name-clause-value g c = λ sound.
    let T = c.args.tag.now in
    let C = c.args.content.now in
    let S = g.V.Enveloped.shape in
    let first = at_first_key T C S g.row.R-Error.Denot _ _ _ c.in_ok-entries.ensures.begun in
    let told = at_told T C S g.row.R-Error.Denot first c.in_ok-read_named_key.ensures.key in
    as_refusal _ _ _ _ c.from_residual-in_err-name.ensures.1 (name_refused T C S _ cow_str_bytes _ _ told c.in_err-name.ensures.value)

pub returns-in_err-read_named_key-2-clause-value : goal.returns-in_err-read_named_key-2-clause-value
returns-in_err-read_named_key-2-clause-value g c = λ sound.
    let T = c.args.tag.now in
    let C = c.args.content.now in
    let S = g.V.Enveloped.shape in
    let first = at_first_key T C S g.row.R-Error.Denot _ _ _ c.in_ok-entries.ensures.begun in
    let told = at_told T C S g.row.R-Error.Denot first c.in_ok-read_named_key.ensures.key in
    let second = at_second_key T C S g.row.R-Error.Denot cow_str_bytes _ told c.in_ok-name.ensures.value c.in_ok-name.ensures.after in
    as_refusal _ _ _ _ c.from_residual-in_err-read_named_key-2.ensures.1 (content_refused T C S _ _ _ second c.in_err-read_named_key-2.ensures.key)

pub returns-in_err-value-clause-value : goal.returns-in_err-value-clause-value
returns-in_err-value-clause-value g c = λ sound.
    let T = c.args.tag.now in
    let C = c.args.content.now in
    let S = g.V.Enveloped.shape in
    let first = at_first_key T C S g.row.R-Error.Denot _ _ _ c.in_ok-entries.ensures.begun in
    let told = at_told T C S g.row.R-Error.Denot first c.in_ok-read_named_key.ensures.key in
    let second = at_second_key T C S g.row.R-Error.Denot cow_str_bytes _ told c.in_ok-name.ensures.value c.in_ok-name.ensures.after in
    let held = at_held T C S g.row.R-Error.Denot second c.in_ok-read_named_key-2.ensures.key in
    as_refusal _ _ _ _ c.from_residual-in_err-value.ensures.1 (held_refused T C S _ _ c.as_str.ensures.value held c.in_err-value.ensures.value)

pub returns-in_err-end-clause-value : goal.returns-in_err-end-clause-value
returns-in_err-end-clause-value g c = λ sound.
    let T = c.args.tag.now in
    let C = c.args.content.now in
    let S = g.V.Enveloped.shape in
    let first = at_first_key T C S g.row.R-Error.Denot _ _ _ c.in_ok-entries.ensures.begun in
    let told = at_told T C S g.row.R-Error.Denot first c.in_ok-read_named_key.ensures.key in
    let second = at_second_key T C S g.row.R-Error.Denot cow_str_bytes _ told c.in_ok-name.ensures.value c.in_ok-name.ensures.after in
    let held = at_held T C S g.row.R-Error.Denot second c.in_ok-read_named_key-2.ensures.key in
    as_refusal _ _ _ _ c.from_residual-in_err-end.ensures.1 (end_refused T C S _ g.V.Enveloped.meaning _ _ _ _ c.as_str.ensures.value held c.in_ok-value.ensures.value c.in_ok-value.ensures.after c.in_err-end.ensures)

pub returns-clause-value : goal.returns-clause-value
returns-clause-value g c = λ sound.
    let T = c.args.tag.now in
    let C = c.args.content.now in
    let S = g.V.Enveloped.shape in
    let first = at_first_key T C S g.row.R-Error.Denot _ _ _ c.in_ok-entries.ensures.begun in
    let told = at_told T C S g.row.R-Error.Denot first c.in_ok-read_named_key.ensures.key in
    let second = at_second_key T C S g.row.R-Error.Denot cow_str_bytes _ told c.in_ok-name.ensures.value c.in_ok-name.ensures.after in
    let held = at_held T C S g.row.R-Error.Denot second c.in_ok-read_named_key-2.ensures.key in
    envelope_read T C S g.row.R-Error.Denot g.V.Enveloped.meaning _ _ _ c.as_str.ensures.value held c.in_ok-value.ensures.value c.in_ok-value.ensures.after c.in_ok-end.ensures

pub returns-in_err-entries-clause-refuses : goal.returns-in_err-entries-clause-refuses
returns-in_err-entries-clause-refuses g c = λ sound.
    on_refusal _ _ _ c.from_residual.ensures.1 (inl (call_told (BeginsItems 5 (codes "map") 1) _ _ (Err _) sound c.in_err-entries.ensures.begun))

pub returns-in_err-read_named_key-clause-refuses : goal.returns-in_err-read_named_key-clause-refuses
returns-in_err-read_named_key-clause-refuses g c = λ sound.
    let T = c.args.tag.now in
    let C = c.args.content.now in
    let S = g.V.Enveloped.shape in
    let first = at_first_key T C S g.row.R-Error.Denot _ _ _ c.in_ok-entries.ensures.begun in
    on_refusal _ _ _ c.from_residual-in_err-read_named_key.ensures.1 (tag_told T C S g.V.Enveloped.refuses first c.in_err-read_named_key.ensures.refuses)

pub returns-in_err-name-clause-refuses : goal.returns-in_err-name-clause-refuses
returns-in_err-name-clause-refuses g c = λ sound.
    let T = c.args.tag.now in
    let C = c.args.content.now in
    let S = g.V.Enveloped.shape in
    let first = at_first_key T C S g.row.R-Error.Denot _ _ _ c.in_ok-entries.ensures.begun in
    let told = at_told T C S g.row.R-Error.Denot first c.in_ok-read_named_key.ensures.key in
    on_refusal _ _ _ c.from_residual-in_err-name.ensures.1 (name_told T C S g.V.Enveloped.refuses told (c.in_err-name.ensures.answers told.sound))

pub returns-in_err-read_named_key-2-clause-refuses : goal.returns-in_err-read_named_key-2-clause-refuses
returns-in_err-read_named_key-2-clause-refuses g c = λ sound.
    let T = c.args.tag.now in
    let C = c.args.content.now in
    let S = g.V.Enveloped.shape in
    let first = at_first_key T C S g.row.R-Error.Denot _ _ _ c.in_ok-entries.ensures.begun in
    let told = at_told T C S g.row.R-Error.Denot first c.in_ok-read_named_key.ensures.key in
    let second = at_second_key T C S g.row.R-Error.Denot cow_str_bytes _ told c.in_ok-name.ensures.value c.in_ok-name.ensures.after in
    on_refusal _ _ _ c.from_residual-in_err-read_named_key-2.ensures.1 (content_told T C S g.V.Enveloped.refuses second c.in_err-read_named_key-2.ensures.refuses)

pub returns-in_err-value-clause-refuses : goal.returns-in_err-value-clause-refuses
returns-in_err-value-clause-refuses g c = λ sound.
    let T = c.args.tag.now in
    let C = c.args.content.now in
    let S = g.V.Enveloped.shape in
    let first = at_first_key T C S g.row.R-Error.Denot _ _ _ c.in_ok-entries.ensures.begun in
    let told = at_told T C S g.row.R-Error.Denot first c.in_ok-read_named_key.ensures.key in
    let second = at_second_key T C S g.row.R-Error.Denot cow_str_bytes _ told c.in_ok-name.ensures.value c.in_ok-name.ensures.after in
    let held = at_held T C S g.row.R-Error.Denot second c.in_ok-read_named_key-2.ensures.key in
    on_refusal _ _ _ c.from_residual-in_err-value.ensures.1 (held_told T C S g.V.Enveloped.refuses held c.in_err-value.ensures.refuses)

pub returns-in_err-end-clause-refuses : goal.returns-in_err-end-clause-refuses
returns-in_err-end-clause-refuses g c = λ sound.
    let T = c.args.tag.now in
    let C = c.args.content.now in
    let S = g.V.Enveloped.shape in
    let first = at_first_key T C S g.row.R-Error.Denot _ _ _ c.in_ok-entries.ensures.begun in
    let told = at_told T C S g.row.R-Error.Denot first c.in_ok-read_named_key.ensures.key in
    let second = at_second_key T C S g.row.R-Error.Denot cow_str_bytes _ told c.in_ok-name.ensures.value c.in_ok-name.ensures.after in
    let held = at_held T C S g.row.R-Error.Denot second c.in_ok-read_named_key-2.ensures.key in
    on_refusal _ _ _ c.from_residual-in_err-end.ensures.1 (unread_told T C S g.V.Enveloped.refuses g.V.Enveloped.meaning _ (accessor_state c.read_content.new.entries) _ held c.in_ok-value.ensures.value c.in_ok-value.ensures.after c.in_err-end.ensures)
