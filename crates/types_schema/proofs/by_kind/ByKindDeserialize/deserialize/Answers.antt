use Rattle.std.proofs.Common.{refl, inl, Err}
use Rattle.dagcbor_heads.proofs.Refusing.{as_refusal}
use Rattle.dagcbor_read.proofs.Handing.{says}
use Rattle.types_schema.specs.Kinds.{KindShapes}
use Rattle.types_schema.specs.SchemaAnswers.{PeeksOnce}
use Rattle.types_schema.proofs.KindFronts.{kind_read, kind_not_read, null_not_read, no_kind_shown, bool_part, integer_part, text_part, bytes_part, list_part, map_part, link_part}
use Rattle.types_schema.proofs.SchemaRefusals.{kind_answered, told_as}
use Rattle.types_schema.proofs.by_kind.ByKindDeserialize.deserialize.Goals as goal

pub returns-in_err-peek_kind-clause-value : goal.returns-in_err-peek_kind-clause-value
returns-in_err-peek_kind-clause-value g c = λ sound.
    let s : KindShapes _ _ _ _ _ _ _ = record { of_bool = g.B.Shown.shape; of_integer = g.I.Shown.shape; of_text = g.T.Shown.shape; of_bytes = g.Y.Shown.shape; of_list = g.L.Shown.shape; of_map = g.M.Shown.shape; of_link = g.K.Shown.shape } in
    as_refusal _ _ _ _ c.from_residual.ensures.1 (no_kind_shown s _ _ _ _ _ sound c.in_err-peek_kind.ensures.kind)

pub returns-in-Null-clause-value : goal.returns-in-Null-clause-value
returns-in-Null-clause-value g c = λ sound.
    let s : KindShapes _ _ _ _ _ _ _ = record { of_bool = g.B.Shown.shape; of_integer = g.I.Shown.shape; of_text = g.T.Shown.shape; of_bytes = g.Y.Shown.shape; of_list = g.L.Shown.shape; of_map = g.M.Shown.shape; of_link = g.K.Shown.shape } in
    null_not_read s _ _ _ _ _ _ _ _ c.in-Null.is c.in_ok-peek_kind.ensures.kind c.custom.ensures.1 refl

pub returns-in_err-x-in-Bool-clause-value : goal.returns-in_err-x-in-Bool-clause-value
returns-in_err-x-in-Bool-clause-value g c = λ sound.
    let s : KindShapes _ _ _ _ _ _ _ = record { of_bool = g.B.Shown.shape; of_integer = g.I.Shown.shape; of_text = g.T.Shown.shape; of_bytes = g.Y.Shown.shape; of_list = g.L.Shown.shape; of_map = g.M.Shown.shape; of_link = g.K.Shown.shape } in
    as_refusal _ _ _ _ c.from_residual-in_err-x-in-Bool.ensures.1 (kind_not_read (bool_part s) _ _ _ _ _ c.in-Bool.is c.in_ok-peek_kind.ensures.kind c.in_err-x-in-Bool.ensures.value)

pub returns-in_ok-x-in-Bool-clause-value : goal.returns-in_ok-x-in-Bool-clause-value
returns-in_ok-x-in-Bool-clause-value g c = λ sound.
    let s : KindShapes _ _ _ _ _ _ _ = record { of_bool = g.B.Shown.shape; of_integer = g.I.Shown.shape; of_text = g.T.Shown.shape; of_bytes = g.Y.Shown.shape; of_list = g.L.Shown.shape; of_map = g.M.Shown.shape; of_link = g.K.Shown.shape } in
    kind_read (bool_part s) g.row.R-Error.Denot _ _ _ _ _ c.in-Bool.is c.in_ok-peek_kind.ensures.kind c.in_ok-x-in-Bool.ensures.value

pub returns-in_err-x-in-Integer-clause-value : goal.returns-in_err-x-in-Integer-clause-value
returns-in_err-x-in-Integer-clause-value g c = λ sound.
    let s : KindShapes _ _ _ _ _ _ _ = record { of_bool = g.B.Shown.shape; of_integer = g.I.Shown.shape; of_text = g.T.Shown.shape; of_bytes = g.Y.Shown.shape; of_list = g.L.Shown.shape; of_map = g.M.Shown.shape; of_link = g.K.Shown.shape } in
    as_refusal _ _ _ _ c.from_residual-in_err-x-in-Integer.ensures.1 (kind_not_read (integer_part s) _ _ _ _ _ c.in-Integer.is c.in_ok-peek_kind.ensures.kind c.in_err-x-in-Integer.ensures.value)

pub returns-in_ok-x-in-Integer-clause-value : goal.returns-in_ok-x-in-Integer-clause-value
returns-in_ok-x-in-Integer-clause-value g c = λ sound.
    let s : KindShapes _ _ _ _ _ _ _ = record { of_bool = g.B.Shown.shape; of_integer = g.I.Shown.shape; of_text = g.T.Shown.shape; of_bytes = g.Y.Shown.shape; of_list = g.L.Shown.shape; of_map = g.M.Shown.shape; of_link = g.K.Shown.shape } in
    kind_read (integer_part s) g.row.R-Error.Denot _ _ _ _ _ c.in-Integer.is c.in_ok-peek_kind.ensures.kind c.in_ok-x-in-Integer.ensures.value

pub returns-in_err-x-in-String-clause-value : goal.returns-in_err-x-in-String-clause-value
returns-in_err-x-in-String-clause-value g c = λ sound.
    let s : KindShapes _ _ _ _ _ _ _ = record { of_bool = g.B.Shown.shape; of_integer = g.I.Shown.shape; of_text = g.T.Shown.shape; of_bytes = g.Y.Shown.shape; of_list = g.L.Shown.shape; of_map = g.M.Shown.shape; of_link = g.K.Shown.shape } in
    as_refusal _ _ _ _ c.from_residual-in_err-x-in-String.ensures.1 (kind_not_read (text_part s) _ _ _ _ _ c.in-String.is c.in_ok-peek_kind.ensures.kind c.in_err-x-in-String.ensures.value)

pub returns-in_ok-x-in-String-clause-value : goal.returns-in_ok-x-in-String-clause-value
returns-in_ok-x-in-String-clause-value g c = λ sound.
    let s : KindShapes _ _ _ _ _ _ _ = record { of_bool = g.B.Shown.shape; of_integer = g.I.Shown.shape; of_text = g.T.Shown.shape; of_bytes = g.Y.Shown.shape; of_list = g.L.Shown.shape; of_map = g.M.Shown.shape; of_link = g.K.Shown.shape } in
    kind_read (text_part s) g.row.R-Error.Denot _ _ _ _ _ c.in-String.is c.in_ok-peek_kind.ensures.kind c.in_ok-x-in-String.ensures.value

pub returns-in_err-x-in-Bytes-clause-value : goal.returns-in_err-x-in-Bytes-clause-value
returns-in_err-x-in-Bytes-clause-value g c = λ sound.
    let s : KindShapes _ _ _ _ _ _ _ = record { of_bool = g.B.Shown.shape; of_integer = g.I.Shown.shape; of_text = g.T.Shown.shape; of_bytes = g.Y.Shown.shape; of_list = g.L.Shown.shape; of_map = g.M.Shown.shape; of_link = g.K.Shown.shape } in
    as_refusal _ _ _ _ c.from_residual-in_err-x-in-Bytes.ensures.1 (kind_not_read (bytes_part s) _ _ _ _ _ c.in-Bytes.is c.in_ok-peek_kind.ensures.kind c.in_err-x-in-Bytes.ensures.value)

pub returns-in_ok-x-in-Bytes-clause-value : goal.returns-in_ok-x-in-Bytes-clause-value
returns-in_ok-x-in-Bytes-clause-value g c = λ sound.
    let s : KindShapes _ _ _ _ _ _ _ = record { of_bool = g.B.Shown.shape; of_integer = g.I.Shown.shape; of_text = g.T.Shown.shape; of_bytes = g.Y.Shown.shape; of_list = g.L.Shown.shape; of_map = g.M.Shown.shape; of_link = g.K.Shown.shape } in
    kind_read (bytes_part s) g.row.R-Error.Denot _ _ _ _ _ c.in-Bytes.is c.in_ok-peek_kind.ensures.kind c.in_ok-x-in-Bytes.ensures.value

pub returns-in_err-x-in-List-clause-value : goal.returns-in_err-x-in-List-clause-value
returns-in_err-x-in-List-clause-value g c = λ sound.
    let s : KindShapes _ _ _ _ _ _ _ = record { of_bool = g.B.Shown.shape; of_integer = g.I.Shown.shape; of_text = g.T.Shown.shape; of_bytes = g.Y.Shown.shape; of_list = g.L.Shown.shape; of_map = g.M.Shown.shape; of_link = g.K.Shown.shape } in
    as_refusal _ _ _ _ c.from_residual-in_err-x-in-List.ensures.1 (kind_not_read (list_part s) _ _ _ _ _ c.in-List.is c.in_ok-peek_kind.ensures.kind c.in_err-x-in-List.ensures.value)

pub returns-in_ok-x-in-List-clause-value : goal.returns-in_ok-x-in-List-clause-value
returns-in_ok-x-in-List-clause-value g c = λ sound.
    let s : KindShapes _ _ _ _ _ _ _ = record { of_bool = g.B.Shown.shape; of_integer = g.I.Shown.shape; of_text = g.T.Shown.shape; of_bytes = g.Y.Shown.shape; of_list = g.L.Shown.shape; of_map = g.M.Shown.shape; of_link = g.K.Shown.shape } in
    kind_read (list_part s) g.row.R-Error.Denot _ _ _ _ _ c.in-List.is c.in_ok-peek_kind.ensures.kind c.in_ok-x-in-List.ensures.value

pub returns-in_err-x-in-Map-clause-value : goal.returns-in_err-x-in-Map-clause-value
returns-in_err-x-in-Map-clause-value g c = λ sound.
    let s : KindShapes _ _ _ _ _ _ _ = record { of_bool = g.B.Shown.shape; of_integer = g.I.Shown.shape; of_text = g.T.Shown.shape; of_bytes = g.Y.Shown.shape; of_list = g.L.Shown.shape; of_map = g.M.Shown.shape; of_link = g.K.Shown.shape } in
    as_refusal _ _ _ _ c.from_residual-in_err-x-in-Map.ensures.1 (kind_not_read (map_part s) _ _ _ _ _ c.in-Map.is c.in_ok-peek_kind.ensures.kind c.in_err-x-in-Map.ensures.value)

pub returns-in_ok-x-in-Map-clause-value : goal.returns-in_ok-x-in-Map-clause-value
returns-in_ok-x-in-Map-clause-value g c = λ sound.
    let s : KindShapes _ _ _ _ _ _ _ = record { of_bool = g.B.Shown.shape; of_integer = g.I.Shown.shape; of_text = g.T.Shown.shape; of_bytes = g.Y.Shown.shape; of_list = g.L.Shown.shape; of_map = g.M.Shown.shape; of_link = g.K.Shown.shape } in
    kind_read (map_part s) g.row.R-Error.Denot _ _ _ _ _ c.in-Map.is c.in_ok-peek_kind.ensures.kind c.in_ok-x-in-Map.ensures.value

pub returns-in_err-x-in-Link-clause-value : goal.returns-in_err-x-in-Link-clause-value
returns-in_err-x-in-Link-clause-value g c = λ sound.
    let s : KindShapes _ _ _ _ _ _ _ = record { of_bool = g.B.Shown.shape; of_integer = g.I.Shown.shape; of_text = g.T.Shown.shape; of_bytes = g.Y.Shown.shape; of_list = g.L.Shown.shape; of_map = g.M.Shown.shape; of_link = g.K.Shown.shape } in
    as_refusal _ _ _ _ c.from_residual-in_err-x-in-Link.ensures.1 (kind_not_read (link_part s) _ _ _ _ _ c.in-Link.is c.in_ok-peek_kind.ensures.kind c.in_err-x-in-Link.ensures.value)

pub returns-in_ok-x-in-Link-clause-value : goal.returns-in_ok-x-in-Link-clause-value
returns-in_ok-x-in-Link-clause-value g c = λ sound.
    let s : KindShapes _ _ _ _ _ _ _ = record { of_bool = g.B.Shown.shape; of_integer = g.I.Shown.shape; of_text = g.T.Shown.shape; of_bytes = g.Y.Shown.shape; of_list = g.L.Shown.shape; of_map = g.M.Shown.shape; of_link = g.K.Shown.shape } in
    kind_read (link_part s) g.row.R-Error.Denot _ _ _ _ _ c.in-Link.is c.in_ok-peek_kind.ensures.kind c.in_ok-x-in-Link.ensures.value

pub returns-in_err-peek_kind-clause-answers : goal.returns-in_err-peek_kind-clause-answers
returns-in_err-peek_kind-clause-answers g c = inl (told_as (λ e. PeeksOnce _ (Err e) _) _ _ c.from_residual.ensures.1 (c.in_err-peek_kind.ensures.kind, c.in_err-peek_kind.ensures.looked, c.in_err-peek_kind.ensures.variant))

pub returns-in-Null-clause-answers : goal.returns-in-Null-clause-answers
returns-in-Null-clause-answers g c = kind_answered g.B.Deserialize.answers g.I.Deserialize.answers g.T.Deserialize.answers g.Y.Deserialize.answers g.L.Deserialize.answers g.M.Deserialize.answers g.K.Deserialize.answers _ _ _ _ c.in-Null.is (c.in_ok-peek_kind.ensures.kind, c.in_ok-peek_kind.ensures.looked, tt) (says c.custom.ensures, refl)

pub returns-in_err-x-in-Bool-clause-answers : goal.returns-in_err-x-in-Bool-clause-answers
returns-in_err-x-in-Bool-clause-answers g c = kind_answered g.B.Deserialize.answers g.I.Deserialize.answers g.T.Deserialize.answers g.Y.Deserialize.answers g.L.Deserialize.answers g.M.Deserialize.answers g.K.Deserialize.answers _ _ _ _ c.in-Bool.is (c.in_ok-peek_kind.ensures.kind, c.in_ok-peek_kind.ensures.looked, tt) (as_refusal _ _ _ _ c.from_residual-in_err-x-in-Bool.ensures.1 c.in_err-x-in-Bool.ensures.answers)

pub returns-in_ok-x-in-Bool-clause-answers : goal.returns-in_ok-x-in-Bool-clause-answers
returns-in_ok-x-in-Bool-clause-answers g c = kind_answered g.B.Deserialize.answers g.I.Deserialize.answers g.T.Deserialize.answers g.Y.Deserialize.answers g.L.Deserialize.answers g.M.Deserialize.answers g.K.Deserialize.answers _ _ _ _ c.in-Bool.is (c.in_ok-peek_kind.ensures.kind, c.in_ok-peek_kind.ensures.looked, tt) (_, refl, c.in_ok-x-in-Bool.ensures.answers)

pub returns-in_err-x-in-Integer-clause-answers : goal.returns-in_err-x-in-Integer-clause-answers
returns-in_err-x-in-Integer-clause-answers g c = kind_answered g.B.Deserialize.answers g.I.Deserialize.answers g.T.Deserialize.answers g.Y.Deserialize.answers g.L.Deserialize.answers g.M.Deserialize.answers g.K.Deserialize.answers _ _ _ _ c.in-Integer.is (c.in_ok-peek_kind.ensures.kind, c.in_ok-peek_kind.ensures.looked, tt) (as_refusal _ _ _ _ c.from_residual-in_err-x-in-Integer.ensures.1 c.in_err-x-in-Integer.ensures.answers)

pub returns-in_ok-x-in-Integer-clause-answers : goal.returns-in_ok-x-in-Integer-clause-answers
returns-in_ok-x-in-Integer-clause-answers g c = kind_answered g.B.Deserialize.answers g.I.Deserialize.answers g.T.Deserialize.answers g.Y.Deserialize.answers g.L.Deserialize.answers g.M.Deserialize.answers g.K.Deserialize.answers _ _ _ _ c.in-Integer.is (c.in_ok-peek_kind.ensures.kind, c.in_ok-peek_kind.ensures.looked, tt) (_, refl, c.in_ok-x-in-Integer.ensures.answers)

pub returns-in_err-x-in-String-clause-answers : goal.returns-in_err-x-in-String-clause-answers
returns-in_err-x-in-String-clause-answers g c = kind_answered g.B.Deserialize.answers g.I.Deserialize.answers g.T.Deserialize.answers g.Y.Deserialize.answers g.L.Deserialize.answers g.M.Deserialize.answers g.K.Deserialize.answers _ _ _ _ c.in-String.is (c.in_ok-peek_kind.ensures.kind, c.in_ok-peek_kind.ensures.looked, tt) (as_refusal _ _ _ _ c.from_residual-in_err-x-in-String.ensures.1 c.in_err-x-in-String.ensures.answers)

pub returns-in_ok-x-in-String-clause-answers : goal.returns-in_ok-x-in-String-clause-answers
returns-in_ok-x-in-String-clause-answers g c = kind_answered g.B.Deserialize.answers g.I.Deserialize.answers g.T.Deserialize.answers g.Y.Deserialize.answers g.L.Deserialize.answers g.M.Deserialize.answers g.K.Deserialize.answers _ _ _ _ c.in-String.is (c.in_ok-peek_kind.ensures.kind, c.in_ok-peek_kind.ensures.looked, tt) (_, refl, c.in_ok-x-in-String.ensures.answers)

pub returns-in_err-x-in-Bytes-clause-answers : goal.returns-in_err-x-in-Bytes-clause-answers
returns-in_err-x-in-Bytes-clause-answers g c = kind_answered g.B.Deserialize.answers g.I.Deserialize.answers g.T.Deserialize.answers g.Y.Deserialize.answers g.L.Deserialize.answers g.M.Deserialize.answers g.K.Deserialize.answers _ _ _ _ c.in-Bytes.is (c.in_ok-peek_kind.ensures.kind, c.in_ok-peek_kind.ensures.looked, tt) (as_refusal _ _ _ _ c.from_residual-in_err-x-in-Bytes.ensures.1 c.in_err-x-in-Bytes.ensures.answers)

pub returns-in_ok-x-in-Bytes-clause-answers : goal.returns-in_ok-x-in-Bytes-clause-answers
returns-in_ok-x-in-Bytes-clause-answers g c = kind_answered g.B.Deserialize.answers g.I.Deserialize.answers g.T.Deserialize.answers g.Y.Deserialize.answers g.L.Deserialize.answers g.M.Deserialize.answers g.K.Deserialize.answers _ _ _ _ c.in-Bytes.is (c.in_ok-peek_kind.ensures.kind, c.in_ok-peek_kind.ensures.looked, tt) (_, refl, c.in_ok-x-in-Bytes.ensures.answers)

pub returns-in_err-x-in-List-clause-answers : goal.returns-in_err-x-in-List-clause-answers
returns-in_err-x-in-List-clause-answers g c = kind_answered g.B.Deserialize.answers g.I.Deserialize.answers g.T.Deserialize.answers g.Y.Deserialize.answers g.L.Deserialize.answers g.M.Deserialize.answers g.K.Deserialize.answers _ _ _ _ c.in-List.is (c.in_ok-peek_kind.ensures.kind, c.in_ok-peek_kind.ensures.looked, tt) (as_refusal _ _ _ _ c.from_residual-in_err-x-in-List.ensures.1 c.in_err-x-in-List.ensures.answers)

pub returns-in_ok-x-in-List-clause-answers : goal.returns-in_ok-x-in-List-clause-answers
returns-in_ok-x-in-List-clause-answers g c = kind_answered g.B.Deserialize.answers g.I.Deserialize.answers g.T.Deserialize.answers g.Y.Deserialize.answers g.L.Deserialize.answers g.M.Deserialize.answers g.K.Deserialize.answers _ _ _ _ c.in-List.is (c.in_ok-peek_kind.ensures.kind, c.in_ok-peek_kind.ensures.looked, tt) (_, refl, c.in_ok-x-in-List.ensures.answers)

pub returns-in_err-x-in-Map-clause-answers : goal.returns-in_err-x-in-Map-clause-answers
returns-in_err-x-in-Map-clause-answers g c = kind_answered g.B.Deserialize.answers g.I.Deserialize.answers g.T.Deserialize.answers g.Y.Deserialize.answers g.L.Deserialize.answers g.M.Deserialize.answers g.K.Deserialize.answers _ _ _ _ c.in-Map.is (c.in_ok-peek_kind.ensures.kind, c.in_ok-peek_kind.ensures.looked, tt) (as_refusal _ _ _ _ c.from_residual-in_err-x-in-Map.ensures.1 c.in_err-x-in-Map.ensures.answers)

pub returns-in_ok-x-in-Map-clause-answers : goal.returns-in_ok-x-in-Map-clause-answers
returns-in_ok-x-in-Map-clause-answers g c = kind_answered g.B.Deserialize.answers g.I.Deserialize.answers g.T.Deserialize.answers g.Y.Deserialize.answers g.L.Deserialize.answers g.M.Deserialize.answers g.K.Deserialize.answers _ _ _ _ c.in-Map.is (c.in_ok-peek_kind.ensures.kind, c.in_ok-peek_kind.ensures.looked, tt) (_, refl, c.in_ok-x-in-Map.ensures.answers)

pub returns-in_err-x-in-Link-clause-answers : goal.returns-in_err-x-in-Link-clause-answers
returns-in_err-x-in-Link-clause-answers g c = kind_answered g.B.Deserialize.answers g.I.Deserialize.answers g.T.Deserialize.answers g.Y.Deserialize.answers g.L.Deserialize.answers g.M.Deserialize.answers g.K.Deserialize.answers _ _ _ _ c.in-Link.is (c.in_ok-peek_kind.ensures.kind, c.in_ok-peek_kind.ensures.looked, tt) (as_refusal _ _ _ _ c.from_residual-in_err-x-in-Link.ensures.1 c.in_err-x-in-Link.ensures.answers)

pub returns-in_ok-x-in-Link-clause-answers : goal.returns-in_ok-x-in-Link-clause-answers
returns-in_ok-x-in-Link-clause-answers g c = kind_answered g.B.Deserialize.answers g.I.Deserialize.answers g.T.Deserialize.answers g.Y.Deserialize.answers g.L.Deserialize.answers g.M.Deserialize.answers g.K.Deserialize.answers _ _ _ _ c.in-Link.is (c.in_ok-peek_kind.ensures.kind, c.in_ok-peek_kind.ensures.looked, tt) (_, refl, c.in_ok-x-in-Link.ensures.answers)
