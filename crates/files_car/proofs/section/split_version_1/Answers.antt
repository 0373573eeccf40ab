use Rattle.std.proofs.Common.{[], ◌∷◌, inr, arith}
use Rattle.std.proofs.lemmas.Result.{err_from_is_err_and}
use Rattle.ipld_tree.specs.CidFault.{IsFault}
use Rattle.ipld_tree.specs.declared.cid_error.CidError.TheVariants.{DigestTooLong, Truncated}
use Rattle.ipld_tree.proofs.CidFaults.{no_varint}
use Rattle.files_car.proofs.Fronts.{one_field, two_fields, three_fields, no_front, no_varint_front}
use Rattle.files_car.proofs.section.split_version_1.Goals as goal

pub returns-in_err-codec : goal.returns-in_err-codec
returns-in_err-codec c =
    let p = err_from_is_err_and c.from_residual.result c.from_residual.ensures.1 in
    rw (p.1, p.2) (no_varint_front c.in_err-codec.field-0.0 _ [] _ (no_varint _) (omega arith) c.in_err-codec.ensures)

pub returns-in_err-hash_code : goal.returns-in_err-hash_code
returns-in_err-hash_code c =
    let p = err_from_is_err_and c.from_residual-in_err-hash_code.result c.from_residual-in_err-hash_code.ensures.1 in
    rw (p.1, p.2) (no_varint_front c.in_err-hash_code.field-0.0 _ _ _ (one_field c.in_ok-codec.codec c.in_ok-codec.ensures) (omega arith) c.in_err-hash_code.ensures)

pub returns-in_err-length : goal.returns-in_err-length
returns-in_err-length c =
    let p = err_from_is_err_and c.from_residual-in_err-length.result c.from_residual-in_err-length.ensures.1 in
    rw (p.1, p.2) (no_varint_front c.in_err-length.field-0.0 _ _ _ (two_fields c.in_ok-codec.codec c.in_ok-hash_code.hash_code c.in_ok-codec.ensures c.in_ok-hash_code.ensures) (omega arith) c.in_err-length.ensures)

pub returns-then-length-gt-LONGEST_DIGEST : goal.returns-then-length-gt-LONGEST_DIGEST
returns-then-length-gt-LONGEST_DIGEST c =
    let fields = three_fields c.in_ok-codec.codec c.in_ok-hash_code.hash_code c.in_ok-length.length c.in_ok-codec.ensures c.in_ok-hash_code.ensures c.in_ok-length.ensures in
    let at : IsFault DigestTooLong (0x01 ∷ c.args.fields.now) = (_, _, _, _, fields, c.if-length-gt-LONGEST_DIGEST.true) in
    no_front DigestTooLong c.args.fields.now (λ e. absurd (cc e)) at

pub returns-in-None : goal.returns-in-None
returns-in-None c =
    let fields = three_fields c.in_ok-codec.codec c.in_ok-hash_code.hash_code c.in_ok-length.length c.in_ok-codec.ensures c.in_ok-hash_code.ensures c.in_ok-length.ensures in
    let at : IsFault Truncated (0x01 ∷ c.args.fields.now) = inr (inr (_, _, _, _, fields, (c.if-length-gt-LONGEST_DIGEST.false, c.in-None.ensures.cases))) in
    no_front Truncated c.args.fields.now (λ e. absurd (cc e)) at
