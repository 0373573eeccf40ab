use Rattle.std.proofs.Common.{◌≡◌, refl, subst, arith}
use Rattle.files_car.specs.Versions.{begin_of, length_of, HasSpan}
use Rattle.files_car.proofs.Starting.{fields_of}
use Rattle.files_car.proofs.version.file_span.Goals as goal

pub returns-in-Some : goal.returns-in-Some
returns-in-Some c = subst (λ b. HasSpan b × (c.in-Some.span.begin ≡ begin_of b) × (c.in-Some.span.length ≡ length_of b)) (fields_of c.args.bytes.now (omega (arith, c.if-bytes.false)) (c.if-not-may_be_version_2.ensures.0 refl)) c.in-Some.ensures
