-- Arguments that are taken byte by byte.
use Rattle.std.proofs.Common.{ℕ, ◌+◌, ◌*◌, ◌^◌, ◌<◌, [], ◌∷◌, length, refl, sym, ap, ◌∙◌, subst, arith, add-one, length-append}
use Rattle.std.proofs.Math.Nat.{pow-succ'}
use Rattle.std.specs.Int.{bytes_high_first}
use Rattle.dagcbor_heads.specs.Reading.{Reading}
use Rattle.dagcbor_heads.specs.Fronts.{FindsEnd, HasPayload, Takes}
use Rattle.dagcbor_core.specs.Causes.{ArgumentCause}
use Rattle.dagcbor_heads.specs.Refusals.{RefusesPlainly}
use Rattle.dagcbor_core.specs.declared.error.Len.TheVariants.{Small}
use Rattle.dagcbor_core.specs.declared.error.DecodeError.TheVariants.{Eof}
use Rattle.dagcbor_core.specs.declared.name.Name.{Name}
use Rattle.dagcbor_core.proofs.Heads.{length-bytes_high_first}
use Rattle.dagcbor_core.proofs.HeadForms.{one_byte_more}
use Rattle.dagcbor_heads.proofs.Taking.{nothing_taken, takes_both}

-- the first i bytes of an argument were taken, and spell this number
pub record ReadArgument (i argument : ℕ) (old now : Reading) : Type 0 where
  pub small : argument < 256 ^ i
  pub takes : Takes old (bytes_high_first i argument) now

pub no_byte_read : (r : Reading) → ReadArgument 0 0 r r
no_byte_read r = record { small = omega arith; takes = nothing_taken r }

pub one_byte_read : {i argument byte : ℕ} {old now new : Reading} → byte < 256 → ReadArgument i argument old now → Takes now (byte ∷ []) new → ReadArgument (i + 1) (argument * 256 + byte) old new
one_byte_read {i} {argument} {byte} {old} {now} {new} low s t = rw add-one record {
  small = let step = pow-succ' 256 i in omega (arith, s.small);
  takes = subst (λ bs. Takes old bs new) (sym (one_byte_more i argument byte low)) (takes_both s.takes t);
}

-- the bytes end inside the argument
pub cut : (E : Type 0) {i argument width : ℕ} {old now new : Reading} (name : Name) → i < width → ReadArgument i argument old now → FindsEnd now new
    → RefusesPlainly {E = E} (HasPayload width old) (ArgumentCause width) old (Eof name (Small width)) new
cut E {i} {argument} {width} {old} {now} {new} name few s f = (
  f.same.faults ∙ s.takes.same.faults,
  λ h. let k = s.takes.taken _ h.left in
      omega (arith, h.long, few, ap length k.1, ap length (f.none_left k.0 k.2), length-append h.payload h.rest, length-append (bytes_high_first i argument) k.0, length-bytes_high_first i argument),
  λ b l. let k = s.takes.taken b l in
      (refl, omega (arith, few, ap length k.1, ap length (f.none_left k.0 k.2), length-append (bytes_high_first i argument) k.0, length-bytes_high_first i argument)),
)
