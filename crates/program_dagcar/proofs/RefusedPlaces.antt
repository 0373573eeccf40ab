-- The offset reported for a section whose block is refused.
use Rattle.std.proofs.Common.{◌≡◌, inl, ℕ, refl, sym, arith, Result, Ok, Err, IfOk, Vec, Global}
use Rattle.std.specs.declared.convert.Infallible.{Infallible}
use Rattle.dagcbor_core.specs.declared.error.DecodeError.{DecodeError}
use Rattle.dagcbor_decode.specs.Decode.{decode}
use Rattle.dagcbor_decode.specs.Verdicts.{judged, verdict}
use Rattle.dagcbor_decode.specs.declared.slices.Refused.{Refused}
use Rattle.dagcbor_decode.proofs.Laws.{refused_no_block, refused_for}
use Rattle.ipld_links.specs.Blocks.{NamedBlock}
use Rattle.ipld_links.specs.Verdicts.{IsVerdict}
use Rattle.ipld_links.specs.declared.verdict.Verdict.{Verdict}
use Rattle.ipld_links.specs.declared.verdict.Verdict.TheVariants as verdicts
use Rattle.ipld_links.proofs.Testing.{verified_testable}
use Rattle.program_dagcar.specs.Answers.{TellsPlace}
use Rattle.program_dagcar.specs.Lines.{section_place_line}

-- with another verdict the block is not refused
pub other_verdict : (s : NamedBlock) (v : Verdict) → IsVerdict s v → ((e : DecodeError Infallible) → v ≡ verdicts.Refused e → ⊥) → (e : DecodeError Infallible) → IsVerdict s (verdicts.Refused e) → ⊥
other_verdict s (verdicts.Block kind) h other e k = refused_no_block s.1 e h.1.1.0 k.1.1 h.1.1.1
other_verdict s (verdicts.Refused d) h other e k = other d refl
other_verdict s verdicts.Node h other e k = absurd (omega (arith, h.1.0, k.1.0))
other_verdict s (verdicts.NoNode d) h other e k = absurd (omega (arith, h.1.0, k.1.0))
other_verdict s verdicts.NotRead h other e k = absurd (omega (arith, h.1, k.1.0))
other_verdict s verdicts.LinksNotRead h other e k = h.1.1 (inl k.1.0)
other_verdict s verdicts.OtherBytes h other e k = h.1 k.0
other_verdict s verdicts.Unverified h other e k = h (verified_testable s k.0)

-- it is refused for the cause that the judge gives
pub judged_so : (s : NamedBlock) (e : DecodeError Infallible) (r : Refused) → IsVerdict s (verdicts.Refused e) → judged (Err r) ≡ verdict s.1 (decode s.1) → IsVerdict s (verdicts.Refused r.cause)
judged_so s e r h j = (h.0, (h.1.0, refused_for s.1 r.cause r.place (sym j)))

-- and its offset is reported
pub place_told : {E : Type 0} (r : Result (Vec ℕ Global) E) (s : NamedBlock) (e : Refused) → IfOk r (λ v. v.items ≡ section_place_line s.0 e.cause e.place) → IsVerdict s (verdicts.Refused e.cause) → judged (Err e) ≡ verdict s.1 (decode s.1) → IfOk r (λ v. TellsPlace s v.items)
place_told (Ok v) s e h is j = inl (e.cause, e.place, is, sym j, h)
place_told (Err x) s e h is j = tt
