use Rattle.dagcbor_heads.proofs.Writing.{next_part, exit_part, last_part}
use Rattle.dagcbor_write.proofs.Lists.{begin_parts}
use Rattle.std.proofs.Common.{inl, inr}
use Rattle.dagcbor_write.specs.Answers.{NoMessage, OneOf}
use Rattle.dagcbor_write.proofs.Messages.{exit_tells, message_tells}
use Rattle.dagcbor_write.proofs.types.lists.serialize_parts.Goals as goal

pub returns-in_err-push_head-clause-written : goal.returns-in_err-push_head-clause-written
returns-in_err-push_head-clause-written g c =
    let w = begin_parts (g.A.Part.trees c.args.parts.0) (g.B.Part.trees c.args.parts.1) (g.C.Part.trees c.args.parts.2) (g.D.Part.trees c.args.parts.3) _ _ c.requires in
    exit_part w _ _ _ c.from_residual.ensures.1 c.in_err-push_head.ensures.written

pub returns-in_err-serialize_part-clause-written : goal.returns-in_err-serialize_part-clause-written
returns-in_err-serialize_part-clause-written g c =
    let w = begin_parts (g.A.Part.trees c.args.parts.0) (g.B.Part.trees c.args.parts.1) (g.C.Part.trees c.args.parts.2) (g.D.Part.trees c.args.parts.3) _ _ c.requires in
    let w = next_part w _ c.in_ok-push_head.ensures.written in
    exit_part w _ _ _ c.from_residual-in_err-serialize_part.ensures.1 c.in_err-serialize_part.ensures.written

pub returns-in_err-serialize_part-2-clause-written : goal.returns-in_err-serialize_part-2-clause-written
returns-in_err-serialize_part-2-clause-written g c =
    let w = begin_parts (g.A.Part.trees c.args.parts.0) (g.B.Part.trees c.args.parts.1) (g.C.Part.trees c.args.parts.2) (g.D.Part.trees c.args.parts.3) _ _ c.requires in
    let w = next_part w _ c.in_ok-push_head.ensures.written in
    let w = next_part w _ c.in_ok-serialize_part.ensures.written in
    exit_part w _ _ _ c.from_residual-in_err-serialize_part-2.ensures.1 c.in_err-serialize_part-2.ensures.written

pub returns-in_err-serialize_part-3-clause-written : goal.returns-in_err-serialize_part-3-clause-written
returns-in_err-serialize_part-3-clause-written g c =
    let w = begin_parts (g.A.Part.trees c.args.parts.0) (g.B.Part.trees c.args.parts.1) (g.C.Part.trees c.args.parts.2) (g.D.Part.trees c.args.parts.3) _ _ c.requires in
    let w = next_part w _ c.in_ok-push_head.ensures.written in
    let w = next_part w _ c.in_ok-serialize_part.ensures.written in
    let w = next_part w _ c.in_ok-serialize_part-2.ensures.written in
    exit_part w _ _ _ c.from_residual-in_err-serialize_part-3.ensures.1 c.in_err-serialize_part-3.ensures.written

pub returns-clause-written : goal.returns-clause-written
returns-clause-written g c =
    let w = begin_parts (g.A.Part.trees c.args.parts.0) (g.B.Part.trees c.args.parts.1) (g.C.Part.trees c.args.parts.2) (g.D.Part.trees c.args.parts.3) _ _ c.requires in
    let w = next_part w _ c.in_ok-push_head.ensures.written in
    let w = next_part w _ c.in_ok-serialize_part.ensures.written in
    let w = next_part w _ c.in_ok-serialize_part-2.ensures.written in
    let w = next_part w _ c.in_ok-serialize_part-3.ensures.written in
    last_part w _ _ c.serialize_part-4.ensures.written

pub returns-in_err-push_head-clause-told : goal.returns-in_err-push_head-clause-told
returns-in_err-push_head-clause-told g c =
    exit_tells NoMessage (OneOf (g.A.Part.message c.args.parts.0) (g.B.Part.message c.args.parts.1) (g.C.Part.message c.args.parts.2) (g.D.Part.message c.args.parts.3)) _ _ c.from_residual.ensures.1 (λ m k. absurd k) c.in_err-push_head.ensures.silent

pub returns-in_err-serialize_part-clause-told : goal.returns-in_err-serialize_part-clause-told
returns-in_err-serialize_part-clause-told g c =
    exit_tells (g.A.Part.message c.args.parts.0) (OneOf (g.A.Part.message c.args.parts.0) (g.B.Part.message c.args.parts.1) (g.C.Part.message c.args.parts.2) (g.D.Part.message c.args.parts.3)) _ _ c.from_residual-in_err-serialize_part.ensures.1 (λ m k. inl k) c.in_err-serialize_part.ensures.told

pub returns-in_err-serialize_part-2-clause-told : goal.returns-in_err-serialize_part-2-clause-told
returns-in_err-serialize_part-2-clause-told g c =
    exit_tells (g.B.Part.message c.args.parts.1) (OneOf (g.A.Part.message c.args.parts.0) (g.B.Part.message c.args.parts.1) (g.C.Part.message c.args.parts.2) (g.D.Part.message c.args.parts.3)) _ _ c.from_residual-in_err-serialize_part-2.ensures.1 (λ m k. inr (inl k)) c.in_err-serialize_part-2.ensures.told

pub returns-in_err-serialize_part-3-clause-told : goal.returns-in_err-serialize_part-3-clause-told
returns-in_err-serialize_part-3-clause-told g c =
    exit_tells (g.C.Part.message c.args.parts.2) (OneOf (g.A.Part.message c.args.parts.0) (g.B.Part.message c.args.parts.1) (g.C.Part.message c.args.parts.2) (g.D.Part.message c.args.parts.3)) _ _ c.from_residual-in_err-serialize_part-3.ensures.1 (λ m k. inr (inr (inl k))) c.in_err-serialize_part-3.ensures.told

pub returns-clause-told : goal.returns-clause-told
returns-clause-told g c =
    message_tells (g.D.Part.message c.args.parts.3) (OneOf (g.A.Part.message c.args.parts.0) (g.B.Part.message c.args.parts.1) (g.C.Part.message c.args.parts.2) (g.D.Part.message c.args.parts.3)) _ (λ m k. inr (inr (inr k))) c.serialize_part-4.ensures.told
