use Rattle.std.proofs.Common.{◌≡◌, inl, inr, length, ap, refl, arith, length-drop}
use Rattle.ipld_tree.proofs.Fronts.{item_opened}
use Rattle.dagcbor_decode.proofs.Fronts.{no_front}
use Rattle.abi_calls.proofs.Tapes.{exactly, natural_token, negative_token, bytes_token, text_tokens, list_token, map_token, payload_there, simple_token_is, no_simple_token, tagged_tokens}
use Rattle.abi_calls.proofs.Standing.{no_head_no_token, no_payload_no_token, no_simple_no_token, natural_stands, negative_stands, bytes_stand, text_stands, list_stands, map_stands, simple_stands, tagged_stands}
use Rattle.abi_calls.proofs.tape.split_token.Goals as goal

pub returns-in_err-major : goal.returns-in_err-major
returns-in_err-major c = rw c.from_residual.ensures record { tokens = λ t ts f. no_front _ _ t c.in_err-major.ensures (item_opened _ _ t ts f).0; stands = no_head_no_token c.args.whole _ c.in_err-major.ensures }

pub returns-in_err-rest-in-2 : goal.returns-in_err-rest-in-2
returns-in_err-rest-in-2 c =
    let h = c.in_ok-major.ensures in
    let following = c.in_ok-major.following.now in
    rw c.from_residual-in_err-rest-in-2.ensures record { tokens = λ t ts. payload_there _ _ _ following t ts h (inl c.in-2.is) c.in_err-rest-in-2.ensures; stands = no_payload_no_token c.args.whole _ _ _ following h (inl c.in-2.is) c.in_err-rest-in-2.ensures }

pub returns-in_err-rest-in-3 : goal.returns-in_err-rest-in-3
returns-in_err-rest-in-3 c =
    let h = c.in_ok-major.ensures in
    let following = c.in_ok-major.following.now in
    rw c.from_residual-in_err-rest-in-3.ensures record { tokens = λ t ts. payload_there _ _ _ following t ts h (inr c.in-3.is) c.in_err-rest-in-3.ensures; stands = no_payload_no_token c.args.whole _ _ _ following h (inr c.in-3.is) c.in_err-rest-in-3.ensures }

pub returns-in-0 : goal.returns-in-0
returns-in-0 c =
    let h = c.in_ok-major.ensures in
    record { tokens = exactly c.args.whole _ _ _ c.in_ok-major.following.now _ _ _ h (omega arith) c.token_before.ensures (natural_token _ _ _ _ c.requires (rw c.in-0.is at h)); stands = natural_stands c.args.whole _ _ c.in_ok-major.following.now _ (rw c.in-0.is at h) c.token_before.ensures }

pub returns-in-1 : goal.returns-in-1
returns-in-1 c =
    let h = c.in_ok-major.ensures in
    record { tokens = exactly c.args.whole _ _ _ c.in_ok-major.following.now _ _ _ h (omega arith) c.token_before-in-1.ensures (negative_token _ _ _ _ c.requires (rw c.in-1.is at h)); stands = negative_stands c.args.whole _ _ c.in_ok-major.following.now _ (rw c.in-1.is at h) c.token_before-in-1.ensures }

pub returns-in-4 : goal.returns-in-4
returns-in-4 c =
    let h = c.in_ok-major.ensures in
    record { tokens = exactly c.args.whole _ _ _ c.in_ok-major.following.now _ _ _ h (omega arith) c.token_before-in-4.ensures (list_token _ _ _ _ c.requires (rw c.in-4.is at h)); stands = list_stands c.args.whole _ _ c.in_ok-major.following.now _ (rw c.in-4.is at h) c.token_before-in-4.ensures }

pub returns-in-5 : goal.returns-in-5
returns-in-5 c =
    let h = c.in_ok-major.ensures in
    record { tokens = exactly c.args.whole _ _ _ c.in_ok-major.following.now _ _ _ h (omega arith) c.token_before-in-5.ensures (map_token _ _ _ _ c.requires (rw c.in-5.is at h)); stands = map_stands c.args.whole _ _ c.in_ok-major.following.now _ (rw c.in-5.is at h) c.token_before-in-5.ensures }

pub returns-in_ok-rest-in-2 : goal.returns-in_ok-rest-in-2
returns-in_ok-rest-in-2 c =
    let h = c.in_ok-major.ensures in
    let r = c.in_ok-rest-in-2.ensures.1 in
    let n = c.in_ok-major.argument in
    let following = c.in_ok-major.following.now in
    record { tokens = exactly c.args.whole _ _ _ following _ _ _ h (omega (arith, ap length r, length-drop n following)) c.token_before-in-2.ensures (rw r (bytes_token _ _ _ _ c.requires (rw c.in-2.is at h))); stands = bytes_stand c.args.whole _ _ following _ _ (rw c.in-2.is at h) c.in_ok-rest-in-2.ensures.0 r c.token_before-in-2.ensures }

pub returns-in_ok-rest-in-3 : goal.returns-in_ok-rest-in-3
returns-in_ok-rest-in-3 c =
    let h = c.in_ok-major.ensures in
    let r = c.in_ok-rest-in-3.ensures.1 in
    let n = c.in_ok-major.argument in
    let following = c.in_ok-major.following.now in
    record { tokens = exactly c.args.whole _ _ _ following _ _ _ h (omega (arith, ap length r, length-drop n following)) c.token_before-in-3.ensures (rw r (text_tokens _ _ _ _ c.requires (rw c.in-3.is at h))); stands = text_stands c.args.whole _ _ following _ _ (rw c.in-3.is at h) c.in_ok-rest-in-3.ensures.0 r c.token_before-in-3.ensures }

pub returns-in-6 : goal.returns-in-6
returns-in-6 c =
    let h = c.in_ok-major.ensures in
    record { tokens = tagged_tokens (λ p. p.0) (λ p. p.1.now) _ _ _ c.in_ok-major.following.now c.split_tagged.result c.requires (rw c.in-6.is at h) c.split_tagged.ensures.tokens c.split_tagged.ensures.stands; stands = tagged_stands (λ p. p.0) (λ p. p.1.now) _ c.args.whole _ c.in_ok-major.following.now c.split_tagged.result (rw c.in-6.is at h) c.split_tagged.ensures.stands }

pub returns-in_err-token-in_default : goal.returns-in_err-token-in_default
returns-in_err-token-in_default c =
    let h = c.in_ok-major.ensures in
    let seven : c.in_ok-major.major ≡ 7 = omega (arith, h.0) in
    rw c.from_residual-in_err-token-in_default.ensures record { tokens = λ t ts. no_simple_token _ _ c.in_ok-major.following.now t ts (rw seven at h) c.in_err-token-in_default.ensures; stands = no_simple_no_token c.args.whole _ _ c.in_ok-major.following.now (rw seven at h) c.in_err-token-in_default.ensures }

pub returns-in_ok-token-in_default : goal.returns-in_ok-token-in_default
returns-in_ok-token-in_default c =
    let h = c.in_ok-major.ensures in
    let seven : c.in_ok-major.major ≡ 7 = omega (arith, h.0) in
    let s = c.in_ok-token-in_default.ensures in
    record { tokens = exactly c.args.whole _ _ _ c.in_ok-major.following.now _ _ _ h (omega arith) refl (simple_token_is _ _ _ _ _ c.requires (rw seven at h) s); stands = simple_stands c.args.whole _ _ c.in_ok-major.following.now _ (rw seven at h) s }
