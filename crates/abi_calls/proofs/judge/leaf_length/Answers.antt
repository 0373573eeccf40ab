use Rattle.std.proofs.Common.{sym, subst, arith, IfSome}
use Rattle.abi_calls.specs.Told.{token_bytes}
use Rattle.abi_calls.specs.TapeJudging.{IsLeafTold}
use Rattle.abi_calls.proofs.JudgedTapes.{null_leaf, boolean_leaf, natural_leaf, negative_leaf, text_leaf, bytes_leaf, link_leaf, link_fits}
use Rattle.abi_calls.proofs.judge.leaf_length.Goals as goal

pub returns-in-0 : goal.returns-in-0
returns-in-0 c =
    let t = c.args.token.now in
    subst (λ k. IfSome c.simple_length.result (λ n. IsLeafTold (token_bytes c.args.bytes.now k t.number t.place) n)) (sym c.in-0.is) (null_leaf t.number c.simple_length.result c.simple_length.ensures)

pub returns-in-1 : goal.returns-in-1
returns-in-1 c =
    let t = c.args.token.now in
    subst (λ k. IfSome c.simple_length-in-1.result (λ n. IsLeafTold (token_bytes c.args.bytes.now k t.number t.place) n)) (sym c.in-1.is) (boolean_leaf t.number c.simple_length-in-1.result c.simple_length-in-1.ensures)

pub returns-in-2 : goal.returns-in-2
returns-in-2 c =
    let t = c.args.token.now in
    subst (λ k. IsLeafTold (token_bytes c.args.bytes.now k t.number t.place) c.head_length.result) (sym c.in-2.is) (natural_leaf t.number c.head_length.result (omega arith) (c.head_length.ensures.length 0))

pub returns-in_ok-text_of-in-3 : goal.returns-in_ok-text_of-in-3
returns-in_ok-text_of-in-3 c =
    let t = c.args.token.now in
    let k = c.in_ok-text_of-in-3.ensures in
    subst (λ kind. IsLeafTold (token_bytes c.args.bytes.now kind t.number t.place) c.string_length.result) (sym c.in-3.is) (text_leaf c.args.bytes.now c.in_ok-text_of-in-3.field-0.now t.place t.number c.string_length.result (omega arith) k.0 k.1 (c.string_length.ensures.length 3))

pub returns-in_ok-payload_at-in-4 : goal.returns-in_ok-payload_at-in-4
returns-in_ok-payload_at-in-4 c =
    let t = c.args.token.now in
    subst (λ kind. IsLeafTold (token_bytes c.args.bytes.now kind t.number t.place) c.string_length-in-4.result) (sym c.in-4.is)
    (bytes_leaf c.args.bytes.now c.in_ok-payload_at-in-4.field-0.now t.place t.number c.string_length-in-4.result (omega arith) c.in_ok-payload_at-in-4.ensures (c.string_length-in-4.ensures.length 2))

pub returns-in_ok-cid_of-in-7 : goal.returns-in_ok-cid_of-in-7
returns-in_ok-cid_of-in-7 c =
    let t = c.args.token.now in
    let k = c.in_ok-cid_of-in-7.ensures in
    let cid = c.in_ok-cid_of-in-7.field-0.now in
    let n = c.link_length.result in
    subst (λ kind. IsLeafTold (token_bytes c.args.bytes.now kind t.number t.place) n) (sym c.in-7.is) (link_leaf c.args.bytes.now cid t.place t.number n (link_fits cid n (omega arith) c.link_length.ensures.length) k.0 k.1 c.link_length.ensures.length)

pub returns-in-8 : goal.returns-in-8
returns-in-8 c =
    let t = c.args.token.now in
    subst (λ k. IsLeafTold (token_bytes c.args.bytes.now k t.number t.place) c.head_length-in-8.result) (sym c.in-8.is) (negative_leaf t.number c.head_length-in-8.result (omega arith) (c.head_length-in-8.ensures.length 1))
