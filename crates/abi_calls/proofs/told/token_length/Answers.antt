use Rattle.std.proofs.Common.{◌∙◌, ◌++◌, length, ap, sym, subst}
use Rattle.dagcbor_core.specs.Head.{head}
use Rattle.ipld_tree.specs.Tree.{link}
use Rattle.ipld_tree.specs.Spelling.{spelling}
use Rattle.abi_calls.specs.Told.{token_bytes, TellsLength}
use Rattle.abi_calls.proofs.Spelling.{null_counted, boolean_counted, string_is, link_is}
use Rattle.abi_calls.proofs.told.token_length.Goals as goal

pub returns-in-0 : goal.returns-in-0
returns-in-0 c = let t = c.args.token.now in subst (λ k. TellsLength (token_bytes c.args.bytes.now k t.number t.place) c.simple_length.result) (sym c.in-0.is) (null_counted t.number c.simple_length.result c.simple_length.ensures)

pub returns-in-1 : goal.returns-in-1
returns-in-1 c = let t = c.args.token.now in subst (λ k. TellsLength (token_bytes c.args.bytes.now k t.number t.place) c.simple_length-in-1.result) (sym c.in-1.is) (boolean_counted t.number c.simple_length-in-1.result c.simple_length-in-1.ensures)

pub returns-in-2 : goal.returns-in-2
returns-in-2 c = let t = c.args.token.now in (head 0 t.number, ap (λ k. token_bytes c.args.bytes.now k t.number t.place) c.in-2.is, c.head_length.ensures.length 0)

pub returns-in_ok-payload_at-in-3 : goal.returns-in_ok-payload_at-in-3
returns-in_ok-payload_at-in-3 c =
    let t = c.args.token.now in
    let s = c.in_ok-payload_at-in-3.field-0.now in
    (head 3 (length s) ++ s, ap (λ k. token_bytes c.args.bytes.now k t.number t.place) c.in-3.is ∙ string_is c.args.bytes.now s 3 t.place t.number c.in_ok-payload_at-in-3.ensures, c.string_length.ensures.length 3)

pub returns-in_ok-payload_at-in-4 : goal.returns-in_ok-payload_at-in-4
returns-in_ok-payload_at-in-4 c =
    let t = c.args.token.now in
    let s = c.in_ok-payload_at-in-4.field-0.now in
    (head 2 (length s) ++ s, ap (λ k. token_bytes c.args.bytes.now k t.number t.place) c.in-4.is ∙ string_is c.args.bytes.now s 2 t.place t.number c.in_ok-payload_at-in-4.ensures, c.string_length-in-4.ensures.length 2)

pub returns-in_ok-payload_at-in-7 : goal.returns-in_ok-payload_at-in-7
returns-in_ok-payload_at-in-7 c =
    let t = c.args.token.now in
    let s = c.in_ok-payload_at-in-7.field-0.now in
    (spelling (link s), ap (λ k. token_bytes c.args.bytes.now k t.number t.place) c.in-7.is ∙ link_is c.args.bytes.now s t.place t.number c.in_ok-payload_at-in-7.ensures, c.link_length.ensures.length)

pub returns-in-5 : goal.returns-in-5
returns-in-5 c = let t = c.args.token.now in (head 4 t.number, ap (λ k. token_bytes c.args.bytes.now k t.number t.place) c.in-5.is, c.head_length-in-5.ensures.length 4)

pub returns-in-6 : goal.returns-in-6
returns-in-6 c = let t = c.args.token.now in (head 5 t.number, ap (λ k. token_bytes c.args.bytes.now k t.number t.place) c.in-6.is, c.head_length-in-6.ensures.length 5)

pub returns-in-8 : goal.returns-in-8
returns-in-8 c = let t = c.args.token.now in (head 1 t.number, ap (λ k. token_bytes c.args.bytes.now k t.number t.place) c.in-8.is, c.head_length-in-8.ensures.length 1)
