use Rattle.std.proofs.Common.{rules, w32, ◌≡◌, ◌≤◌, ◌-◌, ◌^◌, min, length, drop, sym, ap, ◌∙◌, arith}
use Rattle.std.proofs.lemmas.Int.{to_z-of_z}
use Rattle.dagcbor_decode.proofs.Complete.{block_reads}
use Rattle.abi_calls.specs.Codes.{kind_code, decoded_code}
use Rattle.abi_calls.proofs.Decoding.{told_put}
use Rattle.abi_calls.proofs.JudgedTapes.{block_in_front}
use Rattle.abi_calls.proofs.spell.spell_tape.Goals as goal

pub returns-in-Some : goal.returns-in-Some
returns-in-Some c =
    let k = c.in-Some.ensures in
    let s = k.1.0 in
    let old = c.args.out.now in
    let room : length s ≤ length old = omega (arith, k.0, k.1.2) in
    let count : c.in-Some.count ≡ min (length s) (2 ^ 64 - 1) = omega (arith, k.1.2, room) in
    let filled = c.fill.ensures s k.1.1 room in
    let block = k.1.3 in
    let kind = c.kind_of_front.ensures block.0 (drop (length s) old) (block_in_front s (drop (length s) old) c.fill.new.out block.0 filled block.1) in
    let code = to_z-of_z w32 c.kind_code.result (search rules) ∙ c.kind_code.ensures ∙ ap kind_code kind ∙ sym (ap decoded_code (block_reads s block.0 block.1.0 block.1.1)) in
    told_put c.args.bytes.now c.args.tape.now s old c.fill.new.out c.in-Some.count _ k.1.1 room count code filled
