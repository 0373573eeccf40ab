use Rattle.std.proofs.Common.{◌≡◌, ◌+◌, ◌-◌, ◌*◌, ◌^◌, ◌<◌, sym, arith, subst, take, length-take}
use Rattle.text_cid.proofs.Alphabet.{alphabet_length}
use Rattle.text_cid.proofs.GroupReads.{IsRead, none_read, symbol_taken, byte_read, byte_below, room_for_byte, whole_read, all_read, too_many_left, other_bits_left}
use Rattle.text_cid.proofs.groups.read_groups.Goals as goal
use Rattle.text_cid.proofs.groups.read_groups.Goals.{then-held-ge8, else-held-ge8}

pub loop-symbol-init : goal.loop-symbol-init
loop-symbol-init c = rw c.new-bytes.ensures (none_read c.args.width c.args.symbols.now, omega arith)

pub overflow_cast-rest : goal.overflow_cast-rest
overflow_cast-rest c =
    let small : c.in-Some.place < 2 ^ c.args.width = omega (arith, c.in-Some.ensures.0, alphabet_length c.args.symbols.now (2 ^ c.args.width) c.requires.base.alphabet) in
    let rest : c.loop-symbol.rest * c.pow.result + c.from.result ≡ c.loop-symbol.rest * 2 ^ c.args.width + c.in-Some.place = λ i. c.loop-symbol.rest * c.pow.ensures i + c.from.ensures i in
    let next = subst (IsRead c.args.width c.args.symbols.now (take (c.loop-symbol.symbol-index + 1) c.args.text.now) c.loop-symbol.bytes.items (c.loop-symbol.held + c.args.width)) (sym rest)
    (symbol_taken c.args.text.now c.loop-symbol.symbol-index c.in-Some.place c.loop-symbol.invariant.0 c.loop-symbol-test.true small c.in-Some.ensures.1) in
    record { fits = byte_below (c.loop-symbol.held + c.args.width - 8) c.pow-unit.result next (omega arith) c.pow-unit.ensures }

pub push-requires : goal.push-requires
push-requires c =
    let few = c.requires.base.few in
    omega (arith, room_for_byte 172 (symbol_taken c.args.text.now c.loop-symbol.symbol-index c.in-Some.place c.loop-symbol.invariant.0 c.loop-symbol-test.true (omega (arith, c.in-Some.ensures.0, alphabet_length c.args.symbols.now (2 ^ c.args.width) c.requires.base.alphabet)) c.in-Some.ensures.1) few (omega (arith, length-take (c.loop-symbol.symbol-index + 1) c.args.text.now)) c.if-held-ge8.true)

pub loop-symbol-preserved : goal.loop-symbol-preserved
loop-symbol-preserved c =
    let small : c.in-Some.place < 2 ^ c.args.width = omega (arith, c.in-Some.ensures.0, alphabet_length c.args.symbols.now (2 ^ c.args.width) c.requires.base.alphabet) in
    let rest : c.loop-symbol.rest * c.pow.result + c.from.result ≡ c.loop-symbol.rest * 2 ^ c.args.width + c.in-Some.place = λ i. c.loop-symbol.rest * c.pow.ensures i + c.from.ensures i in
    let next = subst (IsRead c.args.width c.args.symbols.now (take (c.loop-symbol.symbol-index + 1) c.args.text.now) c.loop-symbol.bytes.items (c.loop-symbol.held + c.args.width)) (sym rest)
    (symbol_taken c.args.text.now c.loop-symbol.symbol-index c.in-Some.place c.loop-symbol.invariant.0 c.loop-symbol-test.true small c.in-Some.ensures.1) in
    elim c.if-held-ge8.branch [
      | then-held-ge8 w ↦ rw (w.bytes-is, w.rest-is, w.held-is) (rw w.push.ensures.items (byte_read (c.loop-symbol.held + c.args.width - 8) w.pow-unit.result next (omega arith) w.pow-unit.ensures), omega arith)
      | else-held-ge8 w ↦ rw (w.bytes-is, w.rest-is, w.held-is) (next, omega arith)
    ]

pub returns-then-held-width : goal.returns-then-held-width
returns-then-held-width c =
    let whole = whole_read c.args.text.now c.loop-symbol.symbol-index c.loop-symbol.invariant.0 c.loop-symbol-test.false in
    too_many_left c.args.width c.args.symbols.now c.args.text.now c.loop-symbol.bytes.items c.loop-symbol.held c.loop-symbol.rest c.requires.base whole c.loop-symbol.invariant.1 c.if-held-width.true

pub returns-then-rest-ne0 : goal.returns-then-rest-ne0
returns-then-rest-ne0 c =
    let whole = whole_read c.args.text.now c.loop-symbol.symbol-index c.loop-symbol.invariant.0 c.loop-symbol-test.false in
    other_bits_left c.args.width c.args.symbols.now c.args.text.now c.loop-symbol.bytes.items c.loop-symbol.held c.loop-symbol.rest c.requires.base whole c.if-held-width.false c.if-rest-ne0.true

pub returns : goal.returns
returns c =
    let whole = whole_read c.args.text.now c.loop-symbol.symbol-index c.loop-symbol.invariant.0 c.loop-symbol-test.false in
    (whole.are_bytes, all_read whole c.if-held-width.false c.if-rest-ne0.false)
