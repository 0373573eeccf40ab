use Rattle.text_cid.proofs.Numbers58.{symbol_taken, all_taken}
use Rattle.text_cid.proofs.base58.push_58.Goals as goal

pub loop-place-preserved : goal.loop-place-preserved
loop-place-preserved c = rw (c.push.ensures.items, c.deref.ensures.0) (symbol_taken c.args.out.now.items c.loop-place.out.items c.digits_in_58-digits.result.items c.loop-place.place c.len-count.result c.loop-place.invariant c.loop-place-test.true c.len-count.ensures.value)

pub returns : goal.returns
returns c = all_taken c.args.out.now.items c.loop-place.out.items c.digits_in_58-digits.result.items c.args.bytes.now c.loop-place.place c.len-count.result c.loop-place.invariant c.loop-place-test.false c.len-count.ensures.value c.digits_in_58-digits.ensures.digits
