use Rattle.text_cid.proofs.Texting.{too_long, read_lower_16, read_lower_32, read_upper_32, read_bitcoin_58}
use Rattle.text_cid.proofs.read.read_in.Goals as goal

pub returns-then-text-gt-LONGEST_READ : goal.returns-then-text-gt-LONGEST_READ
returns-then-text-gt-LONGEST_READ c = too_long c.args.base c.args.text.now c.if-text-gt-LONGEST_READ.true

pub returns-in-Base16Lower : goal.returns-in-Base16Lower
returns-in-Base16Lower c = rw c.in-Base16Lower.is (read_lower_16 c.args.text.now c.read_groups.result c.if-text-gt-LONGEST_READ.false c.read_groups.ensures)

pub returns-in-Base32Lower : goal.returns-in-Base32Lower
returns-in-Base32Lower c = rw c.in-Base32Lower.is (read_lower_32 c.args.text.now c.read_groups-in-Base32Lower.result c.if-text-gt-LONGEST_READ.false c.read_groups-in-Base32Lower.ensures)

pub returns-in-Base32Upper : goal.returns-in-Base32Upper
returns-in-Base32Upper c = rw c.in-Base32Upper.is (read_upper_32 c.args.text.now c.read_groups-in-Base32Upper.result c.if-text-gt-LONGEST_READ.false c.read_groups-in-Base32Upper.ensures)

pub returns-in-Base58Btc : goal.returns-in-Base58Btc
returns-in-Base58Btc c = rw c.in-Base58Btc.is (read_bitcoin_58 c.args.text.now c.read_58.result c.if-text-gt-LONGEST_READ.false c.read_58.ensures)
