use Rattle.std.proofs.Common.{◌*◌, ◌≤◌, take, length}
use Rattle.std.specs.Int.Digits.{AllBelowBase, number_from_digits}
use Rattle.text_cid.specs.Base58.{AreDigits}
use Rattle.text_cid.proofs.base58.digits_in_58.Given as goal

abbrev pub invariant-loop-byte : goal.invariant-loop-byte
invariant-loop-byte l = AreDigits 58 (number_from_digits 256 (take l.byte-index l.bytes)) l.digits.items × AllBelowBase 58 l.digits.items × (length l.digits.items ≤ 2 * l.byte-index)
