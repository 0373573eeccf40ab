use Rattle.std.proofs.Common.{◌*◌, ◌≤◌, take, length, ℕ, List}
use Rattle.std.specs.Int.Digits.{AllBelowBase}
use Rattle.text_cid.specs.Base58.{AreDigits}
use Rattle.text_cid.specs.Reads.{Writes58}
use Rattle.text_cid.proofs.base58.digits_of_58.Given as goal

abbrev pub invariant-loop-symbol : goal.invariant-loop-symbol
invariant-loop-symbol l = AllBelowBase 256 l.digits.items × (length l.digits.items ≤ 2 * l.symbol-index) × ((values : List ℕ) × (n : ℕ) × Writes58 (take l.symbol-index l.text) values n × AreDigits 256 n l.digits.items)
