-- Layers are at most 128.
use Rattle.std.proofs.Common.{ℕ, suc, ◌+◌, ◌*◌, ◌≤◌, Bool, true, false, List, [], ◌∷◌, length, arith}
use Rattle.std.specs.Prelude.{if◌then◌else◌, ◌==◌}
use Rattle.std.specs.Int.{w8, leading_zeros}
use Rattle.std.proofs.lemmas.Nat.{leading_le}
use Rattle.sha2.specs.Sha256.{sha256}
use Rattle.sha2.proofs.Facts256.{length-sha256}
use Rattle.atproto_mst.specs.Keys.{Entry, zero_bits, key_layer}
use Rattle.atproto_mst.specs.Trees.{leaves, top_layer}

bits_by : (b n k : ℕ) (x : Bool) → n ≤ 8 * k → (if x then 8 + n else leading_zeros w8 b) ≤ 8 * suc k
bits_by b n k true h = omega arith
bits_by b n k false h = omega (arith, leading_le 8 b)

bits_within : (bs : List ℕ) → zero_bits bs ≤ 8 * length bs
bits_within [] = omega arith
bits_within (b ∷ bs) = bits_by b (zero_bits bs) (length bs) (b == 0) (bits_within bs)

layer_within : (key : List ℕ) → key_layer key ≤ 128
unfolding key_layer
layer_within key = omega (arith, bits_within (sha256 key), length-sha256 key)

pub top_within : (es : List Entry) → top_layer (leaves es) ≤ 128
top_within [] = omega arith
top_within (e ∷ es) = omega (arith, layer_within e.0, top_within es)
