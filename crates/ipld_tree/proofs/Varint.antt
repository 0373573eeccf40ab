-- A varint, written group by group.
use Rattle.std.proofs.Common.{◌≡◌, ℕ, zero, suc, ◌+◌, ◌/◌, ◌%◌, ◌^◌, ◌<◌, ◌≤◌, List, [], ◌∷◌, ◌++◌, length, length-append, inl, inr, refl, sym, ap, ◌∙◌, arith, append_assoc}
use Rattle.std.proofs.lemmas.Bool.{cases_lt}
use Rattle.std.proofs.Math.Nat.{pow-succ'}
use Rattle.ipld_tree.specs.Cid.{varint, varint_groups}
use Rattle.ipld_tree.proofs.Cids.{one_group, more_groups}

-- the groups of the rest are what is left to write of n
pub record IsLeft (start : List ℕ) (n : ℕ) (out : List ℕ) (rest : ℕ) : Type 0 where
  pub more : ℕ
  pub fits : rest < 128 ^ suc more
  pub is : out ++ varint_groups (suc more) rest ≡ start ++ varint n

pub all_left : (start : List ℕ) (n : ℕ) → n < 2 ^ 64 → IsLeft start n start n
unfolding varint
all_left start n h = record { more = 9; fits = omega (arith, h); is = refl }

pub one_left_less : {start : List ℕ} {n : ℕ} {out : List ℕ} {rest : ℕ} → IsLeft start n out rest → 128 ≤ rest → IsLeft start n (out ++ (128 + rest % 128) ∷ []) (rest / 128)
one_left_less {start} {n} {out} {rest} w h = by w.more w.fits w.is
  where
    by : (k : ℕ) → rest < 128 ^ suc k → out ++ varint_groups (suc k) rest ≡ start ++ varint n → IsLeft start n (out ++ (128 + rest % 128) ∷ []) (rest / 128)
    by zero f e = absurd (omega (arith, f, h))
    by (suc k) f e = record {
      more = k;
      fits = let p = pow-succ' 128 (suc k) in omega (arith, f, p);
      is = append_assoc out ((128 + rest % 128) ∷ []) (varint_groups (suc k) (rest / 128)) ∙ ap (λ x. out ++ x) (sym (more_groups (suc k) rest h)) ∙ e;
    }

one_at_least : (more n : ℕ) → 1 ≤ length (varint_groups (suc more) n)
one_at_least more n = elim (cases_lt n 128) [
  | inl h ↦ omega (arith, ap length (one_group more n h))
  | inr h ↦ omega (arith, ap length (more_groups more n h))
]

-- a group is still to be written
pub room_left : {start : List ℕ} {n : ℕ} {out : List ℕ} {rest : ℕ} → IsLeft start n out rest → length out < length start + length (varint n)
room_left {start} {n} {out} {rest} w =
    let whole : length (out ++ varint_groups (suc w.more) rest) ≡ length (start ++ varint n) = ap length w.is in
    omega (arith, whole, length-append out (varint_groups (suc w.more) rest), length-append start (varint n), one_at_least w.more rest)
