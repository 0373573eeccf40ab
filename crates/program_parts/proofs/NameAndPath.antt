-- A text without a slash is a name, and its path is empty.
use Rattle.std.proofs.Common.{◌≡◌, ℕ, List, [], ◌∷◌, ◌+◌, ◌==◌, length, drop, take, refl, sym, ap, ◌∙◌, arith, length-drop}
use Rattle.std.specs.List.{position_or_len}
use Rattle.std.proofs.Math.Seq.{take-length}
use Rattle.program_parts.specs.Paths.{name_part, path_part}

pub whole_name : (text : List ℕ) → position_or_len (λ b. b == 47) text ≡ length text → text ≡ name_part text
whole_name text none = sym (ap (λ n. take n text) none ∙ take-length text)

pub no_path : (text : List ℕ) → position_or_len (λ b. b == 47) text ≡ length text → [] ≡ path_part text
no_path text none = sym (empty (drop (position_or_len (λ b. b == 47) text + 1) text) (omega (arith, none, length-drop (position_or_len (λ b. b == 47) text + 1) text)))
  where
    empty : (x : List ℕ) → length x ≡ 0 → x ≡ []
    empty [] e = refl
    empty (y ∷ ys) e = absurd (omega (arith, e))
