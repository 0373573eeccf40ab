-- Texts cut to a number of bytes.
use Rattle.std.specs.Prelude.{◌≡◌, ℕ, ◌<◌, ◌≤◌, List, take, IsCharBoundary}
use Rattle.dagcbor_core.specs.declared.text.Text.{Text}

-- the bytes of a kept text
abbrev pub text_bytes : {most : ℕ} → Text most → List ℕ
text_bytes kept = kept.text.bytes

-- the longest beginning of the text that has at most `most` bytes and ends with a character
pub record IsKept (most : ℕ) (kept text : List ℕ) : Type 0 where
  pub end : ℕ
  pub is : kept ≡ take end text
  pub short : end ≤ most
  pub at_character : IsCharBoundary text end
  pub longest : (i : ℕ) → end < i → i ≤ most → ¬ IsCharBoundary text i
