-- Texts that are kept whole.
use Rattle.std.proofs.Common.{◌≡◌, ◌⊎◌, inl, inr, ℕ, ◌<◌, ◌≤◌, List, length, ◌∙◌, take_all}
use Rattle.std.proofs.lemmas.Bool.{cases_lt}
use Rattle.std.proofs.lemmas.Str.{IsCharBoundary-end}
use Rattle.dagcbor_core.specs.Texts.{IsKept}

-- a text that has no more bytes than are kept is kept whole
pub kept_whole : {most : ℕ} {kept text : List ℕ} → IsKept most kept text → length text ≤ most → kept ≡ text
kept_whole {most} {kept} {text} k short = by (cases_lt k.end (length text))
  where
    by : (k.end < length text) ⊎ (length text ≤ k.end) → kept ≡ text
    by (inl less) = absurd (k.longest (length text) less short (IsCharBoundary-end text))
    by (inr more) = k.is ∙ take_all k.end text more
