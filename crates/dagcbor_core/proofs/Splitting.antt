-- Bytes that are all in memory, split after a number or a head.
use Rattle.std.proofs.Common.{◌≡◌, ℕ, ◌+◌, ◌*◌, ◌/◌, ◌%◌, ◌<◌, ◌≤◌, List, ◌∷◌, ◌++◌, length, take, drop, sym, ap, ap₂, ◌∙◌, subst, arith, length-append, take-append-drop}
use Rattle.std.specs.Int.{bytes_high_first}
use Rattle.dagcbor_core.specs.Head.{head}
use Rattle.dagcbor_core.specs.Causes.{argument_width, least_argument}
use Rattle.dagcbor_core.specs.Splits.{SplitsNumber, SplitsHead, BeginsWithHead}
use Rattle.dagcbor_core.proofs.Heads.{head_first, length-bytes_high_first, same_of_bytes}
use Rattle.dagcbor_core.proofs.HeadForms.{Begins, begins, small_head, wide_head}

pub number_split : (width n : ℕ) (b number rest : List ℕ) → bytes_high_first width n ≡ number → number ≡ take width b → rest ≡ drop width b → b ≡ bytes_high_first width n ++ rest
number_split width n b number rest is front back = sym (take-append-drop width b) ∙ ap₂ (λ x y. x ++ y) (sym (is ∙ front)) (sym back)

pub small_split : (first n : ℕ) (b rest : List ℕ) → first < 256 → first % 32 < 24 → n ≡ first % 32 → b ≡ first ∷ rest → SplitsHead b (first / 32) n rest
small_split first n b rest byte small is e = (omega arith, omega (arith, is), e ∙ ap (λ x. x ++ rest) (sym (small_head first small)) ∙ ap (λ m. head (first / 32) m ++ rest) (sym is))

pub wide_split : (first n least : ℕ) (b following rest : List ℕ) → first < 256 → 24 ≤ first % 32 → first % 32 ≤ 27 → least ≡ least_argument (argument_width (first % 32)) → least ≤ n
    → b ≡ first ∷ following → SplitsNumber (argument_width (first % 32)) following n rest → SplitsHead b (first / 32) n rest
wide_split first n least b following rest byte low high is fits e h =
    (omega arith, h.1, e ∙ ap (λ x. first ∷ x) h.2 ∙ ap (λ x. x ++ rest) (sym (wide_head first n low high (subst (λ x. x ≤ n) is fits) h.0)))

-- ---- bytes that do not begin with a whole head

pub no_head_nowhere : (b : List ℕ) → length b ≡ 0 → ¬ BeginsWithHead b
no_head_nowhere b none h =
    let f = head_first h.0 h.1 h.3.1 in
    let is : b ≡ (32 * h.0 + f.0) ∷ (f.1 ++ h.2) = h.3.2 ∙ ap (λ x. x ++ h.2) f.3 in
    omega (arith, none, ap length is)

-- the first byte of a head at the front, and the bytes after it
head_begins : (first : ℕ) (b following : List ℕ) → b ≡ first ∷ following → (h : BeginsWithHead b) → Begins first following h.0 h.1 h.2
head_begins first b following e h = begins first following h.0 h.1 h.2 h.3.1 (sym e ∙ h.3.2)

pub no_defined_head : (first : ℕ) (b following : List ℕ) → b ≡ first ∷ following → 27 < first % 32 → ¬ BeginsWithHead b
no_defined_head first b following e past h = omega (arith, past, (head_begins first b following e h).defined)

pub no_whole_head : (first : ℕ) (b following : List ℕ) → b ≡ first ∷ following → length following < argument_width (first % 32) → ¬ BeginsWithHead b
no_whole_head first b following e few h =
    let k = head_begins first b following e h in
    let wide = argument_width (first % 32) in
    omega (arith, few, ap length k.following, length-append (bytes_high_first wide h.1) h.2, length-bytes_high_first wide h.1)

pub no_short_head : (first n : ℕ) (b following rest : List ℕ) → b ≡ first ∷ following → 24 ≤ first % 32 → SplitsNumber (argument_width (first % 32)) following n rest → n < least_argument (argument_width (first % 32)) → ¬ BeginsWithHead b
no_short_head first n b following rest e wide s long h =
    let k = head_begins first b following e h in
    let same = same_of_bytes (argument_width (first % 32)) n h.1 rest h.2 s.0 (k.fits wide) (sym s.2 ∙ k.following) in
    omega (arith, same, long, k.least)
