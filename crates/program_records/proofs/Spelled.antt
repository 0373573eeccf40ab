-- Keys that are read of words.
use Rattle.std.proofs.Common.{◌≡◌, ◌≢◌, ℕ, ◌+◌, ◌-◌, ◌<◌, ◌≤◌, List, [], ◌∷◌, ◌++◌, length, take, drop, append_assoc, append-nil, refl, sym, ap, ◌∙◌, arith}
use Rattle.std.proofs.Math.Seq.{drop-append_seam}
use Rattle.std.proofs.lemmas.List.{length-drop, drop-drop, take_all}
use Rattle.text_cid.specs.Alphabets.{AreBytes}
use Rattle.program_records.specs.Keys.{upper_digit, key_byte, key_text}
use Rattle.program_records.proofs.Wording.{not_nothing}

-- ---- a digit

-- no value below it has this digit
abbrev pub NoneBelow : ℕ → ℕ → Type 0
NoneBelow value character = (m : ℕ) → m < value → upper_digit m ≢ character

-- ---- the whole text

-- of any key with this text these bytes were read, and the rest is the text of its other bytes
abbrev pub ReadsKey : List ℕ → List ℕ → ℕ → Type 0
ReadsKey text found at = (key : List ℕ) → AreBytes key → text ≡ key_text key
    → (more : List ℕ) × AreBytes more × (key ≡ found ++ more) × (drop at text ≡ key_text more)

pub rest_all : (i : ℕ) (l : List ℕ) → take (length l - i) (drop i l) ≡ drop i l
rest_all i l = take_all (length l - i) (drop i l) (omega (arith, length-drop i l))

pub reads_on : (text found new : List ℕ) (at size byte : ℕ) → at < length text → ReadsKey text found at → new ≡ found ++ byte ∷ []
    → ((b : ℕ) (more : List ℕ) → b < 256 → drop at text ≡ key_byte b ++ more → (byte ≡ b) × (size ≡ length (key_byte b))) → ReadsKey text new (at + size)
reads_on text found new at size byte within reads pushed front key are is = by (reads key are is)
  where
    by : (more : List ℕ) × AreBytes more × (key ≡ found ++ more) × (drop at text ≡ key_text more)
        → (more : List ℕ) × AreBytes more × (key ≡ new ++ more) × (drop (at + size) text ≡ key_text more)
    by ([], bytes, all, rest) = absurd (omega (arith, within, length-drop at text, ap length rest))
    by (c ∷ cs, bytes, all, rest) =
        let h = front c (key_text cs) bytes.0 rest in (
          cs,
          bytes.1,
          all ∙ sym (append_assoc found (c ∷ []) cs) ∙ ap (λ b. (found ++ b ∷ []) ++ cs) (sym h.0) ∙ ap (λ l. l ++ cs) (sym pushed),
          sym (drop-drop size at text) ∙ ap (drop size) rest ∙ ap (λ n. drop n (key_byte c ++ key_text cs)) h.1 ∙ drop-append_seam (key_byte c) (key_text cs),
        )

pub reads_end : (text found : List ℕ) (at : ℕ) → length text ≤ at → ReadsKey text found at → (key : List ℕ) → AreBytes key → text ≡ key_text key → found ≡ key
reads_end text found at done reads key are is = by (reads key are is)
  where
    none : (l : List ℕ) → length l ≡ 0 → [] ≡ l
    none [] h = refl
    none (x ∷ l) h = absurd (omega (arith, h))

    by : (more : List ℕ) × AreBytes more × (key ≡ found ++ more) × (drop at text ≡ key_text more) → found ≡ key
    by ([], bytes, all, rest) = sym (append-nil found) ∙ sym all
    by (c ∷ cs, bytes, all, rest) = absurd (not_nothing c (key_text cs) (none (drop at text) (omega (arith, length-drop at text, done)) ∙ rest))
