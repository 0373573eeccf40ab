-- Which line makes which request.
use Rattle.std.proofs.Common.{◌≡◌, ◌==◌, ◌+◌, ◌*◌, ℕ, List, length, get_or, refl, sym, ap, ◌∙◌, subst, cond, Option, None, Some, MatchOption, IsUtf8}
use Rattle.program_serve.specs.Requests.{word_text, first_word, after_word, Means, AsksFor}
use Rattle.program_serve.specs.declared.word.Word.{Word}
use Rattle.program_serve.specs.declared.word.Word.TheVariants as words
use Rattle.program_serve.specs.declared.asked.Asked.{Asked}

-- ---- words

-- a number for each word, different for each
abbrev mark : List ℕ → ℕ
mark word = get_or word 0 0 + 1000 * length word

abbrev of_mark : ℕ → Word
of_mark n = cond (n == 3103) words.Get (cond (n == 3104) words.Has (cond (n == 3112) words.Put (cond (n == 3097) words.Add
    (cond (n == 6114) words.Remove (cond (n == 4110) words.Next (cond (n == 5099) words.Count (cond (n == 5114) words.Roots
    (cond (n == 8097) words.AddRoot (cond (n == 9100) words.DropRoot (cond (n == 6099) words.Commit (cond (n == 8114) words.Rollback
    (cond (n == 6105) words.Import words.Export))))))))))))

told_back : (w : Word) → of_mark (mark (word_text w)) ≡ w
told_back words.Get = refl
told_back words.Has = refl
told_back words.Put = refl
told_back words.Add = refl
told_back words.Remove = refl
told_back words.Next = refl
told_back words.Count = refl
told_back words.Roots = refl
told_back words.AddRoot = refl
told_back words.DropRoot = refl
told_back words.Commit = refl
told_back words.Rollback = refl
told_back words.Import = refl
told_back words.Export = refl

same_word : (v w : Word) → word_text v ≡ word_text w → v ≡ w
same_word v w e = sym (told_back v) ∙ ap (λ t. of_mark (mark t)) e ∙ told_back w

-- a line with this word makes no request if the word means nothing with the text after it
pub asks_nothing : (line : List ℕ) (word : Word) → first_word line ≡ word_text word → ((asked : Asked) → ¬ Means word (after_word line) asked) → (asked : Asked) → ¬ AsksFor line asked
asks_nothing line word is none asked h = none asked (subst (λ w. Means w (after_word line) asked) (same_word h.1.0 word (sym h.1.1 ∙ is)) h.1.2)

pub asks : (line text first rest : List ℕ) (word : Word) (o : Option Asked) → IsUtf8 line → text ≡ line → first ≡ first_word text → rest ≡ after_word text → first ≡ word_text word
    → MatchOption o ((asked : Asked) → ¬ Means word rest asked) (Means word rest) → MatchOption o ((asked : Asked) → ¬ AsksFor line asked) (AsksFor line)
asks line text first rest word None utf8 same is following named h =
    asks_nothing line word (ap first_word (sym same) ∙ sym is ∙ named) (λ asked m. h asked (subst (λ r. Means word r asked) (ap after_word (sym same) ∙ sym following) m))
asks line text first rest word (Some asked) utf8 same is following named h =
    (utf8, (word, ap first_word (sym same) ∙ sym is ∙ named, subst (λ r. Means word r asked) (following ∙ ap after_word same) h))
