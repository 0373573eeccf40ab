use Rattle.std.proofs.Common.{ℕ, List, string_bytes, MatchOption, sym, subst}
use Rattle.program_sections.specs.SplitWords.{AreSizeAndFiles}
use Rattle.program_sections.proofs.Wording.{three_words}
use Rattle.program_sections.proofs.split_words.size_and_files.Goals as goal

pub returns-in-len3 : goal.returns-in-len3
returns-in-len3 c =
    let all = three_words string_bytes c.args.args.now c.text-item.result c.file-item.result c.prefix-item.result c.as_str.result.now c.as_str-in-len3.result.now c.as_str-in-len3-2.result.now c.in-len3.len_at_least c.in-len3.len_below c.text-item.is c.file-item.is c.prefix-item.is c.as_str.ensures.value c.as_str-in-len3.ensures.value c.as_str-in-len3-2.ensures.value in
    subst (λ words. MatchOption c.sized.result ((size : ℕ) (file prefix : List ℕ) → ¬ AreSizeAndFiles words size file prefix) (λ p. AreSizeAndFiles words p.0 p.1.now p.2.now)) (sym all) c.sized.ensures
