use Rattle.std.proofs.Common.{◌++◌, ◌∷◌, decimal, rules}
use Rattle.program_parts.specs.Lines.{line}
use Rattle.program_dagcar_files.proofs.Indexed.{text_of_both}
use Rattle.program_dagcar_files.proofs.texts.finding_text.Goals as goal

pub returns : goal.returns
returns c = text_of_both (λ o d. line (c.args.word.now ++ (32 ∷ (decimal o ++ (32 ∷ d))))) c.word_line.result c.offset.result c.args.entry.now.offset c.as_str.result.now _ c.offset.ensures (search rules) c.word_line.ensures
