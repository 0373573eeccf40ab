use Rattle.std.proofs.Common.{◌≡◌, ◌++◌, ◌∷◌, decimal, IfOk, string_bytes, sym, subst, rules}
use Rattle.hex.specs.Hex.{encode_lower}
use Rattle.program_parts.specs.Lines.{line}
use Rattle.program_inspect.specs.Facts.{code_text}
use Rattle.program_dagcar_files.specs.Indexes.{entry_line}
use Rattle.program_dagcar_files.proofs.Indexed.{text_of_both}
use Rattle.program_dagcar_files.proofs.texts.entry_text.Goals as goal

pub returns-in-ByWidth : goal.returns-in-ByWidth
returns-in-ByWidth c = subst (λ f. IfOk c.width_line.result (λ t. string_bytes t ≡ entry_line f c.args.entry.now)) (sym c.in-ByWidth.is)
    (text_of_both (λ o d. line (decimal o ++ (32 ∷ d))) c.width_line.result c.offset.result c.args.entry.now.offset c.as_str.result.now _ c.offset.ensures (search rules) c.width_line.ensures)

pub returns : goal.returns
returns c =
    let code : c.as_str-in-ByMultihash.result.now ≡ code_text c.args.entry.now.hash_code = search rules in
    let digest : c.as_str-in-ByMultihash-2.result.now ≡ encode_lower c.args.entry.now.digest = search rules in
    subst (λ f. IfOk c.code_line.result (λ t. string_bytes t ≡ entry_line f c.args.entry.now)) (sym c.in-ByMultihash.is)
    (text_of_both (λ o d. line (decimal o ++ (32 ∷ (code_text c.args.entry.now.hash_code ++ (32 ∷ d))))) c.code_line.result c.offset-in-ByMultihash.result c.args.entry.now.offset c.as_str-in-ByMultihash-2.result.now (encode_lower c.args.entry.now.digest) c.offset-in-ByMultihash.ensures digest
    (subst (λ k. IfOk c.code_line.result (λ t. string_bytes t ≡ line (decimal c.offset-in-ByMultihash.result ++ (32 ∷ (k ++ (32 ∷ c.as_str-in-ByMultihash-2.result.now)))))) code c.code_line.ensures))
