use Rattle.std.proofs.Common.{rules, ◌≡◌, codes, sym, subst}
use Rattle.text_cid.specs.Texts.{IsTextOf}
use Rattle.program_dagcar.proofs.Running.{no_word, words_on, at_root, prove_root, ls_root, cat_root, record_key, check_words, is_word, is_other}
use Rattle.program_dagcar.proofs.command.command_on_text.Goals as goal

pub returns-then-eq : goal.returns-then-eq
returns-then-eq c = at_root c.args.word.now c.args.text.now c.in_ok-root_in.field-0 (is_word (codes "at") c.args.word.now _ c.eq.ensures c.if-eq.true) c.in_ok-root_in.ensures

pub returns-then-eq-2 : goal.returns-then-eq-2
returns-then-eq-2 c = prove_root c.args.word.now c.args.text.now c.in_ok-root_in-2.field-0 (is_word (codes "prove") c.args.word.now _ c.eq-2.ensures c.if-eq-2.true) c.in_ok-root_in-2.ensures

pub returns-then-eq-3 : goal.returns-then-eq-3
returns-then-eq-3 c = ls_root c.args.word.now c.args.text.now c.in_ok-root_in-3.field-0 (is_word (codes "ls") c.args.word.now _ c.eq-3.ensures c.if-eq-3.true) c.in_ok-root_in-3.ensures

pub returns-then-eq-4 : goal.returns-then-eq-4
returns-then-eq-4 c = cat_root c.args.word.now c.args.text.now c.in_ok-root_in-4.field-0 (is_word (codes "cat") c.args.word.now _ c.eq-4.ensures c.if-eq-4.true) c.in_ok-root_in-4.ensures

pub returns-then-eq-5 : goal.returns-then-eq-5
returns-then-eq-5 c = check_words c.args.word.now c.args.text.now c.check_with.result (is_word (codes "check") c.args.word.now _ c.eq-5.ensures c.if-eq-5.true) c.check_with.ensures

pub returns-then-eq-6 : goal.returns-then-eq-6
returns-then-eq-6 c = record_key c.args.word.now c.args.text.now (is_word (codes "record") c.args.word.now _ c.eq-6.ensures c.if-eq-6.true)

pub returns-in-Ok : goal.returns-in-Ok
returns-in-Ok c =
    let same : c.as_bytes.result.now ≡ c.args.text.now = search rules in
    words_on c.args.word.now c.args.text.now c.in-Ok.name c.command_on.result (is_other (codes "at") c.args.word.now _ c.eq.ensures c.if-eq.false) (is_other (codes "prove") c.args.word.now _ c.eq-2.ensures c.if-eq-2.false) (is_other (codes "ls") c.args.word.now _ c.eq-3.ensures c.if-eq-3.false) (is_other (codes "cat") c.args.word.now _ c.eq-4.ensures c.if-eq-4.false) (is_other (codes "check") c.args.word.now _ c.eq-5.ensures c.if-eq-5.false) (is_other (codes "record") c.args.word.now _ c.eq-6.ensures c.if-eq-6.false)
    (subst (λ t. IsTextOf t c.in-Ok.name) same c.in-Ok.ensures) c.command_on.ensures

pub returns-in-Err : goal.returns-in-Err
returns-in-Err c =
    let same : c.as_bytes.result.now ≡ c.args.text.now = search rules in
    no_word c.args.word.now c.args.text.now (is_other (codes "at") c.args.word.now _ c.eq.ensures c.if-eq.false) (is_other (codes "prove") c.args.word.now _ c.eq-2.ensures c.if-eq-2.false) (is_other (codes "ls") c.args.word.now _ c.eq-3.ensures c.if-eq-3.false) (is_other (codes "cat") c.args.word.now _ c.eq-4.ensures c.if-eq-4.false) (is_other (codes "check") c.args.word.now _ c.eq-5.ensures c.if-eq-5.false) (is_other (codes "record") c.args.word.now _ c.eq-6.ensures c.if-eq-6.false)
    (λ n w t. c.in-Err.ensures.0 n (subst (λ x. IsTextOf x n) (sym same) t))
