-- The words of `index FILE`, of `--index`, of the commands that make files of sections, and of
-- those about a commit are no other command.
use Rattle.std.proofs.Common.{◌≡◌, ℕ, ◌+◌, ◌*◌, ◌≤◌, List, [], ap, sym, ◌∙◌, get_or, arith, codes, length, Option, None, Some}
use Rattle.program_dagcar.specs.Commands.{command_name, IsCommand}
use Rattle.program_dagcar.specs.declared.command.Command.{Command}
use Rattle.program_dagcar.specs.declared.command.Command.TheVariants as commands
use Rattle.ipld_tree.specs.Cid.{CidParts}
use Rattle.program_sections.specs.Words.{IsFilter, IsMerge}
use Rattle.program_sections.specs.SplitWords.{IsSplit}
use Rattle.program_sections.specs.declared.words.By.{By}
use Rattle.program_records.specs.CommitWords.{AreCommitWords}
use Rattle.program_records.specs.declared.commit_words.CommitAsked.{CommitAsked}
use Rattle.program_records.specs.declared.commit_words.CommitAsked.TheVariants as commit
use Rattle.program_dagcar_files.specs.Words.{IsIndex}
use Rattle.program_dagcar_files.specs.IndexWords.{AreIndexWords}
use Rattle.program_dagcar_files.specs.declared.index_words.IndexAsked.{IndexAsked}
use Rattle.program_dagcar_files.specs.declared.index_words.IndexAsked.TheVariants as asks

-- the first two letters of the first of the words, as a number
abbrev letters_of : List ℕ → ℕ
letters_of word = get_or word 0 0 + 256 * get_or word 1 0

abbrev first_letters : List (List ℕ) → ℕ
first_letters words = letters_of (get_or words 0 [])

first_of : (words : List (List ℕ)) (c : Command) → IsCommand words c → first_letters words ≡ letters_of (command_name c)
first_of words (commands.Get name) h = ap first_letters h.1
first_of words (commands.Tree name) h = ap first_letters h.1
first_of words (commands.At name) h = ap first_letters h.1
first_of words (commands.Prove name) h = ap first_letters h.1
first_of words (commands.Ls name) h = ap first_letters h.1
first_of words (commands.Cat name) h = ap first_letters h.1
first_of words (commands.Raw name) h = ap first_letters h.1
first_of words commands.Summary h = ap first_letters h
first_of words commands.Record h = ap first_letters h.1
first_of words c h = ap first_letters h

other_letters : (c : Command) → letters_of (codes "index") ≡ letters_of (command_name c) → ⊥
other_letters (commands.Raw n) e = omega (arith, e)
other_letters c e = omega (arith, e)

pub index_apart : (words : List (List ℕ)) (file : List ℕ) (c : Command) → IsIndex words file → IsCommand words c → ⊥
index_apart words file c h k = other_letters c (sym (ap first_letters h.0) ∙ first_of words c k)

-- the words about an index are three; a command has fewer, or another first word
pub index_words_apart : (words : List (List ℕ)) (asked : IndexAsked) (file : List ℕ) (c : Command) → AreIndexWords words asked file → IsCommand words c → ⊥
index_words_apart words asked file (commands.Get name) h k = omega (arith, ap length h.0, ap length k.1)
index_words_apart words asked file (commands.Tree name) h k = omega (arith, ap length h.0, ap length k.1)
index_words_apart words asked file (commands.At name) h k = omega (arith, ap length h.0, ap length k.1)
index_words_apart words asked file (commands.Prove name) h k = omega (arith, ap length h.0, ap length k.1)
index_words_apart words asked file (commands.Ls name) h k = omega (arith, ap length h.0, ap length k.1)
index_words_apart words asked file (commands.Cat name) h k = omega (arith, ap length h.0, ap length k.1)
index_words_apart words asks.Entries file (commands.Raw name) h k = omega (arith, ap first_letters h.0, ap first_letters k.1)
index_words_apart words asks.Judgement file (commands.Raw name) h k = omega (arith, ap first_letters h.0, ap first_letters k.1)
index_words_apart words asked file commands.Summary h k = omega (arith, ap length h.0, ap length k)
index_words_apart words asked file commands.Record h k = omega (arith, ap length h.0, ap length k.1)
index_words_apart words asked file c h k = omega (arith, ap length h.0, ap length k)

other_filter : (c : Command) → letters_of (codes "filter") ≡ letters_of (command_name c) → ⊥
other_filter (commands.Raw n) e = omega (arith, e)
other_filter c e = omega (arith, e)

pub filter_apart : (words : List (List ℕ)) (roots : List CidParts) (by : By) (file : Option (List ℕ)) (c : Command) → IsFilter words roots by file → IsCommand words c → ⊥
filter_apart words roots by file c h k = other_filter c (sym (ap first_letters h.1) ∙ first_of words c k)

other_merge : (c : Command) → letters_of (codes "merge") ≡ letters_of (command_name c) → ⊥
other_merge (commands.Raw n) e = omega (arith, e)
other_merge c e = omega (arith, e)

pub merge_apart : (words : List (List ℕ)) (roots : List CidParts) (files : List (List ℕ)) (c : Command) → IsMerge words roots files → IsCommand words c → ⊥
merge_apart words roots files c h k = other_merge c (sym (ap first_letters h.1) ∙ first_of words c k)

length_of_first : (words : List (List ℕ)) (c : Command) → IsCommand words c → length (get_or words 0 []) ≡ length (command_name c)
length_of_first words (commands.Get name) h = ap (λ w. length (get_or w 0 [])) h.1
length_of_first words (commands.Tree name) h = ap (λ w. length (get_or w 0 [])) h.1
length_of_first words (commands.At name) h = ap (λ w. length (get_or w 0 [])) h.1
length_of_first words (commands.Prove name) h = ap (λ w. length (get_or w 0 [])) h.1
length_of_first words (commands.Ls name) h = ap (λ w. length (get_or w 0 [])) h.1
length_of_first words (commands.Cat name) h = ap (λ w. length (get_or w 0 [])) h.1
length_of_first words (commands.Raw name) h = ap (λ w. length (get_or w 0 [])) h.1
length_of_first words commands.Summary h = ap (λ w. length (get_or w 0 [])) h
length_of_first words commands.Record h = ap (λ w. length (get_or w 0 [])) h.1
length_of_first words c h = ap (λ w. length (get_or w 0 [])) h

other_commit : (c : Command) → letters_of (codes "commit") ≡ letters_of (command_name c) → ⊥
other_commit (commands.Raw n) e = omega (arith, e)
other_commit c e = omega (arith, e)

-- no command's word is as long
other_proof : (c : Command) → length (codes "record-proof") ≡ length (command_name c) → ⊥
other_proof (commands.Raw n) e = omega (arith, e)
other_proof c e = omega (arith, e)

-- `records` alone is a command of one word, and no other command's word is as long
other_records : (words : List (List ℕ)) (c : Command) → IsCommand words c → length (codes "records") ≡ length (get_or words 0 []) → 2 ≤ length words → ⊥
other_records words commands.Records k e least = omega (arith, ap length k, least)
other_records words (commands.Raw n) k e least = omega (arith, e, length_of_first words (commands.Raw n) k)
other_records words c k e least = omega (arith, e, length_of_first words c k)

pub commit_apart : (words : List (List ℕ)) (asked : CommitAsked) (file : Option (List ℕ)) (c : Command) → AreCommitWords words asked file → IsCommand words c → ⊥
commit_apart words commit.Commit None c h k = other_commit c (sym (ap first_letters h) ∙ first_of words c k)
commit_apart words commit.Commit (Some file) c h k = other_commit c (sym (ap first_letters h) ∙ first_of words c k)
commit_apart words (commit.Proof key) None c h k = other_proof c (sym (ap (λ w. length (get_or w 0 [])) h) ∙ length_of_first words c k)
commit_apart words (commit.Proof key) (Some file) c h k = other_proof c (sym (ap (λ w. length (get_or w 0 [])) h) ∙ length_of_first words c k)
commit_apart words commit.Records None c h k = other_records words c k (sym (ap (λ w. length (get_or w 0 [])) h)) (omega (arith, ap length h))
commit_apart words commit.Records (Some file) c h k = other_records words c k (sym (ap (λ w. length (get_or w 0 [])) h)) (omega (arith, ap length h))

other_split : (c : Command) → letters_of (codes "split") ≡ letters_of (command_name c) → ⊥
other_split (commands.Raw n) e = omega (arith, e)
other_split c e = omega (arith, e)

pub split_apart : (words : List (List ℕ)) (roots : List CidParts) (size : ℕ) (file prefix : List ℕ) (c : Command) → IsSplit words roots size file prefix → IsCommand words c → ⊥
split_apart words roots size file prefix c h k = other_split c (sym (ap first_letters h.1) ∙ first_of words c k)
