-- What a run of a command says, if the bytes of its input are known.
use Rattle.std.proofs.Common.{◌≡◌, ◌≢◌, ◌⊎◌, inl, inr, ℕ, List, [], ◌∷◌, length, ◌+◌, ◌*◌, Bool, true, false, arith, map, ◌<◌, ◌≤◌, ap₂, refl, sym, ap, ◌∙◌, subst, get_or, Option, None, Some, MatchOption, codes, if◌then◌else◌, ◌==◌}
use Rattle.std.specs.Prelude.{⊤}
use Rattle.std.specs.Str.{bytes_eq}
use Rattle.std.proofs.lemmas.Slice.Eq.{bytes_eq-Decides}
use Rattle.ipld_tree.specs.Cid.{CidParts}
use Rattle.text_cid.specs.Texts.{IsTextOf, TextsTellCids}
use Rattle.program_dagcar.specs.Commands.{command_name, IsWordOf, IsRootOf, IsCommand, IsCommandOn, IsChanges}
use Rattle.program_parts.specs.Paths.{name_part}
use Rattle.program_dagcar.specs.declared.command.Command.{Command}
use Rattle.program_dagcar.specs.declared.command.Command.TheVariants as commands

-- the command of one word whose name begins with this letter
abbrev by_letter : ℕ → ℕ → Command
by_letter letter third = if letter == 99 then commands.Check else (if letter == 118 then commands.Verify else (if letter == 108 then commands.List else (if letter == 110 then commands.Name else (if letter == 111 then commands.One else (if letter == 115 then commands.Show else (if letter == 109 then commands.Make else (if letter == 114 then commands.Records else (if third == 104 then commands.Help else commands.Version))))))))

abbrev first_letter : List (List ℕ) → ℕ
first_letter words = get_or (get_or words 0 []) 0 0

abbrev by_words : List (List ℕ) → Command
by_words words = by_letter (first_letter words) (get_or (get_or words 0 []) 2 0)

-- the command is of one word
abbrev IsPlain : Command → Type 0
IsPlain (commands.Get name) = ⊥
IsPlain (commands.Tree name) = ⊥
IsPlain (commands.At name) = ⊥
IsPlain (commands.Raw name) = ⊥
IsPlain (commands.Prove name) = ⊥
IsPlain (commands.Ls name) = ⊥
IsPlain (commands.Cat name) = ⊥
IsPlain commands.Record = ⊥
IsPlain commands.Summary = ⊥
IsPlain _ = ⊤

by_name : (c : Command) → IsPlain c → by_words (command_name c ∷ []) ≡ c
by_name commands.Check p = refl
by_name commands.Verify p = refl
by_name commands.Help p = refl
by_name commands.Version p = refl
by_name commands.List p = refl
by_name commands.Name p = refl
by_name commands.One p = refl
by_name commands.Show p = refl
by_name commands.Make p = refl
by_name commands.Records p = refl
by_name (commands.Get name) p = absurd p
by_name (commands.Tree name) p = absurd p
by_name (commands.At name) p = absurd p
by_name (commands.Raw name) p = absurd p
by_name (commands.Prove name) p = absurd p
by_name (commands.Ls name) p = absurd p
by_name (commands.Cat name) p = absurd p
by_name commands.Summary p = absurd p
by_name commands.Record p = absurd p

same_name : TextsTellCids → (words : List (List ℕ)) (word other : List ℕ) (n m : CidParts) → IsWordOf words word n → IsWordOf words other m → n ≡ m
same_name law words word other n m h k = law h.0 n m h.2 (subst (λ t. IsTextOf t m) (ap (λ ws. get_or ws 1 []) (sym k.1 ∙ h.1)) k.2)

-- a name before a path
same_root : TextsTellCids → (words : List (List ℕ)) (word : List ℕ) (n m : CidParts) → IsRootOf words word n → IsRootOf words word m → n ≡ m
same_root law words word n m h k = law (name_part h.0) n m h.2 (subst (λ t. IsTextOf (name_part t) m) (ap (λ ws. get_or ws 1 []) (sym k.1 ∙ h.1)) k.2)

same_raw : TextsTellCids → (words : List (List ℕ)) (n m : CidParts) → IsCommand words (commands.Raw n) → IsCommand words (commands.Raw m) → n ≡ m
same_raw law words n m h k = law (name_part h.0) n m h.2 (subst (λ t. IsTextOf (name_part t) m) (ap (λ ws. get_or ws 2 []) (sym k.1 ∙ h.1)) k.2)

-- the first two letters of words, as a number
abbrev letters_of : List ℕ → ℕ
letters_of word = get_or word 0 0 + 256 * get_or word 1 0

abbrev first_letters : List (List ℕ) → ℕ
first_letters words = letters_of (get_or words 0 [])

-- the number of words of a command, and the letters with which the first begins
abbrev count_of : Command → ℕ
count_of (commands.Get name) = 2
count_of (commands.Tree name) = 2
count_of (commands.At name) = 2
count_of (commands.Prove name) = 2
count_of (commands.Ls name) = 2
count_of (commands.Cat name) = 2
count_of (commands.Raw name) = 3
count_of commands.Summary = 2
count_of commands.Record = 2
count_of _ = 1

abbrev letter_of : Command → ℕ
letter_of c = letters_of (command_name c)

counted : (words : List (List ℕ)) (c : Command) → IsCommand words c → (length words ≡ count_of c) × (first_letters words ≡ letter_of c)
counted words (commands.Get name) h = (ap length h.1, ap first_letters h.1)
counted words (commands.Tree name) h = (ap length h.1, ap first_letters h.1)
counted words (commands.At name) h = (ap length h.1, ap first_letters h.1)
counted words (commands.Prove name) h = (ap length h.1, ap first_letters h.1)
counted words (commands.Ls name) h = (ap length h.1, ap first_letters h.1)
counted words (commands.Cat name) h = (ap length h.1, ap first_letters h.1)
counted words (commands.Raw name) h = (ap length h.1, ap first_letters h.1)
counted words commands.Summary h = (ap length h, ap first_letters h)
counted words commands.Record h = (ap length h.1, ap first_letters h.1)
counted words c h = (ap length h, ap first_letters h)

-- two commands for the same words have the same number of words and the same letters
abbrev Differ : Command → Command → Type 0
Differ c d = (count_of c ≡ count_of d) → (letter_of c ≡ letter_of d) → ⊥

never_both : (words : List (List ℕ)) (c d : Command) → Differ c d → IsCommand words c → IsCommand words d → ⊥
never_both words c d differ h k =
    let a = counted words c h in
    let b = counted words d k in
    differ (sym a.0 ∙ b.0) (sym a.1 ∙ b.1)

-- words name one command at most
pub same_command : TextsTellCids → (words : List (List ℕ)) (c d : Command) → IsCommand words c → IsCommand words d → c ≡ d
same_command law words (commands.Get n) (commands.Get m) h k = ap commands.Get (same_name law words (codes "get") (codes "get") n m h k)
same_command law words (commands.Tree n) (commands.Tree m) h k = ap commands.Tree (same_name law words (codes "tree") (codes "tree") n m h k)
same_command law words (commands.At n) (commands.At m) h k = ap commands.At (same_root law words (codes "at") n m h k)
same_command law words (commands.Prove n) (commands.Prove m) h k = ap commands.Prove (same_root law words (codes "prove") n m h k)
same_command law words (commands.Ls n) (commands.Ls m) h k = ap commands.Ls (same_root law words (codes "ls") n m h k)
same_command law words (commands.Cat n) (commands.Cat m) h k = ap commands.Cat (same_root law words (codes "cat") n m h k)
same_command law words (commands.Raw n) (commands.Raw m) h k = ap commands.Raw (same_raw law words n m h k)
same_command law words commands.Summary commands.Summary h k = refl
same_command law words commands.Record commands.Record h k = refl
same_command law words (commands.Get n) d h k = absurd (never_both words (commands.Get n) d (λ e f. omega (arith, e, f)) h k)
same_command law words (commands.Tree n) d h k = absurd (never_both words (commands.Tree n) d (λ e f. omega (arith, e, f)) h k)
same_command law words (commands.At n) d h k = absurd (never_both words (commands.At n) d (λ e f. omega (arith, e, f)) h k)
same_command law words (commands.Prove n) d h k = absurd (never_both words (commands.Prove n) d (λ e f. omega (arith, e, f)) h k)
same_command law words (commands.Ls n) d h k = absurd (never_both words (commands.Ls n) d (λ e f. omega (arith, e, f)) h k)
same_command law words (commands.Cat n) d h k = absurd (never_both words (commands.Cat n) d (λ e f. omega (arith, e, f)) h k)
same_command law words (commands.Raw n) d h k = absurd (never_both words (commands.Raw n) d (λ e f. omega (arith, e, f)) h k)
same_command law words commands.Summary d h k = absurd (never_both words commands.Summary d (λ e f. omega (arith, e, f)) h k)
same_command law words commands.Record d h k = absurd (never_both words commands.Record d (λ e f. omega (arith, e, f)) h k)
same_command law words c (commands.Get m) h k = absurd (never_both words c (commands.Get m) (λ e f. omega (arith, e, f)) h k)
same_command law words c (commands.Tree m) h k = absurd (never_both words c (commands.Tree m) (λ e f. omega (arith, e, f)) h k)
same_command law words c (commands.At m) h k = absurd (never_both words c (commands.At m) (λ e f. omega (arith, e, f)) h k)
same_command law words c (commands.Prove m) h k = absurd (never_both words c (commands.Prove m) (λ e f. omega (arith, e, f)) h k)
same_command law words c (commands.Ls m) h k = absurd (never_both words c (commands.Ls m) (λ e f. omega (arith, e, f)) h k)
same_command law words c (commands.Cat m) h k = absurd (never_both words c (commands.Cat m) (λ e f. omega (arith, e, f)) h k)
same_command law words c (commands.Raw m) h k = absurd (never_both words c (commands.Raw m) (λ e f. omega (arith, e, f)) h k)
same_command law words c commands.Summary h k = absurd (never_both words c commands.Summary (λ e f. omega (arith, e, f)) h k)
same_command law words c commands.Record h k = absurd (never_both words c commands.Record (λ e f. omega (arith, e, f)) h k)
same_command law words c d h k = sym (by_name c tt) ∙ ap by_words (sym h ∙ k) ∙ by_name d tt

three_of_changes : (c : Command) → 3 ≡ count_of c → letters_of (codes "changes") ≡ letter_of c → ⊥
three_of_changes (commands.Raw n) e f = omega (arith, f)
three_of_changes c e f = omega (arith, e)

-- the words of `changes` are no other command
pub changes_apart : (words : List (List ℕ)) (old new : List ℕ) (c : Command) → IsChanges words old new → IsCommand words c → ⊥
changes_apart words old new c h k = three_of_changes c (sym (ap length h.0) ∙ (counted words c k).0) (sym (ap first_letters h.0) ∙ (counted words c k).1)

-- ---- which words are not a command

-- a word and a text
pub no_word : (word text : List ℕ) → word ≢ codes "at" → word ≢ codes "prove" → word ≢ codes "ls" → word ≢ codes "cat" → word ≢ codes "check" → word ≢ codes "record" → ((n : CidParts) → ((word ≡ codes "get") ⊎ (word ≡ codes "tree")) → IsTextOf text n → ⊥) → (c : Command) → IsCommand (word ∷ text ∷ []) c → ⊥
no_word word text no_at no_prove no_ls no_cat no_check no_record other (commands.Get n) h = other n (inl (ap (λ ws. get_or ws 0 []) h.1)) (subst (λ t. IsTextOf t n) (sym (ap (λ ws. get_or ws 1 []) h.1)) h.2)
no_word word text no_at no_prove no_ls no_cat no_check no_record other (commands.Tree n) h = other n (inr (ap (λ ws. get_or ws 0 []) h.1)) (subst (λ t. IsTextOf t n) (sym (ap (λ ws. get_or ws 1 []) h.1)) h.2)
no_word word text no_at no_prove no_ls no_cat no_check no_record other (commands.At n) h = no_at (ap (λ ws. get_or ws 0 []) h.1)
no_word word text no_at no_prove no_ls no_cat no_check no_record other (commands.Prove n) h = no_prove (ap (λ ws. get_or ws 0 []) h.1)
no_word word text no_at no_prove no_ls no_cat no_check no_record other (commands.Ls n) h = no_ls (ap (λ ws. get_or ws 0 []) h.1)
no_word word text no_at no_prove no_ls no_cat no_check no_record other (commands.Cat n) h = no_cat (ap (λ ws. get_or ws 0 []) h.1)
no_word word text no_at no_prove no_ls no_cat no_check no_record other commands.Summary h = no_check (ap (λ ws. get_or ws 0 []) h)
no_word word text no_at no_prove no_ls no_cat no_check no_record other commands.Record h = no_record (ap (λ ws. get_or ws 0 []) h.1)
no_word word text no_at no_prove no_ls no_cat no_check no_record other c h = let two = (counted (word ∷ text ∷ []) c h).0 in absurd (omega (arith, two))

pub word_on : (word text : List ℕ) (n : CidParts) (c : Command) → IsTextOf text n → IsCommandOn word n c → IsCommand (word ∷ text ∷ []) c
word_on word text n c is (inl k) = subst (IsCommand (word ∷ text ∷ [])) (sym k.1) (text, ap (λ w. w ∷ text ∷ []) k.0, is)
word_on word text n c is (inr k) = subst (IsCommand (word ∷ text ∷ [])) (sym k.1) (text, ap (λ w. w ∷ text ∷ []) k.0, is)

-- the command that words are, if they are one
abbrev pub IsCommandOf : List (List ℕ) → Option Command → Type 0
IsCommandOf words o = MatchOption o ((c : Command) → IsCommand words c → ⊥) (λ c. IsCommand words c)

-- the command that a word and a text are
pub words_on : (word text : List ℕ) (n : CidParts) (o : Option Command) → word ≢ codes "at" → word ≢ codes "prove" → word ≢ codes "ls" → word ≢ codes "cat" → word ≢ codes "check" → word ≢ codes "record" → IsTextOf text n → MatchOption o ((word ≢ codes "get") × (word ≢ codes "tree")) (IsCommandOn word n) → IsCommandOf (word ∷ text ∷ []) o
words_on word text n None no_at no_prove no_ls no_cat no_check no_record is h = no_word word text no_at no_prove no_ls no_cat no_check no_record (λ m w t. elim w [ inl g ↦ h.0 g | inr r ↦ h.1 r ])
words_on word text n (Some c) no_at no_prove no_ls no_cat no_check no_record is h = word_on word text n c is h

-- the word `at` and a text
pub at_root : (word text : List ℕ) (n : CidParts) → word ≡ codes "at" → IsTextOf (name_part text) n → IsCommand (word ∷ text ∷ []) (commands.At n)
at_root word text n at is = (text, ap (λ w. w ∷ text ∷ []) at, is)

-- the word `prove` and a text
pub prove_root : (word text : List ℕ) (n : CidParts) → word ≡ codes "prove" → IsTextOf (name_part text) n → IsCommand (word ∷ text ∷ []) (commands.Prove n)
prove_root word text n prove is = (text, ap (λ w. w ∷ text ∷ []) prove, is)

-- the word `ls` and a text
pub ls_root : (word text : List ℕ) (n : CidParts) → word ≡ codes "ls" → IsTextOf (name_part text) n → IsCommand (word ∷ text ∷ []) (commands.Ls n)
ls_root word text n ls is = (text, ap (λ w. w ∷ text ∷ []) ls, is)

-- the word `cat` and a text
pub cat_root : (word text : List ℕ) (n : CidParts) → word ≡ codes "cat" → IsTextOf (name_part text) n → IsCommand (word ∷ text ∷ []) (commands.Cat n)
cat_root word text n cat is = (text, ap (λ w. w ∷ text ∷ []) cat, is)

-- the word `record` and a key
pub record_key : (word text : List ℕ) → word ≡ codes "record" → IsCommand (word ∷ text ∷ []) commands.Record
record_key word text is = (text, ap (λ w. w ∷ text ∷ []) is)

-- the word `check` and an option
pub check_words : (word text : List ℕ) (o : Option Command) → word ≡ codes "check" → MatchOption o (text ≢ codes "--summary") (λ c. (c ≡ commands.Summary) × (text ≡ codes "--summary")) → IsCommandOf (word ∷ text ∷ []) o
check_words word text (Some c) is h = subst (IsCommand (word ∷ text ∷ [])) (sym h.0) (ap₂ (λ w t. w ∷ t ∷ []) is h.1)
check_words word text None is h = none
  where
    none : (c : Command) → IsCommand (word ∷ text ∷ []) c → ⊥
    none commands.Summary k = h (ap (λ ws. get_or ws 1 []) k)
    none c k =
        let a = counted (word ∷ text ∷ []) c k in
        let letters : letters_of word ≡ letters_of (codes "check") = ap letters_of is in
        omega (arith, a.0, a.1, letters)

pub is_word : (name word : List ℕ) (t : Bool) → t ≡ bytes_eq word name → t ≡ true → word ≡ name
is_word name word t e h = (bytes_eq-Decides word name).0 (sym e ∙ h)

pub is_other : (name word : List ℕ) (t : Bool) → t ≡ bytes_eq word name → t ≡ false → word ≢ name
is_other name word t e h is = let yes = (bytes_eq-Decides word name).1 is in absurd (cc (e, h, yes))

-- a list of two
pub two_words : {X : Type 0} (f : X → List ℕ) (xs : List X) (a b : X) (word text : List ℕ) → 2 ≤ length xs → length xs < 3 → a ≡ get_or xs 0 a → b ≡ get_or xs 1 b → word ≡ f a → text ≡ f b → map f xs ≡ word ∷ text ∷ []
two_words f [] a b word text least most p q v w = absurd (omega arith)
two_words f (x ∷ []) a b word text least most p q v w = absurd (omega arith)
two_words f (x ∷ y ∷ []) a b word text least most p q v w = ap₂ (λ s t. s ∷ t ∷ []) (sym (v ∙ ap f p)) (sym (w ∙ ap f q))
two_words f (x ∷ y ∷ z ∷ xs) a b word text least most p q v w = absurd (omega arith)

-- and of three
pub three_words : {X : Type 0} (f : X → List ℕ) (xs : List X) (a b c : X) (word option text : List ℕ) → 3 ≤ length xs → length xs < 4 → a ≡ get_or xs 0 a → b ≡ get_or xs 1 b → c ≡ get_or xs 2 c → word ≡ f a → option ≡ f b → text ≡ f c → map f xs ≡ word ∷ option ∷ text ∷ []
three_words f [] a b c word option text least most p q r u v w = absurd (omega arith)
three_words f (x ∷ []) a b c word option text least most p q r u v w = absurd (omega arith)
three_words f (x ∷ y ∷ []) a b c word option text least most p q r u v w = absurd (omega arith)
three_words f (x ∷ y ∷ z ∷ []) a b c word option text least most p q r u v w = λ i. sym (u ∙ ap f p) i ∷ sym (v ∙ ap f q) i ∷ sym (w ∙ ap f r) i ∷ []
three_words f (x ∷ y ∷ z ∷ t ∷ xs) a b c word option text least most p q r u v w = absurd (omega arith)
