-- The words of the command line.
use Rattle.std.specs.Prelude.{◌≡◌, ◌≢◌, ◌⊎◌, ℕ, List, [], ◌∷◌, codes}
use Rattle.ipld_tree.specs.Cid.{CidParts}
use Rattle.text_cid.specs.Texts.{IsTextOf, IsTextFault}
use Rattle.text_cid.specs.declared.error.CidTextError.{CidTextError}
use Rattle.program_parts.specs.Paths.{name_part}
use Rattle.program_dagcar.specs.declared.command.Command.{Command}
use Rattle.program_dagcar.specs.declared.command.Command.TheVariants as commands

-- the word that names the command
abbrev pub command_name : Command → List ℕ
command_name commands.Check = codes "check"
command_name commands.Verify = codes "verify"
command_name commands.Summary = codes "check"
command_name commands.Help = codes "--help"
command_name commands.Version = codes "--version"
command_name commands.List = codes "list"
command_name commands.Name = codes "name"
command_name commands.One = codes "one"
command_name commands.Show = codes "show"
command_name commands.Make = codes "make"
command_name (commands.Get name) = codes "get"
command_name (commands.Tree name) = codes "tree"
command_name (commands.At name) = codes "at"
command_name (commands.Raw name) = codes "at"
command_name (commands.Prove name) = codes "prove"
command_name (commands.Ls name) = codes "ls"
command_name (commands.Cat name) = codes "cat"
command_name commands.Records = codes "records"
command_name commands.Record = codes "record"

-- the last of two or three words, or an empty text
abbrev pub text_of : List (List ℕ) → List ℕ
text_of (word ∷ text ∷ []) = text
text_of (word ∷ option ∷ text ∷ []) = text
text_of _ = []

-- the words are this word and a CID as text
abbrev pub IsWordOf : List (List ℕ) → List ℕ → CidParts → Type 0
IsWordOf words word name = (text : List ℕ) × (words ≡ word ∷ text ∷ []) × IsTextOf text name

-- the words are this word and a CID as text, with a path after it or not
abbrev pub IsRootOf : List (List ℕ) → List ℕ → CidParts → Type 0
IsRootOf words word name = (text : List ℕ) × (words ≡ word ∷ text ∷ []) × IsTextOf (name_part text) name

-- the words are the command: its name; then, for `get` and `tree`, a CID; for `at`, `prove`, `ls`
-- and `cat`, a CID with a path, and for `at` also `--raw` before that; for `record`, a key; for
-- `check`, also `--summary`
abbrev pub IsCommand : List (List ℕ) → Command → Type 0
IsCommand words (commands.Get name) = IsWordOf words (codes "get") name
IsCommand words (commands.Tree name) = IsWordOf words (codes "tree") name
IsCommand words (commands.At name) = IsRootOf words (codes "at") name
IsCommand words (commands.Prove name) = IsRootOf words (codes "prove") name
IsCommand words (commands.Ls name) = IsRootOf words (codes "ls") name
IsCommand words (commands.Cat name) = IsRootOf words (codes "cat") name
IsCommand words (commands.Raw name) = (text : List ℕ)
    × (words ≡ codes "at" ∷ codes "--raw" ∷ text ∷ []) × IsTextOf (name_part text) name
IsCommand words commands.Record = (text : List ℕ) × (words ≡ codes "record" ∷ text ∷ [])
IsCommand words commands.Summary = words ≡ codes "check" ∷ codes "--summary" ∷ []
IsCommand words command = words ≡ command_name command ∷ []

-- the text after the word should be a CID, or begin with one, but is not one, for this cause
abbrev pub IsMistypedIn : List ℕ → List ℕ → CidTextError → Type 0
IsMistypedIn word text e = (((word ≡ codes "get") ⊎ (word ≡ codes "tree")) × IsTextFault e text)
    ⊎ ((((word ≡ codes "at") × (text ≢ codes "--raw")) ⊎ ((word ≡ codes "prove") ⊎ ((word ≡ codes "ls") ⊎ (word ≡ codes "cat"))))
    × IsTextFault e (name_part text))

-- the same of all words, those of `at --raw` included
abbrev pub IsMistyped : List (List ℕ) → CidTextError → Type 0
IsMistyped (word ∷ text ∷ []) e = IsMistypedIn word text e
IsMistyped (word ∷ option ∷ text ∷ []) e = (word ≡ codes "at") × (option ≡ codes "--raw")
    × IsTextFault e (name_part text)
IsMistyped _ e = ⊥

-- the command of this word for the block with this CID
abbrev pub IsCommandOn : List ℕ → CidParts → Command → Type 0
IsCommandOn word name command = ((word ≡ codes "get") × (command ≡ commands.Get name))
    ⊎ ((word ≡ codes "tree") × (command ≡ commands.Tree name))

-- `changes` and two files, of which at most one is standard input
abbrev pub IsChanges : List (List ℕ) → List ℕ → List ℕ → Type 0
IsChanges words old new = (words ≡ codes "changes" ∷ old ∷ new ∷ []) × (old ≡ codes "-" → new ≢ codes "-")

-- the words of `changes` are no other command
abbrev pub ChangesAreNoCommand : Type 0
ChangesAreNoCommand = (words : List (List ℕ)) (old new : List ℕ) (c : Command) → IsChanges words old new
    → ¬ IsCommand words c
