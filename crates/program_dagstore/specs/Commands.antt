-- The program's arguments.
use Rattle.std.specs.Prelude.{◌≡◌, ◌≢◌, ◌⊎◌, ◌≤◌, ℕ, List, [], ◌∷◌, ◌++◌, length, codes, ⊤, Bool, true, false, Option, None, Some}
use Rattle.std.specs.Borrow.{Bor}
use Rattle.std.specs.Str.Parse.{IsNumeral, digits_value}
use Rattle.ipld_tree.specs.Cid.{CidParts}
use Rattle.text_cid.specs.Texts.{IsTextOf, IsTextFault}
use Rattle.text_cid.specs.declared.error.CidTextError.{CidTextError}
use Rattle.program_parts.specs.Paths.{name_part, path_part}
use Rattle.program_dagstore.specs.declared.command.Command.{Command}
use Rattle.program_dagstore.specs.declared.command.Command.TheVariants as commands
use Rattle.program_dagstore.specs.declared.command.Words.{Words}
use Rattle.program_dagstore.specs.declared.command.Words.TheVariants as words

-- ---- codecs

-- the text is 0x and this number in hexadecimal, of 1 to 16 digits
abbrev pub IsHexadecimal : List ℕ → ℕ → Type 0
IsHexadecimal text number = (digits : List ℕ) × (text ≡ codes "0x" ++ digits) × IsNumeral 16 digits
    × (length digits ≤ 16) × (number ≡ digits_value 16 digits)

-- the word names the codec (multicodec table)
abbrev pub NamesCodec : List ℕ → ℕ → Type 0
NamesCodec word codec = ((word ≡ codes "dag-cbor") × (codec ≡ 0x71))
    ⊎ (((word ≡ codes "raw") × (codec ≡ 0x55)) ⊎ IsHexadecimal word codec)

-- ---- CIDs

-- the words are texts of these CIDs
abbrev pub AreTextsOf : List (List ℕ) → List CidParts → Type 0
AreTextsOf [] [] = ⊤
AreTextsOf (text ∷ texts) (name ∷ names) = IsTextOf text name × AreTextsOf texts names
AreTextsOf _ _ = ⊥

-- why the first of the words that is not the text of a CID is not one
abbrev pub IsFirstFault : List (List ℕ) → CidTextError → Type 0
IsFirstFault [] e = ⊥
IsFirstFault (text ∷ texts) e = IsTextFault e text
    ⊎ (((name : CidParts) × IsTextOf text name) × IsFirstFault texts e)

-- only CIDs follow the word
abbrev pub WantsNames : List ℕ → Type 0
WantsNames word = (word ≡ codes "export") ⊎ ((word ≡ codes "get") ⊎ ((word ≡ codes "has")
    ⊎ ((word ≡ codes "tree") ⊎ ((word ≡ codes "remove") ⊎ ((word ≡ codes "gc")
    ⊎ ((word ≡ codes "add-root") ⊎ (word ≡ codes "drop-root")))))))

-- ---- commands

-- the word that names the command
abbrev pub command_word : Command → List ℕ
command_word (commands.Export roots) = codes "export"
command_word (commands.Get name) = codes "get"
command_word (commands.Has name) = codes "has"
command_word (commands.Remove names) = codes "remove"
command_word (commands.Collect roots) = codes "gc"
command_word (commands.Tree root) = codes "tree"
command_word (commands.AddRoots names) = codes "add-root"
command_word (commands.DropRoots names) = codes "drop-root"
command_word commands.Roots = codes "roots"
command_word commands.Check = codes "check"
command_word commands.List = codes "list"
command_word commands.Count = codes "count"
command_word commands.Serve = codes "serve"

-- the CIDs after it: any, one, at least one, or none
abbrev pub AreNamesOf : Command → List CidParts → Type 0
AreNamesOf (commands.Export roots) names = names ≡ roots.items
AreNamesOf (commands.Get name) names = names ≡ name ∷ []
AreNamesOf (commands.Has name) names = names ≡ name ∷ []
AreNamesOf (commands.Tree root) names = names ≡ root ∷ []
AreNamesOf (commands.Remove taken) names = (names ≡ taken.items) × (names ≢ [])
AreNamesOf (commands.Collect roots) names = names ≡ roots.items
AreNamesOf (commands.AddRoots added) names = (names ≡ added.items) × (names ≢ [])
AreNamesOf (commands.DropRoots dropped) names = (names ≡ dropped.items) × (names ≢ [])
AreNamesOf _ names = names ≡ []

-- the word and the CIDs after it are the command
abbrev pub NamesCommand : List ℕ → List CidParts → Command → Type 0
NamesCommand word names command = (word ≡ command_word command) × AreNamesOf command names

-- the source of a CAR file: a path; or, for - or no word, standard input
abbrev pub IsSource : List (List ℕ) → Option (Bor (List ℕ)) → Type 0
IsSource rest None = (rest ≡ []) ⊎ (rest ≡ codes "-" ∷ [])
IsSource rest (Some source) = (rest ≡ source.now ∷ []) × (source.now ≢ codes "-")

-- the codec of a block, which is DAG-CBOR if none is named
abbrev pub IsCodec : List (List ℕ) → ℕ → Type 0
IsCodec rest codec = ((rest ≡ []) × (codec ≡ 0x71))
    ⊎ ((word : List ℕ) × (rest ≡ word ∷ []) × NamesCodec word codec)

-- what follows `at`: a text, with --raw before it if bytes are asked for
abbrev pub IsAskedBy : List (List ℕ) → Bool → List ℕ → Type 0
IsAskedBy rest false text = rest ≡ text ∷ []
IsAskedBy rest true text = rest ≡ codes "--raw" ∷ text ∷ []

-- there is one text: this CID, and this path after a slash
abbrev pub IsPathFrom : List (List ℕ) → CidParts → List ℕ → Type 0
IsPathFrom rest root inner = (text : List ℕ) × (rest ≡ text ∷ [])
    × IsTextOf (name_part text) root × (inner ≡ path_part text)

-- ---- words

-- the meaning of a path, a command and what follows it; if a CID should follow and does not, the
-- cause of the first that is not one
abbrev pub AreWordsOf : List ℕ → List ℕ → List (List ℕ) → Words → Type 0
AreWordsOf path word rest (words.Import file source) = (path ≡ file.now)
    × (word ≡ codes "import") × IsSource rest source
AreWordsOf path word rest (words.Put file codec) = (path ≡ file.now)
    × (word ≡ codes "put") × IsCodec rest codec
AreWordsOf path word rest (words.Do file command) = (path ≡ file.now)
    × ((names : List CidParts) × AreTextsOf rest names × NamesCommand word names command)
AreWordsOf path word rest (words.At file asking inner) = (path ≡ file.now) × (word ≡ codes "at")
    × ((text : List ℕ) × IsAskedBy rest asking.is_raw text
    × IsTextOf (name_part text) asking.root × (inner.now ≡ path_part text))
AreWordsOf path word rest (words.Cat file at inner) = (path ≡ file.now) × (word ≡ codes "cat")
    × IsPathFrom rest at.root inner.now
AreWordsOf path word rest (words.Ls file at inner) = (path ≡ file.now) × (word ≡ codes "ls")
    × IsPathFrom rest at.root inner.now
AreWordsOf path word rest (words.NoCid e) = (WantsNames word × IsFirstFault rest e)
    ⊎ (((word ≡ codes "at") × ((is_raw : Bool) × (text : List ℕ)
    × IsAskedBy rest is_raw text × IsTextFault e (name_part text)))
    ⊎ (((word ≡ codes "cat") ⊎ (word ≡ codes "ls")) × ((text : List ℕ) × (rest ≡ text ∷ [])
    × IsTextFault e (name_part text))))
AreWordsOf path word rest _ = ⊥

-- the arguments are known, with this meaning
abbrev pub AreKnown : List (List ℕ) → Words → Type 0
AreKnown (word ∷ []) words.Help = word ≡ codes "--help"
AreKnown (word ∷ []) words.Version = word ≡ codes "--version"
AreKnown (path ∷ (word ∷ rest)) it = AreWordsOf path word rest it
AreKnown _ _ = ⊥

-- The arguments have this meaning; or they are unknown, because they have no other.
abbrev pub AreWords : List (List ℕ) → Words → Type 0
AreWords said words.Unknown = (it : Words) → ¬ AreKnown said it
AreWords said it = AreKnown said it
