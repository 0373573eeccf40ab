-- What the lines of requests mean.
use Rattle.std.specs.Prelude.{◌≡◌, ◌≢◌, ◌⊎◌, ◌==◌, ◌<◌, ◌^◌, ℕ, List, [], ◌∷◌, ◌++◌, length, codes, All, None, Some, IsUtf8}
use Rattle.std.specs.List.{before_first, after_first}
use Rattle.std.specs.Str.Parse.{IsNumeral, digits_value}
use Rattle.ipld_tree.specs.Cid.{CidParts}
use Rattle.text_cid.specs.Texts.{IsTextOf}
use Rattle.program_dagstore.specs.Commands.{NamesCodec}
use Rattle.program_serve.specs.declared.word.Word.{Word}
use Rattle.program_serve.specs.declared.word.Word.TheVariants as words
use Rattle.program_serve.specs.declared.asked.Request.{Request}
use Rattle.program_serve.specs.declared.asked.Request.TheVariants as requests
use Rattle.program_serve.specs.declared.asked.Asked.{Asked}
use Rattle.program_serve.specs.declared.asked.Asked.TheVariants as asks

-- the words that requests begin with
abbrev pub word_text : Word → List ℕ
word_text words.Get = codes "get"
word_text words.Has = codes "has"
word_text words.Put = codes "put"
word_text words.Add = codes "add"
word_text words.Remove = codes "remove"
word_text words.Next = codes "next"
word_text words.Count = codes "count"
word_text words.Roots = codes "roots"
word_text words.AddRoot = codes "add-root"
word_text words.DropRoot = codes "drop-root"
word_text words.Commit = codes "commit"
word_text words.Rollback = codes "rollback"
word_text words.Import = codes "import"
word_text words.Export = codes "export"

-- the parts of a text before and after its first space
abbrev pub first_word : List ℕ → List ℕ
first_word text = before_first (λ b. b == 0x20) text

abbrev pub after_word : List ℕ → List ℕ
after_word text = after_first (λ b. b == 0x20) text

-- the text is this number in decimal digits, and it fits 64 bits
abbrev pub IsLength : List ℕ → ℕ → Type 0
IsLength text n = IsNumeral 10 text × (digits_value 10 text < 2 ^ 64) × (n ≡ digits_value 10 text)

-- the text is a codec's word, and this length after it
abbrev pub IsSized : List ℕ → ℕ → ℕ → Type 0
IsSized text codec n = NamesCodec (first_word text) codec × IsLength (after_word text) n

-- the text is a CID, and makes this request of it
abbrev pub IsOfName : (CidParts → Request) → List ℕ → Asked → Type 0
IsOfName request text asked = (name : CidParts) × IsTextOf text name × (asked ≡ asks.Do (request name))

-- the text is a codec and a length, and makes this request of them
abbrev pub IsOfBlock : (ℕ → ℕ → Request) → List ℕ → Asked → Type 0
IsOfBlock request text asked = (codec n : ℕ) × IsSized text codec n × (asked ≡ asks.Do (request codec n))

-- the text is empty, and makes this request
abbrev pub IsAlone : Request → List ℕ → Asked → Type 0
IsAlone request text asked = (text ≡ []) × (asked ≡ asks.Do request)

-- what a word means, with this text after it
abbrev pub Means : Word → List ℕ → Asked → Type 0
Means words.Get text asked = IsOfName requests.Get text asked
Means words.Has text asked = IsOfName requests.Has text asked
Means words.Put text asked = IsOfBlock requests.Put text asked
Means words.Add text asked = IsOfBlock requests.Add text asked
Means words.Remove text asked = IsOfName requests.Remove text asked
Means words.Next text asked = IsAlone (requests.Next None) text asked
    ⊎ ((text ≢ []) × IsOfName (λ name. requests.Next (Some name)) text asked)
Means words.Count text asked = IsAlone requests.Count text asked
Means words.Roots text asked = IsAlone requests.Roots text asked
Means words.AddRoot text asked = IsOfName requests.AddRoot text asked
Means words.DropRoot text asked = IsOfName requests.DropRoot text asked
Means words.Commit text asked = IsAlone requests.Commit text asked
Means words.Rollback text asked = IsAlone requests.Rollback text asked
Means words.Import text (asks.Import path) = path.now ≡ text
Means words.Import text asked = ⊥
Means words.Export text (asks.Export path) = path.now ≡ text
Means words.Export text asked = ⊥

-- the line is UTF-8 text, and its words ask for this
abbrev pub AsksFor : List ℕ → Asked → Type 0
AsksFor line asked = IsUtf8 line
    × ((word : Word) × (first_word line ≡ word_text word) × Means word (after_word line) asked)

-- how many bytes of a block follow the line
abbrev pub wanted : Request → ℕ
wanted (requests.Put codec n) = n
wanted (requests.Add codec n) = n
wanted request = 0

-- a line, and a line feed after it
abbrev pub IsLineOf : List ℕ → List ℕ → Type 0
IsLineOf text line = (text ≡ line ++ 10 ∷ []) × All (λ b. b ≢ 10) line

-- the text is a line that makes this request, and the bytes of the block, if it has one
pub record IsRequest (text : List ℕ) (request : Request) (block : List ℕ) : Type 0 where
  pub line : List ℕ
  pub one_line : All (λ b. b ≢ 10) line
  pub is : text ≡ line ++ (10 ∷ block)
  pub asks_for : AsksFor line (asks.Do request)
  pub whole : length block ≡ wanted request
