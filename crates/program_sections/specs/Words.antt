-- The words of `filter`.
use Rattle.std.specs.Prelude.{◌≡◌, ◌≢◌, ◌⊎◌, ◌<◌, ◌≤◌, ◌^◌, ℕ, List, [], ◌∷◌, ◌++◌, codes, bytes_eq, if◌then◌else◌, length, Option, None, Some, MatchOption, ⊤}
use Rattle.std.specs.Str.Parse.{IsNumeral, digits_value, without_leading_plus}
use Rattle.ipld_tree.specs.Cid.{CidParts}
use Rattle.text_cid.specs.Texts.{IsTextOf}
use Rattle.program_parts.specs.Codecs.{codec_name}
use Rattle.program_sections.specs.declared.words.By.{By}
use Rattle.program_sections.specs.declared.words.By.TheVariants.{Codec, Names}

-- the text is this number, below 2 ^ 64, in digits of the radix
abbrev pub IsNumberIn : ℕ → List ℕ → ℕ → Type 0
IsNumberIn radix text n = (n ≡ digits_value radix (without_leading_plus text))
    × IsNumeral radix (without_leading_plus text) × (n < 2 ^ 64)

-- the text is `0x` and the number in hexadecimal
abbrev pub IsHexText : List ℕ → ℕ → Type 0
IsHexText text n = (digits : List ℕ) × (text ≡ codes "0x" ++ digits) × IsNumberIn 16 digits n

-- the text is the codec's name, or its number in hexadecimal
abbrev pub IsCodecText : List ℕ → ℕ → Type 0
IsCodecText text n = (codec_name n ≡ Some text) ⊎ IsHexText text n

-- ---- roots

-- the texts that follow each leading `--root`, and the words after them
abbrev pub root_texts : List (List ℕ) → List (List ℕ)
root_texts (option ∷ text ∷ words) = if bytes_eq option (codes "--root") then text ∷ root_texts words else []
root_texts _ = []

abbrev pub after_roots : List (List ℕ) → List (List ℕ)
after_roots (option ∷ text ∷ words) = if bytes_eq option (codes "--root") then after_roots words else option ∷ text ∷ words
after_roots words = words

-- the texts are these CIDs, one each
abbrev pub AreTexts : List (List ℕ) → List CidParts → Type 0
AreTexts [] [] = ⊤
AreTexts (text ∷ texts) (c ∷ cs) = IsTextOf text c × AreTexts texts cs
AreTexts _ _ = ⊥

-- the words begin with `--root` and a text, which is this CID or none, and then the rest
abbrev pub HasRoot : List (List ℕ) → Option CidParts → List (List ℕ) → Type 0
HasRoot words root rest = (text : List ℕ) × (words ≡ codes "--root" ∷ text ∷ rest)
    × MatchOption root ((c : CidParts) → ¬ IsTextOf text c) (IsTextOf text)

-- the words do not begin with `--root` and a text
abbrev pub HasNoRoot : List (List ℕ) → Type 0
HasNoRoot words = (text : List ℕ) (rest : List (List ℕ)) → words ≢ codes "--root" ∷ text ∷ rest

-- ---- filter

-- an option and the word after it say what to keep
abbrev pub IsBy : List ℕ → List ℕ → By → Type 0
IsBy option text (Codec n) = (option ≡ codes "--codec") × IsCodecText text n
IsBy option text (Names list) = (option ≡ codes "--names") × (text ≡ list.now)

-- the words say what to keep, and name the file, if any
abbrev pub IsByAndFile : List (List ℕ) → By → Option (List ℕ) → Type 0
IsByAndFile (option ∷ text ∷ []) by None = IsBy option text by
IsByAndFile (option ∷ text ∷ file ∷ []) by (Some it) = IsBy option text by × (file ≡ it)
IsByAndFile _ by it = ⊥

-- `filter`, roots, what to keep, and the file, if one is named
abbrev pub IsFilter : List (List ℕ) → List CidParts → By → Option (List ℕ) → Type 0
IsFilter words roots by file = (rest : List (List ℕ)) × (words ≡ codes "filter" ∷ rest)
    × AreTexts (root_texts rest) roots × IsByAndFile (after_roots rest) by file

-- ---- merge

-- `merge`, roots, and two or more files
abbrev pub IsMerge : List (List ℕ) → List CidParts → List (List ℕ) → Type 0
IsMerge words roots files = (rest : List (List ℕ)) × (words ≡ codes "merge" ∷ rest)
    × AreTexts (root_texts rest) roots × (files ≡ after_roots rest) × (2 ≤ length files)
