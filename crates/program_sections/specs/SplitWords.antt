-- The words of `split`.
use Rattle.std.specs.Prelude.{◌≡◌, ◌≢◌, ℕ, List, [], ◌∷◌, codes}
use Rattle.ipld_tree.specs.Cid.{CidParts}
use Rattle.program_sections.specs.Words.{IsNumberIn, root_texts, after_roots, AreTexts}

-- the text is a size: a number of bytes in decimal, not 0
abbrev pub IsSizeText : List ℕ → ℕ → Type 0
IsSizeText text n = IsNumberIn 10 text n × (n ≢ 0)

-- the words are the size, the file, and the prefix of the parts' names
abbrev pub AreSizeAndFiles : List (List ℕ) → ℕ → List ℕ → List ℕ → Type 0
AreSizeAndFiles (text ∷ it ∷ start ∷ []) size file prefix = IsSizeText text size × (file ≡ it) × (prefix ≡ start)
AreSizeAndFiles _ size file prefix = ⊥

-- they come after `--size`
abbrev pub HasSizeAndFiles : List (List ℕ) → ℕ → List ℕ → List ℕ → Type 0
HasSizeAndFiles words size file prefix = (rest : List (List ℕ)) × (words ≡ codes "--size" ∷ rest)
    × AreSizeAndFiles rest size file prefix

-- `split`, roots, the size, the file, and the prefix of the parts' names
abbrev pub IsSplit : List (List ℕ) → List CidParts → ℕ → List ℕ → List ℕ → Type 0
IsSplit words roots size file prefix = (rest : List (List ℕ)) × (words ≡ codes "split" ∷ rest)
    × AreTexts (root_texts rest) roots × HasSizeAndFiles (after_roots rest) size file prefix
