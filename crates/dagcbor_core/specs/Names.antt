-- Names in refusals.
use Rattle.std.specs.Prelude.{ℕ, List}
use Rattle.dagcbor_core.specs.Texts.{IsKept, text_bytes}
use Rattle.dagcbor_core.specs.declared.name.Name.{Name}

-- the bytes of a name
abbrev pub name_bytes : Name → List ℕ
name_bytes name = text_bytes name.text

-- the name is the longest beginning of the text of at most 31 bytes that ends with a character
pub record Names (name : Name) (text : List ℕ) : Type 0 where
  pub kept : IsKept 31 (name_bytes name) text
