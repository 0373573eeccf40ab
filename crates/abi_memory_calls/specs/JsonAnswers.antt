-- What is returned for blocks and DAG-JSON, one made of the other.
use Rattle.std.specs.Prelude.{◌≡◌, ◌⊎◌, ℕ, ◌≤◌, ℤ, negsuc, true, false, List, length, Ok, Err, IsUtf8}
use Rattle.std.specs.Str.Lossy.{utf8_valid_len}
use Rattle.std.specs.declared.convert.Infallible.{Infallible}
use Rattle.dagcbor_core.specs.declared.error.DecodeError.{DecodeError}
use Rattle.ipld_tree.specs.Tree.{Tree}
use Rattle.dagcbor_decode.specs.Verdicts.{IsRefusedFor}
use Rattle.dagcbor_decode.specs.TreeKinds.{kind_of}
use Rattle.dagcbor_decode.specs.Blocks.{IsBlock}
use Rattle.text_dag_json.specs.DagJson.{dag_json, has_reserved_key}
use Rattle.text_dag_json.specs.Reading.{ReadsJson}
use Rattle.text_dag_json.specs.declared.error.DagJsonError.{DagJsonError}
use Rattle.text_dag_json.specs.declared.error.DagJsonError.TheVariants as texts
use Rattle.abi_calls.specs.Codes.{kind_code, refusal_code}
use Rattle.abi_calls.specs.CidTexts.{IsPutText, PutsNone}
use Rattle.abi_memory_calls.specs.Answers.{WantsMemory}

-- the number of why a text is not data
abbrev pub json_code : DagJsonError → ℤ
json_code texts.NoText = negsuc 42
json_code texts.NoJson = negsuc 43
json_code texts.TrailingData = negsuc 44
json_code texts.TooDeep = negsuc 45
json_code texts.Float = negsuc 46
json_code texts.OutOfRange = negsuc 47
json_code texts.RepeatedKey = negsuc 48
json_code texts.ReservedKey = negsuc 49
json_code (texts.NoCid e) = negsuc 50
json_code texts.NoBase64 = negsuc 51
json_code texts.OutOfMemory = negsuc 41

-- the text of a block's data is put; or a map in it has the key `/`, so that no text can be read as
-- it; or memory ran out
abbrev pub IsDataAnswer : Tree → List ℕ → List ℕ → ℕ → ℤ → Type 0
IsDataAnswer t old new needed code =
    ((has_reserved_key t ≡ false) × IsPutText (kind_code (kind_of t)) (dag_json t) old new needed code)
    ⊎ (((has_reserved_key t ≡ true) × (code ≡ json_code texts.ReservedKey) × PutsNone old new needed)
    ⊎ WantsMemory old new needed code)

-- the answer for the data of a block; or the number of its refusal, never out of memory
abbrev pub IsToJsonAnswer : List ℕ → List ℕ → List ℕ → ℕ → ℤ → Type 0
IsToJsonAnswer b old new needed code =
    ((t : Tree) × IsBlock b t × IsDataAnswer t old new needed code)
    ⊎ ((e : DecodeError Infallible) × IsRefusedFor b e
    × (code ≡ refusal_code e) × PutsNone old new needed)

-- The block of the data that the text spells is put, and the place is the text's end; or the text
-- is not data, and the number of why is returned, with a place; or memory ran out. Only for text
-- that is not UTF-8 is the place determined: it is the first byte that is not.
abbrev pub IsFromJsonAnswer : List ℕ → List ℕ → List ℕ → ℕ → ℕ → ℤ → Type 0
IsFromJsonAnswer text old new needed place code =
    ((t : Tree) × (block : List ℕ) × ReadsJson text (Ok t) × IsBlock block t
    × IsPutText (kind_code (kind_of t)) block old new needed code × (place ≡ length text))
    ⊎ (((e : DagJsonError) × ReadsJson text (Err e) × (code ≡ json_code e)
    × PutsNone old new needed × (place ≤ length text)
    × (¬ IsUtf8 text → place ≡ utf8_valid_len text))
    ⊎ (IsUtf8 text × WantsMemory old new needed code × (place ≡ 0)))
