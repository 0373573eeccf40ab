-- What `inspect` writes about a file, as lines and as JSON (RFC 8259).
use Rattle.std.specs.Prelude.{ℕ, List, ◌∷◌, ◌++◌, length, map, codes, false, if◌then◌else◌, decimal, flat_map, Option, None, Some}
use Rattle.std.specs.Fmt.{digits}
use Rattle.text_cid.specs.Texts.{cid_text}
use Rattle.text_dag_json.specs.DagJson.{list_text, boolean_text}
use Rattle.program_parts.specs.Codecs.{codec_name}
use Rattle.program_parts.specs.Lines.{line}
use Rattle.program_inspect.specs.declared.rows.Row.{Row}
use Rattle.program_inspect.specs.declared.facts.Facts.{Facts}
use Rattle.program_inspect.specs.declared.facts.Root.{Root}
use Rattle.program_inspect.specs.declared.facts.Index.{Index}
use Rattle.program_inspect.specs.declared.facts.Index.TheVariants as indexes
use Rattle.program_inspect.specs.declared.kinds.Kind.{Kind}
use Rattle.program_inspect.specs.declared.kinds.Kind.TheVariants.{Codec, Hash}

-- a word and a number
abbrev pub number_line : List ℕ → ℕ → List ℕ
number_line word count = line (word ++ (32 ∷ decimal count))

-- two words
abbrev pub word_line : List ℕ → List ℕ → List ℕ
word_line word second = line (word ++ (32 ∷ second))

-- ---- numbers of the multicodec table

-- a number in hexadecimal, with `0x`
abbrev pub code_text : ℕ → List ℕ
code_text number = codes "0x" ++ digits 16 false number

abbrev pub name_or_code : ℕ → Option (List ℕ) → List ℕ
name_or_code number None = code_text number
name_or_code number (Some name) = name

-- a codec by its usual name; any other number in hexadecimal
abbrev pub shown_number : Kind → ℕ → List ℕ
shown_number Codec number = name_or_code number (codec_name number)
shown_number Hash number = code_text number

abbrev pub kind_word : Kind → List ℕ
kind_word Codec = codes "codec"
kind_word Hash = codes "hash"

-- ---- the index

-- the word for an index, or for none
abbrev pub index_word : Option Index → List ℕ
index_word None = codes "no"
index_word (Some indexes.There) = codes "yes"
index_word (Some indexes.Right) = codes "right"
index_word (Some indexes.Wrong) = codes "wrong"

-- ---- lines

-- a root, and whether its block is there
abbrev pub root_told : Root → List ℕ
root_told root = line (codes "root " ++ (cid_text root.cid ++ (if root.there then codes " there" else codes " missing")))

-- a codec or a hash: the number of its sections, and the total length of their blocks
abbrev pub row_line : Kind → ℕ × Row → List ℕ
row_line kind row = line (kind_word kind ++ (32 ∷ (shown_number kind row.0 ++ (32 ∷ (decimal row.1.count ++ (32 ∷ decimal row.1.bytes))))))

-- the lines before the roots
abbrev pub head_lines : Facts → List ℕ
head_lines f = number_line (codes "version") f.version
    ++ (word_line (codes "index") (index_word f.index)
    ++ number_line (codes "roots") (length f.roots.items))

-- the lines of the section counts
abbrev pub count_lines : Facts → List ℕ
count_lines f = number_line (codes "sections") f.all.count
    ++ (number_line (codes "repeated") f.repeated
    ++ (number_line (codes "bytes") f.all.bytes
    ++ (number_line (codes "least") f.least
    ++ number_line (codes "greatest") f.greatest)))

abbrev pub plain_text : Facts → List ℕ
plain_text f = head_lines f
    ++ (flat_map root_told f.roots.items
    ++ (count_lines f
    ++ (flat_map (row_line Codec) f.codecs.items
    ++ (flat_map (row_line Hash) f.hashes.items
    ++ number_line (codes "missing") f.missing))))

-- ---- JSON

abbrev pub root_json : Root → List ℕ
root_json root = codes "{\"cid\":\"" ++ (cid_text root.cid ++ (codes "\",\"there\":" ++ (boolean_text root.there ++ codes "}")))

abbrev pub row_json : Kind → ℕ × Row → List ℕ
row_json kind row = codes "{\"" ++ (kind_word kind ++ (codes "\":\"" ++ (shown_number kind row.0
    ++ (codes "\",\"sections\":" ++ (decimal row.1.count ++ (codes ",\"bytes\":" ++ (decimal row.1.bytes
    ++ codes "}")))))))

-- the object up to the list of roots
abbrev pub json_head : Facts → List ℕ
json_head f = codes "{\"version\":" ++ (decimal f.version ++ (codes ",\"index\":\""
    ++ (index_word f.index ++ codes "\",\"roots\":")))

-- the section counts, up to the list of codecs
abbrev pub json_counts : Facts → List ℕ
json_counts f = codes ",\"sections\":" ++ (decimal f.all.count
    ++ (codes ",\"repeated\":" ++ (decimal f.repeated
    ++ (codes ",\"bytes\":" ++ (decimal f.all.bytes
    ++ (codes ",\"least\":" ++ (decimal f.least
    ++ (codes ",\"greatest\":" ++ (decimal f.greatest ++ codes ",\"codecs\":")))))))))

-- the object up to the list of codecs
abbrev pub json_front : Facts → List ℕ
json_front f = json_head f ++ (list_text (map root_json f.roots.items) ++ json_counts f)

-- the object after the list of hashes
abbrev pub json_end : ℕ → List ℕ
json_end missing = codes ",\"missing\":" ++ (decimal missing ++ codes "}\n")

-- the object after the list of codecs
abbrev pub json_hashes : Facts → List ℕ
json_hashes f = codes ",\"hashes\":" ++ (list_text (map (row_json Hash) f.hashes.items) ++ json_end f.missing)

-- one object, and a line feed
abbrev pub json_text : Facts → List ℕ
json_text f = json_front f ++ (list_text (map (row_json Codec) f.codecs.items) ++ json_hashes f)
