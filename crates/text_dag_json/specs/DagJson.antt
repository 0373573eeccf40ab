-- Data as DAG-JSON, in one line without spaces (DAG-JSON specification, over RFC 8259).
use Rattle.std.specs.Prelude.{◌≡◌, ℕ, ◌/◌, ◌%◌, ◌==◌, ◌||◌, nat_lt, Bool, true, false, List, [], ◌∷◌, ◌++◌, codes, map, slice_index, if◌then◌else◌, Result, OnOk, flat_map, bytes_eq}
use Rattle.std.specs.Fmt.{signed_decimal}
use Rattle.std.specs.Ordering.{is_lt}
use Rattle.base64.specs.GeneralPurpose.{encode_of}
use Rattle.base64.specs.Engines.{standard_no_pad}
use Rattle.ipld_tree.specs.Key.{bytes_cmp}
use Rattle.ipld_tree.specs.Tree.{Tree, null, boolean, integer, text, bytes, list, mapping, link, Items, no_items, item, Entries, no_entries, entry}
use Rattle.text_cid.specs.Texts.{text_of_form}

-- ---- texts

-- a digit of base 16
abbrev pub digit_16 : ℕ → ℕ
digit_16 n = slice_index (codes "0123456789abcdef") n

-- A byte of a text (RFC 8259, section 7). After a backslash (92): a quote, a backslash, or the
-- letter b, t, n, f or r for a control; for other controls, u00 and two digits of base 16.
abbrev pub escaped : ℕ → List ℕ
escaped b =
    if b == 34 then 92 ∷ 34 ∷ []
    else (if b == 92 then 92 ∷ 92 ∷ []
    else (if b == 8 then 92 ∷ 98 ∷ []
    else (if b == 9 then 92 ∷ 116 ∷ []
    else (if b == 10 then 92 ∷ 110 ∷ []
    else (if b == 12 then 92 ∷ 102 ∷ []
    else (if b == 13 then 92 ∷ 114 ∷ []
    else (if nat_lt b 32 then 92 ∷ 117 ∷ 48 ∷ 48 ∷ digit_16 (b / 16) ∷ digit_16 (b % 16) ∷ []
    else b ∷ [])))))))

-- a text, between quotes
abbrev pub json_text : List ℕ → List ℕ
json_text s = 34 ∷ (flat_map escaped s ++ 34 ∷ [])

-- ---- lists and maps

-- the texts, with commas between them
abbrev pub joined : List (List ℕ) → List ℕ
joined [] = []
joined (t ∷ ts) = t ++ flat_map (λ u. 44 ∷ u) ts

-- a key, and the text of its value
abbrev pub Member : Type 0
Member = List ℕ × List ℕ

-- the member put into its place in the order of the bytes of the keys
abbrev pub put_member : Member → List Member → List Member
put_member p [] = p ∷ []
put_member p (q ∷ qs) = if is_lt (bytes_cmp p.0 q.0) then p ∷ q ∷ qs else q ∷ put_member p qs

-- the members in the order of the bytes of the keys, as in DAG-JSON; in DAG-CBOR, shorter keys come
-- first
abbrev pub by_bytes : List Member → List Member
by_bytes [] = []
by_bytes (p ∷ ps) = put_member p (by_bytes ps)

-- a key, a colon, and the value
abbrev pub member_text : Member → List ℕ
member_text p = json_text p.0 ++ (58 ∷ p.1)

abbrev pub list_text : List (List ℕ) → List ℕ
list_text ts = 91 ∷ (joined ts ++ 93 ∷ [])

abbrev pub map_text : List Member → List ℕ
map_text ps = 123 ∷ (joined (map member_text ps) ++ 125 ∷ [])

-- ---- data

abbrev pub boolean_text : Bool → List ℕ
boolean_text false = codes "false"
boolean_text true = codes "true"

-- bytes in base64 (RFC 4648, section 4) without padding
abbrev pub bytes_text : List ℕ → List ℕ
bytes_text b = codes "{\"/\":{\"bytes\":\"" ++ (encode_of standard_no_pad b ++ codes "\"}}")

-- a link as the text of its CID
abbrev pub link_text : List ℕ → List ℕ
link_text cid = codes "{\"/\":\"" ++ (text_of_form cid ++ codes "\"}")

unfoldable mutual
  pub dag_json : Tree → List ℕ
  dag_json null = codes "null"
  dag_json (boolean b) = boolean_text b
  dag_json (integer n) = signed_decimal n
  dag_json (text s) = json_text s
  dag_json (bytes b) = bytes_text b
  dag_json (list ts) = list_text (item_texts ts)
  dag_json (mapping es) = map_text (by_bytes (entry_texts es))
  dag_json (link cid) = link_text cid

  pub item_texts : Items → List (List ℕ)
  item_texts no_items = []
  item_texts (item t ts) = dag_json t ∷ item_texts ts

  pub entry_texts : Entries → List Member
  entry_texts no_entries = []
  entry_texts (entry k t es) = (k, dag_json t) ∷ entry_texts es

-- ---- maps that look like a link or like bytes

-- whether a map in the tree has the key `/`
abbrev mutual
  pub has_reserved_key : Tree → Bool
  has_reserved_key null = false
  has_reserved_key (boolean b) = false
  has_reserved_key (integer n) = false
  has_reserved_key (text s) = false
  has_reserved_key (bytes b) = false
  has_reserved_key (list ts) = items_reserved ts
  has_reserved_key (mapping es) = entries_reserved es
  has_reserved_key (link cid) = false

  pub items_reserved : Items → Bool
  items_reserved no_items = false
  items_reserved (item t ts) = has_reserved_key t || items_reserved ts

  pub entries_reserved : Entries → Bool
  entries_reserved no_entries = false
  entries_reserved (entry k t es) = bytes_eq k (codes "/") || (has_reserved_key t || entries_reserved es)

-- ---- what the calls do

-- the text was appended, if the call succeeds
abbrev pub Pushes : {A E : Type 0} → List ℕ → List ℕ → Result A E → List ℕ → Type 0
Pushes said old result new = OnOk result (new ≡ old ++ said)
