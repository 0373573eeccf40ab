-- The data that a text of DAG-JSON means, or why it has none (DAG-JSON specification, over RFC
-- 8259).
use Rattle.std.specs.Prelude.{◌≡◌, ◌⊎◌, ℕ, suc, zero, ℤ, pos, negsuc, ◌^◌, ◌==◌, ◌≤◌, ⊤, nat_lt, nat_le, Bool, true, false, ◌&&◌, ◌||◌, List, [], ◌∷◌, codes, IsUtf8, if◌then◌else◌, Option, Some, None, Result, Ok, Err, MatchResult, MatchBool, bytes_eq}
use Rattle.std.specs.Char.{is_ascii_digit}
use Rattle.std.specs.Str.Parse.{signed_digits_value}
use Rattle.json.specs.Token.{Token}
use Rattle.json.specs.Lex.{tokens}
use Rattle.json.specs.Json as json
use Rattle.json.specs.Json.{Json, Members, no_members, member, value}
use Rattle.base64.specs.GeneralPurpose.{decode_of}
use Rattle.base64.specs.Engines.{standard_no_pad}
use Rattle.base64.specs.declared.decode.DecodeError.{DecodeError}
use Rattle.ipld_tree.specs.Cid.{CidParts, cid_bytes}
use Rattle.ipld_tree.specs.Tree.{Tree, null, boolean, integer, text, bytes, list, mapping, link, Items, no_items, item, Entries, no_entries, entry, IsTree, items_of, ordered_entries, has_key, any_need}
use Rattle.ipld_tree.specs.Spelling.{IsSpellable}
use Rattle.text_cid.specs.Alphabets.{AreBytes}
use Rattle.text_dag_json.specs.DagJson.{dag_json, has_reserved_key}
use Rattle.text_cid.specs.Texts.{IsTextOf, IsTextFault}
use Rattle.text_cid.specs.declared.error.CidTextError.{CidTextError}
use Rattle.text_dag_json.specs.declared.error.DagJsonError.{DagJsonError}
use Rattle.text_dag_json.specs.declared.error.DagJsonError.TheVariants.{NoText, NoJson, TrailingData, TooDeep, Float, OutOfRange, RepeatedKey, ReservedKey, NoCid, NoBase64}

-- what is read, or why nothing is read
abbrev pub Read : Type 0 → Type 0
Read A = Result A DagJsonError

abbrev pub read_map : {A B : Type 0} → (A → B) → Read A → Read B
read_map f (Ok a) = Ok (f a)
read_map f (Err e) = Err e

-- ---- numbers (RFC 8259, section 6)

abbrev pub are_digits : List ℕ → Bool
are_digits [] = true
are_digits (c ∷ cs) = is_ascii_digit c && are_digits cs

-- digits only, after an optional minus (45); any other number has a fraction or an exponent
abbrev pub is_whole : List ℕ → Bool
is_whole [] = false
is_whole (c ∷ []) = is_ascii_digit c
is_whole (c ∷ d ∷ cs) = (is_ascii_digit c || (c == 45)) && are_digits (d ∷ cs)

-- from - 2 ^ 64 to 2 ^ 64 - 1; `negsuc n` is - 1 - n
abbrev pub is_in_range : ℤ → Bool
is_in_range (pos n) = nat_lt n (2 ^ 64)
is_in_range (negsuc n) = nat_lt n (2 ^ 64)

abbrev pub number_data : List ℕ → Read Tree
number_data s =
    if is_whole s then
    (if is_in_range (signed_digits_value 10 s) then Ok (integer (signed_digits_value 10 s)) else Err OutOfRange)
    else Err Float

-- ---- links and bytes

-- the text of a CID, in any form that `cid_text` reads
abbrev pub ReadsLinkText : List ℕ → Read Tree → Type 0
ReadsLinkText s r = MatchResult r
    (λ t. (c : CidParts) × IsTextOf s c × (t ≡ link (cid_bytes c)))
    (λ e. (f : CidTextError) × (e ≡ NoCid f) × ((c : CidParts) → ¬ IsTextOf s c) × IsTextFault f s)

-- the result of decoding base64 without padding (RFC 4648, section 4)
abbrev pub decoded_data : Result (List ℕ) DecodeError → Read Tree
decoded_data (Ok b) = Ok (bytes b)
decoded_data (Err e) = Err NoBase64

abbrev pub bytes_data : List ℕ → Read Tree
bytes_data s = decoded_data (decode_of standard_no_pad s)

-- whether the key `/` is among the members
abbrev pub has_slash : Members → Bool
has_slash no_members = false
has_slash (member k j ms) = bytes_eq k (codes "/") || has_slash ms

-- at the key `/` of a map without other keys, bytes are {"bytes": "..."}
abbrev pub ReadsReservedKey : List ℕ → Json → Read Tree → Type 0
ReadsReservedKey k (json.string s) r =
    r ≡ (if bytes_eq k (codes "bytes") then bytes_data s else Err ReservedKey)
ReadsReservedKey k _ r = r ≡ Err ReservedKey

abbrev pub ReadsBytes : Members → Read Tree → Type 0
ReadsBytes (member k j no_members) r = ReadsReservedKey k j r
ReadsBytes _ r = r ≡ Err ReservedKey

-- and a link is the text of a CID
abbrev pub ReadsSlashed : Json → Read Tree → Type 0
ReadsSlashed (json.string s) r = ReadsLinkText s r
ReadsSlashed (json.object ms) r = ReadsBytes ms r
ReadsSlashed _ r = r ≡ Err ReservedKey

-- a map that has the key `/`, and is neither a link nor bytes, is refused
abbrev pub ReadsReserved : Members → Read Tree → Type 0
ReadsReserved (member k j no_members) r = ReadsSlashed j r
ReadsReserved _ r = r ≡ Err ReservedKey

-- ---- data

-- What is read from a JSON value: the tree, or the first fault in it. For a map, the keys and
-- values seen so far are kept.
abbrev mutual
  pub ReadsData : Json → Read Tree → Type 0
  ReadsData json.null r = r ≡ Ok null
  ReadsData (json.boolean b) r = r ≡ Ok (boolean b)
  ReadsData (json.number s) r = r ≡ number_data s
  ReadsData (json.string s) r = r ≡ Ok (text s)
  ReadsData (json.array js) r = (ts : Read (List Tree)) × ReadsElements js ts
      × (r ≡ read_map (λ found. list (items_of found)) ts)
  ReadsData (json.object ms) r = MatchBool (has_slash ms) (ReadsReserved ms r)
      ((ps : Read (List (List ℕ × Tree))) × ReadsMembers [] ms ps
      × (r ≡ read_map (λ found. mapping (ordered_entries found)) ps))

  pub ReadsElements : json.Items → Read (List Tree) → Type 0
  ReadsElements json.no_items r = r ≡ Ok []
  ReadsElements (json.item j js) r = (first : Read Tree) × ReadsData j first × MatchResult first
      (λ t. (more : Read (List Tree)) × ReadsElements js more × (r ≡ read_map (λ ts. t ∷ ts) more))
      (λ e. r ≡ Err e)

  pub ReadsMembers : List (List ℕ × Tree) → Members → Read (List (List ℕ × Tree)) → Type 0
  ReadsMembers seen no_members r = r ≡ Ok seen
  ReadsMembers seen (member k j ms) r = MatchBool (has_key k seen) (r ≡ Err RepeatedKey)
      ((first : Read Tree) × ReadsData j first × MatchResult first
      (λ t. ReadsMembers ((k, t) ∷ seen) ms r) (λ e. r ≡ Err e))

-- ---- texts

-- the most levels to which JSON nests: 127 lists around bytes
abbrev pub most_levels : ℕ
most_levels = 129

-- whether more lists and maps are open at once than may be, if n more may be; nothing is checked
-- after a bracket that closes nothing
abbrev pub opens_past : ℕ → List Token → Bool
opens_past n [] = false
opens_past zero (Token.begin_object ∷ ts) = true
opens_past (suc n) (Token.begin_object ∷ ts) = opens_past n ts
opens_past zero (Token.begin_array ∷ ts) = true
opens_past (suc n) (Token.begin_array ∷ ts) = opens_past n ts
opens_past n (Token.end_object ∷ ts) = if n == most_levels then false else opens_past (suc n) ts
opens_past n (Token.end_array ∷ ts) = if n == most_levels then false else opens_past (suc n) ts
opens_past n (t ∷ ts) = opens_past n ts

-- the value, with no token after it
abbrev pub alone : List Token → Option (Json × List Token) → Read Json
alone ts None = if opens_past most_levels ts then Err TooDeep else Err NoJson
alone ts (Some (j, [])) = Ok j
alone ts (Some (j, t ∷ more)) = Err TrailingData

-- the JSON value that the tokens spell
abbrev pub document_of : List Token → Read Json
document_of ts = alone ts (value most_levels ts)

-- a tree that an untyped read accepts within 256 steps
abbrev pub within_steps : Read Tree → Read Tree
within_steps (Ok t) = if nat_le (any_need t) 256 then Ok t else Err TooDeep
within_steps (Err e) = Err e

-- what a JSON value that is a whole text means, if an untyped read takes at most 256 steps
abbrev pub ReadsWhole : Json → Read Tree → Type 0
ReadsWhole j r = (found : Read Tree) × ReadsData j found × (r ≡ within_steps found)

abbrev pub ReadsTokens : List Token → Read Tree → Type 0
ReadsTokens ts r = MatchResult (document_of ts) (λ j. ReadsWhole j r) (λ e. r ≡ Err e)

-- what is read from a text
abbrev pub ReadsJson : List ℕ → Read Tree → Type 0
ReadsJson s r = (¬ IsUtf8 s × (r ≡ Err NoText)) ⊎ (IsUtf8 s × ReadsTokens (tokens s) r)

-- a text is read in one way: as one tree, or refused for one cause
abbrev pub TextsTellData : Type 0
TextsTellData = (s : List ℕ) (r q : Read Tree) → ReadsJson s r → ReadsJson s q → r ≡ q

-- all bytes, also those of links, are numbers below 256
abbrev mutual
  pub HasBytes : Tree → Type 0
  HasBytes null = ⊤
  HasBytes (boolean b) = ⊤
  HasBytes (integer n) = ⊤
  HasBytes (text s) = ⊤
  HasBytes (bytes b) = AreBytes b
  HasBytes (list ts) = ItemsHaveBytes ts
  HasBytes (mapping es) = EntriesHaveBytes es
  HasBytes (link cid) = AreBytes cid

  pub ItemsHaveBytes : Items → Type 0
  ItemsHaveBytes no_items = ⊤
  ItemsHaveBytes (item t ts) = HasBytes t × ItemsHaveBytes ts

  pub EntriesHaveBytes : Entries → Type 0
  EntriesHaveBytes no_entries = ⊤
  EntriesHaveBytes (entry k t es) = HasBytes t × EntriesHaveBytes es

-- the tree of a block, within the steps of a read, without a map that has the key `/`
pub record IsTellable (t : Tree) : Type 0 where
  pub well_formed : IsTree t
  pub spellable : IsSpellable t
  pub are_bytes : HasBytes t
  pub within : any_need t ≤ 256
  pub unreserved : has_reserved_key t ≡ false

-- such a tree is read back from what is written for it
abbrev pub TextsAreReadBack : Type 0
TextsAreReadBack = (t : Tree) → IsTellable t → ReadsJson (dag_json t) (Ok t)
