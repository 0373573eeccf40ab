-- DAG-CBOR as one function: what bytes decode to. It returns the item at the front of the bytes, as
-- a tree, and the bytes after it; or why there is no item, and how many bytes are left after the
-- last one that was looked at. Bytes are looked at in order.
use Rattle.std.specs.Prelude.{ℕ, zero, suc, ◌^◌, ◌/◌, ◌%◌, ◌==◌, nat_lt, pos, negsuc, List, [], ◌∷◌, length, take, drop, codes, Option, None, Some, Bool, true, false, if◌then◌else◌}
use Rattle.std.specs.Int.{w8, w16, w32, w64, from_be_bytes, Width}
use Rattle.std.specs.Str.{is_utf8}
use Rattle.dagcbor_core.specs.Lengths.{len_of}
use Rattle.dagcbor_core.specs.declared.error.Len.{Len}
use Rattle.ipld_tree.specs.Key.{comes_before}
use Rattle.ipld_tree.specs.Tree.{Tree, Items, Entries, null, boolean, integer, text, bytes, list, mapping, link, no_items, item, no_entries, entry}
use Rattle.dagcbor_decode.specs.CidTest.{is_cid}

-- Why bytes are refused, as the variant of `DecodeError` with this name says. A list of numbers is
-- the name of what was being read, or a message; a number is the byte that was found.
pub data Why : Type 0 where
  eof : List ℕ → Len → Why
  mismatch : List ℕ → ℕ → Why
  unsupported : List ℕ → ℕ → Why
  non_minimal : List ℕ → ℕ → Why
  indefinite_size : Why
  require_utf8 : List ℕ → Why
  msg : List ℕ → Why
  unordered_key : Why
  depth_overflow : List ℕ → Why
  trailing_data : Why
  -- a number outside the range of a type
  cast_overflow : List ℕ → Why

pub data Decoded (A : Type 0) : Type 0 where
  got : A → List ℕ → Decoded A
  refused : Why → ℕ → Decoded A

-- what f reads of the rest, unless the first read was refused
abbrev pub after : {A B : Type 0} → Decoded A → (A → List ℕ → Decoded B) → Decoded B
after (got a rest) f = f a rest
after (refused why left) f = refused why left

-- ---- heads and payloads (RFC 8949, section 3)

-- the next n bytes
abbrev pub payload : List ℕ → ℕ → List ℕ → Decoded (List ℕ)
payload name n b =
    if nat_lt (length b) n then refused (eof name (len_of n)) 0 else got (take n b) (drop n b)

-- an argument, refused if a shorter head has it (DAG-CBOR, strictness)
abbrev pub at_least : List ℕ → ℕ → ℕ → ℕ → List ℕ → Decoded ℕ
at_least name first least n rest =
    if nat_lt n least then refused (non_minimal name first) (length rest) else got n rest

-- an argument of `width` bytes, big-endian
abbrev pub number : List ℕ → ℕ → Width → (width least : ℕ) → List ℕ → Decoded ℕ
number name first w width least b =
    after (payload name width b) (λ s. at_least name first least (from_be_bytes w s))

-- the argument, by the additional information: the five low bits of the initial byte
abbrev pub argument_by : List ℕ → ℕ → List ℕ → ℕ → Decoded ℕ
argument_by name first b i =
    if nat_lt i 24 then got i b
    else if i == 24 then number name first w8 1 24 b
    else if i == 25 then number name first w16 2 (2 ^ 8) b
    else if i == 26 then number name first w32 4 (2 ^ 16) b
    else if i == 27 then number name first w64 8 (2 ^ 32) b
    else if i == 31 then refused indefinite_size (length b)
    else refused (unsupported name first) (length b)

-- the argument of the head that begins with the initial byte
abbrev pub argument_of : List ℕ → ℕ → List ℕ → Decoded ℕ
argument_of name first b = argument_by name first b (first % 32)

-- ---- strings (major types 2 and 3), and keys

abbrev pub string_of : List ℕ → ℕ → List ℕ → Decoded (List ℕ)
string_of name first b = after (argument_of name first b) (payload name)

abbrev pub utf8_of : List ℕ → List ℕ → List ℕ → Decoded (List ℕ)
utf8_of name s rest = if is_utf8 s then got s rest else refused (require_utf8 name) (length rest)

abbrev pub text_of : List ℕ → ℕ → List ℕ → Decoded (List ℕ)
text_of name first b = after (string_of name first b) (utf8_of name)

-- whether a key may come after the previous one: the shorter first, keys of equal length by their
-- bytes (DAG-CBOR, map keys)
abbrev pub follows : Option (List ℕ) → List ℕ → Bool
follows None key = true
follows (Some before) key = comes_before before key

abbrev pub in_order : Option (List ℕ) → List ℕ → List ℕ → Decoded (List ℕ)
in_order previous key rest =
    if follows previous key then got key rest else refused unordered_key (length rest)

abbrev pub key_of : Option (List ℕ) → List ℕ → Decoded (List ℕ)
key_of previous [] = refused (eof (codes "map key") (len_of 1)) 0
key_of previous (first ∷ b) =
    if first / 32 == 3 then after (text_of (codes "map key") first b) (in_order previous)
    else refused (mismatch (codes "map key") first) (length b)

-- ---- links: tag 42 (d8 2a), and a byte string of a zero and a CID (DAG-CBOR, links)

abbrev pub no_cid : {A : Type 0} → List ℕ → Decoded A
no_cid rest = refused (msg (codes "Invalid CID")) (length rest)

abbrev pub zero_and_cid : List ℕ → List ℕ → Decoded Tree
zero_and_cid [] rest = no_cid rest
zero_and_cid (zero ∷ cid) rest = if is_cid cid then got (link cid) rest else no_cid rest
zero_and_cid (suc n ∷ cid) rest = no_cid rest

-- the longest CID has 86 bytes
abbrev pub cid_bytes_of : ℕ → List ℕ → Decoded Tree
cid_bytes_of n b = if nat_lt 87 n then no_cid b else after (payload (codes "cid") n b) zero_and_cid

abbrev pub cid_of : List ℕ → Decoded Tree
cid_of [] = refused (eof (codes "cid") (len_of 1)) 0
cid_of (first ∷ b) =
    if first / 32 == 2 then after (argument_of (codes "cid") first b) cid_bytes_of
    else refused (unsupported (codes "cid") first) (length b)

abbrev pub tag_of : List ℕ → Decoded Tree
tag_of [] = refused (eof (codes "tag") (len_of 1)) 0
tag_of (second ∷ b) =
    if second == 0x2a then cid_of b else refused (mismatch (codes "CBOR tag") second) (length b)

abbrev pub link_of : ℕ → List ℕ → Decoded Tree
link_of first b =
    if first == 0xd8 then tag_of b else refused (mismatch (codes "CBOR tag head") first) (length b)

-- ---- items, by the major type: the three high bits of the initial byte

-- major type 7: false, true and null
abbrev pub simple_of : ℕ → List ℕ → Decoded Tree
simple_of first b =
    if first == 0xf4 then got (boolean false) b
    else if first == 0xf5 then got (boolean true) b
    else if first == 0xf6 then got null b
    else refused (unsupported (codes "any") first) (length b)

-- a leaf: an item that contains no other
abbrev pub leaf_of : ℕ → List ℕ → Decoded Tree
leaf_of first b =
    if first / 32 == 0 then after (argument_of (codes "u64") first b) (λ n. got (integer (pos n)))
    else if first / 32 == 1 then after (argument_of (codes "any") first b) (λ n. got (integer (negsuc n)))
    else if first / 32 == 2 then after (string_of (codes "bytes") first b) (λ s. got (bytes s))
    else if first / 32 == 3 then after (text_of (codes "string") first b) (λ s. got (text s))
    else if first / 32 == 6 then link_of first b
    else simple_of first b

-- `count` items in a row, each read by `one`
abbrev pub items_of : (List ℕ → Decoded Tree) → ℕ → List ℕ → Decoded Items
items_of one zero b = got no_items b
items_of one (suc count) b =
    after (one b) λ t rest. after (items_of one count rest) λ ts. got (item t ts)

-- `count` entries in a row, after the key `previous`, if any; each value is read by `one`
abbrev pub entries_of : (List ℕ → Decoded Tree) → ℕ → Option (List ℕ) → List ℕ → Decoded Entries
entries_of one zero previous b = got no_entries b
entries_of one (suc count) previous b =
    after (key_of previous b) λ key value. after (one value) λ t rest.
    after (entries_of one count (Some key) rest) λ es. got (entry key t es)

-- an item after its initial byte, by what reads a list and a map
abbrev pub by_major_type : (list_of map_of : ℕ → List ℕ → Decoded Tree) → ℕ → List ℕ → Decoded Tree
by_major_type list_of map_of first b =
    if first % 32 == 31 then refused indefinite_size (length b)
    else if first / 32 == 4 then list_of first b
    else if first / 32 == 5 then map_of first b
    else leaf_of first b

-- An item for which so many steps of depth are left: it takes one, and a list or a map one more,
-- which those in it do not have.
abbrev mutual
  pub item_of : ℕ → List ℕ → Decoded Tree
  item_of zero b = refused (depth_overflow (codes "any")) (length b)
  item_of (suc steps) [] = refused (eof (codes "any") (len_of 1)) 0
  item_of (suc steps) (first ∷ b) = by_major_type (list_of steps) (map_of steps) first b

  pub list_of : ℕ → ℕ → List ℕ → Decoded Tree
  list_of zero first b = refused (depth_overflow (codes "array")) (length b)
  list_of (suc steps) first b = after (argument_of (codes "array") first b) λ n rest.
      after (items_of (item_of steps) n rest) λ ts. got (list ts)

  pub map_of : ℕ → ℕ → List ℕ → Decoded Tree
  map_of zero first b = refused (depth_overflow (codes "map")) (length b)
  map_of (suc steps) first b = after (argument_of (codes "map") first b) λ n rest.
      after (entries_of (item_of steps) n None rest) λ es. got (mapping es)

-- ---- blocks

abbrev pub at_end : Tree → List ℕ → Decoded Tree
at_end t [] = got t []
at_end t (first ∷ rest) = refused trailing_data (length rest)

-- the first item of bytes, and a block: one item within 256 steps, and no byte after it
abbrev pub decode_first : List ℕ → Decoded Tree
decode_first = item_of 256

abbrev pub decode : List ℕ → Decoded Tree
decode b = after (decode_first b) at_end
