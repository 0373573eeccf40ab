-- The field of a link is no longer than its data model.
use Rattle.std.proofs.Common.{◌≡◌, ℕ, zero, suc, pos, ◌+◌, ◌/◌, ◌^◌, ◌<◌, ◌≤◌, List, ◌∷◌, ◌++◌, length, length-append, Option, None, Some, IfSome, codes, inl, inr, refl, ap, arith}
use Rattle.std.proofs.lemmas.Bool.{cases_lt}
use Rattle.std.proofs.Math.Nat.{pow-succ'}
use Rattle.dagcbor_core.specs.Head.{head}
use Rattle.dagcbor_core.proofs.Heads.{head_one, head_two, head_four, head_eight, head_first, length-bytes_high_first}
use Rattle.ipld_tree.specs.Cid.{varint, varint_groups, cid_bytes}
use Rattle.ipld_tree.proofs.Cids.{one_group, more_groups, varint_length, one_byte, cid_length}
use Rattle.ipld_tree.specs.Tree.{Tree, integer, text, link, Entries, no_entries, entry}
use Rattle.ipld_tree.specs.Spelling.{spelling, entry_count, entries_spelling, text_spelling}
use Rattle.dag_pb.specs.Node.{LinkParts}
use Rattle.dag_pb.specs.Spelling.{bytes_field, name_field, tsize_field, link_spelling, IsSpellableLink}
use Rattle.dag_pb_model.specs.Model.{link_model}
use Rattle.dag_pb_model.proofs.Parting.{hash_key, name_key, size_key, ends_of}

-- ---- numbers

groups_short : (more k n : ℕ) → n < 128 ^ suc k → length (varint_groups more n) ≤ suc k
groups_short zero k n h = omega arith
groups_short (suc more) zero n h = let one = ap length (one_group more n (omega (arith, h))) in omega (arith, one)
groups_short (suc more) (suc k) n h =
    let up = pow-succ' 128 (suc k) in
    let rest = groups_short more k (n / 128) (omega (arith, h, up)) in
    elim (cases_lt n 128) [
      | inl low ↦ let one = ap length (one_group more n low) in omega (arith, one)
      | inr high ↦ let all = ap length (more_groups more n high) in omega (arith, rest, all)
    ]

varint_short : (k n : ℕ) → n < 128 ^ suc k → length (varint n) ≤ suc k
unfolding varint
varint_short k n h = groups_short 10 k n h

head_some : (major n : ℕ) → n < 2 ^ 64 → 1 ≤ length (head major n)
head_some major n h = let p = head_first major n h in omega (arith, ap length p.3)

pub varint_below : (major n : ℕ) → n < 2 ^ 64 → length (varint n) ≤ 1 + length (head major n)
varint_below major n h = elim (cases_lt n 128) [
  | inl low ↦ omega (arith, one_byte n low)
  | inr a ↦ elim (cases_lt n (2 ^ 8)) [
    | inl low ↦ omega (arith, varint_short 1 n (omega (arith, low)), ap length (head_one major n (omega (arith, a)) low))
    | inr b ↦ elim (cases_lt n (2 ^ 16)) [
      | inl low ↦ omega (arith, varint_short 2 n (omega (arith, low)), ap length (head_two major n b low), length-bytes_high_first 2 n)
      | inr c ↦ elim (cases_lt n (2 ^ 32)) [
        | inl low ↦ omega (arith, varint_short 4 n (omega (arith, low)), ap length (head_four major n c low), length-bytes_high_first 4 n)
        | inr d ↦ omega (arith, varint_length n, ap length (head_eight major n d), length-bytes_high_first 8 n)
      ]
    ]
  ]
]

-- ---- the name and the size

entry_length : (key : List ℕ) (t : Tree) (es : Entries) → length (entries_spelling (entry key t es)) ≡ length (text_spelling key) + (length (spelling t) + length (entries_spelling es))
entry_length key t es = let whole = length-append (text_spelling key) (spelling t ++ entries_spelling es) in omega (arith, whole, length-append (spelling t) (entries_spelling es))

-- with a name, three bytes are left for the number before the message
abbrev spare : Option (List ℕ) → ℕ
spare None = 0
spare (Some name) = 3

name_below : (name : List ℕ) → length name < 2 ^ 64 → length (name_field (Some name)) + 3 ≤ length (text_spelling (codes "Name")) + length (spelling (text name))
name_below name h =
    let front = varint_below 3 (length name) h in
    let key = ap length name_key in
    omega (arith, front, key, length-append (varint (length name)) name, length-append (head 3 (length name)) name)

size_below : (n : ℕ) → n < 2 ^ 64 → length (tsize_field (Some n)) ≤ length (text_spelling (codes "Tsize")) + length (spelling (integer (pos n)))
size_below n h =
    let front = varint_below 0 n h in
    let key = ap length size_key in
    omega (arith, front, key)

ends_below : (name : Option (List ℕ)) (tsize : Option ℕ) → IfSome name (λ s. length s < 2 ^ 64) → IfSome tsize (λ n. n < 2 ^ 64) → length (name_field name) + (length (tsize_field tsize) + spare name) ≤ length (entries_spelling (ends_of name tsize))
ends_below None None h k = omega arith
ends_below None (Some n) h k = omega (arith, entry_length (codes "Tsize") (integer (pos n)) no_entries, size_below n k)
ends_below (Some s) None h k = omega (arith, entry_length (codes "Name") (text s) no_entries, name_below s h)
ends_below (Some s) (Some n) h k =
    omega (arith, entry_length (codes "Name") (text s) (entry (codes "Tsize") (integer (pos n)) no_entries), entry_length (codes "Tsize") (integer (pos n)) no_entries, name_below s h, size_below n k)

size_few : (tsize : Option ℕ) → length (tsize_field tsize) ≤ 11
size_few None = omega arith
size_few (Some n) = omega (arith, varint_length n)

name_fits : (name : Option (List ℕ)) → length (name_field name) < 2 ^ 64 → IfSome name (λ s. length s < 2 ^ 64)
name_fits None h = tt
name_fits (Some s) h = omega (arith, h, length-append (varint (length s)) s)

-- the number before the message
front_below : (name : Option (List ℕ)) (tsize : Option ℕ) (n cid : ℕ) → n ≡ cid + (length (name_field name) + length (tsize_field tsize)) → cid ≤ 88 → length (varint n) ≤ 7 + spare name
front_below None tsize n cid is few = omega (arith, one_byte n (omega (arith, is, few, size_few tsize)))
front_below (Some s) tsize n cid is few = omega (arith, varint_length n)

pub link_no_longer : (l : LinkParts) → IsSpellableLink l → length (link_spelling l) ≤ length (spelling (link_model l))
link_no_longer l s =
    let cid = cid_bytes l.hash in
    let ends = name_field l.name ++ tsize_field l.tsize in
    let message = bytes_field 0x0a cid ++ ends in
    let few : length cid ≤ 86 = cid_length cid (l.hash, s.valid, refl) in
    let one = one_byte (length cid) (omega (arith, few)) in
    let hash_long : length (bytes_field 0x0a cid) ≡ 2 + length cid = let both = length-append (varint (length cid)) cid in omega (arith, both, one) in
    let ends_long = length-append (name_field l.name) (tsize_field l.tsize) in
    let message_long = length-append (bytes_field 0x0a cid) ends in
    let fits = s.fits in
    let front = front_below l.name l.tsize (length message) (2 + length cid) (omega (arith, message_long, hash_long, ends_long)) (omega (arith, few)) in
    let rest = ends_below l.name l.tsize (name_fits l.name (omega (arith, fits, message_long, ends_long))) s.size in
    let all = entry_length (codes "Hash") (link cid) (ends_of l.name l.tsize) in
    let key = ap length hash_key in
    let payload = length-append (head 2 (suc (length cid))) (0x00 ∷ cid) in
    let head_there = head_some 2 (suc (length cid)) (omega (arith, few)) in
    let count = entry_count (entry (codes "Hash") (link cid) (ends_of l.name l.tsize)) in
    let model = length-append (head 5 count) (entries_spelling (entry (codes "Hash") (link cid) (ends_of l.name l.tsize))) in
    let map_there = head_some 5 count (count_few l.name l.tsize) in
    let field = length-append (varint (length message)) message in
    omega (arith, field, message_long, hash_long, ends_long, front, rest, all, key, payload, head_there, model, map_there)
  where
    count_few : (name : Option (List ℕ)) (tsize : Option ℕ) → suc (entry_count (ends_of name tsize)) < 2 ^ 64
    count_few None None = omega arith
    count_few None (Some n) = omega arith
    count_few (Some s) None = omega arith
    count_few (Some s) (Some n) = omega arith
