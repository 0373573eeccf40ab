-- The tokens of a block of fewer than 2 ^ 32 bytes have parts of 32 bits.
use Rattle.std.proofs.Common.{◌≡◌, ℕ, zero, suc, ◌+◌, ◌*◌, ◌^◌, ◌<◌, ◌≤◌, ◌%◌, ◌&&◌, pos, negsuc, Bool, true, false, List, [], ◌∷◌, ◌++◌, length, map, if◌then◌else◌, nat_lt, MatchBool, IsAscii, refl, sym, ap, ap₂, ◌∙◌, arith, length-append, mod-eq_of_lt, lt-ltb, le-ltb}
use Rattle.std.proofs.lemmas.List.{map-append}
use Rattle.std.proofs.lemmas.Simd.{map-map}
use Rattle.std.specs.Int.{w16, w32, w64, to_be_bytes}
use Rattle.std.specs.Str.{IsNotAscii}
use Rattle.dagcbor_core.specs.Head.{head}
use Rattle.ipld_tree.specs.Tree.{Tree, null, boolean, integer, text, bytes, list, mapping, link, Items, no_items, item, Entries, no_entries, entry}
use Rattle.ipld_tree.specs.Spelling.{item_count, entry_count, text_spelling, spelling, items_spelling, entries_spelling, IsSpelling}
use Rattle.dagcbor_decode.specs.Decode.{Decoded, got, refused, decode}
use Rattle.dagcbor_decode.specs.TreeKinds.{kind_of}
use Rattle.dagcbor_decode.proofs.HeadLaws.{AreBytes}
use Rattle.dagcbor_decode.proofs.Sound.{block_got}
use Rattle.abi_calls.specs.Codes.{kind_code}
use Rattle.abi_calls.specs.Tapes.{token, text_token, tokens_of, items_tokens, entries_tokens, tape_of, with_tokens, decoded_tape}
use Rattle.abi_calls.specs.CompactTapes.{are_ascii, is_integer_kind, compact, compact_tape_of, compact_tape_answer, wrapped, wrapped_as}
use Rattle.abi_calls.specs.declared.compact.CompactToken.{CompactToken}

-- ---- ASCII

all_ascii : (bs : List ℕ) → IsAscii bs → are_ascii bs ≡ true
all_ascii [] h = refl
all_ascii (b ∷ bs) h = ap₂ (λ x y. x && y) (lt-ltb b 128 (h 0)) (all_ascii bs (λ i. h (suc i)))

and_false : (x : Bool) → (x && false) ≡ false
and_false true = refl
and_false false = refl

not_ascii : (bs : List ℕ) → IsNotAscii bs → are_ascii bs ≡ false
not_ascii [] (i, h) = absurd (omega (arith, h))
not_ascii (b ∷ bs) (zero, h) = ap (λ x. x && are_ascii bs) (le-ltb b 128 h)
not_ascii (b ∷ bs) (suc i, h) = ap (λ x. nat_lt b 128 && x) (not_ascii bs (i, h)) ∙ and_false (nat_lt b 128)

pub ascii_told : (o : Bool) (bs : List ℕ) → MatchBool o (IsAscii bs) (IsNotAscii bs) → o ≡ are_ascii bs
ascii_told true bs h = sym (all_ascii bs h)
ascii_told false bs h = sym (not_ascii bs h)

-- ---- an item has a byte

head_some : (m n : ℕ) → 1 ≤ length (head m n)
unfolding head
head_some m n = by (nat_lt n 24) (nat_lt n (2 ^ 8)) (nat_lt n (2 ^ 16)) (nat_lt n (2 ^ 32))
  where
    by : (a b c d : Bool) → 1 ≤ length (if a then (32 * m + n) ∷ [] else if b then (32 * m + 24) ∷ n ∷ [] else if c then (32 * m + 25) ∷ to_be_bytes w16 n else if d then (32 * m + 26) ∷ to_be_bytes w32 n else (32 * m + 27) ∷ to_be_bytes w64 n)
    by true b c d = omega arith
    by false true c d = omega arith
    by false false true d = omega arith
    by false false false true = omega arith
    by false false false false = omega arith

after_head : (m n : ℕ) (s : List ℕ) → 1 ≤ length (head m n ++ s)
after_head m n s = omega (arith, head_some m n, length-append (head m n) s)

spelling_some : (t : Tree) → 1 ≤ length (spelling t)
spelling_some null = omega arith
spelling_some (boolean false) = omega arith
spelling_some (boolean true) = omega arith
spelling_some (integer (pos n)) = head_some 0 n
spelling_some (integer (negsuc n)) = head_some 1 n
spelling_some (text s) = after_head 3 (length s) s
spelling_some (bytes s) = after_head 2 (length s) s
spelling_some (list ts) = after_head 4 (item_count ts) (items_spelling ts)
spelling_some (mapping es) = after_head 5 (entry_count es) (entries_spelling es)
spelling_some (link cid) = omega arith

items_counted : (ts : Items) → item_count ts ≤ length (items_spelling ts)
items_counted no_items = omega arith
items_counted (item t ts) = omega (arith, spelling_some t, items_counted ts, length-append (spelling t) (items_spelling ts))

entries_counted : (es : Entries) → entry_count es ≤ length (entries_spelling es)
entries_counted no_entries = omega arith
entries_counted (entry k t es) = omega (arith, spelling_some t, entries_counted es, length-append (text_spelling k) (spelling t ++ entries_spelling es), length-append (spelling t) (entries_spelling es))

-- ---- tokens

plain_fits : (kind number place : ℕ) → kind % 2 ^ 32 ≡ kind → is_integer_kind kind ≡ false → number < 2 ^ 32 → place < 2 ^ 32 → wrapped (token kind number place) ≡ token kind number place
plain_fits kind number place same plain few near =
    ap (λ k. wrapped_as k (token kind number place)) same
    ∙ ap (λ (o : Bool). token kind (if o then number else number % 2 ^ 32) (place % 2 ^ 32)) plain
    ∙ ap₂ (token kind) (mod-eq_of_lt few) (mod-eq_of_lt near)

integer_fits : (kind number place : ℕ) → kind % 2 ^ 32 ≡ kind → is_integer_kind kind ≡ true → place < 2 ^ 32 → wrapped (token kind number place) ≡ token kind number place
integer_fits kind number place same is near =
    ap (λ k. wrapped_as k (token kind number place)) same
    ∙ ap (λ (o : Bool). token kind (if o then number else number % 2 ^ 32) (place % 2 ^ 32)) is
    ∙ ap (token kind number) (mod-eq_of_lt near)

text_fits : (at : ℕ) (s : List ℕ) → at + length (text_spelling s) < 2 ^ 32 → wrapped (text_token at s) ≡ text_token at s
text_fits at s few = let long = length-append (head 3 (length s)) s in plain_fits 3 (length s) (at + length (head 3 (length s))) refl refl (omega (arith, few, long)) (omega (arith, few, long))

mutual
  tokens_fit : (at : ℕ) (t : Tree) → at + length (spelling t) < 2 ^ 32 → map wrapped (tokens_of at t) ≡ tokens_of at t
  tokens_fit at null few = ap (λ x. x ∷ []) (plain_fits 0 0 (at + 1) refl refl (omega arith) few)
  tokens_fit at (boolean false) few = ap (λ x. x ∷ []) (plain_fits 1 0 (at + 1) refl refl (omega arith) few)
  tokens_fit at (boolean true) few = ap (λ x. x ∷ []) (plain_fits 1 1 (at + 1) refl refl (omega arith) few)
  tokens_fit at (integer (pos n)) few = ap (λ x. x ∷ []) (integer_fits 2 n (at + length (head 0 n)) refl refl few)
  tokens_fit at (integer (negsuc n)) few = ap (λ x. x ∷ []) (integer_fits 8 n (at + length (head 1 n)) refl refl few)
  tokens_fit at (text s) few = ap (λ x. x ∷ []) (text_fits at s few)
  tokens_fit at (bytes s) few = let long = length-append (head 2 (length s)) s in ap (λ x. x ∷ []) (plain_fits 4 (length s) (at + length (head 2 (length s))) refl refl (omega (arith, few, long)) (omega (arith, few, long)))
  tokens_fit at (list ts) few =
      let front = head 4 (item_count ts) in
      let long = length-append front (items_spelling ts) in
      ap₂ (λ x xs. x ∷ xs) (plain_fits 5 (item_count ts) (at + length front) refl refl (omega (arith, few, long, items_counted ts)) (omega (arith, few, long))) (items_fit (at + length front) ts (omega (arith, few, long)))
  tokens_fit at (mapping es) few =
      let front = head 5 (entry_count es) in
      let long = length-append front (entries_spelling es) in
      ap₂ (λ x xs. x ∷ xs) (plain_fits 6 (entry_count es) (at + length front) refl refl (omega (arith, few, long, entries_counted es)) (omega (arith, few, long))) (entries_fit (at + length front) es (omega (arith, few, long)))
  tokens_fit at (link cid) few =
      let front = head 2 (length (0x00 ∷ cid)) in
      let long = length-append front (0x00 ∷ cid) in
      let short = length-append front (0x00 ∷ []) in
      ap (λ x. x ∷ []) (plain_fits 7 (length cid) (at + length (0xd8 ∷ 0x2a ∷ front ++ 0x00 ∷ [])) refl refl (omega (arith, few, long)) (omega (arith, few, long, short)))

  items_fit : (at : ℕ) (ts : Items) → at + length (items_spelling ts) < 2 ^ 32 → map wrapped (items_tokens at ts) ≡ items_tokens at ts
  items_fit at no_items few = refl
  items_fit at (item t ts) few =
      let long = length-append (spelling t) (items_spelling ts) in
      map-append wrapped (tokens_of at t) (items_tokens (at + length (spelling t)) ts)
      ∙ ap₂ (λ x y. x ++ y) (tokens_fit at t (omega (arith, few, long))) (items_fit (at + length (spelling t)) ts (omega (arith, few, long)))

  entries_fit : (at : ℕ) (es : Entries) → at + length (entries_spelling es) < 2 ^ 32 → map wrapped (entries_tokens at es) ≡ entries_tokens at es
  entries_fit at no_entries few = refl
  entries_fit at (entry k t es) few =
      let first = at + length (text_spelling k) in
      let long = length-append (text_spelling k) (spelling t ++ entries_spelling es) in
      let rest = length-append (spelling t) (entries_spelling es) in
      ap₂ (λ x xs. x ∷ xs) (text_fits at k (omega (arith, few, long)))
      (map-append wrapped (tokens_of first t) (entries_tokens (first + length (spelling t)) es)
      ∙ ap₂ (λ x y. x ++ y) (tokens_fit first t (omega (arith, few, long, rest))) (entries_fit (first + length (spelling t)) es (omega (arith, few, long, rest))))

compact_made : (b : List ℕ) (t : Tree) → IsSpelling b t → length b < 2 ^ 32 → map (λ k. compact b (wrapped k)) (tape_of t) ≡ compact_tape_of b t
compact_made b t s few = sym (map-map (compact b) wrapped (tape_of t)) ∙ ap (map (compact b)) (tokens_fit 0 t (omega (arith, few, ap length s.is)))

-- for fewer bytes, their compact tape is put
pub compact_decoded : (b : List ℕ) (old : List CompactToken) → AreBytes b → length b < 2 ^ 32 → decoded_tape (λ t. map (λ k. compact b (wrapped k)) (tape_of t)) (decode b) old ≡ compact_tape_answer b old
compact_decoded b old each few = by (decode b) refl ∙ sym (ap (λ (o : Bool). if o then decoded_tape (compact_tape_of b) (decode b) old else (negsuc 20, 0, old)) (lt-ltb (length b) (2 ^ 32) few))
  where
    by : (q : Decoded Tree) → decode b ≡ q → decoded_tape (λ t. map (λ k. compact b (wrapped k)) (tape_of t)) q old ≡ decoded_tape (compact_tape_of b) q old
    by (got t rest) is = ap (λ ts. (kind_code (kind_of t), length ts, with_tokens ts old)) (compact_made b t (block_got b t rest each is).0 few)
    by (refused why left) is = refl
