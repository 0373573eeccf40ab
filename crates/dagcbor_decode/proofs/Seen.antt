-- A result depends only on the bytes that were seen, and with one byte fewer they are cut.
use Rattle.std.proofs.Common.{◌≡◌, ◌⊎◌, inl, inr, ℕ, zero, suc, ◌+◌, ◌-◌, ◌<◌, ◌/◌, ◌%◌, ◌==◌, List, [], ◌∷◌, ◌++◌, length, take, Bool, true, false, if◌then◌else◌, nat_lt, Option, None, Some, pos, negsuc, codes, refl, sym, ap, ◌∙◌, subst, arith, append_assoc, length-append, length-take, take-append-drop, lt-ltb, le-ltb}
use Rattle.std.proofs.Math.Seq.{take-append-add}
use Rattle.std.proofs.lemmas.List.{take-append-le}
use Rattle.std.proofs.lemmas.Bool.{cases_lt}
use Rattle.std.specs.Int.{Width, from_be_bytes, w8, w16, w32, w64}
use Rattle.ipld_tree.specs.Tree.{Tree, null, boolean, integer, text, bytes, list, mapping, link, item, entry, no_items, no_entries}
use Rattle.dagcbor_decode.specs.Decode.{Why, Decoded, got, refused, eof, mismatch, unsupported, non_minimal, require_utf8, msg, unordered_key, depth_overflow, indefinite_size, after, payload, at_least, number, argument_by, argument_of, string_of, utf8_of, text_of, key_of, follows, in_order, zero_and_cid, cid_bytes_of, cid_of, tag_of, link_of, simple_of, leaf_of, items_of, entries_of, by_major_type, item_of, list_of, map_of}
use Rattle.std.specs.Str.{is_utf8}
use Rattle.dagcbor_decode.specs.CidTest.{is_cid}
use Rattle.dagcbor_decode.proofs.HeadLaws.{payload_front}

abbrev pub IsEndWhy : Why → ℕ → Type 0
IsEndWhy (eof name n) following = following ≡ 0
IsEndWhy _ following = ⊥

abbrev pub IsEnd : {A : Type 0} → Decoded A → Type 0
IsEnd (got a rest) = ⊥
IsEnd (refused why following) = IsEndWhy why following

-- whatever follows s, the result is this one for those bytes; and s with fewer bytes is cut
pub record Decides {A : Type 0} (read : List ℕ → Decoded A) (s : List ℕ) (answer : List ℕ → Decoded A) : Type 0 where
  pub same : (x : List ℕ) → read (s ++ x) ≡ answer x
  pub less : (j : ℕ) → j < length s → IsEnd (read (take j s))

abbrev pub Seen : {A : Type 0} → (List ℕ → Decoded A) → List ℕ → Decoded A → Type 0
Seen read b (got a rest) = (s : List ℕ) × (b ≡ s ++ rest) × Decides read s (got a)
Seen read b (refused why following) = IsEndWhy why following ⊎ ((s rest : List ℕ) × (b ≡ s ++ rest) × (length rest ≡ following) × Decides read s (λ x. refused why (length x)))

abbrev pub Local : {A : Type 0} → (List ℕ → Decoded A) → Type 0
Local read = (b : List ℕ) → Seen read b (read b)

-- ---- if nothing is seen

at_once : {A : Type 0} (read : List ℕ → Decoded A) (answer : List ℕ → Decoded A) → ((x : List ℕ) → read x ≡ answer x) → Decides read [] answer
at_once read answer h = record { same = h; less = λ j l. absurd (omega (arith, l)) }

local_got : {A : Type 0} (a : A) → Local (λ b. got a b)
local_got a b = ([], refl, at_once (got a) (got a) (λ x. refl))

local_no : {A : Type 0} (w : Why) → Local {A = A} (λ b. refused w (length b))
local_no w b = inr ([], b, refl, refl, at_once (λ b. refused w (length b)) (λ b. refused w (length b)) (λ x. refl))

local_if : {A : Type 0} (c : Bool) (r q : List ℕ → Decoded A) → Local r → Local q → Local (λ b. if c then r b else q b)
local_if true r q h k = h
local_if false r q h k = k

-- ---- one after the other

cut_after : {A B : Type 0} (q : Decoded A) (f : A → List ℕ → Decoded B) → IsEnd q → IsEnd (after q f)
cut_after (got a rest) f c = absurd c
cut_after (refused w k) f c = c

decides_no : {A B : Type 0} (r : List ℕ → Decoded A) (f : A → List ℕ → Decoded B) (s : List ℕ) (w : Why) → Decides r s (λ x. refused w (length x)) → Decides (λ b. after (r b) f) s (λ x. refused w (length x))
decides_no r f s w d = record { same = λ x. ap (λ q. after q f) (d.same x); less = λ j l. cut_after (r (take j s)) f (d.less j l) }

decides_both : {A B : Type 0} (r : List ℕ → Decoded A) (f : A → List ℕ → Decoded B) (s u : List ℕ) (a : A) (answer : List ℕ → Decoded B) → Decides r s (got a) → Decides (f a) u answer → Decides (λ b. after (r b) f) (s ++ u) answer
decides_both r f s u a answer d e = record {
  same = λ x. ap (λ b. after (r b) f) (append_assoc s u x) ∙ ap (λ q. after q f) (d.same (u ++ x)) ∙ e.same x;
  less = λ j l. elim (cases_lt j (length s)) [
    | inl few ↦ subst (λ b. IsEnd (after (r b) f)) (sym (take-append-le j s u (omega (arith, few)))) (cut_after (r (take j s)) f (d.less j few))
    | inr more ↦
        let i : j ≡ length s + (j - length s) = omega (arith, more) in
        let c = e.less (j - length s) (omega (arith, l, more, length-append s u)) in
        let at : take j (s ++ u) ≡ s ++ take (j - length s) u = ap (λ k. take k (s ++ u)) i ∙ take-append-add s u (j - length s) in
        subst IsEnd (sym (ap (λ b. after (r b) f) at ∙ ap (λ q. after q f) (d.same (take (j - length s) u)))) c
  ];
}

second : {A B : Type 0} (r : List ℕ → Decoded A) (f : A → List ℕ → Decoded B) (b s mid : List ℕ) (a : A) → b ≡ s ++ mid → Decides r s (got a) → (q : Decoded B) → Seen (f a) mid q → Seen (λ b. after (r b) f) b q
second r f b s mid a is d (got c rest) k = (s ++ k.0, is ∙ ap (λ x. s ++ x) k.1 ∙ sym (append_assoc s k.0 rest), decides_both r f s k.0 a (got c) d k.2)
second r f b s mid a is d (refused w n) (inl c) = inl c
second r f b s mid a is d (refused w n) (inr k) = inr (s ++ k.0, k.1, is ∙ ap (λ x. s ++ x) k.2 ∙ sym (append_assoc s k.0 k.1), k.3, decides_both r f s k.0 a (λ x. refused w (length x)) d k.4)

first : {A B : Type 0} (r : List ℕ → Decoded A) (f : A → List ℕ → Decoded B) → ((a : A) → Local (f a)) → (b : List ℕ) (q : Decoded A) → Seen r b q → Seen (λ b. after (r b) f) b (after q f)
first r f k b (got a mid) h = second r f b h.0 mid a h.1 h.2 (f a mid) (k a mid)
first r f k b (refused w n) (inl c) = inl c
first r f k b (refused w n) (inr h) = inr (h.0, h.1, h.2, h.3, decides_no r f h.0 w h.4)

local_after : {A B : Type 0} (r : List ℕ → Decoded A) (f : A → List ℕ → Decoded B) → Local r → ((a : A) → Local (f a)) → Local (λ b. after (r b) f)
local_after r f h k b = first r f k b (r b) (h b)

-- ---- a first byte

decides_byte : {A : Type 0} (r : List ℕ → Decoded A) (x : ℕ) (s : List ℕ) (answer : List ℕ → Decoded A) → IsEnd (r []) → Decides (λ b. r (x ∷ b)) s answer → Decides r (x ∷ s) answer
decides_byte r x s answer c d = record { same = d.same; less = by }
  where
    by : (j : ℕ) → j < length (x ∷ s) → IsEnd (r (take j (x ∷ s)))
    by zero l = c
    by (suc j) l = d.less j (omega (arith, l))

after_byte : {A : Type 0} (r : List ℕ → Decoded A) (x : ℕ) (b : List ℕ) → IsEnd (r []) → (q : Decoded A) → Seen (λ b. r (x ∷ b)) b q → Seen r (x ∷ b) q
after_byte r x b c (got a rest) h = (x ∷ h.0, ap (λ y. x ∷ y) h.1, decides_byte r x h.0 (got a) c h.2)
after_byte r x b c (refused w n) (inl k) = inl k
after_byte r x b c (refused w n) (inr h) = inr (x ∷ h.0, h.1, ap (λ y. x ∷ y) h.2, h.3, decides_byte r x h.0 (λ y. refused w (length y)) c h.4)

cut_seen : {A : Type 0} (r : List ℕ → Decoded A) (q : Decoded A) → IsEnd q → Seen r [] q
cut_seen r (got a rest) c = absurd c
cut_seen r (refused w n) c = inl c

local_byte : {A : Type 0} (r : List ℕ → Decoded A) → IsEnd (r []) → ((x : ℕ) → Local (λ b. r (x ∷ b))) → Local r
local_byte r c h [] = cut_seen r (r []) c
local_byte r c h (x ∷ b) = after_byte r x b c (r (x ∷ b)) (h x b)

-- ---- heads and strings

few_cut : (name : List ℕ) (n : ℕ) (b : List ℕ) → length b < n → IsEnd (payload name n b)
few_cut name n b h = rw (lt-ltb (length b) n h) refl

local_payload : (name : List ℕ) (n : ℕ) → Local (payload name n)
local_payload name n b = elim (cases_lt (length b) n) [
  | inl few ↦ rw (lt-ltb (length b) n few) (inl refl)
  | inr more ↦
      let long : length (take n b) ≡ n = length-take n b ∙ omega (arith, more) in
      rw (le-ltb (length b) n more) (
        take n b,
        sym (take-append-drop n b),
        record {
          same = λ x. payload_front name n (take n b) x (sym long);
          less = λ j l. few_cut name n (take j (take n b)) (omega (arith, l, long, length-take j (take n b)));
        },
      )
]

local_least : (name : List ℕ) (first least n : ℕ) → Local (at_least name first least n)
local_least name first least n = local_if (nat_lt n least) (λ b. refused (non_minimal name first) (length b)) (got n) (local_no (non_minimal name first)) (local_got n)

local_number : (name : List ℕ) (first : ℕ) (w : Width) (width least : ℕ) → Local (number name first w width least)
local_number name first w width least = local_after (payload name width) (λ s. at_least name first least (from_be_bytes w s)) (local_payload name width) (λ s. local_least name first least (from_be_bytes w s))

local_information : (name : List ℕ) (first i : ℕ) → Local (λ b. argument_by name first b i)
local_information name first i =
    local_if (nat_lt i 24) (got i) _ (local_got i)
    (local_if (i == 24) _ _ (local_number name first w8 1 24)
    (local_if (i == 25) _ _ (local_number name first w16 2 256)
    (local_if (i == 26) _ _ (local_number name first w32 4 65536)
    (local_if (i == 27) _ _ (local_number name first w64 8 4294967296)
    (local_if (i == 31) _ _ (local_no indefinite_size) (local_no (unsupported name first)))))))

local_head : (name : List ℕ) (first : ℕ) → Local (argument_of name first)
local_head name first = local_information name first (first % 32)

local_string : (name : List ℕ) (first : ℕ) → Local (string_of name first)
local_string name first = local_after (argument_of name first) (payload name) (local_head name first) (local_payload name)

local_text : (name : List ℕ) (first : ℕ) → Local (text_of name first)
local_text name first = local_after (string_of name first) (utf8_of name) (local_string name first) (λ s. local_if (is_utf8 s) (got s) _ (local_got s) (local_no (require_utf8 name)))

local_key : (previous : Option (List ℕ)) → Local (key_of previous)
local_key previous = local_byte (key_of previous) refl (λ x. local_if (x / 32 == 3) _ _
    (local_after (text_of (codes "map key") x) (in_order previous) (local_text (codes "map key") x) (λ key. local_if (follows previous key) (got key) _ (local_got key) (local_no unordered_key)))
    (local_no (mismatch (codes "map key") x)))

-- ---- leaves

local_zero : (s : List ℕ) → Local (zero_and_cid s)
local_zero [] = local_no (msg (codes "Invalid CID"))
local_zero (zero ∷ cid) = local_if (is_cid cid) (got (link cid)) _ (local_got (link cid)) (local_no (msg (codes "Invalid CID")))
local_zero (suc n ∷ cid) = local_no (msg (codes "Invalid CID"))

local_cid_bytes : (n : ℕ) → Local (cid_bytes_of n)
local_cid_bytes n = local_if (nat_lt 87 n) _ _ (local_no (msg (codes "Invalid CID"))) (local_after (payload (codes "cid") n) (zero_and_cid) (local_payload (codes "cid") n) (local_zero))

local_cid : Local (cid_of)
local_cid = local_byte (cid_of) refl (λ x. local_if (x / 32 == 2) _ _ (local_after (argument_of (codes "cid") x) (cid_bytes_of) (local_head (codes "cid") x) (local_cid_bytes)) (local_no (unsupported (codes "cid") x)))

local_tagged : Local (tag_of)
local_tagged = local_byte (tag_of) refl (λ x. local_if (x == 0x2a) _ _ (local_cid) (local_no (mismatch (codes "CBOR tag") x)))

local_link : (x : ℕ) → Local (link_of x)
local_link x = local_if (x == 0xd8) _ _ (local_tagged) (local_no (mismatch (codes "CBOR tag head") x))

local_simple : (x : ℕ) → Local (simple_of x)
local_simple x = local_if (x == 0xf4) _ _ (local_got (boolean false)) (local_if (x == 0xf5) _ _ (local_got (boolean true)) (local_if (x == 0xf6) _ _ (local_got null) (local_no (unsupported (codes "any") x))))

local_leaf : (x : ℕ) → Local (leaf_of x)
local_leaf x =
    local_if (x / 32 == 0) _ _ (local_after (argument_of (codes "u64") x) (λ n. got (integer (pos n))) (local_head (codes "u64") x) (λ n. local_got (integer (pos n))))
    (local_if (x / 32 == 1) _ _ (local_after (argument_of (codes "any") x) (λ n. got (integer (negsuc n))) (local_head (codes "any") x) (λ n. local_got (integer (negsuc n))))
    (local_if (x / 32 == 2) _ _ (local_after (string_of (codes "bytes") x) (λ s. got (bytes s)) (local_string (codes "bytes") x) (λ s. local_got (bytes s)))
    (local_if (x / 32 == 3) _ _ (local_after (text_of (codes "string") x) (λ s. got (text s)) (local_text (codes "string") x) (λ s. local_got (text s)))
    (local_if (x / 32 == 6) _ _ (local_link x) (local_simple x)))))

-- ---- items

local_items : (any : List ℕ → Decoded Tree) → Local any → (count : ℕ) → Local (items_of any count)
local_items any h zero = local_got no_items
local_items any h (suc count) = local_after any (λ u rest. after (items_of any count rest) (λ us. got (item u us))) h
    (λ u. local_after (items_of any count) (λ us. got (item u us)) (local_items any h count) (λ us. local_got (item u us)))

local_entries : (any : List ℕ → Decoded Tree) → Local any → (count : ℕ) (previous : Option (List ℕ)) → Local (entries_of any count previous)
local_entries any h zero previous = local_got no_entries
local_entries any h (suc count) previous = local_after (key_of previous) (λ key following. after (any following) (λ u rest. after (entries_of any count (Some key) rest) (λ es. got (entry key u es)))) (local_key previous)
    (λ key. local_after any (λ u rest. after (entries_of any count (Some key) rest) (λ es. got (entry key u es))) h
    (λ u. local_after (entries_of any count (Some key)) (λ es. got (entry key u es)) (local_entries any h count (Some key)) (λ es. local_got (entry key u es))))

local_item : (l m : ℕ → List ℕ → Decoded Tree) (x : ℕ) → Local (l x) → Local (m x) → Local (by_major_type l m x)
local_item l m x h k = local_if (x % 32 == 31) _ _ (local_no indefinite_size) (local_if (x / 32 == 4) _ _ h (local_if (x / 32 == 5) _ _ k (local_leaf x)))

local_list : (steps x : ℕ) → Local (item_of steps) → Local (list_of (suc steps) x)
local_list steps x h = local_after (argument_of (codes "array") x) (λ n rest. after (items_of (item_of steps) n rest) (λ us. got (list us))) (local_head (codes "array") x)
    (λ n. local_after (items_of (item_of steps) n) (λ us. got (list us)) (local_items (item_of steps) h n) (λ us. local_got (list us)))

local_map : (steps x : ℕ) → Local (item_of steps) → Local (map_of (suc steps) x)
local_map steps x h = local_after (argument_of (codes "map") x) (λ n rest. after (entries_of (item_of steps) n None rest) (λ es. got (mapping es))) (local_head (codes "map") x)
    (λ n. local_after (entries_of (item_of steps) n None) (λ es. got (mapping es)) (local_entries (item_of steps) h n None) (λ es. local_got (mapping es)))

-- The result for an item depends only on the bytes that were seen, and with fewer they are cut.
pub local_any : (steps : ℕ) → Local (item_of steps)
local_any zero = local_no (depth_overflow (codes "any"))
local_any (suc zero) = local_byte (item_of 1) refl (λ x. local_item (list_of 0) (map_of 0) x (local_no (depth_overflow (codes "array"))) (local_no (depth_overflow (codes "map"))))
local_any (suc (suc steps)) = local_byte (item_of (suc (suc steps))) refl (λ x. local_item (list_of (suc steps)) (map_of (suc steps)) x (local_list steps x (local_any steps)) (local_map steps x (local_any steps)))
