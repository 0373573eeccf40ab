-- A tree whose spelling is at the front is read.
use Rattle.std.proofs.Common.{◌≡◌, inl, inr, ℕ, zero, suc, ◌/◌, ◌%◌, ◌^◌, ◌<◌, ◌≤◌, ◌==◌, List, [], ◌∷◌, ◌++◌, length, true, false, Option, None, Some, IsUtf8, pos, negsuc, codes, refl, sym, ap, ◌∙◌, arith, append_assoc, append-nil, le-ltb}
use Rattle.std.specs.Str.{is_utf8}
use Rattle.std.proofs.lemmas.Str.{is_utf8-from_IsUtf8}
use Rattle.std.proofs.lemmas.Bool.Decides.{eqb_tells}
use Rattle.dagcbor_core.specs.Head.{head}
use Rattle.ipld_tree.specs.Cid.{IsCid}
use Rattle.ipld_tree.specs.Tree.{Tree, null, boolean, integer, text, bytes, list, mapping, link, Items, no_items, item, Entries, no_entries, entry, IsTree, AreItems, AreEntries, any_need, items_need, entries_need}
use Rattle.ipld_tree.specs.Spelling.{item_count, entry_count, spelling, items_spelling, entries_spelling, text_spelling, bytes_spelling, IsSpellable, AreSpellableItems, AreSpellableEntries, IsFront, IsSpelling}
use Rattle.ipld_tree.proofs.Cids.{cid_length}
use Rattle.dagcbor_decode.specs.Decode.{Decoded, got, after, payload, argument_of, string_of, utf8_of, text_of, key_of, follows, in_order, zero_and_cid, cid_bytes_of, cid_of, items_of, entries_of, by_major_type, item_of, list_of, map_of, decode, at_end}
use Rattle.dagcbor_decode.specs.CidTest.{is_cid}
use Rattle.dagcbor_decode.proofs.CidTest.{cid_tested}
use Rattle.dagcbor_decode.proofs.HeadLaws.{head_front, payload_front}
use Rattle.dagcbor_decode.proofs.Sound.{ComesFirst}

other_information : (i : ℕ) → i < 28 → (i == 31) ≡ false
other_information i h = elim (eqb_tells i 31) [ inl a ↦ absurd (omega (arith, h, a.1)) | inr a ↦ a.0 ]

-- what is read if a head is at the front
pub led : (steps major n : ℕ) (following : List ℕ) (v : Decoded Tree) → n < 2 ^ 64
    → ((first : ℕ) (more : List ℕ) → first / 32 ≡ major → (first % 32 == 31) ≡ false → ((name : List ℕ) → argument_of name first more ≡ got n following) → by_major_type (list_of steps) (map_of steps) first more ≡ v)
    → item_of (suc steps) (head major n ++ following) ≡ v
led steps major n following v fits f =
    let h = head_front major n following fits in
    ap (item_of (suc steps)) h.is ∙ f h.first h.more h.major_is (other_information _ h.defined) h.reads

string_front : (name : List ℕ) (first : ℕ) (more s rest : List ℕ) → ((name : List ℕ) → argument_of name first more ≡ got (length s) (s ++ rest)) → string_of name first more ≡ got s rest
string_front name first more s rest r = ap (λ x. after x (payload name)) (r name) ∙ payload_front name (length s) s rest refl

pub text_front : (name : List ℕ) (first : ℕ) (more s rest : List ℕ) → IsUtf8 s → ((name : List ℕ) → argument_of name first more ≡ got (length s) (s ++ rest)) → text_of name first more ≡ got s rest
text_front name first more s rest w r =
    let yes : is_utf8 s ≡ true = is_utf8-from_IsUtf8 s w in
    ap (λ x. after x (utf8_of name)) (string_front name first more s rest r) ∙ rw yes refl

pub key_front : (previous : Option (List ℕ)) (key rest : List ℕ) → IsUtf8 key → length key < 2 ^ 64 → follows previous key ≡ true → key_of previous (text_spelling key ++ rest) ≡ got key rest
key_front previous key rest w fits f =
    let h = head_front 3 (length key) (key ++ rest) fits in
    ap (key_of previous) (append_assoc (head 3 (length key)) key rest ∙ h.is)
    ∙ rw h.major_is (ap (λ x. after x (in_order previous)) (text_front (codes "map key") h.first h.more key rest w h.reads) ∙ rw f refl)

cid_front : (cid rest : List ℕ) → IsCid cid → length (0x00 ∷ cid) < 2 ^ 64 → cid_of (bytes_spelling (0x00 ∷ cid) ++ rest) ≡ got (link cid) rest
cid_front cid rest w fits =
    let h = head_front 2 (length (0x00 ∷ cid)) ((0x00 ∷ cid) ++ rest) fits in
    let yes : is_cid cid ≡ true = (cid_tested cid).1 w in
    ap (cid_of) (append_assoc (head 2 (length (0x00 ∷ cid))) (0x00 ∷ cid) rest ∙ h.is)
    ∙ rw h.major_is (ap (λ x. after x (cid_bytes_of)) (h.reads (codes "cid"))
    ∙ rw (le-ltb 87 (length (0x00 ∷ cid)) (omega (arith, cid_length cid w)))
    (ap (λ x. after x (zero_and_cid)) (payload_front (codes "cid") (length (0x00 ∷ cid)) (0x00 ∷ cid) rest refl) ∙ rw yes refl))

-- ---- an item, by its major type

item_pos : (list_of map_of : ℕ → List ℕ → Decoded Tree) (first : ℕ) (b : List ℕ) → (first % 32 == 31) ≡ false → first / 32 ≡ 0 → by_major_type list_of map_of first b ≡ after (argument_of (codes "u64") first b) (λ n. got (integer (pos n)))
item_pos list_of map_of first b i m = rw (i, m) refl

item_negsuc : (list_of map_of : ℕ → List ℕ → Decoded Tree) (first : ℕ) (b : List ℕ) → (first % 32 == 31) ≡ false → first / 32 ≡ 1 → by_major_type list_of map_of first b ≡ after (argument_of (codes "any") first b) (λ n. got (integer (negsuc n)))
item_negsuc list_of map_of first b i m = rw (i, m) refl

item_bytes : (list_of map_of : ℕ → List ℕ → Decoded Tree) (first : ℕ) (b : List ℕ) → (first % 32 == 31) ≡ false → first / 32 ≡ 2 → by_major_type list_of map_of first b ≡ after (string_of (codes "bytes") first b) (λ s. got (bytes s))
item_bytes list_of map_of first b i m = rw (i, m) refl

item_text : (list_of map_of : ℕ → List ℕ → Decoded Tree) (first : ℕ) (b : List ℕ) → (first % 32 == 31) ≡ false → first / 32 ≡ 3 → by_major_type list_of map_of first b ≡ after (text_of (codes "string") first b) (λ s. got (text s))
item_text list_of map_of first b i m = rw (i, m) refl

pub item_list : (list_of map_of : ℕ → List ℕ → Decoded Tree) (first : ℕ) (b : List ℕ) → (first % 32 == 31) ≡ false → first / 32 ≡ 4 → by_major_type list_of map_of first b ≡ list_of first b
item_list list_of map_of first b i m = rw (i, m) refl

pub item_map : (list_of map_of : ℕ → List ℕ → Decoded Tree) (first : ℕ) (b : List ℕ) → (first % 32 == 31) ≡ false → first / 32 ≡ 5 → by_major_type list_of map_of first b ≡ map_of first b
item_map list_of map_of first b i m = rw (i, m) refl

some_need : (u : Tree) → 1 ≤ any_need u
some_need (list us) = omega arith
some_need (mapping es) = omega arith
some_need _ = omega arith

key_follows : (previous : Option (List ℕ)) (key : List ℕ) (u : Tree) (es : Entries) → ComesFirst previous (entry key u es) → follows previous key ≡ true
key_follows None key u es h = refl
key_follows (Some k) key u es h = h

mutual
  any_front : (u : Tree) → IsTree u → IsSpellable u → (steps : ℕ) → any_need u ≤ suc steps → (rest : List ℕ) → item_of (suc steps) (spelling u ++ rest) ≡ got u rest
  any_front null w s steps h rest = refl
  any_front (boolean false) w s steps h rest = refl
  any_front (boolean true) w s steps h rest = refl
  any_front (integer (pos n)) w s steps h rest = led steps 0 n rest _ s (λ first more m i r. item_pos (list_of steps) (map_of steps) first more i m ∙ (ap (λ x. after x (λ n. got (integer (pos n)))) (r (codes "u64"))))
  any_front (integer (negsuc n)) w s steps h rest = led steps 1 n rest _ s (λ first more m i r. item_negsuc (list_of steps) (map_of steps) first more i m ∙ (ap (λ x. after x (λ n. got (integer (negsuc n)))) (r (codes "any"))))
  any_front (bytes b) w s steps h rest =
      ap (item_of (suc steps)) (append_assoc (head 2 (length b)) b rest)
      ∙ led steps 2 (length b) (b ++ rest) _ s (λ first more m i r. item_bytes (list_of steps) (map_of steps) first more i m ∙ (ap (λ x. after x (λ b. got (bytes b))) (string_front (codes "bytes") first more b rest r)))
  any_front (text b) w s steps h rest =
      ap (item_of (suc steps)) (append_assoc (head 3 (length b)) b rest)
      ∙ led steps 3 (length b) (b ++ rest) _ s (λ first more m i r. item_text (list_of steps) (map_of steps) first more i m ∙ (ap (λ x. after x (λ b. got (text b))) (text_front (codes "string") first more b rest w r)))
  any_front (link cid) w s steps h rest = cid_front cid rest w (omega (arith, s))
  any_front (list us) w s zero h rest = absurd (omega (arith, h))
  any_front (list us) w s (suc steps) h rest =
      ap (item_of (suc (suc steps))) (append_assoc (head 4 (item_count us)) (items_spelling us) rest)
      ∙ led (suc steps) 4 (item_count us) (items_spelling us ++ rest) _ s.0 (λ first more m i r. item_list (list_of (suc steps)) (map_of (suc steps)) first more i m ∙
      (ap (λ x. after x (λ n rest. after (items_of (item_of steps) n rest) (λ us. got (list us)))) (r (codes "array"))
      ∙ ap (λ x. after x (λ us. got (list us))) (items_front us w s.1 steps (omega (arith, h)) rest)))
  any_front (mapping es) w s zero h rest = absurd (omega (arith, h))
  any_front (mapping es) w s (suc steps) h rest =
      ap (item_of (suc (suc steps))) (append_assoc (head 5 (entry_count es)) (entries_spelling es) rest)
      ∙ led (suc steps) 5 (entry_count es) (entries_spelling es ++ rest) _ s.0 (λ first more m i r. item_map (list_of (suc steps)) (map_of (suc steps)) first more i m ∙
      (ap (λ x. after x (λ n rest. after (entries_of (item_of steps) n None rest) (λ es. got (mapping es)))) (r (codes "map"))
      ∙ ap (λ x. after x (λ es. got (mapping es))) (entries_front es w s.1 steps (omega (arith, h)) None tt rest)))

  items_front : (us : Items) → AreItems us → AreSpellableItems us → (steps : ℕ) → items_need us ≤ steps → (rest : List ℕ) → items_of (item_of steps) (item_count us) (items_spelling us ++ rest) ≡ got us rest
  items_front no_items w s steps h rest = refl
  items_front (item u us) w s zero h rest = absurd (omega (arith, h, some_need u))
  items_front (item u us) w s (suc steps) h rest =
      ap (λ b. items_of (item_of (suc steps)) (suc (item_count us)) b) (append_assoc (spelling u) (items_spelling us) rest)
      ∙ ap (λ x. after x (λ u rest. after (items_of (item_of (suc steps)) (item_count us) rest) (λ us. got (item u us)))) (any_front u w.0 s.0 steps (omega (arith, h)) (items_spelling us ++ rest))
      ∙ ap (λ x. after x (λ us. got (item u us))) (items_front us w.1 s.1 (suc steps) (omega (arith, h)) rest)

  entries_front : (es : Entries) → AreEntries es → AreSpellableEntries es → (steps : ℕ) → entries_need es ≤ steps → (previous : Option (List ℕ)) → ComesFirst previous es → (rest : List ℕ)
      → entries_of (item_of steps) (entry_count es) previous (entries_spelling es ++ rest) ≡ got es rest
  entries_front no_entries w s steps h previous f rest = refl
  entries_front (entry k u es) w s zero h previous f rest = absurd (omega (arith, h, some_need u))
  entries_front (entry k u es) w s (suc steps) h previous f rest =
      ap (λ b. entries_of (item_of (suc steps)) (suc (entry_count es)) previous b) (append_assoc (text_spelling k) (spelling u ++ entries_spelling es) rest ∙ ap (λ x. text_spelling k ++ x) (append_assoc (spelling u) (entries_spelling es) rest))
      ∙ ap (λ x. after x (λ key following. after (item_of (suc steps) following) (λ u rest. after (entries_of (item_of (suc steps)) (entry_count es) (Some key) rest) (λ es. got (entry key u es)))))
      (key_front previous k (spelling u ++ (entries_spelling es ++ rest)) w.0 s.0 (key_follows previous k u es f))
      ∙ ap (λ x. after x (λ u rest. after (entries_of (item_of (suc steps)) (entry_count es) (Some k) rest) (λ es. got (entry k u es)))) (any_front u w.1 s.1 steps (omega (arith, h)) (entries_spelling es ++ rest))
      ∙ ap (λ x. after x (λ es. got (entry k u es))) (entries_front es w.3 s.2 (suc steps) (omega (arith, h)) (Some k) w.2 rest)

-- A tree at the front is read, if its need is within the steps.
pub any_reads : (steps : ℕ) (b : List ℕ) (u : Tree) (rest : List ℕ) → IsFront b u rest → any_need u ≤ steps → item_of steps b ≡ got u rest
any_reads zero b u rest f h = absurd (omega (arith, h, some_need u))
any_reads (suc steps) b u rest f h = ap (item_of (suc steps)) f.is ∙ any_front u f.well_formed f.spellable steps h rest

pub block_reads : (b : List ℕ) (u : Tree) → IsSpelling b u → any_need u ≤ 256 → decode b ≡ got u []
block_reads b u s h =
    ap (λ x. after x at_end) (any_reads 256 b u [] record { well_formed = s.well_formed; spellable = s.spellable; is = s.is ∙ sym (append-nil (spelling u)) } h)
