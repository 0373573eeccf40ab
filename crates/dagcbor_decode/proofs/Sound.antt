-- What is read is a tree, and the bytes begin with its spelling.
use Rattle.std.proofs.Common.{◌≡◌, inl, inr, ℕ, zero, suc, ◌/◌, ◌%◌, ◌^◌, ◌<◌, ◌≤◌, ◌==◌, List, [], ◌∷◌, ◌++◌, length, true, false, if◌then◌else◌, nat_lt, Option, None, Some, pos, negsuc, codes, refl, sym, ap, ap₂, ◌∙◌, subst, arith, append_assoc, append-nil}
use Rattle.std.specs.Bool.{⊤}
use Rattle.std.specs.Str.{is_utf8}
use Rattle.std.proofs.lemmas.Str.{IsUtf8-from_is_utf8}
use Rattle.std.proofs.lemmas.Bool.{eqb-true}
use Rattle.std.proofs.lemmas.Bool.Decides.{eqb_tells}
use Rattle.dagcbor_core.specs.Head.{head}
use Rattle.ipld_tree.specs.Cid.{IsCid}
use Rattle.ipld_tree.specs.Tree.{Tree, null, boolean, integer, text, bytes, list, mapping, link, Items, no_items, item, Entries, no_entries, entry, Precedes, any_need, items_need, entries_need}
use Rattle.ipld_tree.specs.Spelling.{item_count, entry_count, spelling, entries_spelling, IsFront, AreFronts, AreEntryFronts, IsSpelling}
use Rattle.ipld_tree.proofs.Fronts.{list_closed, item_closed, entry_closed}
use Rattle.dagcbor_decode.specs.Decode.{Decoded, got, refused, mismatch, unsupported, require_utf8, no_cid, unordered_key, indefinite_size, after, payload, argument_of, string_of, utf8_of, text_of, key_of, follows, in_order, zero_and_cid, cid_bytes_of, cid_of, tag_of, link_of, simple_of, leaf_of, items_of, entries_of, by_major_type, item_of, list_of, map_of, decode, at_end}
use Rattle.dagcbor_decode.specs.CidTest.{is_cid}
use Rattle.dagcbor_decode.proofs.CidTest.{cid_tested}
use Rattle.dagcbor_decode.proofs.HeadLaws.{after_got, if_only, if_not, same_read, payload_got, head_got, AreBytes, bytes_of_rest}

-- what holds of the one holds of the other
got_in : {A : Type 0} (P : A → List ℕ → Type 0) (a c : A) (x y : List ℕ) → got a x ≡ got c y → P a x → P c y
got_in P a c x y e p = let s = same_read a c x y e in subst (λ z. P c z) s.1 (subst (λ z. P z x) s.0 p)

-- ---- strings

-- a string of the major type, and what follows it
abbrev IsString : ℕ → List ℕ → List ℕ → List ℕ → Type 0
IsString major b s rest = (length s < 2 ^ 64) × (b ≡ (head major (length s) ++ s) ++ rest)

string_got : (name : List ℕ) (major first : ℕ) (b s rest : List ℕ) → AreBytes b → first / 32 ≡ major → string_of name first b ≡ got s rest → IsString major (first ∷ b) s rest
string_got name major first b s rest r m e =
    let h = after_got (argument_of name first b) (payload name) s rest e in
    let k = head_got name first h.0 b h.1 r h.2 in
    let p = payload_got name h.0 h.1 s rest h.3 in (
      omega (arith, k.0, p.0),
      k.1 ∙ ap (λ x. head (first / 32) h.0 ++ x) p.1 ∙ ap₂ (λ x y. head x y ++ (s ++ rest)) m (sym p.0) ∙ sym (append_assoc (head major (length s)) s rest),
    )

text_got : (name : List ℕ) (first : ℕ) (b s rest : List ℕ) → AreBytes b → first / 32 ≡ 3 → text_of name first b ≡ got s rest → IsFront (first ∷ b) (text s) rest
text_got name first b s rest r m e =
    let h = after_got (string_of name first b) (utf8_of name) s rest e in
    let c = if_only (is_utf8 h.0) (got h.0 h.1) (refused (require_utf8 name) (length h.1)) s rest (λ x. absurd (cc x)) h.3 in
    let k = string_got name 3 first b h.0 h.1 r m h.2 in
    got_in (λ s rest. IsFront (first ∷ b) (text s) rest) h.0 s h.1 rest c.1 record { well_formed = IsUtf8-from_is_utf8 h.0 c.0; spellable = k.0; is = k.1 }

pub key_got : (previous : Option (List ℕ)) (b key rest : List ℕ) → AreBytes b → key_of previous b ≡ got key rest → IsFront b (text key) rest × (follows previous key ≡ true)
key_got previous [] key rest r e = absurd (cc e)
key_got previous (first ∷ b) key rest r e =
    let m = if_only (first / 32 == 3) (after (text_of (codes "map key") first b) (in_order previous)) (refused (mismatch (codes "map key") first) (length b)) key rest (λ x. absurd (cc x)) e in
    let h = after_got (text_of (codes "map key") first b) (in_order previous) key rest m.1 in
    let c = if_only (follows previous h.0) (got h.0 h.1) (refused unordered_key (length h.1)) key rest (λ x. absurd (cc x)) h.3 in
    got_in (λ key rest. IsFront (first ∷ b) (text key) rest × (follows previous key ≡ true)) h.0 key h.1 rest c.1
    (text_got (codes "map key") first b h.0 h.1 (bytes_of_rest (first ∷ []) b r) (eqb-true (first / 32) 3 m.0) h.2, c.0)

-- ---- links

abbrev IsLink : List ℕ → Tree → List ℕ → Type 0
IsLink b u rest = (cid : List ℕ) × (u ≡ link cid) × IsCid cid × IsString 2 b (0x00 ∷ cid) rest

zero_got : (s rest : List ℕ) (u : Tree) (after : List ℕ) → zero_and_cid s rest ≡ got u after → (cid : List ℕ) × (s ≡ 0x00 ∷ cid) × IsCid cid × (u ≡ link cid) × (rest ≡ after)
zero_got [] rest u after e = absurd (cc e)
zero_got (zero ∷ cid) rest u after e =
    let c = if_only (is_cid cid) (got (link cid) rest) (no_cid rest) u after (λ x. absurd (cc x)) e in
    let s = same_read _ _ _ _ c.1 in
    (cid, refl, (cid_tested cid).0 c.0, sym s.0, s.1)
zero_got (suc n ∷ cid) rest u after e = absurd (cc e)

cid_got : (b : List ℕ) (u : Tree) (rest : List ℕ) → AreBytes b → cid_of b ≡ got u rest → IsLink b u rest
cid_got [] u rest r e = absurd (cc e)
cid_got (first ∷ b) u rest r e =
    let m = if_only (first / 32 == 2) (after (argument_of (codes "cid") first b) (cid_bytes_of)) (refused (unsupported (codes "cid") first) (length b)) u rest (λ x. absurd (cc x)) e in
    let h = after_got (argument_of (codes "cid") first b) (cid_bytes_of) u rest m.1 in
    let l = if_not (nat_lt 87 h.0) (no_cid h.1) (after (payload (codes "cid") h.0 h.1) (zero_and_cid)) u rest (λ x. absurd (cc x)) h.3 in
    let p = after_got (payload (codes "cid") h.0 h.1) (zero_and_cid) u rest l.1 in
    let z = zero_got p.0 p.1 u rest p.3 in
    let at_end : string_of (codes "cid") first b ≡ got p.0 p.1 = ap (λ x. after x (payload (codes "cid"))) h.2 ∙ p.2 in
    let k = string_got (codes "cid") 2 first b p.0 p.1 (bytes_of_rest (first ∷ []) b r) (eqb-true (first / 32) 2 m.0) at_end in
    (z.0, z.3, z.2, subst (λ x. IsString 2 (first ∷ b) x rest) {x = p.0} {y = 0x00 ∷ z.0} z.1 (subst (λ x. IsString 2 (first ∷ b) p.0 x) {x = p.1} {y = rest} z.4 k))

-- a leaf
abbrev IsLeafFront : List ℕ → Tree → List ℕ → Type 0
IsLeafFront b u rest = IsFront b u rest × (any_need u ≤ 1)

tagged_got : (b : List ℕ) (u : Tree) (rest : List ℕ) → AreBytes b → tag_of b ≡ got u rest → IsLeafFront (0xd8 ∷ b) u rest
tagged_got [] u rest r e = absurd (cc e)
tagged_got (second ∷ b) u rest r e =
    let m = if_only (second == 0x2a) (cid_of b) (refused (mismatch (codes "CBOR tag") second) (length b)) u rest (λ x. absurd (cc x)) e in
    let k = cid_got b u rest (bytes_of_rest (second ∷ []) b r) m.1 in
    subst (λ u. IsLeafFront (0xd8 ∷ second ∷ b) u rest) (sym k.1)
    (record { well_formed = k.2; spellable = omega (arith, k.3.0); is = ap₂ (λ x y. 0xd8 ∷ x ∷ y) (eqb-true second 0x2a m.0) k.3.1 }, omega arith)

link_got : (first : ℕ) (b : List ℕ) (u : Tree) (rest : List ℕ) → AreBytes b → link_of first b ≡ got u rest → IsLeafFront (first ∷ b) u rest
link_got first b u rest r e =
    let m = if_only (first == 0xd8) (tag_of b) (refused (mismatch (codes "CBOR tag head") first) (length b)) u rest (λ x. absurd (cc x)) e in
    subst (λ x. IsLeafFront (x ∷ b) u rest) (sym (eqb-true first 0xd8 m.0)) (tagged_got b u rest r m.1)

-- ---- other leaves

abbrev pub simple_else : ℕ → List ℕ → Decoded Tree
simple_else first b = refused (unsupported (codes "any") first) (length b)

simple_got : (first : ℕ) (b : List ℕ) (u : Tree) (rest : List ℕ) → simple_of first b ≡ got u rest → IsLeafFront (first ∷ b) u rest
simple_got first b u rest e = elim (eqb_tells first 0xf4) [
  | inl h ↦ got_in (IsLeafFront (first ∷ b)) (boolean false) u b rest (rw h.0 at e) (record { well_formed = tt; spellable = tt; is = ap (λ x. x ∷ b) h.1 }, omega arith)
  | inr h ↦ elim (eqb_tells first 0xf5) [
    | inl k ↦ got_in (IsLeafFront (first ∷ b)) (boolean true) u b rest (rw (h.0, k.0) at e) (record { well_formed = tt; spellable = tt; is = ap (λ x. x ∷ b) k.1 }, omega arith)
    | inr k ↦ elim (eqb_tells first 0xf6) [
      | inl l ↦ got_in (IsLeafFront (first ∷ b)) null u b rest (rw (h.0, k.0, l.0) at e) (record { well_formed = tt; spellable = tt; is = ap (λ x. x ∷ b) l.1 }, omega arith)
      | inr l ↦ let no_one : simple_else first b ≡ got u rest = rw (h.0, k.0, l.0) at e in absurd (cc no_one)
    ]
  ]
]

integer_got : (name : List ℕ) (major first : ℕ) (b : List ℕ) (f : ℕ → Tree) (u : Tree) (rest : List ℕ) → AreBytes b → first / 32 ≡ major
    → ((n : ℕ) (mid : List ℕ) → n < 2 ^ 64 → IsLeafFront (head major n ++ mid) (f n) mid) → after (argument_of name first b) (λ n. got (f n)) ≡ got u rest → IsLeafFront (first ∷ b) u rest
integer_got name major first b f u rest r m g e =
    let h = after_got (argument_of name first b) (λ n. got (f n)) u rest e in
    let k = head_got name first h.0 b h.1 r h.2 in
    got_in (IsLeafFront (first ∷ b)) (f h.0) u h.1 rest h.3
    (subst (λ x. IsLeafFront x (f h.0) h.1) (sym (k.1 ∙ ap (λ x. head x h.0 ++ h.1) m)) (g h.0 h.1 k.0))

pub leaf_got : (first : ℕ) (b : List ℕ) (u : Tree) (rest : List ℕ) → AreBytes b → leaf_of first b ≡ got u rest → IsLeafFront (first ∷ b) u rest
leaf_got first b u rest r e = elim (eqb_tells (first / 32) 0) [
  | inl h0 ↦ integer_got (codes "u64") 0 first b (λ n. integer (pos n)) u rest r h0.1 (λ n mid fits. (record { well_formed = tt; spellable = fits; is = refl }, omega arith)) (rw h0.0 at e)
  | inr h0 ↦ elim (eqb_tells (first / 32) 1) [
    | inl h1 ↦ integer_got (codes "any") 1 first b (λ n. integer (negsuc n)) u rest r h1.1 (λ n mid fits. (record { well_formed = tt; spellable = fits; is = refl }, omega arith)) (rw (h0.0, h1.0) at e)
    | inr h1 ↦ elim (eqb_tells (first / 32) 2) [
      | inl h2 ↦
          let d : after (string_of (codes "bytes") first b) (λ s. got (bytes s)) ≡ got u rest = rw (h0.0, h1.0, h2.0) at e in
          let h = after_got (string_of (codes "bytes") first b) (λ s. got (bytes s)) u rest d in
          let k = string_got (codes "bytes") 2 first b h.0 h.1 r h2.1 h.2 in
          got_in (IsLeafFront (first ∷ b)) (bytes h.0) u h.1 rest h.3 (record { well_formed = tt; spellable = k.0; is = k.1 }, omega arith)
      | inr h2 ↦ elim (eqb_tells (first / 32) 3) [
        | inl h3 ↦
            let d : after (text_of (codes "string") first b) (λ s. got (text s)) ≡ got u rest = rw (h0.0, h1.0, h2.0, h3.0) at e in
            let h = after_got (text_of (codes "string") first b) (λ s. got (text s)) u rest d in
            got_in (IsLeafFront (first ∷ b)) (text h.0) u h.1 rest h.3 (text_got (codes "string") first b h.0 h.1 r h3.1 h.2, omega arith)
        | inr h3 ↦ elim (eqb_tells (first / 32) 6) [
          | inl h6 ↦ link_got first b u rest r (rw (h0.0, h1.0, h2.0, h3.0, h6.0) at e)
          | inr h6 ↦ simple_got first b u rest (rw (h0.0, h1.0, h2.0, h3.0, h6.0) at e)
        ]
      ]
    ]
  ]
]

-- ---- items and entries

-- what reads an item within this many steps
abbrev pub IsSound : (List ℕ → Decoded Tree) → ℕ → Type 0
IsSound any steps = (b : List ℕ) (u : Tree) (rest : List ℕ) → AreBytes b → any b ≡ got u rest → IsFront b u rest × (any_need u ≤ steps)

bytes_after : (b rest : List ℕ) (u : Tree) → IsFront b u rest → AreBytes b → AreBytes rest
bytes_after b rest u h r = bytes_of_rest (spelling u) rest (subst AreBytes h.is r)

pub items_got : (any : List ℕ → Decoded Tree) (steps : ℕ) → IsSound any steps → (count : ℕ) (b : List ℕ) (us : Items) (rest : List ℕ) → AreBytes b → items_of any count b ≡ got us rest
    → (item_count us ≡ count) × AreFronts b us rest × (items_need us ≤ steps)
items_got any steps sound zero b us rest r e =
    got_in (λ us rest. (item_count us ≡ 0) × AreFronts b us rest × (items_need us ≤ steps)) no_items us b rest e (refl, record { well_formed = tt; spellable = tt; is = refl }, omega arith)
items_got any steps sound (suc count) b us rest r e =
    let h = after_got (any b) (λ u mid. after (items_of any count mid) (λ us. got (item u us))) us rest e in
    let k = sound b h.0 h.1 r h.2 in
    let m = after_got (items_of any count h.1) (λ us. got (item h.0 us)) us rest h.3 in
    let l = items_got any steps sound count h.1 m.0 m.1 (bytes_after b h.1 h.0 k.0 r) m.2 in
    got_in (λ us rest. (item_count us ≡ suc count) × AreFronts b us rest × (items_need us ≤ steps)) (item h.0 m.0) us m.1 rest m.3
    (ap suc l.0, item_closed b h.1 m.1 h.0 m.0 k.0 l.1, omega (arith, k.1, l.2))

-- the first key may follow the previous one
abbrev pub ComesFirst : Option (List ℕ) → Entries → Type 0
ComesFirst None es = ⊤
ComesFirst (Some k) es = Precedes k es

comes_first : (previous : Option (List ℕ)) (key : List ℕ) (u : Tree) (es : Entries) → follows previous key ≡ true → ComesFirst previous (entry key u es)
comes_first None key u es h = tt
comes_first (Some k) key u es h = h

none_first : (previous : Option (List ℕ)) → ComesFirst previous no_entries
none_first None = tt
none_first (Some k) = tt

abbrev pub IsRead : (steps count : ℕ) → Option (List ℕ) → List ℕ → Entries → List ℕ → Type 0
IsRead steps count previous b es rest = (entry_count es ≡ count) × AreEntryFronts b es rest × (entries_need es ≤ steps) × ComesFirst previous es

pub entries_got : (any : List ℕ → Decoded Tree) (steps : ℕ) → IsSound any steps → (count : ℕ) (previous : Option (List ℕ)) (b : List ℕ) (es : Entries) (rest : List ℕ) → AreBytes b → entries_of any count previous b ≡ got es rest
    → IsRead steps count previous b es rest
entries_got any steps sound zero previous b es rest r e =
    got_in (λ es rest. IsRead steps 0 previous b es rest) no_entries es b rest e (refl, record { well_formed = tt; spellable = tt; is = refl }, omega arith, none_first previous)
entries_got any steps sound (suc count) previous b es rest r e =
    let h = after_got (key_of previous b) (λ key following. after (any following) (λ u mid. after (entries_of any count (Some key) mid) (λ es. got (entry key u es)))) es rest e in
    let k = key_got previous b h.0 h.1 r h.2 in
    let r1 = bytes_after b h.1 (text h.0) k.0 r in
    let v = after_got (any h.1) (λ u mid. after (entries_of any count (Some h.0) mid) (λ es. got (entry h.0 u es))) es rest h.3 in
    let w = sound h.1 v.0 v.1 r1 v.2 in
    let m = after_got (entries_of any count (Some h.0) v.1) (λ es. got (entry h.0 v.0 es)) es rest v.3 in
    let l = entries_got any steps sound count (Some h.0) v.1 m.0 m.1 (bytes_after h.1 v.1 v.0 w.0 r1) m.2 in
    got_in (λ es rest. IsRead steps (suc count) previous b es rest) (entry h.0 v.0 m.0) es m.1 rest m.3
    (ap suc l.0, entry_closed b h.1 v.1 m.1 h.0 v.0 m.0 k.0 w.0 l.3 l.1, omega (arith, w.1, l.2), comes_first previous h.0 v.0 m.0 k.1)

-- ---- an item

item_got : (list_of map_of : ℕ → List ℕ → Decoded Tree) (steps first : ℕ) (b : List ℕ) (u : Tree) (rest : List ℕ) → AreBytes b
    → (first / 32 ≡ 4 → list_of first b ≡ got u rest → IsFront (first ∷ b) u rest × (any_need u ≤ suc steps))
    → (first / 32 ≡ 5 → map_of first b ≡ got u rest → IsFront (first ∷ b) u rest × (any_need u ≤ suc steps))
    → by_major_type list_of map_of first b ≡ got u rest → IsFront (first ∷ b) u rest × (any_need u ≤ suc steps)
item_got list_of map_of steps first b u rest r of_list of_map e =
    let c = if_not (first % 32 == 31) (refused indefinite_size (length b)) (if first / 32 == 4 then list_of first b else if first / 32 == 5 then map_of first b else leaf_of first b) u rest (λ x. absurd (cc x)) e in
    elim (eqb_tells (first / 32) 4) [
      | inl h4 ↦ of_list h4.1 (rw h4.0 at c.1)
      | inr h4 ↦ elim (eqb_tells (first / 32) 5) [
        | inl h5 ↦ of_map h5.1 (rw (h4.0, h5.0) at c.1)
        | inr h5 ↦ let k = leaf_got first b u rest r (rw (h4.0, h5.0) at c.1) in (k.0, omega (arith, k.1))
      ]
    ]

list_got : (steps first : ℕ) (b : List ℕ) (u : Tree) (rest : List ℕ) → IsSound (item_of steps) steps → AreBytes (first ∷ b) → first / 32 ≡ 4 → list_of (suc steps) first b ≡ got u rest → IsFront (first ∷ b) u rest × (any_need u ≤ suc (suc steps))
list_got steps first b u rest sound r m e =
    let h = after_got (argument_of (codes "array") first b) (λ n rest. after (items_of (item_of steps) n rest) (λ us. got (list us))) u rest e in
    let k = head_got (codes "array") first h.0 b h.1 (bytes_of_rest (first ∷ []) b r) h.2 in
    let i = after_got (items_of (item_of steps) h.0 h.1) (λ us. got (list us)) u rest h.3 in
    let l = items_got (item_of steps) steps sound h.0 h.1 i.0 i.1 (bytes_of_rest (head (first / 32) h.0) h.1 (subst AreBytes k.1 r)) i.2 in
    let is : first ∷ b ≡ head 4 (item_count i.0) ++ h.1 = k.1 ∙ ap₂ (λ x y. head x y ++ h.1) m (sym l.0) in
    got_in (λ u rest. IsFront (first ∷ b) u rest × (any_need u ≤ suc (suc steps))) (list i.0) u i.1 rest i.3
    (subst (λ x. IsFront x (list i.0) i.1) (sym is) (list_closed h.1 i.1 i.0 (omega (arith, k.0, l.0)) l.1), omega (arith, l.2))

map_got : (steps first : ℕ) (b : List ℕ) (u : Tree) (rest : List ℕ) → IsSound (item_of steps) steps → AreBytes (first ∷ b) → first / 32 ≡ 5 → map_of (suc steps) first b ≡ got u rest → IsFront (first ∷ b) u rest × (any_need u ≤ suc (suc steps))
map_got steps first b u rest sound r m e =
    let h = after_got (argument_of (codes "map") first b) (λ n rest. after (entries_of (item_of steps) n None rest) (λ us. got (mapping us))) u rest e in
    let k = head_got (codes "map") first h.0 b h.1 (bytes_of_rest (first ∷ []) b r) h.2 in
    let i = after_got (entries_of (item_of steps) h.0 None h.1) (λ us. got (mapping us)) u rest h.3 in
    let l = entries_got (item_of steps) steps sound h.0 None h.1 i.0 i.1 (bytes_of_rest (head (first / 32) h.0) h.1 (subst AreBytes k.1 r)) i.2 in
    let is : first ∷ b ≡ head 5 (entry_count i.0) ++ h.1 = k.1 ∙ ap₂ (λ x y. head x y ++ h.1) m (sym l.0) in
    got_in (λ u rest. IsFront (first ∷ b) u rest × (any_need u ≤ suc (suc steps))) (mapping i.0) u i.1 rest i.3 (
      record {
        well_formed = l.1.well_formed;
        spellable = (omega (arith, k.0, l.0), l.1.spellable);
        is = is ∙ ap (λ s. head 5 (entry_count i.0) ++ s) l.1.is ∙ sym (append_assoc (head 5 (entry_count i.0)) (entries_spelling i.0) i.1);
      },
      omega (arith, l.2),
    )

two_more : (steps : ℕ) → IsSound (item_of steps) steps → IsSound (item_of (suc (suc steps))) (suc (suc steps))
two_more steps h [] u rest r e = absurd (cc e)
two_more steps h (first ∷ b) u rest r e = item_got (list_of (suc steps)) (map_of (suc steps)) (suc steps) first b u rest (bytes_of_rest (first ∷ []) b r) (list_got steps first b u rest h r) (map_got steps first b u rest h r) e

one_step : IsSound (item_of 1) 1
one_step [] u rest r e = absurd (cc e)
one_step (first ∷ b) u rest r e = item_got (list_of 0) (map_of 0) 0 first b u rest (bytes_of_rest (first ∷ []) b r) (λ m e. absurd (cc e)) (λ m e. absurd (cc e)) e

-- What is read is at the front, and takes no more than the steps.
pub any_got : (steps : ℕ) → IsSound (item_of steps) steps
any_got zero = λ b u rest r e. absurd (cc e)
any_got (suc zero) = one_step
any_got (suc (suc steps)) = two_more steps (any_got steps)

pub block_got : (b : List ℕ) (u : Tree) (rest : List ℕ) → AreBytes b → decode b ≡ got u rest → IsSpelling b u × (any_need u ≤ 256) × (rest ≡ [])
block_got b u rest r e =
    let h = after_got (item_of 256 b) at_end u rest e in
    let k = any_got 256 b h.0 h.1 r h.2 in
    by h.0 h.1 k.0 k.1 h.3
  where
    by : (v : Tree) (mid : List ℕ) → IsFront b v mid → any_need v ≤ 256 → at_end v mid ≡ got u rest → IsSpelling b u × (any_need u ≤ 256) × (rest ≡ [])
    by v [] h n e = got_in (λ u rest. IsSpelling b u × (any_need u ≤ 256) × (rest ≡ [])) v u [] rest e (record { well_formed = h.well_formed; spellable = h.spellable; is = h.is ∙ append-nil (spelling v) }, n, refl)
    by v (x ∷ mid) h n e = absurd (cc e)
