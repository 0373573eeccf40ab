-- Tokens, one by one from the front of bytes.
use Rattle.std.proofs.Common.{◌≡◌, ◌⊎◌, inl, inr, ℕ, suc, ◌+◌, ◌-◌, ◌<◌, ◌≤◌, pos, negsuc, List, [], ◌∷◌, ◌++◌, length, get_or, drop, set, true, false, refl, sym, ap, ap₂, ◌∙◌, subst, arith, append_assoc, append-nil, length-append, map, Option, Some, None, drop-cons}
use Rattle.std.proofs.lemmas.List.{map-append, length-map}
use Rattle.std.proofs.Math.Seq.{drop-append_seam, set-append_seam}
use Rattle.dagcbor_core.specs.Head.{head}
use Rattle.dagcbor_core.specs.Splits.{SplitsHead}
use Rattle.dagcbor_core.proofs.Heads.{head_first}
use Rattle.ipld_tree.specs.Tree.{Tree, null, boolean, integer, text, bytes, list, mapping, link, Items, no_items, item, Entries, no_entries, entry, AreItems, AreEntries}
use Rattle.ipld_tree.specs.Spelling.{item_count, entry_count, AreSpellableItems, AreSpellableEntries, text_spelling, bytes_spelling, spelling, items_spelling, entries_spelling, IsSpelling, AreFronts}
use Rattle.ipld_tree.proofs.Unique.{major, argument, payload}
use Rattle.ipld_tree.proofs.Fronts.{by_head, item_opened, is_bytes, is_text, is_list, is_mapping, is_link, is_simple}
use Rattle.abi_calls.specs.Tapes.{token, token_at, text_token, tokens_of, items_tokens, entries_tokens, tape_of, SplitsToken, SplitsTokenIfThere, BeginsWithZeroAnd, SplitsLinkIfThere}
use Rattle.abi_calls.specs.Standing.{IsSimpleToken, StandsTaggedIfThere}
use Rattle.abi_calls.specs.declared.tape.Token.{Token}

-- ---- a map's entries are a row of items: each key, as a text, and its value

abbrev parts_of : Entries → Items
parts_of no_entries = no_items
parts_of (entry k t es) = item (text k) (item t (parts_of es))

parts_formed : (es : Entries) → AreEntries es → AreItems (parts_of es)
parts_formed no_entries h = tt
parts_formed (entry k t es) h = (h.0, (h.1, parts_formed es h.3))

parts_spellable : (es : Entries) → AreSpellableEntries es → AreSpellableItems (parts_of es)
parts_spellable no_entries h = tt
parts_spellable (entry k t es) h = (h.0, (h.1, parts_spellable es h.2))

parts_spelled : (es : Entries) → entries_spelling es ≡ items_spelling (parts_of es)
parts_spelled no_entries = refl
parts_spelled (entry k t es) = ap (λ s. text_spelling k ++ (spelling t ++ s)) (parts_spelled es)

parts_told : (at : ℕ) (es : Entries) → entries_tokens at es ≡ items_tokens at (parts_of es)
parts_told at no_entries = refl
parts_told at (entry k t es) =
    let first = length (text_spelling k) in
    ap (λ x. text_token at k ∷ (tokens_of (at + first) t ++ x)) (parts_told (at + first + length (spelling t)) es)

-- ---- rows of items, one after the other

abbrev joined : Items → Items → Items
joined no_items us = us
joined (item t ts) us = item t (joined ts us)

joined_formed : (ts us : Items) → AreItems ts → AreItems us → AreItems (joined ts us)
joined_formed no_items us h k = k
joined_formed (item t ts) us h k = (h.0, joined_formed ts us h.1 k)

joined_spellable : (ts us : Items) → AreSpellableItems ts → AreSpellableItems us → AreSpellableItems (joined ts us)
joined_spellable no_items us h k = k
joined_spellable (item t ts) us h k = (h.0, joined_spellable ts us h.1 k)

joined_spelled : (ts us : Items) → items_spelling (joined ts us) ≡ items_spelling ts ++ items_spelling us
joined_spelled no_items us = refl
joined_spelled (item t ts) us = ap (λ s. spelling t ++ s) (joined_spelled ts us) ∙ sym (append_assoc (spelling t) (items_spelling ts) (items_spelling us))

joined_told : (at : ℕ) (ts us : Items) → items_tokens at (joined ts us) ≡ items_tokens at ts ++ items_tokens (at + length (items_spelling ts)) us
joined_told at no_items us = ap (λ n. items_tokens n us) {x = at} {y = at + 0} (omega arith)
joined_told at (item t ts) us =
    let first = length (spelling t) in
    let place : at + first + length (items_spelling ts) ≡ at + length (spelling t ++ items_spelling ts) = omega (arith, length-append (spelling t) (items_spelling ts)) in
    ap (λ x. tokens_of at t ++ x) (joined_told (at + first) ts us)
    ∙ ap (λ n. tokens_of at t ++ (items_tokens (at + first) ts ++ items_tokens n us)) place
    ∙ sym (append_assoc (tokens_of at t) (items_tokens (at + first) ts) (items_tokens (at + length (spelling t ++ items_spelling ts)) us))

-- ---- the first token

-- what the head at the front of consecutive items says of the first
head_there : (m n : ℕ) (b c : List ℕ) (t : Tree) (ts : Items) → SplitsHead b m n c → AreFronts b (item t ts) [] → (major t ≡ m) × (argument t ≡ n) × (c ≡ payload t ++ items_spelling ts)
head_there m n b c t ts h f =
    let k = by_head m n b c (items_spelling ts ++ []) t h.1 (item_opened b [] t ts f).0 h.2 in
    (k.0, k.1, sym k.2 ∙ ap (λ x. payload t ++ x) (append-nil (items_spelling ts)))

-- the token of an item whose parts come after these first bytes of it
first_token : (whole : ℕ) (b rest front : List ℕ) (first : Token) (t : Tree) (inside ts : Items) → length b ≤ whole → AreFronts b (item t ts) [] → AreItems inside → AreSpellableItems inside
    → spelling t ≡ front ++ items_spelling inside → tokens_of (whole - length b) t ≡ first ∷ items_tokens (whole - length b + length front) inside → rest ≡ items_spelling inside ++ items_spelling ts
    → (more : Items) × AreFronts rest more [] × (items_tokens (whole - length b) (item t ts) ≡ first ∷ items_tokens (whole - length rest) more)
first_token whole b rest front first t inside ts fits f formed spellable spelled told is =
    let at = whole - length b in
    let all : b ≡ (spelling t ++ items_spelling ts) ++ [] = f.is in
    let size : length b ≡ length front + length rest = omega (arith, ap length all, ap length (append-nil (spelling t ++ items_spelling ts)), length-append (spelling t) (items_spelling ts), ap length spelled, length-append front (items_spelling inside), ap length is, length-append (items_spelling inside) (items_spelling ts)) in
    let here : at + length front ≡ whole - length rest = omega (arith, size, fits) in
    let following : at + length (spelling t) ≡ at + length front + length (items_spelling inside) = omega (arith, ap length spelled, length-append front (items_spelling inside)) in (
      joined inside ts,
      record {
        well_formed = joined_formed inside ts formed f.well_formed.1;
        spellable = joined_spellable inside ts spellable f.spellable.1;
        is = is ∙ sym (joined_spelled inside ts) ∙ sym (append-nil (items_spelling (joined inside ts)));
      },
      ap₂ (λ x n. x ++ items_tokens n ts) told following
          ∙ ap (λ x. first ∷ x) (sym (joined_told (at + length front) inside ts))
          ∙ ap (λ n. first ∷ items_tokens n (joined inside ts)) here,
    )

-- ---- the token of each head

-- a head's place, counted from the end
token_told : (whole m n kind number : ℕ) (b c : List ℕ) → length b ≤ whole → SplitsHead b m n c → token_at (whole - length b) (head m n) kind number ≡ token kind number (whole - length c)
token_told whole m n kind number b c fits h = ap (token kind number) (omega (arith, fits, ap length h.2, length-append (head m n) c))

pub after_shorter : (m n : ℕ) (b c : List ℕ) → SplitsHead b m n c → length c < length b
after_shorter m n b c h =
    let f = head_first m n h.1 in
    omega (arith, ap length h.2, length-append (head m n) c, ap length f.3)

is_natural : (t : Tree) (n : ℕ) → major t ≡ 0 → argument t ≡ n → t ≡ integer (pos n)
is_natural (integer (pos k)) n h e = ap (λ x. integer (pos x)) e
is_natural (integer (negsuc k)) n h e = absurd (omega (arith, h))
is_natural t n h e = absurd (omega (arith, h))

is_negative : (t : Tree) (n : ℕ) → major t ≡ 1 → argument t ≡ n → t ≡ integer (negsuc n)
is_negative (integer (negsuc k)) n h e = ap (λ x. integer (negsuc x)) e
is_negative (integer (pos k)) n h e = absurd (omega (arith, h))
is_negative t n h e = absurd (omega (arith, h))

-- a token of an item without parts
leaf_token : (whole : ℕ) (b rest : List ℕ) (first : Token) (t u : Tree) (ts : Items) → length b ≤ whole → AreFronts b (item t ts) [] → t ≡ u → tokens_of (whole - length b) u ≡ first ∷ [] → rest ≡ items_spelling ts
    → (more : Items) × AreFronts rest more [] × (items_tokens (whole - length b) (item t ts) ≡ first ∷ items_tokens (whole - length rest) more)
leaf_token whole b rest first t u ts fits f same told is =
    first_token whole b rest (spelling t) first t no_items ts fits f tt tt (sym (append-nil (spelling t))) (ap (tokens_of (whole - length b)) same ∙ told) is

pub natural_token : (whole n : ℕ) (b c : List ℕ) → length b ≤ whole → SplitsHead b 0 n c → SplitsToken whole b (token 2 n (whole - length c)) c
natural_token whole n b c fits h t ts f =
    let k = head_there 0 n b c t ts h f in
    let same = is_natural t n k.0 k.1 in
    leaf_token whole b c _ t (integer (pos n)) ts fits f same (ap (λ x. x ∷ []) (token_told whole 0 n 2 n b c fits h)) (k.2 ∙ ap (λ u. payload u ++ items_spelling ts) same)

pub negative_token : (whole n : ℕ) (b c : List ℕ) → length b ≤ whole → SplitsHead b 1 n c → SplitsToken whole b (token 8 n (whole - length c)) c
negative_token whole n b c fits h t ts f =
    let k = head_there 1 n b c t ts h f in
    let same = is_negative t n k.0 k.1 in
    leaf_token whole b c _ t (integer (negsuc n)) ts fits f same (ap (λ x. x ∷ []) (token_told whole 1 n 8 n b c fits h)) (k.2 ∙ ap (λ u. payload u ++ items_spelling ts) same)

-- what follows a payload
dropped : (n : ℕ) (c s more : List ℕ) → length s ≡ n → c ≡ s ++ more → drop n c ≡ more
dropped n c s more e is = ap (λ k. drop k c) (sym e) ∙ ap (drop (length s)) is ∙ drop-append_seam s more

pub bytes_token : (whole n : ℕ) (b c : List ℕ) → length b ≤ whole → SplitsHead b 2 n c → SplitsToken whole b (token 4 n (whole - length c)) (drop n c)
bytes_token whole n b c fits h t ts f =
    let k = head_there 2 n b c t ts h f in
    let s = is_bytes t k.0 in
    let long : length s.0 ≡ n = sym (ap argument s.1) ∙ k.1 in
    leaf_token whole b (drop n c) _ t (bytes s.0) ts fits f s.1 (ap (λ m. token_at (whole - length b) (head 2 m) 4 m ∷ []) long ∙ ap (λ x. x ∷ []) (token_told whole 2 n 4 n b c fits h))
    (dropped n c s.0 (items_spelling ts) long (k.2 ∙ ap (λ u. payload u ++ items_spelling ts) s.1))

pub text_tokens : (whole n : ℕ) (b c : List ℕ) → length b ≤ whole → SplitsHead b 3 n c → SplitsToken whole b (token 3 n (whole - length c)) (drop n c)
text_tokens whole n b c fits h t ts f =
    let k = head_there 3 n b c t ts h f in
    let s = is_text t k.0 in
    let long : length s.0 ≡ n = sym (ap argument s.1) ∙ k.1 in
    leaf_token whole b (drop n c) _ t (text s.0) ts fits f s.1 (ap (λ m. token_at (whole - length b) (head 3 m) 3 m ∷ []) long ∙ ap (λ x. x ∷ []) (token_told whole 3 n 3 n b c fits h))
    (dropped n c s.0 (items_spelling ts) long (k.2 ∙ ap (λ u. payload u ++ items_spelling ts) s.1))

-- the payload of a string is all there
pub payload_there : (m n : ℕ) (b c : List ℕ) (t : Tree) (ts : Items) → SplitsHead b m n c → (m ≡ 2) ⊎ (m ≡ 3) → length c < n → ¬ AreFronts b (item t ts) []
payload_there m n b c t ts h string few f =
    let k = head_there m n b c t ts h f in
    elim string [
      | inl two ↦ (let s = is_bytes t (k.0 ∙ two) in omega (arith, few, sym (ap argument s.1) ∙ k.1, ap length (k.2 ∙ ap (λ u. payload u ++ items_spelling ts) s.1), length-append s.0 (items_spelling ts)))
      | inr three ↦ (let s = is_text t (k.0 ∙ three) in omega (arith, few, sym (ap argument s.1) ∙ k.1, ap length (k.2 ∙ ap (λ u. payload u ++ items_spelling ts) s.1), length-append s.0 (items_spelling ts)))
    ]

pub list_token : (whole n : ℕ) (b c : List ℕ) → length b ≤ whole → SplitsHead b 4 n c → SplitsToken whole b (token 5 n (whole - length c)) c
list_token whole n b c fits h t ts f =
    let k = head_there 4 n b c t ts h f in
    let l = is_list t k.0 in
    let g = subst (λ u. AreFronts b (item u ts) []) l.1 f in
    let count : item_count l.0 ≡ n = sym (ap argument l.1) ∙ k.1 in
    let at = whole - length b in
    let first : token_at at (head 4 (item_count l.0)) 5 (item_count l.0) ≡ token 5 n (whole - length c) = ap (λ m. token_at at (head 4 m) 5 m) count ∙ token_told whole 4 n 5 n b c fits h in
    subst (λ u. (more : Items) × AreFronts c more [] × (items_tokens at (item u ts) ≡ token 5 n (whole - length c) ∷ items_tokens (whole - length c) more)) (sym l.1)
    (first_token whole b c (head 4 (item_count l.0)) _ (list l.0) l.0 ts fits g g.well_formed.0 g.spellable.0.1 refl (ap (λ x. x ∷ items_tokens (at + length (head 4 (item_count l.0))) l.0) first) (k.2 ∙ ap (λ u. payload u ++ items_spelling ts) l.1))

pub map_token : (whole n : ℕ) (b c : List ℕ) → length b ≤ whole → SplitsHead b 5 n c → SplitsToken whole b (token 6 n (whole - length c)) c
map_token whole n b c fits h t ts f =
    let k = head_there 5 n b c t ts h f in
    let l = is_mapping t k.0 in
    let es = l.0 in
    let g = subst (λ u. AreFronts b (item u ts) []) l.1 f in
    let count : entry_count es ≡ n = sym (ap argument l.1) ∙ k.1 in
    let at = whole - length b in
    let front = head 5 (entry_count es) in
    let first : token_at at front 6 (entry_count es) ≡ token 6 n (whole - length c) = ap (λ m. token_at at (head 5 m) 6 m) count ∙ token_told whole 5 n 6 n b c fits h in
    subst (λ u. (more : Items) × AreFronts c more [] × (items_tokens at (item u ts) ≡ token 6 n (whole - length c) ∷ items_tokens (whole - length c) more)) (sym l.1)
    (first_token whole b c front _ (mapping es) (parts_of es) ts fits g (parts_formed es g.well_formed.0) (parts_spellable es g.spellable.0.1) (ap (λ s. front ++ s) (parts_spelled es))
    (ap₂ (λ x y. x ∷ y) first (parts_told (at + length front) es)) (k.2 ∙ ap (λ u. payload u ++ items_spelling ts) l.1 ∙ ap (λ s. s ++ items_spelling ts) (parts_spelled es)))

-- a token that is this one, and what follows it
pub exactly : (whole m n : ℕ) (b c rest : List ℕ) (first exact : Token) → SplitsHead b m n c → length rest ≤ length c → first ≡ exact → SplitsToken whole b exact rest → (length rest < length b) × SplitsToken whole b first rest
exactly whole m n b c rest first exact h short same k = (omega (arith, short, after_shorter m n b c h), subst (λ x. SplitsToken whole b x rest) (sym same) k)

-- ---- simple values

simple_is : (whole n : ℕ) (b c : List ℕ) (t : Tree) (ts : Items) (first : Token) (u : Tree) → length b ≤ whole → SplitsHead b 7 n c → AreFronts b (item t ts) [] → t ≡ u → payload u ≡ [] → tokens_of (whole - length b) u ≡ first ∷ []
    → (more : Items) × AreFronts c more [] × (items_tokens (whole - length b) (item t ts) ≡ first ∷ items_tokens (whole - length c) more)
simple_is whole n b c t ts first u fits h f same none told =
    let k = head_there 7 n b c t ts h f in
    leaf_token whole b c first t u ts fits f same told (k.2 ∙ ap (λ v. payload v ++ items_spelling ts) same ∙ ap (λ x. x ++ items_spelling ts) none)

pub simple_tokens : (whole n : ℕ) (b c : List ℕ) (first : Token) → length b ≤ whole → SplitsHead b 7 n c
    → (n ≡ 20 → first ≡ token 1 0 (whole - length c)) → (n ≡ 21 → first ≡ token 1 1 (whole - length c)) → (n ≡ 22 → first ≡ token 0 0 (whole - length c)) → SplitsToken whole b first c
unfolding head
simple_tokens whole n b c first fits h off on nil t ts f =
    let k = head_there 7 n b c t ts h f in
    let place : n ≡ 20 ⊎ (n ≡ 21 ⊎ n ≡ 22) → whole - length b + 1 ≡ whole - length c = λ some. one_byte some in
    elim (is_simple t k.0) [
      | inl s ↦ (let e : n ≡ 20 = sym k.1 ∙ s.1 in simple_is whole n b c t ts first (boolean false) fits h f s.0 refl (ap (λ x. token 1 0 x ∷ []) (place (inl e)) ∙ ap (λ x. x ∷ []) (sym (off e))))
      | inr r ↦ elim r [
        | inl s ↦ (let e : n ≡ 21 = sym k.1 ∙ s.1 in simple_is whole n b c t ts first (boolean true) fits h f s.0 refl (ap (λ x. token 1 1 x ∷ []) (place (inr (inl e))) ∙ ap (λ x. x ∷ []) (sym (on e))))
        | inr s ↦ (let e : n ≡ 22 = sym k.1 ∙ s.1 in simple_is whole n b c t ts first null fits h f s.0 refl (ap (λ x. token 0 0 x ∷ []) (place (inr (inr e))) ∙ ap (λ x. x ∷ []) (sym (nil e))))
      ]
    ]
  where
    sized : (m : ℕ) → n ≡ m → length (head 7 m) ≡ 1 → whole - length b + 1 ≡ whole - length c
    sized m e one = omega (arith, fits, ap length h.2, length-append (head 7 n) c, ap (λ k. length (head 7 k)) e, one)

    one_byte : n ≡ 20 ⊎ (n ≡ 21 ⊎ n ≡ 22) → whole - length b + 1 ≡ whole - length c
    one_byte (inl e) = sized 20 e refl
    one_byte (inr (inl e)) = sized 21 e refl
    one_byte (inr (inr e)) = sized 22 e refl

pub simple_token_is : (whole n : ℕ) (b c : List ℕ) (first : Token) → length b ≤ whole → SplitsHead b 7 n c → IsSimpleToken n (whole - length c) first → SplitsToken whole b first c
simple_token_is whole n b c first fits h (inl k) = simple_tokens whole n b c first fits h (λ e. k.1) (λ e. absurd (omega (arith, e, k.0))) (λ e. absurd (omega (arith, e, k.0)))
simple_token_is whole n b c first fits h (inr (inl k)) = simple_tokens whole n b c first fits h (λ e. absurd (omega (arith, e, k.0))) (λ e. k.1) (λ e. absurd (omega (arith, e, k.0)))
simple_token_is whole n b c first fits h (inr (inr k)) = simple_tokens whole n b c first fits h (λ e. absurd (omega (arith, e, k.0))) (λ e. absurd (omega (arith, e, k.0))) (λ e. k.1)

pub no_simple_token : (n : ℕ) (b c : List ℕ) (t : Tree) (ts : Items) → SplitsHead b 7 n c → (20 ≤ n → ¬ (n ≤ 22)) → ¬ AreFronts b (item t ts) []
no_simple_token n b c t ts h none f =
    let k = head_there 7 n b c t ts h f in
    elim (is_simple t k.0) [
      | inl s ↦ none (omega (arith, k.1, s.1)) (omega (arith, k.1, s.1))
      | inr r ↦ elim r [ inl s ↦ none (omega (arith, k.1, s.1)) (omega (arith, k.1, s.1)) | inr s ↦ none (omega (arith, k.1, s.1)) (omega (arith, k.1, s.1)) ]
    ]

-- ---- links

-- what a head says of the byte string of a zero and a CID
string_there : (m n : ℕ) (b c cid more : List ℕ) → SplitsHead b m n c → BeginsWithZeroAnd b cid more → (1 + length cid ≡ n) × (c ≡ 0x00 ∷ cid ++ more)
string_there m n b c cid more h f = let k = by_head m n b c more (bytes (0x00 ∷ cid)) h.1 f h.2 in (omega (arith, k.1), sym k.2)

pub no_zero : (m n : ℕ) (b c cid more : List ℕ) → SplitsHead b m n c → length c ≡ 0 → ¬ BeginsWithZeroAnd b cid more
no_zero m n b c cid more h none f = omega (arith, none, ap length (string_there m n b c cid more h f).1)

pub no_length : (m n : ℕ) (b c cid more : List ℕ) → SplitsHead b m n c → n < 1 → ¬ BeginsWithZeroAnd b cid more
no_length m n b c cid more h none f = omega (arith, none, (string_there m n b c cid more h f).0)

pub no_other_string : (m n : ℕ) (b c cid more : List ℕ) → SplitsHead b m n c → ¬ (m ≡ 2) → ¬ BeginsWithZeroAnd b cid more
no_other_string m n b c cid more h other f = other (sym (by_head m n b c more (bytes (0x00 ∷ cid)) h.1 f h.2).0)

pub no_other_byte : (m n byte : ℕ) (b c d cid more : List ℕ) → SplitsHead b m n c → c ≡ byte ∷ d → ¬ (byte ≡ 0) → ¬ BeginsWithZeroAnd b cid more
no_other_byte m n byte b c d cid more h e other f =
    let both : byte ∷ d ≡ 0x00 ∷ (cid ++ more) = sym e ∙ (string_there m n b c cid more h f).1 in
    other (cc both)

pub no_cid_payload : (m n byte : ℕ) (b c d cid more : List ℕ) → SplitsHead b m n c → c ≡ byte ∷ d → length d < n - 1 → ¬ BeginsWithZeroAnd b cid more
no_cid_payload m n byte b c d cid more h e few f =
    let k = string_there m n b c cid more h f in
    omega (arith, few, k.0, ap length (sym e ∙ k.1), length-append cid more)

pub link_split : (whole m n byte : ℕ) (b c d cid more : List ℕ) → SplitsHead b m n c → c ≡ byte ∷ d → BeginsWithZeroAnd b cid more
    → (token 7 (n - 1) (whole - length d) ≡ token 7 (length cid) (whole - length (cid ++ more))) × (drop (n - 1) d ≡ more)
link_split whole m n byte b c d cid more h e f =
    let k = string_there m n b c cid more h f in
    let same : byte ∷ d ≡ 0x00 ∷ cid ++ more = sym e ∙ k.1 in
    let is : d ≡ cid ++ more = cc same in
    let long : length cid ≡ n - 1 = omega (arith, k.0) in
    (ap₂ (λ x y. token 7 x (whole - length y)) (sym long) is, dropped (n - 1) d cid more long is)

-- the string of a link, after its tag
link_string : (n : ℕ) (b c : List ℕ) (t : Tree) (ts : Items) → SplitsHead b 6 n c → AreFronts b (item t ts) [] → (cid : List ℕ) × (t ≡ link cid) × BeginsWithZeroAnd c cid (items_spelling ts)
link_string n b c t ts h f =
    let k = head_there 6 n b c t ts h f in
    let l = is_link t k.0 in
    let g = subst (λ u. AreFronts b (item u ts) []) l.1 f in
    (l.0, l.1, record { well_formed = tt; spellable = omega (arith, g.spellable.0); is = k.2 ∙ ap (λ u. payload u ++ items_spelling ts) l.1 })

pub link_tokens : {P : Type 0} (first : P → Token) (rest : P → List ℕ) (whole n : ℕ) (b c : List ℕ) (r : Option P) → length b ≤ whole → SplitsHead b 6 n c → SplitsLinkIfThere first rest whole c r → SplitsTokenIfThere first rest whole b r
unfolding head
link_tokens first rest whole n b c None fits h none = λ t ts f. let l = link_string n b c t ts h f in none l.0 (items_spelling ts) l.2
link_tokens first rest whole n b c (Some p) fits h k = (omega (arith, k.0, after_shorter 6 n b c h), λ t ts f. there t ts f)
  where
    there : SplitsToken whole b (first p) (rest p)
    there t ts f =
        let l = link_string n b c t ts h f in
        let cid = l.0 in
        let g = subst (λ u. AreFronts b (item u ts) []) l.1 f in
        let q = k.1 cid (items_spelling ts) l.2 in
        let all : b ≡ (0xd8 ∷ 0x2a ∷ bytes_spelling (0x00 ∷ cid) ++ items_spelling ts) ++ [] = g.is in
        let front = head 2 (length (0x00 ∷ cid)) in
        let string : length (bytes_spelling (0x00 ∷ cid)) ≡ length front + length (0x00 ∷ cid) = length-append front (0x00 ∷ cid) in
        let size : length b ≡ 3 + length front + length (cid ++ items_spelling ts) = omega (arith, ap length all, ap length (append-nil (bytes_spelling (0x00 ∷ cid) ++ items_spelling ts)), length-append (bytes_spelling (0x00 ∷ cid)) (items_spelling ts), string, length-append cid (items_spelling ts)) in
        let place : whole - length b + length (0xd8 ∷ 0x2a ∷ front ++ 0x00 ∷ []) ≡ whole - length (cid ++ items_spelling ts) = omega (arith, size, fits, length-append front (0x00 ∷ [])) in
        leaf_token whole b (rest p) (first p) t (link cid) ts fits f l.1 (ap (λ x. token 7 (length cid) x ∷ []) place ∙ ap (λ x. x ∷ []) (sym q.0)) q.1

pub no_other_link : (whole n : ℕ) (b c : List ℕ) (t : Tree) (ts : Items) → SplitsHead b 6 n c → AreFronts b (item t ts) [] → n ≡ 42
no_other_link whole n b c t ts h f =
    let k = head_there 6 n b c t ts h f in
    sym k.1 ∙ ap argument (is_link t k.0).1

-- a tag of another number has no token
pub tagged_tokens : {P : Type 0} (first : P → Token) (rest : P → List ℕ) (whole n : ℕ) (b c : List ℕ) (r : Option P) → length b ≤ whole → SplitsHead b 6 n c → (n ≡ 42 → SplitsLinkIfThere first rest whole c r) → StandsTaggedIfThere first rest n whole c r → SplitsTokenIfThere first rest whole b r
tagged_tokens first rest whole n b c None fits h tagged none = λ t ts f. link_tokens first rest whole n b c None fits h (tagged (no_other_link whole n b c t ts h f)) t ts f
tagged_tokens first rest whole n b c (Some p) fits h tagged k = link_tokens first rest whole n b c (Some p) fits h (tagged k.0)

-- ---- the tape

-- what was encoded of a block, and what is still to come
pub record Told {T : Type 0} (made : Token → T) (whole : ℕ) (t : Tree) (rest : List ℕ) (old now : List T) (count : ℕ) : Type 0 where
  done : List Token
  more : Items
  fronts : AreFronts rest more []
  told : tape_of t ≡ done ++ items_tokens (whole - length rest) more
  counted : length done ≡ count
  stands : count ≤ length old → now ≡ map made done ++ drop count old

pub none_told : {T : Type 0} (made : Token → T) (b : List ℕ) (t : Tree) (old : List T) → IsSpelling b t → Told made (length b) t b old old 0
none_told made b t old s = record {
  done = [];
  more = item t no_items;
  fronts = record { well_formed = (s.well_formed, tt); spellable = (s.spellable, tt); is = s.is ∙ sym (append-nil (spelling t)) ∙ sym (append-nil (spelling t ++ [])) };
  told = ap (λ n. tokens_of n t) {x = 0} {y = length b - length b} (omega arith) ∙ sym (append-nil (tokens_of (length b - length b) t));
  counted = refl;
  stands = λ room. refl;
}

-- an entry after those at the front of a tape
put_after : {T : Type 0} (done old : List T) (first : T) → length done < length old → set (done ++ drop (length done) old) (length done) first ≡ (done ++ first ∷ []) ++ drop (length done + 1) old
put_after done old first room =
    ap (λ x. set (done ++ x) (length done) first) (drop-cons old (length done) first room)
    ∙ set-append_seam done (get_or old (length done) first) (drop (suc (length done)) old) first
    ∙ sym (append_assoc done (first ∷ []) (drop (suc (length done)) old))
    ∙ ap (λ n. (done ++ first ∷ []) ++ drop n old) {x = suc (length done)} {y = length done + 1} (omega arith)

-- a value equal to the entry that was put was put there
pub put_made : {T : Type 0} (given made : T) (before after : List T) (count : ℕ) → given ≡ made → (count < length before → after ≡ set before count given) → count < length before → after ≡ set before count made
put_made given made before after count same put room = put room ∙ ap (set before count) same

-- a call that put it there
pub put_more : {T : Type 0} (made : Token → T) (done : List Token) (old before after : List T) (count : ℕ) (first : Token) → length before ≡ length old → length done ≡ count → (count ≤ length old → before ≡ map made done ++ drop count old)
    → (count < length before → after ≡ set before count (made first))
    → count + 1 ≤ length old → after ≡ map made (done ++ first ∷ []) ++ drop (count + 1) old
put_more made done old before after count first same counted stands put room =
    let entries = map made done in
    let long : length entries ≡ count = length-map done made ∙ counted in
    put (omega (arith, same, room)) ∙ ap₂ (λ x n. set x n (made first)) (stands (omega (arith, room))) (sym long)
    ∙ ap (λ n. set (entries ++ drop n old) (length entries) (made first)) (sym long)
    ∙ put_after entries old (made first) (omega (arith, long, room))
    ∙ ap₂ (λ x n. x ++ drop (n + 1) old) (sym (map-append made done (first ∷ []))) long

pub one_told : {T : Type 0} (made : Token → T) (whole : ℕ) (t : Tree) (now next : List ℕ) (old before after : List T) (count : ℕ) (first : Token) → length before ≡ length old → Told made whole t now old before count → length next < length now → SplitsToken whole now first next
    → (count < length before → after ≡ set before count (made first)) → Told made whole t next old after (count + 1)
one_told made whole t now next old before after count first same s shorter split put = by s.more s.fronts s.told
  where
    by : (more : Items) → AreFronts now more [] → tape_of t ≡ s.done ++ items_tokens (whole - length now) more → Told made whole t next old after (count + 1)
    by no_items f e = absurd (omega (arith, ap length f.is, shorter))
    by (item u us) f e =
        let k = split u us f in
        record {
          done = s.done ++ first ∷ [];
          more = k.0;
          fronts = k.1;
          told = e ∙ ap (λ x. s.done ++ x) k.2 ∙ sym (append_assoc s.done (first ∷ []) (items_tokens (whole - length next) k.0));
          counted = omega (arith, length-append s.done (first ∷ []), s.counted);
          stands = put_more made s.done old before after count first same s.counted s.stands put;
        }

pub all_told : {T : Type 0} (made : Token → T) (whole : ℕ) (t : Tree) (now : List ℕ) (old after : List T) (count : ℕ) → ((u : Tree) (us : Items) → ¬ AreFronts now (item u us) []) → Told made whole t now old after count
    → (count ≡ length (tape_of t)) × (length (tape_of t) ≤ length old → after ≡ map made (tape_of t) ++ drop (length (tape_of t)) old)
all_told made whole t now old after count none s = by s.more s.fronts s.told
  where
    by : (more : Items) → AreFronts now more [] → tape_of t ≡ s.done ++ items_tokens (whole - length now) more → (count ≡ length (tape_of t)) × (length (tape_of t) ≤ length old → after ≡ map made (tape_of t) ++ drop (length (tape_of t)) old)
    by (item u us) f e = absurd (none u us f)
    by no_items f e =
        let is : tape_of t ≡ s.done = e ∙ append-nil s.done in
        let size : count ≡ length (tape_of t) = sym s.counted ∙ ap length (sym is) in
        (size, λ room. s.stands (omega (arith, size, room)) ∙ ap₂ (λ x n. map made x ++ drop n old) (sym is) size)
