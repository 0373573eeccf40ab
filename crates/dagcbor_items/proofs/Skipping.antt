-- Items in a row, passed head by head, and where they end.
use Rattle.std.proofs.Common.{◌≡◌, ℕ, zero, suc, MatchOption, ◌+◌, ◌-◌, ◌*◌, ◌^◌, ◌<◌, ◌≤◌, pos, negsuc, List, [], ◌∷◌, ◌++◌, length, take, drop, length-append, append_assoc, refl, sym, ap, ◌∙◌, subst, arith, IsTrue, Bool, true, false, if◌then◌else◌, Option, None, Some}
use Rattle.std.proofs.Math.Seq.{drop-append_seam}
use Rattle.std.proofs.lemmas.List.{take-append-drop}
use Rattle.dagcbor_core.specs.Head.{head}
use Rattle.dagcbor_core.specs.Splits.{SplitsHead, BeginsWithHead}
use Rattle.dagcbor_core.proofs.Heads.{head_unique}
use Rattle.ipld_tree.specs.Tree.{Tree, null, boolean, integer, text, bytes, list, mapping, link, Items, no_items, item, Entries, no_entries, entry, IsTree}
use Rattle.ipld_tree.specs.Spelling.{IsSpellable, item_count, entry_count, items_spelling, entries_spelling, IsFront, AreFronts, AreEntryFronts}
use Rattle.ipld_tree.proofs.Unique.{major, argument, payload, argument_fits}
use Rattle.ipld_tree.proofs.Fronts.{front_head, major_le, item_opened, item_closed, entry_opened}
use Rattle.dagcbor_decode.specs.Rows.{is_string}
use Rattle.dagcbor_items.specs.Skips.{part_count, PassesHead, PassesHeads, EndByHeads, FindsAfterItems}
use Rattle.dagcbor_decode.proofs.Fronts.{head_opened}
use Rattle.dagcbor_core.proofs.Heads.{head_first}
use Rattle.dagcbor_decode.proofs.Rows.{token_shorter}

-- n items, and what follows them
abbrev pub IsRow : List ℕ → ℕ → List ℕ → Type 0
IsRow b n rest = (ts : Items) × (item_count ts ≡ n) × AreFronts b ts rest

counted : (b rest : List ℕ) (m n : ℕ) → m ≡ n → IsRow b m rest → IsRow b n rest
counted b rest m n e r = (r.0, r.1 ∙ e, r.2)

-- items before a row
before_row : (b c rest : List ℕ) (n : ℕ) (ts : Items) → AreFronts b ts c → IsRow c n rest → IsRow b (item_count ts + n) rest
before_row b c rest n no_items h r = counted b rest n (item_count no_items + n) (omega arith) (subst (λ x. IsRow x n rest) (sym h.is) r)
before_row b c rest n (item t ts) h r =
    let o = item_opened b c t ts h in
    let k = before_row (items_spelling ts ++ c) c rest n ts o.1 r in
    (item t k.0, omega (arith, k.1), item_closed b (items_spelling ts ++ c) rest t k.0 o.0 k.2)

-- each key before its value
abbrev entry_row : Entries → Items
entry_row no_entries = no_items
entry_row (entry k t es) = item (text k) (item t (entry_row es))

entry_row_count : (es : Entries) → item_count (entry_row es) ≡ 2 * entry_count es
entry_row_count no_entries = omega arith
entry_row_count (entry k t es) = omega (arith, entry_row_count es)

entries_row : (b rest : List ℕ) (es : Entries) → AreEntryFronts b es rest → AreFronts b (entry_row es) rest
entries_row b rest no_entries h = record { well_formed = tt; spellable = tt; is = h.is }
entries_row b rest (entry k t es) h =
    let o = entry_opened b rest k t es h in
    let more = entries_row (entries_spelling es ++ rest) rest es o.4 in
    item_closed b o.0 rest (text k) (item t (entry_row es)) o.1 (item_closed o.0 (entries_spelling es ++ rest) rest t (entry_row es) o.2 more)

-- ---- after a head

-- the row continues after a head, and after its string if it has one
abbrev pub GoesOn : List ℕ → (m n k : ℕ) → List ℕ → Type 0
GoesOn c m n k r = (IsTrue (is_string m) → n ≤ length c) × IsRow (if is_string m then drop n c else c) (part_count m n + k) r

string_passed : (s c d r : List ℕ) (k : ℕ) → s ++ d ≡ c → IsRow d k r → (IsTrue true → length s ≤ length c) × IsRow (drop (length s) c) (0 + k) r
string_passed s c d r k p row = (
  (λ _. omega (arith, ap length p, length-append s d)),
  counted (drop (length s) c) r k (0 + k) (omega arith) (subst (λ x. IsRow x k r) (sym (drop-append_seam s d) ∙ ap (drop (length s)) p) row),
)

part_passed : (t : Tree) (c d r : List ℕ) (k : ℕ) → IsTree t → IsSpellable t → payload t ++ d ≡ c → IsRow d k r → GoesOn c (major t) (argument t) k r
part_passed (text s) c d r k w f p row = string_passed s c d r k p row
part_passed (bytes s) c d r k w f p row = string_passed s c d r k p row
part_passed null c d r k w f p row = ((λ x. absurd (cc x)), counted c r k (0 + k) (omega arith) (subst (λ x. IsRow x k r) p row))
part_passed (boolean false) c d r k w f p row = ((λ x. absurd (cc x)), counted c r k (0 + k) (omega arith) (subst (λ x. IsRow x k r) p row))
part_passed (boolean true) c d r k w f p row = ((λ x. absurd (cc x)), counted c r k (0 + k) (omega arith) (subst (λ x. IsRow x k r) p row))
part_passed (integer (pos x)) c d r k w f p row = ((λ y. absurd (cc y)), counted c r k (0 + k) (omega arith) (subst (λ y. IsRow y k r) p row))
part_passed (integer (negsuc x)) c d r k w f p row = ((λ y. absurd (cc y)), counted c r k (0 + k) (omega arith) (subst (λ y. IsRow y k r) p row))
part_passed (list ts) c d r k w f p row = ((λ x. absurd (cc x)), before_row c d r k ts (record { well_formed = w; spellable = f.1; is = sym p }) row)
part_passed (mapping es) c d r k w f p row = (
  (λ x. absurd (cc x)),
  subst (λ n. IsRow c (n + k) r) (entry_row_count es) (before_row c d r k (entry_row es) (entries_row c d es (record { well_formed = w; spellable = f.1; is = sym p })) row),
)
part_passed (link cid) c d r k w f p row = (
  (λ x. absurd (cc x)),
  before_row c d r k (item (bytes (0x00 ∷ cid)) no_items) (item_closed c d d (bytes (0x00 ∷ cid)) no_items (record { well_formed = tt; spellable = omega (arith, f); is = sym p }) (record { well_formed = tt; spellable = tt; is = refl })) row,
)

head_passed : (b c r : List ℕ) (m n more : ℕ) → 0 < more → SplitsHead b m n c → IsRow b more r → GoesOn c m n (more - 1) r
head_passed b c r m n more some h (no_items, e, f) = absurd (omega (arith, e, some))
head_passed b c r m n more some h (item t ts, e, f) =
    let o = item_opened b r t ts f in
    let k = head_opened m n b c (items_spelling ts ++ r) t h o.0 in
    let on = part_passed t c (items_spelling ts ++ r) r (more - 1) o.0.well_formed o.0.spellable k.2 (ts, omega (arith, e), o.1) in
    subst (λ x. GoesOn c x n (more - 1) r) k.0 (subst (λ x. GoesOn c (major t) x (more - 1) r) k.1 on)

-- ---- how many there are at most

front_some : (b rest : List ℕ) (t : Tree) → IsFront b t rest → length rest < length b
front_some b rest t f =
    let e = front_head f in
    let h = head_first (major t) (argument t) (argument_fits t f.spellable) in
    omega (arith, ap length h.3, ap length e, length-append (head (major t) (argument t)) (payload t ++ rest), length-append (payload t) rest)

row_some : (b rest : List ℕ) (ts : Items) → AreFronts b ts rest → item_count ts ≤ length b
row_some b rest no_items h = omega arith
row_some b rest (item t ts) h =
    let o = item_opened b rest t ts h in
    omega (arith, row_some (items_spelling ts ++ rest) rest ts o.1, front_some b (items_spelling ts ++ rest) t o.0)

-- ---- by heads

-- what a head passes, if it was split off
abbrev pub IsPassed : (m n : ℕ) → List ℕ → (parts : ℕ) → List ℕ → Type 0
IsPassed m n c parts rest = (parts ≡ part_count m n) × (IsTrue (is_string m) → n ≤ length c) × (rest ≡ (if is_string m then drop n c else c))

passed_as : (b c rest : List ℕ) (m n parts : ℕ) → SplitsHead b m n c → PassesHead b parts rest → IsPassed m n c parts rest
passed_as b c rest m n parts h p =
    let u = head_unique p.major p.argument m n p.following c p.split.1 h.1 (sym p.split.2 ∙ h.2) in
    subst (λ x. IsPassed x n c parts rest) u.0 (subst (λ x. IsPassed p.major x c parts rest) u.1 (subst (λ x. IsPassed p.major p.argument x parts rest) u.2 (p.counted, p.there, p.left)))

ends_opened : (b c r : List ℕ) (m n more : ℕ) → 0 < more → SplitsHead b m n c → EndByHeads b more r → (IsTrue (is_string m) → n ≤ length c) × EndByHeads (if is_string m then drop n c else c) (part_count m n + (more - 1)) r
ends_opened b c r m n more some h (zero, e) = absurd (omega (arith, some, e.0))
ends_opened b c r m n more some h (suc k, e) =
    let p = passed_as b c e.2 m n e.1 h e.3 in
    (p.1, (k, subst (λ x. PassesHeads k x (part_count m n + (more - 1)) r) p.2 (subst (λ x. PassesHeads k e.2 (x + (more - 1)) r) p.0 e.4)))

ends_closed : (b c r : List ℕ) (m n more : ℕ) → 0 < more → SplitsHead b m n c → (IsTrue (is_string m) → n ≤ length c) → EndByHeads (if is_string m then drop n c else c) (part_count m n + (more - 1)) r → EndByHeads b more r
ends_closed b c r m n more some h there e = (suc e.0, (some, part_count m n, (if is_string m then drop n c else c), record { major = m; argument = n; following = c; split = h; counted = refl; there = there; left = refl }, e.1))

passed_shorter : (b rest : List ℕ) (parts : ℕ) → PassesHead b parts rest → length rest < length b
passed_shorter b rest parts p = token_shorter b p.following rest p.major p.argument p.split p.left

-- they end at one place
passed_once : (k j n : ℕ) (b r s : List ℕ) → PassesHeads k b n r → PassesHeads j b n s → r ≡ s
passed_once zero zero n b r s x y = sym x.1 ∙ y.1
passed_once zero (suc j) n b r s x y = absurd (omega (arith, x.0, y.0))
passed_once (suc k) zero n b r s x y = absurd (omega (arith, x.0, y.0))
passed_once (suc k) (suc j) n b r s x y =
    let p = passed_as b x.3.following y.2 x.3.major x.3.argument y.1 x.3.split y.3 in
    passed_once k j (x.1 + (n - 1)) x.2 r s x.4 (subst (λ m. PassesHeads j x.2 (m + (n - 1)) s) (p.0 ∙ sym x.3.counted) (subst (λ c. PassesHeads j c (y.1 + (n - 1)) s) (p.2 ∙ sym x.3.left) y.4))

-- each takes a byte at least
passed_some : (k n : ℕ) (b r : List ℕ) → PassesHeads k b n r → n ≤ length b
passed_some zero n b r x = omega (arith, x.0)
passed_some (suc k) n b r x = omega (arith, x.0, passed_some k (x.1 + (n - 1)) x.2 r x.4, passed_shorter b x.2 x.1 x.3)

passed_ends : (b rest : List ℕ) (parts : ℕ) → PassesHead b parts rest → (before : List ℕ) × (b ≡ before ++ rest)
passed_ends b rest parts p = let e = cut (is_string p.major) in (
  head p.major p.argument ++ e.0,
  p.split.2 ∙ ap (λ x. head p.major p.argument ++ x) (e.1 ∙ ap (λ x. e.0 ++ x) (sym p.left)) ∙ sym (append_assoc (head p.major p.argument) e.0 rest),
)
  where
    cut : (x : Bool) → (front : List ℕ) × (p.following ≡ front ++ (if x then drop p.argument p.following else p.following))
    cut true = (take p.argument p.following, sym (take-append-drop p.argument p.following))
    cut false = ([], refl)

-- they end in these bytes
pub ends_within : (b r : List ℕ) (n : ℕ) → EndByHeads b n r → (before : List ℕ) × (b ≡ before ++ r)
ends_within b r n (k, x) = by k n b x
  where
    by : (k n : ℕ) (b : List ℕ) → PassesHeads k b n r → (before : List ℕ) × (b ≡ before ++ r)
    by zero n b x = ([], x.1)
    by (suc k) n b x =
        let e = passed_ends b x.2 x.1 x.3 in
        let more = by k (x.1 + (n - 1)) x.2 x.4 in
        (e.0 ++ more.0, e.1 ∙ ap (λ c. e.0 ++ c) more.1 ∙ sym (append_assoc e.0 more.0 r))

-- items at the front end where their heads say
row_ends : (most : ℕ) (b r : List ℕ) (n : ℕ) → length b ≤ most → IsRow b n r → EndByHeads b n r
row_ends most b r n few (no_items, e, f) = (zero, (sym e, f.is))
row_ends zero b r n few (item t ts, e, f) = absurd (omega (arith, few, row_some b r (item t ts) f))
row_ends (suc most) b r n few (item t ts, e, f) =
    let o = item_opened b r t ts f in
    let c = payload t ++ (items_spelling ts ++ r) in
    let h : SplitsHead b (major t) (argument t) c = (omega (arith, major_le t), argument_fits t o.0.spellable, front_head o.0) in
    let on = head_passed b c r (major t) (argument t) n (omega (arith, e)) h (item t ts, e, f) in
    let next = if is_string (major t) then drop (argument t) c else c in
    ends_closed b c r (major t) (argument t) n (omega (arith, e)) h on.0 (row_ends most next r (part_count (major t) (argument t) + (n - 1)) (omega (arith, few, token_shorter b c next (major t) (argument t) h refl)) on.1)

pub items_found : {A : Type 0} (bytes_of : A → List ℕ) (b rest : List ℕ) (n : ℕ) (ts : Items) (r : Option A) → FindsAfterItems bytes_of b n r → AreFronts b ts rest → item_count ts ≡ n → MatchOption r ⊥ (λ a. bytes_of a ≡ rest)
items_found bytes_of b rest n ts None none f e = none rest (row_ends (length b) b rest n (omega arith) (ts, e, f))
items_found bytes_of b rest n ts (Some a) found f e = let there = row_ends (length b) b rest n (omega arith) (ts, e, f) in passed_once found.0 there.0 n b (bytes_of a) rest found.1 there.1

-- the item at the front
pub one_found : {A : Type 0} (bytes_of : A → List ℕ) (b rest : List ℕ) (t : Tree) (r : Option A) → FindsAfterItems bytes_of b 1 r → IsFront b t rest → MatchOption r ⊥ (λ a. bytes_of a ≡ rest)
one_found bytes_of b rest t r found f = items_found bytes_of b rest 1 (item t no_items) r found (item_closed b rest rest t no_items f (record { well_formed = tt; spellable = tt; is = refl })) refl

-- ---- the loop

pub record Skipping (b : List ℕ) (count more : ℕ) (now : List ℕ) : Type 0 where
  pub shorter : length now ≤ length b
  pub whole : (r : List ℕ) → EndByHeads now more r → EndByHeads b count r
  pub left : (r : List ℕ) → EndByHeads b count r → EndByHeads now more r

pub none_skipped : (b : List ℕ) (count : ℕ) → Skipping b count count b
none_skipped b count = record { shorter = omega arith; whole = λ r e. e; left = λ r e. e }

pub no_head_found : {A : Type 0} (bytes_of : A → List ℕ) (b now : List ℕ) (count more : ℕ) → Skipping b count more now → 0 < more → ¬ BeginsWithHead now → FindsAfterItems {A = A} bytes_of b count None
no_head_found bytes_of b now count more s some none = λ r e. by r (s.left r e)
  where
    by : (r : List ℕ) → EndByHeads now more r → ⊥
    by r (zero, x) = omega (arith, some, x.0)
    by r (suc k, x) = none (x.3.major, x.3.argument, x.3.following, x.3.split)

pub no_string_found : {A : Type 0} (bytes_of : A → List ℕ) (b now c : List ℕ) (count more m n : ℕ) → Skipping b count more now → 0 < more → SplitsHead now m n c → IsTrue (is_string m) → length c < n → FindsAfterItems {A = A} bytes_of b count None
no_string_found bytes_of b now c count more m n s some h is few = λ r e. omega (arith, few, (ends_opened now c r m n more some h (s.left r e)).0 is)

pub too_many_found : {A : Type 0} (bytes_of : A → List ℕ) (b now c : List ℕ) (count more m n : ℕ) → Skipping b count more now → 0 < more → SplitsHead now m n c → length b < 2 ^ 64 → 2 ^ 64 ≤ part_count m n + (more - 1) → FindsAfterItems {A = A} bytes_of b count None
too_many_found bytes_of b now c count more m n s some h short many = λ r e.
    let next = if is_string m then drop n c else c in
    let on = (ends_opened now c r m n more some h (s.left r e)).1 in
    omega (arith, many, short, s.shorter, passed_some on.0 (part_count m n + (more - 1)) next r on.1, token_shorter now c next m n h refl)

pub one_skipped : (b now c next : List ℕ) (count more m n left : ℕ) → Skipping b count more now → 0 < more → SplitsHead now m n c → (IsTrue (is_string m) → n ≤ length c) → next ≡ (if is_string m then drop n c else c) → left ≡ part_count m n + (more - 1) → Skipping b count left next
one_skipped b now c next count more m n left s some h there is e = subst (λ x. Skipping b count x next) (sym e) (subst (Skipping b count (part_count m n + (more - 1))) (sym is) (record {
  shorter = omega (arith, s.shorter, token_shorter now c (if is_string m then drop n c else c) m n h refl);
  whole = λ r x. s.whole r (ends_closed now c r m n more some h there x);
  left = λ r x. (ends_opened now c r m n more some h (s.left r x)).1;
}))

pub all_skipped : {A : Type 0} (bytes_of : A → List ℕ) (a : A) (b : List ℕ) (count more : ℕ) → more ≡ 0 → Skipping b count more (bytes_of a) → FindsAfterItems bytes_of b count (Some a)
all_skipped bytes_of a b count more none s = s.whole (bytes_of a) (zero, (none, refl))
