-- The links of items in a row.
use Rattle.std.proofs.Common.{◌≡◌, ◌≢◌, ℕ, ◌+◌, ◌<◌, ◌≤◌, List, [], ◌∷◌, ◌++◌, length, length-append, append_assoc, append-nil, drop, take, refl, IsTrue, Bool, true, false, map, if◌then◌else◌, pos, negsuc, sym, ap, ◌∙◌, subst, arith, flat_map, take-append-drop}
use Rattle.std.specs.List.{AllByRecursion}
use Rattle.std.proofs.Math.Seq.{drop-append_seam, take-append_seam}
use Rattle.std.proofs.lemmas.List.Concat.{flat_map-append}
use Rattle.dagcbor_core.specs.Head.{head}
use Rattle.dagcbor_core.specs.Splits.{SplitsHead, BeginsWithHead}
use Rattle.dagcbor_core.proofs.Heads.{head_first}
use Rattle.ipld_tree.specs.Cid.{CidParts, cid_bytes}
use Rattle.ipld_tree.specs.Tree.{Tree, null, boolean, integer, text, bytes, list, mapping, link, Items, no_items, item, Entries, no_entries, entry, IsTree, AreItems, AreEntries, links_of, items_links, entries_links}
use Rattle.ipld_tree.specs.Spelling.{IsSpellable, AreSpellableItems, AreSpellableEntries, bytes_spelling, spelling, items_spelling, entries_spelling, IsFront}
use Rattle.ipld_tree.proofs.Unique.{major, argument, payload}
use Rattle.ipld_tree.proofs.Fronts.{front_unique, is_link}
use Rattle.dagcbor_decode.specs.Fronts.{SplitsCid}
use Rattle.dagcbor_decode.specs.Rows.{HoldsLinks, is_string}
use Rattle.dagcbor_decode.proofs.Fronts.{no_front, bytes_opened, link_opened, head_opened}

-- ---- parts in a row

abbrev IsWhole : Tree → Type 0
IsWhole t = IsTree t × IsSpellable t

abbrev AreWhole : List Tree → Type 0
AreWhole = AllByRecursion IsWhole

abbrev item_row : Items → List Tree
item_row no_items = []
item_row (item t ts) = t ∷ item_row ts

-- each key before its value
abbrev entry_row : Entries → List Tree
entry_row no_entries = []
entry_row (entry k t es) = text k ∷ t ∷ entry_row es

all_both : (xs ys : List Tree) → AreWhole xs → AreWhole ys → AreWhole (xs ++ ys)
all_both [] ys h k = k
all_both (x ∷ xs) ys h k = (h.0, all_both xs ys h.1 k)

items_whole : (ts : Items) → AreItems ts → AreSpellableItems ts → AreWhole (item_row ts)
items_whole no_items h k = tt
items_whole (item t ts) h k = ((h.0, k.0), items_whole ts h.1 k.1)

entries_whole : (es : Entries) → AreEntries es → AreSpellableEntries es → AreWhole (entry_row es)
entries_whole no_entries h k = tt
entries_whole (entry key t es) h k = ((h.0, k.0), ((h.1, k.1), entries_whole es h.3 k.2))

items_spelled : (ts : Items) → items_spelling ts ≡ flat_map spelling (item_row ts)
items_spelled no_items = refl
items_spelled (item t ts) = ap (λ s. spelling t ++ s) (items_spelled ts)

entries_spelled : (es : Entries) → entries_spelling es ≡ flat_map spelling (entry_row es)
entries_spelled no_entries = refl
entries_spelled (entry k t es) = ap (λ s. spelling (text k) ++ (spelling t ++ s)) (entries_spelled es)

items_linked : (ts : Items) → items_links ts ≡ flat_map links_of (item_row ts)
items_linked no_items = refl
items_linked (item t ts) = ap (λ s. links_of t ++ s) (items_linked ts)

entries_linked : (es : Entries) → entries_links es ≡ flat_map links_of (entry_row es)
entries_linked no_entries = refl
entries_linked (entry k t es) = ap (λ s. links_of t ++ s) (entries_linked es)

-- the first item, and what follows it
record Opened (b : List ℕ) (links : List (List ℕ)) : Type 0 where
  first : Tree
  more : List Tree
  front : IsFront b first (flat_map spelling more)
  whole : AreWhole more
  are : links ≡ links_of first ++ flat_map links_of more

opened : (b c : List ℕ) (m n : ℕ) (links : List (List ℕ)) → SplitsHead b m n c → HoldsLinks b links → Opened b links
opened b c m n links h holds = by holds.trees holds.whole holds.is holds.are
  where
    by : (ts : List Tree) → AreWhole ts → b ≡ flat_map spelling ts → links ≡ flat_map links_of ts → Opened b links
    by [] w e l = let f = head_first m n h.1 in absurd (cc (sym e ∙ h.2 ∙ ap (λ s. s ++ c) f.3))
    by (t ∷ ts) w e l = record { first = t; more = ts; front = record { well_formed = w.0.0; spellable = w.0.1; is = e }; whole = w.1; are = l }

-- a row of parts, and what follows it
parts_left : (parts ts : List Tree) (s : List ℕ) (ls : List (List ℕ)) (c : List ℕ) (links : List (List ℕ)) → AreWhole parts → AreWhole ts → s ≡ flat_map spelling parts → ls ≡ flat_map links_of parts → s ++ flat_map spelling ts ≡ c → links ≡ ls ++ flat_map links_of ts → HoldsLinks c links
parts_left parts ts s ls c links w v spelled linked e l = record {
  trees = parts ++ ts;
  whole = all_both parts ts w v;
  is = sym e ∙ ap (λ x. x ++ flat_map spelling ts) spelled ∙ sym (flat_map-append spelling parts ts);
  are = l ∙ ap (λ x. x ++ flat_map links_of ts) linked ∙ sym (flat_map-append links_of parts ts);
}

-- the row continues after a head that is not that of a link, and after its string if it has one
abbrev GoesOn : List ℕ → ℕ → List (List ℕ) → ℕ → Type 0
GoesOn c n links m = (IsTrue (is_string m) → n ≤ length c) × HoldsLinks (if is_string m then drop n c else c) links

pub token_passed : (b c : List ℕ) (m n : ℕ) (links : List (List ℕ)) → m ≢ 6 → SplitsHead b m n c → HoldsLinks b links → GoesOn c n links m
token_passed b c m n links six h holds =
    let o = opened b c m n links h holds in
    let k = head_opened m n b c (flat_map spelling o.more) o.first h o.front in
    subst (GoesOn c n links) k.0 (by o.first (λ e. six (sym k.0 ∙ e)) k.1 (o.front.well_formed, o.front.spellable) o.more o.whole k.2 o.are)
  where
    after : (s : List ℕ) (ts : List Tree) → length s ≡ n → AreWhole ts → s ++ flat_map spelling ts ≡ c → links ≡ flat_map links_of ts → (n ≤ length c) × HoldsLinks (drop n c) links
    after s ts long v p l = (
      omega (arith, long, ap length p, length-append s (flat_map spelling ts)),
      record { trees = ts; whole = v; is = ap (λ k. drop k c) (sym long) ∙ ap (drop (length s)) (sym p) ∙ drop-append_seam s (flat_map spelling ts); are = l },
    )

    leaf : (ts : List Tree) → AreWhole ts → flat_map spelling ts ≡ c → links ≡ flat_map links_of ts → HoldsLinks c links
    leaf ts v p l = record { trees = ts; whole = v; is = sym p; are = l }

    by : (t : Tree) → major t ≢ 6 → argument t ≡ n → IsWhole t → (ts : List Tree) → AreWhole ts → payload t ++ flat_map spelling ts ≡ c → links ≡ links_of t ++ flat_map links_of ts → GoesOn c n links (major t)
    by (text s) other a w ts v p l = let k = after s ts a v p l in ((λ _. k.0), k.1)
    by (bytes s) other a w ts v p l = let k = after s ts a v p l in ((λ _. k.0), k.1)
    by null other a w ts v p l = ((λ t. absurd (cc t)), leaf ts v p l)
    by (boolean x) other a w ts v p l = ((λ t. absurd (cc t)), leaf ts v p l)
    by (integer (pos x)) other a w ts v p l = ((λ t. absurd (cc t)), leaf ts v p l)
    by (integer (negsuc x)) other a w ts v p l = ((λ t. absurd (cc t)), leaf ts v p l)
    by (link s) other a w ts v p l = absurd (other refl)
    by (list xs) other a w ts v p l = ((λ t. absurd (cc t)), parts_left (item_row xs) ts (items_spelling xs) (items_links xs) c links (items_whole xs w.0 w.1.1) v (items_spelled xs) (items_linked xs) p l)
    by (mapping xs) other a w ts v p l = ((λ t. absurd (cc t)), parts_left (entry_row xs) ts (entries_spelling xs) (entries_links xs) c links (entries_whole xs w.0 w.1.1) v (entries_spelled xs) (entries_linked xs) p l)

-- a link, and what follows it
pub link_passed : (b c : List ℕ) (m n : ℕ) (links : List (List ℕ)) → m ≡ 6 → SplitsHead b m n c → HoldsLinks b links → (cid rest : List ℕ) × (more : List (List ℕ)) × SplitsCid c cid rest × (links ≡ cid ∷ more) × HoldsLinks rest more
link_passed b c m n links six h holds =
    let o = opened b c m n links h holds in
    let k = head_opened m n b c (flat_map spelling o.more) o.first h o.front in
    let l = is_link o.first (k.0 ∙ six) in (
      l.0,
      flat_map spelling o.more,
      flat_map links_of o.more,
      (link_opened m n b c l.0 (flat_map spelling o.more) h (subst (λ u. IsFront b u (flat_map spelling o.more)) l.1 o.front)).2,
      o.are ∙ ap (λ u. links_of u ++ flat_map links_of o.more) l.1,
      record { trees = o.more; whole = o.whole; is = refl; are = refl },
    )

-- if the bytes do not begin with a head, no item is left
pub none_left : (b : List ℕ) (links : List (List ℕ)) → ¬ BeginsWithHead b → HoldsLinks b links → links ≡ []
none_left b links none holds = by holds.trees holds.whole holds.is holds.are
  where
    by : (ts : List Tree) → AreWhole ts → b ≡ flat_map spelling ts → links ≡ flat_map links_of ts → links ≡ []
    by [] w e l = l
    by (t ∷ ts) w e l = absurd (no_front b (flat_map spelling ts) t none (record { well_formed = w.0.0; spellable = w.0.1; is = e }))

-- the byte string of a CID, in parts
pub link_parts : (b c : List ℕ) (m n : ℕ) → SplitsHead b m n c → ((cid : List ℕ) × (rest : List ℕ) × SplitsCid b cid rest) → (n ≤ length c) × (cid : List ℕ) × (take n c ≡ 0x00 ∷ cid) × SplitsCid b cid (drop n c)
link_parts b c m n h (cid, rest, s) =
    let k = bytes_opened m n b c (0x00 ∷ cid) rest h s.1 in
    let front : take n c ≡ 0x00 ∷ cid = ap (λ i. take i c) (sym k.1.0) ∙ ap (take (length (0x00 ∷ cid))) k.1.1 ∙ take-append_seam (0x00 ∷ cid) rest in
    let back : drop n c ≡ rest = ap (λ i. drop i c) (sym k.1.0) ∙ ap (drop (length (0x00 ∷ cid))) k.1.1 ∙ drop-append_seam (0x00 ∷ cid) rest in
    (omega (arith, k.1.0, ap length k.1.1, length-append (0x00 ∷ cid) rest), cid, front, subst (SplitsCid b cid) (sym back) s)

-- the bytes begin with at most one CID
pub one_cid : (c x y s t : List ℕ) → SplitsCid c x s → SplitsCid c y t → (x ≡ y) × (s ≡ t)
one_cid c x y s t h k =
    let same = front_unique c s t (bytes (0x00 ∷ x)) (bytes (0x00 ∷ y)) h.1 k.1 in
    let whole : 0x00 ∷ x ≡ 0x00 ∷ y = ap payload same.0 in
    (cc whole, same.1)

-- what is after a CID is shorter by more than its form
pub cid_shorter : (b cid rest : List ℕ) → SplitsCid b cid rest → length cid + length rest < length b
cid_shorter b cid rest s = omega (arith, ap length s.1.is, length-append (bytes_spelling (0x00 ∷ cid)) rest, length-append (head 2 (length (0x00 ∷ cid))) (0x00 ∷ cid))

-- what is after a head is no longer
pub after_shorter : (b c : List ℕ) (m n : ℕ) → SplitsHead b m n c → length c < length b
after_shorter b c m n h = let f = head_first m n h.1 in omega (arith, ap length h.2, length-append (head m n) c, ap length f.3)

-- what is after a token is shorter
pub token_shorter : (b c r : List ℕ) (m n : ℕ) → SplitsHead b m n c → r ≡ (if is_string m then drop n c else c) → length r < length b
token_shorter b c r m n h e = let f = head_first m n h.1 in omega (arith, ap length e, by (is_string m), ap length h.2, length-append (head m n) c, ap length f.3)
  where
    by : (x : Bool) → length (if x then drop n c else c) ≤ length c
    by true = omega (arith, ap length (take-append-drop n c), length-append (take n c) (drop n c))
    by false = omega arith

-- ---- the links so far

-- these links are before what is left of the row, and those in that are after them
pub record LinksSoFar (b : List ℕ) (found : List CidParts) (rest : List ℕ) : Type 0 where
  pub left : (links : List (List ℕ)) → HoldsLinks b links → (more : List (List ℕ)) × (links ≡ map cid_bytes found ++ more) × HoldsLinks rest more
  pub some : (links : List (List ℕ)) × HoldsLinks b links

pub none_so_far : (b : List ℕ) → ((links : List (List ℕ)) × HoldsLinks b links) → LinksSoFar b [] b
none_so_far b some = record { left = λ links h. (links, refl, h); some = some }

pub some_left : (b : List ℕ) (found : List CidParts) (rest : List ℕ) → LinksSoFar b found rest → (links : List (List ℕ)) × HoldsLinks rest links
some_left b found rest s = let k = s.left s.some.0 s.some.1 in (k.0, k.2)

map_push : (cs : List CidParts) (c : CidParts) → map cid_bytes (cs ++ c ∷ []) ≡ map cid_bytes cs ++ cid_bytes c ∷ []
map_push [] c = refl
map_push (x ∷ xs) c = ap (λ fs. cid_bytes x ∷ fs) (map_push xs c)

pub one_so_far : (b : List ℕ) (found : List CidParts) (c : CidParts) (rest after : List ℕ) → LinksSoFar b found rest → ((links : List (List ℕ)) → HoldsLinks rest links → (more : List (List ℕ)) × (links ≡ cid_bytes c ∷ more) × HoldsLinks after more) → LinksSoFar b (found ++ c ∷ []) after
one_so_far b found c rest after s next = record {
  left = λ links h.
      let k = s.left links h in
      let n = next k.0 k.2 in
      (n.0, k.1 ∙ ap (λ ls. map cid_bytes found ++ ls) n.1 ∙ sym (append_assoc (map cid_bytes found) (cid_bytes c ∷ []) n.0) ∙ ap (λ fs. fs ++ n.0) (sym (map_push found c)), n.2);
  some = s.some;
}

pub all_so_far : (b : List ℕ) (found : List CidParts) (rest : List ℕ) → LinksSoFar b found rest → ((links : List (List ℕ)) → HoldsLinks rest links → links ≡ []) → (links : List (List ℕ)) → HoldsLinks b links → map cid_bytes found ≡ links
all_so_far b found rest s none links h = let k = s.left links h in sym (k.1 ∙ ap (λ ls. map cid_bytes found ++ ls) (none k.0 k.2) ∙ append-nil (map cid_bytes found))

-- a link that is found is one of them
pub not_none : (b : List ℕ) (found : List CidParts) (c : CidParts) (rest after : List ℕ) → LinksSoFar b found rest → ((links : List (List ℕ)) → HoldsLinks rest links → (more : List (List ℕ)) × (links ≡ cid_bytes c ∷ more) × HoldsLinks after more) → (links : List (List ℕ)) → HoldsLinks b links → links ≢ []
not_none b found c rest after s next links h none =
    let k = s.left links h in
    let n = next k.0 k.2 in
    by (map cid_bytes found) (sym none ∙ k.1 ∙ ap (λ ls. map cid_bytes found ++ ls) n.1)
  where
    by : (front : List (List ℕ)) → [] ≡ front ++ (cid_bytes c ∷ (next (s.left links h).0 (s.left links h).2).0) → ⊥
    by [] e = absurd (cc e)
    by (x ∷ front) e = absurd (cc e)
