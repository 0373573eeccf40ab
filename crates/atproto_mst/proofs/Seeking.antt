-- Where a key leads in a tree, and its record among the entries of a walk.
use Rattle.std.proofs.Common.{◌≡◌, ◌≢◌, ℕ, zero, suc, Bool, true, false, List, [], ◌∷◌, ◌++◌, length, Option, Some, None, refl, sym, ap, ◌∙◌, subst, bytes_eq}
use Rattle.std.specs.Prelude.{if◌then◌else◌}
use Rattle.std.proofs.lemmas.Bool.{le-ltb}
use Rattle.std.proofs.lemmas.Slice.Eq.{bytes_eq-Decides}
use Rattle.std.proofs.lemmas.Cmp.{nat_list_cmp_total}
use Rattle.std.proofs.lemmas.Map.Lookups.{exact_bytes}
use Rattle.std.specs.declared.cmp.Ordering.{Ordering}
use Rattle.std.specs.declared.cmp.Ordering.TheVariants.{Less, Equal, Greater}
use Rattle.std.specs.Ordering.{nat_cmp, ordering_reverse}
use Rattle.std.specs.Cmp.Lexicographic.{slice_cmp}
use Rattle.ipld_tree.specs.Cid.{CidParts}
use Rattle.ipld_links.specs.Reaching.{Stored}
use Rattle.atproto_mst.specs.Keys.{Entry, ComesBefore, Rise}
use Rattle.atproto_mst.specs.Nodes.{NodeRow, key_of_row}
use Rattle.atproto_mst.specs.Walks.{WalksLink, WalksRows, WalksTree}
use Rattle.atproto_mst.specs.Finding.{lookup, by_order, seek, seek_in, FindsBelow, FindsRecord}
use Rattle.atproto_mst.specs.declared.find.Sought.{Sought}
use Rattle.atproto_mst.specs.declared.find.Sought.TheVariants as sought
use Rattle.atproto_mst.proofs.Rising.{rise_left, rise_right}

-- ---- the order of keys

abbrev pub Below : List ℕ → List ℕ → Type 0
Below k l = slice_cmp nat_cmp k l ≡ Less

pub below_trans : (k l m : List ℕ) → Below k l → Below l m → Below k m
below_trans k l m a b = nat_list_cmp_total.trans k l m a b

pub same_keys : (k : List ℕ) → slice_cmp nat_cmp k k ≡ Equal
same_keys k = by (slice_cmp nat_cmp k k) refl
  where
    by : (o : Ordering) → slice_cmp nat_cmp k k ≡ o → o ≡ Equal
    by Less e = let r : slice_cmp nat_cmp k k ≡ ordering_reverse (slice_cmp nat_cmp k k) = nat_list_cmp_total.antisymm k k in absurd (cc (e, r, ap ordering_reverse e))
    by Equal e = refl
    by Greater e = let r : slice_cmp nat_cmp k k ≡ ordering_reverse (slice_cmp nat_cmp k k) = nat_list_cmp_total.antisymm k k in absurd (cc (e, r, ap ordering_reverse e))

pub below_turned : (k l : List ℕ) → slice_cmp nat_cmp k l ≡ Greater → Below l k
below_turned k l e = nat_list_cmp_total.antisymm l k ∙ ap ordering_reverse e

pub not_same : (k l : List ℕ) → Below k l → k ≡ l → ⊥
not_same k l b e = let s : slice_cmp nat_cmp k l ≡ Equal = subst (λ x. slice_cmp nat_cmp k x ≡ Equal) e (same_keys k) in absurd (cc (b, s))

-- ---- a record among entries

pub other_first : (key k : List ℕ) (v : CidParts) (es : List Entry) → (k ≡ key → ⊥) → lookup key ((k, v) ∷ es) ≡ lookup key es
other_first key k v es not = by (bytes_eq k key) refl
  where
    by : (b : Bool) → bytes_eq k key ≡ b → lookup key ((k, v) ∷ es) ≡ lookup key es
    by true e = absurd (not ((bytes_eq-Decides k key).0 e))
    by false e = ap (λ b. if b then Some v else lookup key es) e

pub this_first : (key k : List ℕ) (v : CidParts) (es : List Entry) → k ≡ key → lookup key ((k, v) ∷ es) ≡ Some v
this_first key k v es is = ap (λ b. if b then Some v else lookup key es) ((bytes_eq-Decides k key).1 is)

-- entries that begin after the key lack it
pub no_record_before : (key : List ℕ) (es : List Entry) → ComesBefore key es → Rise es → lookup key es ≡ None
no_record_before key [] b r = refl
no_record_before key (e ∷ []) b r = other_first key e.0 e.1 [] (λ is. not_same key e.0 b (sym is))
no_record_before key (e ∷ f ∷ es) b r =
    other_first key e.0 e.1 (f ∷ es) (λ is. not_same key e.0 b (sym is))
    ∙ no_record_before key (f ∷ es) (below_trans key e.0 f.0 b r.0) r.1

-- entries before others
before_more : (e : Entry) (es fs : List Entry) → Rise (e ∷ (es ++ fs)) → ComesBefore e.0 fs
before_more e [] fs r = r.0
before_more e (f ∷ es) [] r = tt
before_more e (f ∷ es) (g ∷ fs) r = below_trans e.0 f.0 g.0 r.0 (before_more f es (g ∷ fs) r.1)

-- a key that does not come before what follows has no record in front
none_in_front : (key k : List ℕ) (v : CidParts) (es fs : List Entry) → Rise (es ++ (k, v) ∷ fs) → (slice_cmp nat_cmp key k ≢ Less) → lookup key (es ++ (k, v) ∷ fs) ≡ lookup key ((k, v) ∷ fs)
none_in_front key k v [] fs r not = refl
none_in_front key k v (e ∷ es) fs r not =
    other_first key e.0 e.1 (es ++ (k, v) ∷ fs) (λ is. not (subst (λ x. Below x k) is (before_more e es ((k, v) ∷ fs) r)))
    ∙ none_in_front key k v es fs r.1 not

-- a key before what follows has its record in front
record_in_front : (key : List ℕ) (es fs : List Entry) → ComesBefore key fs → Rise (es ++ fs) → lookup key (es ++ fs) ≡ lookup key es
record_in_front key [] fs b r = no_record_before key fs b r
record_in_front key (e ∷ es) fs b r = ap (λ found. if bytes_eq e.0 key then Some e.1 else found) (record_in_front key es fs b r.1)

-- ---- in a node

-- what a node says about the key agrees with the entries
abbrev Decides : (CidParts → List Entry → Type 0) → List ℕ → Sought → List Entry → Type 0
Decides W key (sought.Record v) es = lookup key es ≡ Some v
Decides W key (sought.Below link) es = (below : List Entry) × WalksLink W link below × Rise below × (lookup key es ≡ lookup key below)
Decides W key sought.KeyFront es = ⊥

decides_more : (W : CidParts → List Entry → Type 0) (key : List ℕ) (s : Sought) (es fs : List Entry) → lookup key es ≡ lookup key fs → Decides W key s fs → Decides W key s es
decides_more W key (sought.Record v) es fs e d = e ∙ d
decides_more W key (sought.Below link) es fs e d = (d.0, d.1, d.2, e ∙ d.3)
decides_more W key sought.KeyFront es fs e d = d

-- at a row, if the rest is decided
row_decides : (W : CidParts → List Entry → Type 0) (key k : List ℕ) (v : CidParts) (before : Option CidParts) (more : Sought) (below rest : List Entry) (o : Ordering) → slice_cmp nat_cmp key k ≡ o
    → WalksLink W before below → Rise (below ++ (k, v) ∷ rest) → (Rise rest → Decides W key more rest) → Decides W key (by_order o (sought.Below before) (sought.Record v) more) (below ++ (k, v) ∷ rest)
row_decides W key k v before more below rest Less e l r d = (below, l, rise_left below ((k, v) ∷ rest) r, record_in_front key below ((k, v) ∷ rest) e r)
row_decides W key k v before more below rest Equal e l r d =
    none_in_front key k v below rest r (λ x. absurd (cc (x, e))) ∙ this_first key k v rest (sym (exact_bytes key k e))
row_decides W key k v before more below rest Greater e l r d =
    decides_more W key more (below ++ (k, v) ∷ rest) rest
    (none_in_front key k v below rest r (λ x. absurd (cc (x, e))) ∙ other_first key k v rest (λ is. not_same k key (below_turned key k e) is))
    (d (rise_right below ((k, v) ∷ rest) r).1)

seek_decides : (W : CidParts → List Entry → Type 0) (key previous : List ℕ) (before : Option CidParts) (rows : List NodeRow) (below more : List Entry)
    → WalksLink W before below → WalksRows W previous rows more → Rise (below ++ more) → Decides W key (seek key previous before rows) (below ++ more)
seek_decides W key previous before [] below more l w r =
    (below, l, rise_left below more r, record_in_front key below more (subst (λ es. ComesBefore key es) (sym w) tt) r)
seek_decides W key previous before (row ∷ rows) below more l w r =
    subst (λ s. Decides W key s (below ++ more)) (ap (λ b. if b then sought.KeyFront else by_order (slice_cmp nat_cmp key (key_of_row previous row)) (sought.Below before) (sought.Record row.value) (seek key (key_of_row previous row) row.after rows)) (sym (le-ltb (length previous) row.shared w.0)))
    (subst (λ es. Decides W key (by_order (slice_cmp nat_cmp key (key_of_row previous row)) (sought.Below before) (sought.Record row.value) (seek key (key_of_row previous row) row.after rows)) (below ++ es)) (sym w.1.4)
    (row_decides W key (key_of_row previous row) row.value before (seek key (key_of_row previous row) row.after rows) below (w.1.0 ++ w.1.1) (slice_cmp nat_cmp key (key_of_row previous row)) refl l (subst (λ es. Rise (below ++ es)) w.1.4 r)
    (λ rise. seek_decides W key (key_of_row previous row) row.after rows w.1.0 w.1.1 w.1.2 w.1.3 rise)))

-- ---- in a tree

found_below : (W : CidParts → List Entry → Type 0) (F : CidParts → Option CidParts → Type 0) (key : List ℕ) (s : Sought) (es : List Entry)
    → ((next : CidParts) (below : List Entry) → W next below → Rise below → F next (lookup key below)) → Decides W key s es → FindsBelow F s (lookup key es)
found_below W F key (sought.Record v) es h d = d
found_below W F key (sought.Below None) es h d = d.3 ∙ ap (lookup key) d.1
found_below W F key (sought.Below (Some next)) es h d = subst (λ x. F next x) (sym d.3) (h next d.0 d.1.0 d.2)
found_below W F key sought.KeyFront es h d = absurd d

-- what a walk finds is found from the root
pub finds_walked : (m : ℕ) (stored : Stored) (name : CidParts) (es : List Entry) (key : List ℕ) → WalksTree m stored name es → Rise es → FindsRecord m stored key name (lookup key es)
finds_walked zero stored name es key w r = absurd w
finds_walked (suc m) stored name es key w r = (
  w.0,
  w.1,
  subst (λ x. FindsBelow (FindsRecord m stored key) (seek_in key w.0) (lookup key x)) (sym w.2.4)
      (found_below (WalksTree m stored) (FindsRecord m stored key) key (seek_in key w.0) (w.2.0 ++ w.2.1) (λ next below v rise. finds_walked m stored next below key v rise)
      (seek_decides (WalksTree m stored) key [] w.0.left w.0.rows w.2.0 w.2.1 w.2.2 w.2.3 (subst Rise w.2.4 r))),
)
