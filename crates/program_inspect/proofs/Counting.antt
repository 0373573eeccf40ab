-- One more block is counted after the others.
use Rattle.std.proofs.Common.{◌≡◌, ℕ, ◌+◌, ◌==◌, List, [], ◌∷◌, ◌++◌, take, get_or, ◌<◌, length, length-append, map, min, max, if◌then◌else◌, refl, sym, ap, ◌∙◌, arith, Result, Ok, Err, OnOk}
use Rattle.std.proofs.lemmas.List.{take_more}
use Rattle.std.proofs.lemmas.Bool.{ne_eqb}
use Rattle.std.specs.BTreeSet.{insert_key}
use Rattle.ipld_tree.specs.Cid.{CidParts, cid_cmp}
use Rattle.program_inspect.specs.Rows.{joins, counts_in, counts_all, rows_of}
use Rattle.program_inspect.specs.Names.{distinct_with, distinct}
use Rattle.program_inspect.specs.Counts.{Measure, names_of, lengths_of, total, greatest, least, AreCounts}
use Rattle.program_inspect.specs.declared.rows.Row.{Row}
use Rattle.program_inspect.specs.declared.counts.Counts.{Counts}

counts_push : (rows : List (ℕ × Row)) (ps : List (ℕ × ℕ)) (p : ℕ × ℕ) → counts_all rows (ps ++ p ∷ []) ≡ counts_in (counts_all rows ps) p.0 p.1
counts_push rows [] p = refl
counts_push rows (q ∷ ps) p = counts_push (counts_in rows q.0 q.1) ps p

pub distinct_push : (seen cs : List CidParts) (c : CidParts) → distinct_with seen (cs ++ c ∷ []) ≡ insert_key cid_cmp (distinct_with seen cs) c
distinct_push seen [] c = refl
distinct_push seen (d ∷ cs) c = distinct_push (insert_key cid_cmp seen d) cs c

-- one more CID of a list
pub distinct_more : (cs : List CidParts) (i : ℕ) (c : CidParts) (seen : List CidParts) → i < length cs → c ≡ get_or cs i c → seen ≡ distinct (take i cs) → insert_key cid_cmp seen c ≡ distinct (take (i + 1) cs)
distinct_more cs i c seen lt is h = ap (λ s. insert_key cid_cmp s c) h ∙ sym (ap distinct (take_more cs i c lt ∙ ap (λ x. take i cs ++ x ∷ []) (sym is)) ∙ distinct_push [] (take i cs) c)

pub map_push : {X Y : Type 0} (f : X → Y) (xs : List X) (x : X) → map f (xs ++ x ∷ []) ≡ map f xs ++ f x ∷ []
map_push f [] x = refl
map_push f (y ∷ xs) x = ap (λ l. f y ∷ l) (map_push f xs x)

total_push : (ns : List ℕ) (n : ℕ) → total (ns ++ n ∷ []) ≡ total ns + n
total_push [] n = omega arith
total_push (m ∷ ns) n = omega (arith, total_push ns n)

greatest_push : (ns : List ℕ) (n : ℕ) → greatest (ns ++ n ∷ []) ≡ max (greatest ns) n
greatest_push [] n = omega arith
greatest_push (m ∷ ns) n = omega (arith, greatest_push ns n)

least_push : (n : ℕ) (ns : List ℕ) (m : ℕ) → least ((n ∷ ns) ++ m ∷ []) ≡ min (least (n ∷ ns)) m
least_push n [] m = refl
least_push n (k ∷ ns) m = omega (arith, least_push k ns m)

rows_push : (f : Measure → ℕ × ℕ) (ms : List Measure) (m : Measure) (rows : List (ℕ × Row)) → rows ≡ rows_of (map f ms) → counts_in rows (f m).0 (f m).1 ≡ rows_of (map f (ms ++ m ∷ []))
rows_push f ms m rows h = ap (λ r. counts_in r (f m).0 (f m).1) h ∙ sym (ap rows_of (map_push f ms m) ∙ counts_push [] (map f ms) (f m))

-- one more block is counted, if its CID is added
pub counted : {X E : Type 0} (old new : Counts) (m : Measure) (r : Result X E)
    → new.all ≡ joins m.1 old.all
    → new.least ≡ (if old.all.count == 0 then m.1 else min old.least m.1)
    → new.greatest ≡ max old.greatest m.1
    → new.codecs.rows.entries ≡ counts_in old.codecs.rows.entries m.0.codec m.1
    → new.hashes.rows.entries ≡ counts_in old.hashes.rows.entries m.0.hash_code m.1
    → OnOk r (new.names.cids.keys ≡ insert_key cid_cmp old.names.cids.keys m.0)
    → OnOk r ((ms : List Measure) → AreCounts old ms → AreCounts new (ms ++ m ∷ []))
counted old new m (Err e) all low high codecs hashes names = tt
counted old new m (Ok x) all low high codecs hashes names = λ ms h. record {
  sections = ap (λ (row : Row). row.count) all ∙ ap (λ n. n + 1) h.sections ∙ sym (length-append ms (m ∷ []));
  bytes = ap (λ (row : Row). row.bytes) all ∙ ap (λ n. n + m.1) h.bytes ∙ sym (ap total (map_push (λ q. q.1) ms m) ∙ total_push (lengths_of ms) m.1);
  least = low ∙ least_more ms m old.all.count old.least h.sections h.least;
  greatest = high ∙ ap (λ n. max n m.1) h.greatest ∙ sym (ap greatest (map_push (λ q. q.1) ms m) ∙ greatest_push (lengths_of ms) m.1);
  codecs = codecs ∙ rows_push (λ q. (q.0.codec, q.1)) ms m old.codecs.rows.entries h.codecs;
  hashes = hashes ∙ rows_push (λ q. (q.0.hash_code, q.1)) ms m old.hashes.rows.entries h.hashes;
  names = names ∙ ap (λ keys. insert_key cid_cmp keys m.0) h.names ∙ sym (ap distinct (map_push (λ q. q.0) ms m) ∙ distinct_push [] (names_of ms) m.0);
}
  where
    least_more : (ms : List Measure) (m : Measure) (count low : ℕ) → count ≡ length ms → low ≡ least (lengths_of ms) → (if count == 0 then m.1 else min low m.1) ≡ least (lengths_of (ms ++ m ∷ []))
    least_more [] m count low h k = ap (λ n. if n == 0 then m.1 else min low m.1) h
    least_more (q ∷ ms) m count low h k = ap (λ b. if b then m.1 else min low m.1) (ne_eqb count 0 (λ none. omega (arith, none, h))) ∙ ap (λ n. min n m.1) k ∙ sym (ap (λ ns. least (q.1 ∷ ns)) (map_push (λ q. q.1) ms m) ∙ least_push q.1 (lengths_of ms) m.1)
