-- The pairs of a map, given one after another.
use Rattle.std.proofs.Common.{◌≡◌, ◌⊎◌, inl, inr, ℕ, zero, suc, List, [], ◌∷◌, ◌++◌, length, map, Option, None, Some, Bool, true, false, cond, Result, Ok, Err, refl, sym, ap, ◌∙◌, subst, append_assoc, append-nil, Any, IfSome, is_some, MatchResult, option_map, option_and_then, ◌<◌, ◌^◌, take, drop, get_or, arith, drop-cons, take-append-drop, IsErrAnd, OnErr}
use Rattle.std.specs.Fmt.{◌++?◌}
use Rattle.std.specs.Map.Iter.{TakesFirst}
use Rattle.dagcbor_heads.proofs.Writing.{append_None, append_Some, appends_nothing, wrote_nothing, Written-but, begin_writing, next_part, last_part}
use Rattle.dagcbor_core.specs.Messages.{message_bytes}
use Rattle.dagcbor_heads.specs.Written.{Written, WroteAll, Writes, Stops}
use Rattle.dagcbor_core.specs.declared.error.EncodeError.{EncodeError}
use Rattle.dagcbor_core.specs.declared.error.EncodeError.TheVariants.{Msg, Write, OutOfMemory}
use Rattle.ipld_tree.specs.Tree.{Tree, text, mapping, Entries, no_entries, entry, IsTree, ordered_entries, repeats_key, map_tree, all_some, key_of, pair_of, entries_tree}
use Rattle.ipld_tree.specs.Spelling.{entry_count, text_spelling}
use Rattle.ipld_tree.specs.Spelled.{spelled, spelled_bytes, spelled_entries, spelled_tree, spelled_head}
use Rattle.ipld_tree.proofs.Ordered.{Has, HasPair, ordered_has}
use Rattle.ipld_tree.proofs.Spelled.{spelled_is}
use Rattle.ipld_tree.proofs.WellFormed.{entry_count_ordered}
use Rattle.dagcbor_write.specs.Trees.{Pair}
use Rattle.dagcbor_write.specs.Gathering.{Refused, Collects}
use Rattle.dagcbor_write.specs.Maps.{Texts, spelled_key, IsSpellingOf, AreSpellingsOf, Joins, JoinsEntry, IsKeyMessage, IsEntryMessage, IsValueMessage, entries_text, map_rest, JoinsPairs, StopsAtPair, LacksValue, RefusesAnyValue, ShowsPairs}
use Rattle.dagcbor_write.specs.Pairwise.{Pairwise}
use Rattle.dagcbor_write.proofs.Keys.{key_none}
use Rattle.dagcbor_write.proofs.Mapping.{pairwise_push}

abbrev Named : Type 0
Named = List ℕ × Tree

-- ---- a map with a pair that cannot be written

abbrev NoText : Named → Type 0
NoText q = (spelled (text q.0) ≡ None) ⊎ (spelled q.1 ≡ None)

abbrev NoMap : Option (List Named) → Type 0
NoMap o = IfSome o (λ qs. (q : Named) × HasPair qs q.0 q.1 × NoText q)

abbrev before : Option Named → Option (List Named) → Option (List Named)
before o os = option_and_then (λ a. option_map (λ more. a ∷ more) os) o

here : (o : Option Named) (os : Option (List Named)) → IfSome o NoText → NoMap (before o os)
here None os h = tt
here (Some q) None h = tt
here (Some q) (Some qs) h = (q, inl (refl, refl), h)

later : (o : Option Named) (os : Option (List Named)) → NoMap os → NoMap (before o os)
later None os h = tt
later (Some q) None h = tt
later (Some q) (Some qs) h = (h.0, inr h.1, h.2)

-- the pair has no spelling, or its key is not a text
abbrev pub CannotBeWritten : Pair → Type 0
CannotBeWritten p = (spelled_key p.0 ≡ None) ⊎ (spelled_tree p.1 ≡ None)

no_pair : (k v : Option Tree) → CannotBeWritten (k, v) → IfSome (pair_of (k, v)) NoText
no_pair None v h = tt
no_pair (Some (text s)) None h = tt
no_pair (Some (text s)) (Some t) h = h
no_pair (Some _) v h = tt

missing : (done left : List Pair) (p : Pair) → CannotBeWritten p → NoMap (all_some (map pair_of (done ++ p ∷ left)))
missing [] left p h = here (pair_of p) (all_some (map pair_of left)) (no_pair p.0 p.1 h)
missing (q ∷ done) left p h = later (pair_of q) (all_some (map pair_of (done ++ p ∷ left))) (missing done left p h)

entries_None : (es : Entries) (k : List ℕ) (t : Tree) → Has es k t → NoText (k, t) → spelled_entries es ≡ None
unfolding spelled
entries_None no_entries k t h n = absurd h
entries_None (entry l u es) k t (inl same) (inl n) = ap (λ x. x ++? (spelled u ++? spelled_entries es)) (ap (spelled_bytes 3) same.0 ∙ n)
entries_None (entry l u es) k t (inl same) (inr n) = ap (λ x. spelled_bytes 3 l ++? (x ++? spelled_entries es)) (ap spelled same.1 ∙ n) ∙ append_None (spelled_bytes 3 l)
entries_None (entry l u es) k t (inr more) n =
    ap (λ x. spelled_bytes 3 l ++? (spelled u ++? x)) (entries_None es k t more n) ∙ ap (λ x. spelled_bytes 3 l ++? x) (append_None (spelled u)) ∙ append_None (spelled_bytes 3 l)

whole_None : (b : Bool) (es : Entries) → spelled_entries es ≡ None → spelled_tree (cond b None (Some (mapping es))) ≡ None
unfolding spelled
whole_None true es n = refl
whole_None false es n = ap (λ x. spelled_head 5 (entry_count es) ++? x) n ∙ append_None (spelled_head 5 (entry_count es))

part_None : (b : Bool) (es : Entries) → spelled_entries es ≡ None → entries_text (cond b None (Some (mapping es))) ≡ None
part_None true es n = refl
part_None false es n = n

tree_None : (o : Option (List Named)) → NoMap o → (spelled_tree (option_and_then map_tree o) ≡ None) × (entries_text (option_and_then map_tree o) ≡ None)
tree_None None h = (refl, refl)
tree_None (Some qs) h =
    let n = entries_None (ordered_entries qs) h.0.0 h.0.1 (ordered_has qs h.0.0 h.0.1 h.1) h.2 in
    (whole_None (repeats_key qs) (ordered_entries qs) n, part_None (repeats_key qs) (ordered_entries qs) n)

no_text : (out : Bool) (done left : List Pair) (p : Pair) → CannotBeWritten p → map_rest out (done ++ p ∷ left) ≡ None
no_text false done left p h = (tree_None (all_some (map pair_of (done ++ p ∷ left))) (missing done left p h)).0
no_text true done left p h = (tree_None (all_some (map pair_of (done ++ p ∷ left))) (missing done left p h)).1

-- ---- the head of a map, and what follows it

counts : (b : Bool) (qs : List Named) (n : ℕ) → length qs ≡ n → spelled_tree (cond b None (Some (mapping (ordered_entries qs)))) ≡ spelled_head 5 n ++? entries_text (cond b None (Some (mapping (ordered_entries qs))))
unfolding spelled
counts true qs n e = sym (append_None (spelled_head 5 n))
counts false qs n e = ap (λ k. spelled_head 5 k ++? spelled_entries (ordered_entries qs)) (entry_count_ordered qs ∙ e)

some_length : (ps : List Pair) → IfSome (all_some (map pair_of ps)) (λ qs. length qs ≡ length ps)
some_length [] = refl
some_length (p ∷ ps) = by (pair_of p) (all_some (map pair_of ps)) (some_length ps)
  where
    by : (o : Option Named) (os : Option (List Named)) → IfSome os (λ qs. length qs ≡ length ps) → IfSome (before o os) (λ qs. length qs ≡ suc (length ps))
    by None os h = tt
    by (Some q) None h = tt
    by (Some q) (Some qs) h = ap suc h

split_by : (o : Option (List Named)) (n : ℕ) → IfSome o (λ qs. length qs ≡ n) → spelled_tree (option_and_then map_tree o) ≡ spelled_head 5 n ++? entries_text (option_and_then map_tree o)
split_by None n h = sym (append_None (spelled_head 5 n))
split_by (Some qs) n h = counts (repeats_key qs) qs n h

pub spelled_map : (ps : List Pair) (n : ℕ) → n ≡ length ps → spelled_tree (entries_tree ps) ≡ spelled_head 5 n ++? map_rest true ps
spelled_map ps n e = split_by (all_some (map pair_of ps)) (length ps) (some_length ps) ∙ ap (λ k. spelled_head 5 k ++? map_rest true ps) (sym e)

pub begin_struct : (ps : List Pair) (n : ℕ) (s : Written) → n ≡ length ps → Written-but (spelled_tree (entries_tree ps)) (spelled_head 5 n ∷ map_rest true ps ∷ []) s s
begin_struct ps n s e = begin_writing _ _ s (spelled_map ps n e ∙ ap (λ x. spelled_head 5 n ++? x) (sym (append_Some (map_rest true ps))))

-- ---- step by step

-- all pairs of a map but these have been given; each one given is held, as R says
pub record Given-but {X : Type 0} (R : Pair → X → Type 0) (whole left : List Pair) (held : List X) : Type 0 where
  pub done : List Pair
  pub split : whole ≡ done ++ left
  pub holds : Pairwise R done held

pub begin_map : {X : Type 0} (R : Pair → X → Type 0) (whole : List Pair) (held : List X) → held ≡ [] → Given-but R whole whole held
begin_map {X} R whole held e = let P : List X → Type 0 = λ x. Pairwise R [] x in record { done = []; split = refl; holds = subst P (sym e) tt }

joined_spelling : (p : Pair) (k v : Option (List ℕ)) (old new : List Texts) → spelled_key p.0 ≡ k → spelled_tree p.1 ≡ v → Joins k v old new → IfSome p.0 IsTree → IfSome p.1 IsTree → (e : Texts) × IsSpellingOf p e × (new ≡ old ++ e ∷ [])
joined_spelling p None v old new a b j g h = absurd j
joined_spelling p (Some k) None old new a b j g h = absurd j
joined_spelling p (Some k) (Some v) old new a b j g h = ((k, v), record { key = a; value = b; good_key = g; good_value = h }, j)

-- one more pair was taken
pub next_pair : {X : Type 0} {R : Pair → X → Type 0} {whole left : List Pair} {p : Pair} {old : List X} → Given-but R whole (p ∷ left) old → (new : List X) (x : X) → R p x → new ≡ old ++ x ∷ [] → Given-but R whole left new
next_pair {X} {R} {whole} {left} {p} {old} w new x r e =
    let P : List X → Type 0 = λ xs. Pairwise R (w.done ++ p ∷ []) xs in
    record { done = w.done ++ p ∷ []; split = w.split ∙ sym (append_assoc w.done (p ∷ []) left); holds = subst P (sym e) (pairwise_push R w.done old p x w.holds r) }

end_of : (xs : List Pair) → xs ++ [] ≡ xs
end_of [] = refl
end_of (x ∷ xs) = ap (λ ys. x ∷ ys) (end_of xs)

-- no entry of the collected map has been given yet
pub begin_entries : (whole : List Pair) (held : List Texts) → held ≡ [] → Given-but IsSpellingOf whole whole held
begin_entries = begin_map IsSpellingOf

-- one more entry of the map was given
pub next_entry : {whole left : List Pair} {p : Pair} {old : List Texts} → Given-but IsSpellingOf whole (p ∷ left) old → (new : List Texts) → JoinsEntry p.0 p.1 old new → Given-but IsSpellingOf whole left new
next_entry {whole} {left} {p} {old} w new j =
    let e = joined_spelling p _ _ old new refl refl j.0.0 j.1 j.0.1 in
    next_pair w new e.0 e.1 e.2

pub all_given : {X : Type 0} {R : Pair → X → Type 0} {whole : List Pair} {held : List X} → Given-but R whole [] held → Pairwise R whole held
all_given {X} {R} {whole} {held} w = let P : List Pair → Type 0 = λ ps. Pairwise R ps held in subst P (sym (w.split ∙ end_of w.done)) w.holds

-- ---- refusals

no_key : (key : Option Tree) → option_and_then key_of key ≡ None → spelled_key key ≡ None
no_key key e = ap (option_and_then (λ k. spelled (text k))) e

key_cause : (p : Pair) (m : List ℕ) → IsKeyMessage p.0 m → CannotBeWritten p
key_cause p m (inl h) = inl (key_none p.0 h.1)
key_cause p m (inr h) = inl (no_key p.0 h.1)

refusal_stops : {E : Type 0} (whole : Option (List ℕ)) (s t : Written) (Cause : List ℕ → Type 0) (e : EncodeError E) → ((m : List ℕ) → Cause m → whole ≡ None) → Refused Cause e → s ≡ t → Stops whole s t e
refusal_stops {E} whole s t Cause (Msg m) f p same = let P : Written → Type 0 = λ u. Stops {E = E} whole s u (Msg m) in subst P same (f (message_bytes m) p, appends_nothing s.bytes, refl, refl)
refusal_stops whole s t Cause (Write e) f p same = absurd p
refusal_stops {E} whole s t Cause OutOfMemory f p same = let P : Written → Type 0 = λ u. Stops {E = E} whole s u OutOfMemory in subst P same (wrote_nothing whole s, refl, refl)

-- as a key, a text is refused only if the call is out of memory
pub only_value : {T E : Type 0} (Taken : T → Type 0) (name : List ℕ) (value : Option Tree) (r : Result T (EncodeError E)) → length name < 2 ^ 64 → Collects Taken (IsEntryMessage (Some (text name)) value) r → Collects Taken (IsValueMessage value) r
only_value Taken name value (Ok x) h t = t
only_value Taken name value (Err (Msg m)) h (inl (inl n)) = let differ : Some (text_spelling name) ≡ None = sym ((spelled_is (text name) (text_spelling name)).1 (h, refl)) ∙ n.1 in cc
only_value Taken name value (Err (Msg m)) h (inl (inr n)) = absurd (cc n.1)
only_value Taken name value (Err (Msg m)) h (inr n) = n
only_value Taken name value (Err (Write e)) h t = t
only_value Taken name value (Err OutOfMemory) h t = t

-- the exit of a `?`, when nothing was written
exit_unsent : {T E : Type 0} (whole : Option (List ℕ)) (s t : Written) (Cause : List ℕ → Type 0) (r : Result T (EncodeError E)) (e : EncodeError E) → ((m : List ℕ) → Cause m → whole ≡ None) → Refused Cause e → IsErrAnd r (λ d. d ≡ e) → s ≡ t → Writes whole s t r
exit_unsent whole s t Cause (Ok x) e f p is same = absurd is
exit_unsent {T} {E} whole s t Cause (Err d) e f p is same = let P : EncodeError E → Type 0 = λ y. Stops whole s t y in subst P (sym is) (refusal_stops whole s t Cause e f p same)

-- the exit of a `?` at a key
pub exit_key : {T E X : Type 0} {R : Pair → X → Type 0} {whole left : List Pair} {p : Pair} {old : List X} → Given-but R whole (p ∷ left) old → (s t : Written) (r : Result T (EncodeError E)) (e : EncodeError E)
    → Refused (IsKeyMessage p.0) e → IsErrAnd r (λ d. d ≡ e) → s ≡ t → Writes (spelled_tree (entries_tree whole)) s t r
exit_key {T} {E} {X} {R} {whole} {left} {p} {old} w s t r e refused is same =
    exit_unsent (map_rest false whole) s t (IsKeyMessage p.0) r e (λ m h. ap (map_rest false) w.split ∙ no_text false w.done left p (key_cause p m h)) refused is same

-- ---- the end of a map

-- what was written between two states was written between these under other names
pub Writes_from : {T E : Type 0} (whole : Option (List ℕ)) (s t u v : Written) (r : Result T (EncodeError E)) → t ≡ s → u ≡ v → Writes whole t u r → Writes whole s v r
Writes_from {T} {E} whole s t u v r e f w =
    let P : Written → Type 0 = λ x. Writes whole x u r in let Q : Written → Type 0 = λ x. Writes whole s x r in subst Q f (subst P e w)

-- the end of a map of which nothing was written
pub end_map : {T E : Type 0} {whole : List Pair} {held : List Texts} (announced : Option ℕ) → Given-but IsSpellingOf whole [] held → announced ≡ None → (s t u v : Written) (r : Result T (EncodeError E))
    → ((given : List Pair) → AreSpellingsOf given held → Writes (map_rest (is_some announced) given) t u r) → t ≡ s → u ≡ v → Writes (spelled_tree (entries_tree whole)) s v r
end_map {T} {E} {whole} {held} announced w none s t u v r told e f =
    let P : Option ℕ → Type 0 = λ a. Writes (map_rest (is_some a) whole) t u r in Writes_from (map_rest false whole) s t u v r e f (subst P none (told whole (all_given w)))

-- the end of a map whose head was written at the beginning
pub end_struct : {T E : Type 0} {W h : Option (List ℕ)} (n : ℕ) {whole : List Pair} {held : List Texts} {start s : Written} (announced : Option ℕ) → Written-but W (h ∷ map_rest true whole ∷ []) start start → WroteAll h start s → Given-but IsSpellingOf whole [] held → announced ≡ Some n → (t u v : Written) (r : Result T (EncodeError E))
    → ((given : List Pair) → AreSpellingsOf given held → Writes (map_rest (is_some announced) given) t u r) → t ≡ s → u ≡ v → Writes W start v r
end_struct {T} {E} {W} {h} n {whole} {held} {start} {s} announced begun out w is t u v r told e f =
    let P : Option ℕ → Type 0 = λ a. Writes (map_rest (is_some a) whole) t u r in last_part (next_part begun s out) v r (Writes_from (map_rest true whole) s t u v r e f (subst P is (told whole (all_given w))))

-- ---- for a loop that goes over the pairs

pub left_as : {X : Type 0} {R : Pair → X → Type 0} {whole left more : List Pair} {held : List X} → left ≡ more → Given-but R whole left held → Given-but R whole more held
left_as {X} {R} {whole} {left} {more} {held} is w = let P : List Pair → Type 0 = λ ps. Given-but R whole ps held in subst P is w

-- the items that the iterator of a map has left are its list
pub list_shows : {A X : Type 0} (shows : A → X) (pair : X → Pair) → ShowsPairs (TakesFirst shows) (λ e. pair (shows e)) (map pair)
list_shows shows pair s None t h = (ap (map pair) h.0, ap (map pair) h.1)
list_shows shows pair s (Some x) t h = ap (map pair) h

-- ---- the exit of a `?` at a field of a struct, by its place

nth_split : (whole : List Pair) (k : ℕ) (d : Pair) → k < length whole → whole ≡ take k whole ++ get_or whole k d ∷ drop (suc k) whole
nth_split whole k d h = sym (take-append-drop k whole) ∙ ap (λ x. take k whole ++ x) (drop-cons whole k d h)

pub exit_field : {T E : Type 0} {W h : Option (List ℕ)} {start s : Written} (whole : List Pair) → Written-but W (h ∷ map_rest true whole ∷ []) start start → WroteAll h start s → (k : ℕ) (d : Pair) → k < length whole → (t : Written) (r : Result T (EncodeError E)) (e : EncodeError E)
    → Refused (IsValueMessage (get_or whole k d).1) e → IsErrAnd r (λ d. d ≡ e) → s ≡ t → Writes W start t r
exit_field {T} {E} {W} {h} {start} {s} whole begun out k d below t r e refused is same =
    last_part (next_part begun s out) t r (exit_unsent (map_rest true whole) s t (IsValueMessage (get_or whole k d).1) r e (λ m c. ap (map_rest true) (nth_split whole k d below) ∙ no_text true (take k whole) (drop (suc k) whole) (get_or whole k d) (inr c.1)) refused is same)

-- ---- a row of pairs

any_later : {A : Type 0} {P : A → Type 0} (x : A) (xs : List A) → Any P xs → Any P (x ∷ xs)
any_later x xs h = (suc h.0, h.1, omega (arith, h.2), h.3, h.4)

pub first_lacks : (p : Pair) (ps : List Pair) → spelled_tree p.1 ≡ None → LacksValue (p ∷ ps)
first_lacks p ps h = (0, p, omega arith, refl, h)

pub other_lacks : (p : Pair) (ps : List Pair) → LacksValue ps → LacksValue (p ∷ ps)
other_lacks p ps h = any_later p ps h

some_lacks : (taken left : List Pair) (p : Pair) → spelled_tree p.1 ≡ None → LacksValue (taken ++ p ∷ left)
some_lacks [] left p h = first_lacks p left h
some_lacks (q ∷ taken) left p h = other_lacks q (taken ++ p ∷ left) (some_lacks taken left p h)

joins_first : (p : Pair) (ps : List Pair) (old middle new : List Texts) → JoinsEntry p.0 p.1 old middle → JoinsPairs ps middle new → JoinsPairs (p ∷ ps) old new
joins_first p ps old middle new j h =
    let e = joined_spelling p _ _ old middle refl refl j.0.0 j.1 j.0.1 in
    (e.0 ∷ h.0, (e.1, h.1), h.2 ∙ ap (λ xs. xs ++ h.0) e.2 ∙ append_assoc old (e.0 ∷ []) h.0)

-- the one pair was taken, or refused
pub one_given : {T E : Type 0} (p : Pair) (old new : List Texts) (r : Result T (EncodeError E)) → Collects (λ u. JoinsEntry p.0 p.1 old new) (IsValueMessage p.1) r
    → OnErr r (new ≡ old) → MatchResult r (λ _. JoinsPairs (p ∷ []) old new) (StopsAtPair (p ∷ []) old new)
one_given p old new (Ok x) j same = joins_first p [] old new new j ([], tt, sym (append-nil new))
one_given p old new (Err e) j same = record { taken = []; refused = p; left = []; split = refl; joined = ([], tt, same ∙ sym (append-nil old)); cause = j }

-- why a row was refused, whichever pair it was
pub row_cause : {E : Type 0} (ps : List Pair) (old new : List Texts) (e : EncodeError E) → StopsAtPair ps old new e → Refused (RefusesAnyValue ps) e
row_cause {E} ps old new e h = by e h.cause
  where
    by : (e : EncodeError E) → Refused (IsValueMessage h.refused.1) e → Refused (RefusesAnyValue ps) e
    by (Msg m) c = let P : List Pair → Type 0 = λ qs. LacksValue qs in (c.0, subst P (sym h.split) (some_lacks h.taken h.left h.refused c.1))
    by (Write x) c = c
    by OutOfMemory c = tt

-- no value of the pairs is without a spelling
pub none_lacks : (ps : List Pair) (es : List Texts) → AreSpellingsOf ps es → LacksValue ps → ⊥
none_lacks ps es h l = by ps es l.0 h l.2 l.3 l.4
  where
    by : (ps : List Pair) (es : List Texts) (k : ℕ) → AreSpellingsOf ps es → k < length ps → get_or ps k l.1 ≡ l.1 → spelled_tree l.1.1 ≡ None → ⊥
    by [] es k h below at n = omega (arith, below)
    by (p ∷ ps) [] k h below at n = h
    by (p ∷ ps) (e ∷ es) zero h below at n = let differ : Some e.1 ≡ None = sym h.0.value ∙ ap (λ q. spelled_tree q.1) at ∙ n in absurd (cc differ)
    by (p ∷ ps) (e ∷ es) (suc k) h below at n = by ps es k h.1 (omega (arith, below)) at n

-- all were taken, one after another
pub given_row : (whole : List Pair) (old new : List Texts) → old ≡ [] → JoinsPairs whole old new → Given-but IsSpellingOf whole [] new
given_row whole old new e h =
    let P : List Texts → Type 0 = λ held. AreSpellingsOf whole held in
    record { done = whole; split = sym (end_of whole); holds = subst P (sym (h.2 ∙ ap (λ xs. xs ++ h.0) e)) h.1 }

-- the exit of a `?` at a row of pairs
pub exit_row : {T E : Type 0} (whole : List Pair) (s t : Written) (r : Result T (EncodeError E)) (e : EncodeError E) → Refused (RefusesAnyValue whole) e → IsErrAnd r (λ d. d ≡ e) → s ≡ t → Writes (spelled_tree (entries_tree whole)) s t r
exit_row whole s t r e refused is same =
    exit_unsent (map_rest false whole) s t (RefusesAnyValue whole) r e (λ m h. let l = h.1 in ap (map_rest false) (nth_split whole l.0 l.1 l.2) ∙ no_text false (take l.0 whole) (drop (suc l.0) whole) (get_or whole l.0 l.1) (inr (ap (λ p. spelled_tree p.1) l.3 ∙ l.4))) refused is same
