-- Refusals of items: of what they begin with, of what is in them, and after whole ones.
use Rattle.std.proofs.Common.{◌≡◌, ◌≢◌, ◌⊎◌, inl, inr, ℕ, zero, suc, ◌+◌, ◌/◌, ◌%◌, ◌^◌, ◌<◌, ◌≤◌, ◌==◌, List, ◌∷◌, ◌++◌, length, true, false, Option, Some, None, pos, negsuc, codes, refl, sym, ap, ◌∙◌, subst, arith}
use Rattle.std.proofs.lemmas.Bool.Decides.{eqb_tells}
use Rattle.dagcbor_core.specs.Head.{head}
use Rattle.dagcbor_core.specs.Names.{Names}
use Rattle.dagcbor_core.specs.declared.name.Name.{Name}
use Rattle.dagcbor_core.specs.declared.error.DecodeError.{DecodeError}
use Rattle.dagcbor_core.specs.declared.error.DecodeError.TheVariants.{DepthOverflow}
use Rattle.ipld_tree.specs.Tree.{Tree, integer, bytes, text, list, mapping, Items, no_items, item, Entries, no_entries, entry, items_need, entries_need}
use Rattle.ipld_tree.specs.Spelling.{item_count, entry_count, IsFront, AreFronts, AreEntryFronts}
use Rattle.ipld_tree.proofs.Fronts.{item_opened, entry_opened, entries_after}
use Rattle.dagcbor_decode.specs.Decode.{Decoded, got, refused, indefinite_size, depth_overflow, after, argument_of, string_of, text_of, key_of, follows, items_of, entries_of, item_of, list_of, map_of, leaf_of}
use Rattle.dagcbor_decode.specs.Verdicts.{IsRefusal, why_of}
use Rattle.dagcbor_decode.proofs.Complete.{any_reads, led, item_list, item_map}
use Rattle.dagcbor_decode.proofs.Standing.{key_read}
use Rattle.dagcbor_decode.proofs.Named.{named}
use Rattle.dagcbor_decode.proofs.Refusals.{refused_after, refused_then, refused_as}
use Rattle.dagcbor_items.specs.ReadCauses.{ItemCause, ItemsCause, EntriesCause, KeyCause}
use Rattle.dagcbor_items.specs.Entries.{AllFollow}
use Rattle.dagcbor_items.proofs.Pushes.{last_key}

pub at_steps : {E : Type 0} (e : DecodeError E) (b : List ℕ) (s t : ℕ) → s ≡ t → ItemCause s e b → ItemCause t e b
at_steps {E} e b s t is h = subst (λ n. ItemCause {E = E} n e b) is h

-- ---- what an item begins with

is_31 : (i : ℕ) → (i ≡ 31) ⊎ (i ≢ 31)
is_31 i = elim (eqb_tells i 31) [ inl a ↦ inl a.1 | inr a ↦ inr a.1 ]

-- an indefinite length, or a break
pub indefinite : {E : Type 0} (steps : ℕ) (e : DecodeError E) (first : ℕ) (b more : List ℕ) → 0 < steps → b ≡ first ∷ more → first % 32 ≡ 31 → why_of e ≡ Some indefinite_size → ItemCause steps e b
indefinite zero e first b more some is i h = absurd (omega (arith, some))
indefinite (suc steps) e first b more some is i h = refused_as _ indefinite_size (length more) e (ap (item_of (suc steps)) is ∙ rw i refl) h

leaf_asked : (steps first : ℕ) (b more : List ℕ) → 0 < steps → b ≡ first ∷ more → first % 32 ≢ 31 → first / 32 ≢ 4 → first / 32 ≢ 5 → leaf_of first more ≡ item_of steps b
leaf_asked zero first b more some is i n4 n5 = absurd (omega (arith, some))
leaf_asked (suc steps) first b more some is i n4 n5 = sym (ap (item_of (suc steps)) is ∙ rw (other (first % 32) 31 i, other (first / 32) 4 n4, other (first / 32) 5 n5) refl)
  where
    other : (m n : ℕ) → m ≢ n → (m == n) ≡ false
    other m n h = elim (eqb_tells m n) [ inl a ↦ absurd (h a.1) | inr a ↦ a.0 ]

-- an item of definite length that contains no other
pub leaf_refused : {E : Type 0} (steps : ℕ) (e : DecodeError E) (first : ℕ) (b more : List ℕ) → 0 < steps → b ≡ first ∷ more → first % 32 ≢ 31 → first / 32 ≢ 4 → first / 32 ≢ 5 → IsRefusal (leaf_of first more) e → ItemCause steps e b
leaf_refused steps e first b more some is i n4 n5 h = subst (λ r. IsRefusal r e) (leaf_asked steps first b more some is i n4 n5) h

-- its head, or all of it, of whatever length
part_refused : {A E : Type 0} (r : Decoded A) (steps : ℕ) (e : DecodeError E) (first : ℕ) (b more : List ℕ) → 0 < steps → b ≡ first ∷ more → first / 32 ≢ 4 → first / 32 ≢ 5 → (first % 32 ≡ 31 → r ≡ refused indefinite_size (length more))
    → (IsRefusal r e → IsRefusal (leaf_of first more) e) → IsRefusal r e → ItemCause steps e b
part_refused r steps e first b more some is n4 n5 long part h = by (is_31 (first % 32))
  where
    by : (first % 32 ≡ 31) ⊎ (first % 32 ≢ 31) → ItemCause steps e b
    by (inl i) = indefinite steps e first b more some is i (subst (λ x. IsRefusal x e) (long i) h)
    by (inr i) = leaf_refused steps e first b more some is i n4 n5 (part h)

pub natural_head : {E : Type 0} (steps : ℕ) (e : DecodeError E) (first : ℕ) (b more : List ℕ) → 0 < steps → b ≡ first ∷ more → first / 32 ≡ 0 → IsRefusal (argument_of (codes "u64") first more) e → ItemCause steps e b
natural_head steps e first b more some is m h = part_refused (argument_of (codes "u64") first more) steps e first b more some is (λ x. omega (arith, x, m)) (λ x. omega (arith, x, m)) (λ i. rw i refl)
    (λ k. let j = refused_after (argument_of (codes "u64") first more) (λ n. got (integer (pos n))) e k in rw m j) h

pub negative_head : {E : Type 0} (steps : ℕ) (e : DecodeError E) (first : ℕ) (b more : List ℕ) → 0 < steps → b ≡ first ∷ more → first / 32 ≡ 1 → IsRefusal (argument_of (codes "any") first more) e → ItemCause steps e b
negative_head steps e first b more some is m h = part_refused (argument_of (codes "any") first more) steps e first b more some is (λ x. omega (arith, x, m)) (λ x. omega (arith, x, m)) (λ i. rw i refl)
    (λ k. let j = refused_after (argument_of (codes "any") first more) (λ n. got (integer (negsuc n))) e k in rw m j) h

pub bytes_item : {E : Type 0} (steps : ℕ) (e : DecodeError E) (first : ℕ) (b more : List ℕ) → 0 < steps → b ≡ first ∷ more → first / 32 ≡ 2 → IsRefusal (string_of (codes "bytes") first more) e → ItemCause steps e b
bytes_item steps e first b more some is m h = part_refused (string_of (codes "bytes") first more) steps e first b more some is (λ x. omega (arith, x, m)) (λ x. omega (arith, x, m)) (λ i. rw i refl)
    (λ k. let j = refused_after (string_of (codes "bytes") first more) (λ s. got (bytes s)) e k in rw m j) h

pub text_item : {E : Type 0} (steps : ℕ) (e : DecodeError E) (first : ℕ) (b more : List ℕ) → 0 < steps → b ≡ first ∷ more → first / 32 ≡ 3 → IsRefusal (text_of (codes "string") first more) e → ItemCause steps e b
text_item steps e first b more some is m h = part_refused (text_of (codes "string") first more) steps e first b more some is (λ x. omega (arith, x, m)) (λ x. omega (arith, x, m)) (λ i. rw i refl)
    (λ k. let j = refused_after (text_of (codes "string") first more) (λ s. got (text s)) e k in rw m j) h

-- ---- lists and maps

-- their heads, if two steps are left
pub list_head : {E : Type 0} (steps : ℕ) (e : DecodeError E) (first : ℕ) (b more : List ℕ) → b ≡ first ∷ more → first / 32 ≡ 4 → IsRefusal (argument_of (codes "array") first more) e → ItemCause (suc (suc steps)) e b
list_head steps e first b more is m h = by (is_31 (first % 32))
  where
    long : first % 32 ≡ 31 → argument_of (codes "array") first more ≡ refused indefinite_size (length more)
    long i = rw i refl

    by : (first % 32 ≡ 31) ⊎ (first % 32 ≢ 31) → ItemCause (suc (suc steps)) e b
    by (inl i) = indefinite (suc (suc steps)) e first b more (omega arith) is i (subst (λ x. IsRefusal x e) (long i) h)
    by (inr i) =
        let j = refused_after (argument_of (codes "array") first more) (λ n rest. after (items_of (item_of steps) n rest) λ ts. got (list ts)) e h in
        subst (λ x. IsRefusal x e) (sym (ap (item_of (suc (suc steps))) is ∙ item_list (list_of (suc steps)) (map_of (suc steps)) first more (other i) m)) j
      where
        other : first % 32 ≢ 31 → (first % 32 == 31) ≡ false
        other n = elim (eqb_tells (first % 32) 31) [ inl a ↦ absurd (n a.1) | inr a ↦ a.0 ]

pub map_head : {E : Type 0} (steps : ℕ) (e : DecodeError E) (first : ℕ) (b more : List ℕ) → b ≡ first ∷ more → first / 32 ≡ 5 → IsRefusal (argument_of (codes "map") first more) e → ItemCause (suc (suc steps)) e b
map_head steps e first b more is m h = by (is_31 (first % 32))
  where
    long : first % 32 ≡ 31 → argument_of (codes "map") first more ≡ refused indefinite_size (length more)
    long i = rw i refl

    by : (first % 32 ≡ 31) ⊎ (first % 32 ≢ 31) → ItemCause (suc (suc steps)) e b
    by (inl i) = indefinite (suc (suc steps)) e first b more (omega arith) is i (subst (λ x. IsRefusal x e) (long i) h)
    by (inr i) =
        let j = refused_after (argument_of (codes "map") first more) (λ n rest. after (entries_of (item_of steps) n None rest) λ es. got (mapping es)) e h in
        subst (λ x. IsRefusal x e) (sym (ap (item_of (suc (suc steps))) is ∙ item_map (list_of (suc steps)) (map_of (suc steps)) first more (other i) m)) j
      where
        other : first % 32 ≢ 31 → (first % 32 == 31) ≡ false
        other n = elim (eqb_tells (first % 32) 31) [ inl a ↦ absurd (n a.1) | inr a ↦ a.0 ]

-- no step is left, or only one for a list or a map
pub no_step : (E : Type 0) (n : Name) (b : List ℕ) → Names n (codes "any") → ItemCause {E = E} 0 (DepthOverflow n) b
no_step E n b h = ap (λ s. Some (depth_overflow s)) (named n (codes "any") (codes "any") h refl (omega arith))

pub list_step : (E : Type 0) (n : Name) (first : ℕ) (b more : List ℕ) → b ≡ first ∷ more → first % 32 ≢ 31 → first / 32 ≡ 4 → Names n (codes "array") → ItemCause {E = E} 1 (DepthOverflow n) b
list_step E n first b more is i m h = refused_as _ (depth_overflow (codes "array")) (length more) _ (ap (item_of 1) is ∙ item_list (list_of 0) (map_of 0) first more other m) (ap (λ s. Some (depth_overflow s)) (named n (codes "array") (codes "array") h refl (omega arith)))
  where
    other : (first % 32 == 31) ≡ false
    other = elim (eqb_tells (first % 32) 31) [ inl a ↦ absurd (i a.1) | inr a ↦ a.0 ]

pub map_step : (E : Type 0) (n : Name) (first : ℕ) (b more : List ℕ) → b ≡ first ∷ more → first % 32 ≢ 31 → first / 32 ≡ 5 → Names n (codes "map") → ItemCause {E = E} 1 (DepthOverflow n) b
map_step E n first b more is i m h = refused_as _ (depth_overflow (codes "map")) (length more) _ (ap (item_of 1) is ∙ item_map (list_of 0) (map_of 0) first more other m) (ap (λ s. Some (depth_overflow s)) (named n (codes "map") (codes "map") h refl (omega arith)))
  where
    other : (first % 32 == 31) ≡ false
    other = elim (eqb_tells (first % 32) 31) [ inl a ↦ absurd (i a.1) | inr a ↦ a.0 ]

-- what is in them
pub in_list : {E : Type 0} (count steps : ℕ) (e : DecodeError E) (b c : List ℕ) → count < 2 ^ 64 → b ≡ head 4 count ++ c → ItemsCause count steps e c → ItemCause (steps + 2) e b
in_list {E} count steps e b c fits opens h = at_steps {E = E} e b (suc (suc steps)) (steps + 2) (omega arith)
    (subst (λ x. IsRefusal x e) (sym is) (refused_after (items_of (item_of steps) count c) (λ ts. got (list ts)) e h))
  where
    is : item_of (suc (suc steps)) b ≡ after (items_of (item_of steps) count c) (λ ts. got (list ts))
    is = ap (item_of (suc (suc steps))) opens ∙ led (suc steps) 4 count c _ fits (λ first more m i r. item_list (list_of (suc steps)) (map_of (suc steps)) first more i m
        ∙ ap (λ x. after x (λ n rest. after (items_of (item_of steps) n rest) (λ us. got (list us)))) (r (codes "array")))

pub in_map : {E : Type 0} (count steps : ℕ) (e : DecodeError E) (b c : List ℕ) → count < 2 ^ 64 → b ≡ head 5 count ++ c → EntriesCause count steps e c → ItemCause (steps + 2) e b
in_map {E} count steps e b c fits opens h = at_steps {E = E} e b (suc (suc steps)) (steps + 2) (omega arith)
    (subst (λ x. IsRefusal x e) (sym is) (refused_after (entries_of (item_of steps) count None c) (λ es. got (mapping es)) e h))
  where
    is : item_of (suc (suc steps)) b ≡ after (entries_of (item_of steps) count None c) (λ es. got (mapping es))
    is = ap (item_of (suc (suc steps))) opens ∙ led (suc steps) 5 count c _ fits (λ first more m i r. item_map (list_of (suc steps)) (map_of (suc steps)) first more i m
        ∙ ap (λ x. after x (λ n rest. after (entries_of (item_of steps) n None rest) (λ es. got (mapping es)))) (r (codes "map")))

-- ---- after whole ones

pub after_items : {E : Type 0} (ts : Items) (count steps : ℕ) (e : DecodeError E) (b c : List ℕ) → AreFronts b ts c → item_count ts < count → items_need ts ≤ steps → ItemCause steps e c → ItemsCause count steps e b
after_items ts zero steps e b c f few need h = absurd (omega (arith, few))
after_items no_items (suc count) steps e b c f few need h = refused_after (item_of steps b) (λ t rest. after (items_of (item_of steps) count rest) λ ts. got (item t ts)) e (subst (λ x. ItemCause steps e x) (sym f.is) h)
after_items (item t ts) (suc count) steps e b c f few need h =
    let o = item_opened b c t ts f in
    refused_then (item_of steps b) (λ t rest. after (items_of (item_of steps) count rest) λ ts. got (item t ts)) t _ e (any_reads steps b t _ o.0 (omega (arith, need)))
    (refused_after (items_of (item_of steps) count _) (λ ts. got (item t ts)) e (after_items ts count steps e _ c o.1 (omega (arith, few)) (omega (arith, need)) h))

-- the last key, after a key that comes before them all
pub last_after : Option (List ℕ) → Entries → Option (List ℕ)
last_after previous no_entries = previous
last_after previous (entry k t es) = last_after (Some k) es

pub last_of_all : (es : Entries) → last_after None es ≡ last_key es
unfolding last_key last_after
last_of_all no_entries = refl
last_of_all (entry k t es) = more k t es
  where
    more : (k : List ℕ) (t : Tree) (es : Entries) → last_after (Some k) es ≡ last_key (entry k t es)
    more k t no_entries = refl
    more k t (entry l u es) = more l u es

key_stands : (previous : Option (List ℕ)) (k : List ℕ) (t : Tree) (es : Entries) → AllFollow previous (entry k t es) → follows previous k ≡ true
key_stands None k t es f = refl
key_stands (Some l) k t es f = f

-- what refuses the entry after whole ones refuses them all
entries_from : {E : Type 0} (es : Entries) (count steps : ℕ) (previous : Option (List ℕ)) (e : DecodeError E) (b c : List ℕ) → AreEntryFronts b es c → AllFollow previous es → entry_count es < count → entries_need es ≤ steps
    → ((more : ℕ) → IsRefusal (entries_of (item_of steps) (suc more) (last_after previous es) c) e) → IsRefusal (entries_of (item_of steps) count previous b) e
unfolding last_after
entries_from es zero steps previous e b c f follow few need h = absurd (omega (arith, few))
entries_from no_entries (suc count) steps previous e b c f follow few need h = subst (λ x. IsRefusal (entries_of (item_of steps) (suc count) previous x) e) (sym f.is) (h count)
entries_from (entry k t es) (suc count) steps previous e b c f follow few need h =
    let o = entry_opened b c k t es f in
    let a = entries_after b o.0 _ c k k t t es o.1 o.2 f in
    refused_then (key_of previous b) (λ key value. after (item_of steps value) λ t rest. after (entries_of (item_of steps) count (Some key) rest) λ es. got (entry key t es)) k o.0 e
    (key_read previous b k o.0 o.1 (key_stands previous k t es follow))
    (refused_then (item_of steps o.0) (λ t rest. after (entries_of (item_of steps) count (Some k) rest) λ es. got (entry k t es)) t _ e (any_reads steps o.0 t _ o.2 (omega (arith, need)))
    (refused_after (entries_of (item_of steps) count (Some k) _) (λ es. got (entry k t es)) e (entries_from es count steps (Some k) e _ c a.3 a.2 (omega (arith, few)) (omega (arith, need)) h)))

-- a key
pub after_entries : {E : Type 0} (es : Entries) (count steps : ℕ) (e : DecodeError E) (b c : List ℕ) → AreEntryFronts b es c → entry_count es < count → entries_need es ≤ steps → KeyCause (last_key es) e c → EntriesCause count steps e b
after_entries {E} es count steps e b c f few need h = entries_from es count steps None e b c f tt few need
    (λ more. refused_after (key_of (last_after None es) c) (λ key value. after (item_of steps value) λ t rest. after (entries_of (item_of steps) more (Some key) rest) λ es. got (entry key t es)) e
    (subst (λ p. KeyCause {E = E} p e c) (sym (last_of_all es)) h))

-- a value
pub after_key : {E : Type 0} (es : Entries) (count steps : ℕ) (key : List ℕ) (e : DecodeError E) (b c d : List ℕ) → AreEntryFronts b es c → entry_count es < count → entries_need es ≤ steps → IsFront c (text key) d → follows (last_key es) key ≡ true → ItemCause steps e d → EntriesCause count steps e b
after_key {E} es count steps key e b c d f few need k follow h = entries_from es count steps None e b c f tt few need
    (λ more. refused_then (key_of (last_after None es) c) (λ key value. after (item_of steps value) λ t rest. after (entries_of (item_of steps) more (Some key) rest) λ es. got (entry key t es)) key d e
    (key_read (last_after None es) c key d k (subst (λ p. follows p key ≡ true) (sym (last_of_all es)) follow))
    (refused_after (item_of steps d) (λ t rest. after (entries_of (item_of steps) more (Some key) rest) λ es. got (entry key t es)) e h))
