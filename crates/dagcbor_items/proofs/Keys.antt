-- Reading the keys of maps.
use Rattle.std.proofs.Common.{◌≡◌, inl, inr, ℕ, ◌/◌, List, [], ◌∷◌, ◌++◌, length, refl, sym, ap, ◌∙◌, subst, arith, append_assoc, Bool, true, false, zero-le, Option, Some, None, IsTrue, IsUtf8, codes, Result, Err}
use Rattle.std.proofs.lemmas.Bool.Decides.{eqb_tells}
use Rattle.std.specs.Borrow.{Bor}
use Rattle.dagcbor_heads.specs.Reading.{Reading}
use Rattle.dagcbor_heads.specs.Refusals.{RefusesOrLacksMemoryUnlent}
use Rattle.dagcbor_core.specs.declared.error.DecodeError.{DecodeError}
use Rattle.dagcbor_core.specs.declared.error.DecodeError.TheVariants.{RequireUtf8, UnorderedKey}
use Rattle.dagcbor_heads.proofs.Taking.{stays}
use Rattle.dagcbor_heads.proofs.Refusing.{passed_on}
use Rattle.ipld_tree.specs.Key.{comes_before}
use Rattle.ipld_tree.specs.Tree.{text}
use Rattle.ipld_tree.specs.Spelling.{IsFront}
use Rattle.ipld_tree.proofs.Fronts.{front_unique}
use Rattle.dagcbor_items.specs.Untyped.{TakesItem}
use Rattle.dagcbor_items.specs.Places.{Follows}
use Rattle.dagcbor_core.specs.Head.{head}
use Rattle.dagcbor_decode.specs.Decode.{refused, mismatch, unordered_key, after, text_of, in_order, follows, key_of}
use Rattle.dagcbor_decode.specs.Verdicts.{IsRefusal}
use Rattle.dagcbor_decode.proofs.HeadLaws.{head_front}
use Rattle.dagcbor_decode.proofs.Complete.{text_front}
use Rattle.dagcbor_decode.proofs.Refusals.{refused_after, refused_as, kept_short}
use Rattle.dagcbor_items.specs.Leaves.{text_at}
use Rattle.dagcbor_items.specs.ReadCauses.{KeyCause, TextCause}
use Rattle.dagcbor_items.proofs.LeafRefusals.{text_read, other_text}
use Rattle.dagcbor_items.specs.Entries.{HasKey, IsNoKey, TakesKey}
use Rattle.dagcbor_items.specs.Majors.{TakesString}
use Rattle.dagcbor_items.specs.TypedReads.{HasFront}
use Rattle.dagcbor_items.specs.Shapes.{view_text, leaf}
use Rattle.dagcbor_items.proofs.StringReads.{no_text_refused, text_string_taken}
use Rattle.dagcbor_items.proofs.StringItems.{text_taken}

is_false : (b : Bool) → (IsTrue b → ⊥) → b ≡ false
is_false true no_more = absurd (no_more refl)
is_false false no_more = refl

key_as_text : {previous : Option (List ℕ)} {r : Reading} → HasKey previous r → HasFront (leaf view_text) r
key_as_text h = record { bytes = h.bytes; tree = text h.key; rest = h.rest; left = h.left; front = h.front; accepted = refl; within = zero-le }

-- what refuses a text refuses a key
key_cause : {E : Type 0} (previous : Option (List ℕ)) (e : DecodeError E) (b : List ℕ) → IsRefusal (text_at (codes "map key") b) e → KeyCause previous e b
key_cause previous e [] h = h
key_cause {E} previous e (first ∷ more) h = elim (eqb_tells (first / 32) 3) [
  | inl a ↦
      let k : IsRefusal (text_of (codes "map key") first more) e = subst (λ x. IsRefusal x e) (text_read (codes "map key") first more a.1) h in
      let is : key_of previous (first ∷ more) ≡ after (text_of (codes "map key") first more) (in_order previous) = rw a.0 refl in
      subst (λ x. IsRefusal x e) (sym is) (refused_after (text_of (codes "map key") first more) (in_order previous) e k)
  | inr a ↦
      let is : key_of previous (first ∷ more) ≡ refused (mismatch (codes "map key") first) (length more) = rw a.0 refl in
      let at : text_at (codes "map key") (first ∷ more) ≡ refused (mismatch (codes "map key") first) (length more) = other_text (codes "map key") first more a.1 in
      subst (λ x. IsRefusal x e) (sym is) (subst (λ x. IsRefusal x e) at h)
]

-- a text that does not follow is not a key
not_in_order : (previous : Option (List ℕ)) (key b rest : List ℕ) → IsFront b (text key) rest → follows previous key ≡ false → key_of previous b ≡ refused unordered_key (length rest)
not_in_order previous key b rest f other =
    let h = head_front 3 (length key) (key ++ rest) f.spellable in
    ap (key_of previous) (f.is ∙ append_assoc (head 3 (length key)) key rest ∙ h.is)
    ∙ rw h.major_is (ap (λ x. after x (in_order previous)) (text_front (codes "map key") h.first h.more key rest f.well_formed h.reads) ∙ rw other refl)

-- there was no whole text at the front
pub key_text_refused : {E : Type 0} (previous : Option (List ℕ)) (old new : Reading) (e : DecodeError E) → RefusesOrLacksMemoryUnlent (HasFront (leaf view_text) old) (TextCause (codes "map key")) old e new
    → RefusesOrLacksMemoryUnlent (HasKey previous old) (KeyCause previous) old e new
key_text_refused previous old new e r = passed_on (TextCause (codes "map key")) (KeyCause previous) old old new e (stays old) key_as_text (λ x. x) (λ x. x) (λ b l. (b, l, λ h. key_cause previous e b (h (codes "map key") (kept_short (codes "map key") (omega arith))))) r

pub unordered_refused : (E : Type 0) (previous : Option (List ℕ)) {old new : Reading} (key : List ℕ) → TakesItem 1 old (text key) new → (Follows previous key → ⊥) → RefusesOrLacksMemoryUnlent {E = E} (HasKey previous old) (KeyCause previous) old UnorderedKey new
unordered_refused E previous {old} {new} key h not_after = (
  h.same.faults,
  λ k. let q = h.taken k.bytes k.left in
      let same = front_unique k.bytes q.0 k.rest (text key) (text k.key) q.1 k.front in
      let is : key ≡ k.key = cc same.0 in
      not_after (subst (Follows previous) (sym is) k.follows),
  λ b l. let q = h.taken b l in by previous not_after b q.0 q.1,
)
  where
    by : (previous : Option (List ℕ)) → (Follows previous key → ⊥) → (b rest : List ℕ) → IsFront b (text key) rest → KeyCause {E = E} previous UnorderedKey b
    by None no_more b rest f = absurd (no_more tt)
    by (Some before) no_more b rest f = refused_as {E = E} (key_of (Some before) b) unordered_key (length rest) UnorderedKey (not_in_order (Some before) key b rest f (is_false (comes_before before key) no_more)) refl

pub follows_as : (previous : Option (List ℕ)) (k l : List ℕ) → k ≡ l → Follows previous k → Follows previous l
follows_as previous k l e f = subst (Follows previous) e f

-- bytes of a text that are not a key
pub no_key_refused : {E : Type 0} (previous : Option (List ℕ)) {old new : Reading} (b : List ℕ)
    (e : DecodeError E) → IsNoKey b e → TakesString 3 old b new
    → (IsUtf8 b → Follows previous b → ⊥)
    → RefusesOrLacksMemoryUnlent {E = E} (HasKey previous old) (KeyCause previous) old e new
no_key_refused {E} previous {old} {new} b (RequireUtf8 kept) h t other =
    key_text_refused {E = E} previous old new (RequireUtf8 kept)
    (no_text_refused E (codes "map key") b kept h.0 t h.1)
no_key_refused {E} previous {old} {new} b UnorderedKey h t other =
    unordered_refused E previous b (text_taken b (text_string_taken b b refl h t)) (other h)
no_key_refused previous b _ h t other = absurd h

-- what was found in place of a key is refused, because it is not a key
pub found_refused : {E : Type 0} (previous : Option (List ℕ)) (old new : Reading)
    (found : Result (Bor (List ℕ)) (Bor (List ℕ))) (b : Bor (List ℕ)) (e : DecodeError E)
    → found ≡ Err b → TakesKey previous old found new → IsNoKey b.now e
    → RefusesOrLacksMemoryUnlent {E = E} (HasKey previous old) (KeyCause previous) old e new
found_refused {E} previous old new found b e is h none =
    let P : Result (Bor (List ℕ)) (Bor (List ℕ)) → Type 0 = λ r. TakesKey previous old r new in
    let k = subst P is h in
    no_key_refused {E = E} previous b.now e none k.0 k.1
