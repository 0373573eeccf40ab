-- What is whole at the front of a slice, and is taken from there.
use Rattle.std.proofs.Common.{◌≡◌, ℕ, ◌+◌, ◌≤◌, ◌<◌, Bool, true, false, MatchBool, IsUtf8, List, ◌∷◌, ◌++◌, length, refl, sym, ap, ◌∙◌, subst, arith, length-append, append_assoc, zero-le, Option, Some}
use Rattle.dagcbor_heads.specs.Reading.{Reading}
use Rattle.dagcbor_heads.specs.Fronts.{Takes, TakesSome}
use Rattle.dagcbor_heads.specs.Looking.{LooksAtTaken}
use Rattle.dagcbor_heads.proofs.Looking.{lent_looked}
use Rattle.ipld_tree.specs.Cid.{CidParts, AreCidParts, cid_bytes}
use Rattle.ipld_tree.specs.Tree.{Tree, bytes, link, text, any_need}
use Rattle.ipld_tree.specs.Spelling.{spelling, text_spelling, IsFront}
use Rattle.ipld_tree.proofs.Unique.{split_at_length}
use Rattle.dagcbor_items.specs.Places.{Follows}
use Rattle.dagcbor_items.specs.Entries.{TakesKnownKey}
use Rattle.dagcbor_items.specs.Shapes.{leaf}
use Rattle.dagcbor_items.specs.TypedReads.{TakesFront}
use Rattle.dagcbor_items.specs.Untyped.{TakesItem}
use Rattle.dagcbor_items.proofs.Names.{name_front, name_long}

-- the bytes left after a front are not more than all
pub front_within : {b rest : List ℕ} (t : Tree) → IsFront b t rest → length (spelling t) + length rest ≡ length b
front_within {b} {rest} t f = sym (ap length f.is ∙ length-append (spelling t) rest)

-- the first n bytes are the spelling at the front, if it has n bytes
pub front_lent : {V : Type 0} {view : Tree → Option V} {old new : Reading} {b rest : List ℕ} (t : Tree) (v : V) (s : List ℕ) → old.left ≡ Some b → IsFront b t rest → view t ≡ Some v → Takes old s new → length s + length rest ≡ length b
    → TakesFront (leaf view) old v new
front_lent {V} {view} {old} {new} {b} {rest} t v s l f shows h long = record {
  taken = λ x k.
      let q = h.taken x k in
      let same : x ≡ b = cc (l, k) in
      let both = split_at_length (spelling t) s rest q.0 (omega (arith, front_within t f, long)) (sym f.is ∙ sym same ∙ q.1) in
      (t, rest, subst (λ y. IsFront y t rest) (sym same) f, shows, zero-le, q.2 ∙ ap Some (sym both.1));
  same = h.same;
}

-- the first n bytes at hand are the spelling at the front, if it has n bytes
pub front_at_hand : {V : Type 0} {view : Tree → Option V} {old new : Reading} {front rest : List ℕ} {n : ℕ} (t : Tree) (v : V) → ((b : List ℕ) → old.left ≡ Some b → (more : List ℕ) × (b ≡ front ++ more)) → IsFront front t rest → view t ≡ Some v → n + length rest ≡ length front
    → TakesSome n old new → TakesFront (leaf view) old v new
front_at_hand {V} {view} {old} {new} {front} {rest} {n} t v begins f shows long h = record {
  taken = λ b l.
      let k = begins b l in
      let q = h.takes.taken b l in
      let whole : IsFront b t (rest ++ k.0) = record { well_formed = f.well_formed; spellable = f.spellable; is = k.1 ∙ ap (λ s. s ++ k.0) f.is ∙ append_assoc (spelling t) rest k.0 } in
      let both = split_at_length (spelling t) h.bytes (rest ++ k.0) q.0 (omega (arith, front_within t f, long, h.counted)) (sym whole.is ∙ q.1) in
      (t, rest ++ k.0, whole, shows, zero-le, q.2 ∙ ap Some (sym both.1));
  same = h.takes.same;
}

-- and are looked at once, or counted twice
pub at_hand_looked : {old new : Reading} {n : ℕ} → TakesSome n old new → LooksAtTaken 2 0 old new
at_hand_looked h = lent_looked h.counted h.takes h.looked h.none_shown

-- a name at hand that was taken
pub name_taken : (previous : Option (List ℕ)) (name following : List ℕ) {front : List ℕ} (old new : Reading) (done : Bool) → IsUtf8 name → ((b : List ℕ) → old.left ≡ Some b → (more : List ℕ) × (b ≡ front ++ more)) → length name < 24 → front ≡ text_spelling name ++ following
    → Follows previous name → MatchBool done (TakesSome (1 + length name) old new) (new ≡ old) → MatchBool done (TakesKnownKey previous name old new) (new ≡ old)
name_taken previous name following {front} old new true utf8 begins short is follows h = record {
  follows = follows;
  takes = front_at_hand (text name) name begins (name_front name following utf8 short is) refl (let l = name_long name following short is in omega (arith, l)) h;
  looked = at_hand_looked h;
}
name_taken previous name following {front} old new false utf8 begins short is follows h = h

pub known_key_as : {previous : Option (List ℕ)} {key : List ℕ} {old mid new : Reading} → mid ≡ old → TakesKnownKey previous key mid new → TakesKnownKey previous key old new
known_key_as {previous} {key} {old} {mid} {new} e h = subst (λ r. TakesKnownKey previous key r new) e h

-- a link by its bytes
pub link_at_front : {front tagged s rest : List ℕ} (cid : CidParts) → front ≡ 0xd8 ∷ 0x2a ∷ tagged → IsFront tagged (bytes s) rest → AreCidParts cid × (s ≡ 0x00 ∷ cid_bytes cid) → IsFront front (link (cid_bytes cid)) rest
link_at_front {front} {tagged} {s} {rest} cid e h is =
    let k : IsFront tagged (bytes (0x00 ∷ cid_bytes cid)) rest = subst (λ x. IsFront tagged (bytes x) rest) is.1 h in
    record { well_formed = (cid, is.0, refl); spellable = omega (arith, k.spellable); is = e ∙ ap (λ x. 0xd8 ∷ 0x2a ∷ x) k.is }

-- and as an item of unknown kind
pub item_lent : {spent : ℕ} {old new : Reading} {b rest : List ℕ} (t : Tree) (s : List ℕ) → old.left ≡ Some b → IsFront b t rest → any_need t ≤ old.steps + spent → Takes old s new → length s + length rest ≡ length b → TakesItem spent old t new
item_lent {spent} {old} {new} {b} {rest} t s l f need h long = record {
  taken = λ x k.
      let q = h.taken x k in
      let same : x ≡ b = cc (l, k) in
      let both = split_at_length (spelling t) s rest q.0 (omega (arith, front_within t f, long)) (sym f.is ∙ sym same ∙ q.1) in
      (rest, subst (λ y. IsFront y t rest) (sym same) f, need, q.2 ∙ ap Some (sym both.1));
  same = h.same;
}
