-- A key is a text if and only if its spelling begins as one.
use Rattle.std.proofs.Common.{◌≡◌, ℕ, ◌+◌, ◌*◌, ◌/◌, ◌<◌, List, [], ◌∷◌, ◌++◌, length, drop, ◌-◌, pos, negsuc, Option, None, Some, Bool, true, false, refl, sym, ap, ◌∙◌, subst, arith, take_all, length-drop, slice_range, IfSome, nat_eq, option_and_then}
use Rattle.ipld_tree.specs.Tree.{Tree, integer, text, IsTree, key_of}
use Rattle.ipld_tree.specs.Spelling.{IsFront, spelling}
use Rattle.ipld_tree.specs.Spelled.{spelled, spelled_tree}
use Rattle.ipld_tree.proofs.Fronts.{front_first}
use Rattle.ipld_tree.proofs.Spelled.{spelled_is}
use Rattle.ipld_tree.proofs.Unique.{major}
use Rattle.dagcbor_write.specs.Gathering.{Grows}
use Rattle.dagcbor_write.specs.Maps.{begins_text, spelled_key, HoldsKey}
use Rattle.dagcbor_write.proofs.Spans.{following}

nothing_more : (xs : List ℕ) → xs ++ [] ≡ xs
nothing_more [] = refl
nothing_more (x ∷ xs) = ap (λ ys. x ∷ ys) (nothing_more xs)

high : (m i : ℕ) → i < 28 → (32 * m + i) / 32 ≡ m
high m i h = omega (arith, h)

begins_by : (t : Tree) (s : List ℕ) → spelled t ≡ Some s → IsTree t → begins_text s ≡ nat_eq (major t) 3
begins_by t s e good =
    let is = (spelled_is t s).0 e in
    let front : IsFront s t [] = record { well_formed = good; spellable = is.0; is = is.1 ∙ sym (nothing_more (spelling t)) } in
    let first = front_first s [] t front in
    ap begins_text first.3 ∙ ap (λ n. nat_eq n 3) (high (major t) first.0 first.2)

pub key_text : (o : Option Tree) (s : List ℕ) (b : Bool) → spelled_tree o ≡ Some s → IfSome o IsTree → b ≡ begins_text s → b ≡ true → spelled_key o ≡ Some s
key_text None s b e g is x = cc
key_text (Some (text k)) s b e g is x = e
key_text (Some (integer (pos n))) s b e g is x = let differ : true ≡ false = sym x ∙ is ∙ begins_by _ s e g in absurd (cc differ)
key_text (Some (integer (negsuc n))) s b e g is x = let differ : true ≡ false = sym x ∙ is ∙ begins_by _ s e g in absurd (cc differ)
key_text (Some _) s b e g is x = let differ : true ≡ false = sym x ∙ is ∙ begins_by _ s e g in absurd (cc differ)

pub key_no_text : (o : Option Tree) (s : List ℕ) (b : Bool) → spelled_tree o ≡ Some s → IfSome o IsTree → b ≡ begins_text s → b ≡ false → option_and_then key_of o ≡ None
key_no_text None s b e g is x = refl
key_no_text (Some (text k)) s b e g is x = let differ : false ≡ true = sym x ∙ is ∙ begins_by (text k) s e g in absurd (cc differ)
key_no_text (Some _) s b e g is x = refl

pub key_none : (o : Option Tree) → spelled_tree o ≡ None → spelled_key o ≡ None
key_none None e = refl
key_none (Some (text k)) e = e
key_none (Some _) e = refl

-- what begins as a text after the bytes is the spelling of a key
module _ (o : Option Tree) (old new : List ℕ) (start : ℕ) (b : Bool) (at : start ≡ length old) (g : Grows o old new) (is : b ≡ begins_text (slice_range new start (length new))) where
  stands : spelled_tree o ≡ Some (drop start new)
  stands = following (spelled_tree o) old new g.0 ∙ ap (λ n. Some (drop n new)) (sym at)

  begins : b ≡ begins_text (drop start new)
  begins = is ∙ ap begins_text (take_all (length new - start) (drop start new) (omega (arith, length-drop start new)))

  pub held_key : b ≡ true → HoldsKey o (Some (drop start new))
  held_key x = (key_text o (drop start new) b stands g.1 begins x, g.1)

  pub refused_key : b ≡ false → option_and_then key_of o ≡ None
  refused_key x = key_no_text o (drop start new) b stands g.1 begins x

  -- what begins as a text in the range that ends with the bytes is the spelling of a key
  pub held_range : (end : ℕ) → end ≡ length new → b ≡ true → HoldsKey o (Some (slice_range new start end))
  held_range end e x =
      let whole : slice_range new start end ≡ drop start new = ap (slice_range new start) e ∙ take_all (length new - start) (drop start new) (omega (arith, length-drop start new)) in
      let P : List ℕ → Type 0 = λ k. HoldsKey o (Some k) in subst P (sym whole) (held_key x)
