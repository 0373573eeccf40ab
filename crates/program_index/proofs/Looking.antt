-- A block that is looked up.
use Rattle.std.proofs.Common.{◌≡◌, ℕ, List, [], Bool, true, false, cond, refl, sym, ap, ◌∙◌, subst, Option, None, Some, IfSome, is_some, option_map, Vec, BTreeMap, Global}
use Rattle.std.specs.Map.{lookup}
use Rattle.std.specs.BTreeMap.{is_at, get}
use Rattle.ipld_tree.specs.Cid.{CidParts, cid_cmp}
use Rattle.ipld_links.specs.Verdicts.{IsVerified}
use Rattle.ipld_links.specs.Reaching.{Stored, stored_in}
use Rattle.ipld_links.proofs.Members.{at_same, same_at}
use Rattle.program_index.specs.Layouts.{HasIndex}
use Rattle.program_index.specs.Ways.{AreLedTo, HoldsMore, LooksUp}

-- ---- what is stored

nothing : {b : List ℕ} → None ≡ Some b → ⊥
nothing e = cc e

pub none_led : (known : Option (List ℕ)) (blocks : BTreeMap CidParts (Vec ℕ Global)) → blocks.entries ≡ [] → AreLedTo known (stored_in blocks)
none_led known blocks none q b e =
    let free : lookup (is_at (cid_cmp q)) blocks.entries ≡ None = ap (λ es. lookup (is_at (cid_cmp q)) es) none in
    absurd (nothing (sym (ap (option_map (λ (v : Vec ℕ Global). v.items)) free) ∙ e))

pub free_of : {A : Type 0} (bytes_of : A → List ℕ) (o : Option A) (stored : Option (List ℕ)) → option_map bytes_of o ≡ stored → is_some o ≡ false → stored ≡ None
free_of bytes_of None stored is not = sym is
free_of bytes_of (Some a) stored is not = absurd (let clash : true ≡ false = not in cc clash)

-- it was there
pub held_before : {A : Type 0} (bytes_of : A → List ℕ) (o : Option A) (known : Option (List ℕ)) (name : CidParts) (stored : Stored) → option_map bytes_of o ≡ stored name → is_some o ≡ true → AreLedTo known stored → HoldsMore known name stored stored
held_before bytes_of None known name stored is there h = absurd (let clash : false ≡ true = there in cc clash)
held_before bytes_of (Some a) known name stored is there h = record {
  led = h;
  keeps = λ q b e. e;
  index = (h name (bytes_of a) (sym is)).1;
  unlisted = λ none. absurd (nothing (sym none ∙ sym is));
}

-- it is put there
module _ (known : Option (List ℕ)) (name : CidParts) (v : Vec ℕ Global) (old new : BTreeMap CidParts (Vec ℕ Global)) (put : (q : CidParts) → get cid_cmp new q ≡ cond (is_at (cid_cmp name) q) (Some v) (get cid_cmp old q)) where
  map_cond : (t : Bool) (o : Option (Vec ℕ Global)) → option_map (λ (w : Vec ℕ Global). w.items) (cond t (Some v) o) ≡ cond t (Some v.items) (option_map (λ (w : Vec ℕ Global). w.items) o)
  map_cond true o = refl
  map_cond false o = refl

  put_stored : (q : CidParts) (t : Bool) → is_at (cid_cmp name) q ≡ t → stored_in new q ≡ cond t (Some v.items) (stored_in old q)
  put_stored q t at = ap (option_map (λ (w : Vec ℕ Global). w.items)) (put q) ∙ map_cond (is_at (cid_cmp name) q) _ ∙ ap (λ x. cond x (Some v.items) (stored_in old q)) at

  module _ (is : IsVerified (name, v.items)) (has : IfSome known HasIndex) (free : stored_in old name ≡ None) (h : AreLedTo known (stored_in old)) where
    led_now : (q : CidParts) (b : List ℕ) (t : Bool) → is_at (cid_cmp name) q ≡ t → cond t (Some v.items) (stored_in old q) ≡ Some b → IsVerified (q, b) × IfSome known HasIndex
    led_now q b true t e = let bytes : v.items ≡ b = cc e in (subst IsVerified (λ i. (at_same name q t i, bytes i)) is, has)
    led_now q b false t e = h q b e

    keeps_now : (q : CidParts) (b : List ℕ) (t : Bool) → is_at (cid_cmp name) q ≡ t → stored_in old q ≡ Some b → stored_in new q ≡ Some b
    keeps_now q b true t e = absurd (nothing (sym free ∙ ap (stored_in old) (at_same name q t) ∙ e))
    keeps_now q b false t e = put_stored q false t ∙ e

    pub held_now : HoldsMore known name (stored_in old) (stored_in new)
    held_now = record {
      led = λ q b e. led_now q b (is_at (cid_cmp name) q) refl (sym (put_stored q (is_at (cid_cmp name) q) refl) ∙ e);
      keeps = λ q b e. keeps_now q b (is_at (cid_cmp name) q) refl e;
      index = has;
      unlisted = λ none. absurd (nothing (sym none ∙ put_stored name true (same_at name name refl)));
    }

-- ---- what a look-up says

pub looked_up : (known : Option (List ℕ)) (name : CidParts) (old new : Stored) (has : Bool) → has ≡ true → LooksUp known name old has new → AreLedTo known old → HoldsMore known name old new
looked_up known name old new true is h led = h led
looked_up known name old new false is h led = absurd (let clash : false ≡ true = is in cc clash)

pub no_index : (known : Option (List ℕ)) (name : CidParts) (old new : Stored) (has : Bool) → has ≡ false → LooksUp known name old has new → AreLedTo known old → IfSome known (λ b. ¬ HasIndex b)
no_index known name old new true is h led = absurd (let clash : true ≡ false = is in cc clash)
no_index known name old new false is h led = h led
