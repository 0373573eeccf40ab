-- A part that shows the same under another name.
use Rattle.std.proofs.Common.{◌≡◌, ℕ, List, Bool, true, false, refl, sym, ◌∙◌, ap, arith, Option, None, Some, option_map, is_some, Decides, bytes_eq}
use Rattle.std.proofs.lemmas.Slice.Eq.{bytes_eq-Decides}
use Rattle.dagcbor_heads.specs.Reading.{Reading}
use Rattle.ipld_tree.specs.Tree.{Tree}
use Rattle.dagcbor_items.specs.TypedReads.{HasFront, TakesFront}
use Rattle.dagcbor_items.specs.Shapes.{Shape}

-- a key that is not the name
pub other_name : {k name : List ℕ} → (k ≡ name → ⊥) → bytes_eq k name ≡ false
other_name {k} {name} n = by (bytes_eq k name) (bytes_eq-Decides k name)
  where
    by : (b : Bool) → Decides b (k ≡ name) → b ≡ false
    by true d = absurd (n (d.0 refl))
    by false d = refl

is_mapped : {V W : Type 0} (f : V → W) (o : Option V) → is_some (option_map f o) ≡ is_some o
is_mapped f None = refl
is_mapped f (Some x) = refl

-- ---- a part that shows the same under another name

module _ {V W : Type 0} (f : V → W) (shape : Shape Tree V) (shape' : Shape Tree W)
    (same : (t : Tree) → shape'.view t ≡ option_map f (shape.view t)) (as_much : (t : Tree) → shape'.need t ≡ shape.need t)
  where
    pub takes_as : {old new : Reading} {v : V} → TakesFront shape old v new → TakesFront shape' old (f v) new
    takes_as {old} {new} {v} a = record {
      taken = λ b l. (let t = a.taken b l in (t.0, t.1, t.2, same t.0 ∙ ap (option_map f) t.3, omega (arith, as_much t.0, t.4), t.5));
      same = a.same;
    }

    pub front_as : {r : Reading} → HasFront shape' r → HasFront shape r
    front_as {r} h = record { bytes = h.bytes; tree = h.tree; rest = h.rest; left = h.left; front = h.front; accepted = sym (is_mapped f (shape.view h.tree)) ∙ (ap is_some (sym (same h.tree)) ∙ h.accepted); within = omega (arith, h.within, as_much h.tree) }
