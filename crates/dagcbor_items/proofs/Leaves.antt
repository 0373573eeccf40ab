-- Reading leaves.
use Rattle.std.proofs.lemmas.Bool.Decides.{eqb_tells}
use Rattle.std.proofs.Common.{◌≡◌, ◌≢◌, ◌==◌, inl, inr, ℕ, suc, ◌+◌, ◌*◌, ◌/◌, ◌%◌, ◌≤◌, false, Some, length, List, [], ◌∷◌, ◌++◌, refl, sym, ap, ◌∙◌, arith, codes}
use Rattle.dagcbor_heads.specs.Reading.{Reading}
use Rattle.dagcbor_heads.specs.Fronts.{StartsWith, ShowsByte}
use Rattle.dagcbor_core.specs.Names.{Names}
use Rattle.dagcbor_heads.specs.Refusals.{Refuses}
use Rattle.dagcbor_core.specs.declared.name.Name.{Name}
use Rattle.dagcbor_core.specs.declared.error.DecodeError.TheVariants.{Unsupported, IndefiniteSize}
use Rattle.ipld_tree.specs.Tree.{Tree}
use Rattle.ipld_tree.specs.Spelling.{spelling}
use Rattle.ipld_tree.proofs.Unique.{major}
use Rattle.ipld_tree.proofs.Fronts.{front_first, is_simple}
use Rattle.dagcbor_items.specs.Shapes.{Shape}
use Rattle.dagcbor_items.specs.TypedReads.{HasFront}
use Rattle.dagcbor_items.specs.ReadCauses.{ItemCause}
use Rattle.dagcbor_decode.specs.Decode.{refused, unsupported, leaf_of}
use Rattle.dagcbor_decode.proofs.Named.{named}
use Rattle.dagcbor_decode.proofs.Refusals.{refused_as}
use Rattle.dagcbor_items.proofs.ItemRefusals.{leaf_refused, indefinite}
use Rattle.dagcbor_items.specs.Untyped.{HasItem}
use Rattle.dagcbor_items.proofs.Fronts.{major_of_front}

-- ---- bytes that begin no item

-- the first byte of a tree of major type 7
pub simple_byte : (t : Tree) → major t ≡ 7 → (byte : ℕ) × (spelling t ≡ byte ∷ []) × (0xf4 ≤ byte) × (byte ≤ 0xf6)
simple_byte t m = elim (is_simple t m) [
  | inl h ↦ (0xf4, ap spelling h.0, omega arith, omega arith)
  | inr g ↦ elim g [
    | inl h ↦ (0xf5, ap spelling h.0, omega arith, omega arith)
    | inr h ↦ (0xf6, ap spelling h.0, omega arith, omega arith)
  ]
]

no_simple_value : {V : Type 0} {shape : Shape Tree V} {old : Reading} {first : ℕ} → StartsWith old first → first / 32 ≡ 7 → ((0xf4 ≤ first) → (first ≤ 0xf6) → ⊥) → HasFront shape old → ⊥
no_simple_value {V} {shape} {old} {first} starts major_7 other i =
    let s = starts i.bytes i.left in
    let m = major_of_front i.bytes i.rest i.tree 7 (first, s.0, s.1, major_7) i.front in
    let k = simple_byte i.tree m in
    let e : first ∷ s.0 ≡ k.0 ∷ i.rest = sym s.1 ∙ i.front.is ∙ ap (λ r. r ++ i.rest) k.1 in
    let same : first ≡ k.0 = cc in
    other (omega (arith, same, k.2)) (omega (arith, same, k.3))

pub unsupported_refused : (E lacks : Type 0) (spent : ℕ) (old : Reading) (name : Name) (first : ℕ) → Names name (codes "any") → StartsWith old first → first / 32 ≡ 7 → first % 32 ≢ 31 → ((0xf4 ≤ first) → (first ≤ 0xf6) → ⊥) → Refuses {E = E} (record { could = HasItem (suc spent) old; lacks = lacks; borrows = ⊥; stands = ItemCause (old.steps + suc spent) }) old (Unsupported name first) old
unsupported_refused E lacks spent old name first called starts major_7 definite other = (
  refl,
  no_simple_value starts major_7 other,
  λ b l. let s = starts b l in leaf_refused {E = E} _ (Unsupported name first) first b s.0 (omega arith) s.1 definite (λ x. omega (arith, x, major_7)) (λ x. omega (arith, x, major_7)) (refused_as {E = E} _ (unsupported (codes "any") first) (length s.0) _ (by s.0) (ap (λ k. Some (unsupported k first)) (named name (codes "any") (codes "any") called refl (omega arith)))),
)
  where
    differs : (n : ℕ) → (first ≡ n → ⊥) → (first == n) ≡ false
    differs n h = elim (eqb_tells first n) [ inl a ↦ absurd (h a.1) | inr a ↦ a.0 ]

    by : (more : List ℕ) → leaf_of first more ≡ refused (unsupported (codes "any") first) (length more)
    by more = rw major_7 (rw (differs 0xf4 (λ e. other (omega (arith, e)) (omega (arith, e))), differs 0xf5 (λ e. other (omega (arith, e)) (omega (arith, e))), differs 0xf6 (λ e. other (omega (arith, e)) (omega (arith, e)))) refl)

-- an indefinite length, or a break
pub indefinite_refused : (E lacks : Type 0) (spent : ℕ) {old new : Reading} {first : ℕ} → ShowsByte old first new → first % 32 ≡ 31 → Refuses {E = E} (record { could = HasItem (suc spent) old; lacks = lacks; borrows = ⊥; stands = ItemCause (old.steps + suc spent) }) old IndefiniteSize new
indefinite_refused E lacks spent {old} {new} {first} h e = (
  h.same.faults,
  λ i. let f = front_first i.bytes i.rest i.tree i.front in
      let s = h.starts i.bytes i.left in
      let is : first ∷ s.0 ≡ (32 * major i.tree + f.0) ∷ f.1 = sym s.1 ∙ f.3 in
      let same : first ≡ 32 * major i.tree + f.0 = cc in
      omega (arith, e, same, f.2),
  λ b l. let s = h.starts b l in indefinite {E = E} _ IndefiniteSize first b s.0 (omega arith) s.1 e refl,
)
