-- What a tree says of itself has one proof at most, and so has what is said of a log.
use Rattle.std.proofs.Common.{◌≡◌, ℕ, List, Option, Some, None, sym, ap, ◌∙◌, arith, IsUtf8, IsSomeAnd}
use mathlib.Core.Logic.{inl, inr}
use mathlib.Core.List.{is_set}
use mathlib.Core.HLevel.{Unit-prop, Σ_prop, Σ_prop_path, hedberg}
use native.Mathlib.Decide.{ℕ_discrete}
use Rattle.std.proofs.Props.{props}
use Rattle.serde.specs.Event.{Log}
use Rattle.ipld_tree.specs.Cid.{CidParts, IsVersion0, IsVersion1, AreCidParts, cid_bytes, IsCid}
use Rattle.ipld_tree.specs.Tree.{Tree, null, boolean, integer, text, bytes, list, mapping, link, Items, no_items, item, Entries, no_entries, entry, IsTree, AreItems, AreEntries, Precedes}
use Rattle.ipld_tree.specs.Spelled.{spelled}
use Rattle.ipld_tree.proofs.Cids.{cid_unique}
use Rattle.types_serde.specs.Building.{events_tree}
use Rattle.types_serde.specs.Holds.{IsGood, IsGoodLog}

version0_prop : (c : CidParts) → IsProp (IsVersion0 c)
version0_prop c = Prim.hlevel props

version1_prop : (c : CidParts) → IsProp (IsVersion1 c)
version1_prop c = Prim.hlevel props

parts_prop : (c : CidParts) → IsProp (AreCidParts c)
parts_prop c (inl h) (inl k) = ap inl (version0_prop c h k)
parts_prop c (inl h) (inr k) = absurd (omega (arith, h.0, k.0))
parts_prop c (inr h) (inl k) = absurd (omega (arith, h.0, k.0))
parts_prop c (inr h) (inr k) = ap inr (version1_prop c h k)

bytes_set : IsSet (List ℕ)
bytes_set = is_set (hedberg ℕ_discrete)

parts_fit : (b : List ℕ) (c : CidParts) → IsProp (AreCidParts c × (b ≡ cid_bytes c))
parts_fit b c = Σ_prop (parts_prop c) (λ _. bytes_set b (cid_bytes c))

cid_prop : (b : List ℕ) → IsProp (IsCid b)
cid_prop b p q =
    let flat : (c : CidParts) × (AreCidParts c × (b ≡ cid_bytes c)) → IsCid b = λ t. (t.0, t.1.0, t.1.1) in
    ap flat (Σ_prop_path (parts_fit b) {u = (p.0, (p.1, p.2))} {v = (q.0, (q.1, q.2))} (cid_unique p.0 q.0 p.1 q.1 (sym p.2 ∙ q.2)))

utf8_prop : (s : List ℕ) → IsProp (IsUtf8 s)
utf8_prop s = Prim.hlevel props

texts_prop : (x y : Option (List ℕ)) → IsProp (x ≡ y)
texts_prop x y = Prim.hlevel props

precedes_prop : (k : List ℕ) (es : Entries) → IsProp (Precedes k es)
precedes_prop k no_entries = Unit-prop
precedes_prop k (entry l t es) = Prim.hlevel props

mutual
  tree_prop : (t : Tree) → IsProp (IsTree t)
  tree_prop null = Unit-prop
  tree_prop (boolean b) = Unit-prop
  tree_prop (integer n) = Unit-prop
  tree_prop (text s) = utf8_prop s
  tree_prop (bytes s) = Unit-prop
  tree_prop (list ts) = items_prop ts
  tree_prop (mapping es) = entries_prop es
  tree_prop (link cid) = cid_prop cid

  items_prop : (ts : Items) → IsProp (AreItems ts)
  items_prop no_items = Unit-prop
  items_prop (item t ts) = Σ_prop (tree_prop t) (λ _. items_prop ts)

  entries_prop : (es : Entries) → IsProp (AreEntries es)
  entries_prop no_entries = Unit-prop
  entries_prop (entry k t es) = λ p q.
      let flat : IsUtf8 k × (IsTree t × (Precedes k es × AreEntries es)) → AreEntries (entry k t es) = λ s. (s.0, s.1.0, s.1.1.0, s.1.1.1) in
      ap flat (Σ_prop (utf8_prop k) (λ _. Σ_prop (tree_prop t) (λ _. Σ_prop (precedes_prop k es) (λ _. entries_prop es))) (p.0, (p.1, (p.2, p.3))) (q.0, (q.1, (q.2, q.3))))

good_prop : (t : Tree) (b : List ℕ) → IsProp (IsGood t b)
good_prop t b = Σ_prop (texts_prop (spelled t) (Some b)) (λ _. tree_prop t)

pub log_prop : (log : Log) (b : List ℕ) → IsProp (IsGoodLog log b)
log_prop None b = λ x y. absurd x
log_prop (Some es) b = by (events_tree es)
  where
    by : (o : Option Tree) → IsProp (IsSomeAnd o (λ t. IsGood t b))
    by None = λ x y. absurd x
    by (Some t) = good_prop t b
