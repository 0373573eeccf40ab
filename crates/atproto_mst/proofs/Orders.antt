-- Rows of at most one entry.
use Rattle.std.proofs.Common.{◌≡◌, ℕ, ◌-◌, ◌≤◌, List, [], ◌∷◌, length, drop, arith}
use Rattle.std.proofs.lemmas.List.{length-drop}
use Rattle.atproto_mst.specs.Keys.{Rise}
use Rattle.atproto_mst.specs.Entries.{entries}
use Rattle.atproto_mst.specs.declared.entries.MstEntry.{MstEntry}

one_rises : (es : List MstEntry) → length es ≤ 1 → Rise (entries es)
one_rises [] h = tt
one_rises (e ∷ []) h = (tt, tt)
one_rises (e ∷ f ∷ es) h = absurd (omega arith)

pub last_rises : (es : List MstEntry) (i last : ℕ) → last ≡ length es - 1 → last ≤ i → Rise (entries (drop i es))
last_rises es i last e le = one_rises (drop i es) (omega (arith, length-drop i es))
