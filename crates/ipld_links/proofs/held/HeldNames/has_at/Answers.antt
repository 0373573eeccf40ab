use Rattle.std.proofs.Common.{ℕ, List, ◌≡◌, ◌<◌, length, get_or, slice_get, zero, suc, [], ◌∷◌, Some, ap, sym, ◌∙◌, arith}
use Rattle.ipld_tree.specs.Cid.{CidParts}
use Rattle.ipld_links.proofs.held.HeldNames.has_at.Goals as goal

-- the name at a place
stands_at : (names : List CidParts) (i : ℕ) (name : CidParts) → i < length names → name ≡ get_or names i name → slice_get names i ≡ Some name
stands_at [] i name few is = absurd (omega (arith, few))
stands_at (x ∷ xs) zero name few is = ap Some (sym is)
stands_at (x ∷ xs) (suc i) name few is = stands_at xs i name (omega (arith, few)) is

pub returns-in-Some : goal.returns-in-Some
returns-in-Some c t =
    let found = c.in-Some.ensures.lookup in
    stands_at c.args.self.now.names.items c.args.place c.in-Some.name.now (rw c.deref.ensures.value at found.3.0) (rw c.deref.ensures.value at found.1) ∙ ap Some (c.is_same.ensures.0 t)
