-- Paths of names, name by name.
use Rattle.std.proofs.Common.{◌≡◌, inl, ℕ, List, ◌∷◌, refl, sym, subst}
use Rattle.ipld_tree.specs.Cid.{CidParts}
use Rattle.ipld_links.specs.Reaching.{Stored}
use Rattle.program_parts.specs.declared.file_names.NamesEnd.{NamesEnd}
use Rattle.program_parts.specs.FileNames.{NamesNothing, LeadsByNames, EndsByNames}

-- Where the rest of a path leads from a block, or ends, the whole path does from the root.
pub record GoesOn (stored : Stored) (root : CidParts) (path : List (List ℕ)) (at : CidParts) (left : List (List ℕ)) : Type 0 where
  pub leads : (found : CidParts) → LeadsByNames stored at left found → LeadsByNames stored root path found
  pub ends : (end : NamesEnd) → EndsByNames stored at left end → EndsByNames stored root path end

pub ends_here : (stored : Stored) (root at : CidParts) (path left more : List (List ℕ)) (end : NamesEnd) → left ≡ end.name.now ∷ more → end.block ≡ at → NamesNothing stored at end.name.now end.cause → GoesOn stored root path at left → EndsByNames stored root path end
ends_here stored root at path left more end is same nothing h = h.ends end (subst (λ x. EndsByNames stored at x end) (sym is) (inl (same, refl, nothing)))
