-- Sets of CIDs.
use Rattle.std.specs.Prelude.{◌≡◌, ◌≢◌, ◌↔◌, ◌⊎◌, List, [], ◌∷◌}
use Rattle.ipld_tree.specs.Cid.{CidParts, AreCidParts}
use Rattle.ipld_links.specs.declared.cid_set.CidSet.{CidSet}

-- x is in the list
abbrev pub Among : {X : Type 0} → X → List X → Type 0
Among x [] = ⊥
Among x (y ∷ ys) = (x ≡ y) ⊎ Among x ys

-- the CIDs of a set
abbrev pub members : CidSet → List CidParts
members s = s.cids.keys

-- the new members are the old ones and this CID
abbrev pub AddsCid : CidParts → CidSet → CidSet → Type 0
AddsCid c old new = AreCidParts c
    × ((q : CidParts) → Among q (members new) ↔ (Among q (members old) ⊎ (q ≡ c)))

-- the new members are the old ones without this CID
abbrev pub RemovesCid : CidParts → CidSet → CidSet → Type 0
RemovesCid c old new = (q : CidParts)
    → Among q (members new) ↔ (Among q (members old) × (q ≢ c))

-- all members are CIDs
abbrev pub AreCids : CidSet → Type 0
AreCids s = (q : CidParts) → Among q (members s) → AreCidParts q
