-- Sets of CIDs.
use Rattle.std.specs.Prelude.{List, [], ◌∷◌, Bool}
use Rattle.std.specs.List.{list_any}
use Rattle.std.specs.BTreeMap.{is_at}
use Rattle.std.specs.BTreeSet.{insert_key}
use Rattle.ipld_tree.specs.Cid.{CidParts, cid_cmp}

-- the set of those seen, in its order, with these added
abbrev pub distinct_with : List CidParts → List CidParts → List CidParts
distinct_with seen [] = seen
distinct_with seen (c ∷ cs) = distinct_with (insert_key cid_cmp seen c) cs

-- the set of these, in its order
abbrev pub distinct : List CidParts → List CidParts
distinct cs = distinct_with [] cs

-- the CID is one of them
abbrev pub is_one_of : CidParts → List CidParts → Bool
is_one_of c cs = list_any (is_at (cid_cmp c)) cs
