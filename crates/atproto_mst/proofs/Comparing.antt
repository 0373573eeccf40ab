-- What comparisons of CIDs show.
use Rattle.std.proofs.Common.{◌≡◌, Bool, true, false, refl, sym, ◌∙◌}
use Rattle.std.specs.Prelude.{not}
use Rattle.std.specs.Ordering.{eq_by_cmp}
use Rattle.ipld_tree.specs.Cid.{CidParts, cid_cmp}
use Rattle.ipld_tree.specs.CidHash.{same_cid, is_equal}
use Rattle.ipld_links.proofs.Members.{same_at}

turned : (b : Bool) → not b ≡ false → b ≡ true
turned true e = refl
turned false e = absurd (cc e)

-- CIDs that are not unequal are the same
pub same_name : (c d : CidParts) (b : Bool) → b ≡ false → b ≡ not (eq_by_cmp cid_cmp c d) → c ≡ d
same_name c d b h e = same_cid c d (is_equal (cid_cmp c d) (turned (eq_by_cmp cid_cmp c d) (sym e ∙ h)))

-- CIDs that test as equal are the same
pub equal_name : (c d : CidParts) (b : Bool) → b ≡ true → b ≡ eq_by_cmp cid_cmp c d → c ≡ d
equal_name c d b h e = same_cid c d (is_equal (cid_cmp c d) (sym e ∙ h))

-- others are not
pub other_name : (c d : CidParts) (b : Bool) → b ≡ false → b ≡ eq_by_cmp cid_cmp c d → c ≡ d → ⊥
other_name c d b h e same = let yes = same_at c d same in absurd (cc (h, e, yes))
