-- Names that are others.
use Rattle.std.proofs.Common.{◌≡◌, ◌≢◌, Bool, true, sym, ap, ◌∙◌, is_eq, true≢false}
use Rattle.std.proofs.lemmas.Cmp.{tied_itself, then_total, on_total, nat_cmp_total, nat_list_cmp_total}
use Rattle.std.specs.Cmp.{IsTotalOrder}
use Rattle.std.specs.Prelude.{not}
use Rattle.std.specs.Ordering.{eq_by_cmp}
use Rattle.ipld_tree.specs.Cid.{CidParts, cid_cmp}

cid_cmp_total : IsTotalOrder cid_cmp
cid_cmp_total = then_total (on_total (λ c. c.version) nat_cmp_total) (then_total (on_total (λ c. c.codec) nat_cmp_total) (then_total (on_total (λ c. c.hash_code) nat_cmp_total) (on_total (λ c. c.digest) nat_list_cmp_total)))

equals_itself : (c : CidParts) → eq_by_cmp cid_cmp c c ≡ true
equals_itself c = ap is_eq (tied_itself cid_cmp_total c)

-- CIDs that are unequal are not the same
pub other_name : (c d : CidParts) (b : Bool) → b ≡ true → b ≡ not (eq_by_cmp cid_cmp c d) → c ≢ d
other_name c d b h e same = true≢false (sym h ∙ e ∙ ap not (ap (eq_by_cmp cid_cmp c) (sym same) ∙ equals_itself c))
