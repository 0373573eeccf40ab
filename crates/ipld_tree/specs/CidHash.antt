-- What a CID feeds to a hasher.
use Rattle.std.specs.Prelude.{◌≡◌, ℕ, ◌++◌, true, refl}
use Rattle.std.proofs.Common.{Ordering, Less, Equal, Greater, sym, ap}
use Rattle.std.proofs.lemmas.Cmp.{ranked}
use Rattle.std.proofs.lemmas.Map.Lookups.{exact_bytes}
use Rattle.std.proofs.Math.Bool.{true≢false}
use Rattle.std.specs.Ordering.{nat_cmp, ordering_then, eq_by_cmp, is_eq, is_lt, is_gt}
use Rattle.std.specs.Hash as fed
use Rattle.ipld_tree.specs.Cid.{CidParts, cid_cmp}

-- what `hash` of `Cid` feeds to the hasher
abbrev pub cid_hash_input : CidParts → fed.HashWrites
cid_hash_input c =
    fed.u64 c.version ++ (fed.u64 c.codec ++ (fed.u64 c.hash_code ++ fed.slice fed.u8 c.digest))

then_both : (a b : Ordering) → ordering_then a b ≡ Equal → (a ≡ Equal) × (b ≡ Equal)
then_both Less b e = absurd (true≢false (ap is_lt e))
then_both Equal b e = (refl, e)
then_both Greater b e = absurd (true≢false (ap is_gt e))

same_number : (m n : ℕ) → nat_cmp m n ≡ Equal → m ≡ n
same_number m n e = ranked m n Equal (sym e)

-- CIDs that compare equal are the same
pub same_cid : (c d : CidParts) → cid_cmp c d ≡ Equal → c ≡ d
same_cid c d e =
    let version = then_both (nat_cmp c.version d.version) _ e in
    let codec = then_both (nat_cmp c.codec d.codec) _ version.1 in
    let hash_code = then_both (nat_cmp c.hash_code d.hash_code) _ codec.1 in
    λ i. record {
      version = same_number c.version d.version version.0 i;
      codec = same_number c.codec d.codec codec.0 i;
      hash_code = same_number c.hash_code d.hash_code hash_code.0 i;
      digest = exact_bytes c.digest d.digest hash_code.1 i;
    }

-- an ordering that tests as equal is `Equal`
pub is_equal : (o : Ordering) → is_eq o ≡ true → o ≡ Equal
is_equal Less x = absurd (true≢false (sym x))
is_equal Equal x = refl
is_equal Greater x = absurd (true≢false (sym x))

-- equal CIDs feed the same to a hasher
pub hashes_alike : (c d : CidParts) → eq_by_cmp cid_cmp c d ≡ true
    → cid_hash_input c ≡ cid_hash_input d
hashes_alike c d h = ap cid_hash_input (same_cid c d (is_equal (cid_cmp c d) h))
