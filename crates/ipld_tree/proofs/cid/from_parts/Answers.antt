use Rattle.std.proofs.Common.{◌≡◌, inl, inr, ℕ, ◌-◌, ◌≤◌, List, ◌++◌, length, take, drop, replicate, sym, ap, ◌∙◌, subst, arith, length-append}
use Rattle.std.proofs.lemmas.List.{drop-replicate, length-replicate}
use Rattle.std.proofs.Math.Seq.{take-append_seam, drop-append_seam}
use Rattle.ipld_tree.specs.Cid.{CidParts, cid_parts, AreCidParts}
use Rattle.ipld_tree.specs.CidFields.{IsOrderly}
use Rattle.ipld_tree.proofs.cid.from_parts.Goals as goal

digest_fits : (c : CidParts) → AreCidParts c → length c.digest ≤ 64
digest_fits c (inl h) = omega (arith, h.3)
digest_fits c (inr h) = h.3

-- a digest with zeros after it
orderly : (version codec hash_code n : ℕ) (d zs : List ℕ) → length d ≡ n → zs ≡ replicate (64 - n) 0 → AreCidParts (cid_parts version codec hash_code d)
    → IsOrderly (record { version = version; codec = codec; hash_code = hash_code; length = n; digest = d ++ zs })
orderly version codec hash_code n d zs long zeros allowed =
    let fits : n ≤ 64 = omega (arith, digest_fits _ allowed, long) in
    let taken : take n (d ++ zs) ≡ d = ap (λ m. take m (d ++ zs)) (sym long) ∙ take-append_seam d zs in
    record {
      allowed = subst (λ x. AreCidParts (cid_parts version codec hash_code x)) (sym taken) allowed;
      room = omega (arith, length-append d zs, long, ap length zeros, length-replicate {A = ℕ} (64 - n) 0);
      digest_length = fits;
      zeros = ap (λ m. drop m (d ++ zs)) (sym long) ∙ drop-append_seam d zs ∙ zeros;
    }

pub invariant_of-result : goal.invariant_of-result
invariant_of-result c =
    let d = c.args.digest.now in
    orderly _ _ _ (length d) c.copy_from_slice.new.self _ (ap length c.copy_from_slice.ensures.after) (drop-replicate (length d) 64 0)
    (subst (λ x. AreCidParts (cid_parts c.args.version c.args.codec c.args.hash_code x)) (sym c.copy_from_slice.ensures.after) c.requires)
