-- How long the name of a block is.
use Rattle.std.proofs.Common.{◌≡◌, ℕ, List, ◌∷◌, ◌++◌, length, refl, ap, ◌∙◌, arith}
use Rattle.sha2.specs.Sha256.{sha256}
use Rattle.sha2.proofs.Facts256.{length-sha256}
use Rattle.ipld_tree.specs.Cid.{varint, cid_bytes}
use Rattle.ipld_tree.proofs.Cids.{form_1}
use Rattle.ipld_links.specs.Names.{block_name}

name_form : (b : List ℕ) → cid_bytes (block_name b) ≡ 1 ∷ 113 ∷ 18 ∷ 32 ∷ sha256 b
unfolding varint
name_form b = form_1 (block_name b) refl ∙ ap (λ n. 1 ∷ 113 ∷ 18 ∷ (varint n ++ sha256 b)) (length-sha256 b)

pub name_length : (b : List ℕ) → length (cid_bytes (block_name b)) ≡ 36
name_length b = omega (arith, ap length (name_form b), length-sha256 b)
