-- The roots of a header are the links of its block.
use Rattle.std.proofs.Common.{◌≡◌, inl, ℕ, ℤ, ◌-◌, pos, List, [], length, refl, ap, ◌∙◌, arith, length-append}
use Rattle.ipld_tree.specs.Spelling.{IsSpelling}
use Rattle.dagcbor_items.proofs.SliceReads.{whole_front}
use Rattle.dagcbor_decode.proofs.Complete.{any_reads}
use Rattle.files_car.specs.Car.{header_tree, header_bytes}
use Rattle.files_car.specs.Splits.{SplitsHeader}
use Rattle.files_car.proofs.Cars.{links_of_header}
use Rattle.files_car.proofs.Headers.{header_block}
use Rattle.abi_calls.specs.Answers.{packed_of, links_answer}
use Rattle.abi_calls.specs.Codes.{decoded_code}
use Rattle.abi_calls.specs.Packed.{packed_cids, packed_links}
use Rattle.lent_memory.specs.Puts.{with_front}
use Rattle.abi_calls.specs.Headers.{IsHeaderAnswer}

-- what is put for the block of a header
pub roots_put : (b block rest old new : List ℕ) (roots : List (List ℕ)) (needed before following : ℕ) (code : ℤ) → SplitsHeader b roots rest → IsSpelling block (header_tree roots) → (code, needed, new) ≡ links_answer block old
    → following ≡ length b - length rest → IsHeaderAnswer b old new needed before following (pos 0)
roots_put b block rest old new roots needed before following code h s answer end =
    let read = any_reads 256 block (header_tree roots) [] (whole_front s) (header_block block roots s).1 in
    let packed : packed_links (header_tree roots) ≡ packed_cids roots = ap packed_cids (links_of_header roots) in
    let is = answer ∙ ap (λ d. (decoded_code d, length (packed_of d), with_front (packed_of d) old)) read in
    inl (roots, rest, h, refl, ap (λ p. p.1) is ∙ ap length packed, ap (λ p. p.2) is ∙ ap (λ x. with_front x old) packed, omega (arith, end, ap length h.1, length-append (header_bytes roots) rest))
