-- Some blocks, and bytes that are refused.
use Rattle.std.proofs.Common.{◌≡◌, [], ◌∷◌, refl, codes, pos}
use Rattle.dagcbor_core.specs.Lengths.{len_of}
use Rattle.ipld_tree.specs.Tree.{list, item, no_items, integer}
use Rattle.dagcbor_decode.specs.Decode.{got, refused, non_minimal, eof, decode}

longer : decode (0x18 ∷ 0x17 ∷ []) ≡ refused (non_minimal (codes "u64") 0x18) 0
longer = refl

listed : decode (0x82 ∷ 0x01 ∷ 0x18 ∷ 0x18 ∷ []) ≡ got (list (item (integer (pos 1)) (item (integer (pos 24)) no_items))) []
listed = refl

short : decode (0x62 ∷ 0x61 ∷ []) ≡ refused (eof (codes "string") (len_of 2)) 0
short = refl
