-- The spellings of leaves.
use Rattle.std.proofs.Common.{◌≡◌, ℕ, pos, negsuc, ◌+◌, ◌<◌, ◌^◌, List, [], ◌∷◌, ◌++◌, length, true, false, Option, Some, refl, ap, ◌∙◌, arith, IsUtf8}
use Rattle.std.specs.Fmt.{◌++?◌}
use Rattle.dagcbor_core.specs.Head.{head}
use Rattle.ipld_tree.specs.Cid.{IsCid}
use Rattle.ipld_tree.specs.Tree.{Tree, null, boolean, integer, text, bytes, link}
use Rattle.ipld_tree.specs.Spelled.{spelled, spelled_head}
use Rattle.dagcbor_write.proofs.Spelling.{head_is_spelled}
use Rattle.types_serde.specs.Holds.{IsGood}

-- a head with nothing after it
alone : (t : Tree) (major n : ℕ) → n < 2 ^ 64 → spelled t ≡ spelled_head major n → spelled t ≡ Some (head major n)
alone t major n h e = e ∙ head_is_spelled major n h

pub good_unsigned : (n : ℕ) → n < 2 ^ 64 → IsGood (integer (pos n)) (head 0 n)
unfolding spelled
good_unsigned n h = (alone (integer (pos n)) 0 n h refl, tt)

pub good_negative : (n : ℕ) → n < 2 ^ 64 → IsGood (integer (negsuc n)) (head 1 n)
unfolding spelled
good_negative n h = (alone (integer (negsuc n)) 1 n h refl, tt)

pub good_true : IsGood (boolean true) (head 7 21)
unfolding spelled head
good_true = (refl, tt)

pub good_false : IsGood (boolean false) (head 7 20)
unfolding spelled head
good_false = (refl, tt)

pub good_null : IsGood null (head 7 22)
unfolding spelled head
good_null = (refl, tt)

pub good_text : (s : List ℕ) → length s < 2 ^ 64 → IsUtf8 s → IsGood (text s) (head 3 (length s) ++ s)
unfolding spelled
good_text s h u = (ap (λ (x : Option (List ℕ)). x ++? Some s) (head_is_spelled 3 (length s) h), u)

pub good_bytes : (s : List ℕ) → length s < 2 ^ 64 → IsGood (bytes s) (head 2 (length s) ++ s)
unfolding spelled
good_bytes s h = (ap (λ (x : Option (List ℕ)). x ++? Some s) (head_is_spelled 2 (length s) h), tt)

-- a link: its tag, and the byte string of a zero byte and the CID
pub good_link : (cid : List ℕ) → length cid + 1 < 2 ^ 64 → IsCid cid → IsGood (link cid) (head 6 42 ++ (head 2 (length cid + 1) ++ 0x00 ∷ cid))
unfolding spelled head
good_link cid h c =
    let one : length (0x00 ∷ cid) ≡ length cid + 1 = omega arith in
    let inner = good_bytes (0x00 ∷ cid) (omega (arith, h)) in
    (ap (λ (x : Option (List ℕ)). Some (0xd8 ∷ 0x2a ∷ []) ++? x) (inner.0 ∙ ap (λ n. Some (head 2 n ++ 0x00 ∷ cid)) one), c)
