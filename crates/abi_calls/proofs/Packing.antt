-- Links, packed.
use Rattle.std.proofs.Common.{◌≡◌, ℕ, suc, ◌≤◌, List, [], ◌∷◌, ◌++◌, length, refl, sym, ap, ◌∙◌, arith, append_assoc, append-nil, length-append}
use Rattle.dagcbor_core.specs.Head.{head}
use Rattle.ipld_tree.specs.Tree.{Tree, null, boolean, integer, text, bytes, list, mapping, link, Items, no_items, item, Entries, no_entries, entry, links_of, items_links, entries_links}
use Rattle.ipld_tree.specs.Spelling.{spelling, items_spelling, entries_spelling, text_spelling, item_count, entry_count}
use Rattle.std.specs.List.{flat_map}
use Rattle.dagcbor_decode.specs.Rows.{HoldsLinks}
use Rattle.abi_calls.specs.Packed.{packed_cids}

packed_both : (links more : List (List ℕ)) → packed_cids (links ++ more) ≡ packed_cids links ++ packed_cids more
packed_both [] more = refl
packed_both (cid ∷ links) more = ap (λ bs. (length cid ∷ cid) ++ bs) (packed_both links more) ∙ sym (append_assoc (length cid ∷ cid) (packed_cids links) (packed_cids more))

pub packed_push : (links : List (List ℕ)) (cid : List ℕ) → packed_cids (links ++ cid ∷ []) ≡ packed_cids links ++ (length cid ∷ cid)
packed_push links cid = packed_both links (cid ∷ []) ∙ ap (λ bs. packed_cids links ++ bs) (append-nil (length cid ∷ cid))

-- ---- a link is longer in a spelling than packed

both_fit : (links more : List (List ℕ)) (a b : List ℕ) → length (packed_cids links) ≤ length a → length (packed_cids more) ≤ length b → length (packed_cids (links ++ more)) ≤ length (a ++ b)
both_fit links more a b h k = omega (arith, h, k, ap length (packed_both links more), length-append (packed_cids links) (packed_cids more), length-append a b)

after_fits : (links : List (List ℕ)) (a b : List ℕ) → length (packed_cids links) ≤ length b → length (packed_cids links) ≤ length (a ++ b)
after_fits links a b h = omega (arith, h, length-append a b)

link_fits : (cid : List ℕ) → length (packed_cids (cid ∷ [])) ≤ length (spelling (link cid))
link_fits cid = omega (arith, ap length (append-nil (length cid ∷ cid)), length-append (head 2 (suc (length cid))) (0x00 ∷ cid))

mutual
  links_fit : (t : Tree) → length (packed_cids (links_of t)) ≤ length (spelling t)
  links_fit null = omega arith
  links_fit (boolean b) = omega arith
  links_fit (integer n) = omega arith
  links_fit (text s) = omega arith
  links_fit (bytes s) = omega arith
  links_fit (list ts) = after_fits (items_links ts) (head 4 (item_count ts)) (items_spelling ts) (items_fit ts)
  links_fit (mapping es) = after_fits (entries_links es) (head 5 (entry_count es)) (entries_spelling es) (entries_fit es)
  links_fit (link cid) = link_fits cid

  items_fit : (ts : Items) → length (packed_cids (items_links ts)) ≤ length (items_spelling ts)
  items_fit no_items = omega arith
  items_fit (item t ts) = both_fit (links_of t) (items_links ts) (spelling t) (items_spelling ts) (links_fit t) (items_fit ts)

  entries_fit : (es : Entries) → length (packed_cids (entries_links es)) ≤ length (entries_spelling es)
  entries_fit no_entries = omega arith
  entries_fit (entry k t es) = after_fits (links_of t ++ entries_links es) (text_spelling k) (spelling t ++ entries_spelling es)
      (both_fit (links_of t) (entries_links es) (spelling t) (entries_spelling es) (links_fit t) (entries_fit es))

-- packed links of consecutive items need no more bytes than the items
pub row_fits : (items : List ℕ) (links : List (List ℕ)) → HoldsLinks items links → length (packed_cids links) ≤ length items
row_fits items links h = omega (arith, trees_fit h.trees, ap (λ ls. length (packed_cids ls)) h.are, ap length h.is)
  where
    trees_fit : (ts : List Tree) → length (packed_cids (flat_map links_of ts)) ≤ length (flat_map spelling ts)
    trees_fit [] = omega arith
    trees_fit (t ∷ ts) = both_fit (links_of t) (flat_map links_of ts) (spelling t) (flat_map spelling ts) (links_fit t) (trees_fit ts)
