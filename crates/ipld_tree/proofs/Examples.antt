-- Worked examples.
use Rattle.std.proofs.Common.{◌≡◌, ℕ, ◌^◌, ◌-◌, pos, negsuc, List, [], ◌∷◌, true, false, None, Some, refl}
use Rattle.dagcbor_core.specs.Head.{head}
use Rattle.ipld_tree.specs.Key.{comes_before}
use Rattle.ipld_tree.specs.Cid.{varint, cid_parts, cid_bytes}
use Rattle.ipld_tree.specs.Tree.{Tree, null, boolean, integer, text, list, mapping, link, no_items, item, no_entries, entry, items_of, ordered_entries, map_tree, list_tree, entries_tree, any_need, links_of}
use Rattle.ipld_tree.specs.Spelling.{spelling}

shorter_first : comes_before (98 ∷ []) (97 ∷ 98 ∷ 99 ∷ []) ≡ true
shorter_first = refl

by_bytes : comes_before (97 ∷ []) (98 ∷ []) ≡ true
by_bytes = refl

not_itself : comes_before (97 ∷ []) (97 ∷ []) ≡ false
not_itself = refl

varint_small : varint 0x55 ≡ 0x55 ∷ []
unfolding varint
varint_small = refl

varint_codec : varint 206 ≡ 0xce ∷ 0x01 ∷ []
unfolding varint
varint_codec = refl

varint_greatest : varint (2 ^ 64 - 1) ≡ 0xff ∷ 0xff ∷ 0xff ∷ 0xff ∷ 0xff ∷ 0xff ∷ 0xff ∷ 0xff ∷ 0xff ∷ 0x01 ∷ []
unfolding varint
varint_greatest = refl

abbrev cid : List ℕ
cid = cid_bytes (cid_parts 1 206 155 (0x63 ∷ 0xc8 ∷ []))

cid_is : cid ≡ 0x01 ∷ 0xce ∷ 0x01 ∷ 0x9b ∷ 0x01 ∷ 0x02 ∷ 0x63 ∷ 0xc8 ∷ []
unfolding varint
cid_is = refl

link_spelling : spelling (link cid) ≡ 0xd8 ∷ 0x2a ∷ 0x49 ∷ 0x00 ∷ 0x01 ∷ 0xce ∷ 0x01 ∷ 0x9b ∷ 0x01 ∷ 0x02 ∷ 0x63 ∷ 0xc8 ∷ []
unfolding varint head
link_spelling = refl

list_spelling : spelling (list (items_of (integer (pos 1) ∷ integer (pos 2) ∷ integer (negsuc 299) ∷ []))) ≡ 0x83 ∷ 0x01 ∷ 0x02 ∷ 0x39 ∷ 0x01 ∷ 0x2b ∷ []
unfolding head
list_spelling = refl

least : spelling (integer (negsuc (2 ^ 64 - 1))) ≡ 0x3b ∷ 0xff ∷ 0xff ∷ 0xff ∷ 0xff ∷ 0xff ∷ 0xff ∷ 0xff ∷ 0xff ∷ []
unfolding head
least = refl

abbrev small_map : Tree
small_map = mapping (ordered_entries ((98 ∷ [], integer (pos 2)) ∷ (97 ∷ 98 ∷ 99 ∷ [], integer (pos 3)) ∷ (97 ∷ [], integer (pos 1)) ∷ []))

map_spelling : spelling small_map ≡ 0xa3 ∷ 0x61 ∷ 0x61 ∷ 0x01 ∷ 0x61 ∷ 0x62 ∷ 0x02 ∷ 0x63 ∷ 0x61 ∷ 0x62 ∷ 0x63 ∷ 0x03 ∷ []
unfolding head
map_spelling = refl

repeated_key : map_tree ((97 ∷ [], null) ∷ (98 ∷ [], null) ∷ (97 ∷ [], boolean true) ∷ []) ≡ None
repeated_key = refl

need_of_lists : any_need (list (item (list no_items) (item null no_items))) ≡ 4
need_of_lists = refl

abbrev some_links : Tree
some_links = mapping (entry (97 ∷ []) (link (1 ∷ [])) (entry (98 ∷ []) (list (item (link (2 ∷ [])) (item (link (1 ∷ [])) no_items))) no_entries))

links_in_order : links_of some_links ≡ (1 ∷ []) ∷ (2 ∷ []) ∷ (1 ∷ []) ∷ []
links_in_order = refl

list_of_some : list_tree (Some null ∷ Some (boolean true) ∷ []) ≡ Some (list (item null (item (boolean true) no_items)))
list_of_some = refl

list_of_none : list_tree (Some null ∷ None ∷ []) ≡ None
list_of_none = refl

key_is_no_text : entries_tree ((Some (integer (pos 1)), Some null) ∷ []) ≡ None
key_is_no_text = refl

two_entries : entries_tree ((Some (text (98 ∷ [])), Some null) ∷ (Some (text (97 ∷ [])), Some null) ∷ []) ≡ Some (mapping (entry (97 ∷ []) null (entry (98 ∷ []) null no_entries)))
two_entries = refl
