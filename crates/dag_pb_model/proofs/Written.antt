-- The node of a data model, or why it is not written.
use Rattle.std.proofs.Common.{◌≡◌, ℕ, ◌+◌, ◌^◌, ◌<◌, ◌≤◌, Bool, true, false, MatchBool, List, ◌++◌, length, length-append, drop, codes, flat_map, Option, None, Some, IfSome, sym, ap, ◌∙◌, subst, arith}
use Rattle.dagcbor_core.specs.Head.{head}
use Rattle.ipld_tree.specs.Cid.{varint}
use Rattle.ipld_tree.specs.Spelling.{text_spelling}
use Rattle.dagcbor_decode.specs.Blocks.{IsBlock}
use Rattle.lent_memory.specs.Puts.{with_front, PutsAt}
use Rattle.lent_memory.proofs.Putting.{put_fits, put_both, overwritten_where_room, stays_without_room}
use Rattle.dag_pb.specs.Node.{LinkParts, NodeParts}
use Rattle.dag_pb.specs.Spelling.{data_field_bytes, link_spelling, node_spelling, AreSorted, IsSpellable}
use Rattle.dag_pb_model.specs.Model.{node_model}
use Rattle.dag_pb_model.specs.Reading.{node_with, IsNodeFront, AreMeasured, IsMeasuredModel, HasRoomForLinks, HasRoomForNode}
use Rattle.dag_pb_model.proofs.Opening.{data_key, node_closed, node_block}
use Rattle.dag_pb_model.proofs.Sizing.{varint_below}

-- ---- the measure

-- the data's field is no longer than its entry
pub node_fits : (b : List ℕ) (inner : Option (List ℕ)) (count : ℕ) (rest : List ℕ) → IsNodeFront b inner count rest → IfSome inner (λ d. length d < 2 ^ 64) → length rest + length (data_field_bytes inner) ≤ length b
node_fits b None count rest (n, c, h, (one, l)) fits =
    omega (arith, ap length h.2, length-append (head 5 n) c, ap length l.1, length-append (text_spelling (codes "Links")) l.0, ap length l.2.2, length-append (head 4 count) rest)
node_fits b (Some d) count rest (n, c, h, (two, (x, e, l))) fits =
    omega (arith, ap length h.2, length-append (head 5 n) c, ap length e.1, length-append (text_spelling (codes "Data")) e.0, ap length e.2.is, length-append (head 2 (length d) ++ d) x, length-append (head 2 (length d)) d, ap length data_key, length-append (varint (length d)) d, varint_below 2 (length d) fits, ap length l.1, length-append (text_spelling (codes "Links")) l.0, ap length l.2.2, length-append (head 4 count) rest)

pub node_measured : (b : List ℕ) (inner : Option (List ℕ)) (count : ℕ) (rest : List ℕ) (fields size : ℕ) (sorted : Bool) → IsNodeFront b inner count rest → AreMeasured rest count fields sorted → IfSome inner (λ d. length d < 2 ^ 64) → size ≡ fields + length (data_field_bytes inner) → IsMeasuredModel b inner rest size sorted
node_measured b inner count rest fields size sorted h m fits sum = record {
  links = m.links;
  whole = node_closed b rest inner count m.links h m.there;
  spellable = record { links = m.spellable; inner = fits };
  there = m.there.1;
  size_is = omega (arith, sum, m.size_is, length-append (flat_map link_spelling m.links) (data_field_bytes inner));
  sorted_is = m.sorted_is;
}

-- ---- writing the node

pub room_for_links : (b old : List ℕ) (inner : Option (List ℕ)) → HasRoomForNode inner b old → HasRoomForLinks b old
room_for_links b old inner h = (h.0, h.1, h.2, omega (arith, h.3, length-append (flat_map link_spelling h.0) (data_field_bytes inner)))

pub node_filled : (ls : List LinkParts) (inner : Option (List ℕ)) (at end : ℕ) (old now new : List ℕ) → length (node_spelling (node_with ls inner)) ≤ length old → PutsAt (flat_map link_spelling ls) 0 old now at → PutsAt (data_field_bytes inner) at now new end → new ≡ with_front (node_spelling (node_with ls inner)) old
node_filled ls inner at end old now new room p q =
    let s = node_spelling (node_with ls inner) in
    let fits : 0 + length s ≤ length old = omega (arith, room) in
    (put_both 0 at end (flat_map link_spelling ls) (data_field_bytes inner) old now new fits p q).1
    ∙ put_fits 0 s old fits
    ∙ ap (λ n. s ++ drop n old) {x = 0 + length s} {y = length s} (omega arith)
    ∙ sym (overwritten_where_room s old room)

pub node_put : (b : List ℕ) (inner : Option (List ℕ)) (rest : List ℕ) (size : ℕ) (sorted : Bool) (old new : List ℕ) → (m : IsMeasuredModel b inner rest size sorted) → sorted ≡ true → new ≡ with_front (node_spelling (node_with m.links inner)) old
    → (node : NodeParts) × IsBlock b (node_model node) × IsSpellable node × AreSorted node.links × (size ≡ length (node_spelling node)) × (new ≡ with_front (node_spelling node) old)
node_put b inner rest size sorted old new m e put = (
  node_with m.links inner,
  node_block b (node_with m.links inner) m.whole,
  m.spellable,
  subst (λ s. MatchBool s (AreSorted m.links) (¬ AreSorted m.links)) e m.sorted_is,
  m.size_is,
  put,
)

pub no_room : (b : List ℕ) (inner : Option (List ℕ)) (rest : List ℕ) (size : ℕ) (sorted : Bool) (old : List ℕ) → (m : IsMeasuredModel b inner rest size sorted) → length old < size → old ≡ with_front (node_spelling (node_with m.links inner)) old
no_room b inner rest size sorted old m few = sym (stays_without_room (node_spelling (node_with m.links inner)) old (omega (arith, few, m.size_is)))

pub unsorted_node : (b : List ℕ) (inner : Option (List ℕ)) (rest : List ℕ) (size : ℕ) (sorted : Bool) → IsMeasuredModel b inner rest size sorted → sorted ≡ false → (node : NodeParts) × IsBlock b (node_model node) × ¬ AreSorted node.links
unsorted_node b inner rest size sorted m e = (
  node_with m.links inner,
  node_block b (node_with m.links inner) m.whole,
  subst (λ s. MatchBool s (AreSorted m.links) (¬ AreSorted m.links)) e m.sorted_is,
)

pub node_room : (ls : List LinkParts) (inner : Option (List ℕ)) (old : List ℕ) → length (node_spelling (node_with ls inner)) ≤ length old → 0 + length (flat_map link_spelling ls ++ data_field_bytes inner) ≤ length old
node_room ls inner old room = omega (arith, room)

pub room_for_node : (b : List ℕ) (inner : Option (List ℕ)) (rest : List ℕ) (size : ℕ) (sorted : Bool) (old : List ℕ) → IsMeasuredModel b inner rest size sorted → size ≤ length old → HasRoomForNode inner rest old
room_for_node b inner rest size sorted old m few = (m.links, m.there, m.spellable.links, omega (arith, few, m.size_is))
