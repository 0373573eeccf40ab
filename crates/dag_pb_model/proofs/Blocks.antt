-- The spelling of a data model is a block.
use Rattle.std.proofs.Common.{ℕ, pos, ◌+◌, ◌^◌, ◌<◌, ◌≤◌, List, [], ◌∷◌, ◌++◌, length, length-append, Option, None, Some, option_map, map, codes, IfSome, IsUtf8, refl, sym, ap, subst, arith}
use Rattle.std.specs.List.{AllByRecursion}
use Rattle.dagcbor_core.specs.Steps.{default_steps}
use Rattle.ipld_tree.specs.Cid.{AreCidParts, cid_bytes}
use Rattle.ipld_tree.specs.Tree.{Tree, Items, integer, text, bytes, list, mapping, link, items_of, entries_of, any_need, items_need, IsTree, AreItems, AreEntries}
use Rattle.ipld_tree.specs.Spelling.{spelling, item_count, IsSpellable, AreSpellableItems}
use Rattle.dagcbor_decode.specs.Blocks.{IsBlock}
use Rattle.dagcbor_decode.proofs.Fronts.{plain_text}
use Rattle.dag_pb.specs.Node.{MayBeginWithBytes, MayBeNumber, LinkParts, Field, link_field, data_field, BeginsWithBytes, BeginsWithField, BeginsWithFields}
use Rattle.dag_pb.specs.Reads.{links_in}
use Rattle.dag_pb.proofs.Fields.{bytes_parts}
use Rattle.dag_pb.proofs.Orders.{node_links_in}
use Rattle.dag_pb.proofs.Rows.{field_shorter, link_shorter}
use Rattle.dag_pb_model.specs.Model.{optional_entry, link_model, IsNodeOf}
use Rattle.dag_pb_model.proofs.Forms.{counted_items}
use Rattle.dag_pb_model.proofs.Measuring.{data_with, node_data}

-- ---- bounds by the length of a node

inner_short : (t : ℕ) (b p r : List ℕ) → BeginsWithBytes t b p r → length p + length r ≤ length b
inner_short t b p r h = let k = bytes_parts t b p r h in omega (arith, ap length k.1, length-append k.0 (p ++ r), length-append p r)

record Bounded (l : LinkParts) : Type 0 where
  valid : AreCidParts l.hash
  cid : 1 + length (cid_bytes l.hash) < 2 ^ 64
  name : IfSome l.name (λ s. length s < 2 ^ 64)
  size : IfSome l.tsize (λ n. n < 2 ^ 64)

name_bounded : (b r : List ℕ) (name : Option (List ℕ)) → MayBeginWithBytes 0x12 b name r → length b < 2 ^ 64 → IfSome name (λ s. length s < 2 ^ 64)
name_bounded b r None h small = tt
name_bounded b r (Some s) h small = omega (arith, inner_short 0x12 b s r h, small)

size_bounded : (b : List ℕ) (size : Option ℕ) → MayBeNumber 0x18 b size → IfSome size (λ n. n < 2 ^ 64)
size_bounded b None h = tt
size_bounded b (Some n) (c, h, (form, is, e)) = is.fits

link_bounded : (b : List ℕ) (l : LinkParts) (r : List ℕ) → BeginsWithField b (link_field l) r → length b < 2 ^ 64 → Bounded l
link_bounded b l r (m, h, i) small =
    let inner = inner_short 0x12 b m r h in
    let following = inner_short 0x0a m (cid_bytes l.hash) i.following i.hash in
    let (rest, name, size) = i.ends in
    record {
      valid = i.valid;
      cid = omega (arith, link_shorter b l r (m, h, i), small);
      name = name_bounded i.following rest l.name name (omega (arith, inner, following, small));
      size = size_bounded rest l.tsize size;
    }

links_bounded : (b : List ℕ) (fs : List Field) → BeginsWithFields b fs [] → length b < 2 ^ 64 → AllByRecursion Bounded (links_in fs)
links_bounded b [] h small = tt
links_bounded b (link_field l ∷ fs) (c, h, k) small = (link_bounded b l c h small, links_bounded c fs k (omega (arith, field_shorter b (link_field l) c h, small)))
links_bounded b (data_field s ∷ fs) (c, h, k) small = links_bounded c fs k (omega (arith, field_shorter b (data_field s) c h, small))

links_few : (b : List ℕ) (fs : List Field) → BeginsWithFields b fs [] → length (links_in fs) ≤ length b
links_few b [] h = omega arith
links_few b (link_field l ∷ fs) (c, h, k) = omega (arith, links_few c fs k, field_shorter b (link_field l) c h)
links_few b (data_field s ∷ fs) (c, h, k) = omega (arith, links_few c fs k, field_shorter b (data_field s) c h)

data_bounded : (found : Option (List ℕ)) (b : List ℕ) (fs : List Field) → BeginsWithFields b fs [] → length b < 2 ^ 64 → IfSome found (λ s. length s < 2 ^ 64) → IfSome (data_with found fs) (λ s. length s < 2 ^ 64)
data_bounded found b [] h small good = good
data_bounded found b (link_field l ∷ fs) (c, h, k) small good = data_bounded found c fs k (omega (arith, field_shorter b (link_field l) c h, small)) good
data_bounded found b (data_field s ∷ fs) (c, h, k) small good = data_bounded (Some s) c fs k (omega (arith, field_shorter b (data_field s) c h, small)) (omega (arith, inner_short 0x0a b s c h, small))

-- ---- links

link_well : (l : LinkParts) → Bounded l → IfSome l.name IsUtf8 → IsTree (link_model l)
link_well l b texts = by l.name l.tsize texts
  where
    hash : IsUtf8 (codes "Hash")
    hash = plain_text (codes "Hash") refl

    key : IsUtf8 (codes "Name")
    key = plain_text (codes "Name") refl

    size : IsUtf8 (codes "Tsize")
    size = plain_text (codes "Tsize") refl

    by : (name : Option (List ℕ)) (tsize : Option ℕ) → IfSome name IsUtf8 → AreEntries (entries_of ((codes "Hash", link (cid_bytes l.hash)) ∷ (optional_entry (codes "Name") (option_map text name) ++ optional_entry (codes "Tsize") (option_map (λ n. integer (pos n)) tsize))))
    by None None t = (hash, (l.hash, b.valid, refl), tt, tt)
    by None (Some n) t = (hash, (l.hash, b.valid, refl), refl, (size, tt, tt, tt))
    by (Some s) None t = (hash, (l.hash, b.valid, refl), refl, (key, t, tt, tt))
    by (Some s) (Some n) t = (hash, (l.hash, b.valid, refl), refl, (key, t, refl, (size, tt, tt, tt)))

link_spellable : (l : LinkParts) → Bounded l → IsSpellable (link_model l)
link_spellable l b = by l.name l.tsize b.name b.size
  where
    by : (name : Option (List ℕ)) (tsize : Option ℕ) → IfSome name (λ s. length s < 2 ^ 64) → IfSome tsize (λ n. n < 2 ^ 64) → IsSpellable (mapping (entries_of ((codes "Hash", link (cid_bytes l.hash)) ∷ (optional_entry (codes "Name") (option_map text name) ++ optional_entry (codes "Tsize") (option_map (λ n. integer (pos n)) tsize)))))
    by None None h k = (omega arith, (omega arith, b.cid, tt))
    by None (Some n) h k = (omega arith, (omega arith, b.cid, (omega arith, k, tt)))
    by (Some s) None h k = (omega arith, (omega arith, b.cid, (omega arith, h, tt)))
    by (Some s) (Some n) h k = (omega arith, (omega arith, b.cid, (omega arith, h, (omega arith, k, tt))))

link_need : (l : LinkParts) → any_need (link_model l) ≤ 3
link_need l = by l.name l.tsize
  where
    by : (name : Option (List ℕ)) (tsize : Option ℕ) → any_need (mapping (entries_of ((codes "Hash", link (cid_bytes l.hash)) ∷ (optional_entry (codes "Name") (option_map text name) ++ optional_entry (codes "Tsize") (option_map (λ n. integer (pos n)) tsize))))) ≤ 3
    by None None = omega arith
    by None (Some n) = omega arith
    by (Some s) None = omega arith
    by (Some s) (Some n) = omega arith

-- ---- links in a row

row_well : (ls : List LinkParts) → AllByRecursion Bounded ls → AllByRecursion (λ l. IfSome l.name IsUtf8) ls → AreItems (items_of (map link_model ls))
row_well [] b t = tt
row_well (l ∷ ls) b t = (link_well l b.0 t.0, row_well ls b.1 t.1)

row_spellable : (ls : List LinkParts) → AllByRecursion Bounded ls → AreSpellableItems (items_of (map link_model ls))
row_spellable [] b = tt
row_spellable (l ∷ ls) b = (link_spellable l b.0, row_spellable ls b.1)

row_need : (ls : List LinkParts) → items_need (items_of (map link_model ls)) ≤ 3
row_need [] = omega arith
row_need (l ∷ ls) = omega (arith, link_need l, row_need ls)

-- ---- nodes

node_well : (inner : Option (List ℕ)) (links : Items) → AreItems links → AreEntries (entries_of (optional_entry (codes "Data") (option_map bytes inner) ++ ((codes "Links", list links) ∷ [])))
node_well None links h = (plain_text (codes "Links") refl, h, tt, tt)
node_well (Some s) links h = (plain_text (codes "Data") refl, tt, refl, (plain_text (codes "Links") refl, h, tt, tt))

node_spellable : (inner : Option (List ℕ)) (links : Items) → IfSome inner (λ s. length s < 2 ^ 64) → item_count links < 2 ^ 64 → AreSpellableItems links → IsSpellable (mapping (entries_of (optional_entry (codes "Data") (option_map bytes inner) ++ ((codes "Links", list links) ∷ []))))
node_spellable None links small few h = (omega arith, (omega arith, (few, h), tt))
node_spellable (Some s) links small few h = (omega arith, (omega arith, small, (omega arith, (few, h), tt)))

node_need : (inner : Option (List ℕ)) (links : Items) → items_need links ≤ 3 → any_need (mapping (entries_of (optional_entry (codes "Data") (option_map bytes inner) ++ ((codes "Links", list links) ∷ [])))) ≤ default_steps
node_need None links h = omega (arith, h)
node_need (Some s) links h = omega (arith, h)

pub model_block : (b : List ℕ) (t : Tree) → IsNodeOf b t → length b < 2 ^ 64 → IsBlock (spelling t) t
model_block b t (node, (row, h, are), texts, e) small =
    let same = node_links_in row node are in
    let bounds = subst (AllByRecursion Bounded) same (links_bounded b row h small) in
    let few : length node.links < 2 ^ 64 = omega (arith, small, links_few b row h, ap length same) in
    let inner = subst (λ o. IfSome o (λ s. length s < 2 ^ 64)) (node_data row node are) (data_bounded None b row h small tt) in
    let links = items_of (map link_model node.links) in
    subst (λ u. IsBlock (spelling u) u) (sym e) (
      record {
        well_formed = node_well node.«data» links (row_well node.links bounds texts);
        spellable = node_spellable node.«data» links inner (omega (arith, few, counted_items node.links)) (row_spellable node.links bounds);
        is = refl;
      },
      node_need node.«data» links (row_need node.links),
    )
