-- The front of a node's data model.
use Rattle.std.proofs.Common.{◌≡◌, ◌≢◌, ℕ, ◌≤◌, List, [], ◌∷◌, ◌++◌, length, Option, None, Some, MatchOption, refl, sym, ap, ◌∙◌, subst, arith, append_assoc, append-nil, codes, IsUtf8}
use Rattle.dagcbor_core.specs.Head.{head}
use Rattle.dagcbor_core.specs.Splits.{SplitsHead, BeginsWithHead}
use Rattle.dagcbor_core.proofs.Heads.{head_unique}
use Rattle.ipld_tree.specs.Tree.{bytes, list, mapping, Entries, no_entries, entry, any_need, items_need}
use Rattle.ipld_tree.specs.Spelling.{IsFront, AreFronts, AreEntryFronts, spelling, item_count, entry_count, items_spelling, entries_spelling, text_spelling}
use Rattle.ipld_tree.proofs.Unique.{split_at_length}
use Rattle.ipld_tree.proofs.Fronts.{map_opened, list_opened, list_closed}
use Rattle.dagcbor_decode.specs.Blocks.{IsBlock}
use Rattle.dagcbor_decode.proofs.Fronts.{plain_text}
use Rattle.dag_pb.specs.Node.{LinkParts, NodeParts}
use Rattle.dag_pb_model.specs.Model.{link_model, node_model}
use Rattle.dag_pb_model.specs.Reading.{IsEntry, link_models, IsLinksFront, AreNodeEnds, IsNodeFront, HasNoNode, AreLinkModels, AreNoLinkModels}
use Rattle.dag_pb_model.proofs.Parting.{one_entry, map_closed, first_entry, entry_before, no_entry_left}

pub data_key : 0x64 ∷ 0x44 ∷ 0x61 ∷ 0x74 ∷ 0x61 ∷ [] ≡ text_spelling (codes "Data")
unfolding head
data_key = refl

pub links_key : 0x65 ∷ 0x4c ∷ 0x69 ∷ 0x6e ∷ 0x6b ∷ 0x73 ∷ [] ≡ text_spelling (codes "Links")
unfolding head
links_key = refl

data_utf8 : IsUtf8 (codes "Data")
data_utf8 = plain_text (codes "Data") refl

links_utf8 : IsUtf8 (codes "Links")
links_utf8 = plain_text (codes "Links") refl

one_head : (b : List ℕ) (m n k o : ℕ) (x y : List ℕ) → SplitsHead b m n x → SplitsHead b k o y → (m ≡ k) × (n ≡ o) × (x ≡ y)
one_head b m n k o x y h g = head_unique m n k o x y h.1 g.1 (sym h.2 ∙ g.2)

-- ---- the entry of the links

after_links : (b c : List ℕ) (count : ℕ) (rest : List ℕ) → b ≡ (0x65 ∷ 0x4c ∷ 0x69 ∷ 0x6e ∷ 0x6b ∷ 0x73 ∷ []) ++ c → IsLinksFront b count rest → SplitsHead c 4 count rest
after_links b c count rest e k =
    let front = 0x65 ∷ 0x4c ∷ 0x69 ∷ 0x6e ∷ 0x6b ∷ 0x73 ∷ [] in
    let same : front ++ c ≡ text_spelling (codes "Links") ++ k.0 = sym e ∙ k.1 in
    subst (λ x. SplitsHead x 4 count rest) (sym (split_at_length front (text_spelling (codes "Links")) c k.0 (ap length links_key) same).1) k.2

pub no_links_key : (b : List ℕ) → ((rest : List ℕ) → b ≢ (0x65 ∷ 0x4c ∷ 0x69 ∷ 0x6e ∷ 0x6b ∷ 0x73 ∷ []) ++ rest) → (count : ℕ) (rest : List ℕ) → ¬ IsLinksFront b count rest
no_links_key b none count rest k = none k.0 (k.1 ∙ ap (λ x. x ++ k.0) (sym links_key))

pub no_links_head : (b c : List ℕ) → b ≡ (0x65 ∷ 0x4c ∷ 0x69 ∷ 0x6e ∷ 0x6b ∷ 0x73 ∷ []) ++ c → ¬ BeginsWithHead c → (count : ℕ) (rest : List ℕ) → ¬ IsLinksFront b count rest
no_links_head b c e none count rest k = none (4, count, rest, after_links b c count rest e k)

pub other_links_head : (b c : List ℕ) (m n : ℕ) (x : List ℕ) → b ≡ (0x65 ∷ 0x4c ∷ 0x69 ∷ 0x6e ∷ 0x6b ∷ 0x73 ∷ []) ++ c → SplitsHead c m n x → ¬ (m ≡ 4) → (count : ℕ) (rest : List ℕ) → ¬ IsLinksFront b count rest
other_links_head b c m n x e h other count rest k = other (one_head c m n 4 count x rest h (after_links b c count rest e k)).0

pub links_found : (b c : List ℕ) (n : ℕ) (x : List ℕ) → b ≡ (0x65 ∷ 0x4c ∷ 0x69 ∷ 0x6e ∷ 0x6b ∷ 0x73 ∷ []) ++ c → SplitsHead c 4 n x → IsLinksFront b n x
links_found b c n x e h = (c, e ∙ ap (λ z. z ++ c) links_key, h)

one_links : (b : List ℕ) (m n : ℕ) (x y : List ℕ) → IsLinksFront b m x → IsLinksFront b n y → (m ≡ n) × (x ≡ y)
one_links b m n x y h k =
    let e : b ≡ (0x65 ∷ 0x4c ∷ 0x69 ∷ 0x6e ∷ 0x6b ∷ 0x73 ∷ []) ++ h.0 = h.1 ∙ ap (λ z. z ++ h.0) (sym links_key) in
    let p = one_head h.0 4 m 4 n x y h.2 (after_links b h.0 n y e k) in
    (p.1, p.2)

-- ---- the entries of a node

pub no_links_of_one : (b : List ℕ) → ((count : ℕ) (rest : List ℕ) → ¬ IsLinksFront b count rest) → (inner : Option (List ℕ)) (count : ℕ) (rest : List ℕ) → ¬ AreNodeEnds 1 b inner count rest
no_links_of_one b none None count rest k = none count rest k.1
no_links_of_one b none (Some d) count rest k = omega (arith, k.0)

pub no_data_of_both : (b : List ℕ) → ¬ ((s : List ℕ) × (rest : List ℕ) × IsEntry b (codes "Data") (bytes s) rest) → (inner : Option (List ℕ)) (count : ℕ) (rest : List ℕ) → ¬ AreNodeEnds 2 b inner count rest
no_data_of_both b none None count rest k = omega (arith, k.0)
no_data_of_both b none (Some d) count rest k = none (d, k.1.0, k.1.1)

pub no_links_of_both : (b s c : List ℕ) → IsEntry b (codes "Data") (bytes s) c → ((count : ℕ) (rest : List ℕ) → ¬ IsLinksFront c count rest) → (inner : Option (List ℕ)) (count : ℕ) (rest : List ℕ) → ¬ AreNodeEnds 2 b inner count rest
no_links_of_both b s c h none None count rest k = omega (arith, k.0)
no_links_of_both b s c h none (Some d) count rest k =
    none count rest (subst (λ x. IsLinksFront x count rest) (sym (one_entry b (codes "Data") c k.1.0 (bytes s) (bytes d) h k.1.1).1) k.1.2)

pub other_node_head : (b : List ℕ) (m n : ℕ) (x : List ℕ) → SplitsHead b m n x → ¬ (m ≡ 5) → (inner : Option (List ℕ)) (count : ℕ) (rest : List ℕ) → ¬ IsNodeFront b inner count rest
other_node_head b m n x h other inner count rest k = other (one_head b m n 5 k.0 x k.1 h k.2).0

pub node_judged : {P : Type 0} (inner : P → Option (List ℕ)) (count : P → ℕ) (rest : P → List ℕ) (n : ℕ) (b c : List ℕ) (r : Option P) → SplitsHead b 5 n c
    → MatchOption r ((i : Option (List ℕ)) (k : ℕ) (x : List ℕ) → ¬ AreNodeEnds n c i k x) (λ p. AreNodeEnds n c (inner p) (count p) (rest p))
    → MatchOption r ((i : Option (List ℕ)) (k : ℕ) (x : List ℕ) → ¬ IsNodeFront b i k x) (λ p. IsNodeFront b (inner p) (count p) (rest p))
node_judged inner count rest n b c None h none = λ i k x g.
    let same = one_head b 5 n 5 g.0 c g.1 h g.2 in
    none i k x (subst (λ y. AreNodeEnds n y i k x) (sym same.2) (subst (λ y. AreNodeEnds y g.1 i k x) (sym same.1) g.3))
node_judged inner count rest n b c (Some p) h k = (n, c, h, k)

one_node_ends : (n : ℕ) (b : List ℕ) (i j : Option (List ℕ)) (k l : ℕ) (x y : List ℕ) → AreNodeEnds n b i k x → AreNodeEnds n b j l y → (i ≡ j) × (k ≡ l) × (x ≡ y)
one_node_ends n b None None k l x y h g = let p = one_links b k l x y h.1 g.1 in (refl, p.0, p.1)
one_node_ends n b None (Some e) k l x y h g = absurd (omega (arith, h.0, g.0))
one_node_ends n b (Some d) None k l x y h g = absurd (omega (arith, h.0, g.0))
one_node_ends n b (Some d) (Some e) k l x y h g =
    let same = one_entry b (codes "Data") h.1.0 g.1.0 (bytes d) (bytes e) h.1.1 g.1.1 in
    let inner : d ≡ e = cc same.0 in
    let p = one_links h.1.0 k l x y h.1.2 (subst (λ z. IsLinksFront z l y) (sym same.1) g.1.2) in
    (ap Some inner, p.0, p.1)

-- ---- nodes

pub models_count : (ls : List LinkParts) → item_count (link_models ls) ≡ length ls
models_count [] = refl
models_count (l ∷ ls) = let rest = models_count ls in omega (arith, rest)

links_opened : (b : List ℕ) (ls : List LinkParts) → AreEntryFronts b (entry (codes "Links") (list (link_models ls)) no_entries) [] → (rest : List ℕ) × IsLinksFront b (length ls) rest × AreFronts rest (link_models ls) []
links_opened b ls h =
    let p = first_entry b [] (codes "Links") (list (link_models ls)) no_entries h in
    let f : IsFront p.1.0 (list (link_models ls)) [] = subst (IsFront p.1.0 (list (link_models ls))) p.2.is p.1.2 in
    let rest = items_spelling (link_models ls) ++ [] in
    let is : p.1.0 ≡ head 4 (item_count (link_models ls)) ++ rest = f.is ∙ append_assoc (head 4 (item_count (link_models ls))) (items_spelling (link_models ls)) [] in
    let fronts = (list_opened p.1.0 rest [] (item_count (link_models ls)) (link_models ls) f.spellable.0 f is).1 in
    let count = models_count ls in
    (rest, (p.1.0, p.1.1, (omega arith, omega (arith, f.spellable.0, count), is ∙ ap (λ n. head 4 n ++ rest) count)), fronts)

links_closed : (b rest : List ℕ) (count : ℕ) (ls : List LinkParts) → IsLinksFront b count rest → AreLinkModels rest count ls → AreEntryFronts b (entry (codes "Links") (list (link_models ls)) no_entries) []
links_closed b rest count ls h k =
    let same = models_count ls in
    let n : count ≡ item_count (link_models ls) = sym k.0 ∙ sym same in
    let front = list_closed rest [] (link_models ls) (omega (arith, h.2.1, n)) k.1 in
    let there : IsFront h.0 (list (link_models ls)) [] = subst (λ x. IsFront x (list (link_models ls)) []) (sym (h.2.2 ∙ ap (λ i. head 4 i ++ rest) n)) front in
    entry_before b [] [] (codes "Links") (list (link_models ls)) no_entries links_utf8 (omega arith) (h.0, h.1, there) tt (no_entry_left [] [] refl)

abbrev entries_in : Option (List ℕ) → List LinkParts → Entries
entries_in None ls = entry (codes "Links") (list (link_models ls)) no_entries
entries_in (Some d) ls = entry (codes "Data") (bytes d) (entry (codes "Links") (list (link_models ls)) no_entries)

model_is : (inner : Option (List ℕ)) (ls : List LinkParts) → node_model (record { links = ls; «data» = inner }) ≡ mapping (entries_in inner ls)
model_is None ls = refl
model_is (Some d) ls = refl

ends_opened : (n : ℕ) (b : List ℕ) (inner : Option (List ℕ)) (ls : List LinkParts) → entry_count (entries_in inner ls) ≡ n → AreEntryFronts b (entries_in inner ls) [] → (rest : List ℕ) × AreNodeEnds n b inner (length ls) rest × AreFronts rest (link_models ls) []
ends_opened n b None ls count h = let p = links_opened b ls h in (p.0, (omega (arith, count), p.1), p.2)
ends_opened n b (Some d) ls count h =
    let q = first_entry b [] (codes "Data") (bytes d) (entry (codes "Links") (list (link_models ls)) no_entries) h in
    let p = links_opened q.0 ls q.2 in
    (p.0, (omega (arith, count), (q.0, q.1, p.1)), p.2)

ends_closed : (n : ℕ) (b rest : List ℕ) (inner : Option (List ℕ)) (count : ℕ) (ls : List LinkParts) → AreNodeEnds n b inner count rest → AreLinkModels rest count ls → (n ≡ entry_count (entries_in inner ls)) × AreEntryFronts b (entries_in inner ls) []
ends_closed n b rest None count ls h k = (omega (arith, h.0), links_closed b rest count ls h.1 k)
ends_closed n b rest (Some d) count ls h k =
    (omega (arith, h.0), entry_before b h.1.0 [] (codes "Data") (bytes d) (entry (codes "Links") (list (link_models ls)) no_entries) data_utf8 (omega arith) h.1.1 refl (links_closed h.1.0 rest count ls h.1.2 k))

pub node_opened : (b : List ℕ) (node : NodeParts) → IsFront b (node_model node) [] → (count : ℕ) × (rest : List ℕ) × IsNodeFront b node.«data» count rest × AreLinkModels rest count node.links
node_opened b node f =
    let es = entries_in node.«data» node.links in
    let g : IsFront b (mapping es) [] = subst (λ t. IsFront b t []) (model_is node.«data» node.links) f in
    let n = entry_count es in
    let c = entries_spelling es ++ [] in
    let is : b ≡ head 5 n ++ c = g.is ∙ append_assoc (head 5 n) (entries_spelling es) [] in
    let all = map_opened b c [] n es g.spellable.0 g is in
    let p = ends_opened n c node.«data» node.links refl all.1 in
    (length node.links, p.0, (n, c, (omega arith, g.spellable.0, is), p.1), (refl, p.2))

pub node_closed : (b rest : List ℕ) (inner : Option (List ℕ)) (count : ℕ) (ls : List LinkParts) → IsNodeFront b inner count rest → AreLinkModels rest count ls → IsFront b (node_model (record { links = ls; «data» = inner })) []
node_closed b rest inner count ls h k =
    let p = ends_closed h.0 h.1 rest inner count ls h.3 k in
    subst (λ t. IsFront b t []) (sym (model_is inner ls)) (map_closed h.0 b h.1 [] (entries_in inner ls) h.2 p.0 p.1)

one_node_front : (b : List ℕ) (i j : Option (List ℕ)) (k l : ℕ) (x y : List ℕ) → IsNodeFront b i k x → IsNodeFront b j l y → (i ≡ j) × (k ≡ l) × (x ≡ y)
one_node_front b i j k l x y h g =
    let same = one_head b 5 h.0 5 g.0 h.1 g.1 h.2 g.2 in
    one_node_ends h.0 h.1 i j k l x y h.3 (subst (λ z. AreNodeEnds h.0 z j l y) (sym same.2) (subst (λ z. AreNodeEnds z g.1 j l y) (sym same.1) g.3))

-- bytes without the front of a node's data model are not a node's data model
pub no_front_no_node : (b : List ℕ) → ((inner : Option (List ℕ)) (count : ℕ) (rest : List ℕ) → ¬ IsNodeFront b inner count rest) → HasNoNode b
no_front_no_node b none node f = let p = node_opened b node f in none node.«data» p.0 p.1 p.2

-- bytes without the links of a node's data model are not a node's data model
pub no_links_no_node : (b : List ℕ) (inner : Option (List ℕ)) (count : ℕ) (rest : List ℕ) → IsNodeFront b inner count rest → AreNoLinkModels rest count → HasNoNode b
no_links_no_node b inner count rest h none node f =
    let p = node_opened b node f in
    let same = one_node_front b inner node.«data» count p.0 rest p.1 h p.2 in
    none node.links (subst (λ x. AreLinkModels x count node.links) (sym same.2) (subst (λ n. AreLinkModels p.1 n node.links) (sym same.1) p.3))

-- ---- its depth

link_need : (h : LinkParts) → any_need (link_model h) ≤ 3
link_need h = by h.name h.tsize
  where
    by : (name : Option (List ℕ)) (tsize : Option ℕ) → any_need (link_model (record { hash = h.hash; name = name; tsize = tsize })) ≤ 3
    by None None = omega arith
    by (Some s) None = omega arith
    by None (Some n) = omega arith
    by (Some s) (Some n) = omega arith

links_need : (ls : List LinkParts) → items_need (link_models ls) ≤ 3
links_need [] = omega arith
links_need (l ∷ ls) = let first = link_need l in let rest = links_need ls in omega (arith, first, rest)

node_need : (inner : Option (List ℕ)) (ls : List LinkParts) → any_need (node_model (record { links = ls; «data» = inner })) ≤ 7
node_need None ls = let all = links_need ls in omega (arith, all)
node_need (Some d) ls = let all = links_need ls in omega (arith, all)

-- a node's data model is a block
pub node_block : (b : List ℕ) (node : NodeParts) → IsFront b (node_model node) [] → IsBlock b (node_model node)
node_block b node f =
    let need = node_need node.«data» node.links in
    (record { well_formed = f.well_formed; spellable = f.spellable; is = f.is ∙ append-nil (spelling (node_model node)) }, omega (arith, need))
