-- The links of items in a row.
use Rattle.std.proofs.Common.{◌≡◌, ◌≢◌, ◌↔◌, Bool, Option, None, Some, MatchOption, inl, inr, ℕ, ◌+◌, ◌<◌, ◌≤◌, List, [], ◌∷◌, ◌++◌, length, append_assoc, append-nil, refl, IsTrue, sym, ap, ◌∙◌, subst, arith}
use Rattle.ipld_tree.specs.Cid.{CidParts, cid_bytes}
use Rattle.ipld_tree.specs.Tree.{Tree, links_of}
use Rattle.ipld_tree.specs.Spelling.{spelling}
use Rattle.ipld_tree.proofs.Fronts.{front_unique}
use Rattle.dagcbor_items.specs.Walks.{forms}
use Rattle.dagcbor_decode.specs.Blocks.{IsBlock}
use Rattle.dagcbor_items.proofs.SliceReads.{whole_front}
use Rattle.dag_pb.specs.Node.{HasNode, node_links}
use Rattle.dag_pb.proofs.Reading.{row_of_node, one_node_links}
use Rattle.ipld_links.specs.Blocks.{HasBlock, HasLinks, IsBlockOf}
use Rattle.ipld_links.specs.Rows.{HoldsFieldLinks, HoldsLinksAs}
use Rattle.dagcbor_decode.specs.Rows.{HoldsLinks}

-- ---- a block

pub block_row : (b : List ℕ) (t : Tree) → IsBlock b t → HoldsLinks b (links_of t)
block_row b t h = record { trees = t ∷ []; whole = ((h.0.well_formed, h.0.spellable), tt); is = h.0.is ∙ sym (append-nil (spelling t)); are = sym (append-nil (links_of t)) }

-- a block is a row of its own parts
pub links_row : (codec : ℕ) (b : List ℕ) (links : List (List ℕ)) → HasLinks codec b links → HoldsLinksAs codec b links
links_row codec b links (inl (c, (t, block, e))) = inl (c, subst (HoldsLinks b) (sym e) (block_row b t block))
links_row codec b links (inr (c, (node, h, e))) = let k = row_of_node b node h in inr (c, record { fields = k.0; row = k.1; are = e ∙ k.2 })

-- the links of a block are these
pub one_links : (codec : ℕ) (b : List ℕ) (ls ms : List (List ℕ)) → HasLinks codec b ls → HasLinks codec b ms → ls ≡ ms
one_links codec b ls ms (inl (c, (t, h, e))) (inl (d, (u, k, f))) = e ∙ ap links_of (front_unique b [] [] t u (whole_front h.0) (whole_front k.0)).0 ∙ sym f
one_links codec b ls ms (inl (c, h)) (inr (d, k)) = absurd (omega (arith, c, d))
one_links codec b ls ms (inr (c, h)) (inl (d, k)) = absurd (omega (arith, c, d))
one_links codec b ls ms (inr (c, (m, h, e))) (inr (d, (n, k, f))) = e ∙ one_node_links b m n h k ∙ sym f

-- ---- link by link

pub item_links : (codec : ℕ) (b : List ℕ) (links : List (List ℕ)) → codec ≢ 0x70 → HoldsLinksAs codec b links → HoldsLinks b links
item_links codec b links other (inl h) = h.1
item_links codec b links other (inr h) = absurd (other h.0)

pub field_links : (codec : ℕ) (b : List ℕ) (links : List (List ℕ)) → codec ≡ 0x70 → HoldsLinksAs codec b links → HoldsFieldLinks b links
field_links codec b links pb (inl h) = absurd (omega (arith, pb, h.0))
field_links codec b links pb (inr h) = h.1

pub is_item_codec : (codec : ℕ) (b : List ℕ) (links : List (List ℕ)) → codec ≢ 0x70 → HoldsLinksAs codec b links → codec ≡ 0x71
is_item_codec codec b links other (inl h) = h.0
is_item_codec codec b links other (inr h) = absurd (other h.0)

-- the links of a block: those found so far, and those in the bytes that are left
pub record LinksSoFar (codec : ℕ) (b : List ℕ) (found : List CidParts) (rest : List ℕ) : Type 0 where
  pub links : List (List ℕ)
  pub block : HasLinks codec b links
  pub more : List (List ℕ)
  pub left : HoldsLinksAs codec rest more
  pub all : links ≡ forms found ++ more
  pub fits : length rest ≤ length b

pub none_so_far : (codec : ℕ) (b : List ℕ) → IsBlockOf codec b → LinksSoFar codec b [] b
none_so_far codec b h = record { links = h.0; block = h.1; more = h.0; left = links_row codec b h.0 h.1; all = refl; fits = omega arith }

pub forms_push : (cs : List CidParts) (c : CidParts) → forms (cs ++ c ∷ []) ≡ forms cs ++ cid_bytes c ∷ []
forms_push [] c = refl
forms_push (x ∷ xs) c = ap (λ fs. cid_bytes x ∷ fs) (forms_push xs c)

pub one_so_far : (codec : ℕ) (b : List ℕ) (found : List CidParts) (c : CidParts) (rest following : List ℕ) (s : LinksSoFar codec b found rest) → ((more : List (List ℕ)) × (s.more ≡ cid_bytes c ∷ more) × HoldsLinksAs codec following more) → length (cid_bytes c) + length following < length rest → LinksSoFar codec b (found ++ c ∷ []) following
one_so_far codec b found c rest following s (more, is, left) shorter =
    let short = s.fits in
    record {
      links = s.links;
      block = s.block;
      more = more;
      left = left;
      all = s.all ∙ ap (λ ls. forms found ++ ls) is ∙ sym (append_assoc (forms found) (cid_bytes c ∷ []) more) ∙ ap (λ fs. fs ++ more) (sym (forms_push found c));
      fits = omega (arith, shorter, short);
    }

pub all_so_far : (codec : ℕ) (b : List ℕ) (found : List CidParts) (rest : List ℕ) (s : LinksSoFar codec b found rest) → s.more ≡ [] → forms found ≡ s.links
all_so_far codec b found rest s none = sym (s.all ∙ ap (λ ls. forms found ++ ls) none ∙ append-nil (forms found))

pub first_so_far : (codec : ℕ) (b : List ℕ) (found : List CidParts) (rest : List ℕ) (s : LinksSoFar codec b found rest) → s.more ≡ [] → HasLinks codec b (forms found)
first_so_far codec b found rest s none = subst (HasLinks codec b) (sym (all_so_far codec b found rest s none)) s.block

-- ---- by the codec

pub item_block_of : (codec : ℕ) (b : List ℕ) (r : Bool) → codec ≡ 0x71 → IsTrue r ↔ HasBlock b → IsTrue r ↔ IsBlockOf codec b
item_block_of codec b r is (there, back) = (λ t. let h = there t in (links_of h.0, inl (is, (h.0, h.1, refl))), by)
  where
    by : IsBlockOf codec b → IsTrue r
    by (links, inl (c, (t, h, e))) = back (t, h)
    by (links, inr (c, h)) = absurd (omega (arith, is, c))

pub node_block_of : (codec : ℕ) (b : List ℕ) (r : Bool) → codec ≡ 0x70 → IsTrue r ↔ HasNode b → IsTrue r ↔ IsBlockOf codec b
node_block_of codec b r is (there, back) = (λ t. let h = there t in (node_links h.0, inr (is, (h.0, h.1, refl))), by)
  where
    by : IsBlockOf codec b → IsTrue r
    by (links, inl (c, h)) = absurd (omega (arith, is, c))
    by (links, inr (c, (n, h, e))) = back (n, h)

-- the next link, in a row of either kind
pub next_as : {X : Type 0} (codec : ℕ) (holds : List ℕ → List (List ℕ) → Type 0) (form rest_of : X → List ℕ) (o : Option X) (links : List (List ℕ)) → ((b : List ℕ) (ls : List (List ℕ)) → holds b ls → HoldsLinksAs codec b ls)
    → MatchOption o (links ≡ []) (λ p. (more : List (List ℕ)) × (links ≡ form p ∷ more) × holds (rest_of p) more) → MatchOption o (links ≡ []) (λ p. (more : List (List ℕ)) × (links ≡ form p ∷ more) × HoldsLinksAs codec (rest_of p) more)
next_as codec holds form rest_of None links up h = h
next_as codec holds form rest_of (Some p) links up h = (h.0, h.1, up (rest_of p) h.0 h.2)
