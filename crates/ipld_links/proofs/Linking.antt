-- Which blocks links are read in, by the verdict on them.
use Rattle.std.proofs.Common.{◌≡◌, inl, inr, ℕ, List, refl, arith}
use Rattle.std.specs.declared.convert.Infallible.{Infallible}
use Rattle.dagcbor_core.specs.declared.error.DecodeError.{DecodeError}
use Rattle.dagcbor_decode.specs.declared.kind.Kind.{Kind}
use Rattle.ipld_tree.specs.Tree.{links_of}
use Rattle.dag_pb.specs.Node.{HasNode, node_links}
use Rattle.dag_pb.specs.declared.error.PbError.{PbError}
use Rattle.ipld_links.specs.Blocks.{NamedBlock, HasBlock, HasLinks, IsReadCodec, IsBlockOf}
use Rattle.ipld_links.specs.Verdicts.{IsVerdict}
use Rattle.ipld_links.specs.declared.verdict.Verdict.TheVariants.{Block, Refused, Node, NoNode, NotRead, LinksNotRead}
use Rattle.dagcbor_decode.proofs.Laws.{refused_no_block}

pub item_linked : (s : NamedBlock) (kind : Kind) → IsVerdict s (Block kind) → IsBlockOf s.0.codec s.1
item_linked s kind h = (links_of h.1.1.0, inl (h.1.0, (h.1.1.0, h.1.1.1, refl)))

pub node_linked : (s : NamedBlock) → IsVerdict s Node → IsBlockOf s.0.codec s.1
node_linked s h = (node_links h.1.1.0, inr (h.1.0, (h.1.1.0, h.1.1.1, refl)))

-- the block of the name has no links that are read
abbrev pub IsUnlinked : NamedBlock → Type 0
IsUnlinked s = (links : List (List ℕ)) → HasLinks s.0.codec s.1 links → ⊥

pub refused_unlinked : (s : NamedBlock) (e : DecodeError Infallible) → IsVerdict s (Refused e) → IsUnlinked s
refused_unlinked s e h links (inl (c, (t, b, f))) = refused_no_block s.1 e t h.1.1 b
refused_unlinked s e h links (inr (c, k)) = absurd (omega (arith, h.1.0, c))

pub no_node_unlinked : (s : NamedBlock) (e : PbError) → IsVerdict s (NoNode e) → IsUnlinked s
no_node_unlinked s e h links (inl (c, k)) = absurd (omega (arith, h.1.0, c))
no_node_unlinked s e h links (inr (c, (n, k, f))) = h.1.1.0 (n, k)

pub unread_unlinked : (s : NamedBlock) → IsVerdict s NotRead → IsUnlinked s
unread_unlinked s h links (inl (c, k)) = absurd (omega (arith, h.1, c))
unread_unlinked s h links (inr (c, k)) = absurd (omega (arith, h.1, c))

pub unknown_unlinked : (s : NamedBlock) → IsVerdict s LinksNotRead → IsUnlinked s
unknown_unlinked s h links (inl (c, k)) = h.1.1 (inl c)
unknown_unlinked s h links (inr (c, k)) = h.1.1 (inr c)

-- ---- sound blocks

pub linked_read : (codec : ℕ) (b : List ℕ) (links : List (List ℕ)) → HasLinks codec b links → IsReadCodec codec
linked_read codec b links (inl h) = inl h.0
linked_read codec b links (inr h) = inr h.0

pub item_of : (codec : ℕ) (b : List ℕ) → IsBlockOf codec b → codec ≡ 0x71 → HasBlock b
item_of codec b (links, inl (c, (t, h, e))) d = (t, h)
item_of codec b (links, inr (c, h)) d = absurd (omega (arith, c, d))

pub node_of : (codec : ℕ) (b : List ℕ) → IsBlockOf codec b → codec ≡ 0x70 → HasNode b
node_of codec b (links, inl (c, h)) d = absurd (omega (arith, c, d))
node_of codec b (links, inr (c, (n, h, e))) d = (n, h)
