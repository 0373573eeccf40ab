-- The block as which bytes are read.
use Rattle.std.proofs.Common.{◌≡◌, inl, inr, List, ℕ, arith, sym, ap, ◌∙◌, subst}
use Rattle.ipld_tree.specs.Cid.{CidParts}
use Rattle.ipld_tree.specs.Tree.{Tree}
use Rattle.dag_pb.proofs.Spelled.{node_unique}
use Rattle.dag_pb_model.specs.Model.{node_model, IsNodeOf, HasTextNames}
use Rattle.dag_pb_model.specs.Refusals.{HasNoModel}
use Rattle.dag_pb_model.specs.declared.error.ModelError.{ModelError}
use Rattle.dag_pb_model.specs.declared.error.ModelError.TheVariants.{NoNode, NameNotText}
use Rattle.dagcbor_decode.specs.Blocks.{IsBlock}
use Rattle.dagcbor_decode.proofs.Laws.{refused_no_block}
use Rattle.ipld_links.specs.Verdicts.{IsVerified, IsDagPb, IsVerdict}
use Rattle.ipld_links.specs.declared.verdict.Verdict.{Verdict}
use Rattle.ipld_links.specs.declared.verdict.Verdict.TheVariants.{Block, Refused, Node, OtherBytes, NotRead, LinksNotRead, Unverified}
use Rattle.ipld_links.specs.declared.verdict.Verdict.TheVariants as verdicts
use Rattle.ipld_paths.specs.Resolving.{IsReadAs, IsNoBlock}

-- ---- one at most

-- a node has one data model at most
pub model_unique : (b : List ℕ) (t u : Tree) → IsNodeOf b t → IsNodeOf b u → t ≡ u
model_unique b t u h k = h.3 ∙ ap node_model (node_unique b h.0 k.0 h.1 k.1) ∙ sym k.3

-- a tree has one block at most
pub one_block : (x y : List ℕ) (t : Tree) → IsBlock x t → IsBlock y t → x ≡ y
one_block x y t h k = h.0.is ∙ sym k.0.is

pub read_as_one : (name : CidParts) (b x y : List ℕ) → IsReadAs name b x → IsReadAs name b y → x ≡ y
read_as_one name b x y (inl h) (inl k) = sym h.1 ∙ k.1
read_as_one name b x y (inl h) (inr k) = absurd (omega (arith, h.0, k.0))
read_as_one name b x y (inr h) (inl k) = absurd (omega (arith, h.0, k.0))
read_as_one name b x y (inr h) (inr k) = one_block x y k.1.0 (subst (IsBlock x) (model_unique b h.1.0 k.1.0 h.1.1 k.1.1) h.1.2) k.1.2

-- ---- bytes that are not read

-- bytes with a verdict of no block are not read as a block
pub none_read : (name : CidParts) (b block : List ℕ) (t : Tree) (v : Verdict) → IsVerified (name, b) → IsReadAs name b block → IsBlock block t → IsVerdict (name, b) v → IsNoBlock v → ⊥
none_read name b block t (Block kind) h r k v none = none
none_read name b block t Node h r k v none = none
none_read name b block t (Refused e) h (inl r) k v none = refused_no_block b e t v.1.1 (subst (λ z. IsBlock z t) (sym r.1) k)
none_read name b block t (Refused e) h (inr r) k v none = absurd (omega (arith, v.1.0, r.0))
none_read name b block t (verdicts.NoNode e) h (inl r) k v none = absurd (omega (arith, v.1.0, r.0))
none_read name b block t (verdicts.NoNode e) h (inr r) k v none = v.1.1.0 (r.1.1.0, r.1.1.1)
none_read name b block t OtherBytes h r k v none = v.1 h
none_read name b block t NotRead h (inl r) k v none = absurd (omega (arith, v.1, r.0))
none_read name b block t NotRead h (inr r) k v none = absurd (omega (arith, v.1, r.0))
none_read name b block t LinksNotRead h (inl r) k v none = v.1.1 (inl r.0)
none_read name b block t LinksNotRead h (inr r) k v none = v.1.1 (inr r.0)
none_read name b block t Unverified (inl h) r k v none = v (inl h.0)
none_read name b block t Unverified (inr h) r k v none = v (inr h.0)

-- bytes without a data model are no node of one
pub no_node_of : (b : List ℕ) (e : ModelError) (t : Tree) → HasNoModel b e → IsNodeOf b t → ⊥
no_node_of b (NoNode e) t none h = none.0 (h.0, h.1)
no_node_of b NameNotText t none h = none.2 (subst HasTextNames (node_unique b h.0 none.0 h.1 none.1) h.2)

-- a node without a data model is not read as a block
pub not_modelled : (name : CidParts) (b block : List ℕ) (e : ModelError) → IsDagPb name → HasNoModel b e → IsReadAs name b block → ⊥
not_modelled name b block e is none (inl r) = absurd (omega (arith, is, r.0))
not_modelled name b block e is none (inr r) = no_node_of b e r.1.0 none r.1.1

-- the block of its data model is the one as which a node is read
pub made_read : (name : CidParts) (b made block : List ℕ) → IsDagPb name → ((t : Tree) × IsNodeOf b t × IsBlock made t) → IsReadAs name b block → made ≡ block
made_read name b made block is h r = read_as_one name b made block (inr (is, h)) r
