use Rattle.std.proofs.Common.{◌≡◌, ℕ, Vec, Global, refl, rules, None}
use Rattle.ipld_tree.specs.Ipld.{tree_of}
use Rattle.dagcbor_read.specs.Shapes.{any_tree}
use Rattle.ipld_tree.specs.declared.cid.Cid.{Cid}
use Rattle.ipld_tree.specs.declared.ipld.Ipld.{Ipld, the_lemmas}
use Rattle.ipld_tree.specs.declared.ipld.Ipld as ipld
use Rattle.tests_types.specs.Kinded.{view_kinded}
use Rattle.serde_ipld_dagcbor.specs.ByHand.{value_unfinished}
use Rattle.tests_types.proofs.tests.by_hand.kinded.KindedDeserialize.deserialize.Goals as goal

-- a tree of another kind shows nothing
no_kind : (v : Ipld) → ((b : Vec ℕ Global) → v ≡ ipld.Bytes b → ⊥) → ((c : Cid) → v ≡ ipld.Link c → ⊥) → view_kinded (tree_of v) ≡ None
no_kind (ipld.Bytes b) h k = absurd (h b refl)
no_kind (ipld.Link c) h k = absurd (k c refl)
no_kind _ h k = search (rules, the_lemmas)

pub returns-clause-value : goal.returns-clause-value
returns-clause-value g c = value_unfinished any_tree view_kinded _ (c.custom.ensures.0, c.custom.ensures.1) (no_kind _ c.in_default.not-Bytes c.in_default.not-Link) c.in_ok-bytes.ensures.value
