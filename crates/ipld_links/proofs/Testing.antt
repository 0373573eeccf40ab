-- Whether the bytes are those that a name names, or a block.
use Rattle.std.proofs.Common.{◌≡◌, ◌↔◌, inl, inr, ℕ, List, Bool, IsTrue, Result, Ok, Err, IfOk, sym}
use Rattle.std.specs.Result.{is_ok}
use Rattle.dagcbor_core.specs.declared.error.DecodeError.{DecodeError}
use Rattle.ipld_tree.specs.Tree.{Tree}
use Rattle.dagcbor_decode.specs.Blocks.{IsBlock}
use Rattle.dagcbor_decode.specs.Decode.{decode}
use Rattle.dagcbor_decode.specs.TreeKinds.{kind_of}
use Rattle.dagcbor_decode.specs.Verdicts.{answer, answered}
use Rattle.dagcbor_decode.specs.declared.kind.Kind.{Kind}
use Rattle.dagcbor_decode.proofs.Laws.{refused_no_block}
use Rattle.ipld_links.specs.Blocks.{HasBlock}
use Rattle.ipld_links.specs.Blocks.{NamedBlock}
use Rattle.ipld_links.specs.Verdicts.{IsVerified, IsTestable}

pub verified_testable : (s : NamedBlock) → IsVerified s → IsTestable s.0
verified_testable s (inl h) = inl h.0
verified_testable s (inr h) = inr h.0

-- the test accepts exactly the blocks
pub item_tested : {E : Type 0} (b : List ℕ) (r : Result Kind (DecodeError E)) (ok : Bool) → IfOk r (λ kind. (t : Tree) × IsBlock b t × (kind ≡ kind_of t)) → answered r ≡ answer (decode b) → ok ≡ is_ok r → IsTrue ok ↔ HasBlock b
item_tested b (Ok kind) ok k e is = (λ yes. (k.0, k.1), λ block. is)
item_tested b (Err e) ok k d is = (λ yes. absurd (cc (yes, is)), λ block. absurd (refused_no_block b e block.0 (sym d) block.1))
