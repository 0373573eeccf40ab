-- What the collector of a list of known length does.
use Rattle.std.specs.Prelude.{◌≡◌, ℕ, ◌+◌, Bool, List, Option, Result, IfOk, IfErr, OnOk, IfSome}
use Rattle.std.specs.Borrow.{MutBor}
use Rattle.dagcbor_core.specs.declared.error.EncodeError.{EncodeError}
use Rattle.dagcbor_heads.specs.Written.{Written, Writes, WroteAll, WantsMemoryOnlyIf}
use Rattle.ipld_tree.specs.Tree.{Tree, IsTree}
use Rattle.ipld_tree.specs.Spelled.{spelled_tree}
use Rattle.dagcbor_write.specs.declared.collect.bounded.BoundedCollect.{BoundedCollect}
use Rattle.dagcbor_write.specs.Answers.{OnMessage, NoMessage}
use Rattle.dagcbor_write.specs.Lending.{bounded_lent, bounded_left, SameLoan}

-- A list of `len` items was begun: a text that ends with its head was written. The call is out of
-- memory only if the writer may take memory.
pub record BeginsList {W E : Type 0} (written : W → Written) (takes_memory : Bool) (text : Option (List ℕ)) (len : ℕ) (ser : MutBor W) (r : Result (BoundedCollect W) (EncodeError E)) : Type 0 where
  pub same_reference : IfOk r (λ c. SameLoan ser (bounded_lent c))
  pub head : IfOk r (λ c. WroteAll text (written ser.now) (written (bounded_lent c).now))
  pub left : IfOk r (λ c. bounded_left c ≡ len)
  pub memory : WantsMemoryOnlyIf takes_memory r
  pub silent : IfErr r (OnMessage NoMessage)

-- The next item was written, or refused. Either way one item fewer is still to come.
pub record WritesItem {W E : Type 0} (written : W → Written) (may : Bool) (tree : Option Tree) (message : List ℕ → Type 0) (old new : BoundedCollect W) (r : Result (Unit {0}) (EncodeError E)) : Type 0 where
  pub same_reference : SameLoan (bounded_lent old) (bounded_lent new)
  pub left : bounded_left new + 1 ≡ bounded_left old
  pub item : Writes (spelled_tree tree) (written (bounded_lent old).now) (written (bounded_lent new).now) r
  pub well_formed : OnOk r (IfSome tree IsTree)
  pub memory : WantsMemoryOnlyIf may r
  pub told : IfErr r (OnMessage message)
