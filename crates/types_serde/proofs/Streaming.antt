-- Streams end, and their items are those after a look at the front.
use Rattle.std.proofs.Common.{◌≡◌, inl, inr, ℕ, ◌+◌, Bool, true, length, ap, arith, Option, None, Some, Result, Ok, Err, is_err, ◌⊎◌}
use Rattle.std.specs.Iterator.{MakesProgress}
use Rattle.dagcbor_heads.specs.Reading.{Reading}
use Rattle.dagcbor_heads.specs.Fronts.{ShowsByte}
use Rattle.dagcbor_heads.specs.Refusals.{Refuses, RefusesOrLacksMemory}
use Rattle.dagcbor_core.specs.declared.error.DecodeError.{DecodeError}
use Rattle.dagcbor_heads.proofs.Refusing.{passed_on}
use Rattle.dagcbor_heads.proofs.Taking.{stays_both}
use Rattle.ipld_tree.specs.Tree.{Tree}
use Rattle.dagcbor_items.specs.ReadCauses.{ItemCause}
use Rattle.dagcbor_items.specs.Untyped.{TakesItem, HasItem}
use Rattle.dagcbor_items.proofs.Fronts.{shorter}
use Rattle.dagcbor_items.proofs.Progress.{LeavesFewer, goes_on, rests, steps}
use Rattle.dagcbor_items.proofs.ItemRefusals.{at_steps}
use Rattle.types_serde.specs.declared.error.Error.{Error}
use Rattle.types_serde.specs.Streams.{StreamState, ReadsNext, GivesNext, items_left, SomeLeft, CauseInSome}

-- ---- a stream ends

module _ (E T : Type 0) where
  -- an error is the last, and a value leaves fewer bytes, and known bytes stay known
  after_item : (old new : Reading) (done : Bool) (r : Result T (Error E)) → (done ≡ is_err r) × ReadsNext old (Some r) new → (done ≡ true) ⊎ LeavesFewer old.left new.left
  after_item old new done (Err e) h = inl h.0
  after_item old new done (Ok v) h = inr (λ b l. let k = h.1.1.taken b l in (k.0, k.3, shorter b k.0 h.1.0 k.1))

  pub progressing : {S : Type 0} (can : S → Type 0) → ((s : S) → can s) → (see : S → StreamState) (old new : S) (item : Option (Result T (Error E))) → GivesNext (see old) item (see new) → MakesProgress can (λ s. items_left (see s)) old item new
  progressing can may see old new None h = rests (λ s. s.done) (λ s. s.reading.left) can may see _ _ old new h
  progressing can may see old new (Some r) h =
      let k = goes_on (Result T (Error E)) _ _ (see old).done r h in
      steps (λ s. s.done) (λ s. s.reading.left) can may see old new r k.0 (after_item (see old).reading (see new).reading (see new).done r k.1)

-- ---- what follows a look at a byte

-- bytes are left
shown_some : {byte : ℕ} {old mid : Reading} → ShowsByte old byte mid → SomeLeft old
shown_some {byte} {old} {mid} s b l = let k = s.starts b l in omega (arith, ap length k.1)

-- an item after a look was there before it
pub item_before : {byte : ℕ} {old mid new : Reading} {t : Tree} → ShowsByte old byte mid → TakesItem 0 mid t new → TakesItem 0 old t new
item_before {byte} {old} {mid} {new} {t} s a = record {
  taken = λ b l. let k = a.taken b (s.kept b l) in (k.0, k.1, omega (arith, k.2, s.same.steps), k.3);
  same = stays_both s.same a.same;
}

-- no item is read after a look
pub refused_after : {E : Type 0} {byte : ℕ} (old mid new : Reading) (e : DecodeError E) → ShowsByte old byte mid → RefusesOrLacksMemory (HasItem 0 mid) (ItemCause (mid.steps + 0)) mid e new
    → Refuses (record { could = HasItem 0 old; lacks = SomeLeft old; borrows = ⊥; stands = CauseInSome (old.steps + 0) }) old e new
refused_after {E} {byte} old mid new e s r = passed_on (ItemCause (mid.steps + 0)) (CauseInSome (old.steps + 0)) old mid new e s.same
    (λ h. record { bytes = h.bytes; tree = h.tree; rest = h.rest; left = s.kept h.bytes h.left; front = h.front; accepted = h.accepted; within = omega (arith, h.within, s.same.steps) })
    (λ h. shown_some s) (λ h. h)
    (λ b l. (b, s.kept b l, λ c. (shown_some s b l, at_steps e b _ _ (omega (arith, s.same.steps)) c))) r
