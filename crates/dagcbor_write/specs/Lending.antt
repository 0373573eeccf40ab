-- Collectors: the serializers that they borrow, and what they hold.
use Rattle.std.specs.Prelude.{◌≡◌, ℕ, List, Option, Result, IfErr}
use Rattle.std.specs.Borrow.{RestsIfErr, Fml, RattleType, MutBor}
use Rattle.dagcbor_core.specs.declared.error.EncodeError.{EncodeError}
use Rattle.dagcbor_heads.specs.Written.{Written, Stops}
use Rattle.dagcbor_write.specs.contracts.serializer.Serializer.{the_row}
use Rattle.dagcbor_write.specs.declared.collect.bounded.BoundedCollect.{BoundedCollect}
use Rattle.dagcbor_write.specs.declared.collect.collect_map.CollectMap.{CollectMap}
use Rattle.dagcbor_write.specs.declared.collect.collect_seq.CollectSeq.{CollectSeq}
use Rattle.dagcbor_write.specs.Maps.{MapState}

-- the serializer that a map's collector borrows
abbrev pub map_lent : {W G : Type 0} → CollectMap W G → MutBor W
map_lent c = c.ser

-- the serializer that a list's collector borrows
abbrev pub list_lent : {W I : Type 0} → CollectSeq W I → MutBor W
list_lent c = c.ser

-- the serializer that a collector of announced length borrows
abbrev pub bounded_lent : {W : Type 0} → BoundedCollect W → MutBor W
bounded_lent c = c.ser

-- what a collector was given before its end
abbrev pub map_state : {W G : Type 0} → CollectMap W G → G
map_state c = c.state

-- the items of a list that is collected
abbrev pub list_state : {W I : Type 0} → CollectSeq W I → I
list_state c = c.items

-- how many of the announced items are still to come
abbrev pub bounded_left : {W : Type 0} → BoundedCollect W → ℕ
bounded_left c = c.left

-- both borrow through the same reference
abbrev pub SameLoan : {W : Type 0} → MutBor W → MutBor W → Type 0
SameLoan old new = new.ghost_name ≡ old.ghost_name

-- nothing was written: the serializer is as it was, and so is the number that was announced
pub record WritesNothing {W : Type 0} (old new : CollectMap W MapState) : Type 0 where
  pub same_reference : SameLoan (map_lent old) (map_lent new)
  pub unchanged : (map_lent new).now ≡ (map_lent old).now
  pub announced : (map_state new).announced ≡ (map_state old).announced

-- A collector begins with the serializer, or the head was refused, and the serializer is as that
-- call left it.
module _ (W : RattleType) (written : W.Denot → Written) {C E : Type 0}
    (lent : C → MutBor W.Denot) where
  abbrev pub BeginsOrStops : MutBor W.Denot → Option (List ℕ) → Result C (EncodeError E) → Fml
  BeginsOrStops ser head r = RestsIfErr (the_row W) ser (λ c. (lent c).ghost_name) r
      (λ new. IfErr r (Stops head (written ser.now) (written new)))
