-- Sources that are read as one block, or whose first block is.
use Rattle.std.proofs.Common.{◌≡◌, ℕ, ◌+◌, List, Bool, true, false, Option, Some, None, IfSome, IfErr, MatchBool, Result, Ok, Err, Vec, Global}
use Rattle.dagcbor_heads.specs.Reading.{Reading}
use Rattle.dagcbor_heads.specs.Fronts.{ShowsByte}
use Rattle.dagcbor_heads.specs.Refusals.{RefusesOrLacksMemory}
use Rattle.dagcbor_core.specs.declared.error.DecodeError.{DecodeError}
use Rattle.dagcbor_core.specs.declared.error.DecodeError.TheVariants.{Read, RequireBorrowed, OutOfMemory, Failed, TrailingData, DepthOverflow}
use Rattle.ipld_tree.specs.Tree.{Tree}
use Rattle.dagcbor_items.specs.ReadCauses.{ItemCause}
use Rattle.dagcbor_items.specs.Untyped.{HasItem, TakesItem}
use Rattle.dagcbor_items.proofs.SliceReads.{of_item, of_block, trailing}
use Rattle.types_serde.specs.Sources.{PullsBlock, SourceRefused, FirstRefused}

whole : {E : Type 0} (e : DecodeError E) (old new : Reading) (b : List ℕ) → old.left ≡ Some b → old.steps ≡ 256 → RefusesOrLacksMemory (HasItem 0 old) (ItemCause (old.steps + 0)) old e new → SourceRefused e b
whole (Read x) old new b l s r = tt
whole OutOfMemory old new b l s r = tt
whole (RequireBorrowed n) old new b l s r = absurd r.1
whole Failed old new b l s r = absurd r
whole (DepthOverflow n) old new b l s r = of_block (DepthOverflow n) old b s (r.2 b l)
whole e old new b l s r = of_block e old b s (r.2 b l)

first : {E : Type 0} (e : DecodeError E) (old new : Reading) (b : List ℕ) → old.left ≡ Some b → old.steps ≡ 256 → RefusesOrLacksMemory (HasItem 0 old) (ItemCause (old.steps + 0)) old e new → FirstRefused e b
first (Read x) old new b l s r = tt
first OutOfMemory old new b l s r = tt
first (RequireBorrowed n) old new b l s r = absurd r.1
first Failed old new b l s r = absurd r
first (DepthOverflow n) old new b l s r = of_item (DepthOverflow n) old b s (r.2 b l)
first e old new b l s r = of_item e old b s (r.2 b l)

-- if the source's bytes are known, a whole block is refused for a cause found in them
pub whole_refused : {E : Type 0} (o : Option (List ℕ)) (e : DecodeError E) (old new : Reading) → old.left ≡ o → old.steps ≡ 256 → RefusesOrLacksMemory (HasItem 0 old) (ItemCause (old.steps + 0)) old e new → IfSome o (SourceRefused e)
whole_refused None e old new l s r = tt
whole_refused (Some b) e old new l s r = whole e old new b l s r

first_refused : {E : Type 0} (o : Option (List ℕ)) (e : DecodeError E) (old new : Reading) → old.left ≡ o → old.steps ≡ 256 → RefusesOrLacksMemory (HasItem 0 old) (ItemCause (old.steps + 0)) old e new → IfSome o (FirstRefused e)
first_refused None e old new l s r = tt
first_refused (Some b) e old new l s r = first e old new b l s r

pub bytes_of_rest : (E : Type 0) (o : Option (List ℕ)) (old mid new : Reading) (t : Tree) (byte : ℕ) → old.left ≡ o → old.steps ≡ 256 → TakesItem 0 old t mid → ShowsByte mid byte new → IfSome o (SourceRefused {E = E} TrailingData)
bytes_of_rest E None old mid new t byte l s a h = tt
bytes_of_rest E (Some b) old mid new t byte l s a h = trailing E b t byte l s a h

pub if_not : (P Q : Type 0) (b : Bool) → b ≡ false → MatchBool b P Q → Q
if_not P Q true e h = absurd (cc e)
if_not P Q false e h = h

pub pull_refused : {E : Type 0} (o : Option (List ℕ)) (old new : Reading) (r : Result (Vec ℕ Global) (DecodeError E)) → old.left ≡ o → old.steps ≡ 256 → PullsBlock old r new → IfErr r (λ e. IfSome o (FirstRefused e))
pull_refused o old new (Ok v) l s h = tt
pull_refused o old new (Err e) l s h = first_refused o e old new l s h
