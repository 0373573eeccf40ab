-- Slices that are read as one item, or whose first item is.
use Rattle.std.proofs.Common.{◌≡◌, ◌≢◌, ◌++◌, append-nil, ℕ, ◌+◌, List, [], refl, sym, ap, ◌∙◌, subst, arith, Some, Result, Ok, Err, MatchResult, IfOk, IfErr}
use Rattle.std.specs.declared.convert.Infallible.{Infallible}
use Rattle.dagcbor_heads.specs.Reading.{Reading}
use Rattle.dagcbor_heads.specs.Fronts.{FindsEnd, ShowsByte}
use Rattle.dagcbor_heads.specs.Refusals.{RefusesOrLacksMemory}
use Rattle.dagcbor_core.specs.declared.error.DecodeError.{DecodeError}
use Rattle.dagcbor_core.specs.declared.error.DecodeError.TheVariants.{Read, RequireBorrowed, OutOfMemory, Failed, TrailingData, DepthOverflow}
use Rattle.ipld_tree.specs.Tree.{Tree}
use Rattle.ipld_tree.specs.Spelling.{spelling, IsFront, IsSpelling}
use Rattle.ipld_tree.specs.Ipld.{tree_of}
use Rattle.ipld_tree.specs.declared.ipld.Ipld.{Ipld}
use Rattle.dagcbor_decode.specs.Decode.{decode, decode_first, at_end}
use Rattle.dagcbor_decode.specs.Verdicts.{IsRefusal}
use Rattle.dagcbor_decode.proofs.Complete.{any_reads}
use Rattle.dagcbor_decode.proofs.Refusals.{refused_after, refused_then}
use Rattle.dagcbor_items.specs.ReadCauses.{ItemCause}
use Rattle.dagcbor_items.specs.Untyped.{HasItem, TakesItem}
use Rattle.dagcbor_decode.specs.Blocks.{IsBlock}
use Rattle.dagcbor_items.specs.Slices.{SliceRefused, PullsEnd}
use Rattle.dagcbor_items.proofs.ItemRefusals.{at_steps}

-- ---- both sides of a call

pub if_ok : {T E : Type 0} (P : T → Type 0) (Q : E → Type 0) (r : Result T E) → MatchResult r P Q → IfOk r P
if_ok P Q (Ok v) h = h
if_ok P Q (Err e) h = tt

pub if_err : {T E : Type 0} (P : T → Type 0) (Q : E → Type 0) (r : Result T E) → MatchResult r P Q → IfErr r Q
if_err P Q (Ok v) h = tt
if_err P Q (Err e) h = h

-- a slice is read if and only if it is a block
abbrev pub ReadsSlice : List ℕ → Result Ipld (DecodeError Infallible) → Type 0
ReadsSlice b result = MatchResult result (λ v. IsBlock b (tree_of v)) (λ e. SliceRefused e b)

-- ---- the whole slice

pub whole_front : {b : List ℕ} {t : Tree} → IsSpelling b t → IsFront b t []
whole_front {b} {t} h = record { well_formed = h.well_formed; spellable = h.spellable; is = h.is ∙ sym (append-nil (spelling t)) }

pub trailing : (E : Type 0) {old mid new : Reading} (b : List ℕ) (t : Tree) (byte : ℕ) → old.left ≡ Some b → old.steps ≡ 256 → TakesItem 0 old t mid → ShowsByte mid byte new → IsRefusal {E = E} (decode b) TrailingData
trailing E b t byte l steps a h =
    let k = a.taken b l in
    let s = h.starts k.0 k.3 in
    refused_then {E = E} (decode_first b) at_end t k.0 TrailingData (any_reads 256 b t k.0 k.1 (omega (arith, k.2, steps)))
    (subst (λ x. IsRefusal {E = E} (at_end t x) TrailingData) (sym s.1) refl)

-- what the item that the slice begins with is refused for
pub of_item : {E : Type 0} (e : DecodeError E) (old : Reading) (b : List ℕ) → old.steps ≡ 256 → ItemCause (old.steps + 0) e b → IsRefusal (decode_first b) e
of_item {E} e old b s h = at_steps {E = E} e b _ 256 (omega (arith, s)) h

pub of_block : {E : Type 0} (e : DecodeError E) (old : Reading) (b : List ℕ) → old.steps ≡ 256 → ItemCause (old.steps + 0) e b → IsRefusal (decode b) e
of_block e old b s h = refused_after (decode_first b) at_end e (of_item e old b s h)

pub slice_refused : (e : DecodeError Infallible) (old new : Reading) (b : List ℕ) → old.left ≡ Some b → old.steps ≡ 256 → RefusesOrLacksMemory (HasItem 0 old) (ItemCause (old.steps + 0)) old e new → SliceRefused e b
slice_refused (Read x) old new b l s r = elim x [ ]
slice_refused OutOfMemory old new b l s r = tt
slice_refused (RequireBorrowed n) old new b l s r = absurd r.1
slice_refused Failed old new b l s r = absurd r
slice_refused (DepthOverflow n) old new b l s r = of_block (DepthOverflow n) old b s (r.2 b l)
slice_refused e old new b l s r = of_block e old b s (r.2 b l)

pub block_taken : (b : List ℕ) (start mid end : Reading) (t : Tree) → start.left ≡ Some b → start.steps ≡ 256 → TakesItem 0 start t mid → FindsEnd mid end → IsBlock b t
block_taken b start mid end t l s a f =
    let k = a.taken b l in
    let none = f.none_left k.0 k.3 in
    (record { well_formed = k.1.well_formed; spellable = k.1.spellable; is = k.1.is ∙ ap (λ x. spelling t ++ x) none ∙ append-nil (spelling t) }, omega (arith, k.2, s))

-- an item was read, and then no end was found
pub end_refused : (b : List ℕ) (start mid end : Reading) (t : Tree) (e : DecodeError Infallible) → start.left ≡ Some b → start.steps ≡ 256 → TakesItem 0 start t mid → PullsEnd mid (Err e) end → SliceRefused e b × (e ≢ OutOfMemory)
end_refused b start mid end t TrailingData l steps a h = (trailing Infallible b t h.0 l steps a h.1, λ same. absurd (cc same))
end_refused b start mid end t (Read x) l steps a h = elim x [ ]
end_refused b start mid end t _ l steps a h = absurd h
