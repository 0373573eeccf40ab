-- What follows one more event.
use Rattle.std.proofs.Common.{◌≡◌, ℕ, List, [], ◌∷◌, ◌++◌, Option, Some, None, Bool, true, false, sym, ap, ◌∙◌, subst, Vec, Global, option_and_then, IsSomeAnd, Result, Ok, Err, IfOk}
use mathlib.Core.Logic.{∥∥₁_map, ∥∥₁_elim}
use Rattle.serde.specs.Event.{Event, Log}
use Rattle.ipld_tree.specs.Tree.{Tree}
use Rattle.ipld_tree.specs.Spelling.{IsSpelling}
use Rattle.ipld_tree.proofs.Spelled.{spelled_is}
use Rattle.types_serde.specs.Blocks.{IsBlockOfLog}
use Rattle.types_serde.specs.Building.{State, start, step, steps, finished, events_tree}
use Rattle.types_serde.specs.Holds.{IsGood, HoldsAll, StepsBy, FollowsLog, FollowsUnless, IsGoodLog}
use Rattle.types_serde.specs.Logged.{then}
use Rattle.types_serde.proofs.Props.{log_prop}
use Rattle.types_serde.specs.declared.sink.Sink.{Sink}

following : (f g : State → Option State) (o : Option State) (t u : State) → ((m : State) → f m ≡ Some t → g m ≡ Some u) → option_and_then f o ≡ Some t → option_and_then g o ≡ Some u
following f g None t u h e = let none : None ≡ Some t = e in cc
following f g (Some m) t u h e = h m e

steps_push : (es : List Event) (e : Event) (s t u : State) → steps es s ≡ Some t → step e t ≡ Some u → steps (es ++ e ∷ []) s ≡ Some u
steps_push [] e s t u h k =
    let same : s ≡ t = ap (λ o. elim o [ None ↦ s | Some x ↦ x ]) h in
    ap (option_and_then (λ v. Some v)) (ap (step e) same ∙ k)
steps_push (x ∷ es) e s t u h k = following (steps es) (steps (es ++ e ∷ [])) (step x s) t u (λ m g. steps_push es e m t u g k) h

-- a step that the sink made
pub follows_step : (log : Log) (e : Event) (old new : Sink) → StepsBy (step e) old new → FollowsLog log old → FollowsLog (then log e) new
follows_step None e old new m h = h
follows_step (Some es) e old new m h =
    let next = m h.0 h.2 in
    (next.0, steps_push es e start h.0 next.0 h.1 next.1, next.2)

-- what was sent is finished
pub finished_log : (log : Log) (sink : Sink) (b : List ℕ) → ((s : State) → HoldsAll s sink → (t : Tree) × (finished s ≡ Some t) × IsGood t b) → FollowsLog log sink → IsGoodLog log b
finished_log None sink b f h = absurd h
finished_log (Some es) sink b f h =
    let t = f h.0 h.2 in
    let P : Option Tree → Type 0 = λ o. IsSomeAnd o (λ k. IsGood k b) in
    subst P (sym (ap (option_and_then finished) h.1 ∙ t.1)) t.2

-- one more event, that was not refused
pub follows_more : (failed : Bool) (log : Log) (e : Event) (old new : Sink) (more : Log) → ∥ FollowsUnless failed log old ∥₁ → StepsBy (step e) old new → more ≡ then log e → ∥ FollowsUnless failed more new ∥₁
follows_more true log e old new more h m is = h
follows_more false log e old new more h m is = subst (λ k. ∥ FollowsLog k new ∥₁) (sym is) (∥∥₁_map h (follows_step log e old new m))

-- what is known at the end
pub known_log : (failed : Bool) (log : Log) (sink : Sink) (b : List ℕ) → failed ≡ false → ∥ FollowsUnless failed log sink ∥₁ → ((s : State) → HoldsAll s sink → (t : Tree) × (finished s ≡ Some t) × IsGood t b) → IsGoodLog log b
known_log true log sink b e h f = absurd (cc e)
known_log false log sink b e h f = ∥∥₁_elim h (log_prop log b) (finished_log log sink b f)

-- the bytes that were taken apart into a spelling
pub block_of : (log : Log) (b : List ℕ) → IsGoodLog log b → IsBlockOfLog log b
block_of None b h = absurd h
block_of (Some es) b h = by (events_tree es) h
  where
    by : (o : Option Tree) → IsSomeAnd o (λ t. IsGood t b) → IsSomeAnd o (λ t. IsSpelling b t)
    by None h = absurd h
    by (Some t) h = let k = (spelled_is t b).0 h.0 in record { well_formed = h.1; spellable = k.0; is = k.1 }

pub blocks_ok : {E : Type 0} (log : Log) (writes : Log → Type 0) (r : Result (Vec ℕ Global) E) → writes log → IfOk r (λ v. IsGoodLog log v.items) → IfOk r (λ v. (l : Log) × writes l × IsBlockOfLog l v.items)
blocks_ok log writes (Ok v) w h = (log, w, block_of log v.items h)
blocks_ok log writes (Err e) w h = tt
