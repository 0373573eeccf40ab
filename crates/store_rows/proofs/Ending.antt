-- How a call of several steps on rows ends.
use Rattle.std.proofs.Common.{◌≡◌, inl, inr, ℕ, List, Bool, true, false, cond, ◌==◌, eqb-true, refl, sym, ap, ◌∙◌, subst, arith, Result, Ok, Err, IfErr, OnOk}
use Rattle.sqlite_value.specs.Order.{Row}
use Rattle.sqlite_trees.specs.View.{View, IsClean, KeepsSchema, KeepsCommitted, OnlyWrites, SetsTree, IsFailure, HasCause, Tells}
use Rattle.sqlite_trees.specs.declared.store.Store.{Ghosts}
use Rattle.sqlite_disk.specs.Disk.{MoreFaults}
use Rattle.sqlite_trees.specs.declared.error.StoreError.{StoreError}
use Rattle.sqlite_trees.specs.declared.error.StoreError.TheVariants.{OutOfMemory}
use Rattle.sqlite_exec.specs.Calls.{OnlyReads}
use Rattle.store_rows.specs.Ends.{EndsOnRows, Quiet, WritesIn}
use Rattle.store_rows.proofs.Causes.{cause_then, only_reads, only_writes}

module _ {S : Type 0} (g : Ghosts S) where
  pub quiet_itself : (a : S) → Quiet g a a
  quiet_itself a = record { shield = λ h. h; clean = omega arith; counts = omega arith; closes = λ c o. inl o; outcomes = λ db h. h }

  pub quiet_then : (a b c : S) → Quiet g a b → Quiet g b c → Quiet g a c
  quiet_then a b c p q = record {
    shield = λ h. q.shield (p.shield h);
    clean = omega (arith, p.clean, q.clean);
    counts = omega (arith, p.counts, q.counts);
    closes = λ now h. elim (p.closes (omega (arith, q.clean)) h) [
      | inl on ↦ elim (q.closes now on) [ inl still ↦ inl still | inr fault ↦ inr (omega (arith, p.counts)) ]
      | inr fault ↦ inr (omega (arith, q.counts))
    ];
    outcomes = λ db h. p.outcomes db (q.outcomes db h);
  }

-- ---- what is written

module _ (These : ℕ → Type 0) where
  pub reads_writes : (old new : View) → OnlyReads old new → WritesIn These old new
  reads_writes old new h = record {
    frame = h ∙ ap (λ t. record old { trees = t; cursors = new.cursors }) (sym (ap (λ (v : View). v.trees) h));
    others = λ t out. ap (λ (v : View). v.trees t) h;
  }

  pub writes_then : (old mid new : View) → WritesIn These old mid → WritesIn These mid new → WritesIn These old new
  writes_then old mid new h k = record {
    frame = k.frame ∙ ap (λ (v : View). record v { trees = new.trees; cursors = new.cursors }) h.frame;
    others = λ t out. k.others t out ∙ h.others t out;
  }

  -- one of the trees is edited
  pub writes_set : (tree : ℕ) (old new : View) (edit : List Row → List Row) → These tree → OnlyWrites old new → SetsTree old new tree edit → WritesIn These old new
  writes_set tree old new edit this frame set = record { frame = frame; others = λ t out. ap (λ (v : View). v.trees t) set.is ∙ by t out (t == tree) refl }
    where
      by : (t : ℕ) → (These t → ⊥) → (b : Bool) → (t == tree) ≡ b → cond b (edit (old.trees tree)) (old.trees t) ≡ old.trees t
      by t out true e = absurd (out (subst These (sym (eqb-true t tree e)) this))
      by t out false e = refl

kept_after : (old mid new : View) → OnlyWrites old mid → KeepsCommitted mid new → KeepsCommitted old new
kept_after old mid new h k = let s = subst (λ (v : View). KeepsCommitted v new) h k in record {
  shape = s.shape;
  reals = s.reals;
  committed_shape = s.committed_shape;
  committed_reals = s.committed_reals;
  numbered = s.numbered;
  was_open = s.was_open;
  committed = s.committed;
  marks = s.marks;
}

kept_itself : (v : View) → KeepsCommitted v v
kept_itself v = record { shape = refl; reals = refl; committed_shape = refl; committed_reals = refl; numbered = refl; was_open = λ h. h; committed = λ h. refl; marks = λ h. refl }

schema_then : (old mid new : View) → KeepsSchema old mid → KeepsSchema mid new → KeepsSchema old new
schema_then old mid new p q = record {
  shape = q.shape ∙ p.shape;
  reals = q.reals ∙ p.reals;
  committed_shape = q.committed_shape ∙ p.committed_shape;
  committed_reals = q.committed_reals ∙ p.committed_reals;
  numbered = q.numbered ∙ p.numbered;
}

-- a call that only reads writes nothing
pub as_writes : {S T : Type 0} {F : Type 0} {These : ℕ → Type 0} {x : T} (g : Ghosts S) (old new : S) → EndsOnRows g OnlyReads F (Ok x) old new → EndsOnRows g (WritesIn These) F (Ok x) old new
as_writes {S} {T} {F} {These} g old new e = record {
  frame = λ clean. reads_writes These (g.view old) (g.view new) (e.frame clean);
  sound = e.sound;
  told = tt;
  err = λ clean. tt;
  cause = λ clean. tt;
  schema = e.schema;
  quiet = e.quiet;
}

-- ---- steps

-- steps that succeeded
pub record Goes {S : Type 0} (g : Ghosts S) (These : ℕ → Type 0) (old new : S) : Type 0 where
  pub frame : IsClean (g.view new) → WritesIn These (g.view old) (g.view new)
  pub schema : KeepsSchema (g.view old) (g.view new)
  pub quiet : Quiet g old new

module _ {S : Type 0} {These : ℕ → Type 0} (g : Ghosts S) where
  pub goes : {T F : Type 0} {x : T} (old new : S) → EndsOnRows g (WritesIn These) F (Ok x) old new → Goes g These old new
  goes old new e = record { frame = e.frame; schema = e.schema; quiet = e.quiet }

  module _ {U V G H : Type 0} (old mid new : S) (first : Goes g These old mid) where
    -- and another that succeeded
    pub goes_ok : {y : U} (z : V) → EndsOnRows g (WritesIn These) G (Ok y) mid new → EndsOnRows g (WritesIn These) H (Ok z) old new
    goes_ok z e = record {
      frame = λ clean. writes_then These (g.view old) (g.view mid) (g.view new) (first.frame (omega (arith, e.quiet.clean))) (e.frame clean);
      sound = λ clean. let was : IsClean (g.view mid) = omega (arith, e.quiet.clean) in sym (only_writes (g.view old) (g.view mid) (first.frame was).frame) ∙ e.sound clean;
      told = tt;
      err = λ clean. tt;
      cause = λ clean. tt;
      schema = schema_then (g.view old) (g.view mid) (g.view new) first.schema e.schema;
      quiet = quiet_then g old mid new first.quiet e.quiet;
    }

    -- and one that failed
    pub goes_err : {e : StoreError} → (G → H) → EndsOnRows {T = U} g (WritesIn These) G (Err e) mid new → EndsOnRows {T = V} g (WritesIn These) H (Err e) old new
    goes_err {e} wider h = record {
      frame = tt;
      sound = tt;
      told = h.told;
      err = λ clean. kept_after (g.view old) (g.view mid) (g.view new) (first.frame (omega (arith, h.quiet.clean))).frame (h.err clean);
      cause = λ clean. cause_then (g.view old) (g.view mid) (g.faults old) (g.faults mid) (g.faults new) G H e first.quiet.counts (only_writes (g.view old) (g.view mid) (first.frame (omega (arith, h.quiet.clean))).frame) wider (h.cause clean);
      schema = schema_then (g.view old) (g.view mid) (g.view new) first.schema h.schema;
      quiet = quiet_then g old mid new first.quiet h.quiet;
    }

module _ {S T U V : Type 0} {F G H : Type 0} {These : ℕ → Type 0} {x : T} (g : Ghosts S) (old mid new : S) (first : EndsOnRows g (WritesIn These) F (Ok x) old mid) where
  -- a step that succeeded, and another
  pub then_ok : {y : U} (z : V) → EndsOnRows g (WritesIn These) G (Ok y) mid new → EndsOnRows g (WritesIn These) H (Ok z) old new
  then_ok z e = goes_ok g old mid new (goes g old mid first) z e

  -- one that succeeded, and one that failed
  pub then_err : {e : StoreError} → (G → H) → EndsOnRows {T = U} g (WritesIn These) G (Err e) mid new → EndsOnRows {T = V} g (WritesIn These) H (Err e) old new
  then_err wider h = goes_err g old mid new (goes g old mid first) wider h

-- a walk that ran out of memory
pub walk_stops : {S T : Type 0} (g : Ghosts S) (old new : S) → (IsClean (g.view new) → OnlyReads (g.view old) (g.view new)) → KeepsSchema (g.view old) (g.view new) → Quiet g old new → EndsOnRows {T = T} g OnlyReads ⊥ (Err OutOfMemory) old new
walk_stops g old new frame schema quiet = record {
  frame = tt;
  sound = tt;
  told = λ kind blamed fault. absurd (cc fault);
  err = λ clean. kept_after (g.view old) (g.view new) (g.view new) (reads_writes (λ t. ⊥) (g.view old) (g.view new) (frame clean)).frame (kept_itself (g.view new));
  cause = λ clean. tt;
  schema = schema;
  quiet = quiet;
}

-- a walk whose next step failed
pub walk_fails : {S T : Type 0} (g : Ghosts S) (old mid new : S) (e : StoreError) → (IsClean (g.view mid) → OnlyReads (g.view old) (g.view mid)) → KeepsSchema (g.view old) (g.view mid) → Quiet g old mid
    → Tells (g.blamed new) e → KeepsCommitted (g.view mid) (g.view new) → (IsClean (g.view new) → HasCause (g.view mid) (MoreFaults (g.faults mid) (g.faults new)) ⊥ e) → KeepsSchema (g.view mid) (g.view new) → Quiet g mid new
    → EndsOnRows {T = T} g OnlyReads ⊥ (Err e) old new
walk_fails g old mid new e frame schema quiet told kept cause next later = record {
  frame = tt;
  sound = tt;
  told = told;
  err = λ clean. kept_after (g.view old) (g.view mid) (g.view new) (reads_writes (λ t. ⊥) (g.view old) (g.view mid) (frame (omega (arith, later.clean)))).frame kept;
  cause = λ clean. cause_then (g.view old) (g.view mid) (g.faults old) (g.faults mid) (g.faults new) ⊥ ⊥ e quiet.counts (only_reads (g.view old) (g.view mid) (frame (omega (arith, later.clean)))).0 (λ u. u) (cause clean);
  schema = schema_then (g.view old) (g.view mid) (g.view new) schema next;
  quiet = quiet_then g old mid new quiet later;
}

-- a step that succeeded, and another with any result
pub then_ends : {S T U F G H : Type 0} {These : ℕ → Type 0} {x : T} (g : Ghosts S) (old mid new : S) (r : Result U StoreError) → EndsOnRows g (WritesIn These) F (Ok x) old mid → (G → H) → EndsOnRows g (WritesIn These) G r mid new → EndsOnRows g (WritesIn These) H r old new
then_ends g old mid new (Ok y) first wider e = then_ok g old mid new first y e
then_ends g old mid new (Err e) first wider h = then_err g old mid new first wider h

-- an edit of one of the trees, with any result
pub set_ends : {S X : Type 0} (g : Ghosts S) (These : ℕ → Type 0) (tree : ℕ) (G H : Type 0) (r : Result X StoreError) (old new : S) (edit : List Row → List Row) → These tree → (G → H)
    → OnOk r (IsClean (g.view new) → SetsTree (g.view old) (g.view new) tree edit) → OnOk r (IsClean (g.view new) → OnlyWrites (g.view old) (g.view new)) → IfErr r (IsFailure (g.view old) (g.view new)) → IfErr r (Tells (g.blamed new))
    → (IsClean (g.view new) → IfErr r (HasCause (g.view old) (MoreFaults (g.faults old) (g.faults new)) G)) → KeepsSchema (g.view old) (g.view new) → Quiet g old new → EndsOnRows g (WritesIn These) H r old new
set_ends g These tree G H (Ok x) old new edit this wider set frame err told cause schema quiet = record {
  frame = λ clean. writes_set These tree (g.view old) (g.view new) edit this (frame clean) (set clean);
  sound = λ clean. (set clean).sound;
  told = tt;
  err = λ clean. tt;
  cause = λ clean. tt;
  schema = schema;
  quiet = quiet;
}
set_ends g These tree G H (Err e) old new edit this wider set frame err told cause schema quiet = record {
  frame = tt;
  sound = tt;
  told = told;
  err = λ clean. err.kept;
  cause = λ clean. cause_then (g.view old) (g.view old) (g.faults old) (g.faults old) (g.faults new) G H e (omega arith) refl wider (cause clean);
  schema = schema;
  quiet = quiet;
}
