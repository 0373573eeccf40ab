-- The blocks of a file, held in memory.
use Rattle.std.specs.Bool.{⊤}
use Rattle.std.proofs.Common.{◌≡◌, inl, inr, ℕ, List, [], ◌∷◌, ◌++◌, Bool, true, false, cond, refl, sym, ap, ◌∙◌, subst, Option, None, Some, is_some, option_map, Result, Ok, Err, OnOk, Vec, BTreeMap, Global}
use Rattle.std.specs.Map.{lookup}
use Rattle.std.specs.BTreeMap.{is_at, get}
use Rattle.std.specs.declared.convert.Infallible.{Infallible}
use Rattle.std.specs.declared.alloc.AllocError.{AllocError}
use Rattle.ipld_tree.specs.Cid.{CidParts, cid_cmp}
use Rattle.dagcbor_items.specs.Walks.{forms}
use Rattle.files_car.specs.Car.{Section}
use Rattle.files_car.specs.Each.{SinkTakes}
use Rattle.files_car.specs.Versions.{IsFile}
use Rattle.files_car.specs.declared.error.CarError.{CarError}
use Rattle.ipld_links.specs.Sets.{Among}
use Rattle.ipld_links.specs.Verdicts.{IsVerified}
use Rattle.ipld_links.specs.Reaching.{Stored, stored_in, IsThere}
use Rattle.ipld_links.proofs.Members.{at_same, same_at, among_push, push_among}
use Rattle.program_parts.specs.Lines.{refused_line}
use Rattle.program_parts.specs.Taking.{TookEach, FaultAfter, TellsNotBegun, TakesAll}
use Rattle.program_parts.specs.Holding.{TellsFault, IsKeptSection, Stores, IsBest, Replaces, Yields, KeepsNext}
use Rattle.program_parts.proofs.Taking.{took_knows}
use Rattle.program_parts.specs.declared.holding.Kept.{Kept}
use Rattle.program_parts.specs.declared.holding.Kept.TheVariants as which
use Rattle.program_parts.specs.declared.holding.Holding.{Holding}
use Rattle.program_parts.specs.declared.take.Ended.{Ended}
use Rattle.program_parts.specs.declared.take.Ended.TheVariants as ended

-- ---- faults

pub fault_told : {S Stop : Type 0} (takes : SinkTakes S Stop) (IsSo : List Section → Type 0) (b told : List ℕ) (roots : List (List ℕ)) (old new : S) (e : CarError Infallible) (h : FaultAfter takes roots b old e new) → IsSo h.first.sections → told ≡ refused_line e → TellsFault IsSo b told
fault_told takes IsSo b told roots old new e h is tells = (e, (h.none, inr (roots, h.first.sections, h.first.wanting, h.first.rest, h.first.front, is, h.refuses)), tells)

pub start_told : (IsSo : List Section → Type 0) (b : List ℕ) (Stop : Type 0) (v : Vec ℕ Global) → TellsNotBegun {Stop = Stop} b (ended.Fault v) → TellsFault IsSo b v.items
start_told IsSo b Stop v h = (h.0, (h.1, inl h.2), h.3)

-- ---- the blocks held

-- what holds if a call succeeded
pub on_ok : {A E : Type 0} {P Q : Type 0} (r : Result A E) → OnOk r P → (P → Q) → OnOk r Q
on_ok (Ok a) h f = f h
on_ok (Err e) h f = tt

pub stores_none : (kept : Kept) (blocks : BTreeMap CidParts (Vec ℕ Global)) → blocks.entries ≡ [] → Stores kept [] (stored_in blocks)
stores_none kept blocks none = record {
  some = λ q b e. let free : lookup (is_at (cid_cmp q)) blocks.entries ≡ None = ap (λ es. lookup (is_at (cid_cmp q)) es) none in absurd (nothing (sym (ap (option_map (λ (v : Vec ℕ Global). v.items)) free) ∙ e));
  all = λ s m. absurd m;
  named = λ s m. absurd m;
}
  where
    nothing : {b : List ℕ} → None ≡ Some b → ⊥
    nothing e = cc e

good_named : (kept : Kept) (s : Section) → IsBest kept s → IsVerified s
good_named which.All s good = good
good_named which.Verified s good = good.1

good_kept : (kept : Kept) (s : Section) → IsBest kept s → IsKeptSection kept s
good_kept which.All s good = tt
good_kept which.Verified s good = good

module _ (kept : Kept) (old new : Stored) (name : CidParts) (block : List ℕ) (sections : List Section) (h : Stores kept sections old) where
  -- the section's bytes are held under its CID
  stores_put : ((q : CidParts) → new q ≡ cond (is_at (cid_cmp name) q) (Some block) (old q)) → IsKeptSection kept (name, block) → ((t : Section) → Among t sections → IsVerified t → t.0 ≡ name → IsVerified (name, block)) → Stores kept (sections ++ (name, block) ∷ []) new
  stores_put put is best = record {
    some = λ q b e. found q b (is_at (cid_cmp name) q) refl (sym (put q) ∙ e);
    all = λ t m k. elim (among_push t sections (name, block) m) [
      | inl o ↦ there t.0 (is_at (cid_cmp name) t.0) (h.all t o k)
      | inr e ↦ there_named t.0 (ap (λ (p : Section). p.0) e)
    ];
    named = λ t m good b e. as_good t m good b (is_at (cid_cmp name) t.0) refl (sym (put t.0) ∙ e);
  }
    where
      found : (q : CidParts) (b : List ℕ) (t : Bool) → is_at (cid_cmp name) q ≡ t → cond t (Some block) (old q) ≡ Some b → Among (q, b) (sections ++ (name, block) ∷ []) × IsKeptSection kept (q, b)
      found q b true t e =
          let bytes : block ≡ b = cc e in
          let same : (q, b) ≡ (name, block) = λ i. (sym (at_same name q t) i, sym bytes i) in
          (push_among (q, b) sections (name, block) (inr same), subst (IsKeptSection kept) (sym same) is)
      found q b false t e = let k = h.some q b e in (push_among (q, b) sections (name, block) (inl k.0), k.1)

      there_by : (q : CidParts) (t : Bool) → is_some (old q) ≡ true → is_some (cond t (Some block) (old q)) ≡ true
      there_by q true e = refl
      there_by q false e = e

      there : (q : CidParts) (t : Bool) → is_some (old q) ≡ true → is_some (new q) ≡ true
      there q t e = ap is_some (put q) ∙ there_by q (is_at (cid_cmp name) q) e

      there_named : (q : CidParts) → q ≡ name → is_some (new q) ≡ true
      there_named q e = ap is_some (put q ∙ ap (λ b. cond b (Some block) (old q)) (same_at name q (sym e)))

      as_good : (t : Section) → Among t (sections ++ (name, block) ∷ []) → IsVerified t → (b : List ℕ) (a : Bool) → is_at (cid_cmp name) t.0 ≡ a → cond a (Some block) (old t.0) ≡ Some b → IsVerified (t.0, b)
      as_good t m good b true at e =
          let bytes : block ≡ b = cc e in
          let here : t.0 ≡ name = sym (at_same name t.0 at) in
          let same : (name, block) ≡ (t.0, b) = λ i. (sym here i, bytes i) in
          let is_so : IsVerified (name, block) = elim (among_push t sections (name, block) m) [ inl o ↦ best t o good here | inr is ↦ subst IsVerified is good ] in
          subst IsVerified same is_so
      as_good t m good b false at e = elim (among_push t sections (name, block) m) [
        | inl o ↦ h.named t o good b e
        | inr is ↦ absurd (let clash : true ≡ false = sym (same_at name t.0 (sym (ap (λ (p : Section). p.0) is))) ∙ at in cc clash)
      ]

  -- what is stored stays as it is
  stores_same : ((q : CidParts) → new q ≡ old q) → (IsKeptSection kept (name, block) → IsThere old name) → (IsVerified (name, block) → (b : List ℕ) → old name ≡ Some b → IsVerified (name, b)) → Stores kept (sections ++ (name, block) ∷ []) new
  stores_same same there better = record {
    some = λ q b e. let k = h.some q b (sym (same q) ∙ e) in (push_among (q, b) sections (name, block) (inl k.0), k.1);
    all = λ t m k. ap is_some (same t.0) ∙ elim (among_push t sections (name, block) m) [
      | inl o ↦ h.all t o k
      | inr e ↦ subst (λ (p : Section). IsThere old p.0) (sym e) (there (subst (IsKeptSection kept) e k))
    ];
    named = λ t m good b e. elim (among_push t sections (name, block) m) [
      | inl o ↦ h.named t o good b (sym (same t.0) ∙ e)
      | inr is ↦ subst (λ (p : Section). old p.0 ≡ Some b → IsVerified (p.0, b)) (sym is) (better (subst IsVerified is good) b) (sym (same t.0) ∙ e)
    ];
  }

-- ---- one more block

module _ (kept : Kept) (old : BTreeMap CidParts (Vec ℕ Global)) (name : CidParts) (block : List ℕ) (held : Option (List ℕ)) (stands : held ≡ stored_in old name) where
  -- if no bytes were held, no section had bytes that match the CID
  none_named : (k : Kept) (sections : List Section) → Stores k sections (stored_in old) → held ≡ None → IsKeptSection k (name, block) → (t : Section) → Among t sections → IsVerified t → t.0 ≡ name → IsVerified (name, block)
  none_named which.Verified sections h free is t m good e = is.1
  none_named which.All sections h free is t m good e =
      let none : stored_in old t.0 ≡ None = ap (stored_in old) e ∙ sym stands ∙ free in
      absurd (let clash : true ≡ false = sym (h.all t m tt) ∙ ap is_some none in cc clash)

  -- why no other section with this CID is better
  best : (sections : List Section) → Stores kept sections (stored_in old) → Replaces kept held (name, block) → (t : Section) → Among t sections → IsVerified t → t.0 ≡ name → IsVerified (name, block)
  best sections h (inl good) t m is e = good_named kept (name, block) good
  best sections h (inr free) t m is e = none_named kept sections h free.0 free.1 t m is e

  is_kept : Replaces kept held (name, block) → IsKeptSection kept (name, block)
  is_kept (inl good) = good_kept kept (name, block) good
  is_kept (inr free) = free.1

  -- the bytes held are as good
  as_named : (k : Kept) (sections : List Section) → Stores k sections (stored_in old) → (IsBest k (name, block) → ⊥) → IsVerified (name, block) → (b : List ℕ) → stored_in old name ≡ Some b → IsVerified (name, b)
  as_named which.All sections h other is b e = absurd (other is)
  as_named which.Verified sections h other is b e = (h.some name b e).1.1

  pub kept_there : (new : BTreeMap CidParts (Vec ℕ Global)) (v : Vec ℕ Global) → v.items ≡ block → ((q : CidParts) → get cid_cmp new q ≡ cond (is_at (cid_cmp name) q) (Some v) (get cid_cmp old q)) → Replaces kept held (name, block) → (sections : List Section) → Stores kept sections (stored_in old) → Stores kept (sections ++ (name, block) ∷ []) (stored_in new)
  kept_there new v bytes put replaces sections h = stores_put kept (stored_in old) (stored_in new) name block sections h
      (subst (λ b. (q : CidParts) → stored_in new q ≡ cond (is_at (cid_cmp name) q) (Some b) (stored_in old q)) bytes stored)
      (is_kept replaces) (best sections h replaces)
    where
      by : (q : CidParts) (t : Bool) → option_map (λ (w : Vec ℕ Global). w.items) (cond t (Some v) (get cid_cmp old q)) ≡ cond t (Some v.items) (stored_in old q)
      by q true = refl
      by q false = refl

      stored : (q : CidParts) → stored_in new q ≡ cond (is_at (cid_cmp name) q) (Some v.items) (stored_in old q)
      stored q = ap (option_map (λ (w : Vec ℕ Global). w.items)) (put q) ∙ by q (is_at (cid_cmp name) q)

  pub kept_before : Yields kept held (name, block) → (sections : List Section) → Stores kept sections (stored_in old) → Stores kept (sections ++ (name, block) ∷ []) (stored_in old)
  kept_before yields sections h = stores_same kept (stored_in old) (stored_in old) name block sections h (λ q. refl) (there yields) (better yields)
    where
      there : Yields kept held (name, block) → IsKeptSection kept (name, block) → IsThere (stored_in old) name
      there (inl same) is = ap is_some (sym stands ∙ same)
      there (inr other) is = ap is_some (sym stands) ∙ other.1 is

      better : Yields kept held (name, block) → IsVerified (name, block) → (b : List ℕ) → stored_in old name ≡ Some b → IsVerified (name, b)
      better (inl same) is b e = let bytes : block ≡ b = cc (sym same ∙ stands ∙ e) in subst (λ w. IsVerified (name, w)) bytes is
      better (inr other) is b e = as_named kept sections h other.0 is b e

-- each section taken is one more
pub held_each : (kept : Kept) (done more : List Section) (old new : Holding) → old.kept ≡ kept → Stores kept done (stored_in old.blocks) → TookEach KeepsNext old more new → Stores kept (done ++ more) (stored_in new.blocks)
held_each kept done more old new is h t = (took_knows KeepsNext (λ it ss. (it.kept ≡ kept) × Stores kept ss (stored_in it.blocks)) next done more old new (is, h) t).1
  where
    next : (s : Section) (old new : Holding) (done : List Section) → (old.kept ≡ kept) × Stores kept done (stored_in old.blocks) → KeepsNext s old (Ok tt) new → (new.kept ≡ kept) × Stores kept (done ++ s ∷ []) (stored_in new.blocks)
    next s old new done h k = (k.0 ∙ h.0, subst (λ w. Stores w done (stored_in old.blocks) → Stores w (done ++ s ∷ []) (stored_in new.blocks)) h.0 (k.1 done) h.1)

-- how far the file with these roots goes, whose blocks are held
abbrev pub HeldOf : {E : Type 0} → Kept → List ℕ → Vec CidParts Global → Ended E → Holding → Type 0
HeldOf kept b roots ended.Whole new = (sections : List Section) × IsFile b (forms roots.items) sections
    × Stores kept sections (stored_in new.blocks)
HeldOf kept b roots (ended.Stopped stop) new = ⊤
HeldOf kept b roots (ended.Fault line) new = TellsFault (λ ss. ⊤) b line.items

pub held_of : (b : List ℕ) (old new : Holding) (roots : Vec CidParts Global) (e : Ended AllocError) → old.blocks.entries ≡ [] → TakesAll KeepsNext b old (roots, e) new → HeldOf old.kept b roots e new
held_of b old new roots (ended.Fault line) none (inl h) = start_told (λ ss. ⊤) b AllocError line h.0
held_of b old new roots ended.Whole none (inl h) = absurd h.0
held_of b old new roots (ended.Stopped stop) none (inl h) = absurd h.0
held_of b old new roots (ended.Fault line) none (inr h) = fault_told KeepsNext (λ ss. ⊤) b line.items (forms roots.items) old new h.0 h.1 tt h.2
held_of b old new roots ended.Whole none (inr h) = (h.sections, h.file, held_each old.kept [] h.sections old new refl (stores_none old.kept old.blocks none) h.took)
held_of b old new roots (ended.Stopped stop) none (inr h) = tt
