-- What represents all that is open after one more call.
use Rattle.std.proofs.Common.{◌≡◌, ℕ, ◌+◌, ◌≤◌, ◌<◌, ◌^◌, List, [], ◌∷◌, ◌++◌, length, take, drop, Option, Some, refl, sym, ap, ◌∙◌, subst, arith, length-append, take_all, length-take-le, reverse, option_map, Result, Ok, Err, OnOk}
use Rattle.std.proofs.Math.Seq.{drop-length}
use Rattle.std.proofs.lemmas.List.{take-append-le, drop-append-le}
use Rattle.ipld_tree.specs.Tree as tree
use Rattle.ipld_tree.specs.Tree.{Tree}
use Rattle.ipld_tree.specs.Cid.{IsCid}
use Rattle.dagcbor_core.specs.Head.{head}
use Rattle.types_serde.specs.Building.{Level, state, put, put_key, put_bytes, as_link}
use Rattle.types_serde.specs.Holds.{IsGood, HoldsLevel, Opens, part, MovesTop, PutsSpelling, Lands}
use Rattle.types_serde.specs.declared.frame.Frame.{Frame}
use Rattle.dagcbor_write.specs.declared.collect.gathered.Span.{Span}
use Rattle.types_serde.specs.declared.frame.Stage.{Stage}
use Rattle.types_serde.specs.declared.frame.Stage.TheVariants as stage
use Rattle.types_serde.specs.declared.sink.Sink.{Sink}
use Rattle.types_serde.proofs.Levels.{Moves, item_put, whole_put, value_put, text_waits, name_waits, link_begun, cid_put}
use Rattle.types_serde.proofs.Leaves.{good_link}

-- what is open after the innermost that moved
abbrev pub Opened : (Level → Option Level) → Level → List Level → Frame → List Frame → List ℕ → List Span → Type 0
Opened next l ls g fs c ts = (m : Level) × (next l ≡ Some m) × Opens (m ∷ ls) (g ∷ fs) c ts

-- a beginning stays as it is
abbrev Stays : {A : Type 0} → ℕ → List A → List A → Type 0
Stays n old new = (take n new ≡ take n old) × (n ≤ length new)

grows : {A : Type 0} (n : ℕ) (xs more : List A) → n ≤ length xs → Stays n xs (xs ++ more)
grows n xs more h = (take-append-le n xs more h, omega (arith, h, length-append xs more))

-- the innermost moves, and what is around it stays as it is
pub moved : (next : Level → Option Level) (f g : Frame) (b c : List ℕ) (ss ts : List Span) → g.place ≡ f.place → g.first ≡ f.first
    → (f.place ≤ length b → Stays f.place b c) → (f.first ≤ length ss → Stays f.first ss ts)
    → (f.first ≤ length ss → Moves next (part f b (drop f.first ss)) (part g c (drop f.first ts)))
    → (l : Level) (ls : List Level) (fs : List Frame) → Opens (l ∷ ls) (f ∷ fs) b ss → Opened next l ls g fs c ts
moved next f g b c ss ts place first bytes spans moves l ls fs h =
    let m = moves h.2 l h.0 in
    let bs = bytes h.1 in
    let es = spans h.2 in
    let P : List Span → Type 0 = λ x. HoldsLevel m.0 (part g c x) in
    let Q : List ℕ → Type 0 = λ x. Opens ls fs x (take g.first ts) in
    let R : List Span → Type 0 = λ x. Opens ls fs (take f.place b) x in
    let before : take g.place c ≡ take f.place b = ap (λ n. take n c) place ∙ bs.0 in
    let listed : take g.first ts ≡ take f.first ss = ap (λ n. take n ts) first ∙ es.0 in
    (m.0, m.1, (subst P (ap (λ n. drop n ts) (sym first)) m.2, omega (arith, place, bs.1), omega (arith, first, es.1), subst Q (sym before) (subst R (sym listed) h.3)))

-- bytes are appended
pub longer : (next : Level → Option Level) (f g : Frame) (b more : List ℕ) (ss : List Span) → g.place ≡ f.place → g.first ≡ f.first → ((xs : List Span) → Moves next (part f b xs) (part g (b ++ more) xs))
    → (l : Level) (ls : List Level) (fs : List Frame) → Opens (l ∷ ls) (f ∷ fs) b ss → Opened next l ls g fs (b ++ more) ss
longer next f g b more ss place first moves = moved next f g b (b ++ more) ss ss place first (grows f.place b more) (λ h. (refl, h)) (λ h. moves (drop f.first ss))

-- the stage alone changes
pub turned : (next : Level → Option Level) (f g : Frame) (b : List ℕ) (ss : List Span) → g.place ≡ f.place → g.first ≡ f.first → ((xs : List Span) → Moves next (part f b xs) (part g b xs))
    → (l : Level) (ls : List Level) (fs : List Frame) → Opens (l ∷ ls) (f ∷ fs) b ss → Opened next l ls g fs b ss
turned next f g b ss place first moves = moved next f g b b ss ss place first (λ h. (refl, h)) (λ h. (refl, h)) (λ h. moves (drop f.first ss))

-- bytes and an entry are appended
one_entry : (next : Level → Option Level) (f g : Frame) (b more : List ℕ) (ss : List Span) (s : Span) → g.place ≡ f.place → g.first ≡ f.first → ((xs : List Span) → Moves next (part f b xs) (part g (b ++ more) (xs ++ s ∷ [])))
    → (l : Level) (ls : List Level) (fs : List Frame) → Opens (l ∷ ls) (f ∷ fs) b ss → Opened next l ls g fs (b ++ more) (ss ++ s ∷ [])
one_entry next f g b more ss s place first moves =
    let P : List Span → Type 0 = λ x. Moves next (part f b (drop f.first ss)) (part g (b ++ more) x) in
    moved next f g b (b ++ more) ss (ss ++ s ∷ []) place first (grows f.place b more) (grows f.first ss (s ∷ [])) (λ h. subst P (sym (drop-append-le f.first ss (s ∷ []) h)) (moves (drop f.first ss)))

-- an item comes
pub landed : (t : Tree) (f g : Frame) (b more : List ℕ) (ss ts : List Span) → IsGood t more → Lands f.stage (length b) (length (b ++ more)) f ss g ts → (l : Level) (ls : List Level) (fs : List Frame) → Opens (l ∷ ls) (f ∷ fs) b ss → Opened (put t) l ls g fs (b ++ more) ts
landed t f g b more ss ts good lands l ls fs h = by f.stage refl lands
  where
    P : Frame → Type 0
    P k = Opened (put t) l ls k fs (b ++ more) ts

    Q : Frame → List Span → Type 0
    Q k x = Opened (put t) l ls k fs (b ++ more) x

    by : (s : Stage) → f.stage ≡ s → Lands s (length b) (length (b ++ more)) f ss g ts → P g
    by stage.Vacant at e = subst P (sym e.0) (subst (Q (record f { stage = stage.Full })) (sym e.1) (longer (put t) f (record f { stage = stage.Full }) b more ss refl refl (λ xs. whole_put t f b more xs good at) l ls fs h))
    by stage.List at e = subst P (sym e.0) (subst (Q (record f { count = f.count + 1 })) (sym e.1) (longer (put t) f (record f { count = f.count + 1 }) b more ss refl refl (λ xs. item_put t f b more xs good at) l ls fs h))
    by stage.WantsValue at e = subst P (sym e.0) (subst (Q (record f { stage = stage.Rests })) (sym e.1) (one_entry (put t) f (record f { stage = stage.Rests }) b more ss (record { start = f.key; key_end = length b; end = length (b ++ more) }) refl refl (λ xs. value_put t f b more xs good at) l ls fs h))
    by _ at e = absurd e

-- ---- of the sink

pub stepped : (next : Level → Option Level) (old new : Sink) → new.below.items ≡ old.below.items
    → ((l : Level) (ls : List Level) → Opens (l ∷ ls) (old.top ∷ reverse old.below.items) old.bytes.items old.spans.items → Opened next l ls new.top (reverse old.below.items) new.bytes.items new.spans.items)
    → MovesTop next old new
stepped next old new same f s h =
    let m = f s.top s.around h in
    let P : List Frame → Type 0 = λ fs. Opens (m.0 ∷ s.around) (new.top ∷ reverse fs) new.bytes.items new.spans.items in
    (state m.0 s.around, ap (option_map (λ k. state k s.around)) m.1, subst P (sym same) m.2)

-- an item was appended, and came
pub item_steps : (old new : Sink) (more : List ℕ) → new.bytes.items ≡ old.bytes.items ++ more → new.below.items ≡ old.below.items
    → Lands old.top.stage (length old.bytes.items) (length new.bytes.items) old.top old.spans.items new.top new.spans.items → PutsSpelling more old new
item_steps old new more is same lands t good = stepped (put t) old new same (λ l ls h.
    let P : List ℕ → Type 0 = λ x. Lands old.top.stage (length old.bytes.items) (length x) old.top old.spans.items new.top new.spans.items in
    let Q : List ℕ → Type 0 = λ x. Opened (put t) l ls new.top (reverse old.below.items) x new.spans.items in
    subst Q (sym is) (landed t old.top new.top old.bytes.items more old.spans.items new.spans.items good (subst P is lands) l ls (reverse old.below.items) h))

-- the stage alone changed
pub stage_turned : (next : Level → Option Level) (old : Sink) (g : Frame) → g.place ≡ old.top.place → g.first ≡ old.top.first → ((xs : List Span) → Moves next (part old.top old.bytes.items xs) (part g old.bytes.items xs)) → MovesTop next old (record old { top = g })
stage_turned next old g place first moves = stepped next old (record old { top = g }) refl (λ l ls h. turned next old.top g old.bytes.items old.spans.items place first moves l ls (reverse old.below.items) h)

-- a beginning of it is as long as it is
cut : (n : ℕ) (xs : List ℕ) → n ≤ length xs → Stays n xs (take n xs)
cut n xs h = let is = length-take-le n xs h in (take_all n (take n xs) (omega (arith, is)), omega (arith, is))

pub link_steps : (old new : Sink) → old.top.stage ≡ stage.Rests → old.top.flat ≡ 0 → length old.spans.items ≡ old.top.first → new.bytes.items ≡ take old.top.place old.bytes.items → new.top ≡ record old.top { stage = stage.Link } → new.spans ≡ old.spans → new.below ≡ old.below → MovesTop as_link old new
link_steps old new at flat none is top spans below = stepped as_link old new (ap (λ v. v.items) below) (λ l ls h.
    let P : Frame → List ℕ → List Span → Type 0 = λ g c ts. Opened as_link l ls g (reverse old.below.items) c ts in
    let empty : drop old.top.first old.spans.items ≡ [] = ap (λ n. drop n old.spans.items) (sym none) ∙ drop-length old.spans.items in
    let m = moved as_link old.top (record old.top { stage = stage.Link }) old.bytes.items (take old.top.place old.bytes.items) old.spans.items old.spans.items refl refl (cut old.top.place old.bytes.items) (λ k. (refl, k)) (λ k. link_begun old.top old.bytes.items (drop old.top.first old.spans.items) at flat empty) l ls (reverse old.below.items) h in
    subst (λ g. P g new.bytes.items new.spans.items) (sym top) (subst (λ c. P (record old.top { stage = stage.Link }) c new.spans.items) (sym is) (subst (λ v. P (record old.top { stage = stage.Link }) (take old.top.place old.bytes.items) v.items) (sym spans) m)))

pub cid_steps : (old new : Sink) (cid : List ℕ) → old.top.stage ≡ stage.Link → length cid + 1 < 2 ^ 64 → IsCid cid → new.bytes.items ≡ old.bytes.items ++ (head 6 42 ++ (head 2 (length cid + 1) ++ 0x00 ∷ cid)) → new.top ≡ record old.top { stage = stage.Linked } → new.spans ≡ old.spans → new.below ≡ old.below → MovesTop (put_bytes cid) old new
cid_steps old new cid at fits good is top spans below = stepped (put_bytes cid) old new (ap (λ v. v.items) below) (λ l ls h.
    let P : Frame → List ℕ → List Span → Type 0 = λ g c ts. Opened (put_bytes cid) l ls g (reverse old.below.items) c ts in
    let more = head 6 42 ++ (head 2 (length cid + 1) ++ 0x00 ∷ cid) in
    let m = longer (put_bytes cid) old.top (record old.top { stage = stage.Linked }) old.bytes.items more old.spans.items refl refl (λ xs. cid_put old.top old.bytes.items xs cid more at (good_link cid fits good)) l ls (reverse old.below.items) h in
    subst (λ g. P g new.bytes.items new.spans.items) (sym top) (subst (λ c. P (record old.top { stage = stage.Linked }) c new.spans.items) (sym is) (subst (λ v. P (record old.top { stage = stage.Linked }) (old.bytes.items ++ more) v.items) (sym spans) m)))

-- a key was appended, and waits
key_steps : (next : Level → Option Level) (old new : Sink) (more : List ℕ) → ((xs : List Span) → Moves next (part old.top old.bytes.items xs) (part (record old.top { stage = stage.WantsValue; key = length old.bytes.items }) (old.bytes.items ++ more) xs)) → new.top ≡ record old.top { stage = stage.WantsValue; key = length old.bytes.items } → new.bytes.items ≡ old.bytes.items ++ more → (new.spans ≡ old.spans) × (new.below ≡ old.below) → MovesTop next old new
key_steps next old new more moves top is same = stepped next old new (ap (λ v. v.items) same.1) (λ l ls h.
    let g : Frame = record old.top { stage = stage.WantsValue; key = length old.bytes.items } in
    let P : Frame → List ℕ → List Span → Type 0 = λ k c ts. Opened next l ls k (reverse old.below.items) c ts in
    let m = longer next old.top g old.bytes.items more old.spans.items refl refl moves l ls (reverse old.below.items) h in
    subst (λ k. P k new.bytes.items new.spans.items) (sym top) (subst (λ c. P g c new.spans.items) (sym is) (subst (λ v. P g (old.bytes.items ++ more) v.items) (sym same.0) m)))

-- what is put is what is meant
pub steps_as : (f g : Level → Option Level) (old new : Sink) → ((l : Level) → HoldsLevel l (part old.top old.bytes.items (drop old.top.first old.spans.items)) → f l ≡ g l) → MovesTop f old new → MovesTop g old new
steps_as f g old new same m s h =
    let t = m s h in
    (t.0, ap (option_map (λ k. state k s.around)) (sym (same s.top h.0)) ∙ t.1, t.2)

-- ---- if a call succeeds

module _ {T E : Type 0} (old new : Sink) where
  pub puts_good : (r : Result T E) (b : List ℕ) (t : Tree) → OnOk r (PutsSpelling b old new) → IsGood t b → OnOk r (MovesTop (put t) old new)
  puts_good (Ok u) b t h g = h t g
  puts_good (Err e) b t h g = tt

  pub moves_as : (r : Result T E) (f g : Level → Option Level) → ((l : Level) → HoldsLevel l (part old.top old.bytes.items (drop old.top.first old.spans.items)) → f l ≡ g l) → OnOk r (MovesTop f old new) → OnOk r (MovesTop g old new)
  moves_as (Ok u) f g k h = steps_as f g old new k h
  moves_as (Err e) f g k h = tt

  pub ok_then : (r : Result T E) {A B : Type 0} → (A → B) → OnOk r A → OnOk r B
  ok_then (Ok u) f h = f h
  ok_then (Err e) f h = tt

  pub lands_ok : (r : Result T E) (more out : List ℕ) (from : ℕ) → from ≡ length old.bytes.items → out ≡ old.bytes.items ++ more → new.bytes.items ≡ out → new.below.items ≡ old.below.items → OnOk r (Lands old.top.stage from (length out) old.top old.spans.items new.top new.spans.items) → OnOk r (PutsSpelling more old new)
  lands_ok (Err e) more out from at is all same lands = tt
  lands_ok (Ok u) more out from at is all same lands =
      let P : ℕ → ℕ → Type 0 = λ m n. Lands old.top.stage m n old.top old.spans.items new.top new.spans.items in
      item_steps old new more (all ∙ is) same (subst (λ m. P m (length new.bytes.items)) at (subst (P from) (ap length (sym all)) lands))

  pub text_wait : (r : Result T E) (k more : List ℕ) → IsGood (tree.text k) more → old.top.stage ≡ stage.WantsKey → OnOk r (new.top ≡ record old.top { stage = stage.WantsValue; key = length old.bytes.items }) → OnOk r (new.bytes.items ≡ old.bytes.items ++ more) → (new.spans ≡ old.spans) × (new.below ≡ old.below) → OnOk r (MovesTop (put (tree.text k)) old new)
  text_wait (Ok u) k more good at top is same = key_steps (put (tree.text k)) old new more (λ xs. text_waits k old.top old.bytes.items more xs good at) top is same
  text_wait (Err e) k more good at top is same = tt

  pub name_wait : (r : Result T E) (k more : List ℕ) → IsGood (tree.text k) more → old.top.stage ≡ stage.Rests → OnOk r (new.top ≡ record old.top { stage = stage.WantsValue; key = length old.bytes.items }) → OnOk r (new.bytes.items ≡ old.bytes.items ++ more) → (new.spans ≡ old.spans) × (new.below ≡ old.below) → OnOk r (MovesTop (put_key k) old new)
  name_wait (Ok u) k more good at top is same = key_steps (put_key k) old new more (λ xs. name_waits k old.top old.bytes.items more xs good at) top is same
  name_wait (Err e) k more good at top is same = tt
