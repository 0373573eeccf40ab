-- What begins, ends and is finished.
use Rattle.std.proofs.Common.{◌≡◌, ℕ, zero, suc, ◌+◌, ◌-◌, ◌<◌, ◌≤◌, ◌^◌, List, [], ◌∷◌, ◌++◌, length, map, take, drop, get_or, Option, None, Some, Bool, true, false, refl, sym, ap, ap₂, ◌∙◌, subst, arith, length-append, append-nil, append_assoc, add-one, drop-cons, drop_of_length-le, take-append-drop, take_all, length-take-le, length-drop, drop_at, IfSome, reverse, option_map, All, flat_map}
use Rattle.std.proofs.Math.Seq.{take-append_seam, take-length, drop-length}
use Rattle.std.proofs.lemmas.List.{reverse-append, length-map, take-append-le}
use Rattle.std.proofs.lemmas.List.Sorted.{IsPermutation-refl}
use Rattle.std.specs.Fmt.{◌++?◌}
use Rattle.dagcbor_core.specs.Head.{head}
use Rattle.ipld_tree.specs.Tree.{Tree, list, link, IsTree, items_of, entries_tree}
use Rattle.ipld_tree.specs.Spelling.{item_count}
use Rattle.ipld_tree.specs.Spelled.{spelled, spelled_items, spelled_tree, spelled_head}
use Rattle.dagcbor_write.specs.Trees.{Pair}
use Rattle.dagcbor_write.specs.Order.{PutsInOrder, entries_bytes}
use Rattle.dagcbor_write.proofs.Mapping.{in_order}
use Rattle.dagcbor_write.proofs.Spelling.{head_is_spelled}
use Rattle.types_serde.specs.Building.{Level, whole, in_list, in_map, in_link, rests, for_key, for_value, for_map, State, state, begin, begin_map, close, ended_list, close_map}
use Rattle.types_serde.specs.Holds.{IsGood, HoldsLevel, HoldsEntries, PutsEntries, PutsEach, AreInOrder, Opens, HoldsAll, part, StepsBy, Lands, BeginsStage}
use Rattle.dagcbor_write.specs.Spans.{whole_at, IsWithin, entry_at}
use Rattle.types_serde.specs.declared.frame.Frame.{Frame}
use Rattle.dagcbor_write.specs.declared.collect.gathered.Span.{Span}
use Rattle.types_serde.specs.declared.frame.Stage.TheVariants as stage
use Rattle.types_serde.specs.declared.sink.Sink.{Sink}
use Rattle.types_serde.proofs.AtStages.{at_stage}
use Rattle.types_serde.proofs.Opening.{landed}
use Rattle.types_serde.proofs.Spans.{entries_are}

-- ---- a run of entries

pub pushed_on : (f : Span → List ℕ) (ss : List Span) (i : ℕ) (d : Span) (x y w : List ℕ) → i < length ss → x ++ flat_map f (drop i ss) ≡ w → y ≡ x ++ f (get_or ss i d) → y ++ flat_map f (drop (i + 1) ss) ≡ w
pushed_on f ss i d x y w h e g =
    let begins : drop i ss ≡ get_or ss i d ∷ drop (i + 1) ss = rw add-one (drop-cons ss i d h) in
    ap (λ k. k ++ flat_map f (drop (i + 1) ss)) g ∙ append_assoc x (f (get_or ss i d)) (flat_map f (drop (i + 1) ss)) ∙ ap (λ k. x ++ flat_map f k) (sym begins) ∙ e

pub all_pushed : (f : Span → List ℕ) (ss : List Span) (i : ℕ) (x w : List ℕ) → length ss ≤ i → x ++ flat_map f (drop i ss) ≡ w → x ≡ w
all_pushed f ss i x w h e = sym (append-nil x) ∙ ap (λ k. x ++ flat_map f k) (sym (drop_of_length-le ss h)) ∙ e

-- entries that are in order stay as they are
pub kept_order : (place : ℕ) (b : List ℕ) (ss : List Span) → (All (IsWithin (length b)) ss → AreInOrder (map (entry_at b) ss)) → PutsEach place b ss b (length ss)
kept_order place b ss order ps h =
    let o = order h.1 in
    let es = map (entry_at b) ss in
    (es, (IsPermutation-refl es, o.0, o.1), sym (take-append-drop (place + 1) b) ∙ ap (λ x. take (place + 1) b ++ x) (sym h.2 ∙ entries_are b ss h.1), sym (length-map ss (entry_at b)))

-- others are put in order
pub sorted_order : (place : ℕ) (b c : List ℕ) (ss sorted : List Span) → (All (IsWithin (length b)) ss → PutsInOrder (map (entry_at b) ss) (map (entry_at b) sorted) true) → (All (IsWithin (length b)) ss → All (IsWithin (length b)) sorted) → length sorted ≡ length ss → c ≡ take (place + 1) b ++ flat_map (whole_at b) sorted → PutsEach place b ss c (length ss)
sorted_order place b c ss sorted order within count is ps h =
    (map (entry_at b) sorted, order h.1, is ∙ ap (λ x. take (place + 1) b ++ x) (entries_are b sorted (within h.1)), sym count ∙ sym (length-map sorted (entry_at b)))

-- the spans from an index on, as a slice of all
pub rest_from : (n : ℕ) (xs ys : List Span) → xs ≡ ys → take (length xs - n) (drop n xs) ≡ drop n ys
rest_from n xs ys is = take_all (length xs - n) (drop n xs) (omega (arith, length-drop n xs)) ∙ ap (drop n) is

-- the spans that a call was handed are within the bytes, and in order
pub kept_by : (place : ℕ) (b x : List ℕ) (ss given : List Span) → x ≡ b → given ≡ ss → (All (IsWithin (length x)) given → AreInOrder (map (entry_at x) given)) → PutsEach place b ss b (length ss)
kept_by place b x ss given is same order =
    let P : List ℕ → List Span → Type 0 = λ y ts. All (IsWithin (length y)) ts → AreInOrder (map (entry_at y) ts) in
    kept_order place b ss (subst (P b) same (subst (λ y. P y given) is order))

pub sorted_by : (place : ℕ) (b c x : List ℕ) (ss given sorted : List Span) (r : Bool) → x ≡ b → given ≡ ss → r ≡ true → (All (IsWithin (length x)) given → PutsInOrder (map (entry_at x) given) (map (entry_at x) sorted) r) → (All (IsWithin (length x)) given → All (IsWithin (length x)) sorted) → length sorted ≡ length given → c ≡ take (place + 1) b ++ flat_map (whole_at b) sorted → PutsEach place b ss c (length ss)
sorted_by place b c x ss given sorted r is same differ order within count out =
    let P : List ℕ → List Span → Bool → Type 0 = λ y ts k. All (IsWithin (length y)) ts → PutsInOrder (map (entry_at y) ts) (map (entry_at y) sorted) k in
    let Q : List ℕ → List Span → Type 0 = λ y ts. All (IsWithin (length y)) ts → All (IsWithin (length y)) sorted in
    sorted_order place b c ss sorted (subst (P b ss) differ (subst (λ ts. P b ts r) same (subst (λ y. P y given r) is order))) (subst (Q b) same (subst (λ y. Q y given) is within)) (count ∙ ap length same) out

-- ---- beginnings

module _ (old new : Sink) where
  -- what was open stays as it was
  around : (f : Frame) → f.place ≡ length old.bytes.items → f.first ≡ length old.spans.items → new.bytes.items ≡ old.bytes.items ++ 0x00 ∷ [] → new.spans.items ≡ old.spans.items → new.below.items ≡ old.below.items ++ old.top ∷ [] → (ls : List Level) → Opens ls (old.top ∷ reverse old.below.items) old.bytes.items old.spans.items
      → Opens ls (reverse new.below.items) (take f.place new.bytes.items) (take f.first new.spans.items)
  around f place first bytes spans below ls h =
      let P : List Frame → Type 0 = λ fs. Opens ls fs (take f.place new.bytes.items) (take f.first new.spans.items) in
      let Q : List ℕ → Type 0 = λ x. Opens ls (old.top ∷ reverse old.below.items) x (take f.first new.spans.items) in
      let R : List Span → Type 0 = λ x. Opens ls (old.top ∷ reverse old.below.items) old.bytes.items x in
      let before : take f.place new.bytes.items ≡ old.bytes.items = ap₂ (λ n x. take n x) place bytes ∙ take-append_seam old.bytes.items (0x00 ∷ []) in
      let listed : take f.first new.spans.items ≡ old.spans.items = ap₂ (λ n x. take n x) first spans ∙ take-length old.spans.items in
      let order : reverse new.below.items ≡ old.top ∷ reverse old.below.items = ap (λ fs. reverse fs) below ∙ reverse-append old.below.items (old.top ∷ []) in
      subst P (sym order) (subst Q (sym before) (subst R (sym listed) h))

  begun : (b : BeginsStage new.top.stage old new) (l : Level) → HoldsLevel l (part new.top new.bytes.items []) → (ls : List Level) → Opens ls (old.top ∷ reverse old.below.items) old.bytes.items old.spans.items
      → Opens (l ∷ ls) (new.top ∷ reverse new.below.items) new.bytes.items new.spans.items
  begun b l held ls h =
      let place : new.top.place ≡ length old.bytes.items = ap (λ (f : Frame). f.place) b.top in
      let first : new.top.first ≡ length old.spans.items = ap (λ (f : Frame). f.first) b.top in
      let P : List Span → Type 0 = λ x. HoldsLevel l (part new.top new.bytes.items x) in
      let none : drop new.top.first new.spans.items ≡ [] = ap₂ (λ n x. drop n x) first b.spans ∙ drop-length old.spans.items in
      (subst P (sym none) held, omega (arith, place, ap length b.bytes, length-append old.bytes.items (0x00 ∷ [])), omega (arith, first, ap length b.spans), around new.top place first b.bytes b.spans b.below ls h)

  -- nothing follows the byte of a head
  nothing : (f : Frame) → f.place ≡ length old.bytes.items → new.bytes.items ≡ old.bytes.items ++ 0x00 ∷ [] → drop (f.place + 1) new.bytes.items ≡ []
  nothing f place bytes = drop_of_length-le new.bytes.items (omega (arith, place, ap length bytes, length-append old.bytes.items (0x00 ∷ [])))

  inside : (f : Frame) → f.place ≡ length old.bytes.items → new.bytes.items ≡ old.bytes.items ++ 0x00 ∷ [] → f.place < length new.bytes.items
  inside f place bytes = omega (arith, place, ap length bytes, length-append old.bytes.items (0x00 ∷ []))

  pub list_begun : BeginsStage stage.List old new → StepsBy (begin (in_list [])) old new
  unfolding spelled
  list_begun b s h =
      let at : new.top.stage ≡ stage.List = ap (λ (f : Frame). f.stage) b.top in
      let place : new.top.place ≡ length old.bytes.items = ap (λ (f : Frame). f.place) b.top in
      let held : HoldsLevel (in_list []) (part new.top new.bytes.items []) = (at, ap (λ (f : Frame). f.count) b.top, ap Some (sym (nothing new.top place b.bytes)), tt, inside new.top place b.bytes, refl) in
      (state (in_list []) (s.top ∷ s.around), refl, begun (subst (λ k. BeginsStage k old new) (sym at) b) (in_list []) held (s.top ∷ s.around) h)

  pub map_begun : (old.top.stage ≡ stage.WantsMap → ⊥) → BeginsStage stage.Rests old new → StepsBy (λ s. begin_map s.top s.around) old new
  map_begun n b s h = by s.top s.around h
    where
      at : new.top.stage ≡ stage.Rests
      at = ap (λ (f : Frame). f.stage) b.top

      place : new.top.place ≡ length old.bytes.items
      place = ap (λ (f : Frame). f.place) b.top

      entries : HoldsEntries [] new.top.place new.bytes.items []
      entries = (tt, λ k d i. absurd (omega (arith, i)), sym (nothing new.top place b.bytes), inside new.top place b.bytes)

      held : HoldsLevel (in_map [] rests 0) (part new.top new.bytes.items [])
      held = ((at, entries), ap (λ (f : Frame). f.flat) b.top)

      all : (l : Level) (ls : List Level) → Opens (l ∷ ls) (old.top ∷ reverse old.below.items) old.bytes.items old.spans.items → HoldsAll (state (in_map [] rests 0) (l ∷ ls)) new
      all l ls p = begun (subst (λ k. BeginsStage k old new) (sym at) b) (in_map [] rests 0) held (l ∷ ls) p

      by : (l : Level) (ls : List Level) → Opens (l ∷ ls) (old.top ∷ reverse old.below.items) old.bytes.items old.spans.items → (t : State) × (begin_map l ls ≡ Some t) × HoldsAll t new
      by (whole o) ls p = (_, refl, all (whole o) ls p)
      by (in_list ts) ls p = (_, refl, all (in_list ts) ls p)
      by (in_map ps rests k) ls p = (_, refl, all (in_map ps rests k) ls p)
      by (in_map ps for_key k) ls p = (_, refl, all (in_map ps for_key k) ls p)
      by (in_map ps (for_value v) k) ls p = (_, refl, all (in_map ps (for_value v) k) ls p)
      by (in_map ps for_map k) ls p = absurd (n p.0.0.0)
      by (in_link o) ls p = (_, refl, all (in_link o) ls p)

  -- the innermost map alone changes: it gives its entries to the one around it, or no longer
  pub flat_begun : old.top.stage ≡ stage.WantsMap → (flat : ℕ) → flat ≡ old.top.flat + 1 → new ≡ record old { top = record old.top { stage = stage.Rests; flat = flat } } → StepsBy (λ s. begin_map s.top s.around) old new
  flat_begun at flat more is s h =
      let P : Sink → Type 0 = λ k. (t : State) × (begin_map s.top s.around ≡ Some t) × HoldsAll t k in
      subst P (sym is) (at_stage stage.WantsMap (part old.top old.bytes.items (drop old.top.first old.spans.items)) (λ l. (t : State) × (begin_map l s.around ≡ Some t) × HoldsAll t (record old { top = record old.top { stage = stage.Rests; flat = flat } })) at (λ ps n held.
      (state (in_map ps rests (suc n)) s.around, refl, (((refl, held.0.1), omega (arith, more, held.1)), h.1, h.2, h.3))) s.top h.0)

  pub flat_ended : old.top.stage ≡ stage.Rests → (flat : ℕ) → old.top.flat ≡ flat + 1 → new ≡ record old { top = record old.top { flat = flat } } → StepsBy (λ s. close_map s.top s.around) old new
  flat_ended at flat less is s h =
      let P : Sink → Type 0 = λ k. (t : State) × (close_map s.top s.around ≡ Some t) × HoldsAll t k in
      subst P (sym is) (at_stage stage.Rests (part old.top old.bytes.items (drop old.top.first old.spans.items)) (λ l. (t : State) × (close_map l s.around ≡ Some t) × HoldsAll t (record old { top = record old.top { flat = flat } })) at (λ ps n held. by ps n held.0 (sym held.1 ∙ less)) s.top h.0)
    where
      by : (ps : List Pair) (n : ℕ) → (old.top.stage ≡ stage.Rests) × HoldsEntries ps old.top.place old.bytes.items (drop old.top.first old.spans.items) → n ≡ flat + 1 → (t : State) × (close_map (in_map ps rests n) s.around ≡ Some t) × HoldsAll t (record old { top = record old.top { flat = flat } })
      by ps zero e m = absurd (omega (arith, m))
      by ps (suc n) e m = (state (in_map ps rests n) s.around, refl, ((e, omega (arith, m)), h.1, h.2, h.3))

-- ---- ends

-- The innermost level was left, and its item came to the level around it: its bytes come after
-- those before it.
pub record Left (old new : Sink) (item : List ℕ) : Type 0 where
  pub around : Frame
  pub below : List Frame
  pub left : old.below.items ≡ below ++ around ∷ []
  pub kept : new.below.items ≡ below
  pub spans : List Span
  pub listed : spans ≡ take old.top.first old.spans.items
  pub bytes : new.bytes.items ≡ take old.top.place old.bytes.items ++ item
  pub lands : Lands around.stage old.top.place (length new.bytes.items) around spans new.top new.spans.items

-- its tree is an item of what is around it
closed : (t : Tree) (item : List ℕ) (old new : Sink) (ls : List Level) → IsGood t item → Left old new item → old.top.place ≤ length old.bytes.items → Opens ls (reverse old.below.items) (take old.top.place old.bytes.items) (take old.top.first old.spans.items) → (s : State) × (close (Some t) ls ≡ Some s) × HoldsAll s new
closed t item old new ls good l inside h = by ls (subst P order h)
  where
    b : List ℕ
    b = take old.top.place old.bytes.items

    P : List Frame → Type 0
    P fs = Opens ls fs b (take old.top.first old.spans.items)

    order : reverse old.below.items ≡ l.around ∷ reverse l.below
    order = ap (λ fs. reverse fs) l.left ∙ reverse-append l.below (l.around ∷ [])

    L : ℕ → ℕ → List Span → Type 0
    L from to ss = Lands l.around.stage from to l.around ss new.top new.spans.items

    lands : L (length b) (length (b ++ item)) (take old.top.first old.spans.items)
    lands = subst (λ n. L n (length (b ++ item)) (take old.top.first old.spans.items)) (sym (length-take-le old.top.place old.bytes.items inside)) (subst (λ n. L old.top.place n (take old.top.first old.spans.items)) (ap length l.bytes) (subst (L old.top.place (length new.bytes.items)) l.listed l.lands))

    by : (ls : List Level) → Opens ls (l.around ∷ reverse l.below) b (take old.top.first old.spans.items) → (s : State) × (close (Some t) ls ≡ Some s) × HoldsAll s new
    by [] q = absurd q
    by (k ∷ ls) q =
        let m = landed t l.around new.top b item (take old.top.first old.spans.items) new.spans.items good lands k ls (reverse l.below) q in
        let Q : List ℕ → Type 0 = λ x. Opens (m.0 ∷ ls) (new.top ∷ reverse l.below) x new.spans.items in
        let R : List Frame → Type 0 = λ fs. Opens (m.0 ∷ ls) (new.top ∷ reverse fs) new.bytes.items new.spans.items in
        (state m.0 ls, ap (option_map (λ j. state j ls)) m.1, subst R (sym l.kept) (subst Q (sym l.bytes) m.2))

-- nothing is listed after what is around
pub all_listed : (n : ℕ) (ss : List Span) → drop n ss ≡ [] → ss ≡ take n ss
all_listed n ss e = sym (take-append-drop n ss) ∙ ap (λ x. take n ss ++ x) e ∙ append-nil (take n ss)

count_items : (ts : List Tree) → item_count (items_of ts) ≡ length ts
count_items [] = refl
count_items (t ∷ ts) = ap suc (count_items ts)

good_list : (ts : List Tree) (n : ℕ) (b : List ℕ) → n ≡ length ts → n < 2 ^ 64 → spelled_items (items_of ts) ≡ Some b → IsTree (list (items_of ts)) → IsGood (list (items_of ts)) (head 4 n ++ b)
unfolding spelled
good_list ts n b count fits e good =
    (ap₂ (λ (x y : Option (List ℕ)). x ++? y) (ap (spelled_head 4) (count_items ts ∙ sym count) ∙ head_is_spelled 4 n fits) e, good)

pub list_ended : (old new : Sink) → old.top.stage ≡ stage.List → old.top.count < 2 ^ 64 → (drop old.top.first old.spans.items ≡ [] → Left old new (head 4 old.top.count ++ drop (old.top.place + 1) old.bytes.items)) → StepsBy (λ s. close (ended_list s.top) s.around) old new
list_ended old new at fits l s h =
    at_stage stage.List (part old.top old.bytes.items (drop old.top.first old.spans.items)) (λ k. (t : State) × (close (ended_list k) s.around ≡ Some t) × HoldsAll t new) at (λ ts held.
    closed (list (items_of ts)) _ old new s.around (good_list ts old.top.count (drop (old.top.place + 1) old.bytes.items) held.1 fits held.2 held.3) (l held.5) h.1 h.3) s.top h.0

pub link_ended : (old new : Sink) → old.top.stage ≡ stage.Linked → (drop old.top.first old.spans.items ≡ [] → Left old new (drop old.top.place old.bytes.items)) → StepsBy (λ s. close_map s.top s.around) old new
link_ended old new at l s h =
    at_stage stage.Linked (part old.top old.bytes.items (drop old.top.first old.spans.items)) (λ k. (t : State) × (close_map k s.around ≡ Some t) × HoldsAll t new) at (λ cid held.
    closed (link cid) _ old new s.around held.1 (l held.2) h.1 h.3) s.top h.0

-- a map has a tree if its entries are in order
good_map : (ps : List Pair) (place : ℕ) (b c : List ℕ) (ss : List Span) (n : ℕ) → HoldsEntries ps place b ss → (p : PutsEntries place b ss c n) → n < 2 ^ 64 → (t : Tree) × (entries_tree ps ≡ Some t) × IsGood t (head 5 n ++ entries_bytes p.0)
good_map ps place b c ss n h p fits =
    let is = in_order false ps _ p.0 h.0 p.1 in
    let text : spelled_tree (entries_tree ps) ≡ Some (head 5 n ++ entries_bytes p.0) =
    is.text ∙ ap (λ (x : Option (List ℕ)). x ++? Some (entries_bytes p.0)) (ap (spelled_head 5) (sym p.3) ∙ head_is_spelled 5 n fits) in
    by (entries_tree ps) refl text is.good
  where
    by : (o : Option Tree) → entries_tree ps ≡ o → spelled_tree o ≡ Some (head 5 n ++ entries_bytes p.0) → IfSome o IsTree → (t : Tree) × (entries_tree ps ≡ Some t) × IsGood t (head 5 n ++ entries_bytes p.0)
    by None e f g = cc
    by (Some t) e f g = (t, e, (f, g))

-- the entries come after the byte of the head, and what is before it is unchanged
pub entries_stand : (place : ℕ) (b c : List ℕ) (ss : List Span) (n : ℕ) → place < length b → (p : PutsEntries place b ss c n) → (take place c ≡ take place b) × (drop (place + 1) c ≡ entries_bytes p.0)
entries_stand place b c ss n h p =
    let short : place ≤ length (take (place + 1) b) = omega (arith, h, length-take-le (place + 1) b (omega (arith, h))) in
    let same : take place (take (place + 1) b) ≡ take place b = sym (take-append-le place (take (place + 1) b) (drop (place + 1) b) short) ∙ ap (take place) (take-append-drop (place + 1) b) in
    (ap (take place) p.2 ∙ take-append-le place (take (place + 1) b) (entries_bytes p.0) short ∙ same, ap (drop (place + 1)) p.2 ∙ drop_at (take (place + 1) b) (entries_bytes p.0) (place + 1) (length-take-le (place + 1) b (omega (arith, h))))

pub map_ended : (old new : Sink) (c : List ℕ) (n : ℕ) → old.top.stage ≡ stage.Rests → old.top.flat ≡ 0 → n < 2 ^ 64
    → PutsEach old.top.place old.bytes.items (drop old.top.first old.spans.items) c n
    → ((item : List ℕ) → take old.top.place c ++ (head 5 n ++ drop (old.top.place + 1) c) ≡ take old.top.place old.bytes.items ++ item → Left old new item)
    → StepsBy (λ s. close_map s.top s.around) old new
map_ended old new c n at flat fits puts l s h =
    at_stage stage.Rests (part old.top old.bytes.items (drop old.top.first old.spans.items)) (λ k. (t : State) × (close_map k s.around ≡ Some t) × HoldsAll t new) at (λ ps k held. by ps k held.0.1 (sym held.1 ∙ flat)) s.top h.0
  where
    by : (ps : List Pair) (k : ℕ) → HoldsEntries ps old.top.place old.bytes.items (drop old.top.first old.spans.items) → k ≡ 0 → (t : State) × (close_map (in_map ps rests k) s.around ≡ Some t) × HoldsAll t new
    by ps (suc k) e m = absurd (omega (arith, m))
    by ps zero e m =
        let p = puts ps e in
        let tree = good_map ps old.top.place old.bytes.items c (drop old.top.first old.spans.items) n e p fits in
        let stand = entries_stand old.top.place old.bytes.items c (drop old.top.first old.spans.items) n e.3 p in
        let is = ap₂ (λ x y. x ++ (head 5 n ++ y)) stand.0 stand.1 in
        let done = closed tree.0 _ old new s.around tree.2 (l (head 5 n ++ entries_bytes p.0) is) h.1 h.3 in
        (done.0, ap (λ o. close o s.around) tree.1 ∙ done.1, done.2)

-- ---- what is left, by the steps of a call

module _ (old new : Sink) (f around : Frame) (below : List Frame) (spans : List Span) (out : List ℕ) (is : f ≡ old.top) (left : old.below.items ≡ below ++ around ∷ []) (all : new.bytes.items ≡ out) (kept : new.below.items ≡ below) (lands : Lands around.stage f.place (length out) around spans new.top new.spans.items) where
  leaves : (item : List ℕ) → spans ≡ take old.top.first old.spans.items → out ≡ take old.top.place old.bytes.items ++ item → Left old new item
  leaves item listed bytes =
      let P : ℕ → ℕ → Type 0 = λ from to. Lands around.stage from to around spans new.top new.spans.items in
      record {
        around = around;
        below = below;
        left = left;
        kept = kept;
        spans = spans;
        listed = listed;
        bytes = all ∙ bytes;
        lands = subst (λ (g : Frame). P g.place (length new.bytes.items)) is (subst (λ x. P f.place (length x)) (sym all) lands);
      }

  pub list_closes : (b : List ℕ) → spans ≡ old.spans.items → b ≡ old.bytes.items → old.top.stage ≡ stage.List → f.count < 2 ^ 64 → out ≡ take f.place b ++ (head 4 f.count ++ drop (f.place + 1) b) → StepsBy (λ s. close (ended_list s.top) s.around) old new
  list_closes b listed same at fits set = list_ended old new at (subst (λ (g : Frame). g.count < 2 ^ 64) is fits) (λ none. leaves (head 4 old.top.count ++ drop (old.top.place + 1) old.bytes.items) (listed ∙ all_listed old.top.first old.spans.items none)
      (set ∙ ap₂ (λ (g : Frame) x. take g.place x ++ (head 4 g.count ++ drop (g.place + 1) x)) is same))

  pub link_closes : spans ≡ old.spans.items → out ≡ old.bytes.items → old.top.stage ≡ stage.Linked → StepsBy (λ s. close_map s.top s.around) old new
  link_closes listed same at = link_ended old new at (λ none. leaves (drop old.top.place old.bytes.items) (listed ∙ all_listed old.top.first old.spans.items none) (same ∙ sym (take-append-drop old.top.place old.bytes.items)))

  pub map_closes : (b c : List ℕ) (ss : List Span) (n : ℕ) → b ≡ old.bytes.items → ss ≡ old.spans.items → old.top.stage ≡ stage.Rests → old.top.flat ≡ 0 → n < 2 ^ 64 → spans ≡ take f.first ss
      → PutsEach f.place b (drop f.first ss) c n
      → out ≡ take f.place c ++ (head 5 n ++ drop (f.place + 1) c) → StepsBy (λ s. close_map s.top s.around) old new
  map_closes b c ss n bytes listed at flat fits rest puts set =
      let P : Frame → List ℕ → List Span → Type 0 = λ g x ys. PutsEach g.place x (drop g.first ys) c n in
      map_ended old new c n at flat fits (subst (λ g. P g old.bytes.items old.spans.items) is (subst (λ x. P f x old.spans.items) bytes (subst (P f b) listed puts)))
      (λ item e. leaves item (rest ∙ ap₂ (λ (g : Frame) x. take g.first x) is listed) (set ∙ ap (λ (g : Frame). take g.place c ++ (head 5 n ++ drop (g.place + 1) c)) is ∙ e))
