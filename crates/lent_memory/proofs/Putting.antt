-- Bytes put into memory.
use Rattle.std.proofs.Common.{◌≡◌, ℕ, suc, ◌+◌, ◌<◌, ◌≤◌, List, [], ◌∷◌, ◌++◌, length, take, drop, if◌then◌else◌, Bool, true, false, refl, sym, ap, ◌∙◌, arith, append_assoc, append-nil, drop_of_length-le, length-append, ltb, ltb-false, le-ltb, lt-ltb, length-take-le, length-drop}
use Rattle.std.proofs.Math.Seq.{take-append_seam}
use Rattle.std.proofs.lemmas.Slice.{drop-append-drop}
use Rattle.std.proofs.lemmas.List.{take-append-drop}
use Rattle.dagcbor_core.specs.Head.{head}
use Rattle.lent_memory.specs.Puts.{with_front, put_at, PutsAt}

-- ---- bytes at a place

pub put_fits : (at : ℕ) (bs old : List ℕ) → at + length bs ≤ length old → put_at at bs old ≡ take at old ++ (bs ++ drop (at + length bs) old)
put_fits at bs old h = ap (λ (x : Bool). if x then old else take at old ++ (bs ++ drop (at + length bs) old)) (le-ltb (length old) (at + length bs) h)

length_filled : (at : ℕ) (bs old : List ℕ) → at + length bs ≤ length old → length (take at old ++ (bs ++ drop (at + length bs) old)) ≡ length old
length_filled at bs old h =
    let rest = drop (at + length bs) old in
    omega (arith, h, length-append (take at old) (bs ++ rest), length-append bs rest, length-take-le at old (omega (arith, h)), length-drop (at + length bs) old)

pub length_put_at : (at : ℕ) (bs old : List ℕ) → length (put_at at bs old) ≡ length old
length_put_at at bs old = by (ltb (length old) (at + length bs)) refl
  where
    by : (b : Bool) → b ≡ ltb (length old) (at + length bs) → length (if b then old else (take at old ++ (bs ++ drop (at + length bs) old))) ≡ length old
    by true e = refl
    by false e = length_filled at bs old (ltb-false (length old) (at + length bs) (sym e))

-- bytes put after those at the front
pub put_after : (bs more before : List ℕ) → length bs + length more ≤ length before → put_at (length bs) more (bs ++ drop (length bs) before) ≡ (bs ++ more) ++ drop (length (bs ++ more)) before
put_after bs more before h =
    let rest = drop (length bs) before in
    let l = length-append bs more in
    put_fits (length bs) more (bs ++ rest) (omega (arith, h, length-append bs rest, length-drop (length bs) before))
    ∙ ap (λ x. x ++ (more ++ drop (length bs + length more) (bs ++ rest))) (take-append_seam bs rest)
    ∙ ap (λ x. bs ++ (more ++ x)) (drop-append-drop (length bs) before bs (length bs + length more) (omega arith) refl)
    ∙ sym (append_assoc bs more (drop (length bs + length more) before))
    ∙ ap (λ n. (bs ++ more) ++ drop n before) (sym l)

pub overwritten_where_room : (bs old : List ℕ) → length bs ≤ length old → with_front bs old ≡ bs ++ drop (length bs) old
overwritten_where_room bs old h = ap (λ (x : Bool). if x then old else (bs ++ drop (length bs) old)) (le-ltb (length old) (length bs) h)

pub stays_without_room : (bs old : List ℕ) → length old < length bs → with_front bs old ≡ old
stays_without_room bs old h = ap (λ (x : Bool). if x then old else (bs ++ drop (length bs) old)) (lt-ltb (length old) (length bs) h)

-- memory that has room for the bytes alone
pub fills_all : (bs old : List ℕ) → length bs ≡ length old → with_front bs old ≡ bs
fills_all bs old h = overwritten_where_room bs old (omega (arith, h)) ∙ ap (λ rest. bs ++ rest) (drop_of_length-le old (omega (arith, h))) ∙ append-nil bs

-- nothing at the front
pub nothing_at_front : (old : List ℕ) → with_front [] old ≡ old
nothing_at_front old = ap (λ (x : Bool). if x then old else ([] ++ drop 0 old)) (le-ltb (length old) 0 (omega arith))

placed : (at : ℕ) (bs old : List ℕ) → at + length bs ≤ length old → put_at at bs old ≡ (take at old ++ bs) ++ drop (length (take at old ++ bs)) old
placed at bs old h =
    let front = take at old in
    let following : at + length bs ≡ length (front ++ bs) = omega (arith, h, length-append front bs, length-take-le at old (omega (arith, h))) in
    put_fits at bs old h ∙ sym (append_assoc front bs (drop (at + length bs) old)) ∙ ap (λ n. (front ++ bs) ++ drop n old) following

-- bytes after others
pub put_both : (at middle end : ℕ) (s r old now new : List ℕ) → at + length (s ++ r) ≤ length old → PutsAt s at old now middle → PutsAt r middle now new end → PutsAt (s ++ r) at old new end
put_both at middle end s r old now new h p q =
    let front = take at old in
    let long = length-append s r in
    let first : at + length s ≤ length old = omega (arith, h, long) in
    let place : middle ≡ length (front ++ s) = omega (arith, p.0, length-append front s, length-take-le at old (omega (arith, first))) in (
      omega (arith, p.0, q.0, long),
      q.1
          ∙ ap (λ n. put_at n r now) place
          ∙ ap (put_at (length (front ++ s)) r) (p.1 ∙ placed at s old first)
          ∙ put_after (front ++ s) r old (omega (arith, h, long, p.0, place))
          ∙ ap (λ z. z ++ drop (length z) old) (append_assoc front s r)
          ∙ sym (placed at (s ++ r) old h),
    )

-- room for the bytes after them
pub room_after : (at middle : ℕ) (s r old now : List ℕ) → at + length (s ++ r) ≤ length old → PutsAt s at old now middle → middle + length r ≤ length now
room_after at middle s r old now h p = omega (arith, h, length-append s r, p.0, ap length p.1, length_put_at at s old)

-- room for the first of them
pub room_before : (at : ℕ) (s r old : List ℕ) → at + length (s ++ r) ≤ length old → at + length s ≤ length old
room_before at s r old h = omega (arith, h, length-append s r)

-- the tag of a link, its head, its zero and its CID
pub link_put : (at tagged following inside end n : ℕ) (cid old p q u new : List ℕ) → at + length (0xd8 ∷ 0x2a ∷ head 2 (suc n) ++ 0x00 ∷ cid) ≤ length old
    → PutsAt (0xd8 ∷ 0x2a ∷ []) at old p tagged → PutsAt (head 2 (suc n)) tagged p q following → PutsAt (0x00 ∷ []) following q u inside → PutsAt cid inside u new end
    → PutsAt (0xd8 ∷ 0x2a ∷ head 2 (suc n) ++ 0x00 ∷ cid) at old new end
link_put at tagged following inside end n cid old p q u new h tag front zero_byte payload =
    let long = length-append (head 2 (suc n)) (0x00 ∷ cid) in
    let first : length p ≡ length old = ap length tag.1 ∙ length_put_at at (0xd8 ∷ 0x2a ∷ []) old in
    let second : length q ≡ length p = ap length front.1 ∙ length_put_at tagged (head 2 (suc n)) p in
    put_both at tagged end (0xd8 ∷ 0x2a ∷ []) (head 2 (suc n) ++ 0x00 ∷ cid) old p new h tag
    (put_both tagged following end (head 2 (suc n)) (0x00 ∷ cid) p q new (omega (arith, h, long, first, tag.0)) front
    (put_both following inside end (0x00 ∷ []) cid q u new (omega (arith, h, long, first, second, tag.0, front.0)) zero_byte payload))

-- nothing at a place
pub none_put : (at : ℕ) (old : List ℕ) → at ≤ length old → PutsAt [] at old old at
none_put at old h = (omega arith, sym (put_fits at [] old (omega (arith, h)) ∙ ap (λ n. take at old ++ drop n old) {x = at + 0} {y = at} (omega arith) ∙ take-append-drop at old))

-- the whole at the front
pub all_put : (s old now : List ℕ) (end : ℕ) → PutsAt s 0 old now end → now ≡ with_front s old
all_put s old now end p = p.1 ∙ ap (λ n. if ltb (length old) n then old else (s ++ drop n old)) {x = 0 + length s} {y = length s} (omega arith)
