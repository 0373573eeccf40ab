-- The bytes that tokens encode: counted, and put.
use Rattle.std.proofs.Common.{◌≡◌, ℕ, suc, ◌+◌, ◌-◌, ◌^◌, ◌<◌, ◌≤◌, min, List, [], ◌∷◌, ◌++◌, length, get_or, take, drop, Bool, true, false, if◌then◌else◌, refl, sym, ap, ap₂, ◌∙◌, arith, append_assoc, append-nil, Option, Some, None, option_map, option_and_then, MatchOption, ltb, drop-cons, ltb-false, length-append, length-take-le, length-drop}
use Rattle.std.proofs.lemmas.Bool.{ne_eqb}
use Rattle.dagcbor_core.specs.Head.{head}
use Rattle.ipld_tree.specs.Tree.{link}
use Rattle.ipld_tree.specs.Spelling.{spelling}
use Rattle.lent_memory.specs.Puts.{put_at}
use Rattle.abi_calls.specs.Told.{payload_at, null_told, boolean_told, string_told, link_told, token_bytes, TellsLength, tape_told, HasRoomAt, PutsToldAt, CountsTold, FillsTold}
use Rattle.abi_calls.specs.declared.tape.Token.{Token}
use Rattle.lent_memory.proofs.Putting.{put_after}
use Rattle.abi_calls.proofs.Telling.{told_first}

pub payload_long : (b s : List ℕ) (place n : ℕ) → payload_at b place n ≡ Some s → length s ≡ n
payload_long b s place n e = by (ltb (length b) (place + n)) refl e
  where
    by : (o : Bool) → o ≡ ltb (length b) (place + n) → (if o then None else Some (take n (drop place b))) ≡ Some s → length s ≡ n
    by true f k = absurd (cc k)
    by false f k =
        let is : take n (drop place b) ≡ s = cc k in
        let room = ltb-false (length b) (place + n) (sym f) in
        sym (ap length is) ∙ length-take-le n (drop place b) (omega (arith, room, length-drop place b))

-- what a token with a payload encodes
pub string_is : (b s : List ℕ) (major place n : ℕ) → payload_at b place n ≡ Some s → string_told major b n place ≡ Some (head major (length s) ++ s)
string_is b s major place n e = ap (option_map (λ p. head major n ++ p)) e ∙ ap (λ m. Some (head major m ++ s)) (sym (payload_long b s place n e))

pub link_is : (b cid : List ℕ) (place n : ℕ) → payload_at b place n ≡ Some cid → link_told b n place ≡ Some (spelling (link cid))
link_is b cid place n e = ap (option_map (λ p. 0xd8 ∷ 0x2a ∷ head 2 (suc n) ++ 0x00 ∷ p)) e ∙ ap (λ m. Some (0xd8 ∷ 0x2a ∷ head 2 (suc m) ++ 0x00 ∷ cid)) (sym (payload_long b cid place n e))

-- simple values, by the greatest number of their tokens
pub null_counted : (n : ℕ) (r : Option ℕ) → MatchOption r (0 < n) (λ k. (n ≤ 0) × (k ≡ 1)) → TellsLength (null_told n) r
null_counted ℕ.zero None h = absurd (omega (arith, h))
null_counted ℕ.zero (Some k) h = (0xf6 ∷ [], refl, h.1)
null_counted (suc n) None h = ap (λ (o : Bool). if o then Some (0xf6 ∷ []) else None) (ne_eqb (suc n) 0 (λ e. omega (arith, e)))
null_counted (suc n) (Some k) h = absurd (omega (arith, h.0))

pub boolean_counted : (n : ℕ) (r : Option ℕ) → MatchOption r (1 < n) (λ k. (n ≤ 1) × (k ≡ 1)) → TellsLength (boolean_told n) r
boolean_counted ℕ.zero None h = absurd (omega (arith, h))
boolean_counted ℕ.zero (Some k) h = (0xf4 ∷ [], refl, h.1)
boolean_counted (suc ℕ.zero) None h = absurd (omega (arith, h))
boolean_counted (suc ℕ.zero) (Some k) h = (0xf5 ∷ [], refl, h.1)
boolean_counted (suc (suc n)) None h = ap₂ (λ (o u : Bool). if o then Some (0xf4 ∷ []) else if u then Some (0xf5 ∷ []) else None) (ne_eqb (suc (suc n)) 0 (λ e. omega (arith, e))) (ne_eqb (suc (suc n)) 1 (λ e. omega (arith, e)))
boolean_counted (suc (suc n)) (Some k) h = absurd (omega (arith, h.0))

-- ---- token by token

pub next_token : (tape : List Token) (i : ℕ) (d : Token) → i < length tape → drop i tape ≡ get_or tape i d ∷ drop (i + 1) tape
next_token tape i d h = drop-cons tape i d h ∙ ap (λ n. get_or tape i d ∷ drop n tape) {x = suc i} {y = i + 1} (omega arith)

-- what was counted of a tape, with a rest still to come
pub record Counted (b : List ℕ) (tape rest : List Token) (count : ℕ) : Type 0 where
  done : List ℕ
  told : (r : List ℕ) → tape_told b rest ≡ Some r → tape_told b tape ≡ Some (done ++ r)
  none : tape_told b rest ≡ None → tape_told b tape ≡ None
  counted : count ≡ length done

pub none_counted : (b : List ℕ) (tape : List Token) → Counted b tape tape 0
none_counted b tape = record { done = []; told = λ r e. e; none = λ e. e; counted = omega arith }

pub one_counted : (b : List ℕ) (tape rest more : List Token) (first : Token) (s : List ℕ) (old new : ℕ) → rest ≡ first ∷ more → token_bytes b first.kind first.number first.place ≡ Some s → new ≡ old + length s → Counted b tape rest old → Counted b tape more new
one_counted b tape rest more first s old new is e n g = record {
  done = g.done ++ s;
  told = λ r f. g.told (s ++ r) (ap (tape_told b) is ∙ told_first b s r first more e f) ∙ ap Some (sym (append_assoc g.done s r));
  none = λ f. g.none (ap (tape_told b) is ∙ ap₂ (λ o u. option_and_then (λ x. option_map (λ y. x ++ y) u) o) e f);
  counted = omega (arith, n, g.counted, length-append g.done s);
}

pub one_is_none : (b : List ℕ) (tape rest more : List Token) (first : Token) (count : ℕ) → rest ≡ first ∷ more → token_bytes b first.kind first.number first.place ≡ None → Counted b tape rest count → tape_told b tape ≡ None
one_is_none b tape rest more first count is e g = g.none (ap (tape_told b) is ∙ ap (λ o. option_and_then (λ x. option_map (λ y. x ++ y) (tape_told b more)) o) e)

pub all_counted : (b : List ℕ) (tape rest : List Token) (count least : ℕ) → rest ≡ [] → Counted b tape rest count → least ≡ min count (2 ^ 64 - 1) → CountsTold b tape (Some least)
all_counted b tape rest count least is g e = (g.done, g.told [] (ap (tape_told b) is) ∙ ap Some (append-nil g.done), omega (arith, e, g.counted))

-- what is put of a tape, with a rest still to come
pub record Putting (b : List ℕ) (tape rest : List Token) (old now : List ℕ) (at : ℕ) : Type 0 where
  done : List ℕ
  more : List ℕ
  whole : tape_told b tape ≡ Some (done ++ more)
  told : tape_told b rest ≡ Some more
  fits : length (done ++ more) ≤ length old
  place : at ≡ length done
  stands : now ≡ done ++ drop (length done) old

pub none_put : (b : List ℕ) (tape : List Token) (old : List ℕ) → HasRoomAt (tape_told b tape) 0 old → Putting b tape tape old old 0
none_put b tape old h = record { done = []; more = h.0; whole = h.1; told = h.1; fits = omega (arith, h.2); place = refl; stands = refl }

-- the parts of what a tape encodes
first_told : (b m : List ℕ) (first : Token) (more : List Token) → tape_told b (first ∷ more) ≡ Some m → (s r : List ℕ) × (token_bytes b first.kind first.number first.place ≡ Some s) × (tape_told b more ≡ Some r) × (m ≡ s ++ r)
first_told b m first more p = by (token_bytes b first.kind first.number first.place) refl (tape_told b more) refl
  where
    by : (o : Option (List ℕ)) → o ≡ token_bytes b first.kind first.number first.place → (u : Option (List ℕ)) → u ≡ tape_told b more → (s r : List ℕ) × (token_bytes b first.kind first.number first.place ≡ Some s) × (tape_told b more ≡ Some r) × (m ≡ s ++ r)
    by None e u f = let k : None ≡ Some m = ap₂ (λ o v. option_and_then (λ y. option_map (λ z. y ++ z) v) o) e f ∙ p in absurd (cc k)
    by (Some o) e None f = let k : None ≡ Some m = ap₂ (λ w v. option_and_then (λ y. option_map (λ z. y ++ z) v) w) e f ∙ p in absurd (cc k)
    by (Some o) e (Some u) f = let k : Some (o ++ u) ≡ Some m = ap₂ (λ w v. option_and_then (λ y. option_map (λ z. y ++ z) v) w) e f ∙ p in (o, u, sym e, sym f, sym (cc k))

pub has_room : (b : List ℕ) (tape rest next : List Token) (first : Token) (old now : List ℕ) (at : ℕ) → rest ≡ first ∷ next → Putting b tape rest old now at → HasRoomAt (token_bytes b first.kind first.number first.place) at now
has_room b tape rest next first old now at is g =
    let k = first_told b g.more first next (sym (ap (tape_told b) is) ∙ g.told) in
    let following = drop (length g.done) old in
    (k.0, k.2, omega (arith, g.place, g.fits, ap length k.4, length-append k.0 k.1, length-append g.done g.more, ap length g.stands, length-append g.done following, length-drop (length g.done) old))

pub one_put : (b : List ℕ) (tape rest next : List Token) (first : Token) (old now new : List ℕ) (at end : ℕ) → rest ≡ first ∷ next → PutsToldAt (token_bytes b first.kind first.number first.place) at now new end → Putting b tape rest old now at → Putting b tape next old new end
one_put b tape rest next first old now new at end is puts g =
    let k = first_told b g.more first next (sym (ap (tape_told b) is) ∙ g.told) in
    let s = k.0 in
    let put = puts s k.2 in
    let same : g.done ++ g.more ≡ (g.done ++ s) ++ k.1 = ap (λ z. g.done ++ z) k.4 ∙ sym (append_assoc g.done s k.1) in
    record {
      done = g.done ++ s;
      more = k.1;
      whole = g.whole ∙ ap Some same;
      told = k.3;
      fits = omega (arith, g.fits, ap length same);
      place = omega (arith, put.0, g.place, length-append g.done s);
      stands = put.1 ∙ ap (λ n. put_at n s now) g.place ∙ ap (put_at (length g.done) s) g.stands
          ∙ put_after g.done s old (omega (arith, g.fits, ap length k.4, length-append s k.1, length-append g.done g.more));
    }

pub all_put : (b : List ℕ) (tape rest : List Token) (old now : List ℕ) (at : ℕ) → rest ≡ [] → Putting b tape rest old now at → FillsTold b tape old now
all_put b tape rest old now at is g s e room =
    let none : [] ≡ g.more = let k : Some [] ≡ Some g.more = sym (ap (tape_told b) is) ∙ g.told in cc k in
    let k : Some (g.done ++ g.more) ≡ Some s = sym g.whole ∙ e in
    let same : g.done ≡ s = sym (append-nil g.done) ∙ ap (λ z. g.done ++ z) none ∙ cc k in
    g.stands ∙ ap (λ z. z ++ drop (length z) old) same
