-- What tokens surely encode.
use Rattle.std.proofs.Common.{◌≡◌, ℕ, suc, pos, negsuc, ◌+◌, ◌-◌, ◌^◌, ◌<◌, ◌≤◌, List, [], ◌∷◌, ◌++◌, length, drop, true, false, refl, sym, ap, ◌∙◌, arith, append-nil, length-append, Option, Some, None, MatchOption, IfSome, IsUtf8}
use Rattle.dagcbor_core.specs.Head.{head}
use Rattle.dagcbor_core.specs.Splits.{SplitsHead}
use Rattle.ipld_tree.specs.Cid.{IsCid}
use Rattle.ipld_tree.specs.Tree.{Tree, null, boolean, integer, text, bytes, link}
use Rattle.ipld_tree.specs.Spelling.{spelling, text_spelling, IsFront}
use Rattle.abi_calls.specs.TapeSplits.{SplitsKeyAfter, SplitsItem, SplitsItems, SplitsEntries}
use Rattle.dagcbor_decode.specs.Blocks.{IsBlock}
use Rattle.abi_calls.proofs.TapePassing.{ItemsPassed, none_passed, one_passed, all_passed, list_passed, EntriesPassed, no_entry_passed, one_entry_passed, all_entries_passed, map_passed}
use Rattle.abi_calls.specs.Told.{payload_at, null_told, boolean_told, string_told, link_told, token_bytes, tape_told}
use Rattle.abi_calls.specs.TapeJudging.{IsLeafTold, TellsMore, TellsBlock}
use Rattle.abi_calls.specs.declared.tape.Token.{Token}
use Rattle.abi_calls.proofs.Telling.{told_first}
use Rattle.abi_calls.proofs.Spelling.{string_is, link_is}

-- ---- leaves

pub null_leaf : (n : ℕ) (r : Option ℕ) → MatchOption r (0 < n) (λ k. (n ≤ 0) × (k ≡ 1)) → IfSome r (λ k. IsLeafTold (null_told n) k)
null_leaf n None h = tt
null_leaf ℕ.zero (Some k) h = (0xf6 ∷ [], refl, sym h.1, (null, record { well_formed = tt; spellable = tt; is = refl }, refl))
null_leaf (suc n) (Some k) h = absurd (omega (arith, h.0))

pub boolean_leaf : (n : ℕ) (r : Option ℕ) → MatchOption r (1 < n) (λ k. (n ≤ 1) × (k ≡ 1)) → IfSome r (λ k. IsLeafTold (boolean_told n) k)
boolean_leaf n None h = tt
boolean_leaf ℕ.zero (Some k) h = (0xf4 ∷ [], refl, sym h.1, (boolean false, record { well_formed = tt; spellable = tt; is = refl }, refl))
boolean_leaf (suc ℕ.zero) (Some k) h = (0xf5 ∷ [], refl, sym h.1, (boolean true, record { well_formed = tt; spellable = tt; is = refl }, refl))
boolean_leaf (suc (suc n)) (Some k) h = absurd (omega (arith, h.0))

pub natural_leaf : (n count : ℕ) → n < 2 ^ 64 → count ≡ length (head 0 n) → IsLeafTold (Some (head 0 n)) count
natural_leaf n count small e = (head 0 n, refl, sym e, (integer (pos n), record { well_formed = tt; spellable = small; is = refl }, refl))

pub negative_leaf : (n count : ℕ) → n < 2 ^ 64 → count ≡ length (head 1 n) → IsLeafTold (Some (head 1 n)) count
negative_leaf n count small e = (head 1 n, refl, sym e, (integer (negsuc n), record { well_formed = tt; spellable = small; is = refl }, refl))

pub text_leaf : (b s : List ℕ) (place n count : ℕ) → count < 2 ^ 64 → IsUtf8 s → payload_at b place n ≡ Some s → count ≡ length (head 3 (length s) ++ s) → IsLeafTold (string_told 3 b n place) count
text_leaf b s place n count small valid e c = (text_spelling s, string_is b s 3 place n e, sym c, (text s, record { well_formed = valid; spellable = omega (arith, small, c, length-append (head 3 (length s)) s); is = refl }, refl))

pub bytes_leaf : (b s : List ℕ) (place n count : ℕ) → count < 2 ^ 64 → payload_at b place n ≡ Some s → count ≡ length (head 2 (length s) ++ s) → IsLeafTold (string_told 2 b n place) count
bytes_leaf b s place n count small e c = (spelling (bytes s), string_is b s 2 place n e, sym c, (bytes s, record { well_formed = tt; spellable = omega (arith, small, c, length-append (head 2 (length s)) s); is = refl }, refl))

pub link_leaf : (b cid : List ℕ) (place n count : ℕ) → length cid + 1 < 2 ^ 64 → IsCid cid → payload_at b place n ≡ Some cid → count ≡ length (spelling (link cid)) → IsLeafTold (link_told b n place) count
link_leaf b cid place n count small valid e c = (spelling (link cid), link_is b cid place n e, sym c, (link cid, record { well_formed = valid; spellable = omega (arith, small); is = refl }, refl))

pub link_fits : (cid : List ℕ) (n : ℕ) → n < 2 ^ 64 → n ≡ length (spelling (link cid)) → length cid + 1 < 2 ^ 64
link_fits cid n small e = omega (arith, small, e, length-append (head 2 (suc (length cid))) (0x00 ∷ cid))

-- ---- rows of tokens

pub if_some : {A : Type 0} (P Q : A → Type 0) (r : Option A) → ((a : A) → P a → Q a) → IfSome r P → IfSome r Q
if_some P Q None f h = tt
if_some P Q (Some a) f h = f a h

abbrev pub Splits : Type 1
Splits = List ℕ → List ℕ → Type 0

-- one token, and what the tokens after it encode
pub token_tells : (b s : List ℕ) (tape : List Token) (first : Token) (at old new : ℕ) → at < length tape → drop at tape ≡ first ∷ drop (at + 1) tape → token_bytes b first.kind first.number first.place ≡ Some s → length s + new ≡ old
    → TellsMore (λ x rest. x ≡ s ++ rest) b tape at (at + 1) old new
token_tells b s tape first at old new inside is told room rest e = (s ++ rest, ap (tape_told b) is ∙ told_first b s rest first (drop (at + 1) tape) told e, refl, omega (arith, room, length-append s rest))

pub tells_as : (P R : Splits) (b : List ℕ) (tape : List Token) (at next old new : ℕ) → ((s r : List ℕ) → P s r → R s r) → TellsMore P b tape at next old new → TellsMore R b tape at next old new
tells_as P R b tape at next old new f p rest e = let k = p rest e in (k.0, k.1, f k.0 rest k.2, k.3)

pub tells_both : (P Q R : Splits) (b : List ℕ) (tape : List Token) (at middle next old between new : ℕ) → ((s m r : List ℕ) → P s m → Q m r → R s r) → TellsMore P b tape at middle old between → TellsMore Q b tape middle next between new → TellsMore R b tape at next old new
tells_both P Q R b tape at middle next old between new f p q rest e = let k = q rest e in let j = p k.0 k.1 in (j.0, j.1, f j.0 k.0 rest j.2 k.2, omega (arith, j.3, k.3))

pub leaf_tells : (b : List ℕ) (tape : List Token) (first : Token) (at old new n steps : ℕ) → at < length tape → drop at tape ≡ first ∷ drop (at + 1) tape → 1 ≤ steps → IsLeafTold (token_bytes b first.kind first.number first.place) n → n + new ≡ old
    → TellsMore (λ s r. SplitsItem s steps r) b tape at (at + 1) old new
leaf_tells b tape first at old new n steps inside is some k room =
    tells_as (λ x r. x ≡ k.0 ++ r) (λ s r. SplitsItem s steps r) b tape at (at + 1) old new
    (λ s r e. (k.3.0, record { well_formed = k.3.1.well_formed; spellable = k.3.1.spellable; is = e ∙ ap (λ z. z ++ r) k.3.1.is }, omega (arith, k.3.2, some)))
    (token_tells b k.0 tape first at old new inside is k.1 (omega (arith, k.2, room)))

head_tells : (b : List ℕ) (tape : List Token) (first : Token) (major at old new : ℕ) → at < length tape → drop at tape ≡ first ∷ drop (at + 1) tape → major < 8 → first.number < 2 ^ 64 → token_bytes b first.kind first.number first.place ≡ Some (head major first.number) → length (head major first.number) + new ≡ old
    → TellsMore (λ s r. SplitsHead s major first.number r) b tape at (at + 1) old new
head_tells b tape first major at old new inside is few small told room =
    tells_as (λ x r. x ≡ head major first.number ++ r) (λ s r. SplitsHead s major first.number r) b tape at (at + 1) old new (λ s r e. (few, small, e))
    (token_tells b (head major first.number) tape first at old new inside is told room)

pub list_tells : (b : List ℕ) (tape : List Token) (first : Token) (at next old between new steps : ℕ) → at < length tape → drop at tape ≡ first ∷ drop (at + 1) tape → 2 ≤ steps → first.kind ≡ 5 → first.number < 2 ^ 64 → length (head 4 first.number) + between ≡ old
    → TellsMore (λ s r. SplitsItems s first.number (steps - 2) r) b tape (at + 1) next between new → TellsMore (λ s r. SplitsItem s steps r) b tape at next old new
list_tells b tape first at next old between new steps inside is some kind small room q =
    tells_both (λ s r. SplitsHead s 4 first.number r) (λ s r. SplitsItems s first.number (steps - 2) r) (λ s r. SplitsItem s steps r) b tape at (at + 1) next old between new
    (λ s m r h k. list_passed first.number steps s m r some h k)
    (head_tells b tape first 4 at old between inside is (omega arith) small (ap (λ k. token_bytes b k first.number first.place) kind) room) q

pub map_tells : (b : List ℕ) (tape : List Token) (first : Token) (at next old between new steps : ℕ) → at < length tape → drop at tape ≡ first ∷ drop (at + 1) tape → 2 ≤ steps → first.kind ≡ 6 → first.number < 2 ^ 64 → length (head 5 first.number) + between ≡ old
    → TellsMore (λ s r. SplitsEntries s first.number (steps - 2) r) b tape (at + 1) next between new → TellsMore (λ s r. SplitsItem s steps r) b tape at next old new
map_tells b tape first at next old between new steps inside is some kind small room q =
    tells_both (λ s r. SplitsHead s 5 first.number r) (λ s r. SplitsEntries s first.number (steps - 2) r) (λ s r. SplitsItem s steps r) b tape at (at + 1) next old between new
    (λ s m r h k. map_passed first.number steps s m r some h k)
    (head_tells b tape first 5 at old between inside is (omega arith) small (ap (λ k. token_bytes b k first.number first.place) kind) room) q

-- ---- loops

abbrev pub TellsItems : List ℕ → List Token → (at next count more steps old new : ℕ) → Type 0
TellsItems b tape at next count more steps old new = TellsMore (λ s r. ItemsPassed s count more steps r) b tape at next old new

pub no_items_tell : (b : List ℕ) (tape : List Token) (at count steps room : ℕ) → TellsItems b tape at at count count steps room room
no_items_tell b tape at count steps room rest e = (rest, e, none_passed rest count steps, refl)

pub one_item_tells : (b : List ℕ) (tape : List Token) (at middle next count more steps old between new : ℕ) → 0 < more → TellsItems b tape at middle count more steps old between → TellsMore (λ s r. SplitsItem s steps r) b tape middle next between new
    → TellsItems b tape at next count (more - 1) steps old new
one_item_tells b tape at middle next count more steps old between new some p q =
    tells_both (λ s r. ItemsPassed s count more steps r) (λ s r. SplitsItem s steps r) (λ s r. ItemsPassed s count (more - 1) steps r) b tape at middle next old between new
    (λ s m r h k. one_passed s m r count more steps some h k) p q

pub all_items_tell : (b : List ℕ) (tape : List Token) (at next count more steps old new : ℕ) → more ≡ 0 → TellsItems b tape at next count more steps old new → TellsMore (λ s r. SplitsItems s count steps r) b tape at next old new
all_items_tell b tape at next count more steps old new none p =
    tells_as (λ s r. ItemsPassed s count more steps r) (λ s r. SplitsItems s count steps r) b tape at next old new (λ s r h. all_passed s r count more steps none h) p

abbrev pub TellsEntries : List ℕ → List Token → Option (List ℕ) → (at next count more steps old new : ℕ) → Type 0
TellsEntries b tape previous at next count more steps old new = TellsMore (λ s r. EntriesPassed s count more steps previous r) b tape at next old new

pub no_entries_tell : (b : List ℕ) (tape : List Token) (at count steps room : ℕ) → TellsEntries b tape None at at count count steps room room
no_entries_tell b tape at count steps room rest e = (rest, e, no_entry_passed rest count steps, refl)

pub one_entry_tells : (b key : List ℕ) (tape : List Token) (previous : Option (List ℕ)) (at middle value next count more steps old between inner new : ℕ) → 0 < more → TellsEntries b tape previous at middle count more steps old between
    → TellsMore (λ s r. SplitsKeyAfter previous s key r) b tape middle value between inner → TellsMore (λ s r. SplitsItem s steps r) b tape value next inner new → TellsEntries b tape (Some key) at next count (more - 1) steps old new
one_entry_tells b key tape previous at middle value next count more steps old between inner new some p q u rest e =
    let item = u rest e in
    let k = q item.0 item.1 in
    let row = p k.0 k.1 in
    (row.0, row.1, one_entry_passed row.0 k.0 item.0 rest key count more steps previous some row.2 k.2.0 k.2.1 item.2, omega (arith, row.3, k.3, item.3))

pub all_entries_tell : (b : List ℕ) (tape : List Token) (previous : Option (List ℕ)) (at next count more steps old new : ℕ) → more ≡ 0 → TellsEntries b tape previous at next count more steps old new → TellsMore (λ s r. SplitsEntries s count steps r) b tape at next old new
all_entries_tell b tape previous at next count more steps old new none p =
    tells_as (λ s r. EntriesPassed s count more steps previous r) (λ s r. SplitsEntries s count steps r) b tape at next old new (λ s r h. all_entries_passed s r count more steps previous none h) p

-- ---- the whole tape

pub whole_told : (b : List ℕ) (tape rest : List Token) (next most left : ℕ) → drop next tape ≡ rest → rest ≡ [] → TellsMore (λ s r. SplitsItem s 256 r) b tape 0 next most left → (left ≤ most) × ((n : ℕ) → n + left ≡ most → TellsBlock b tape n)
whole_told b tape rest next most left is none p =
    let k = p [] (ap (tape_told b) (is ∙ none)) in
    let f = k.2.1 in (
      omega (arith, k.3),
      λ n e. (k.0, k.1, omega (arith, k.3, e), (k.2.0, (record { well_formed = f.well_formed; spellable = f.spellable; is = f.is ∙ append-nil (spelling k.2.0) }, k.2.2))),
    )

-- a block that was put at the front of memory
pub block_in_front : (s rest new : List ℕ) (t : Tree) → new ≡ s ++ rest → IsBlock s t → IsFront new t rest
block_in_front s rest new t is k = record { well_formed = k.0.well_formed; spellable = k.0.spellable; is = is ∙ ap (λ z. z ++ rest) k.0.is }
