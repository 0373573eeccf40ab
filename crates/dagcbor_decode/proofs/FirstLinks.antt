-- The links of the first item.
use Rattle.std.proofs.Common.{◌≡◌, ℕ, ◌-◌, ◌≤◌, List, ◌++◌, ◌∷◌, ◌∙◌, length, length-append, append-nil, take, [], ◌≢◌, None, Some, Ok, Err, refl, sym, ap, arith}
use Rattle.dagcbor_core.specs.declared.error.DecodeError.{DecodeError}
use Rattle.dagcbor_core.specs.declared.error.DecodeError.TheVariants.{OutOfMemory}
use Rattle.std.proofs.Math.Seq.{take-append_seam}
use Rattle.ipld_tree.specs.Tree.{Tree, any_need, links_of}
use Rattle.ipld_tree.specs.Spelling.{spelling, IsFront}
use Rattle.dagcbor_decode.specs.Decode.{Decoded, Why, got, refused, decode_first}
use Rattle.dagcbor_decode.specs.Blocks.{AreFirstLinks}
use Rattle.dagcbor_decode.specs.Rows.{HoldsLinks, IsFirstItem}
use Rattle.dagcbor_decode.proofs.Complete.{any_reads}
use Rattle.dagcbor_decode.specs.Told.{skim}
use Rattle.dagcbor_decode.specs.Verdicts.{linked, why_of, AnswersLinks, IsRefusal}
use Rattle.dagcbor_decode.proofs.HeadLaws.{AreBytes}
use Rattle.dagcbor_decode.proofs.Parts.{unskimmed}
use Rattle.dagcbor_decode.proofs.Sound.{any_got}

-- the first n bytes, if the first item has n bytes
split_front : (s rest : List ℕ) (n : ℕ) → n ≡ length s → take n (s ++ rest) ≡ s
split_front s rest n e = ap (λ k. take k (s ++ rest)) e ∙ take-append_seam s rest

pub first_is : (b rest item : List ℕ) → AreBytes b → skim (decode_first b) ≡ got tt rest → item ≡ take (length b - length rest) b → IsFirstItem b item
first_is b rest item bytes e cut =
    let k = unskimmed (decode_first b) rest e in
    let f = (any_got 256 b k.0 rest bytes k.1).0 in
    let long : length b - length rest ≡ length (spelling k.0) = omega (arith, ap length f.is, length-append (spelling k.0) rest) in
    let is : item ≡ spelling k.0 = cut ∙ ap (take (length b - length rest)) f.is ∙ split_front (spelling k.0) rest _ long in
    record {
      tree = k.0;
      rest = rest;
      decoded = k.1;
      spelled = record { well_formed = f.well_formed; spellable = f.spellable; is = is };
      is = f.is ∙ ap (λ x. x ++ rest) (sym is);
    }

pub rest_shorter : (b rest : List ℕ) → AreBytes b → skim (decode_first b) ≡ got tt rest → length rest ≤ length b
rest_shorter b rest bytes e =
    let k = unskimmed (decode_first b) rest e in
    let f = (any_got 256 b k.0 rest bytes k.1).0 in
    omega (arith, ap length f.is, length-append (spelling k.0) rest)

-- the item is at the front
pub first_front : {b item : List ℕ} (f : IsFirstItem b item) → IsFront b f.tree f.rest
first_front f = record { well_formed = f.spelled.well_formed; spellable = f.spelled.spellable; is = f.is ∙ ap (λ x. x ++ f.rest) f.spelled.is }

-- and its links, in a row
pub item_links : {b item : List ℕ} (f : IsFirstItem b item) → HoldsLinks item (links_of f.tree)
item_links f = record { trees = f.tree ∷ []; whole = ((f.spelled.well_formed, f.spelled.spellable), tt); is = f.spelled.is ∙ sym (append-nil (spelling f.tree)); are = sym (append-nil (links_of f.tree)) }

pub none_first : {E : Type 0} (decoded : Decoded Tree) (e : DecodeError E) (w : Why) (left : ℕ) → skim decoded ≡ refused w left → why_of e ≡ Some w → IsRefusal decoded e
none_first (got t rest) e w left h told = absurd (cc h)
none_first (refused why k) e w left h told = let same : w ≡ why = cc h in told ∙ ap Some same

pub refusal_linked : {E : Type 0} (decoded : Decoded Tree) (e : DecodeError E) → IsRefusal decoded e → AnswersLinks decoded (Err e)
refusal_linked {E} decoded e h = by e (linked_refused decoded e h) (none_wanting decoded e h)
  where
    linked_refused : (d : Decoded Tree) (e : DecodeError E) → IsRefusal d e → linked d ≡ Err (why_of e)
    linked_refused (got t rest) e h = absurd h
    linked_refused (refused why left) e h = ap Err (sym h)

    none_wanting : (d : Decoded Tree) (e : DecodeError E) → IsRefusal d e → e ≡ OutOfMemory → ⊥
    none_wanting (got t rest) e h is = h
    none_wanting (refused why left) e h is = absurd (let k = sym (ap why_of is) ∙ h in cc k)

    by : (e : DecodeError E) → linked decoded ≡ Err (why_of e) → (e ≡ OutOfMemory → ⊥) → AnswersLinks decoded (Err e)
    by OutOfMemory l none = absurd (none refl)
    by e l none = l

pub links_answer : {b item : List ℕ} (f : IsFirstItem b item) (links : List (List ℕ)) → links ≡ links_of f.tree → linked (decode_first b) ≡ Ok links
links_answer f links e = ap linked f.decoded ∙ ap Ok (sym e)

pub first_need : {b item : List ℕ} (bytes : AreBytes b) (f : IsFirstItem b item) → any_need f.tree ≤ 256
first_need {b} bytes f = (any_got 256 b f.tree f.rest bytes f.decoded).1

-- ---- what is not returned

not_linked : {E : Type 0} (decoded : Decoded Tree) (e : DecodeError E) (t : Tree) (rest : List ℕ) → AnswersLinks decoded (Err e) → (e ≡ OutOfMemory → ⊥) → decoded ≡ got t rest → ⊥
not_linked decoded OutOfMemory t rest h other is = other refl
not_linked decoded e t rest h other is = absurd (let k = sym h ∙ ap linked is in cc k)

-- if the links can be read, the only refusal is out of memory
pub links_not_refused : {E : Type 0} (b : List ℕ) (e : DecodeError E) (links : List (List ℕ)) → AnswersLinks (decode_first b) (Err e) → (e ≡ OutOfMemory → ⊥) → AreFirstLinks b links → ⊥
links_not_refused b e links h other first = not_linked (decode_first b) e first.0 first.1 h other (any_reads 256 b first.0 first.1 first.2 first.3)

-- a refusal that is not one of bytes is not the result of decoding
pub told_of_none : {E : Type 0} (decoded : Decoded Tree) (e : DecodeError E) → why_of e ≡ None → linked decoded ≡ Err (why_of e) → ⊥
told_of_none (got t rest) e none h = absurd (cc h)
told_of_none (refused why left) e none h = let k = h ∙ ap Err none in absurd (cc k)

-- a call may be out of memory if there are links to read
pub some_links : (E : Type 0) (b : List ℕ) (links : List (List ℕ)) → AreFirstLinks b links → links ≢ [] → AnswersLinks {E = E} (decode_first b) (Err OutOfMemory)
some_links E b links first some = (first.0, first.1, any_reads 256 b first.0 first.1 first.2 first.3, λ none. some (first.4 ∙ none))
