-- A data model, put part by part.
use Rattle.std.proofs.Common.{◌≡◌, ℕ, ◌+◌, ◌≤◌, List, [], ◌∷◌, ◌++◌, length, Some, sym, ap, ◌∙◌, subst, arith, append_assoc, append-nil, length-append}
use Rattle.ipld_tree.specs.Tree.{Tree}
use Rattle.ipld_tree.specs.Spelling.{spelling, text_spelling}
use Rattle.dag_pb.specs.Node.{LinkParts, Field, BeginsWithFields}
use Rattle.dag_pb.specs.Reads.{links_in}
use Rattle.dag_pb.proofs.Rows.{one_row}
use Rattle.lent_memory.specs.Puts.{PutsAt}
use Rattle.lent_memory.proofs.Putting.{put_both, room_after}
use Rattle.dag_pb_model.specs.Forms.{part_form, written_link, links_form}
use Rattle.dag_pb_model.proofs.Forms.{part_some, link_written}

-- ---- a part that may be left out

pub part_put : (key : List ℕ) (t : Tree) (at middle end : ℕ) (old now new : List ℕ) → at + length (part_form key (Some t)) ≤ length old → PutsAt (text_spelling key) at old now middle → PutsAt (spelling t) middle now new end → PutsAt (part_form key (Some t)) at old new end
part_put key t at middle end old now new room p q =
    let is = part_some key t in
    subst (λ s. PutsAt s at old new end) (sym is)
    (put_both at middle end (text_spelling key) (spelling t) old now new (subst (λ s. at + length s ≤ length old) is room) p q)

-- ---- five parts

pub five_put : (at p q r t end : ℕ) (a b c d e old u v w x new : List ℕ) → at + length (a ++ (b ++ (c ++ (d ++ e)))) ≤ length old → PutsAt a at old u p → PutsAt b p u v q → PutsAt c q v w r → PutsAt d r w x t → PutsAt e t x new end → PutsAt (a ++ (b ++ (c ++ (d ++ e)))) at old new end
five_put at p q r t end a b c d e old u v w x new room h i j k l =
    let second = room_after at p a (b ++ (c ++ (d ++ e))) old u room h in
    let third = room_after p q b (c ++ (d ++ e)) u v second i in
    let fourth = room_after q r c (d ++ e) v w third j in
    put_both at p end a (b ++ (c ++ (d ++ e))) old u new room h
    (put_both p q end b (c ++ (d ++ e)) u v new second i
    (put_both q r end c (d ++ e) v w new third j
    (put_both r t end d e w x new fourth k l)))

pub front_room : (s t old : List ℕ) → s ≡ t → length s ≤ length old → 0 + length t ≤ length old
front_room s t old e room = omega (arith, room, ap length e)

-- room for the fourth of them, and for the last
pub fourth_room : (at p q r : ℕ) (a b c d e old u v w : List ℕ) → at + length (a ++ (b ++ (c ++ (d ++ e)))) ≤ length old → PutsAt a at old u p → PutsAt b p u v q → PutsAt c q v w r → r + length (d ++ e) ≤ length w
fourth_room at p q r a b c d e old u v w room h i j =
    room_after q r c (d ++ e) v w (room_after p q b (c ++ (d ++ e)) u v (room_after at p a (b ++ (c ++ (d ++ e))) old u room h) i) j

-- ---- links in a row

-- some links were put, and there is room for those that are left
pub record Placing (fields rest old now : List ℕ) (at place : ℕ) : Type 0 where
  pub row : List Field
  pub stands : BeginsWithFields fields row []
  pub left : List Field
  pub begins : BeginsWithFields rest left []
  pub done : List ℕ
  pub is : links_form (links_in row) ≡ done ++ links_form (links_in left)
  pub fits : at + length (done ++ links_form (links_in left)) ≤ length old
  pub puts : PutsAt done at old now place

-- the next link has room
first_form : (l : LinkParts) (ls : List LinkParts) → links_form (l ∷ ls) ≡ written_link l ++ links_form ls
first_form l ls = ap (λ s. s ++ links_form ls) (link_written l)

next_form : (left : List Field) (l : LinkParts) (more : List Field) → links_in left ≡ l ∷ links_in more → links_form (links_in left) ≡ written_link l ++ links_form (links_in more)
next_form left l more e = ap links_form e ∙ first_form l (links_in more)

pub one_placed : (fields rest following old now new : List ℕ) (at place end : ℕ) (l : LinkParts) (more : List Field) (g : Placing fields rest old now at place) → links_in g.left ≡ l ∷ links_in more → BeginsWithFields following more [] → PutsAt (written_link l) place now new end → Placing fields following old new at end
one_placed fields rest following old now new at place end l more g e h put =
    let first = written_link l in
    let ends = links_form (links_in more) in
    let joined : g.done ++ links_form (links_in g.left) ≡ (g.done ++ first) ++ ends = ap (λ s. g.done ++ s) (next_form g.left l more e) ∙ sym (append_assoc g.done first ends) in
    record {
      row = g.row;
      stands = g.stands;
      left = more;
      begins = h;
      done = g.done ++ first;
      is = g.is ∙ joined;
      fits = subst (λ s. at + length s ≤ length old) joined g.fits;
      puts = put_both at place end g.done first old now new (omega (arith, g.fits, ap length joined, length-append (g.done ++ first) ends)) g.puts put;
    }

pub all_placed : (fields rest old now : List ℕ) (at place : ℕ) (g : Placing fields rest old now at place) → links_in g.left ≡ [] → (row : List Field) → BeginsWithFields fields row [] → PutsAt (links_form (links_in row)) at old now place
all_placed fields rest old now at place g e row h =
    let done : links_form (links_in g.row) ≡ g.done = g.is ∙ ap (λ ls. g.done ++ links_form ls) e ∙ append-nil g.done in
    subst (λ s. PutsAt s at old now place) (sym done ∙ ap (λ r. links_form (links_in r)) (one_row fields g.row row g.stands h)) g.puts
