-- Links, put one after the other.
use Rattle.std.proofs.Common.{◌≡◌, ◌≢◌, ℕ, ◌+◌, ◌≤◌, List, [], ◌∷◌, ◌++◌, length, length-append, drop, length-drop, flat_map, Option, None, Some, refl, sym, ap, ◌∙◌, subst, arith, append_assoc, append-nil}
use Rattle.std.specs.List.{AllByRecursion}
use Rattle.std.proofs.lemmas.Grind.{flat_map-append}
use Rattle.ipld_tree.specs.Cid.{CidParts, AreCidParts, cid_bytes}
use Rattle.ipld_tree.proofs.Cids.{cid_unique}
use Rattle.ipld_tree.specs.Spelling.{IsFront, AreFronts, items_spelling}
use Rattle.ipld_tree.proofs.Fronts.{item_opened, items_after, front_nonempty}
use Rattle.lent_memory.specs.Puts.{put_at, PutsAt}
use Rattle.lent_memory.proofs.Putting.{put_fits, put_after}
use Rattle.dag_pb.specs.Node.{LinkParts}
use Rattle.dag_pb.specs.Spelling.{link_spelling, IsSpellableLink}
use Rattle.dag_pb_model.specs.Model.{link_model}
use Rattle.dag_pb_model.specs.Reading.{link_models, IsLinkModel, BeginsNoLinkModel, HasRoomForLinks, FillsLinks}

-- ---- a data model is of one link

same_parts : (h k : CidParts) (m n : Option (List ℕ)) (s t : Option ℕ) → link_model (record { hash = h; name = m; tsize = s }) ≡ link_model (record { hash = k; name = n; tsize = t }) → (cid_bytes h ≡ cid_bytes k) × (m ≡ n) × (s ≡ t)
same_parts h k None None None None e = (cc e, refl, refl)
same_parts h k None None None (Some t) e = absurd (cc e)
same_parts h k None None (Some s) None e = absurd (cc e)
same_parts h k None None (Some s) (Some t) e = let same : s ≡ t = cc e in (cc e, refl, ap Some same)
same_parts h k None (Some n) None None e = absurd (cc e)
same_parts h k None (Some n) None (Some t) e = absurd (cc e)
same_parts h k None (Some n) (Some s) None e = absurd (cc e)
same_parts h k None (Some n) (Some s) (Some t) e = absurd (cc e)
same_parts h k (Some m) None None None e = absurd (cc e)
same_parts h k (Some m) None None (Some t) e = absurd (cc e)
same_parts h k (Some m) None (Some s) None e = absurd (cc e)
same_parts h k (Some m) None (Some s) (Some t) e = absurd (cc e)
same_parts h k (Some m) (Some n) None None e = let name : m ≡ n = cc e in (cc e, ap Some name, refl)
same_parts h k (Some m) (Some n) None (Some t) e = absurd (cc e)
same_parts h k (Some m) (Some n) (Some s) None e = absurd (cc e)
same_parts h k (Some m) (Some n) (Some s) (Some t) e = let name : m ≡ n = cc e in let same : s ≡ t = cc e in (cc e, ap Some name, ap Some same)

pub same_link : (l m : LinkParts) → AreCidParts l.hash → AreCidParts m.hash → link_model l ≡ link_model m → l ≡ m
same_link l m h k e =
    let p = same_parts l.hash m.hash l.name m.name l.tsize m.tsize e in
    let hash = cid_unique l.hash m.hash h k p.0 in
    λ i. record { hash = hash i; name = p.1 i; tsize = p.2 i }

nothing_there : (rest : List ℕ) (l : LinkParts) (ls : List LinkParts) → rest ≡ [] → AreFronts rest (link_models (l ∷ ls)) [] → ⊥
nothing_there rest l ls e h =
    let f = (item_opened rest [] (link_model l) (link_models ls) h).0 in
    front_nonempty (items_spelling (link_models ls) ++ []) (link_model l) (subst (λ x. IsFront x (link_model l) (items_spelling (link_models ls) ++ [])) e f)

pub one_row : (b : List ℕ) (ls ms : List LinkParts) → AreFronts b (link_models ls) [] → AreFronts b (link_models ms) [] → AllByRecursion IsSpellableLink ls → AllByRecursion IsSpellableLink ms → ls ≡ ms
one_row b [] [] h k s t = refl
one_row b [] (m ∷ ms) h k s t = absurd (nothing_there b m ms h.is k)
one_row b (l ∷ ls) [] h k s t = absurd (nothing_there b l ls k.is h)
one_row b (l ∷ ls) (m ∷ ms) h k s t =
    let p = item_opened b [] (link_model l) (link_models ls) h in
    let x = items_spelling (link_models ls) ++ [] in
    let q = items_after b x [] (link_model l) (link_model m) (link_models ms) p.0 k in
    let first = same_link l m s.0.valid t.0.valid (sym q.0) in
    let rest = one_row x ls ms p.1 q.1 s.1 t.1 in
    λ i. first i ∷ rest i

-- ---- the walk

-- the links that were put, and those that are left
pub record Filling (b rest old now : List ℕ) (at : ℕ) : Type 0 where
  pub done : List LinkParts
  pub more : List LinkParts
  pub there : AreFronts b (link_models (done ++ more)) []
  pub spellable : AllByRecursion IsSpellableLink (done ++ more)
  pub left : AreFronts rest (link_models more) []
  pub left_spellable : AllByRecursion IsSpellableLink more
  pub fits : length (flat_map link_spelling (done ++ more)) ≤ length old
  pub place : at ≡ length (flat_map link_spelling done)
  pub stands : now ≡ flat_map link_spelling done ++ drop (length (flat_map link_spelling done)) old

pub none_filled : (b old : List ℕ) → HasRoomForLinks b old → Filling b b old old 0
none_filled b old h = record {
  done = [];
  more = h.0;
  there = h.1;
  spellable = h.2;
  left = h.1;
  left_spellable = h.2;
  fits = h.3;
  place = refl;
  stands = refl;
}

-- if bytes are left, they begin with a link
pub link_there : (b rest old now : List ℕ) (at : ℕ) → rest ≢ [] → Filling b rest old now at → ¬ BeginsNoLinkModel rest
link_there b rest old now at some f none = by f.more f.left
  where
    by : (ls : List LinkParts) → AreFronts rest (link_models ls) [] → ⊥
    by [] h = some h.is
    by (l ∷ ls) h = none l (items_spelling (link_models ls) ++ []) (item_opened rest [] (link_model l) (link_models ls) h).0

-- and it is the first that is left
record First (rest following : List ℕ) (l : LinkParts) (more : List LinkParts) : Type 0 where
  others : List LinkParts
  is : more ≡ l ∷ others
  left : AreFronts following (link_models others) []
  spellable : AllByRecursion IsSpellableLink others

first_left : (rest following : List ℕ) (l : LinkParts) (more : List LinkParts) → rest ≢ [] → IsLinkModel rest l following → AreFronts rest (link_models more) [] → AllByRecursion IsSpellableLink more → First rest following l more
first_left rest following l [] some h k s = absurd (some k.is)
first_left rest following l (m ∷ ms) some h k s =
    let q = items_after rest following [] (link_model l) (link_model m) (link_models ms) h.1 k in
    let first = same_link m l s.0.valid h.0 q.0 in
    record { others = ms; is = λ i. first i ∷ ms; left = q.1; spellable = s.1 }

one_more : (done others : List LinkParts) (l : LinkParts) → length (flat_map link_spelling (done ++ l ∷ others)) ≡ length (flat_map link_spelling done) + (length (link_spelling l) + length (flat_map link_spelling others))
one_more done others l =
    omega (arith, ap length (flat_map-append link_spelling done (l ∷ others)), length-append (flat_map link_spelling done) (flat_map link_spelling (l ∷ others)), length-append (link_spelling l) (flat_map link_spelling others))

pub link_room : (b rest following old now : List ℕ) (at : ℕ) (l : LinkParts) → rest ≢ [] → IsLinkModel rest l following → Filling b rest old now at → at + length (link_spelling l) ≤ length now
link_room b rest following old now at l some h f =
    let first = first_left rest following l f.more some h f.left f.left_spellable in
    let bs = flat_map link_spelling f.done in
    omega (arith, f.fits, ap (λ x. length (flat_map link_spelling (f.done ++ x))) first.is, one_more f.done first.others l, f.place, ap length f.stands, length-append bs (drop (length bs) old), length-drop (length bs) old)

pub one_filled : (b rest following old now new : List ℕ) (at end : ℕ) (l : LinkParts) → rest ≢ [] → IsLinkModel rest l following → PutsAt (link_spelling l) at now new end → Filling b rest old now at → Filling b following old new end
one_filled b rest following old now new at end l some h puts f =
    let first = first_left rest following l f.more some h f.left f.left_spellable in
    let whole : f.done ++ f.more ≡ (f.done ++ l ∷ []) ++ first.others = ap (λ x. f.done ++ x) first.is ∙ sym (append_assoc f.done (l ∷ []) first.others) in
    let bs = flat_map link_spelling f.done in
    let s = link_spelling l in
    let put : flat_map link_spelling (f.done ++ l ∷ []) ≡ bs ++ s = flat_map-append link_spelling f.done (l ∷ []) ∙ ap (λ x. bs ++ x) (append-nil s) in
    record {
      done = f.done ++ l ∷ [];
      more = first.others;
      there = subst (λ x. AreFronts b (link_models x) []) whole f.there;
      spellable = subst (AllByRecursion IsSpellableLink) whole f.spellable;
      left = first.left;
      left_spellable = first.spellable;
      fits = subst (λ x. length (flat_map link_spelling x) ≤ length old) whole f.fits;
      place = omega (arith, puts.0, f.place, ap length put, length-append bs s);
      stands = puts.1 ∙ ap (λ n. put_at n s now) f.place ∙ ap (put_at (length bs) s) f.stands
          ∙ put_after bs s old (omega (arith, f.fits, ap (λ x. length (flat_map link_spelling (f.done ++ x))) first.is, one_more f.done first.others l))
          ∙ ap (λ x. x ++ drop (length x) old) (sym put);
    }

none_left : (rest : List ℕ) (ls : List LinkParts) → rest ≡ [] → AreFronts rest (link_models ls) [] → ls ≡ []
none_left rest [] e h = refl
none_left rest (l ∷ ls) e h = absurd (nothing_there rest l ls e h)

-- bytes at the front
pub at_front : (s old new : List ℕ) → length s ≤ length old → new ≡ s ++ drop (length s) old → new ≡ put_at 0 s old
at_front s old new room e = e ∙ ap (λ n. s ++ drop n old) {x = length s} {y = 0 + length s} (omega arith) ∙ sym (put_fits 0 s old (omega (arith, room)))

pub all_filled : (b rest old now : List ℕ) (at : ℕ) → rest ≡ [] → Filling b rest old now at → FillsLinks b old now at
all_filled b rest old now at e f ls h s =
    let none = none_left rest f.more e f.left in
    let same : ls ≡ f.done = one_row b ls (f.done ++ f.more) h f.there s f.spellable ∙ ap (λ x. f.done ++ x) none ∙ append-nil f.done in
    let bs = flat_map link_spelling f.done in
    let room : length bs ≤ length old = omega (arith, f.fits, ap length (flat_map-append link_spelling f.done f.more), length-append bs (flat_map link_spelling f.more)) in
    let put : PutsAt bs 0 old now at = (omega (arith, f.place), at_front bs old now room f.stands) in
    subst (λ x. PutsAt (flat_map link_spelling x) 0 old now at) (sym same) put
