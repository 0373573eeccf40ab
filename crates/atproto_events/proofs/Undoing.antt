-- Changes undone one by one, the last first.
use Rattle.std.proofs.Common.{◌≡◌, inr, ℕ, zero, suc, ◌<◌, List, [], ◌∷◌, ◌++◌, length, get_or, take, drop, drop-cons, Option, Some, None, refl, sym, ap, ◌∙◌, subst, Result, Ok, Err, IfOk, IfErr}
use Rattle.ipld_links.specs.Reaching.{Stored}
use Rattle.ipld_tree.specs.Cid.{CidParts}
use Rattle.atproto_mst.specs.Changes.{Changed, change_of, changes}
use Rattle.atproto_mst.specs.declared.diffs.Change.{Change}
use Rattle.atproto_events.specs.Pieces.{PieceParts, OpensTree}
use Rattle.atproto_events.specs.Naming.{NamesRoot, RootFault}
use Rattle.atproto_events.specs.Refusing.{UndoRefused}
use Rattle.atproto_events.specs.Doing.{LeadsFrom}
use Rattle.atproto_events.proofs.Led.{undone_right}
use Rattle.atproto_events.specs.Undone.{with_piece, ArePlaced, StepsBack, StepsBackAll, StepFault, StepsFault}
use Rattle.atproto_events.specs.declared.error.UndoError.{UndoError}

-- ---- entries stay in their layers

pub placed_apart : (xs ys : List PieceParts) → ArePlaced (xs ++ ys) → ArePlaced xs × ArePlaced ys
placed_apart [] ys h = (tt, h)
placed_apart (x ∷ xs) ys h = let more = placed_apart xs ys h.1 in ((h.0, more.0), more.1)

pub placed_joined : (xs ys : List PieceParts) → ArePlaced xs → ArePlaced ys → ArePlaced (xs ++ ys)
placed_joined [] ys h k = k
placed_joined (x ∷ xs) ys h k = (h.0, placed_joined xs ys h.1 k)

placed_after : (key : List ℕ) (value : Option CidParts) (ps : List PieceParts) → ArePlaced (with_piece key value ps) → ArePlaced ps
placed_after key None ps h = h
placed_after key (Some v) ps h = h.1

placed_with : (key : List ℕ) (value : Option CidParts) (ps : List PieceParts) → ArePlaced ps → ArePlaced (with_piece key value ps)
placed_with key None ps h = h
placed_with key (Some v) ps h = (refl, h)

pub step_placed : (c : Changed) (old new : List PieceParts) → StepsBack c old new → ArePlaced old → ArePlaced new
step_placed c old new s h =
    let parts = placed_apart s.front (with_piece c.0 c.1.1 s.rest) (subst ArePlaced s.was h) in
    subst ArePlaced (sym s.is) (placed_joined s.front (with_piece c.0 c.1.0 s.rest) parts.0 (placed_with c.0 c.1.0 s.rest (placed_after c.0 c.1.1 s.rest parts.1)))

-- ---- one more

change_at : (done : List Change) (i : ℕ) (d : Change) → i < length done → get_or done i d ≡ d → changes (drop i done) ≡ change_of d ∷ changes (drop (suc i) done)
change_at done i d lt is = ap changes (drop-cons done i d lt) ∙ ap (λ x. change_of x ∷ changes (drop (suc i) done)) is

pub one_more : (done : List Change) (i j : ℕ) (d : Change) (ps mid new : List PieceParts) → j ≡ suc i → i < length done → get_or done i d ≡ d → StepsBackAll (changes (drop j done)) ps mid
    → StepsBack (change_of d) mid new → StepsBackAll (changes (drop i done)) ps new
one_more done i j d ps mid new next lt is all one =
    subst (λ cs. StepsBackAll cs ps new) (sym (change_at done i d lt is)) (mid, subst (λ k. StepsBackAll (changes (drop k done)) ps mid) next all, one)

changes_split : (done : List Change) (i : ℕ) → changes done ≡ changes (take i done) ++ changes (drop i done)
changes_split done zero = refl
changes_split [] (suc i) = refl
changes_split (x ∷ done) (suc i) = ap (λ t. change_of x ∷ t) (changes_split done i)

pub stops_here : (done : List Change) (i j : ℕ) (d : Change) (ps mid : List PieceParts) (e : UndoError) → j ≡ suc i → i < length done → get_or done i d ≡ d → StepsBackAll (changes (drop j done)) ps mid
    → StepFault (change_of d) mid e → StepsFault (changes done) ps e
stops_here done i j d ps mid e next lt is all fault = record {
  before = changes (take i done);
  this = change_of d;
  following = changes (drop (suc i) done);
  is = changes_split done i ∙ ap (λ x. changes (take i done) ++ x) (change_at done i d lt is);
  now = mid;
  undone = subst (λ k. StepsBackAll (changes (drop k done)) ps mid) next all;
  fault = fault;
}

-- ---- the root before

pub root_led : (r : Result CidParts UndoError) (stored : Stored) (root : CidParts) (cs : List Changed) (ps qs : List PieceParts) → OpensTree stored root ps → StepsBackAll cs ps qs → IfOk r (NamesRoot qs)
    → IfOk r (λ old. LeadsFrom stored old cs root)
root_led (Ok old) stored root cs ps qs opened steps named = undone_right stored root old cs ps qs opened steps named
root_led (Err e) stored root cs ps qs opened steps named = tt

pub root_unnamed : (r : Result CidParts UndoError) (stored : Stored) (root : CidParts) (cs : List Changed) (ps qs : List PieceParts) → OpensTree stored root ps → StepsBackAll cs ps qs → IfErr r (RootFault qs)
    → IfErr r (UndoRefused stored root cs)
root_unnamed (Ok old) stored root cs ps qs opened steps fault = tt
root_unnamed (Err e) stored root cs ps qs opened steps fault = inr (ps, opened, inr (qs, steps, fault))
