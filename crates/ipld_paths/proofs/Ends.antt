-- The answer at the end of a walk.
use Rattle.std.proofs.Common.{Bor, rules, ◌≡◌, ◌≢◌, ℕ, ◌-◌, List, [], ◌∷◌, ◌++◌, length, take, refl, sym, ap, ◌∙◌, subst, arith, append_assoc, append-nil, length-append, Option, None, Some, MatchOption, Result, Ok, Err}
use Rattle.std.specs.List.{slice_get}
use Rattle.std.specs.Option.{IsSome}
use Rattle.std.specs.Result.{result_ok}
use Rattle.std.specs.declared.convert.Infallible.{Infallible}
use Rattle.std.proofs.Math.Seq.{take-append_seam}
use Rattle.dagcbor_heads.specs.Reading.{Reading}
use Rattle.dagcbor_heads.specs.Refusals.{RefusesPlainly}
use Rattle.dagcbor_core.specs.declared.error.DecodeError.{DecodeError}
use Rattle.dagcbor_core.specs.declared.error.DecodeError.TheVariants.{Read, RequireBorrowed, OutOfMemory, Failed, DepthOverflow}
use Rattle.ipld_tree.specs.Cid.{CidParts, AreCidParts, cid_bytes}
use Rattle.ipld_tree.specs.Tree.{Tree, link}
use Rattle.ipld_tree.specs.Spelling.{IsFront, spelling}
use Rattle.ipld_tree.proofs.Fronts.{front_unique, front_first}
use Rattle.dagcbor_items.specs.Links.{ReadsLink}
use Rattle.dagcbor_items.specs.ReadCauses.{LinkCause}
use Rattle.dagcbor_items.specs.Shapes.{view_link}
use Rattle.dagcbor_decode.specs.Blocks.{IsBlock}
use Rattle.dagcbor_decode.specs.TreeKinds.{kind_of, IsKindAt}
use Rattle.dagcbor_decode.specs.declared.kind.Kind.{Kind}
use Rattle.dagcbor_items.proofs.SliceReads.{whole_front}
use Rattle.ipld_paths.specs.Paths.{segments, At}
use Rattle.ipld_paths.specs.Parts.{BeginsWithTree, EndsWith, FindsPart}
use Rattle.ipld_paths.specs.Finding.{IsItem, FindsItemIn, FindsAlong, LeadsInto, HasNoPart, EndsWay, StopsInBlock, Walked, FollowsPath, TellsItem}
use Rattle.ipld_paths.specs.declared.find.Item.{Item}
use Rattle.ipld_paths.proofs.Leading.{at_then, at_after}

-- ---- the item

pub no_first_item : (b : List ℕ) (t : Tree) → length b ≡ 0 → BeginsWithTree b t → ⊥
no_first_item b t none k = let f = front_first b k.0 t k.1 in omega (arith, none, ap length f.3)

kind_told : (b rest : List ℕ) (t : Tree) (first : ℕ) (kind : Kind) → Some first ≡ slice_get b 0 → IsKindAt first kind → IsFront b t rest → kind ≡ kind_of t
kind_told [] rest t first kind is k f = absurd cc
kind_told (x ∷ more) rest t first kind is k f =
    let same : first ≡ x = cc in
    k t more rest (subst (λ y. IsFront (y ∷ more) t rest) (sym same) f)

front_taken : (b s rest : List ℕ) → b ≡ s ++ rest → take (length b - length rest) b ≡ s
front_taken b s rest is =
    let long : length b - length rest ≡ length s = omega (arith, ap length is, length-append s rest) in
    ap (λ n. take n b) long ∙ ap (take (length s)) is ∙ take-append_seam s rest

pub item_told : (b at rest : List ℕ) (first : ℕ) (item : Item) (t : Tree) → EndsWith b at → ((u : Tree) (r : List ℕ) → IsFront at u r → rest ≡ r) → Some first ≡ slice_get at 0 → IsKindAt first item.kind → item.place ≡ length b - length at → item.bytes.now ≡ take (length at - length rest) at → BeginsWithTree at t → IsItem b t item
item_told b at rest first item t ends found is kind place part k =
    let whole : at ≡ spelling t ++ rest = k.1.is ∙ ap (λ x. spelling t ++ x) (sym (found t k.0 k.1)) in
    let spelled : item.bytes.now ≡ spelling t = part ∙ front_taken at (spelling t) rest whole in
    record {
      kind = kind_told at k.0 t first item.kind is kind k.1;
      block = (record { well_formed = k.1.well_formed; spellable = k.1.spellable; is = spelled }, k.2);
      place = (
        ends.0,
        rest,
        ends.1 ∙ ap (λ x. ends.0 ++ x) (whole ∙ ap (λ x. x ++ rest) (sym spelled)),
        omega (arith, place, ap length ends.1, length-append ends.0 at),
      );
    }

-- ---- the link

refused_plainly : (could : Type 0) (stands : DecodeError Infallible → List ℕ → Type 0) (old new : Reading) (e : DecodeError Infallible) → RefusesPlainly could stands old e new → ¬ could
refused_plainly could stands old new (Read x) r = elim x [ ]
refused_plainly could stands old new OutOfMemory r = absurd r.1
refused_plainly could stands old new (RequireBorrowed n) r = absurd r.1
refused_plainly could stands old new Failed r = absurd r
refused_plainly could stands old new (DepthOverflow n) r = r.1
refused_plainly could stands old new e r = r.1

link_shown : (t : Tree) (s : List ℕ) → view_link t ≡ Some s → t ≡ link s
link_shown (link x) s e = (let same : x ≡ s = cc in ap link same)
link_shown _ s e = absurd cc

-- a link was pulled, or the item is not a link
abbrev pub PullsLink : List ℕ → Option CidParts → Type 0
PullsLink b result = (t : Tree) → BeginsWithTree b t → MatchOption result ((cid : List ℕ) → t ≢ link cid) (λ c. t ≡ link (cid_bytes c))

pub link_told : (b : List ℕ) (old new : Reading) (r : Result CidParts (DecodeError Infallible)) → old.left ≡ Some b → ReadsLink old r new → PullsLink b (result_ok r)
link_told b old new (Ok c) l h = λ t k.
    let x = h.taken b l in
    (front_unique b k.0 x.1 t x.0 k.1 x.2).0 ∙ link_shown x.0 (cid_bytes c) x.3
link_told b old new (Err e) l h = λ t k cid is.
    refused_plainly _ LinkCause old new e h record {
      bytes = b;
      tree = link cid;
      rest = k.0;
      left = l;
      front = subst (λ u. IsFront b u k.0) is k.1;
      accepted = refl;
      within = omega arith;
    }

-- ---- the walk

-- the walk has come to these bytes, with these segments left
abbrev pub Walks : List ℕ → List (List ℕ) → List ℕ → List (List ℕ) → Type 0
Walks b path at left = (t : Tree) → BeginsWithTree b t → (u : Tree) × Walked t path left u at

pub walk_over : (b at : List ℕ) (path left : List (List ℕ)) → Walks b path at left → left ≡ [] → FollowsPath b path at left
walk_over b at path left w none = λ t k. let x = w t k in (x.0, x.1, subst (λ y. EndsWay y x.0) (sym none) tt)

pub walk_stopped : {A : Type 0} (bytes_of : A → List ℕ) (b at segment : List ℕ) (path left more : List (List ℕ)) → Walks b path at left → left ≡ segment ∷ more → FindsPart {A = A} bytes_of at segment None → FollowsPath b path at left
walk_stopped bytes_of b at segment path left more w is none = λ t k. let x = w t k in (x.0, x.1, subst (λ y. EndsWay y x.0) (sym is) (none x.0 x.1.begins))

pub walk_goes_on : {A : Type 0} (bytes_of : A → List ℕ) (a : A) (b at segment : List ℕ) (path left more : List (List ℕ)) → Walks b path at left → left ≡ segment ∷ more → FindsPart bytes_of at segment (Some a) → Walks b path (bytes_of a) more
walk_goes_on bytes_of a b at segment path left more w is found = λ t k.
    let x = w t k in
    let p = found x.0 x.1.begins in (
      p.0,
      record {
        passed = x.1.passed ++ segment ∷ [];
        whole = x.1.whole ∙ ap (λ y. x.1.passed ++ y) is ∙ sym (append_assoc x.1.passed (segment ∷ []) more);
        leads = at_then x.1.passed segment t x.0 p.0 x.1.leads p.1;
        begins = p.2;
      },
    )

pub ends_further : (b at part : List ℕ) → EndsWith b at → EndsWith at part → EndsWith b part
ends_further b at part e f = (e.0 ++ f.0, e.1 ∙ ap (λ x. e.0 ++ x) f.1 ∙ sym (append_assoc e.0 f.0 part))

-- ---- its end

block_begins : (b : List ℕ) (t : Tree) → IsBlock b t → BeginsWithTree b t
block_begins b t h = ([], whole_front h.0, h.1)

pub led_into : (b at : List ℕ) (path left : List (List ℕ)) → FollowsPath b path at left → (t : Tree) → IsBlock b t → (u : Tree) × LeadsInto b path left t u × EndsWay left u × BeginsWithTree at u
led_into b at path left w t h =
    let x = w t (block_begins b t h) in
    (x.0, record { block = h; passed = x.1.passed; whole = x.1.whole; leads = x.1.leads }, x.2, x.1.begins)

pub leads_all : (b : List ℕ) (path left : List (List ℕ)) (t u : Tree) → LeadsInto b path left t u → left ≡ [] → At path t u
leads_all b path left t u k none = subst (λ p. At p t u) (sym (k.whole ∙ ap (λ x. k.passed ++ x) none ∙ append-nil k.passed)) k.leads

pub nowhere : (left : List (List ℕ)) (u : Tree) → left ≢ [] → EndsWay left u → HasNoPart left u
nowhere [] u some h = absurd (some refl)
nowhere (s ∷ more) u some h = h

leads_to_none : (left : List (List ℕ)) (u found : Tree) → HasNoPart left u → ¬ At left u found
leads_to_none [] u found none h = none
leads_to_none (s ∷ more) u found none h = none h.0 h.1

pub nothing_found : (b : List ℕ) (path left : List (List ℕ)) (t u : Tree) → LeadsInto b path left t u → HasNoPart left u → FindsItemIn b path None
nothing_found b path left t u k none = (
  t,
  k.block,
  λ found h.
      leads_to_none left u found none (at_after k.passed left t u found (k.block.0.well_formed, k.block.0.spellable) k.leads (subst (λ p. At p t found) k.whole h)),
)

pub no_part_of_link : (left : List (List ℕ)) (cid : List ℕ) → left ≢ [] → HasNoPart left (link cid)
no_part_of_link [] cid some = absurd (some refl)
no_part_of_link (s ∷ more) cid some = λ part h. h

pub ends_at_item : (b at : List ℕ) (path left : List (List ℕ)) (item : Item) → FollowsPath b path at left → left ≡ [] → ((t : Tree) → BeginsWithTree at t → IsItem b t item) → (t : Tree) → IsBlock b t → FindsItemIn b path (Some item)
ends_at_item b at path left item w none told t h =
    let k = led_into b at path left w t h in
    (t, k.0, h, leads_all b path left t k.0 k.1 none, told k.0 k.3)

pub ends_at_none : {A : Type 0} (b at : List ℕ) (path left : List (List ℕ)) → FollowsPath b path at left → ((t : Tree) → BeginsWithTree at t → ⊥) → (t : Tree) → IsBlock b t → A
ends_at_none b at path left w told t h = let k = led_into b at path left w t h in absurd (told k.0 k.3)

pub item_or_none : (b at : List ℕ) (path left : List (List ℕ)) (o : Option Item) → FollowsPath b path at left → left ≡ [] → TellsItem b at o → (t : Tree) → IsBlock b t → FindsItemIn b path o
item_or_none b at path left None w none told t h = ends_at_none b at path left w told t h
item_or_none b at path left (Some item) w none told t h = ends_at_item b at path left item w none told t h

some_left : (segment : List ℕ) (left more : List (List ℕ)) → left ≡ segment ∷ more → left ≢ []
some_left segment left more is none = let differ : segment ∷ more ≡ [] = sym is ∙ none in absurd (cc differ)

pub ends_at_link : (b at segment : List ℕ) (cid : CidParts) (path left more : List (List ℕ)) → FollowsPath b path at left → left ≡ segment ∷ more → ((t : Tree) → BeginsWithTree at t → AreCidParts cid × (t ≡ link (cid_bytes cid))) → (t : Tree) → IsBlock b t → (u : Tree) × AreCidParts cid × LeadsInto b path left u (link (cid_bytes cid)) × (left ≢ [])
ends_at_link b at segment cid path left more w is told t h =
    let k = led_into b at path left w t h in
    (t, (told k.0 k.3).0, subst (LeadsInto b path left t) (told k.0 k.3).1 k.1, some_left segment left more is)

pub ends_nowhere : (b at segment : List ℕ) (path left more : List (List ℕ)) → FollowsPath b path at left → left ≡ segment ∷ more → ((t : Tree) → BeginsWithTree at t → (cid : List ℕ) → t ≢ link cid) → (t : Tree) → IsBlock b t
    → (v u : Tree) × LeadsInto b path left v u × HasNoPart left u × ((cid : List ℕ) → u ≢ link cid)
ends_nowhere b at segment path left more w is told t h =
    let k = led_into b at path left w t h in
    (t, k.0, k.1, nowhere left k.0 (some_left segment left more is) k.2, told k.0 k.3)

pub ends_before : (b at segment : List ℕ) (path left more : List (List ℕ)) → FollowsPath b path at left → left ≡ segment ∷ more → (t : Tree) → IsBlock b t → FindsItemIn b path None
ends_before b at segment path left more w is t h =
    let k = led_into b at path left w t h in
    nothing_found b path left t k.0 k.1 (nowhere left k.0 (some_left segment left more is) k.2)

-- ---- all of a list

pub along_all : {A : Type 0} (bytes_of : A → List ℕ) (a : A) (b : List ℕ) (path left : List (List ℕ)) → Walks b path (bytes_of a) left → left ≡ [] → FindsAlong bytes_of b path (Some a)
along_all bytes_of a b path left w none = λ t k.
    let x = w t k in
    (x.0, subst (λ p. At p t x.0) (sym (x.1.whole ∙ ap (λ y. x.1.passed ++ y) none ∙ append-nil x.1.passed)) x.1.leads, x.1.begins)

pub along_nowhere : {A : Type 0} (bytes_of : A → List ℕ) (b at segment : List ℕ) (path left more : List (List ℕ)) → Walks b path at left → left ≡ segment ∷ more → FindsPart {A = A} bytes_of at segment None → FindsAlong {A = A} bytes_of b path None
along_nowhere bytes_of b at segment path left more w is none = λ t k u h.
    let x = w t k in
    let following = at_after x.1.passed left t x.0 u (k.1.well_formed, k.1.spellable) x.1.leads (subst (λ p. At p t u) x.1.whole h) in
    let on = subst (λ p. At p x.0 u) is following in
    none x.0 x.1.begins on.0 on.1

pub none_along : {A : Type 0} (bytes_of : A → List ℕ) (b : List ℕ) (path : List (List ℕ)) → FindsAlong {A = A} bytes_of b path None → (t : Tree) → IsBlock b t → FindsItemIn b path None
none_along bytes_of b path none t h = (t, h, none t (block_begins b t h))

pub item_along : {A : Type 0} (bytes_of : A → List ℕ) (a : A) (b : List ℕ) (path : List (List ℕ)) (o : Option Item) → FindsAlong bytes_of b path (Some a) → TellsItem b (bytes_of a) o → (t : Tree) → IsBlock b t → FindsItemIn b path o
item_along bytes_of a b path None found told t h = let p = found t (block_begins b t h) in absurd (told p.0 p.2)
item_along bytes_of a b path (Some item) found told t h = let p = found t (block_begins b t h) in (t, p.0, h, p.1, told p.0 p.2)

-- ---- as far as it leads

pub item_begins : (b at : List ℕ) (path left : List (List ℕ)) (o : Option Item) → FollowsPath b path at left → TellsItem b at o → (t : Tree) → IsBlock b t → IsSome o
item_begins b at path left None w told t h = ends_at_none b at path left w told t h
item_begins b at path left (Some item) w told t h = search rules

pub stopped_in : (b at path : List ℕ) (left : Bor (List ℕ)) (o : Option Item) (item : Item) → FollowsPath b (segments path) at (segments left.now) → EndsWith path left.now → TellsItem b at o → o ≡ Some item → (t : Tree) → IsBlock b t → StopsInBlock b path (record { item = item; left = left })
stopped_in b at path left o item w following told is t h =
    let k = led_into b at (segments path) (segments left.now) w t h in
    record {
      tree = t;
      found = k.0;
      led = k.1;
      stopped = k.2;
      item = subst (TellsItem b at) is told k.0 k.3;
      following = following;
    }
