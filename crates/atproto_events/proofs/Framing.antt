-- Frames and their kinds.
use Rattle.std.proofs.Common.{◌≡◌, ◌≢◌, inl, inr, ℕ, ℤ, pos, negsuc, ◌+◌, ◌-◌, ◌*◌, ◌≤◌, List, [], ◌++◌, length, length-append, take, get_or, refl, sym, ap, ◌∙◌, subst, arith, Option, None, Some, Result, Ok, Err, MatchResult}
use Rattle.std.proofs.lemmas.List.{append_cancel_right, take_at}
use Rattle.dagcbor_core.specs.Steps.{default_steps}
use Rattle.dagcbor_core.specs.declared.error.DecodeError.{DecodeError}
use Rattle.dagcbor_core.specs.declared.error.DecodeError.TheVariants as unread
use Rattle.std.specs.declared.convert.Infallible.{Infallible}
use Rattle.ipld_tree.specs.Tree.{Tree}
use Rattle.ipld_tree.specs.Spelling.{IsSpelling, IsFront}
use Rattle.ipld_tree.proofs.Fronts.{front_unique}
use Rattle.dagcbor_items.specs.Shapes.{Shape}
use Rattle.dagcbor_items.specs.Skips.{EndByHeads}
use Rattle.dagcbor_items.proofs.Skipping.{one_found, ends_within}
use Rattle.dagcbor_items.proofs.SliceReads.{whole_front}
use Rattle.dagcbor_read.specs.Whole.{IsWhole}
use Rattle.dagcbor_decode.specs.Verdicts.{answer, why_of}
use Rattle.dagcbor_decode.specs.Decode.{Decoded, got, refused, decode}
use Rattle.dagcbor_decode.proofs.Laws.{refused_no_block}
use Rattle.ipld_links.specs.Blocks.{HasBlock}
use Rattle.types_events.specs.Events.{frame_header_shape}
use Rattle.atproto_events.specs.Kinds.{IsKind, NoKindFor}
use Rattle.atproto_events.specs.Bodies.{IsBody, IsNoBody, BodyRefused}
use Rattle.atproto_events.specs.Frames.{IsHeader, SplitsFrame, IsFrameOf, IsFrame, HasNoItem, HasNoEnd, HasNoKind, HeaderRefused, PartsRefused, FrameRefused, BeginsNoFrame, BeginsNoFrameFor}
use Rattle.atproto_events.specs.declared.frame_error.FrameError.{FrameError}
use Rattle.atproto_events.specs.declared.frame_error.FrameError.TheVariants as error
use Rattle.atproto_events.specs.declared.kind.Kind.{Kind}
use Rattle.atproto_events.specs.declared.kind.Kind.TheVariants as kind
use Rattle.atproto_events.specs.declared.body.Frame.{Frame}
use Rattle.atproto_events.specs.declared.body.Frame.TheVariants as frame

-- ---- items

pub cut_item : (b r : List ℕ) → EndByHeads b 1 r → b ≡ take (length b - length r) b ++ r
cut_item b r h =
    let e = ends_within b r 1 h in
    let n : length e.0 ≡ length b - length r = omega (arith, ap length e.1, length-append e.0 r) in
    e.1 ∙ ap (λ x. x ++ r) (sym (take_at e.0 r (length b - length r) n) ∙ ap (take (length b - length r)) (sym e.1))

pub item_within : (b r : List ℕ) → EndByHeads b 1 r → length r ≤ length b
item_within b r h = let e = ends_within b r 1 h in omega (arith, ap length e.1, length-append e.0 r)

front_after : (b t_bytes rest : List ℕ) (t : Tree) → IsSpelling t_bytes t → b ≡ t_bytes ++ rest → IsFront b t rest
front_after b t_bytes rest t h e = record { well_formed = h.well_formed; spellable = h.spellable; is = e ∙ ap (λ x. x ++ rest) h.is }

-- bytes that begin with the spelling of an item begin with an item
item_there : (b item rest : List ℕ) (t : Tree) → IsSpelling item t → b ≡ item ++ rest → HasNoItem b → ⊥
item_there b item rest t h e none = one_found (λ (s : List ℕ). s) b rest t None none (front_after b item rest t h e)

-- and it ends where its heads say
same_end : (b item rest following : List ℕ) (t : Tree) → IsSpelling item t → b ≡ item ++ rest → EndByHeads b 1 following → following ≡ rest
same_end b item rest following t h e ends = one_found (λ (s : List ℕ). s) b rest t (Some following) ends (front_after b item rest t h e)

-- ---- values

whole_unique : {V : Type 0} (shape : Shape Tree V) (steps : ℕ) (b : List ℕ) (v w : V) → IsWhole shape steps b v → IsWhole shape steps b w → v ≡ w
whole_unique shape steps b v w h k =
    let same = (front_unique b [] [] h.0 k.0 (whole_front h.1) (whole_front k.1)).0 in
    let e : Some v ≡ Some w = sym h.2 ∙ ap shape.view same ∙ k.2 in
    cc e

-- ---- refusals

no_none : (d : Decoded Tree) → answer d ≡ Err None → ⊥
no_none (got t rest) e = cc e
no_none (refused why left) e = cc e

-- a refusal of a body that is not a block
pub refused_other : (b : List ℕ) (e : DecodeError Infallible) → Err (why_of e) ≡ answer (decode b) → (HasBlock b → ⊥) × (e ≢ unread.OutOfMemory)
refused_other b e h = (λ k. refused_no_block b e k.0 (sym h) k.1, λ is. no_none (decode b) (sym h ∙ ap (λ x. Err (why_of x)) is))

-- ---- kinds

abbrev name_number : Option (List ℕ) → ℕ
name_number None = 0
name_number (Some name) = get_or name 1 0 + 256 * get_or name 2 0

abbrev place : Kind → ℕ
place kind.Commit = 0
place kind.Sync = 1
place kind.Identity = 2
place kind.Account = 3
place kind.Info = 4
place kind.Error = 5
place (kind.Other n) = 6

some_name : (a b : List ℕ) → Some a ≡ Some b → a ≡ b
some_name a b e = cc e

other_op : {n : ℕ} → pos n ≡ negsuc 0 → ⊥
other_op e = cc e

-- a header says one kind
same_place : (op : ℤ) (name : Option (List ℕ)) (k l : Kind) → IsKind op name k → IsKind op name l → place k ≡ place l
same_place op name kind.Commit kind.Commit h k = refl
same_place op name kind.Commit kind.Sync h k = absurd (omega (arith, ap name_number (sym h.1 ∙ k.1)))
same_place op name kind.Commit kind.Identity h k = absurd (omega (arith, ap name_number (sym h.1 ∙ k.1)))
same_place op name kind.Commit kind.Account h k = absurd (omega (arith, ap name_number (sym h.1 ∙ k.1)))
same_place op name kind.Commit kind.Info h k = absurd (omega (arith, ap name_number (sym h.1 ∙ k.1)))
same_place op name kind.Commit kind.Error h k = absurd (other_op (sym h.0 ∙ k))
same_place op name kind.Commit (kind.Other m) h k = absurd (k.2.0 (some_name _ _ (sym k.1 ∙ h.1)))
same_place op name kind.Sync kind.Commit h k = absurd (omega (arith, ap name_number (sym h.1 ∙ k.1)))
same_place op name kind.Sync kind.Sync h k = refl
same_place op name kind.Sync kind.Identity h k = absurd (omega (arith, ap name_number (sym h.1 ∙ k.1)))
same_place op name kind.Sync kind.Account h k = absurd (omega (arith, ap name_number (sym h.1 ∙ k.1)))
same_place op name kind.Sync kind.Info h k = absurd (omega (arith, ap name_number (sym h.1 ∙ k.1)))
same_place op name kind.Sync kind.Error h k = absurd (other_op (sym h.0 ∙ k))
same_place op name kind.Sync (kind.Other m) h k = absurd (k.2.1 (some_name _ _ (sym k.1 ∙ h.1)))
same_place op name kind.Identity kind.Commit h k = absurd (omega (arith, ap name_number (sym h.1 ∙ k.1)))
same_place op name kind.Identity kind.Sync h k = absurd (omega (arith, ap name_number (sym h.1 ∙ k.1)))
same_place op name kind.Identity kind.Identity h k = refl
same_place op name kind.Identity kind.Account h k = absurd (omega (arith, ap name_number (sym h.1 ∙ k.1)))
same_place op name kind.Identity kind.Info h k = absurd (omega (arith, ap name_number (sym h.1 ∙ k.1)))
same_place op name kind.Identity kind.Error h k = absurd (other_op (sym h.0 ∙ k))
same_place op name kind.Identity (kind.Other m) h k = absurd (k.2.2 (some_name _ _ (sym k.1 ∙ h.1)))
same_place op name kind.Account kind.Commit h k = absurd (omega (arith, ap name_number (sym h.1 ∙ k.1)))
same_place op name kind.Account kind.Sync h k = absurd (omega (arith, ap name_number (sym h.1 ∙ k.1)))
same_place op name kind.Account kind.Identity h k = absurd (omega (arith, ap name_number (sym h.1 ∙ k.1)))
same_place op name kind.Account kind.Account h k = refl
same_place op name kind.Account kind.Info h k = absurd (omega (arith, ap name_number (sym h.1 ∙ k.1)))
same_place op name kind.Account kind.Error h k = absurd (other_op (sym h.0 ∙ k))
same_place op name kind.Account (kind.Other m) h k = absurd (k.2.3 (some_name _ _ (sym k.1 ∙ h.1)))
same_place op name kind.Info kind.Commit h k = absurd (omega (arith, ap name_number (sym h.1 ∙ k.1)))
same_place op name kind.Info kind.Sync h k = absurd (omega (arith, ap name_number (sym h.1 ∙ k.1)))
same_place op name kind.Info kind.Identity h k = absurd (omega (arith, ap name_number (sym h.1 ∙ k.1)))
same_place op name kind.Info kind.Account h k = absurd (omega (arith, ap name_number (sym h.1 ∙ k.1)))
same_place op name kind.Info kind.Info h k = refl
same_place op name kind.Info kind.Error h k = absurd (other_op (sym h.0 ∙ k))
same_place op name kind.Info (kind.Other m) h k = absurd (k.2.4 (some_name _ _ (sym k.1 ∙ h.1)))
same_place op name kind.Error kind.Commit h k = absurd (other_op (sym k.0 ∙ h))
same_place op name kind.Error kind.Sync h k = absurd (other_op (sym k.0 ∙ h))
same_place op name kind.Error kind.Identity h k = absurd (other_op (sym k.0 ∙ h))
same_place op name kind.Error kind.Account h k = absurd (other_op (sym k.0 ∙ h))
same_place op name kind.Error kind.Info h k = absurd (other_op (sym k.0 ∙ h))
same_place op name kind.Error kind.Error h k = refl
same_place op name kind.Error (kind.Other m) h k = absurd (other_op (sym k.0 ∙ h))
same_place op name (kind.Other n) kind.Commit h k = absurd (h.2.0 (some_name _ _ (sym h.1 ∙ k.1)))
same_place op name (kind.Other n) kind.Sync h k = absurd (h.2.1 (some_name _ _ (sym h.1 ∙ k.1)))
same_place op name (kind.Other n) kind.Identity h k = absurd (h.2.2 (some_name _ _ (sym h.1 ∙ k.1)))
same_place op name (kind.Other n) kind.Account h k = absurd (h.2.3 (some_name _ _ (sym h.1 ∙ k.1)))
same_place op name (kind.Other n) kind.Info h k = absurd (h.2.4 (some_name _ _ (sym h.1 ∙ k.1)))
same_place op name (kind.Other n) kind.Error h k = absurd (other_op (sym h.0 ∙ k))
same_place op name (kind.Other n) (kind.Other m) h k = refl

-- a body that is not of a kind is not of another kind at the same place
body_at : (body : List ℕ) (k l : Kind) → place k ≡ place l → IsNoBody k body → IsNoBody l body
body_at body kind.Commit kind.Commit e h = h
body_at body kind.Commit kind.Sync e h = absurd (omega (arith, e))
body_at body kind.Commit kind.Identity e h = absurd (omega (arith, e))
body_at body kind.Commit kind.Account e h = absurd (omega (arith, e))
body_at body kind.Commit kind.Info e h = absurd (omega (arith, e))
body_at body kind.Commit kind.Error e h = absurd (omega (arith, e))
body_at body kind.Commit (kind.Other m) e h = absurd (omega (arith, e))
body_at body kind.Sync kind.Commit e h = absurd (omega (arith, e))
body_at body kind.Sync kind.Sync e h = h
body_at body kind.Sync kind.Identity e h = absurd (omega (arith, e))
body_at body kind.Sync kind.Account e h = absurd (omega (arith, e))
body_at body kind.Sync kind.Info e h = absurd (omega (arith, e))
body_at body kind.Sync kind.Error e h = absurd (omega (arith, e))
body_at body kind.Sync (kind.Other m) e h = absurd (omega (arith, e))
body_at body kind.Identity kind.Commit e h = absurd (omega (arith, e))
body_at body kind.Identity kind.Sync e h = absurd (omega (arith, e))
body_at body kind.Identity kind.Identity e h = h
body_at body kind.Identity kind.Account e h = absurd (omega (arith, e))
body_at body kind.Identity kind.Info e h = absurd (omega (arith, e))
body_at body kind.Identity kind.Error e h = absurd (omega (arith, e))
body_at body kind.Identity (kind.Other m) e h = absurd (omega (arith, e))
body_at body kind.Account kind.Commit e h = absurd (omega (arith, e))
body_at body kind.Account kind.Sync e h = absurd (omega (arith, e))
body_at body kind.Account kind.Identity e h = absurd (omega (arith, e))
body_at body kind.Account kind.Account e h = h
body_at body kind.Account kind.Info e h = absurd (omega (arith, e))
body_at body kind.Account kind.Error e h = absurd (omega (arith, e))
body_at body kind.Account (kind.Other m) e h = absurd (omega (arith, e))
body_at body kind.Info kind.Commit e h = absurd (omega (arith, e))
body_at body kind.Info kind.Sync e h = absurd (omega (arith, e))
body_at body kind.Info kind.Identity e h = absurd (omega (arith, e))
body_at body kind.Info kind.Account e h = absurd (omega (arith, e))
body_at body kind.Info kind.Info e h = h
body_at body kind.Info kind.Error e h = absurd (omega (arith, e))
body_at body kind.Info (kind.Other m) e h = absurd (omega (arith, e))
body_at body kind.Error kind.Commit e h = absurd (omega (arith, e))
body_at body kind.Error kind.Sync e h = absurd (omega (arith, e))
body_at body kind.Error kind.Identity e h = absurd (omega (arith, e))
body_at body kind.Error kind.Account e h = absurd (omega (arith, e))
body_at body kind.Error kind.Info e h = absurd (omega (arith, e))
body_at body kind.Error kind.Error e h = h
body_at body kind.Error (kind.Other m) e h = absurd (omega (arith, e))
body_at body (kind.Other n) kind.Commit e h = absurd (omega (arith, e))
body_at body (kind.Other n) kind.Sync e h = absurd (omega (arith, e))
body_at body (kind.Other n) kind.Identity e h = absurd (omega (arith, e))
body_at body (kind.Other n) kind.Account e h = absurd (omega (arith, e))
body_at body (kind.Other n) kind.Info e h = absurd (omega (arith, e))
body_at body (kind.Other n) kind.Error e h = absurd (omega (arith, e))
body_at body (kind.Other n) (kind.Other m) e h = h

no_body : (body : List ℕ) (k : Kind) (f : Frame) → IsNoBody k body → IsBody k body f → ⊥
no_body body kind.Commit (frame.Commit f) (inl none) h = none _ h.0
no_body body kind.Commit (frame.Commit f) (inr none) h = none _ h.1
no_body body kind.Commit (frame.Sync f) none h = absurd h
no_body body kind.Commit (frame.Identity f) none h = absurd h
no_body body kind.Commit (frame.Account f) none h = absurd h
no_body body kind.Commit (frame.Info f) none h = absurd h
no_body body kind.Commit (frame.Error f) none h = absurd h
no_body body kind.Commit (frame.Other f) none h = absurd h
no_body body kind.Sync (frame.Commit f) none h = absurd h
no_body body kind.Sync (frame.Sync f) (inl none) h = none _ h.0
no_body body kind.Sync (frame.Sync f) (inr none) h = none _ h.1
no_body body kind.Sync (frame.Identity f) none h = absurd h
no_body body kind.Sync (frame.Account f) none h = absurd h
no_body body kind.Sync (frame.Info f) none h = absurd h
no_body body kind.Sync (frame.Error f) none h = absurd h
no_body body kind.Sync (frame.Other f) none h = absurd h
no_body body kind.Identity (frame.Commit f) none h = absurd h
no_body body kind.Identity (frame.Sync f) none h = absurd h
no_body body kind.Identity (frame.Identity f) none h = none _ h
no_body body kind.Identity (frame.Account f) none h = absurd h
no_body body kind.Identity (frame.Info f) none h = absurd h
no_body body kind.Identity (frame.Error f) none h = absurd h
no_body body kind.Identity (frame.Other f) none h = absurd h
no_body body kind.Account (frame.Commit f) none h = absurd h
no_body body kind.Account (frame.Sync f) none h = absurd h
no_body body kind.Account (frame.Identity f) none h = absurd h
no_body body kind.Account (frame.Account f) none h = none _ h
no_body body kind.Account (frame.Info f) none h = absurd h
no_body body kind.Account (frame.Error f) none h = absurd h
no_body body kind.Account (frame.Other f) none h = absurd h
no_body body kind.Info (frame.Commit f) none h = absurd h
no_body body kind.Info (frame.Sync f) none h = absurd h
no_body body kind.Info (frame.Identity f) none h = absurd h
no_body body kind.Info (frame.Account f) none h = absurd h
no_body body kind.Info (frame.Info f) none h = none _ h
no_body body kind.Info (frame.Error f) none h = absurd h
no_body body kind.Info (frame.Other f) none h = absurd h
no_body body kind.Error (frame.Commit f) none h = absurd h
no_body body kind.Error (frame.Sync f) none h = absurd h
no_body body kind.Error (frame.Identity f) none h = absurd h
no_body body kind.Error (frame.Account f) none h = absurd h
no_body body kind.Error (frame.Info f) none h = absurd h
no_body body kind.Error (frame.Error f) none h = none _ h
no_body body kind.Error (frame.Other f) none h = absurd h
no_body body (kind.Other n) (frame.Commit f) none h = absurd h
no_body body (kind.Other n) (frame.Sync f) none h = absurd h
no_body body (kind.Other n) (frame.Identity f) none h = absurd h
no_body body (kind.Other n) (frame.Account f) none h = absurd h
no_body body (kind.Other n) (frame.Info f) none h = absurd h
no_body body (kind.Other n) (frame.Error f) none h = absurd h
no_body body (kind.Other n) (frame.Other f) none h = none h.1

nothing : {a : List ℕ} → None ≡ Some a → ⊥
nothing e = cc e

-- a header refused for its operation or kind has no kind
no_kind : (op : ℤ) (name : Option (List ℕ)) (e : FrameError) (k : Kind) → NoKindFor op name e → IsKind op name k → ⊥
no_kind op name error.OutOfMemory k h i = absurd h
no_kind op name error.NoEnd k h i = absurd h
no_kind op name (error.NoHeader c) k h i = absurd h
no_kind op name (error.NoBody c) k h i = absurd h
no_kind op name error.NoKind kind.Commit h i = nothing (sym h.1 ∙ i.1)
no_kind op name (error.OtherOperation n) kind.Commit h i = h.1 (sym h.0 ∙ i.0)
no_kind op name error.NoKind kind.Sync h i = nothing (sym h.1 ∙ i.1)
no_kind op name (error.OtherOperation n) kind.Sync h i = h.1 (sym h.0 ∙ i.0)
no_kind op name error.NoKind kind.Identity h i = nothing (sym h.1 ∙ i.1)
no_kind op name (error.OtherOperation n) kind.Identity h i = h.1 (sym h.0 ∙ i.0)
no_kind op name error.NoKind kind.Account h i = nothing (sym h.1 ∙ i.1)
no_kind op name (error.OtherOperation n) kind.Account h i = h.1 (sym h.0 ∙ i.0)
no_kind op name error.NoKind kind.Info h i = nothing (sym h.1 ∙ i.1)
no_kind op name (error.OtherOperation n) kind.Info h i = h.1 (sym h.0 ∙ i.0)
no_kind op name error.NoKind kind.Error h i = other_op (sym h.0 ∙ i)
no_kind op name (error.OtherOperation n) kind.Error h i = h.2 (sym h.0 ∙ i)
no_kind op name error.NoKind (kind.Other m) h i = nothing (sym h.1 ∙ i.1)
no_kind op name (error.OtherOperation n) (kind.Other m) h i = h.1 (sym h.0 ∙ i.0)

header_as : (header : List ℕ) (op : ℤ) (name : Option (List ℕ)) (e : FrameError) → IsWhole frame_header_shape default_steps header (op, (name, tt)) → NoKindFor op name e → HeaderRefused header e
header_as header op name error.OutOfMemory h k = tt
header_as header op name error.NoEnd h k = absurd k
header_as header op name (error.NoHeader c) h k = absurd k
header_as header op name (error.NoBody c) h k = absurd k
header_as header op name error.NoKind h k = (op, name, h, k)
header_as header op name (error.OtherOperation n) h k = (op, name, h, k)

-- the kind of a header that is read
pub kind_read : (header : List ℕ) (op : ℤ) (name : Option (List ℕ)) (r : Result Kind FrameError) → IsWhole frame_header_shape default_steps header (op, (name, tt)) → MatchResult r (IsKind op name) (NoKindFor op name) → MatchResult r (IsHeader header) (HeaderRefused header)
kind_read header op name (Ok k) h m = (op, name, h, m)
kind_read header op name (Err e) h m = header_as header op name e h m

-- ---- no frame

spelled_header : (header : List ℕ) (k : Kind) → IsHeader header k → (t : Tree) × IsSpelling header t
spelled_header header k h = (h.2.0, h.2.1)

spelled_body : (body : List ℕ) (k : Kind) (f : Frame) → IsBody k body f → (t : Tree) × IsSpelling body t
spelled_body body kind.Commit (frame.Commit f) h = (h.0.0, h.0.1)
spelled_body body kind.Commit (frame.Sync f) h = absurd h
spelled_body body kind.Commit (frame.Identity f) h = absurd h
spelled_body body kind.Commit (frame.Account f) h = absurd h
spelled_body body kind.Commit (frame.Info f) h = absurd h
spelled_body body kind.Commit (frame.Error f) h = absurd h
spelled_body body kind.Commit (frame.Other f) h = absurd h
spelled_body body kind.Sync (frame.Commit f) h = absurd h
spelled_body body kind.Sync (frame.Sync f) h = (h.0.0, h.0.1)
spelled_body body kind.Sync (frame.Identity f) h = absurd h
spelled_body body kind.Sync (frame.Account f) h = absurd h
spelled_body body kind.Sync (frame.Info f) h = absurd h
spelled_body body kind.Sync (frame.Error f) h = absurd h
spelled_body body kind.Sync (frame.Other f) h = absurd h
spelled_body body kind.Identity (frame.Commit f) h = absurd h
spelled_body body kind.Identity (frame.Sync f) h = absurd h
spelled_body body kind.Identity (frame.Identity f) h = (h.0, h.1)
spelled_body body kind.Identity (frame.Account f) h = absurd h
spelled_body body kind.Identity (frame.Info f) h = absurd h
spelled_body body kind.Identity (frame.Error f) h = absurd h
spelled_body body kind.Identity (frame.Other f) h = absurd h
spelled_body body kind.Account (frame.Commit f) h = absurd h
spelled_body body kind.Account (frame.Sync f) h = absurd h
spelled_body body kind.Account (frame.Identity f) h = absurd h
spelled_body body kind.Account (frame.Account f) h = (h.0, h.1)
spelled_body body kind.Account (frame.Info f) h = absurd h
spelled_body body kind.Account (frame.Error f) h = absurd h
spelled_body body kind.Account (frame.Other f) h = absurd h
spelled_body body kind.Info (frame.Commit f) h = absurd h
spelled_body body kind.Info (frame.Sync f) h = absurd h
spelled_body body kind.Info (frame.Identity f) h = absurd h
spelled_body body kind.Info (frame.Account f) h = absurd h
spelled_body body kind.Info (frame.Info f) h = (h.0, h.1)
spelled_body body kind.Info (frame.Error f) h = absurd h
spelled_body body kind.Info (frame.Other f) h = absurd h
spelled_body body kind.Error (frame.Commit f) h = absurd h
spelled_body body kind.Error (frame.Sync f) h = absurd h
spelled_body body kind.Error (frame.Identity f) h = absurd h
spelled_body body kind.Error (frame.Account f) h = absurd h
spelled_body body kind.Error (frame.Info f) h = absurd h
spelled_body body kind.Error (frame.Error f) h = (h.0, h.1)
spelled_body body kind.Error (frame.Other f) h = absurd h
spelled_body body (kind.Other n) (frame.Commit f) h = absurd h
spelled_body body (kind.Other n) (frame.Sync f) h = absurd h
spelled_body body (kind.Other n) (frame.Identity f) h = absurd h
spelled_body body (kind.Other n) (frame.Account f) h = absurd h
spelled_body body (kind.Other n) (frame.Info f) h = absurd h
spelled_body body (kind.Other n) (frame.Error f) h = absurd h
spelled_body body (kind.Other n) (frame.Other f) h = (h.1.0, h.1.1.0)

no_end : (b : List ℕ) → HasNoEnd b → BeginsNoFrame b
no_end b (inl none) f rest h =
    let s = spelled_header h.header h.told.0 h.told.1 in
    item_there b h.header (h.body ++ rest) s.0 s.1 h.is none
no_end b (inr w) f rest h =
    let s = spelled_header h.header h.told.0 h.told.1 in
    let t = spelled_body h.body h.told.0 f h.told.2 in
    let same = same_end b h.header (h.body ++ rest) w.0 s.0 s.1 h.is w.1 in
    item_there w.0 h.body rest t.0 t.1 same w.2

-- the parts of a frame are those given by its heads
same_parts : (b header body rest more : List ℕ) (f : Frame) (s : SplitsFrame b header body rest) (h : IsFrame b f more) → (header ≡ h.header) × (body ≡ h.body)
same_parts b header body rest more f s h =
    let x = spelled_header h.header h.told.0 h.told.1 in
    let y = spelled_body h.body h.told.0 f h.told.2 in
    let first = same_end b h.header (h.body ++ more) (body ++ rest) x.0 x.1 h.is s.first in
    let second = same_end (body ++ rest) h.body more rest y.0 y.1 first s.second in (
      append_cancel_right header h.header (body ++ rest) (sym s.is ∙ h.is ∙ ap (λ z. h.header ++ z) (sym first)),
      append_cancel_right body h.body rest (first ∙ ap (λ z. h.body ++ z) (sym second)),
    )

header_clash : (header : List ℕ) (k : Kind) (e : FrameError) → (e ≢ error.OutOfMemory) → HeaderRefused header e → IsHeader header k → ⊥
header_clash header k error.OutOfMemory other h i = other refl
header_clash header k error.NoEnd other h i = absurd h.3
header_clash header k (error.NoHeader c) other h i = h.0 _ i.2
header_clash header k (error.NoBody c) other h i = absurd h.3
header_clash header k error.NoKind other h i = clash header k error.NoKind h i
  where
    clash : (header : List ℕ) (k : Kind) (e : FrameError) → HasNoKind header e → IsHeader header k → ⊥
    clash header k e h i =
        let same = whole_unique frame_header_shape default_steps header (h.0, (h.1, tt)) (i.0, (i.1, tt)) h.2 i.2 in
        no_kind i.0 i.1 e k (subst (λ p. NoKindFor p.0 p.1.0 e) same h.3) i.3
header_clash header k (error.OtherOperation n) other h i =
    let same = whole_unique frame_header_shape default_steps header (h.0, (h.1, tt)) (i.0, (i.1, tt)) h.2 i.2 in
    no_kind i.0 i.1 (error.OtherOperation n) k (subst (λ p. NoKindFor p.0 p.1.0 (error.OtherOperation n)) same h.3) i.3

body_clash : (header body : List ℕ) (k l : Kind) (f : Frame) (e : FrameError) → (e ≢ error.OutOfMemory) → BodyRefused (IsNoBody k body) e → IsHeader header k → IsHeader header l → IsBody l body f → ⊥
body_clash header body k l f error.OutOfMemory other h i j is = other refl
body_clash header body k l f error.NoEnd other h i j is = absurd h
body_clash header body k l f (error.NoHeader c) other h i j is = absurd h
body_clash header body k l f error.NoKind other h i j is = absurd h
body_clash header body k l f (error.OtherOperation n) other h i j is = absurd h
body_clash header body k l f (error.NoBody c) other h i j is =
    let same = whole_unique frame_header_shape default_steps header (i.0, (i.1, tt)) (j.0, (j.1, tt)) i.2 j.2 in
    let at = same_place j.0 j.1 k l (subst (λ p. IsKind p.0 p.1.0 k) same i.3) j.3 in
    no_body body l f (body_at body k l at h.0) is

parts_clash : (header body : List ℕ) (f : Frame) (e : FrameError) → (e ≢ error.OutOfMemory) → PartsRefused header body e → IsFrameOf header body f → ⊥
parts_clash header body f e other (inl h) k = header_clash header k.0 e other h k.1
parts_clash header body f e other (inr h) k = body_clash header body h.0 k.0 f e other h.2 h.1 k.1 k.2

no_frame : (b : List ℕ) (e : FrameError) → (e ≢ error.OutOfMemory) → FrameRefused b e → BeginsNoFrame b
no_frame b e other (inl h) f more k = no_end b h.1 f more k
no_frame b e other (inr w) f more h =
    let same = same_parts b w.0 w.1 w.2 more f w.3 h in
    parts_clash h.header h.body f e other (subst (λ x. PartsRefused x h.body e) same.0 (subst (λ y. PartsRefused w.0 y e) same.1 w.4)) h.told

abbrev number : FrameError → ℕ
number error.OutOfMemory = 0
number error.NoEnd = 1
number (error.NoHeader c) = 1
number (error.OtherOperation n) = 1
number error.NoKind = 1
number (error.NoBody c) = 1

pub no_frame_for : (b : List ℕ) (e : FrameError) → FrameRefused b e → BeginsNoFrameFor b e
no_frame_for b error.OutOfMemory h = tt
no_frame_for b error.NoEnd h = no_frame b error.NoEnd (λ e. omega (arith, ap number e)) h
no_frame_for b (error.NoHeader c) h = no_frame b (error.NoHeader c) (λ e. omega (arith, ap number e)) h
no_frame_for b (error.OtherOperation n) h = no_frame b (error.OtherOperation n) (λ e. omega (arith, ap number e)) h
no_frame_for b error.NoKind h = no_frame b error.NoKind (λ e. omega (arith, ap number e)) h
no_frame_for b (error.NoBody c) h = no_frame b (error.NoBody c) (λ e. omega (arith, ap number e)) h
