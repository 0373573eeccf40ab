-- The spelling of a list, by its head and its parts.
use Rattle.std.proofs.Common.{◌≡◌, ℕ, ◌^◌, ◌<◌, ◌≤◌, List, [], ◌∷◌, length, codes, Option, None, Some, refl, sym, subst, arith, ap₂, ◌∙◌, inl, inr, Result, Ok, Err, IfErr, IsErrAnd, IfSome, OnOk}
use Rattle.std.specs.Fmt.{◌++?◌}
use Rattle.dagcbor_core.specs.Head.{head}
use Rattle.dagcbor_core.specs.Messages.{Says, message_bytes}
use Rattle.dagcbor_core.specs.declared.name.Message.{Message}
use Rattle.dagcbor_heads.specs.Written.{Written, Stops}
use Rattle.dagcbor_core.specs.declared.error.EncodeError.{EncodeError}
use Rattle.dagcbor_core.specs.declared.error.EncodeError.TheVariants.{Msg}
use Rattle.dagcbor_heads.proofs.Writing.{Written-but, begin_writing, append_Some}
use Rattle.ipld_tree.specs.Tree.{Tree, IsTree, list_tree}
use Rattle.ipld_tree.specs.Spelled.{spelled_tree, spelled_head}
use Rattle.ipld_tree.proofs.Spelled.{Tells, tells_head}
use Rattle.dagcbor_write.specs.Answers.{OnMessage, NoMessage}
use Rattle.dagcbor_write.specs.Each.{spelled_each, AreTrees}
use Rattle.dagcbor_write.proofs.Lists.{spelled_list, list_IsTree}
use Rattle.dagcbor_write.proofs.Messages.{exit_message}
use Rattle.types_schema.specs.Parts.{part_message, optional_message}

-- the head and the parts are the list's whole spelling
pub begin_row : (os : List (Option Tree)) (n : ℕ) (s : Written) → n ≡ length os → Written-but (spelled_tree (list_tree os)) (spelled_head 4 n ∷ spelled_each os ∷ []) s s
begin_row os n s e = begin_writing _ _ s (spelled_list os ∙ ap₂ (λ k (x : Option (List ℕ)). spelled_head 4 k ++? x) (sym e) (sym (append_Some (spelled_each os))))

-- the parts are well formed, and so is the list
pub row_IsTree : {T E : Type 0} (os : List (Option Tree)) (r : Result T E) → OnOk r (AreTrees os) → OnOk r (IfSome (list_tree os) IsTree)
row_IsTree os (Ok x) h = list_IsTree os h
row_IsTree os (Err e) h = tt

-- a head whose number a machine can hold has a spelling, so no message comes of it
pub head_silent : {E : Type 0} (n : ℕ) (s t : Written) (e : EncodeError E) → n < 2 ^ 64 → Stops (spelled_head 4 n) s t e → OnMessage NoMessage e
head_silent {E} n s t (Msg m) fits w = by (spelled_head 4 n) (tells_head 4 n) w.0
  where
    by : (o : Option (List ℕ)) → Tells (n < 2 ^ 64) (head 4 n) o → o ≡ None → ⊥
    by None (inl h) e = absurd (cc h.1)
    by None (inr h) e = h.0 fits
    by (Some x) h e = absurd (cc e)
head_silent n s t _ fits w = tt

-- a part that was refused with a message has no spelling
pub part_exit : {A T E : Type 0} (tree : A → Option Tree) (message : A → List ℕ → Type 0) (others : List ℕ → Type 0) (x : A) (s t : Written) (r : Result T (EncodeError E)) (e : EncodeError E) → IsErrAnd r (λ y. y ≡ e) → Stops (spelled_tree (tree x)) s t e → OnMessage (message x) e
    → IfErr r (OnMessage (part_message tree message others x))
part_exit {A} {T} {E} tree message others x s t r e is w h = exit_message (part_message tree message others x) r e is (by e w h)
  where
    by : (e : EncodeError E) → Stops (spelled_tree (tree x)) s t e → OnMessage (message x) e → OnMessage (part_message tree message others x) e
    by (Msg m) w h = inl (w.0, h)
    by _ w h = tt

-- a part that is absent before others is refused with a message of its own
pub gap_told : {A E : Type 0} (tree : A → Option Tree) (message : A → List ℕ → Type 0) (trees : List (Option Tree)) (others : List ℕ → Type 0) (part : Option A) (e : EncodeError E) → part ≡ None → (trees ≡ [] → ⊥)
    → (kept : Message) × (e ≡ Msg kept) × Says kept (codes "a part is absent before another") × (length (codes "a part is absent before another") ≤ 63 → message_bytes kept ≡ codes "a part is absent before another")
    → OnMessage (optional_message tree message trees others part) e
gap_told {A} {E} tree message trees others part e none some h =
    subst (λ (x : EncodeError E). OnMessage (optional_message tree message trees others part) x) (sym h.1) (subst (λ o. optional_message tree message trees others o (message_bytes h.0)) (sym none) (by trees some))
  where
    by : (os : List (Option Tree)) → (os ≡ [] → ⊥) → optional_message tree message os others None (message_bytes h.0)
    by [] n = absurd (n refl)
    by (o ∷ os) n = h.3 (omega arith)
