-- Reading null, false and true.
use Rattle.std.proofs.Common.{◌≡◌, ℕ, List, [], ◌∷◌, ◌++◌, Bool, true, arith, refl, ap, ◌∙◌, subst, zero-le, Some, Option, is_some, Result, Ok, Err, MatchResult, codes}
use Rattle.dagcbor_heads.specs.Reading.{Reading}
use Rattle.dagcbor_heads.specs.Fronts.{HasByte, Takes}
use Rattle.dagcbor_core.specs.Causes.{ByteCause, IsEndNamed}
use Rattle.dagcbor_heads.specs.Refusals.{RefusesPlainly}
use Rattle.dagcbor_core.specs.declared.error.DecodeError.{DecodeError}
use Rattle.dagcbor_core.specs.declared.error.DecodeError.TheVariants.{Eof}
use Rattle.dagcbor_heads.proofs.Taking.{stays}
use Rattle.dagcbor_heads.proofs.Refusing.{passed_on}
use Rattle.ipld_tree.specs.Tree.{Tree, null, boolean, IsTree}
use Rattle.ipld_tree.specs.Spelling.{IsSpellable, spelling, boolean_spelling}
use Rattle.dagcbor_items.proofs.Fronts.{front_byte}
use Rattle.dagcbor_items.specs.TypedReads.{HasFront, TakesFront}
use Rattle.dagcbor_items.specs.Shapes.{view_null, view_bool, leaf}
use Rattle.dagcbor_items.specs.Links.{HasWanted}
use Rattle.dagcbor_items.specs.ReadCauses.{WantedCause}
use Rattle.dagcbor_decode.proofs.Named.{named}
use Rattle.dagcbor_decode.proofs.Refusals.{ended, kept_short}
use Rattle.dagcbor_items.specs.Leaves.{bool_at}
use Rattle.dagcbor_items.specs.ReadCauses.{BoolCause}
use Rattle.dagcbor_items.specs.LeafReads.{ReadsNull}

-- the spelling of a tree was taken
pub spelling_taken : {V : Type 0} (view : Tree → Option V) {old new : Reading} (t : Tree) (v : V) → IsTree t → IsSpellable t → view t ≡ Some v → Takes old (spelling t) new → TakesFront (leaf view) old v new
spelling_taken view {old} {new} t v tree spellable shown h = record {
  taken = λ b l. let k = h.taken b l in (t, k.0, record { well_formed = tree; spellable = spellable; is = k.1 }, shown, zero-le, k.2);
  same = h.same;
}

-- ---- null

is_null : (t : Tree) → is_some (view_null t) ≡ true → t ≡ null
is_null null a = refl
is_null _ a = absurd (cc a)

null_byte : {r : Reading} → HasFront (leaf view_null) r → HasWanted 0xf6 r
null_byte h = record { rest = h.rest; left = h.left ∙ ap Some (h.front.is ∙ ap (λ t. spelling t ++ h.rest) (is_null h.tree h.accepted)) }

pub null_read : {E : Type 0} (old new : Reading) (result : Result (Unit {0}) (DecodeError E))
    → MatchResult result (λ _. Takes old (0xf6 ∷ []) new) (λ e. RefusesPlainly (HasWanted 0xf6 old) (WantedCause (codes "unit") (codes "unit") 0xf6) old e new)
    → ReadsNull old result new
null_read old new (Ok u) h = spelling_taken view_null null u tt tt refl h
null_read old new (Err e) h = passed_on (WantedCause (codes "unit") (codes "unit") 0xf6) (WantedCause (codes "unit") (codes "unit") 0xf6) old old new e (stays old) null_byte (λ x. x) (λ x. x) (λ b l. (b, l, λ s. s)) h

-- ---- false and true

pub bool_taken : {old new : Reading} {found : ℕ} (b : Bool) → found ∷ [] ≡ boolean_spelling b → Takes old (found ∷ []) new → TakesFront (leaf view_bool) old b new
bool_taken {old} {new} {found} b e h = spelling_taken view_bool (boolean b) b tt tt refl (subst (λ s. Takes old s new) e h)

no_byte : {E : Type 0} (e : DecodeError E) (b : List ℕ) → IsEndNamed (codes "bool") e → ByteCause e b → BoolCause e b
no_byte {E} (Eof n x) b named h = ended E (codes "bool") (codes "bool") n x 1 (bool_at b) 0 (kept_short (codes "bool") (omega arith)) named h.0 (ap bool_at h.1)
no_byte _ b named h = absurd h

pub bool_byte_refused : {E : Type 0} (old new : Reading) (e : DecodeError E) → IsEndNamed (codes "bool") e → RefusesPlainly (HasByte old) ByteCause old e new → RefusesPlainly (HasFront (leaf view_bool) old) BoolCause old e new
bool_byte_refused old new e named r = passed_on ByteCause BoolCause old old new e (stays old) front_byte (λ x. x) (λ x. x) (λ b l. (b, l, no_byte e b named)) r
