-- A value that is read by the kind of its data.
use Rattle.std.proofs.Common.{◌≡◌, ℕ, ◌+◌, ◌*◌, List, Bool, true, false, refl, sym, ap, ◌∙◌, subst, arith, Option, None, Some, option_map, is_some, Ok, Err}
use Rattle.dagcbor_heads.specs.Reading.{Reading}
use Rattle.dagcbor_heads.specs.Refusals.{Refuses}
use Rattle.dagcbor_core.specs.declared.error.DecodeError.{DecodeError}
use Rattle.dagcbor_heads.proofs.Taking.{stays, stays_both}
use Rattle.dagcbor_heads.specs.Fronts.{HasByte}
use Rattle.dagcbor_core.specs.Causes.{ByteCause}
use Rattle.dagcbor_core.specs.declared.name.Name.{Name}
use Rattle.dagcbor_core.specs.declared.error.DecodeError.TheVariants.{Msg}
use Rattle.ipld_tree.specs.Tree.{Tree, null}
use Rattle.ipld_tree.specs.Spelling.{IsFront}
use Rattle.ipld_tree.proofs.Unique.{major}
use Rattle.ipld_tree.proofs.Fronts.{front_first}
use Rattle.dagcbor_decode.specs.declared.kind.Kind.TheVariants as kinds
use Rattle.types_schema.specs.Kinds.{KindShapes, view_by_kind, need_by_kind, by_kind}
use Rattle.types_schema.specs.declared.by_kind.ByKind.{ByKind}
use Rattle.types_schema.specs.declared.by_kind.ByKind.TheVariants as told
use Rattle.dagcbor_decode.specs.TreeKinds.{kind_of}
use Rattle.dagcbor_decode.specs.declared.kind.Kind.{Kind}
use Rattle.dagcbor_items.specs.Shapes.{Shape}
use Rattle.dagcbor_items.specs.TypedReads.{RefusesRead, HasFront, TakesFront, Anything}
use Rattle.dagcbor_read.specs.Deserializers.{DeState, Call}
use Rattle.dagcbor_read.specs.Kinds.{ShowsKind, PeeksKind}
use Rattle.dagcbor_read.proofs.Progressing.{call_answered, call_told}
use Rattle.dagcbor_read.proofs.ItemRows.{same_reader}
use Rattle.dagcbor_heads.proofs.Refusing.{refusal_carried}
use Rattle.dagcbor_read.proofs.Passing.{or_left, or_right}

is_mapped : {V W : Type 0} (f : V → W) (o : Option V) → is_some (option_map f o) ≡ is_some o
is_mapped f None = refl
is_mapped f (Some x) = refl

-- the whole shows what the part does, of all data of the kind
pub record IsPartOf {V W : Type 0} (kind : Kind) (f : V → W) (part : Shape Tree V) (whole : Shape Tree W) : Type 0 where
  pub shows : (t : Tree) → kind_of t ≡ kind → (whole.view t ≡ option_map f (part.view t)) × (whole.need t ≡ part.need t)
  pub memory : (lends : Bool) → part.memory lends ≡ true → whole.memory lends ≡ true
  pub loan : part.wants_loan ≡ true → whole.wants_loan ≡ true

module _ {V W : Type 0} {kind : Kind} {f : V → W} {part : Shape Tree V} {whole : Shape Tree W} (p : IsPartOf kind f part whole) where
  kind_taken : {old mid new : Reading} {v : V} → ShowsKind old kind mid → TakesFront part mid v new → TakesFront whole old (f v) new
  kind_taken {old} {mid} {new} {v} s a = record {
    taken = λ b l.
        let t = a.taken b (s.kept b l) in
        let same = p.shows t.0 (sym (s.is b l t.0 t.1 t.2)) in
        (t.0, t.1, t.2, same.0 ∙ ap (option_map f) t.3, omega (arith, same.1, t.4, s.same.steps), t.5);
    same = stays_both s.same a.same;
  }

  kind_front : {old mid : Reading} → ShowsKind old kind mid → HasFront whole old → HasFront part mid
  kind_front {old} {mid} s h =
      let same = p.shows h.tree (sym (s.is h.bytes h.left h.tree h.rest h.front)) in record {
        bytes = h.bytes;
        tree = h.tree;
        rest = h.rest;
        left = s.kept h.bytes h.left;
        front = h.front;
        accepted = sym (is_mapped f (part.view h.tree)) ∙ (ap is_some (sym same.0) ∙ h.accepted);
        within = omega (arith, h.within, same.1, s.same.steps);
      }

  pub kind_read : (E : Type 0) (old mid new : DeState) (found : Kind) (v : V) → found ≡ kind → Call (PeeksKind {E = E}) old (Ok found) mid → (mid.failed ≡ false → (new.failed ≡ false) × TakesFront part mid.input v new.input)
      → (new.failed ≡ false) × TakesFront whole old.input (f v) new.input
  kind_read E old mid new found v is h r =
      let k = call_answered PeeksKind old mid found h in
      let q = r k.1 in
      (q.0, kind_taken (subst (λ x. ShowsKind old.input x mid.input) is k.2) q.1)

  pub kind_not_read : {E : Type 0} (old mid : DeState) (new : Reading) (found : Kind) (e : DecodeError E) → found ≡ kind → Call (PeeksKind {E = E}) old (Ok found) mid
      → (mid.failed ≡ false → RefusesRead (HasFront part mid.input) part mid.input e new)
      → RefusesRead (HasFront whole old.input) whole old.input e new
  kind_not_read {E} old mid new found e is h r =
      let k = call_answered PeeksKind old mid found h in
      let s : ShowsKind old.input kind mid.input = subst (λ x. ShowsKind old.input x mid.input) is k.2 in
      refusal_carried Anything Anything old.input mid.input new e (same_reader s.same) (kind_front s)
      (λ x. p.memory old.input.lends (ap part.memory (sym s.same.lends) ∙ x)) p.loan (λ b l g. tt) (r k.1)

-- if an item is at the front, so is a byte
pub front_byte : {r : Reading} {b rest : List ℕ} {t : Tree} → r.left ≡ Some b → IsFront b t rest → HasByte r
front_byte {r} {b} {rest} {t} l f =
    let k = front_first b rest t f in
    record { byte = 32 * major t + k.0; rest = k.1; left = l ∙ ap Some k.3 }

-- ---- each kind

module _ {B I T Y L M K : Type 0} (s : KindShapes B I T Y L M K) where
  abbrev IsToldBy : {V : Type 0} → (V → ByKind B I T Y L M K) → Shape Tree V → Tree → Type 0
  IsToldBy f part t = (view_by_kind s t ≡ option_map f (part.view t)) × (need_by_kind s t ≡ part.need t)

  -- what is shown of a tree of the kind
  abbrev IsTold : Kind → Tree → Type 0
  IsTold kinds.Null t = view_by_kind s t ≡ None
  IsTold kinds.Bool t = IsToldBy (λ x. told.Bool x) s.of_bool t
  IsTold kinds.Integer t = IsToldBy (λ x. told.Integer x) s.of_integer t
  IsTold kinds.String t = IsToldBy (λ x. told.Text x) s.of_text t
  IsTold kinds.Bytes t = IsToldBy (λ x. told.Bytes x) s.of_bytes t
  IsTold kinds.List t = IsToldBy (λ x. told.List x) s.of_list t
  IsTold kinds.Map t = IsToldBy (λ x. told.Map x) s.of_map t
  IsTold kinds.Link t = IsToldBy (λ x. told.Link x) s.of_link t

  each_told : (t : Tree) → IsTold (kind_of t) t
  each_told null = refl
  each_told _ = (refl, refl)

  told_of : (kind : Kind) (t : Tree) → kind_of t ≡ kind → IsTold kind t
  told_of kind t e = subst (λ k. IsTold k t) e (each_told t)

  pub bool_part : IsPartOf kinds.Bool (λ x. told.Bool x) s.of_bool (by_kind s)
  bool_part = record {
    shows = told_of kinds.Bool;
    memory = λ l h. or_left (s.of_bool.memory l) _ h;
    loan = λ h. or_left s.of_bool.wants_loan _ h;
  }

  pub integer_part : IsPartOf kinds.Integer (λ x. told.Integer x) s.of_integer (by_kind s)
  integer_part = record {
    shows = told_of kinds.Integer;
    memory = λ l h. or_right (s.of_bool.memory l) _ (or_left (s.of_integer.memory l) _ h);
    loan = λ h. or_right s.of_bool.wants_loan _ (or_left s.of_integer.wants_loan _ h);
  }

  pub text_part : IsPartOf kinds.String (λ x. told.Text x) s.of_text (by_kind s)
  text_part = record {
    shows = told_of kinds.String;
    memory = λ l h. or_right (s.of_bool.memory l) _ (or_right (s.of_integer.memory l) _ (or_left (s.of_text.memory l) _ h));
    loan = λ h. or_right s.of_bool.wants_loan _ (or_right s.of_integer.wants_loan _ (or_left s.of_text.wants_loan _ h));
  }

  pub bytes_part : IsPartOf kinds.Bytes (λ x. told.Bytes x) s.of_bytes (by_kind s)
  bytes_part = record {
    shows = told_of kinds.Bytes;
    memory = λ l h. or_right (s.of_bool.memory l) _ (or_right (s.of_integer.memory l) _ (or_right (s.of_text.memory l) _ (or_left (s.of_bytes.memory l) _ h)));
    loan = λ h. or_right s.of_bool.wants_loan _ (or_right s.of_integer.wants_loan _ (or_right s.of_text.wants_loan _ (or_left s.of_bytes.wants_loan _ h)));
  }

  pub list_part : IsPartOf kinds.List (λ x. told.List x) s.of_list (by_kind s)
  list_part = record {
    shows = told_of kinds.List;
    memory = λ l h. or_right (s.of_bool.memory l) _ (or_right (s.of_integer.memory l) _ (or_right (s.of_text.memory l) _ (or_right (s.of_bytes.memory l) _ (or_left (s.of_list.memory l) _ h))));
    loan = λ h. or_right s.of_bool.wants_loan _ (or_right s.of_integer.wants_loan _ (or_right s.of_text.wants_loan _ (or_right s.of_bytes.wants_loan _ (or_left s.of_list.wants_loan _ h))));
  }

  pub map_part : IsPartOf kinds.Map (λ x. told.Map x) s.of_map (by_kind s)
  map_part = record {
    shows = told_of kinds.Map;
    memory = λ l h. or_right (s.of_bool.memory l) _ (or_right (s.of_integer.memory l) _ (or_right (s.of_text.memory l) _ (or_right (s.of_bytes.memory l) _ (or_right (s.of_list.memory l) _ (or_left (s.of_map.memory l) _ h)))));
    loan = λ h. or_right s.of_bool.wants_loan _ (or_right s.of_integer.wants_loan _ (or_right s.of_text.wants_loan _ (or_right s.of_bytes.wants_loan _ (or_right s.of_list.wants_loan _ (or_left s.of_map.wants_loan _ h)))));
  }

  pub link_part : IsPartOf kinds.Link (λ x. told.Link x) s.of_link (by_kind s)
  link_part = record {
    shows = told_of kinds.Link;
    memory = λ l h. or_right (s.of_bool.memory l) _ (or_right (s.of_integer.memory l) _ (or_right (s.of_text.memory l) _ (or_right (s.of_bytes.memory l) _ (or_right (s.of_list.memory l) _ (or_right (s.of_map.memory l) _ h)))));
    loan = λ h. or_right s.of_bool.wants_loan _ (or_right s.of_integer.wants_loan _ (or_right s.of_text.wants_loan _ (or_right s.of_bytes.wants_loan _ (or_right s.of_list.wants_loan _ (or_right s.of_map.wants_loan _ h)))));
  }

  null_shows_nothing : (t : Tree) → kind_of t ≡ kinds.Null → is_some (view_by_kind s t) ≡ true → ⊥
  null_shows_nothing t e a = let none : true ≡ false = sym a ∙ ap is_some (told_of kinds.Null t e) in absurd (cc none)

  -- a null is at the front
  pub null_refused : {E : Type 0} {old mid : Reading} (L B : Type 0) (new : Reading) (message : Name) (e : DecodeError E) → ShowsKind old kinds.Null mid → e ≡ Msg message → new.faults ≡ mid.faults → Refuses (record { could = HasFront (by_kind s) old; lacks = L; borrows = B; stands = Anything }) old e new
  null_refused {E} {old} {mid} L B new message e k is same = subst (λ x. Refuses {E = E} (record { could = HasFront (by_kind s) old; lacks = L; borrows = B; stands = Anything }) old x new) (sym is) (
    same ∙ k.same.faults,
    λ h. null_shows_nothing h.tree (sym (k.is h.bytes h.left h.tree h.rest h.front)) h.accepted,
    λ b l. tt,
  )

  pub null_not_read : {E : Type 0} (L B : Type 0) (old mid : DeState) (new : Reading) (found : Kind) (message : Name) (e : DecodeError E) → found ≡ kinds.Null → Call (PeeksKind {E = E}) old (Ok found) mid → e ≡ Msg message → new ≡ mid.input
      → Refuses (record { could = HasFront (by_kind s) old.input; lacks = L; borrows = B; stands = Anything }) old.input e new
  null_not_read {E} L B old mid new found message e is h told same =
      let k = call_answered PeeksKind old mid found h in
      null_refused L B new message e (subst (λ x. ShowsKind old.input x mid.input) is k.2) told (ap (λ (r : Reading). r.faults) same)

  -- there is no byte
  pub no_kind_shown : {E : Type 0} (L B : Type 0) (old new : DeState) (e : DecodeError E) → old.failed ≡ false → Call PeeksKind old (Err e) new → Refuses (record { could = HasFront (by_kind s) old.input; lacks = L; borrows = B; stands = Anything }) old.input e new.input
  no_kind_shown {E} L B old new e sound h = refusal_carried ByteCause Anything old.input old.input new.input e (same_reader (stays old.input)) (λ f. front_byte f.left f.front) (λ x. absurd x) (λ x. absurd x) (λ b l g. tt) (call_told PeeksKind old new (Err e) sound h).1
