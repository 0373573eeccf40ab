-- Reading numbers.
use Rattle.std.proofs.Common.{◌≡◌, inl, inr, ℕ, zero, suc, ◌+◌, ◌*◌, ◌^◌, ◌<◌, ◌≤◌, ℤ, pos, negsuc, List, [], ◌∷◌, ◌++◌, length, ◌==◌, true, false, refl, sym, ap, ◌∙◌, subst, arith, zero-le, ◌⊎◌, Some, None, Option, is_some, Result, Ok, Err}
use Rattle.std.proofs.lemmas.Int.{ints, to_z-of_z}
use Rattle.std.proofs.lemmas.Bool.Decides.{nat_tests, eqb_tells}
use mir.Syntax.{w128}
use mir.Val.{SFits, to_z, of_z}
use Rattle.dagcbor_core.specs.Head.{head}
use Rattle.dagcbor_core.specs.Names.{Names, name_bytes}
use Rattle.dagcbor_heads.specs.Reading.{Reading}
use Rattle.dagcbor_heads.specs.Fronts.{HasByte, ShowsByte}
use Rattle.dagcbor_core.specs.Causes.{ByteCause, IsEndNamed}
use Rattle.dagcbor_heads.specs.Refusals.{RefusesPlainly}
use Rattle.dagcbor_core.specs.declared.name.Name.{Name}
use Rattle.dagcbor_core.specs.declared.error.DecodeError.{DecodeError}
use Rattle.dagcbor_core.specs.declared.error.DecodeError.TheVariants.{Eof, CastOverflow, Unsupported}
use Rattle.dagcbor_core.proofs.Heads.{head_first}
use Rattle.dagcbor_heads.proofs.Taking.{stays, stays_both}
use Rattle.dagcbor_heads.proofs.Refusing.{passed_on}
use Rattle.ipld_tree.specs.Tree.{Tree, integer}
use Rattle.ipld_tree.specs.Spelling.{IsFront}
use Rattle.ipld_tree.proofs.Unique.{major, integer_major}
use Rattle.ipld_tree.proofs.Fronts.{front_unique}
use Rattle.dagcbor_items.specs.TypedReads.{HasFront, TakesFront, Reads}
use Rattle.dagcbor_items.specs.Shapes.{within, natural_below, number_of, view_number, leaf}
use Rattle.dagcbor_decode.specs.Decode.{got, refused, unsupported, cast_overflow}
use Rattle.dagcbor_decode.specs.Verdicts.{IsRefusal}
use Rattle.dagcbor_decode.proofs.Refusals.{refused_after, refused_then, refused_as, named_as, ended}
use Rattle.dagcbor_items.specs.Leaves.{head_at, in_range, big_head_at}
use Rattle.dagcbor_items.specs.ReadCauses.{MajorCause, NumberCause, BigCause, BigNumberCause}
use Rattle.dagcbor_items.proofs.LeafRefusals.{head_stands}
use Rattle.dagcbor_items.specs.Majors.{HasMajor, TakesMajor}
use Rattle.dagcbor_items.proofs.Fronts.{front_byte}
use Rattle.dagcbor_items.proofs.HeadMajors.{has_major}

-- only a number shows a number
is_number : {V : Type 0} (accepted : ℤ → Option V) (t : Tree) → is_some (view_number accepted t) ≡ true → (n : ℤ) × (t ≡ integer n)
is_number accepted (integer n) a = (n, refl)
is_number accepted _ a = absurd (cc a)

number_kind : {V : Type 0} (accepted : ℤ → Option V) {r : Reading} → HasFront (leaf (view_number accepted)) r → HasMajor 0 1 r
number_kind accepted h =
    let n = is_number accepted h.tree h.accepted in
    has_major 0 1 h zero-le (subst (λ t. major t ≤ 1) (sym n.1) (integer_major n.0))

pub number_refused : {E : Type 0} (name : List ℕ) (old new : Reading) (e : DecodeError E) → RefusesPlainly (HasMajor 0 1 old) (MajorCause name 0 1) old e new
    → RefusesPlainly (HasFront (leaf (view_number Some)) old) (MajorCause name 0 1) old e new
number_refused name old new e r = passed_on (MajorCause name 0 1) (MajorCause name 0 1) old old new e (stays old) (number_kind Some) (λ x. x) (λ x. x) (λ b l. (b, l, λ h. h)) r

-- the number of a head
pub number_front : (kind n : ℕ) (b rest : List ℕ) → kind ≤ 1 → n < 2 ^ 64 → b ≡ head kind n ++ rest → IsFront b (integer (number_of kind n)) rest
number_front zero n b rest few fits e = record { well_formed = tt; spellable = fits; is = e }
number_front (suc zero) n b rest few fits e = record { well_formed = tt; spellable = fits; is = e }
number_front (suc (suc k)) n b rest few fits e = absurd (omega (arith, few))

pub number_taken : {old new : Reading} {kind n : ℕ} → TakesMajor 0 1 old kind n new → TakesFront (leaf (view_number Some)) old (number_of kind n) new
number_taken {old} {new} {kind} {n} h = record {
  taken = λ b l. let k = h.takes.taken b l in (integer (number_of kind n), k.0, number_front kind n b k.0 h.highest h.argument_fits k.1, refl, zero-le, k.2);
  same = h.takes.same;
}

-- a number that was passed to a function
pub number_handed : {V : Type 0} (accepted : ℤ → Option V) (n : ℤ) (o : Option V) → SFits w128 n → o ≡ accepted (to_z w128 (of_z w128 n)) → accepted n ≡ o
number_handed accepted n o fits e = ap accepted (sym (to_z-of_z w128 n fits)) ∙ sym e

-- ---- a number as a type has it

all_numbers : (t : Tree) (n : ℤ) → view_number Some t ≡ Some n → t ≡ integer n
all_numbers (integer m) n e = cc
all_numbers _ n e = absurd (cc e)

some_number : {V : Type 0} (accepted : ℤ → Option V) {r : Reading} → HasFront (leaf (view_number accepted)) r → HasFront (leaf (view_number Some)) r
some_number accepted h =
    let n = is_number accepted h.tree h.accepted in
    record { bytes = h.bytes; tree = h.tree; rest = h.rest; left = h.left; front = h.front; accepted = ap (λ t. is_some (view_number Some t)) n.1; within = zero-le }

pub number_narrowed : {V : Type 0} (accepted : ℤ → Option V) {old new : Reading} (n : ℤ) (v : V) → accepted n ≡ Some v → TakesFront (leaf (view_number Some)) old n new → TakesFront (leaf (view_number accepted)) old v new
number_narrowed accepted {old} {new} n v e h = record {
  taken = λ b l. let k = h.taken b l in (k.0, k.1, k.2, ap (view_number accepted) (all_numbers k.0 n k.3) ∙ e, zero-le, k.5);
  same = h.same;
}

-- what refuses a head refuses what is made of it
module _ {V E : Type 0} (accepted : ℤ → Option V) (name : List ℕ) where
  number_cause : (e : DecodeError E) (b : List ℕ) → MajorCause name 0 1 e b → NumberCause name accepted e b
  number_cause e b h = λ kept k. refused_after (head_at kept 0 1 b) (λ h. in_range kept (accepted (number_of h.0 h.1))) e (h kept k)

  big_number_cause : (e : DecodeError E) (b : List ℕ) → BigCause name e b → BigNumberCause name accepted e b
  big_number_cause e b h = λ kept k. refused_after (big_head_at kept b) (λ h. in_range kept (accepted (number_of h.0 h.1))) e (h kept k)

  narrow_refused : (stands more : DecodeError E → List ℕ → Type 0) (old new : Reading) (e : DecodeError E) → ((e : DecodeError E) (b : List ℕ) → stands e b → more e b) → RefusesPlainly (HasFront (leaf (view_number Some)) old) stands old e new
      → RefusesPlainly (HasFront (leaf (view_number accepted)) old) more old e new
  narrow_refused stands more old new e wider r = passed_on stands more old old new e (stays old) (some_number accepted) (λ x. x) (λ x. x) (λ b l. (b, l, wider e b)) r

-- the head of a number of any size is read
pub number_head_read : (kept : List ℕ) (n : ℤ) (b rest : List ℕ) → IsFront b (integer n) rest → (h : ℕ × ℕ) × (number_of h.0 h.1 ≡ n) × (h.0 ≤ 1) × (h.1 < 2 ^ 64) × (b ≡ head h.0 h.1 ++ rest)
number_head_read kept (pos n) b rest f = ((0, n), refl, omega arith, f.spellable, f.is)
number_head_read kept (negsuc n) b rest f = ((1, n), refl, omega arith, f.spellable, f.is)

none_there : (E : Type 0) {V : Type 0} (kept : List ℕ) (name : Name) (o : Option V) (rest : List ℕ) → o ≡ None → name_bytes name ≡ kept → IsRefusal {E = E} (in_range kept o rest) (CastOverflow name)
none_there E kept name o rest none is = subst (λ x. IsRefusal {E = E} (in_range kept x rest) (CastOverflow name)) (sym none) (ap (λ s. Some (cast_overflow s)) is)

number_outside : (E : Type 0) {V : Type 0} (accepted : ℤ → Option V) (name : List ℕ) (kept : Name) (n : ℤ) (b rest : List ℕ) → accepted n ≡ None → Names kept name → IsFront b (integer n) rest → NumberCause {E = E} name accepted (CastOverflow kept) b
number_outside E accepted name kept n b rest none named f = λ said k.
    let h = number_head_read said n b rest f in
    refused_then {E = E} (head_at said 0 1 b) (λ h. in_range said (accepted (number_of h.0 h.1))) h.0 rest (CastOverflow kept) (head_stands said 0 1 h.0.0 h.0.1 b rest h.3 (omega arith) h.2 h.4)
    (none_there E said kept (accepted (number_of h.0.0 h.0.1)) rest (ap accepted h.1 ∙ none) (named_as k named))

-- a head of a number does not begin with the tag of a bignum
no_big : (kept : List ℕ) (b : List ℕ) → ((first : ℕ) (more : List ℕ) → b ≡ first ∷ more → (first ≡ 0xc2) ⊎ (first ≡ 0xc3) → ⊥) → big_head_at kept b ≡ head_at kept 0 1 b
no_big kept [] other = refl
no_big kept (first ∷ more) other = rw (differs 0xc2 (λ e. other first more refl (inl e)), differs 0xc3 (λ e. other first more refl (inr e))) refl
  where
    differs : (n : ℕ) → (first ≡ n → ⊥) → (first == n) ≡ false
    differs n h = elim (eqb_tells first n) [ inl a ↦ absurd (h a.1) | inr a ↦ a.0 ]

-- if the head of a number is at the front, no such tag is
pub big_head_stands : (kept : List ℕ) (m n : ℕ) (b rest : List ℕ) → n < 2 ^ 64 → m ≤ 1 → b ≡ head m n ++ rest → big_head_at kept b ≡ got (m, n) rest
big_head_stands kept m n b rest fits few is = no_big kept b starts ∙ head_stands kept 0 1 m n b rest fits (omega arith) few is
  where
    starts : (first : ℕ) (more : List ℕ) → b ≡ first ∷ more → (first ≡ 0xc2) ⊎ (first ≡ 0xc3) → ⊥
    starts first more e which =
        let f = head_first m n fits in
        let same : first ∷ more ≡ (32 * m + f.0) ∷ (f.1 ++ rest) = sym e ∙ is ∙ ap (λ s. s ++ rest) f.3 in
        let byte : first ≡ 32 * m + f.0 = cc same in
        elim which [ inl x ↦ omega (arith, x, byte, f.2, few) | inr x ↦ omega (arith, x, byte, f.2, few) ]

big_number_outside : (E : Type 0) {V : Type 0} (accepted : ℤ → Option V) (name : List ℕ) (kept : Name) (n : ℤ) (b rest : List ℕ) → accepted n ≡ None → Names kept name → IsFront b (integer n) rest → BigNumberCause {E = E} name accepted (CastOverflow kept) b
big_number_outside E accepted name kept n b rest none named f = λ said k.
    let h = number_head_read said n b rest f in
    refused_then {E = E} (big_head_at said b) (λ h. in_range said (accepted (number_of h.0 h.1))) h.0 rest (CastOverflow kept) (big_head_stands said h.0.0 h.0.1 b rest h.3 h.2 h.4)
    (none_there E said kept (accepted (number_of h.0.0 h.0.1)) rest (ap accepted h.1 ∙ none) (named_as k named))

outside : (E : Type 0) {V : Type 0} (accepted : ℤ → Option V) (stands : DecodeError E → List ℕ → Type 0) {old new : Reading} (n : ℤ) (kept : Name) → accepted n ≡ None → ((b rest : List ℕ) → IsFront b (integer n) rest → stands (CastOverflow kept) b) → TakesFront (leaf (view_number Some)) old n new
    → RefusesPlainly {E = E} (HasFront (leaf (view_number accepted)) old) stands old (CastOverflow kept) new
outside E accepted stands {old} {new} n kept none cause h = (
  h.same.faults,
  λ i. let k = h.taken i.bytes i.left in
      let same = (front_unique i.bytes i.rest k.1 i.tree k.0 i.front k.2).0 ∙ all_numbers k.0 n k.3 in
      let shown : is_some (accepted n) ≡ true = ap (λ t. is_some (view_number accepted t)) (sym same) ∙ i.accepted in
      absurd (cc (shown, none)),
  λ b l. let k = h.taken b l in cause b k.1 (subst (λ t. IsFront b t k.1) (all_numbers k.0 n k.3) k.2),
)

-- not every number is accepted
module _ {V E : Type 0} (accepted : ℤ → Option V) (name : List ℕ) where
  pub number_not_read : (old new : Reading) (e : DecodeError E) → RefusesPlainly (HasFront (leaf (view_number Some)) old) (MajorCause name 0 1) old e new → RefusesPlainly (HasFront (leaf (view_number accepted)) old) (NumberCause name accepted) old e new
  number_not_read old new e r = narrow_refused accepted name (MajorCause name 0 1) (NumberCause name accepted) old new e (number_cause accepted name) r

  pub big_not_read : (old new : Reading) (e : DecodeError E) → RefusesPlainly (HasFront (leaf (view_number Some)) old) (BigCause name) old e new → RefusesPlainly (HasFront (leaf (view_number accepted)) old) (BigNumberCause name accepted) old e new
  big_not_read old new e r = narrow_refused accepted name (BigCause name) (BigNumberCause name accepted) old new e (big_number_cause accepted name) r

module _ (E : Type 0) {V : Type 0} (accepted : ℤ → Option V) (name : List ℕ) {old new : Reading} (n : ℤ) (kept : Name) where
  pub not_accepted : accepted n ≡ None → Names kept name → TakesFront (leaf (view_number Some)) old n new → RefusesPlainly {E = E} (HasFront (leaf (view_number accepted)) old) (NumberCause name accepted) old (CastOverflow kept) new
  not_accepted none named h = outside E accepted (NumberCause name accepted) n kept none (λ b rest. number_outside E accepted name kept n b rest none named) h

  pub big_not_accepted : accepted n ≡ None → Names kept name → TakesFront (leaf (view_number Some)) old n new → RefusesPlainly {E = E} (HasFront (leaf (view_number accepted)) old) (BigNumberCause name accepted) old (CastOverflow kept) new
  big_not_accepted none named h = outside E accepted (BigNumberCause name accepted) n kept none (λ b rest. big_number_outside E accepted name kept n b rest none named) h

-- ---- natural numbers, by their head

natural_is : (bound kind n : ℕ) → kind ≤ 0 → n < bound → natural_below bound (number_of kind n) ≡ Some n
natural_is bound zero n none few = grind (arith, ints, nat_tests)
natural_is bound (suc k) n none few = absurd (omega (arith, none))

natural_is_not : (bound kind n : ℕ) → (0 < kind) ⊎ (bound ≤ n) → natural_below bound (number_of kind n) ≡ None
natural_is_not bound zero n (inl some) = absurd (omega (arith, some))
natural_is_not bound zero n (inr most) = grind (arith, ints, nat_tests)
natural_is_not bound (suc k) n other = refl

pub natural_taken : {old new : Reading} {kind n : ℕ} (bound : ℕ) → TakesMajor 0 1 old kind n new → kind ≤ 0 → n < bound → TakesFront (leaf (view_number (natural_below bound))) old n new
natural_taken {old} {new} {kind} {n} bound h none few = number_narrowed (natural_below bound) _ _ (natural_is bound kind n none few) (number_taken h)

pub no_natural : (E : Type 0) (name : List ℕ) {old new : Reading} {kind n : ℕ} (bound : ℕ) (kept : Name) → Names kept name → TakesMajor 0 1 old kind n new → (0 < kind) ⊎ (bound ≤ n)
    → RefusesPlainly {E = E} (HasFront (leaf (view_number (natural_below bound))) old) (NumberCause name (natural_below bound)) old (CastOverflow kept) new
no_natural E name {old} {new} {kind} {n} bound kept named h other = not_accepted E (natural_below bound) name _ kept (natural_is_not bound kind n other) named (number_taken h)

pub natural_refused : {E : Type 0} (name : List ℕ) (bound : ℕ) (old new : Reading) (e : DecodeError E) → RefusesPlainly (HasMajor 0 1 old) (MajorCause name 0 1) old e new
    → RefusesPlainly (HasFront (leaf (view_number (natural_below bound))) old) (NumberCause name (natural_below bound)) old e new
natural_refused name bound old new e r = number_not_read (natural_below bound) name old new e (number_refused name old new e r)

-- ---- numbers of any size

-- a missing byte
big_byte : {E : Type 0} (name : List ℕ) (e : DecodeError E) (b : List ℕ) → IsEndNamed name e → ByteCause e b → BigCause name e b
big_byte {E} name (Eof n x) b named h = λ kept k. ended E kept name n x 1 (big_head_at kept b) 0 k named h.0 (ap (big_head_at kept) h.1)
big_byte name _ b named h = absurd h

pub big_byte_refused : {E : Type 0} (name : List ℕ) (old new : Reading) (e : DecodeError E) → IsEndNamed name e → RefusesPlainly (HasByte old) ByteCause old e new
    → RefusesPlainly (HasFront (leaf (view_number Some)) old) (BigCause name) old e new
big_byte_refused name old new e named r = passed_on ByteCause (BigCause name) old old new e (stays old) front_byte (λ x. x) (λ x. x) (λ b l. (b, l, big_byte name e b named)) r

-- a tag is not a number
pub no_tag : (E : Type 0) (name : List ℕ) {old mid : Reading} {first : ℕ} (kept : Name) → Names kept name → ShowsByte old first mid → (first ≡ 0xc2) ⊎ (first ≡ 0xc3)
    → RefusesPlainly {E = E} (HasFront (leaf (view_number Some)) old) (BigCause name) old (Unsupported kept first) mid
no_tag E name {old} {mid} {first} kept named h which = (
  h.same.faults,
  λ i. let k = number_kind Some i in
      let f = head_first k.major k.argument k.argument_fits in
      let s = h.starts _ k.left in
      let is : first ∷ s.0 ≡ (32 * k.major + f.0) ∷ (f.1 ++ k.rest) = sym s.1 ∙ ap (λ s. s ++ k.rest) f.3 in
      let same : first ≡ 32 * k.major + f.0 = cc is in
      elim which [ inl e ↦ omega (arith, e, same, f.2, k.highest) | inr e ↦ omega (arith, e, same, f.2, k.highest) ],
  λ b l. let s = h.starts b l in λ said k. refused_as {E = E} (big_head_at said b) (unsupported said first) (length s.0) _ (ap (big_head_at said) s.1 ∙ tagged said s.0) (ap (λ x. Some (unsupported x first)) (named_as k named)),
)
  where
    tagged : (said more : List ℕ) → big_head_at said (first ∷ more) ≡ refused (unsupported said first) (length more)
    tagged said more = elim which [ inl e ↦ rw e refl | inr e ↦ rw e refl ]

some_still : {old mid : Reading} {first : ℕ} → ShowsByte old first mid → HasFront (leaf (view_number Some)) old → HasFront (leaf (view_number Some)) mid
some_still h i = record { bytes = i.bytes; tree = i.tree; rest = i.rest; left = h.kept i.bytes i.left; front = i.front; accepted = i.accepted; within = zero-le }

pub big_read : {E : Type 0} (name : List ℕ) {old mid : Reading} {first : ℕ} (new : Reading) (r : Result ℤ (DecodeError E)) → ShowsByte old first mid → ((first ≡ 0xc2) ⊎ (first ≡ 0xc3) → ⊥) → Reads (λ n. n) (leaf (view_number Some)) ⊥ ⊥ (MajorCause name 0 1) mid r new
    → Reads (λ n. n) (leaf (view_number Some)) ⊥ ⊥ (BigCause name) old r new
big_read name {old} {mid} new (Ok n) h other a = record {
  taken = λ b l. (let k = a.taken b (h.kept b l) in (k.0, k.1, k.2, k.3, zero-le, k.5));
  same = stays_both h.same a.same;
}
big_read name {old} {mid} {first} new (Err e) h other r = passed_on (MajorCause name 0 1) (BigCause name) old mid new e h.same (some_still h) (λ x. x) (λ x. x)
    (λ b l. (
      b,
      h.kept b l,
      λ c said k. subst (λ x. IsRefusal x e) (sym (no_big said b (λ found more is which.
          let s = h.starts b l in
          let same : first ∷ s.0 ≡ found ∷ more = sym s.1 ∙ is in
          let found_is : found ≡ first = cc same in
          other (subst (λ n. (n ≡ 0xc2) ⊎ (n ≡ 0xc3)) found_is which)))) (c said k),
    )) r

pub within_i128 : (n : ℤ) → SFits w128 n → within (2 ^ 127) n ≡ Some n
within_i128 (pos n) h = grind (arith, ints, nat_tests)
within_i128 (negsuc n) h = grind (arith, ints, nat_tests)
