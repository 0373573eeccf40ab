-- Reading texts and byte strings.
use Rattle.std.proofs.Common.{◌≡◌, ℕ, ◌^◌, ◌<◌, List, ◌++◌, length, true, false, refl, sym, ap, ◌∙◌, subst, arith, append_assoc, zero-le, Some, None, Option, is_some, Result, Ok, Err, MatchResult, IsUtf8, IfErr, codes, Global}
use Rattle.std.specs.Cow.{cow_slice_items}
use Rattle.std.specs.declared.borrow.CowSlice.{CowSlice}
use Rattle.dagcbor_core.specs.Head.{head}
use Rattle.dagcbor_core.specs.Names.{Names}
use Rattle.dagcbor_heads.specs.Reading.{Reading, Stays}
use Rattle.dagcbor_heads.specs.Fronts.{HasHead, HasPayload, ShowsByte, Takes}
use Rattle.dagcbor_core.specs.Causes.{HeadCause, PayloadCause, IsNamed, IsPayloadNamed}
use Rattle.dagcbor_heads.specs.Refusals.{RefusesPlainly, RefusesOrLacksMemoryUnlent, Refuses}
use Rattle.dagcbor_core.specs.declared.name.Name.{Name}
use Rattle.dagcbor_core.specs.declared.error.DecodeError.{DecodeError}
use Rattle.dagcbor_core.specs.declared.error.DecodeError.TheVariants.{RequireUtf8}
use Rattle.dagcbor_core.proofs.Heads.{head_unique}
use Rattle.dagcbor_heads.proofs.Taking.{stays, stays_both, takes_both}
use Rattle.dagcbor_heads.proofs.Refusing.{passed_on}
use Rattle.ipld_tree.specs.Tree.{Tree, text, bytes}
use Rattle.ipld_tree.specs.Spelling.{IsFront}
use Rattle.ipld_tree.proofs.Unique.{split_at_length}
use Rattle.dagcbor_items.specs.TypedReads.{HasFront, TakesFront, Reads}
use Rattle.dagcbor_items.specs.Shapes.{view_text, view_bytes, leaf}
use Rattle.dagcbor_items.proofs.LeafRefusals.{major_head, string_head, string_cut, text_string, text_garbled}
use Rattle.dagcbor_items.specs.ReadCauses.{MajorCause, StringCause, TextCause}
use Rattle.dagcbor_items.specs.LeafReads.{ReadsByteSlice}
use Rattle.dagcbor_items.proofs.SimpleValues.{spelling_taken}
use Rattle.dagcbor_items.specs.Majors.{HasMajor, TakesMajor, HasString, TakesString, ReadsString}
use Rattle.dagcbor_items.specs.Untyped.{StartsWithMajor}

-- ---- a string of the major type

-- the head of one major type was taken
pub of_kind : {kind m n : ℕ} {old mid : Reading} → TakesMajor kind kind old m n mid → Takes old (head kind n) mid
of_kind {kind} {m} {n} {old} {mid} h = let same : m ≡ kind = omega (arith, h.lowest, h.highest) in subst (λ x. Takes old (head x n) mid) same h.takes

-- the string after the head that was taken
after_kind : {kind n : ℕ} {old mid : Reading} → n < 2 ^ 64 → Takes old (head kind n) mid → (h : HasString kind old) → (length h.payload ≡ n) × (mid.left ≡ Some (h.payload ++ h.rest))
after_kind {kind} {n} fits t h =
    let k = t.taken _ h.left in
    let u = head_unique kind (length h.payload) kind n (h.payload ++ h.rest) k.0 h.fits fits k.1 in
    (u.1, k.2 ∙ ap Some (sym u.2))

payload_refused : {E : Type 0} (lacks : Type 0) (name : List ℕ) (kind : ℕ) {n : ℕ} {old mid : Reading} (new : Reading) (e : DecodeError E) → n < 2 ^ 64 → Takes old (head kind n) mid → IsPayloadNamed name e
    → (lacks' : Type 0) → (lacks → lacks') → Refuses (record { could = HasPayload n mid; lacks = lacks; borrows = ⊥; stands = PayloadCause n }) mid e new → Refuses (record { could = HasString kind old; lacks = lacks'; borrows = ⊥; stands = StringCause name kind }) old e new
payload_refused lacks name kind {n} {old} {mid} new e fits t named lacks' want r = passed_on (PayloadCause n) (StringCause name kind) old mid new e t.same
    (λ h. let k = after_kind fits t h in record { payload = h.payload; rest = h.rest; long = k.0; left = k.1 }) want (λ x. x)
    (λ b l. let k = t.taken b l in (k.0, k.2, string_cut name kind n e b k.0 fits k.1 named)) r

string_taken : {kind n : ℕ} {old mid new : Reading} (s : List ℕ) → n < 2 ^ 64 → Takes old (head kind n) mid → length s ≡ n → Takes mid s new → TakesString kind old s new
string_taken {kind} {n} {old} {mid} {new} s fits t long p = record {
  fits = omega (arith, long, fits);
  takes = subst (λ x. Takes old (head kind x ++ s) new) (sym long) (takes_both t p);
}

pub string_read : {E : Type 0} (name : List ℕ) (kind : ℕ) {m n : ℕ} {old mid : Reading} (new : Reading) (result : Result (CowSlice ℕ Global) (DecodeError E)) → TakesMajor kind kind old m n mid
    → IfErr result (λ e. IsPayloadNamed name e)
    → MatchResult result (λ c. (length (cow_slice_items c) ≡ n) × Takes mid (cow_slice_items c) new) (λ e. RefusesOrLacksMemoryUnlent (HasPayload n mid) (PayloadCause n) mid e new)
    → ReadsString cow_slice_items name kind old result new
string_read name kind new (Ok c) t named h = string_taken (cow_slice_items c) t.argument_fits (of_kind t) h.0 h.1
string_read name kind {m} {n} {old} {mid} new (Err e) t named h = payload_refused (mid.lends ≡ false) name kind new e t.argument_fits (of_kind t) named (old.lends ≡ false) (λ x. sym t.takes.same.lends ∙ x) h

-- there was no byte of the major type at the front
pub string_kind_refused : {E : Type 0} (lacks : Type 0) (name : List ℕ) (kind : ℕ) (old new : Reading) (e : DecodeError E) → RefusesPlainly (HasMajor kind kind old) (MajorCause name kind kind) old e new
    → Refuses (record { could = HasString kind old; lacks = lacks; borrows = ⊥; stands = StringCause name kind }) old e new
string_kind_refused lacks name kind old new e r =
    passed_on (MajorCause name kind kind) (StringCause name kind) old old new e (stays old) string_kind (λ x. absurd x) (λ x. x) (λ b l. (b, l, string_head name kind e b)) r
  where
    string_kind : HasString kind old → HasMajor kind kind old
    string_kind h = record { major = kind; argument = length h.payload; rest = h.payload ++ h.rest; lowest = omega arith; highest = omega arith; argument_fits = h.fits; left = h.left }

-- there was no head at the front, after a first byte of the major type
pub string_head_refused : {E : Type 0} (lacks : Type 0) (name : List ℕ) (kind : ℕ) (old new : Reading) (e : DecodeError E) → kind < 8 → StartsWithMajor old kind → IsNamed name e → RefusesPlainly (HasHead old) HeadCause old e new
    → Refuses (record { could = HasString kind old; lacks = lacks; borrows = ⊥; stands = StringCause name kind }) old e new
string_head_refused lacks name kind old new e few starts named r =
    passed_on HeadCause (StringCause name kind) old old new e (stays old) head_there (λ x. absurd x) (λ x. x)
    (λ b l. let s = starts b l in (b, l, λ c. string_head name kind e b (major_head name kind kind e s.0 b s.1 s.2 (omega (arith, s.3)) (omega (arith, s.3)) named c))) r
  where
    head_there : HasString kind old → HasHead old
    head_there h = record { major = kind; argument = length h.payload; rest = h.payload ++ h.rest; major_fits = few; argument_fits = h.fits; left = h.left }

-- what was read after a byte that was peeked at
pub peeked_read : {T V E : Type 0} (meaning : T → V) (view : Tree → Option V) (lacks : Reading → Type 0) (stands : DecodeError E → List ℕ → Type 0) {old mid : Reading} {first : ℕ} (new : Reading) (r : Result T (DecodeError E)) → ShowsByte old first mid → (Stays old mid → lacks mid → lacks old)
    → Reads meaning (leaf view) (lacks mid) ⊥ stands mid r new → Reads meaning (leaf view) (lacks old) ⊥ stands old r new
peeked_read meaning view lacks stands {old} {mid} new (Ok v) h want a = record {
  taken = λ b l. (let k = a.taken b (h.kept b l) in (k.0, k.1, k.2, k.3, zero-le, k.5));
  same = stays_both h.same a.same;
}
peeked_read meaning view lacks stands {old} {mid} new (Err e) h want r = passed_on stands stands old mid new e h.same still (want h.same) (λ x. x) (λ b l. (b, h.kept b l, λ c. c)) r
  where
    still : HasFront (leaf view) old → HasFront (leaf view) mid
    still f = record { bytes = f.bytes; tree = f.tree; rest = f.rest; left = h.kept f.bytes f.left; front = f.front; accepted = f.accepted; within = zero-le }

some_of : {V : Type 0} (o : Option V) → is_some o ≡ true → (v : V) × (o ≡ Some v)
some_of (Some v) e = (v, refl)
some_of None e = absurd (cc e)

-- ---- byte strings

pub shown_bytes : (t : Tree) (s : List ℕ) → view_bytes t ≡ Some s → t ≡ bytes s
shown_bytes (bytes v) s e = cc
shown_bytes _ s e = absurd (cc e)

-- a string is at the front if its head and its payload are
bytes_stand : {r : Reading} → HasFront (leaf view_bytes) r → HasString 2 r
bytes_stand {r} h =
    let s = some_of (view_bytes h.tree) h.accepted in
    let f = subst (λ t. IsFront h.bytes t h.rest) (shown_bytes h.tree s.0 s.1) h.front in
    record { payload = s.0; rest = h.rest; fits = f.spellable; left = h.left ∙ ap Some (f.is ∙ append_assoc (head 2 (length s.0)) s.0 h.rest) }

pub bytes_string_refused : {E : Type 0} (lacks : Type 0) (old new : Reading) (e : DecodeError E) → Refuses (record { could = HasString 2 old; lacks = lacks; borrows = ⊥; stands = StringCause (codes "bytes") 2 }) old e new
    → Refuses (record { could = HasFront (leaf view_bytes) old; lacks = lacks; borrows = ⊥; stands = StringCause (codes "bytes") 2 }) old e new
bytes_string_refused lacks old new e r = passed_on (StringCause (codes "bytes") 2) (StringCause (codes "bytes") 2) old old new e (stays old) bytes_stand (λ x. x) (λ x. x) (λ b l. (b, l, λ c. c)) r

pub bytes_read : {E : Type 0} (old new : Reading) (result : Result (CowSlice ℕ Global) (DecodeError E)) → ReadsString cow_slice_items (codes "bytes") 2 old result new → ReadsByteSlice old result new
bytes_read old new (Ok c) h = let s = cow_slice_items c in spelling_taken view_bytes (bytes s) s tt h.fits refl h.takes
bytes_read old new (Err e) h = bytes_string_refused (old.lends ≡ false) old new e h

-- ---- texts

pub shown_text : (t : Tree) (s : List ℕ) → view_text t ≡ Some s → t ≡ text s
shown_text (text v) s e = cc
shown_text _ s e = absurd (cc e)

text_front : {r : Reading} (h : HasFront (leaf view_text) r) → (s : List ℕ) × IsFront h.bytes (text s) h.rest
text_front h = let s = some_of (view_text h.tree) h.accepted in (s.0, subst (λ t. IsFront h.bytes t h.rest) (shown_text h.tree s.0 s.1) h.front)

text_stands : {r : Reading} → HasFront (leaf view_text) r → HasString 3 r
text_stands {r} h =
    let s = text_front h in
    record { payload = s.0; rest = h.rest; fits = s.1.spellable; left = h.left ∙ ap Some (s.1.is ∙ append_assoc (head 3 (length s.0)) s.0 h.rest) }

pub text_string_refused : {E : Type 0} (lacks : Type 0) (name : List ℕ) (old new : Reading) (e : DecodeError E) → Refuses (record { could = HasString 3 old; lacks = lacks; borrows = ⊥; stands = StringCause name 3 }) old e new
    → Refuses (record { could = HasFront (leaf view_text) old; lacks = lacks; borrows = ⊥; stands = TextCause name }) old e new
text_string_refused lacks name old new e r = passed_on (StringCause name 3) (TextCause name) old old new e (stays old) text_stands (λ x. x) (λ x. x) (λ b l. (b, l, text_string name e b)) r

pub text_string_taken : {old new : Reading} (s payload : List ℕ) → s ≡ payload → IsUtf8 s → TakesString 3 old payload new → TakesFront (leaf view_text) old s new
text_string_taken {old} {new} s payload e u h = let k = subst (λ x. TakesString 3 old x new) (sym e) h in spelling_taken view_text (text s) s u k.fits refl k.takes

pub no_text_refused : (E : Type 0) (name : List ℕ) {old new : Reading} (s : List ℕ) (kept : Name) → Names kept name → TakesString 3 old s new → (IsUtf8 s → ⊥)
    → RefusesPlainly {E = E} (HasFront (leaf view_text) old) (TextCause name) old (RequireUtf8 kept) new
no_text_refused E name {old} {new} s kept named h not_text = (
  h.takes.same.faults,
  λ i. let t = text_front i in
      let k = h.takes.taken i.bytes i.left in
      let same = head_unique 3 (length t.0) 3 (length s) (t.0 ++ i.rest) (s ++ k.0) t.1.spellable h.fits
      (sym (append_assoc (head 3 (length t.0)) t.0 i.rest) ∙ sym t.1.is ∙ k.1 ∙ append_assoc (head 3 (length s)) s k.0) in
      let payload = split_at_length t.0 s i.rest k.0 same.1 same.2 in
      not_text (subst IsUtf8 payload.0 t.1.well_formed),
  λ b l. let k = h.takes.taken b l in text_garbled E name kept b s k.0 h.fits (k.1 ∙ append_assoc (head 3 (length s)) s k.0) named not_text,
)
