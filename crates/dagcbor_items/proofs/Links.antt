-- Reading links.
use Rattle.std.proofs.lemmas.Bool.{cases_lt}
use Rattle.std.proofs.lemmas.Bool.Decides.{eqb_tells}
use Rattle.std.proofs.Common.{◌≡◌, ◌==◌, inl, inr, ℕ, zero, suc, Bool, false, lt-ltb, le-ltb, ◌+◌, ◌*◌, ◌/◌, ◌^◌, ◌<◌, ◌≤◌, List, [], ◌∷◌, ◌++◌, length, refl, sym, ap, ◌∙◌, subst, arith, append_assoc, true, zero-le, Option, Some, None, is_some, Result, Ok, Err, codes}
use Rattle.dagcbor_core.specs.Head.{head}
use Rattle.dagcbor_core.specs.Lengths.{len_of}
use Rattle.dagcbor_core.specs.Names.{Names}
use Rattle.dagcbor_heads.specs.Reading.{Reading}
use Rattle.dagcbor_heads.specs.Fronts.{HasByte, HasHead, HasPayload, ShowsByte, Takes}
use Rattle.dagcbor_core.specs.Causes.{ByteCause, HeadCause, PayloadCause, IsEndNamed, IsPayloadNamed, IsNamed}
use Rattle.dagcbor_heads.specs.Refusals.{RefusesPlainly}
use Rattle.dagcbor_core.specs.declared.name.Name.{Name}
use Rattle.dagcbor_core.specs.declared.error.DecodeError.{DecodeError}
use Rattle.dagcbor_core.specs.declared.error.DecodeError.TheVariants.{Msg, Read, Eof, Unsupported, OutOfMemory}
use Rattle.dagcbor_core.proofs.Heads.{head_unique, head_first}
use Rattle.dagcbor_heads.proofs.Taking.{stays, stays_both}
use Rattle.dagcbor_heads.proofs.Refusing.{passed_on}
use Rattle.ipld_tree.specs.Cid.{CidParts, AreCidParts, IsCid, cid_bytes}
use Rattle.ipld_tree.specs.Tree.{Tree, link}
use Rattle.ipld_tree.specs.Spelling.{bytes_spelling, IsFront}
use Rattle.ipld_tree.proofs.Cids.{cid_length}
use Rattle.ipld_tree.proofs.Unique.{split_at_length}
use Rattle.ipld_tree.proofs.Fronts.{is_link}
use Rattle.dagcbor_items.specs.Shapes.{Shape, view_link, leaf}
use Rattle.dagcbor_items.specs.TypedReads.{HasFront, TakesFront}
use Rattle.dagcbor_decode.specs.CidTest.{is_cid}
use Rattle.dagcbor_decode.specs.Decode.{Decoded, got, refused, mismatch, unsupported, msg, after, payload, argument_of, zero_and_cid, cid_bytes_of, cid_of, tag_of, link_of, leaf_of, eof}
use Rattle.dagcbor_decode.specs.Verdicts.{IsRefusal, why_of}
use Rattle.dagcbor_decode.proofs.CidTest.{cid_tested}
use Rattle.dagcbor_decode.proofs.HeadLaws.{head_front, payload_front}
use Rattle.dagcbor_decode.proofs.Named.{named as named_short}
use Rattle.dagcbor_decode.proofs.Refusals.{refused_after, refused_as, ended, kept_short, payload_refused}
use Rattle.dagcbor_items.specs.Leaves.{byte_at, link_at}
use Rattle.dagcbor_items.specs.ReadCauses.{WantedCause, CidCause, LinkCause}
use Rattle.dagcbor_items.specs.ReadCauses.{ItemCause}
use Rattle.dagcbor_items.specs.Untyped.{HasItem, TakesItem, StartsWithMajor, StartsDefinite}
use Rattle.dagcbor_items.specs.Links.{HasWanted, HasCid, TakesCid, ReadsCid, ReadsLink, IsZeroAndCid}
use Rattle.dagcbor_items.proofs.ItemRefusals.{leaf_refused}
use Rattle.dagcbor_items.proofs.Fronts.{TakesHeadOf, major_of_front, definite, no_argument}

-- ---- a wanted byte

wanted_byte : {wanted : ℕ} {r : Reading} → HasWanted wanted r → HasByte r
wanted_byte {wanted} h = record { byte = wanted; rest = h.rest; left = h.left }

no_byte : {E : Type 0} (name other : List ℕ) (wanted : ℕ) (e : DecodeError E) (b : List ℕ) → IsEndNamed name e → ByteCause e b → WantedCause name other wanted e b
no_byte {E} name other wanted (Eof n x) b named h = λ kept also k j. ended E kept name n x 1 (byte_at kept also wanted b) 0 k named h.0 (ap (byte_at kept also wanted) h.1)
no_byte name other wanted _ b named h = absurd h

pub wanted_refused : {E : Type 0} (name other : List ℕ) (wanted : ℕ) (old new : Reading) (e : DecodeError E) → IsEndNamed name e → RefusesPlainly (HasByte old) ByteCause old e new → RefusesPlainly (HasWanted wanted old) (WantedCause name other wanted) old e new
wanted_refused name other wanted old new e named r = passed_on ByteCause (WantedCause name other wanted) old old new e (stays old) wanted_byte (λ x. x) (λ x. x) (λ b l. (b, l, no_byte name other wanted e b named)) r

-- ---- after the tag

-- the byte string as its head and its payload
cid_spelled : (cid rest : List ℕ) → bytes_spelling (0x00 ∷ cid) ++ rest ≡ head 2 (length (0x00 ∷ cid)) ++ ((0x00 ∷ cid) ++ rest)
cid_spelled cid rest = append_assoc (head 2 (length (0x00 ∷ cid))) (0x00 ∷ cid) rest

cid_head : {r : Reading} → HasCid r → HasHead r
cid_head h = record { major = 2; argument = length (0x00 ∷ h.cid); rest = (0x00 ∷ h.cid) ++ h.rest; major_fits = omega arith; argument_fits = omega (arith, h.fits); left = h.left ∙ ap Some (cid_spelled h.cid h.rest) }

-- the first byte of its head
cid_first : {r : Reading} → (h : HasCid r) → (i : ℕ) × (more : List ℕ) × (i < 28) × (bytes_spelling (0x00 ∷ h.cid) ++ h.rest ≡ (32 * 2 + i) ∷ more)
cid_first h =
    let f = head_first 2 (length (0x00 ∷ h.cid)) (omega (arith, h.fits)) in
    (f.0, f.1 ++ ((0x00 ∷ h.cid) ++ h.rest), f.2, cid_spelled h.cid h.rest ∙ ap (λ s. s ++ ((0x00 ∷ h.cid) ++ h.rest)) f.3)

cid_byte : {r : Reading} → HasCid r → HasByte r
cid_byte h = let f = cid_first h in record { byte = 32 * 2 + f.0; rest = f.1; left = h.left ∙ ap Some f.3 }

pub cid_byte_refused : {E : Type 0} (old new : Reading) (e : DecodeError E) → IsEndNamed (codes "cid") e → RefusesPlainly (HasByte old) ByteCause old e new → RefusesPlainly (HasCid old) CidCause old e new
cid_byte_refused old new e named r = passed_on ByteCause CidCause old old new e (stays old) cid_byte (λ x. x) (λ x. x) (λ b l. (b, l, none e b named)) r
  where
    none : {E : Type 0} (e : DecodeError E) (b : List ℕ) → IsEndNamed (codes "cid") e → ByteCause e b → CidCause e b
    none {E} (Eof n x) b named h = ended E (codes "cid") (codes "cid") n x 1 (cid_of b) 0 (kept_short (codes "cid") (omega arith)) named h.0 (ap cid_of h.1)
    none _ b named h = absurd h

pub cid_head_refused : {E : Type 0} (old new : Reading) (e : DecodeError E) → StartsWithMajor old 2 → IsNamed (codes "cid") e → RefusesPlainly (HasHead old) HeadCause old e new → RefusesPlainly (HasCid old) CidCause old e new
cid_head_refused old new e starts named r = passed_on HeadCause CidCause old old new e (stays old) cid_head (λ x. x) (λ x. x)
    (λ b l. let s = starts b l in (b, l, λ h. by b s.0 s.1 s.2 s.3 (no_argument (codes "cid") e s.0 b s.1 (omega arith) s.2 named h))) r
  where
    by : (b : List ℕ) (first : ℕ) (more : List ℕ) → b ≡ first ∷ more → first / 32 ≡ 2 → IsRefusal (argument_of (codes "cid") first more) e → CidCause e b
    by b first more is m h =
        let opened : cid_of b ≡ after (argument_of (codes "cid") first more) cid_bytes_of = ap cid_of is ∙ rw m refl in
        subst (λ x. IsRefusal x e) (sym opened) (refused_after (argument_of (codes "cid") first more) cid_bytes_of e h)

pub no_byte_string : (E : Type 0) {old new : Reading} {first : ℕ} (name : Name) → Names name (codes "cid") → ShowsByte old first new → (first / 32 ≡ 2 → ⊥) → RefusesPlainly {E = E} (HasCid old) CidCause old (Unsupported name first) new
no_byte_string E {old} {new} {first} name named h other = (
  h.same.faults,
  λ k. let f = cid_first k in
      let s = h.starts _ k.left in
      let is : first ∷ s.0 ≡ (32 * 2 + f.0) ∷ f.1 = sym s.1 ∙ f.3 in
      let same : first ≡ 32 * 2 + f.0 = cc in
      other (omega (arith, same, f.2)),
  λ b l. let s = h.starts b l in refused_as {E = E} (cid_of b) (unsupported (codes "cid") first) (length s.0) _ (ap cid_of s.1 ∙ rw unlike refl) (ap (λ k. Some (unsupported k first)) (named_short name (codes "cid") (codes "cid") named refl (omega arith))),
)
  where
    unlike : (first / 32 == 2) ≡ false
    unlike = elim (eqb_tells (first / 32) 2) [ inl a ↦ absurd (other a.1) | inr a ↦ a.0 ]

-- after its head
cid_opened : (b c : List ℕ) (n : ℕ) → n < 2 ^ 64 → b ≡ head 2 n ++ c → cid_of b ≡ cid_bytes_of n c
cid_opened b c n fits is =
    let h = head_front 2 n c fits in
    ap cid_of (is ∙ h.is) ∙ rw h.major_is (ap (λ x. after x cid_bytes_of) (h.reads (codes "cid")))

-- not a CID: what the refusal says
invalid : {E A : Type 0} (r : Decoded A) (left : ℕ) (e : DecodeError E) → r ≡ refused (msg (codes "Invalid CID")) left → (n : Name) × (e ≡ Msg n) × Names n (codes "Invalid CID") → IsRefusal r e
invalid {E} r left e is told = refused_as r (msg (codes "Invalid CID")) left e is (ap why_of told.1 ∙ ap (λ s. Some (msg s)) (named_short told.0 (codes "Invalid CID") (codes "Invalid CID") told.2 refl (omega arith)))

-- the head was taken, and a CID is after it
record StandsAfter (n : ℕ) (mid : Reading) : Type 0 where
  cid : List ℕ
  rest : List ℕ
  is_cid : IsCid cid
  long : length (0x00 ∷ cid) ≡ n
  left : mid.left ≡ Some ((0x00 ∷ cid) ++ rest)

after_head : {old mid : Reading} {n : ℕ} → TakesHeadOf old 2 n mid → HasCid old → StandsAfter n mid
after_head {old} {mid} {n} h i =
    let k = h.taken _ i.left in
    let u = head_unique 2 (length (0x00 ∷ i.cid)) 2 n ((0x00 ∷ i.cid) ++ i.rest) k.0 (omega (arith, i.fits)) h.fits (sym (cid_spelled i.cid i.rest) ∙ k.1) in
    record { cid = i.cid; rest = i.rest; is_cid = i.is_cid; long = u.1; left = k.2 ∙ ap Some (sym u.2) }

-- the refusal of a byte string that is not a zero and a CID
abbrev pub IsInvalidCid : {E : Type 0} → DecodeError E → Type 0
IsInvalidCid e = (message : Name) × (e ≡ Msg message) × Names message (codes "Invalid CID")

pub link_too_long : {E : Type 0} {old mid : Reading} {n : ℕ} (e : DecodeError E) → IsInvalidCid e → TakesHeadOf old 2 n mid → 87 < n → RefusesPlainly (HasCid old) CidCause old e mid
link_too_long {E} {old} {mid} {n} e is h more = subst (λ x. RefusesPlainly {E = E} (HasCid old) CidCause old x mid) (sym is.1) (
  h.same.faults,
  λ i. let k = after_head h i in omega (arith, cid_length k.cid k.is_cid, k.long, more),
  λ b l. let k = h.taken b l in invalid (cid_of b) (length k.0) (Msg is.0) (cid_opened b k.0 n h.fits k.1 ∙ rw (lt-ltb 87 n more) refl) (is.0, refl, is.2),
)

cut_stands : {E : Type 0} (e : DecodeError E) (b c : List ℕ) (n : ℕ) → n < 2 ^ 64 → n ≤ 87 → b ≡ head 2 n ++ c → IsEndNamed (codes "cid") e → PayloadCause n e c → CidCause e b
cut_stands {E} e b c n fits most is named h =
    let opened : cid_of b ≡ after (payload (codes "cid") n c) zero_and_cid = cid_opened b c n fits is ∙ rw (le-ltb 87 n most) refl in
    subst (λ x. IsRefusal x e) (sym opened) (refused_after (payload (codes "cid") n c) zero_and_cid e (payload_refused (codes "cid") (codes "cid") n e c (kept_short (codes "cid") (omega arith)) (of_payload e named) h))
  where
    of_payload : (e : DecodeError E) → IsEndNamed (codes "cid") e → IsPayloadNamed (codes "cid") e
    of_payload (Eof n x) h = h
    of_payload (Read x) h = tt
    of_payload OutOfMemory h = tt
    of_payload _ h = absurd h

pub cid_payload_refused : {E : Type 0} {old mid : Reading} {n : ℕ} (new : Reading) (e : DecodeError E) → TakesHeadOf old 2 n mid → n ≤ 87 → IsEndNamed (codes "cid") e → RefusesPlainly (HasPayload n mid) (PayloadCause n) mid e new → RefusesPlainly (HasCid old) CidCause old e new
cid_payload_refused {E} {old} {mid} {n} new e h most named r = passed_on (PayloadCause n) CidCause old mid new e h.same
    (λ i. let k = after_head h i in record { payload = 0x00 ∷ k.cid; rest = k.rest; long = k.long; left = k.left }) (λ x. x) (λ x. x)
    (λ b l. let k = h.taken b l in (k.0, k.2, cut_stands e b k.0 n h.fits most k.1 named)) r

pub no_cid : {E : Type 0} {old mid new : Reading} {n : ℕ} (e : DecodeError E) (s : List ℕ) → IsInvalidCid e → TakesHeadOf old 2 n mid → length s ≡ n → Takes mid s new → IsZeroAndCid s None → RefusesPlainly (HasCid old) CidCause old e new
no_cid {E} {old} {mid} {new} {n} e s is h long p other = subst (λ x. RefusesPlainly {E = E} (HasCid old) CidCause old x new) (sym is.1) (
  p.same.faults ∙ h.same.faults,
  λ i. let k = after_head h i in
      let q = p.taken _ k.left in
      let same = split_at_length (0x00 ∷ k.cid) s k.rest q.0 (k.long ∙ sym long) q.1 in
      other k.cid (sym same.0) k.is_cid,
  λ b l. let k = h.taken b l in
      let q = p.taken k.0 k.2 in
      by b k.0 q.0 k.1 q.1,
)
  where
    none : (s rest : List ℕ) → IsZeroAndCid s None → zero_and_cid s rest ≡ refused (msg (codes "Invalid CID")) (length rest)
    none [] rest other = refl
    none (zero ∷ cid) rest other = rw (unlike (is_cid cid) (λ yes. other cid refl ((cid_tested cid).0 yes))) refl
      where
        unlike : (t : Bool) → (t ≡ true → ⊥) → t ≡ false
        unlike true other' = absurd (other' refl)
        unlike false other' = refl
    none (suc n ∷ cid) rest other = refl

    by : (b c rest : List ℕ) → b ≡ head 2 n ++ c → c ≡ s ++ rest → CidCause {E = E} (Msg is.0) b
    by b c rest opens goes = elim (cases_lt 87 n) [
      | inl more ↦ invalid (cid_of b) (length c) (Msg is.0) (cid_opened b c n h.fits opens ∙ rw (lt-ltb 87 n more) refl) (is.0, refl, is.2)
      | inr most ↦
          let opened : cid_of b ≡ after (payload (codes "cid") n c) zero_and_cid = cid_opened b c n h.fits opens ∙ rw (le-ltb 87 n most) refl in
          let read : payload (codes "cid") n c ≡ got s rest = ap (payload (codes "cid") n) goes ∙ payload_front (codes "cid") n s rest (sym long) in
          invalid (cid_of b) (length rest) (Msg is.0) (opened ∙ ap (λ x. after x zero_and_cid) read ∙ none s rest other) (is.0, refl, is.2)
    ]

pub cid_taken : {old mid new : Reading} {n : ℕ} (c : CidParts) (s : List ℕ) → TakesHeadOf old 2 n mid → length s ≡ n → Takes mid s new → AreCidParts c × (s ≡ 0x00 ∷ cid_bytes c) → TakesCid old (cid_bytes c) new
cid_taken {old} {mid} {new} {n} c s h long p k = record {
  is_cid = (c, k.0, refl);
  fits = omega (arith, long, ap length k.1, h.fits);
  takes = record {
    taken = λ b l.
        let q = h.taken b l in
        let w = p.taken q.0 q.2 in
        (w.0, q.1 ∙ ap (λ x. head 2 x ++ q.0) (sym long ∙ ap length k.1) ∙ ap (λ x. head 2 (length (0x00 ∷ cid_bytes c)) ++ x) (w.1 ∙ ap (λ x. x ++ w.0) k.1) ∙ sym (cid_spelled (cid_bytes c) w.0), w.2);
    same = stays_both h.same p.same;
  };
}

pub found_in : (s t : List ℕ) (o : Option CidParts) → s ≡ t → IsZeroAndCid s o → IsZeroAndCid t o
found_in s t o e h = subst (λ x. IsZeroAndCid x o) e h

-- ---- the tag

-- a link is at the front
record HasLink (r : Reading) : Type 0 where
  bytes : List ℕ
  cid : List ℕ
  rest : List ℕ
  left : r.left ≡ Some bytes
  front : IsFront bytes (link cid) rest

link_stands : {r : Reading} → HasFront (leaf view_link) r → HasLink r
link_stands h =
    let l = is_accepted h.tree h.accepted in
    record { bytes = h.bytes; cid = l.0; rest = h.rest; left = h.left; front = subst (λ t. IsFront h.bytes t h.rest) l.1 h.front }
  where
    is_accepted : (t : Tree) → is_some (view_link t) ≡ true → (cid : List ℕ) × (t ≡ link cid)
    is_accepted (link cid) a = (cid, refl)
    is_accepted _ a = absurd (cc a)

-- what follows the first byte of a link
after_first : {old mid : Reading} → Takes old (0xd8 ∷ []) mid → (i : HasLink old) → mid.left ≡ Some (0x2a ∷ (bytes_spelling (0x00 ∷ i.cid) ++ i.rest))
after_first h i =
    let k = h.taken i.bytes i.left in
    let is : 0xd8 ∷ 0x2a ∷ (bytes_spelling (0x00 ∷ i.cid) ++ i.rest) ≡ 0xd8 ∷ k.0 = sym i.front.is ∙ k.1 in
    let same : 0x2a ∷ (bytes_spelling (0x00 ∷ i.cid) ++ i.rest) ≡ k.0 = cc is in
    k.2 ∙ ap Some (sym same)

link_cid_refused : {E : Type 0} {old mid tagged : Reading} (new : Reading) (e : DecodeError E) → Takes old (0xd8 ∷ []) mid → Takes mid (0x2a ∷ []) tagged → RefusesPlainly (HasCid tagged) CidCause tagged e new → RefusesPlainly (HasFront (leaf view_link) old) LinkCause old e new
link_cid_refused {E} {old} {mid} {tagged} new e h p r = passed_on CidCause LinkCause old tagged new e (stays_both h.same p.same)
    (λ f. let i = link_stands f in
    let q = p.taken _ (after_first h i) in
    let is : 0x2a ∷ (bytes_spelling (0x00 ∷ i.cid) ++ i.rest) ≡ 0x2a ∷ q.0 = q.1 in
    let same : bytes_spelling (0x00 ∷ i.cid) ++ i.rest ≡ q.0 = cc is in
    record { cid = i.cid; rest = i.rest; is_cid = i.front.well_formed; fits = i.front.spellable; left = q.2 ∙ ap Some (sym same) }) (λ x. x) (λ x. x)
    (λ b l. let k = h.taken b l in let q = p.taken k.0 k.2 in (q.0, q.2, λ s. subst (LinkCause {E = E} e) (sym (k.1 ∙ ap (λ x. 0xd8 ∷ x) q.1)) s)) r

link_taken : {old mid tagged new : Reading} (cid : List ℕ) → Takes old (0xd8 ∷ []) mid → Takes mid (0x2a ∷ []) tagged → TakesCid tagged cid new → TakesFront (leaf view_link) old cid new
link_taken {old} {mid} {tagged} {new} cid h p a = record {
  taken = λ b l.
      let k = h.taken b l in
      let q = p.taken k.0 k.2 in
      let w = a.takes.taken q.0 q.2 in
      (link cid, w.0, record { well_formed = a.is_cid; spellable = a.fits; is = k.1 ∙ ap (λ x. 0xd8 ∷ x) (q.1 ∙ ap (λ x. 0x2a ∷ x) w.1) }, refl, zero-le, w.2);
  same = stays_both h.same (stays_both p.same a.takes.same);
}

pub link_read : {E : Type 0} {old mid tagged : Reading} (result : Result CidParts (DecodeError E)) (new : Reading) → Takes old (0xd8 ∷ []) mid → Takes mid (0x2a ∷ []) tagged → ReadsCid tagged result new → ReadsLink old result new
link_read (Ok c) new h p r = link_taken (cid_bytes c) h p r
link_read (Err e) new h p r = link_cid_refused new e h p r

-- a byte of a link's tag is missing, or another byte is there
tag_byte : {E A : Type 0} (name other : List ℕ) (wanted : ℕ) (read : List ℕ → Decoded A) (e : DecodeError E) → length name ≤ 31 → length other ≤ 31 → read [] ≡ refused (eof name (len_of 1)) 0
    → ((found : ℕ) (more : List ℕ) → (found == wanted) ≡ false → read (found ∷ more) ≡ refused (mismatch other found) (length more)) → (b : List ℕ) → WantedCause name other wanted e b → IsRefusal (read b) e
tag_byte {E} name other wanted read e short also none another b h = by b (h name other (kept_short name short) (kept_short other also))
  where
    by : (b : List ℕ) → IsRefusal (byte_at name other wanted b) e → IsRefusal (read b) e
    by [] k = subst (λ x. IsRefusal x e) (sym none) k
    by (found ∷ more) k = elim (eqb_tells found wanted) [
      | inl a ↦ let taken : byte_at name other wanted (found ∷ more) ≡ got tt more = rw a.0 refl in absurd (subst (λ x. IsRefusal x e) taken k)
      | inr a ↦
          let differs : byte_at name other wanted (found ∷ more) ≡ refused (mismatch other found) (length more) = rw a.0 refl in
          subst (λ x. IsRefusal x e) (sym (another found more a.0)) (subst (λ x. IsRefusal x e) differs k)
    ]

pub first_refused : {E : Type 0} (old new : Reading) (e : DecodeError E) → RefusesPlainly (HasWanted 0xd8 old) (WantedCause (codes "tag head") (codes "CBOR tag head") 0xd8) old e new → RefusesPlainly (HasFront (leaf view_link) old) LinkCause old e new
first_refused old new e r = passed_on (WantedCause (codes "tag head") (codes "CBOR tag head") 0xd8) LinkCause old old new e (stays old)
    (λ f. let i = link_stands f in record { rest = 0x2a ∷ (bytes_spelling (0x00 ∷ i.cid) ++ i.rest); left = i.left ∙ ap Some i.front.is }) (λ x. x) (λ x. x)
    (λ b l. (b, l, tag_byte (codes "tag head") (codes "CBOR tag head") 0xd8 link_at e (omega arith) (omega arith) refl (λ found more n. rw n refl) b)) r

pub second_refused : {E : Type 0} {old mid : Reading} (new : Reading) (e : DecodeError E) → Takes old (0xd8 ∷ []) mid → RefusesPlainly (HasWanted 0x2a mid) (WantedCause (codes "tag") (codes "CBOR tag") 0x2a) mid e new → RefusesPlainly (HasFront (leaf view_link) old) LinkCause old e new
second_refused {E} {old} {mid} new e h r = passed_on (WantedCause (codes "tag") (codes "CBOR tag") 0x2a) LinkCause old mid new e h.same
    (λ f. let i = link_stands f in record { rest = bytes_spelling (0x00 ∷ i.cid) ++ i.rest; left = after_first h i }) (λ x. x) (λ x. x)
    (λ b l. let k = h.taken b l in (k.0, k.2, λ s. subst (LinkCause {E = E} e) (sym k.1) (tag_byte (codes "tag") (codes "CBOR tag") 0x2a tag_of e (omega arith) (omega arith) refl (λ found more n. rw n refl) k.0 s))) r

-- ---- a link as an item of unknown kind

pub item_link : {old new : Reading} (cid : List ℕ) → TakesFront (leaf view_link) old cid new → TakesItem 1 old (link cid) new
item_link cid h = record {
  taken = λ b l. let k = h.taken b l in (k.1, subst (λ t. IsFront b t k.1) (shown k.0 k.3) k.2, omega arith, k.5);
  same = h.same;
}
  where
    shown : (t : Tree) → view_link t ≡ Some cid → t ≡ link cid
    shown (link c) e = cc
    shown _ e = absurd (cc e)

link_front : {V : Type 0} {shape : Shape Tree V} {old : Reading} → StartsWithMajor old 6 → HasFront shape old → HasFront (leaf view_link) old
link_front {V} {shape} {old} starts i =
    let l = is_link i.tree (major_of_front i.bytes i.rest i.tree 6 (starts i.bytes i.left) i.front) in
    record { bytes = i.bytes; tree = i.tree; rest = i.rest; left = i.left; front = i.front; accepted = ap (λ t. is_some (view_link t)) l.1; within = zero-le }

pub link_refused : {E : Type 0} (old new : Reading) (e : DecodeError E) → StartsDefinite old 6 → RefusesPlainly (HasFront (leaf view_link) old) LinkCause old e new → RefusesPlainly (HasItem 1 old) (ItemCause (old.steps + 1)) old e new
link_refused old new e starts r = passed_on LinkCause (ItemCause (old.steps + 1)) old old new e (stays old) (link_front (definite old starts)) (λ x. x) (λ x. x)
    (λ b l. let s = starts b l in (b, l, λ h. leaf_refused _ e s.0 b s.1 (omega arith) s.2 s.4 (λ x. omega (arith, x, s.3)) (λ x. omega (arith, x, s.3)) (by s.0 s.1 s.3 (subst (LinkCause e) s.2 h)))) r
  where
    by : (first : ℕ) (more : List ℕ) → first / 32 ≡ 6 → IsRefusal (link_of first more) e → IsRefusal (leaf_of first more) e
    by first more m h = rw m h
