-- What is returned is what is decoded.
use Rattle.std.proofs.Common.{◌≡◌, ℕ, ℤ, negsuc, ◌-◌, ◌^◌, ◌≤◌, min, Bool, if◌then◌else◌, le-ltb, List, [], ◌++◌, length, take, drop, map, Some, Result, Ok, Err, refl, sym, ap, ap₂, ◌∙◌, subst, arith, length-take}
use Rattle.std.proofs.lemmas.List.{length-map, map-id}
use Rattle.ipld_tree.specs.Tree.{Tree}
use Rattle.dagcbor_core.specs.declared.error.DecodeError.{DecodeError}
use Rattle.dagcbor_core.specs.declared.error.DecodeError.TheVariants as refusals
use Rattle.std.specs.declared.convert.Infallible.{Infallible}
use Rattle.dagcbor_core.specs.Names.{name_bytes}
use Rattle.dagcbor_decode.specs.Decode.{Decoded, Why, got, refused, eof, mismatch, unsupported, non_minimal, indefinite_size, require_utf8, msg, unordered_key, depth_overflow, trailing_data, cast_overflow, decode}
use Rattle.dagcbor_decode.specs.Blocks.{IsBlock}
use Rattle.dagcbor_decode.specs.Verdicts.{why_of, answer, answered, judged, verdict, IsRefusedFor}
use Rattle.dagcbor_decode.specs.TreeKinds.{kind_of}
use Rattle.dagcbor_decode.specs.declared.kind.Kind.{Kind}
use Rattle.dagcbor_decode.specs.declared.slices.Refused.{Refused}
use Rattle.dagcbor_decode.proofs.Complete.{block_reads}
use Rattle.dagcbor_decode.proofs.Laws.{refused_for}
use Rattle.abi_calls.specs.Codes.{kind_code, why_code, decoded_code, check_code, refusal_code, answer_code}
use Rattle.abi_calls.specs.Tapes.{tape_of, with_tokens, decoded_tape}
use Rattle.abi_calls.specs.Standing.{AreTokens, AreFrontTokens, end_of}
use Rattle.abi_calls.specs.Answers.{IsTokensAnswer, told_answer, spell_answer}
use Rattle.abi_calls.specs.Told.{tape_told}
use Rattle.abi_calls.specs.Finds.{IsRefusedAs}
use Rattle.abi_calls.specs.declared.tape.Token.{Token}
use Rattle.abi_calls.proofs.Placing.{placed_end}

-- a refusal that says why has the number of why
pub why_told : {E : Type 0} (e : DecodeError E) (why : Why) → why_of e ≡ Some why → refusal_code e ≡ why_code why
why_told (refusals.Msg message) why h = ap why_code {x = msg (name_bytes message)} {y = why} (cc h)
why_told (refusals.Eof name expect) why h = ap why_code {x = eof (name_bytes name) expect} {y = why} (cc h)
why_told (refusals.Mismatch name found) why h = ap why_code {x = mismatch (name_bytes name) found} {y = why} (cc h)
why_told (refusals.Unsupported name found) why h = ap why_code {x = unsupported (name_bytes name) found} {y = why} (cc h)
why_told (refusals.RequireUtf8 name) why h = ap why_code {x = require_utf8 (name_bytes name)} {y = why} (cc h)
why_told (refusals.DepthOverflow name) why h = ap why_code {x = depth_overflow (name_bytes name)} {y = why} (cc h)
why_told (refusals.NonMinimal name found) why h = ap why_code {x = non_minimal (name_bytes name) found} {y = why} (cc h)
why_told refusals.TrailingData why h = ap why_code {x = trailing_data} {y = why} (cc h)
why_told refusals.IndefiniteSize why h = ap why_code {x = indefinite_size} {y = why} (cc h)
why_told refusals.UnorderedKey why h = ap why_code {x = unordered_key} {y = why} (cc h)
why_told (refusals.Read e) why h = absurd (cc h)
why_told (refusals.RequireLength name found) why h = absurd (cc h)
why_told (refusals.RequireBorrowed name) why h = absurd (cc h)
why_told (refusals.LengthOverflow name found) why h = absurd (cc h)
why_told (refusals.CastOverflow name) why h = ap why_code {x = cast_overflow (name_bytes name)} {y = why} (cc h)
why_told (refusals.ArithmeticOverflow name ty) why h = absurd (cc h)
why_told (refusals.LengthMismatch name expect value) why h = absurd (cc h)
why_told refusals.OutOfMemory why h = absurd (cc h)
why_told refusals.Failed why h = absurd (cc h)

-- what is returned has the number of what is decoded
pub answer_told : {E : Type 0} (r : Result Kind (DecodeError E)) (q : Decoded Tree) → answered r ≡ answer q → answer_code r ≡ decoded_code q
answer_told (Ok kind) (got t rest) h = ap kind_code {x = kind} {y = kind_of t} (cc h)
answer_told (Ok kind) (refused why left) h = absurd (cc h)
answer_told (Err e) (got t rest) h = absurd (cc h)
answer_told (Err e) (refused why left) h = why_told e why (cc h)

pub check_told : {E : Type 0} (b : List ℕ) (r : Result Kind (DecodeError E)) (code : ℤ) → code ≡ answer_code r → answered r ≡ answer (decode b) → code ≡ check_code b
check_told b r code coded h = coded ∙ answer_told r (decode b) h

-- of refused bytes
pub refusal_told : {E : Type 0} (b : List ℕ) (e : DecodeError E) → IsRefusedFor b e → (why : Why) × (left : ℕ) × (decode b ≡ refused why left) × (refusal_code e ≡ why_code why)
refusal_told b e h = by (decode b) refl h
  where
    by : (q : Decoded Tree) → decode b ≡ q → answer q ≡ Err (why_of e) → (why : Why) × (left : ℕ) × (decode b ≡ refused why left) × (refusal_code e ≡ why_code why)
    by (got t rest) is k = absurd (cc k)
    by (refused why left) is k = (why, left, is, answer_told (Err e) (refused why left) (sym k))

pub refused_as : (b : List ℕ) (e : DecodeError Infallible) (code : ℤ) → code ≡ refusal_code e → IsRefusedFor b e → IsRefusedAs b code
refused_as b e code coded h = let k = refusal_told b e h in (k.0, k.1, k.2, coded ∙ k.3)

-- ---- tapes

block_taped : {T : Type 0} (tape : Tree → List T) (b : List ℕ) (t : Tree) (old new : List T) (needed : ℕ) (code : ℤ) → IsBlock b t → code ≡ kind_code (kind_of t) → needed ≡ length (tape t) → new ≡ with_tokens (tape t) old → (code, needed, new) ≡ decoded_tape tape (decode b) old
block_taped {T = T} tape b t old new needed code is coded counted put =
    ap (λ (c : ℤ). (c, needed, new)) coded ∙ ap₂ (λ (n : ℕ) (now : List T). (kind_code (kind_of t), n, now)) counted put ∙ ap (λ q. decoded_tape tape q old) (sym (block_reads b t is.0 is.1))

-- what was made of the tokens of a block
pub made_taped : {T : Type 0} (made : Token → T) (b : List ℕ) (t : Tree) (old new : List T) (needed : ℕ) (code : ℤ) → IsBlock b t → code ≡ kind_code (kind_of t) → (needed ≡ length (tape_of t)) × (new ≡ with_tokens (map made (tape_of t)) old)
    → (code, needed, new) ≡ decoded_tape (λ t. map made (tape_of t)) (decode b) old
made_taped made b t old new needed code is coded put = block_taped (λ t. map made (tape_of t)) b t old new needed code is coded (put.0 ∙ sym (length-map (tape_of t) made)) put.1

pub refused_taped : {T E : Type 0} (tape : Tree → List T) (b : List ℕ) (e : DecodeError E) (old : List T) (code : ℤ) → code ≡ refusal_code e → IsRefusedFor b e → (code, 0, old) ≡ decoded_tape tape (decode b) old
refused_taped tape b e old code coded h =
    let k = refusal_told b e h in
    ap (λ (c : ℤ). (c, 0, old)) (coded ∙ k.3) ∙ ap (λ q. decoded_tape tape q old) (sym k.2)

-- tokens as they are
pub plain_taped : (q : Decoded Tree) (old : List Token) → decoded_tape (λ t. map (λ k. k) (tape_of t)) q old ≡ decoded_tape tape_of q old
plain_taped (got t rest) old = ap (λ x. (kind_code (kind_of t), length x, with_tokens x old)) (map-id (tape_of t))
plain_taped (refused why left) old = refl

-- ---- tokens

pub block_tokens : (b : List ℕ) (t : Tree) (old new : List Token) (needed place : ℕ) (code : ℤ) → IsBlock b t → code ≡ kind_code (kind_of t) → place ≡ length b → needed ≤ length b → (needed ≡ length (tape_of t)) × (new ≡ with_tokens (map (λ k. k) (tape_of t)) old) → IsTokensAnswer b old new needed place code
block_tokens b t old new needed place code is coded end few put =
    let read : got t [] ≡ decode b = sym (block_reads b t is.0 is.1) in
    record {
      told = coded ∙ ap decoded_code read;
      ends = end ∙ ap (end_of b) read;
      tokens = tape_of t;
      stand = subst (λ q. AreFrontTokens b q (tape_of t)) read refl;
      counted = put.0;
      few = omega (arith, few, end);
      put = put.1 ∙ ap (λ x. with_tokens x old) (map-id (tape_of t));
    }

pub refused_tokens : (b : List ℕ) (r : Refused) (old new : List Token) (needed : ℕ) (code : ℤ) → judged (Err r) ≡ verdict b (decode b) → code ≡ refusal_code r.cause → needed ≤ length (take r.place b)
    → (tokens : List Token) × AreTokens (take r.place b) tokens × (needed ≡ length tokens) × (new ≡ with_tokens (map (λ k. k) tokens) old) → IsTokensAnswer b old new needed r.place code
refused_tokens b r old new needed code h coded few put =
    let k = placed_end b r (decode b) h put.0 put.1 in
    record {
      told = check_told b (Err r.cause) code coded (sym (refused_for b r.cause r.place (sym h)));
      ends = k.0;
      tokens = put.0;
      stand = k.1;
      counted = put.2;
      few = omega (arith, few, length-take r.place b);
      put = put.3 ∙ ap (λ x. with_tokens x old) (map-id put.0);
    }

-- ---- what a tape encodes

-- encoded bytes that were put
pub told_put : (b : List ℕ) (tape : List Token) (s old new : List ℕ) (needed : ℕ) (code : ℤ) → tape_told b tape ≡ Some s → length s ≤ length old → needed ≡ min (length s) (2 ^ 64 - 1) → code ≡ check_code s → new ≡ s ++ drop (length s) old
    → (code, needed, new) ≡ spell_answer b tape old
told_put b tape s old new needed code is room counted coded put =
    ap (λ (c : ℤ). (c, needed, new)) coded
    ∙ ap₂ (λ (n : ℕ) (now : List ℕ). (check_code s, n, now)) counted put
    ∙ sym (ap (λ (o : Bool). ((if o then negsuc 20 else check_code s), min (length s) (2 ^ 64 - 1), (if o then old else s ++ drop (length s) old))) (le-ltb (length old) (length s) room))
    ∙ sym (ap (λ o. told_answer o old) is)
