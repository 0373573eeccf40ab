-- What is returned for a path, by what was found.
use Rattle.std.proofs.Common.{inl, inr, ℕ, ℤ, ◌+◌, ◌≤◌, List, ◌++◌, length, length-append, arith, sym, ap, ◌∙◌, subst, Option, None, Some, Result, Ok, Err, IfOk, IfErr, IfSome}
use Rattle.std.specs.Prelude.{IsUtf8}
use Rattle.std.specs.declared.convert.Infallible.{Infallible}
use Rattle.dagcbor_core.specs.declared.error.DecodeError.{DecodeError}
use Rattle.dagcbor_decode.specs.Verdicts.{IsRefusedFor}
use Rattle.ipld_paths.specs.Finding.{StandAt, FindsItemIn}
use Rattle.ipld_paths.specs.declared.find.Item.{Item}
use Rattle.abi_calls.specs.Codes.{kind_code}
use Rattle.abi_calls.specs.Finds.{Places, TellsFound, IsFoundAnswer}
use Rattle.abi_calls.proofs.Decoding.{refused_as}

-- ---- where the item is

pub stands_in : (b : List ℕ) (path : List (List ℕ)) (r : Result (Option Item) (DecodeError Infallible)) → IfOk r (FindsItemIn b path) → IfOk r (λ o. IfSome o (λ item. StandAt b item.place item.bytes.now))
stands_in b path (Ok (Some item)) k = k.4.place
stands_in b path (Ok None) k = tt
stands_in b path (Err e) k = tt

pub ends_within : (b part : List ℕ) (place : ℕ) → StandAt b place part → place + length part ≤ length b
ends_within b part place s = omega (arith, ap length s.2, length-append s.0 (part ++ s.1), length-append part s.1, s.3)

-- ---- the answer

-- if the bytes are a text, by what was found
pub found_answer : (b text : List ℕ) (path : List (List ℕ)) (r : Result (Option Item) (DecodeError Infallible)) (old new : Places) (code : ℤ) → IsUtf8 text → IfOk r (FindsItemIn b path) → IfErr r (λ e. IsRefusedFor b e) → TellsFound r old new code → IsFoundAnswer b text path old new code
found_answer b text path (Ok (Some item)) old new code is k refused told = inl (
  is,
  record {
    tree = k.0;
    found = k.1;
    block = k.2;
    at = k.3;
    part = item.bytes.now;
    is_block = k.4.block;
    stands = subst (λ (n : ℕ). StandAt b n item.bytes.now) (sym (ap (λ p. p.0) told.0)) k.4.place;
    ends = ap (λ p. p.1) told.0 ∙ sym (ap (λ p. p.0 + length item.bytes.now) told.0);
    told = told.1 ∙ ap kind_code k.4.kind;
  },
)
found_answer b text path (Ok None) old new code is k refused told = inr (told.0, inl (is, inl (k, told.1)))
found_answer b text path (Err e) old new code is k refused told = inr (told.0, inl (is, inr (refused_as b e code told.1 refused)))
