-- What typed reads of leaves return and refuse.
use Rattle.std.specs.Prelude.{◌≡◌, ℕ, ◌^◌, ℤ, false, Bool, List, Result, codes, String, string_bytes, ⊤, Vec}
use Rattle.std.specs.Cow.{cow_str_bytes, cow_slice_items}
use Rattle.std.specs.declared.borrow.CowStr.{CowStr}
use Rattle.std.specs.declared.borrow.CowSlice.{CowSlice}
use Rattle.std.specs.declared.alloc.Global.{Global}
use Rattle.dagcbor_heads.specs.Reading.{Reading}
use Rattle.dagcbor_core.specs.declared.error.DecodeError.{DecodeError}
use Rattle.dagcbor_items.specs.TypedReads.{Reads}
use Rattle.dagcbor_items.specs.Shapes.{natural_below, within, view_unsigned, view_signed, view_null, view_bool, view_text, view_char, view_bytes, ignored_item, leaf}
use Rattle.dagcbor_items.specs.ReadCauses.{ItemCause, WantedCause, NumberCause, BigNumberCause, StringCause, TextCause, CharCause, BoolCause}

-- A number is read if and only if one from 0 to bound - 1 is there.
abbrev pub ReadsUnsigned : {E : Type 0} → List ℕ → ℕ → Reading → Result ℕ (DecodeError E) → Reading
    → Type 0
ReadsUnsigned name bound = Reads (λ n. n) (leaf (view_unsigned bound)) ⊥ ⊥ (NumberCause name (natural_below bound))

-- A number is read if and only if one from - bound to bound - 1 is there.
abbrev pub ReadsSigned : {E : Type 0} → List ℕ → ℕ → Reading → Result ℤ (DecodeError E) → Reading
    → Type 0
ReadsSigned name bound = Reads (λ n. n) (leaf (view_signed bound)) ⊥ ⊥ (NumberCause name (within bound))

-- A number is read if and only if one from 0 to 2^128 - 1, without a tag, is there.
abbrev pub ReadsU128 : {E : Type 0} → Reading → Result ℕ (DecodeError E) → Reading → Type 0
ReadsU128 = Reads (λ n. n) (leaf (view_unsigned (2 ^ 128))) ⊥ ⊥ (BigNumberCause (codes "u128") (natural_below (2 ^ 128)))

-- an `i128` is read: a number from - 2 ^ 127 to 2 ^ 127 - 1, without a tag
abbrev pub ReadsI128 : {E : Type 0} → Reading → Result ℤ (DecodeError E) → Reading → Type 0
ReadsI128 = Reads (λ n. n) (leaf (view_signed (2 ^ 127))) ⊥ ⊥ (BigNumberCause (codes "i128") (within (2 ^ 127)))

-- A text is read if and only if one is there. If the input lends, memory does not run out.
abbrev pub ReadsTextAs : {T E : Type 0} → (T → List ℕ) → List ℕ → Reading → Result T (DecodeError E)
    → Reading → Type 0
ReadsTextAs meaning name old = Reads meaning (leaf view_text) (old.lends ≡ false) ⊥ (TextCause name) old

-- a text is read, lent or in memory of its own
abbrev pub ReadsStr : {E : Type 0} → List ℕ → Reading → Result (CowStr Global) (DecodeError E)
    → Reading → Type 0
ReadsStr = ReadsTextAs cow_str_bytes

-- A text is read if and only if one is there.
abbrev pub ReadsOwnedText : {E : Type 0} → Reading → Result (String Global) (DecodeError E)
    → Reading → Type 0
ReadsOwnedText = Reads string_bytes (leaf view_text) ⊤ ⊥ (TextCause (codes "string"))

-- A text of one character is read if and only if one is there. If the input lends, memory does not
-- run out.
abbrev pub ReadsChar : {E : Type 0} → Reading → Result ℕ (DecodeError E) → Reading → Type 0
ReadsChar old = Reads (λ c. c) (leaf view_char) (old.lends ≡ false) ⊥ CharCause old

-- A byte string is read if and only if one is there. If the input lends, memory does not run out.
abbrev pub ReadsByteSlice : {E : Type 0} → Reading → Result (CowSlice ℕ Global) (DecodeError E)
    → Reading → Type 0
ReadsByteSlice old = Reads cow_slice_items (leaf view_bytes) (old.lends ≡ false) ⊥ (StringCause (codes "bytes") 2) old

-- A byte string is read if and only if one is there.
abbrev pub ReadsOwnedBytes : {E : Type 0} → Reading → Result (Vec ℕ Global) (DecodeError E)
    → Reading → Type 0
ReadsOwnedBytes = Reads (λ v. v.items) (leaf view_bytes) ⊤ ⊥ (StringCause (codes "bytes") 2)

-- A null is read if and only if one is there.
abbrev pub ReadsNull : {E : Type 0} → Reading → Result (Unit {0}) (DecodeError E) → Reading → Type 0
ReadsNull = Reads (λ u. u) (leaf view_null) ⊥ ⊥ (WantedCause (codes "unit") (codes "unit") 0xf6)

-- A boolean is read if and only if false or true is there.
abbrev pub ReadsBool : {E : Type 0} → Reading → Result Bool (DecodeError E) → Reading → Type 0
ReadsBool = Reads (λ b. b) (leaf view_bool) ⊥ ⊥ BoolCause

-- An item of any kind is skipped if and only if one is there within the steps left. If the input
-- lends, memory does not run out.
abbrev pub ReadsIgnored : {E : Type 0} → Reading → Result (Unit {0}) (DecodeError E) → Reading
    → Type 0
ReadsIgnored old = Reads (λ u. u) ignored_item (old.lends ≡ false) ⊥ (ItemCause old.steps) old
