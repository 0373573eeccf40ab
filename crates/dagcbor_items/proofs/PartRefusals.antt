-- The refusals of a part are among those of the whole.
use Rattle.std.proofs.Common.{List, ℕ}
use Rattle.dagcbor_core.specs.Causes.{IsDepthNamed, IsEndNamed, IsPayloadNamed, IsNamed}
use Rattle.dagcbor_core.specs.declared.error.DecodeError.{DecodeError}
use Rattle.dagcbor_core.specs.declared.error.DecodeError.TheVariants.{Msg, Read, Eof, Unsupported, RequireUtf8, CastOverflow, DepthOverflow, IndefiniteSize, NonMinimal, UnorderedKey, OutOfMemory}
use Rattle.dagcbor_items.specs.AnsweredVariants.{OfByte, OfHead, OfNumber, OfText, OfChar, OfKey, OfLink, OfItem}

pub end_byte : {E : Type 0} (text : List ℕ) (e : DecodeError E) → IsEndNamed text e → OfByte e
end_byte text (Eof n x) h = tt
end_byte text (Read x) h = tt
end_byte text _ h = absurd h

pub byte_kind : {E : Type 0} (e : DecodeError E) → OfByte e → OfHead e
byte_kind (Unsupported n x) h = tt
byte_kind IndefiniteSize h = tt
byte_kind (NonMinimal n x) h = tt
byte_kind _ h = h

pub end_kind : {E : Type 0} (text : List ℕ) (e : DecodeError E) → IsEndNamed text e → OfHead e
end_kind text e h = byte_kind e (end_byte text e h)

pub payload_kind : {E : Type 0} (text : List ℕ) (e : DecodeError E) → IsPayloadNamed text e → OfHead e
payload_kind text (Eof n x) h = tt
payload_kind text (Read x) h = tt
payload_kind text OutOfMemory h = tt
payload_kind text _ h = absurd h

pub named_kind : {E : Type 0} (text : List ℕ) (e : DecodeError E) → IsNamed text e → OfHead e
named_kind text (Eof n x) h = tt
named_kind text (Unsupported n x) h = tt
named_kind text IndefiniteSize h = tt
named_kind text (NonMinimal n x) h = tt
named_kind text (Read x) h = tt
named_kind text _ h = absurd h

pub kind_number : {E : Type 0} (e : DecodeError E) → OfHead e → OfNumber e
kind_number (CastOverflow n) h = tt
kind_number _ h = h

pub kind_text : {E : Type 0} (e : DecodeError E) → OfHead e → OfText e
kind_text (RequireUtf8 n) h = tt
kind_text _ h = h

pub byte_text : {E : Type 0} (e : DecodeError E) → OfByte e → OfText e
byte_text e h = kind_text e (byte_kind e h)

pub text_char : {E : Type 0} (e : DecodeError E) → OfText e → OfChar e
text_char (Msg n) h = tt
text_char _ h = h

pub text_key : {E : Type 0} (e : DecodeError E) → OfText e → OfKey e
text_key UnorderedKey h = tt
text_key _ h = h

pub kind_link : {E : Type 0} (e : DecodeError E) → OfHead e → OfLink e
kind_link (Msg n) h = tt
kind_link _ h = h

pub end_link : {E : Type 0} (text : List ℕ) (e : DecodeError E) → IsEndNamed text e → OfLink e
end_link text e h = kind_link e (end_kind text e h)

pub named_link : {E : Type 0} (text : List ℕ) (e : DecodeError E) → IsNamed text e → OfLink e
named_link text e h = kind_link e (named_kind text e h)

pub byte_link : {E : Type 0} (e : DecodeError E) → OfByte e → OfLink e
byte_link e h = kind_link e (byte_kind e h)

pub key_item : {E : Type 0} (e : DecodeError E) → OfKey e → OfItem e
key_item (Msg n) h = tt
key_item (DepthOverflow n) h = tt
key_item _ h = h

pub text_item : {E : Type 0} (e : DecodeError E) → OfText e → OfItem e
text_item e h = key_item e (text_key e h)

pub kind_item : {E : Type 0} (e : DecodeError E) → OfHead e → OfItem e
kind_item e h = text_item e (kind_text e h)

pub named_item : {E : Type 0} (text : List ℕ) (e : DecodeError E) → IsNamed text e → OfItem e
named_item text e h = kind_item e (named_kind text e h)

pub end_item : {E : Type 0} (text : List ℕ) (e : DecodeError E) → IsEndNamed text e → OfItem e
end_item text e h = kind_item e (end_kind text e h)

pub depth_item : {E : Type 0} (text : List ℕ) (e : DecodeError E) → IsDepthNamed text e → OfItem e
depth_item text (DepthOverflow n) h = tt
depth_item text _ h = absurd h

pub link_item : {E : Type 0} (e : DecodeError E) → OfLink e → OfItem e
link_item (Msg n) h = tt
link_item (DepthOverflow n) h = tt
link_item (RequireUtf8 n) h = tt
link_item UnorderedKey h = tt
link_item _ h = h
