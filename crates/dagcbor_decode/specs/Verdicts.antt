-- Verdicts on bytes: the kind of their tree, or why and where they are refused.
use Rattle.std.specs.Prelude.{◌≡◌, ◌≢◌, ℕ, ◌-◌, List, [], length, map, Option, None, Some, Result, Ok, Err, Vec}
use Rattle.std.specs.declared.alloc.Global.{Global}
use Rattle.dagcbor_core.specs.Names.{name_bytes}
use Rattle.dagcbor_core.specs.declared.error.DecodeError.{DecodeError}
use Rattle.dagcbor_core.specs.declared.error.DecodeError.TheVariants.{Msg, Eof, Mismatch, Unsupported, RequireUtf8, DepthOverflow, TrailingData, IndefiniteSize, NonMinimal, UnorderedKey, CastOverflow, OutOfMemory}
use Rattle.ipld_tree.specs.Cid.{CidParts, cid_bytes}
use Rattle.ipld_tree.specs.Tree.{Tree, links_of}
use Rattle.dagcbor_decode.specs.Decode.{Decoded, Why, got, refused, eof, mismatch, unsupported, non_minimal, indefinite_size, require_utf8, msg, unordered_key, depth_overflow, trailing_data, cast_overflow, decode}
use Rattle.dagcbor_decode.specs.TreeKinds.{kind_of}
use Rattle.dagcbor_decode.specs.declared.kind.Kind.{Kind}
use Rattle.dagcbor_decode.specs.declared.slices.Refused.{Refused}

-- why bytes are refused, as a refusal says; `None` for variants that do not refuse bytes
abbrev pub why_of : {E : Type 0} → DecodeError E → Option Why
why_of (Eof name expect) = Some (eof (name_bytes name) expect)
why_of (Mismatch name found) = Some (mismatch (name_bytes name) found)
why_of (Unsupported name found) = Some (unsupported (name_bytes name) found)
why_of (NonMinimal name found) = Some (non_minimal (name_bytes name) found)
why_of IndefiniteSize = Some indefinite_size
why_of (RequireUtf8 name) = Some (require_utf8 (name_bytes name))
why_of (Msg message) = Some (msg (name_bytes message))
why_of UnorderedKey = Some unordered_key
why_of (DepthOverflow name) = Some (depth_overflow (name_bytes name))
why_of TrailingData = Some trailing_data
why_of (CastOverflow name) = Some (cast_overflow (name_bytes name))
why_of _ = None

-- the read was refused for the reason that this refusal gives
abbrev pub IsRefusal : {A E : Type 0} → Decoded A → DecodeError E → Type 0
IsRefusal (got a rest) e = ⊥
IsRefusal (refused why left) e = why_of e ≡ Some why

-- the place of a refusal: after all the bytes if some are missing, else the last byte that was
-- looked at
abbrev pub place_of : List ℕ → Why → ℕ → ℕ
place_of b (eof name expect) left = length b
place_of b why left = length b - left - 1

-- the kind of the decoded tree, or why the bytes are refused
abbrev pub answer : Decoded Tree → Result Kind (Option Why)
answer (got t rest) = Ok (kind_of t)
answer (refused why left) = Err (Some why)

-- the same, with the place of the refusal in these bytes
abbrev pub verdict : List ℕ → Decoded Tree → Result Kind (Option Why × ℕ)
verdict b (got t rest) = Ok (kind_of t)
verdict b (refused why left) = Err (Some why, place_of b why left)

-- the links of the decoded tree, or why the bytes are refused
abbrev pub linked : Decoded Tree → Result (List (List ℕ)) (Option Why)
linked (got t rest) = Ok (links_of t)
linked (refused why left) = Err (Some why)

-- the bytes are not a block, for the reason that the refusal gives; and it is at this place
abbrev pub IsRefusedFor : {E : Type 0} → List ℕ → DecodeError E → Type 0
IsRefusedFor b e = answer (decode b) ≡ Err (why_of e)

abbrev pub IsRefusedAt : {E : Type 0} → List ℕ → DecodeError E → ℕ → Type 0
IsRefusedAt b e place = verdict b (decode b) ≡ Err (why_of e, place)

-- ---- what a call returns, in these words

abbrev pub answered : {A E : Type 0} → Result A (DecodeError E) → Result A (Option Why)
answered (Ok a) = Ok a
answered (Err e) = Err (why_of e)

abbrev pub judged : Result Kind Refused → Result Kind (Option Why × ℕ)
judged (Ok kind) = Ok kind
judged (Err r) = Err (why_of r.cause, r.place)

-- the call returns the links in binary form, or why nothing is decoded; or it is out of memory, and
-- there is a link
abbrev pub AnswersLinks : {E : Type 0} → Decoded Tree → Result (Vec CidParts Global) (DecodeError E) → Type 0
AnswersLinks decoded (Ok v) = linked decoded ≡ Ok (map cid_bytes v.items)
AnswersLinks decoded (Err OutOfMemory) = (t : Tree) × (rest : List ℕ) × (decoded ≡ got t rest) × (links_of t ≢ [])
AnswersLinks decoded (Err e) = linked decoded ≡ Err (why_of e)
