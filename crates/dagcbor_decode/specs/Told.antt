-- What the parts of the judge return, in the words of `Decode.antt`. No public contract names it.
use Rattle.std.specs.Prelude.{ℕ, zero, suc, ◌/◌, ◌%◌, ◌==◌, List, [], ◌∷◌, length, Option, Some, None, Result, Ok, Err, codes, if◌then◌else◌}
use Rattle.std.specs.Bool.{⊤}
use Rattle.std.specs.Borrow.{Bor}
use Rattle.dagcbor_core.specs.Lengths.{len_of}
use Rattle.ipld_tree.specs.Tree.{Tree}
use Rattle.dagcbor_decode.specs.Decode.{Decoded, Why, got, refused, eof, mismatch, unsupported, non_minimal, indefinite_size, require_utf8, msg, unordered_key, depth_overflow, trailing_data, argument_of, leaf_of}
use Rattle.dagcbor_decode.specs.TreeKinds.{kind_of}
use Rattle.dagcbor_decode.specs.declared.cause.Label.{Label}
use Rattle.dagcbor_decode.specs.declared.cause.Label.TheVariants as label
use Rattle.dagcbor_decode.specs.declared.cause.Cause.{Cause}
use Rattle.dagcbor_decode.specs.declared.cause.Cause.TheVariants as cause
use Rattle.dagcbor_decode.specs.declared.cause.Stop.{Stop}
use Rattle.dagcbor_decode.specs.declared.kind.Kind.{Kind}

abbrev pub name : Label → List ℕ
name label.Any = codes "any"
name label.U64 = codes "u64"
name label.Bytes = codes "bytes"
name label.Text = codes "string"
name label.Array = codes "array"
name label.Map = codes "map"
name label.MapKey = codes "map key"
name label.Cid = codes "cid"
name label.Tag = codes "tag"
name label.CborTag = codes "CBOR tag"
name label.TagHead = codes "CBOR tag head"

abbrev pub why : Cause → Why
why (cause.Eof l n) = eof (name l) (len_of n)
why (cause.Mismatch l found) = mismatch (name l) found
why (cause.Unsupported l found) = unsupported (name l) found
why (cause.NonMinimal l found) = non_minimal (name l) found
why cause.IndefiniteSize = indefinite_size
why (cause.RequireUtf8 l) = require_utf8 (name l)
why cause.InvalidCid = msg (codes "Invalid CID")
why cause.UnorderedKey = unordered_key
why (cause.DepthOverflow l) = depth_overflow (name l)
why cause.TrailingData = trailing_data

-- a result as a `Decoded`: what was read and the bytes after it, or the refusal
abbrev pub told : {A B : Type 0} → (A → B) → Result (A × Bor (List ℕ)) Stop → Decoded B
told held (Ok p) = got (held p.0) p.1.now
told held (Err e) = refused (why e.cause) e.left

-- the same for a result that has only the bytes after what was read
abbrev pub rest_of : Result (Bor (List ℕ)) Stop → Decoded (Unit {0})
rest_of (Ok rest) = got tt rest.now
rest_of (Err e) = refused (why e.cause) e.left

-- the same without the value that was read
abbrev pub skim : {A : Type 0} → Decoded A → Decoded (Unit {0})
skim (got a rest) = got tt rest
skim (refused why left) = refused why left

-- the bytes after what was read, or else the refusal of this stop
abbrev pub rest_or : Option (Bor (List ℕ)) → Stop → Decoded (Unit {0})
rest_or (Some rest) s = got tt rest.now
rest_or None s = refused (why s.cause) s.left

-- how many bytes are left after what was read, or the refusal
abbrev pub left_of : {A : Type 0} → Decoded A → Result ℕ (Why × ℕ)
left_of (got a rest) = Ok (length rest)
left_of (refused why left) = Err (why, left)

-- how many bytes are left, or else the refusal of this stop
abbrev pub left_or : Option ℕ → Stop → Result ℕ (Why × ℕ)
left_or (Some left) s = Ok left
left_or None s = Err (why s.cause, s.left)

-- the kind of the decoded tree, or the refusal
abbrev pub kind_told : Decoded Tree → Result Kind (Why × ℕ)
kind_told (got t rest) = Ok (kind_of t)
kind_told (refused why left) = Err (why, left)

-- a kind, or else the refusal of this stop
abbrev pub kind_or : Option Kind → Stop → Result Kind (Why × ℕ)
kind_or (Some kind) s = Ok kind
kind_or None s = Err (why s.cause, s.left)

-- the read was refused
abbrev pub IsRefused : {A : Type 0} → Decoded A → Type 0
IsRefused (got a rest) = ⊥
IsRefused (refused why left) = ⊤

-- the number of items or entries, refused if no step is left for them
abbrev pub count_of : List ℕ → ℕ → ℕ → List ℕ → Decoded ℕ
count_of name zero first b = refused (depth_overflow name) (length b)
count_of name (suc steps) first b = argument_of name first b

-- an item without what is in it: a leaf, or the head of a list or a map
abbrev pub front_of : ℕ → List ℕ → Decoded (Unit {0})
front_of zero b = refused (depth_overflow (codes "any")) (length b)
front_of (suc steps) [] = refused (eof (codes "any") (len_of 1)) 0
front_of (suc steps) (first ∷ b) =
    if first % 32 == 31 then refused indefinite_size (length b)
    else if first / 32 == 4 then skim (count_of (codes "array") steps first b)
    else if first / 32 == 5 then skim (count_of (codes "map") steps first b)
    else skim (leaf_of first b)
