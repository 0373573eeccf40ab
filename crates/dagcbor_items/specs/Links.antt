-- What reading a link returns and refuses.
use Rattle.std.specs.Prelude.{◌≡◌, ℕ, ◌+◌, ◌^◌, ◌<◌, List, ◌∷◌, ◌++◌, length, Option, None, Some, Result, MatchResult}
use Rattle.dagcbor_heads.specs.Reading.{Reading}
use Rattle.dagcbor_heads.specs.Fronts.{Takes}
use Rattle.dagcbor_heads.specs.Refusals.{RefusesPlainly}
use Rattle.dagcbor_core.specs.declared.error.DecodeError.{DecodeError}
use Rattle.ipld_tree.specs.Cid.{CidParts, AreCidParts, IsCid, cid_bytes}
use Rattle.ipld_tree.specs.Spelling.{bytes_spelling}
use Rattle.dagcbor_items.specs.TypedReads.{Reads}
use Rattle.dagcbor_items.specs.Shapes.{view_link, leaf}
use Rattle.dagcbor_items.specs.ReadCauses.{CidCause, LinkCause}

-- the wanted byte is at the front
pub record HasWanted (wanted : ℕ) (r : Reading) : Type 0 where
  pub rest : List ℕ
  pub left : r.left ≡ Some (wanted ∷ rest)

-- the byte string of a zero and a CID is at the front
pub record HasCid (r : Reading) : Type 0 where
  pub cid : List ℕ
  pub rest : List ℕ
  pub is_cid : IsCid cid
  pub fits : 1 + length cid < 2 ^ 64
  pub left : r.left ≡ Some (bytes_spelling (0x00 ∷ cid) ++ rest)

-- the byte string of a zero and this CID was at the front, and was taken
pub record TakesCid (old : Reading) (cid : List ℕ) (new : Reading) : Type 0 where
  pub is_cid : IsCid cid
  pub fits : 1 + length cid < 2 ^ 64
  pub takes : Takes old (bytes_spelling (0x00 ∷ cid)) new

-- A CID is read if and only if its byte string is there.
abbrev pub ReadsCid : {E : Type 0} → Reading → Result CidParts (DecodeError E) → Reading → Type 0
ReadsCid old result new = MatchResult result
    (λ c. TakesCid old (cid_bytes c) new)
    (λ e. RefusesPlainly (HasCid old) CidCause old e new)

-- A link is read if and only if one is there, without taking memory.
abbrev pub ReadsLink : {E : Type 0} → Reading → Result CidParts (DecodeError E) → Reading → Type 0
ReadsLink = Reads cid_bytes (leaf view_link) ⊥ ⊥ LinkCause

-- a CID is found if and only if the payload is a zero and a CID
abbrev pub IsZeroAndCid : List ℕ → Option CidParts → Type 0
IsZeroAndCid payload (Some c) = AreCidParts c × (payload ≡ 0x00 ∷ cid_bytes c)
IsZeroAndCid payload None = (cid : List ℕ) → payload ≡ 0x00 ∷ cid → ¬ IsCid cid
