-- The laws that the code calls, and what follows: two trees never share a spelling, and CIDs are
-- equal if their binary forms are.
use Rattle.std.proofs.Common.{◌≡◌, ℕ, List, [], false, sym, ◌∙◌, append-nil, Result, Ok, Err, OnOk, is_err}
use Rattle.serde_ipld_dagcbor.specs.Cid.{CidParts, AreCidParts, cid_bytes, cid_cmp}
use Rattle.serde_ipld_dagcbor.specs.CidHash.{same_cid, is_equal}
use Rattle.serde_ipld_dagcbor.specs.Tree.{Tree}
use Rattle.serde_ipld_dagcbor.specs.Spelling.{spelling, IsSpelling, IsFront}
use Rattle.serde_ipld_dagcbor.specs.GrammarLaws.{SpellingsAreUnique, CidEqualityIsOfBytes}

-- bytes begin with one tree only
pub front_unique : SpellingsAreUnique → (b x y : List ℕ) (t u : Tree) → IsFront b t x → IsFront b u y → (t ≡ u) × (x ≡ y)
front_unique law b x y t u h k = law t u x y h.spellable k.spellable (sym h.is ∙ k.is)

pub cid_unique : CidEqualityIsOfBytes → (c d : CidParts) → AreCidParts c → AreCidParts d → cid_bytes c ≡ cid_bytes d → c ≡ d
cid_unique law c d p q e = same_cid c d (is_equal (cid_cmp c d) ((law c d p q).1 e))

-- a spelling is a front with nothing after it
pub whole_front : {b : List ℕ} {t : Tree} → IsSpelling b t → IsFront b t []
whole_front {b} {t} h = record { well_formed = h.well_formed; spellable = h.spellable; is = h.is ∙ sym (append-nil (spelling t)) }

-- what holds of an `Ok`, if the result is one
pub on_ok : {X Y : Type 0} (r : Result X Y) (P : Type 0) → false ≡ is_err r → OnOk r P → P
on_ok (Ok x) P e h = h
on_ok (Err y) P e h = absurd (cc e)
