-- Bytes put at a place in memory.
use Rattle.std.specs.Prelude.{◌≡◌, ℕ, suc, ◌+◌, List, ◌∷◌, ◌++◌, length, take, drop, if◌then◌else◌, nat_lt}
use Rattle.dagcbor_core.specs.Head.{head}

-- the memory with the bytes at its front, or unchanged if there is no room for them
abbrev pub with_front : List ℕ → List ℕ → List ℕ
with_front bytes old = if nat_lt (length old) (length bytes) then old
    else bytes ++ drop (length bytes) old

-- the memory with the bytes at a place, or unchanged if there is no room for them
abbrev pub put_at : ℕ → List ℕ → List ℕ → List ℕ
put_at at bytes old = if nat_lt (length old) (at + length bytes) then old
    else take at old ++ (bytes ++ drop (at + length bytes) old)

-- the bytes were put at the place, and `end` is the place after them
abbrev pub PutsAt : List ℕ → ℕ → List ℕ → List ℕ → ℕ → Type 0
PutsAt s at old new end = (end ≡ at + length s) × (new ≡ put_at at s old)

-- a string of the major type, and a link: their heads, and the bytes after them
abbrev pub string_form : ℕ → List ℕ → List ℕ
string_form major s = head major (length s) ++ s

abbrev pub link_form : List ℕ → List ℕ
link_form cid = 0xd8 ∷ 0x2a ∷ head 2 (suc (length cid)) ++ 0x00 ∷ cid
