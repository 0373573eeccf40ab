-- The bytes that a tape encodes: its heads and their payloads, one after the other.
use Rattle.std.specs.Prelude.{◌≡◌, ℕ, suc, ◌+◌, ◌-◌, ◌^◌, ◌≤◌, min, List, [], ◌∷◌, ◌++◌, length, take, drop, Option, Some, None, if◌then◌else◌, nat_eq, nat_lt, option_map, option_and_then, MatchOption}
use Rattle.dagcbor_core.specs.Head.{head}
use Rattle.ipld_tree.specs.Tree.{Tree}
use Rattle.ipld_tree.specs.Spelling.{spelling}
use Rattle.lent_memory.specs.Puts.{PutsAt}
use Rattle.abi_calls.specs.Tapes.{tape_of}
use Rattle.abi_calls.specs.declared.tape.Token.{Token}

-- n bytes from the place on, if they are there
abbrev pub payload_at : List ℕ → ℕ → ℕ → Option (List ℕ)
payload_at b place n = if nat_lt (length b) (place + n) then None else Some (take n (drop place b))

-- the byte of null, or `None` if the number is another
abbrev pub null_told : ℕ → Option (List ℕ)
null_told n = if nat_eq n 0 then Some (0xf6 ∷ []) else None

-- the byte of the boolean with this number, if it is one
abbrev pub boolean_told : ℕ → Option (List ℕ)
boolean_told n = if nat_eq n 0 then Some (0xf4 ∷ []) else if nat_eq n 1 then Some (0xf5 ∷ []) else None

-- a string of the major type: its head, and the payload after it
abbrev pub string_told : ℕ → List ℕ → ℕ → ℕ → Option (List ℕ)
string_told major b n place = option_map (λ s. head major n ++ s) (payload_at b place n)

-- the bytes of a link whose CID has n bytes at this place
abbrev pub link_told : List ℕ → ℕ → ℕ → Option (List ℕ)
link_told b n place = option_map (λ s. 0xd8 ∷ 0x2a ∷ head 2 (suc n) ++ 0x00 ∷ s) (payload_at b place n)

-- the bytes of a token by its kind, its number and its place, or `None` if it is invalid
abbrev pub token_bytes : List ℕ → ℕ → ℕ → ℕ → Option (List ℕ)
token_bytes b kind n place =
    if nat_eq kind 0 then null_told n
    else if nat_eq kind 1 then boolean_told n
    else if nat_eq kind 2 then Some (head 0 n)
    else if nat_eq kind 3 then string_told 3 b n place
    else if nat_eq kind 4 then string_told 2 b n place
    else if nat_eq kind 5 then Some (head 4 n)
    else if nat_eq kind 6 then Some (head 5 n)
    else if nat_eq kind 7 then link_told b n place
    else if nat_eq kind 8 then Some (head 1 n)
    else None

-- the bytes that a tape encodes; its places are in `b`
abbrev pub tape_told : List ℕ → List Token → Option (List ℕ)
tape_told b [] = Some []
tape_told b (first ∷ more) = option_and_then (λ s. option_map (λ r. s ++ r) (tape_told b more)) (token_bytes b first.kind first.number first.place)

-- the tape of a block encodes the block
abbrev pub TapeTellsBlock : Type 0
TapeTellsBlock = (t : Tree) → tape_told (spelling t) (tape_of t) ≡ Some (spelling t)

-- how many bytes there are, if there are any
abbrev pub TellsLength : Option (List ℕ) → Option ℕ → Type 0
TellsLength told result = MatchOption result (told ≡ None)
    (λ n. (s : List ℕ) × (told ≡ Some s) × (n ≡ length s))

-- there are such bytes, and the memory has room for them at the place
abbrev pub HasRoomAt : Option (List ℕ) → ℕ → List ℕ → Type 0
HasRoomAt told at old = (s : List ℕ) × (told ≡ Some s) × (at + length s ≤ length old)

-- the bytes were put there
abbrev pub PutsToldAt : Option (List ℕ) → ℕ → List ℕ → List ℕ → ℕ → Type 0
PutsToldAt told at old new end = (s : List ℕ) → told ≡ Some s → PutsAt s at old new end

-- how many bytes the tape encodes, as far as that is counted
abbrev pub CountsTold : List ℕ → List Token → Option ℕ → Type 0
CountsTold b tape result = MatchOption result (tape_told b tape ≡ None)
    (λ n. (s : List ℕ) × (tape_told b tape ≡ Some s) × (n ≡ min (length s) (2 ^ 64 - 1)))

-- the tape encodes bytes, and the memory has room for them
abbrev pub HasRoomFor : List ℕ → List Token → List ℕ → Type 0
HasRoomFor b tape old = HasRoomAt (tape_told b tape) 0 old

-- the bytes that the tape encodes were put at the front of the memory, if they fit
abbrev pub FillsTold : List ℕ → List Token → List ℕ → List ℕ → Type 0
FillsTold b tape old new = (s : List ℕ) → tape_told b tape ≡ Some s → length s ≤ length old → new ≡ s ++ drop (length s) old
