-- What tokens surely encode: items, as they are split off bytes, before these bytes exist.
use Rattle.std.specs.Prelude.{◌≡◌, ℕ, ◌+◌, List, length, drop, Option, Some}
use Rattle.ipld_tree.specs.Tree.{Tree, any_need}
use Rattle.ipld_tree.specs.Spelling.{IsSpelling}
use Rattle.dagcbor_decode.specs.Blocks.{IsBlock}
use Rattle.abi_calls.specs.Told.{tape_told}
use Rattle.abi_calls.specs.declared.tape.Token.{Token}

-- these bytes are an item of n bytes that takes one step
abbrev pub IsLeafTold : Option (List ℕ) → ℕ → Type 0
IsLeafTold told n = (s : List ℕ) × (told ≡ Some s) × (length s ≡ n)
    × ((t : Tree) × IsSpelling s t × (any_need t ≡ 1))

-- If the tokens from `next` on encode bytes, those from `at` on encode more bytes, of which these
-- are the rest; and the room decreases by the difference.
abbrev pub TellsMore : (List ℕ → List ℕ → Type 0) → List ℕ → List Token → ℕ → ℕ → ℕ → ℕ → Type 0
TellsMore Splits b tape at next old new = (rest : List ℕ) → tape_told b (drop next tape) ≡ Some rest
    → (s : List ℕ) × (tape_told b (drop at tape) ≡ Some s) × Splits s rest
    × (length s + new ≡ length rest + old)

-- the tape encodes a block of n bytes
abbrev pub TellsBlock : List ℕ → List Token → ℕ → Type 0
TellsBlock b tape n = (s : List ℕ) × (tape_told b tape ≡ Some s) × (length s ≡ n)
    × ((t : Tree) × IsBlock s t)
