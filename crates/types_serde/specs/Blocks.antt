-- What whole values are written as, and why bytes are rejected.
use Rattle.std.specs.Prelude.{◌≤◌, List, length, ℕ, IsSomeAnd}
use Rattle.std.specs.declared.convert.Infallible.{Infallible}
use Rattle.serde.specs.Event.{Log}
use Rattle.ipld_tree.specs.Tree.{Tree}
use Rattle.ipld_tree.specs.Spelling.{IsSpelling}
use Rattle.dagcbor_decode.specs.Verdicts.{IsRefusedFor}
use Rattle.dagcbor_decode.specs.Blocks.{IsBlock}
use Rattle.types_serde.specs.Building.{events_tree}
use Rattle.types_serde.specs.declared.error.Error.{Error}
use Rattle.types_serde.specs.declared.error.Error.TheVariants.{NoBlock, Misfit}

-- the bytes are the spelling of the tree of the events
abbrev pub IsBlockOfLog : Log → List ℕ → Type 0
IsBlockOfLog log b = IsSomeAnd log (λ es. IsSomeAnd (events_tree es) (λ t. IsSpelling b t))

-- the bytes are not a block, for this cause; or they are one, and the type does not accept it, as
-- was found at this place in them
abbrev pub IsRefused : Error Infallible → List ℕ → Type 0
IsRefused (NoBlock e) b = IsRefusedFor b e
IsRefused (Misfit m at) b = ((t : Tree) × IsBlock b t) × (at ≤ length b)

-- the type does not accept the block, for a cause at a place in it
abbrev pub IsMisfitIn : {E : Type 0} → List ℕ → Error E → Type 0
IsMisfitIn b (NoBlock e) = ⊥
IsMisfitIn b (Misfit m at) = at ≤ length b
