-- Names of blocks.
use Rattle.std.specs.Prelude.{◌≡◌, Option, IfSome, IsSomeAnd, Result, Ok, Err, ⊤}
use Rattle.std.specs.declared.convert.Infallible.{Infallible}
use Rattle.serde_ipld_dagcbor.specs.EncodeError.{EncodeError}
use Rattle.serde_ipld_dagcbor.specs.EncodeError.TheVariants.{Msg, Write, OutOfMemory}
use Rattle.serde_ipld_dagcbor.specs.Cid.{CidParts}
use Rattle.serde_ipld_dagcbor.specs.Tree.{Tree, IsTree}
use Rattle.serde_ipld_dagcbor.specs.Spelling.{IsSpellable, spelling}
use Rattle.ipld_links.specs.Names.{block_name}

-- The answer is the name of the spelling of the value's tree. It is a message only if the value has
-- no tree, or its tree no spelling.
abbrev pub IsNameOf : Option Tree → Result CidParts (EncodeError Infallible) → Type 0
IsNameOf tree (Ok name) = IsSomeAnd tree (λ t. IsTree t × IsSpellable t × (name ≡ block_name (spelling t)))
IsNameOf tree (Err (Msg m)) = IfSome tree (λ t. ¬ IsSpellable t)
IsNameOf tree (Err (Write e)) = ⊥
IsNameOf tree (Err OutOfMemory) = ⊤
