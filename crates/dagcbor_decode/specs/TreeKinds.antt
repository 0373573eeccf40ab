-- The kinds of trees.
use Rattle.std.specs.Prelude.{◌≡◌, ℕ, ◌/◌, ◌==◌, if◌then◌else◌, List, ◌∷◌}
use Rattle.ipld_tree.specs.Tree.{Tree, null, boolean, integer, text, bytes, list, mapping, link}
use Rattle.ipld_tree.specs.Spelling.{IsFront}
use Rattle.dagcbor_decode.specs.declared.kind.Kind.{Kind}
use Rattle.dagcbor_decode.specs.declared.kind.Kind.TheVariants as kinds

-- the kind of a tree
abbrev pub kind_of : Tree → Kind
kind_of null = kinds.Null
kind_of (boolean b) = kinds.Bool
kind_of (integer n) = kinds.Integer
kind_of (text s) = kinds.String
kind_of (bytes s) = kinds.Bytes
kind_of (list ts) = kinds.List
kind_of (mapping es) = kinds.Map
kind_of (link cid) = kinds.Link

-- each tree whose spelling begins with the byte is of the kind
abbrev pub IsKindAt : ℕ → Kind → Type 0
IsKindAt first kind = (t : Tree) (more rest : List ℕ) → IsFront (first ∷ more) t rest
    → kind ≡ kind_of t

-- each tree whose spelling the bytes begin with is of the kind
abbrev pub IsKindOfFront : List ℕ → Kind → Type 0
IsKindOfFront b kind = (t : Tree) (rest : List ℕ) → IsFront b t rest → kind ≡ kind_of t

-- the kind of an item, by its initial byte
abbrev pub kind_at : ℕ → Kind
kind_at first =
    if first / 32 == 0 then kinds.Integer
    else if first / 32 == 1 then kinds.Integer
    else if first / 32 == 2 then kinds.Bytes
    else if first / 32 == 3 then kinds.String
    else if first / 32 == 4 then kinds.List
    else if first / 32 == 5 then kinds.Map
    else if first / 32 == 6 then kinds.Link
    else if first == 0xf6 then kinds.Null
    else kinds.Bool
