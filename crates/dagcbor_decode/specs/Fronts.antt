-- What the judge finds at the front of bytes. No public contract names it.
use Rattle.std.specs.Prelude.{◌≡◌, ℕ, List, ◌∷◌, ◌++◌, length, IsUtf8}
use Rattle.ipld_tree.specs.Cid.{IsCid}
use Rattle.ipld_tree.specs.Tree.{Tree, bytes, any_need}
use Rattle.ipld_tree.specs.Spelling.{IsFront}

-- the bytes begin with a payload of n bytes
abbrev pub SplitsPayload : List ℕ → ℕ → List ℕ → List ℕ → Type 0
SplitsPayload b n payload rest = (length payload ≡ n) × (b ≡ payload ++ rest)

-- the bytes begin with the n bytes of a text
abbrev pub SplitsText : List ℕ → ℕ → List ℕ → List ℕ → Type 0
SplitsText b n s rest = IsUtf8 s × SplitsPayload b n s rest

-- the bytes begin with the byte string of a zero and a CID
abbrev pub SplitsCid : List ℕ → List ℕ → List ℕ → Type 0
SplitsCid b cid rest = IsCid cid × IsFront b (bytes (0x00 ∷ cid)) rest

-- the bytes begin with a leaf, an item that contains no other
abbrev pub SplitsLeaf : List ℕ → List ℕ → Type 0
SplitsLeaf b rest = (t : Tree) × IsFront b t rest × (any_need t ≡ 1)
