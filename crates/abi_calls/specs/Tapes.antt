-- The tokens of an item: its heads in the order of its spelling, from which a caller builds values.
use Rattle.std.specs.Prelude.{◌≡◌, ℕ, ◌+◌, ◌-◌, ◌<◌, ◌≤◌, ℤ, pos, negsuc, Bool, true, false, List, [], ◌∷◌, ◌++◌, length, map, drop, if◌then◌else◌, nat_lt, Option, MatchOption}
use Rattle.dagcbor_core.specs.Head.{head}
use Rattle.ipld_tree.specs.Tree.{Tree, null, boolean, integer, text, bytes, list, mapping, link, Items, no_items, item, Entries, no_entries, entry}
use Rattle.ipld_tree.specs.Spelling.{item_count, entry_count, text_spelling, spelling, IsSpelling, IsFront, AreFronts}
use Rattle.dagcbor_decode.specs.Decode.{Decoded, got, refused}
use Rattle.dagcbor_decode.specs.TreeKinds.{kind_of}
use Rattle.abi_calls.specs.Codes.{kind_code, why_code}
use Rattle.abi_calls.specs.declared.tape.Token.{Token}

-- a token of these parts
abbrev pub token : ℕ → ℕ → ℕ → Token
token kind number place = record { kind = kind; number = number; place = place }

-- the number in the token of a boolean
abbrev pub boolean_number : Bool → ℕ
boolean_number false = 0
boolean_number true = 1

-- a token of a head that begins at a place: its own place is after that head
abbrev pub token_at : ℕ → List ℕ → ℕ → ℕ → Token
token_at at bs kind number = token kind number (at + length bs)

-- the token of a text whose item begins at this place
abbrev pub text_token : ℕ → List ℕ → Token
text_token at s = token_at at (head 3 (length s)) 3 (length s)

-- the token of an integer whose item begins at this place
abbrev pub integer_token : ℕ → ℤ → Token
integer_token at (pos n) = token_at at (head 0 n) 2 n
integer_token at (negsuc n) = token_at at (head 1 n) 8 n

-- The tokens of a tree whose spelling begins at a place: for each head its kind, its number, and
-- the place after it, where a payload or the first part begins; for a link the place of its CID.
abbrev mutual
  pub tokens_of : ℕ → Tree → List Token
  tokens_of at null = token 0 0 (at + 1) ∷ []
  tokens_of at (boolean b) = token 1 (boolean_number b) (at + 1) ∷ []
  tokens_of at (integer n) = integer_token at n ∷ []
  tokens_of at (text s) = text_token at s ∷ []
  tokens_of at (bytes s) = token_at at (head 2 (length s)) 4 (length s) ∷ []
  tokens_of at (list ts) = token_at at (head 4 (item_count ts)) 5 (item_count ts)
      ∷ items_tokens (at + length (head 4 (item_count ts))) ts
  tokens_of at (mapping es) = token_at at (head 5 (entry_count es)) 6 (entry_count es)
      ∷ entries_tokens (at + length (head 5 (entry_count es))) es
  tokens_of at (link cid) = token_at at (0xd8 ∷ 0x2a ∷ head 2 (length (0x00 ∷ cid)) ++ 0x00 ∷ []) 7 (length cid)
      ∷ []

  pub items_tokens : ℕ → Items → List Token
  items_tokens at no_items = []
  items_tokens at (item t ts) = tokens_of at t ++ items_tokens (at + length (spelling t)) ts

  pub entries_tokens : ℕ → Entries → List Token
  entries_tokens at no_entries = []
  entries_tokens at (entry k t es) = text_token at k
      ∷ (tokens_of (at + length (text_spelling k)) t
      ++ entries_tokens (at + length (text_spelling k) + length (spelling t)) es)

-- the tape of a block
abbrev pub tape_of : Tree → List Token
tape_of t = tokens_of 0 t

-- a tape with the tokens at its front, if they all fit; else the tape stays
abbrev pub with_tokens : {T : Type 0} → List T → List T → List T
with_tokens tokens old = if nat_lt (length old) (length tokens) then old
    else tokens ++ drop (length tokens) old

-- The first of the trees that the bytes spell, to the end of `whole` bytes, begins with the token;
-- after it and its payload follow the rest of its tokens and those of the others.
abbrev pub SplitsToken : ℕ → List ℕ → Token → List ℕ → Type 0
SplitsToken whole b first rest = (t : Tree) (ts : Items) → AreFronts b (item t ts) []
    → (more : Items) × AreFronts rest more [] × (items_tokens (whole - length b) (item t ts) ≡ first ∷ items_tokens (whole - length rest) more)

-- Such a token or none, and the bytes after it, which are fewer.
abbrev pub SplitsTokenIfThere : {P : Type 0} → (P → Token) → (P → List ℕ) → ℕ → List ℕ → Option P → Type 0
SplitsTokenIfThere first rest whole b result = MatchOption result
    ((t : Tree) (ts : Items) → ¬ AreFronts b (item t ts) [])
    (λ p. (length (rest p) < length b) × SplitsToken whole b (first p) (rest p))

-- the byte string of a zero and these bytes is at the front
abbrev pub BeginsWithZeroAnd : List ℕ → List ℕ → List ℕ → Type 0
BeginsWithZeroAnd b cid rest = IsFront b (bytes (0x00 ∷ cid)) rest

-- The byte string of a zero and a CID gives the token of a link, whose place is that of the CID.
abbrev pub SplitsLinkIfThere : {P : Type 0} → (P → Token) → (P → List ℕ) → ℕ → List ℕ → Option P → Type 0
SplitsLinkIfThere first rest whole b result = MatchOption result
    ((cid more : List ℕ) → ¬ BeginsWithZeroAnd b cid more)
    (λ p. (length (rest p) < length b) × ((cid more : List ℕ) → BeginsWithZeroAnd b cid more → (first p ≡ token 7 (length cid) (whole - length (cid ++ more))) × (rest p ≡ more)))

-- The entries made of the block's tokens are counted, and put at the front of the tape if they all
-- fit.
abbrev pub PutsTokens : {T : Type 0} → (Token → T) → List ℕ → List T → List T → ℕ → Type 0
PutsTokens made b old new count = (t : Tree) → IsSpelling b t → (count ≡ length (tape_of t))
    × (length (tape_of t) ≤ length old → new ≡ map made (tape_of t) ++ drop (length (tape_of t)) old)

-- The answer for what is decoded: its number, how many tokens it has, and the tape with them at its
-- front, if they all fit; for refused bytes no token, and the tape as it was.
abbrev pub decoded_tape : {T : Type 0} → (Tree → List T) → Decoded Tree → List T → ℤ × ℕ × List T
decoded_tape tape (got t rest) old =
    (kind_code (kind_of t), length (tape t), with_tokens (tape t) old)
decoded_tape tape (refused why left) old = (why_code why, 0, old)
