-- The tokens in bytes, one after the other from the front, whether the bytes are a block or not.
use Rattle.std.specs.Prelude.{◌≡◌, ◌⊎◌, ℕ, suc, ◌-◌, ◌^◌, ◌<◌, ◌≤◌, List, [], ◌∷◌, ◌++◌, length, map, take, drop, Option, MatchOption}
use Rattle.dagcbor_core.specs.Head.{head}
use Rattle.ipld_tree.specs.Tree.{Tree}
use Rattle.dagcbor_decode.specs.Decode.{Decoded, got, refused}
use Rattle.dagcbor_decode.specs.Verdicts.{place_of}
use Rattle.abi_calls.specs.Tapes.{token, tape_of}
use Rattle.abi_calls.specs.declared.tape.Token.{Token}

-- a token of this kind and number has this head, and `size` bytes of payload after it
pub data IsHeadOf (kind number : ℕ) (front : List ℕ) (size : ℕ) : Type 0 where
  null : kind ≡ 0 → number ≡ 0 → front ≡ 0xf6 ∷ [] → size ≡ 0 → IsHeadOf kind number front size
  no : kind ≡ 1 → number ≡ 0 → front ≡ 0xf4 ∷ [] → size ≡ 0 → IsHeadOf kind number front size
  yes : kind ≡ 1 → number ≡ 1 → front ≡ 0xf5 ∷ [] → size ≡ 0 → IsHeadOf kind number front size
  natural : kind ≡ 2 → front ≡ head 0 number → size ≡ 0 → IsHeadOf kind number front size
  negative : kind ≡ 8 → front ≡ head 1 number → size ≡ 0 → IsHeadOf kind number front size
  text : kind ≡ 3 → front ≡ head 3 number → size ≡ number → IsHeadOf kind number front size
  bytes : kind ≡ 4 → front ≡ head 2 number → size ≡ number → IsHeadOf kind number front size
  list : kind ≡ 5 → front ≡ head 4 number → size ≡ 0 → IsHeadOf kind number front size
  mapping : kind ≡ 6 → front ≡ head 5 number → size ≡ 0 → IsHeadOf kind number front size
  link : kind ≡ 7 → suc number < 2 ^ 64 → front ≡ 0xd8 ∷ 0x2a ∷ head 2 (suc number) ++ 0x00 ∷ []
      → size ≡ number → IsHeadOf kind number front size

-- The whole token is at the front of what is left of `whole` bytes: its head, and then its payload,
-- which is at the token's place; the rest follows.
pub record StandsToken (whole : ℕ) (b : List ℕ) (t : Token) (rest : List ℕ) : Type 0 where
  pub front : List ℕ
  pub payload : List ℕ
  pub fits : t.number < 2 ^ 64
  pub head_is : IsHeadOf t.kind t.number front (length payload)
  pub is : b ≡ front ++ (payload ++ rest)
  pub place_is : t.place ≡ whole - length (payload ++ rest)

-- the tokens follow one another from the front, and after them no whole token follows
abbrev pub AreTokensOf : (whole : ℕ) → List ℕ → List Token → Type 0
AreTokensOf whole b [] = (t : Token) (rest : List ℕ) → ¬ StandsToken whole b t rest
AreTokensOf whole b (t ∷ ts) = (rest : List ℕ) × StandsToken whole b t rest × AreTokensOf whole rest ts

-- these are the tokens in the bytes
abbrev pub AreTokens : List ℕ → List Token → Type 0
AreTokens b tokens = AreTokensOf (length b) b tokens

-- where reading ends: after a block, or at the place where bytes are refused
abbrev pub end_of : List ℕ → Decoded Tree → ℕ
end_of b (got t rest) = length b
end_of b (refused why left) = place_of b why left

-- the tokens before that end: the tape of a block, or the whole tokens in refused bytes
abbrev pub AreFrontTokens : List ℕ → Decoded Tree → List Token → Type 0
AreFrontTokens b (got t rest) tokens = tokens ≡ tape_of t
AreFrontTokens b (refused why left) tokens = AreTokens (take (place_of b why left) b) tokens

-- ---- parts

-- the token of a simple value of this number
abbrev pub IsSimpleToken : ℕ → ℕ → Token → Type 0
IsSimpleToken value place t = ((value ≡ 20) × (t ≡ token 1 0 place))
    ⊎ ((value ≡ 21) × (t ≡ token 1 1 place)) ⊎ ((value ≡ 22) × (t ≡ token 0 0 place))

-- a token is at the front, or none
abbrev pub StandsTokenIfThere : {P : Type 0} → (P → Token) → (P → List ℕ) → ℕ → List ℕ → Option P
    → Type 0
StandsTokenIfThere first rest whole b result = MatchOption result
    ((t : Token) (more : List ℕ) → ¬ StandsToken whole b t more)
    (λ p. StandsToken whole b (first p) (rest p))

-- a byte string of a zero and n bytes is at the front
pub record HasLinkBytes (b : List ℕ) (n : ℕ) (cid rest : List ℕ) : Type 0 where
  pub fits : suc n < 2 ^ 64
  pub long : length cid ≡ n
  pub is : b ≡ (head 2 (suc n) ++ 0x00 ∷ []) ++ (cid ++ rest)

-- the token of a link, after its tag, is at the front; or none
abbrev pub StandsLinkIfThere : {P : Type 0} → (P → Token) → (P → List ℕ) → ℕ → List ℕ → Option P
    → Type 0
StandsLinkIfThere first rest whole b result = MatchOption result
    ((n : ℕ) (cid more : List ℕ) → ¬ HasLinkBytes b n cid more)
    (λ p. (n : ℕ) × (cid : List ℕ) × HasLinkBytes b n cid (rest p)
    × (first p ≡ token 7 n (whole - length (cid ++ rest p))))

-- the token of a link, after a tag of this number, which is 42, is at the front; or none
abbrev pub StandsTaggedIfThere : {P : Type 0} → (P → Token) → (P → List ℕ) → ℕ → ℕ → List ℕ
    → Option P → Type 0
StandsTaggedIfThere first rest number whole b result = MatchOption result
    (number ≡ 42 → (n : ℕ) (cid more : List ℕ) → ¬ HasLinkBytes b n cid more)
    (λ p. (number ≡ 42) × ((n : ℕ) × (cid : List ℕ) × HasLinkBytes b n cid (rest p)
    × (first p ≡ token 7 n (whole - length (cid ++ rest p)))))

-- the tokens in the bytes are counted, and the entries made of them are put at the front of the
-- tape if they all fit
abbrev pub PutsStanding : {T : Type 0} → (Token → T) → List ℕ → List T → List T → ℕ → Type 0
PutsStanding made b old new count = (tokens : List Token) × AreTokens b tokens
    × (count ≡ length tokens)
    × (length tokens ≤ length old → new ≡ map made tokens ++ drop (length tokens) old)
