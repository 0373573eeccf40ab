-- Tokens in bytes, one after the other.
use Rattle.std.proofs.Common.{◌≡◌, ◌≢◌, ◌⊎◌, inl, inr, ℕ, suc, ◌+◌, ◌-◌, ◌^◌, ◌<◌, ◌≤◌, List, [], ◌∷◌, ◌++◌, length, take, drop, set, if◌then◌else◌, refl, sym, ap, ap₂, ◌∙◌, subst, arith, append_assoc, append-nil, length-append, length-take, map, Bool, le-ltb, take-append-drop, Option, Some, None, nat_eq}
use Rattle.std.proofs.lemmas.List.{length-map}
use Rattle.dagcbor_core.specs.Head.{head}
use Rattle.dagcbor_core.specs.Splits.{SplitsHead, BeginsWithHead}
use Rattle.dagcbor_core.proofs.Heads.{head_unique}
use Rattle.ipld_tree.proofs.Unique.{split_at_length}
use Rattle.abi_calls.specs.Tapes.{token, with_tokens}
use Rattle.abi_calls.specs.Standing.{IsHeadOf, null, no, yes, natural, negative, text, bytes, list, mapping, link, StandsToken, AreTokensOf, AreTokens, IsSimpleToken, HasLinkBytes, PutsStanding, StandsLinkIfThere, StandsTaggedIfThere, StandsTokenIfThere}
use Rattle.abi_calls.specs.declared.tape.Token.{Token}
use Rattle.abi_calls.proofs.Tapes.{put_more}

-- ---- what a token says of the head there

kind_at : ℕ → ℕ → ℕ
kind_at m n = if nat_eq m 0 then 2 else if nat_eq m 1 then 8 else if nat_eq m 2 then 4 else if nat_eq m 3 then 3
    else if nat_eq m 4 then 5 else if nat_eq m 5 then 6 else if nat_eq n 22 then 0 else 1

number_at : ℕ → ℕ → ℕ
number_at m n = if nat_eq m 7 then (if nat_eq n 21 then 1 else 0) else n

size_at : ℕ → ℕ → ℕ
size_at m n = if nat_eq m 2 then n else if nat_eq m 3 then n else 0

-- a token by its head
pub record ByHead (whole : ℕ) (b : List ℕ) (t : Token) (rest : List ℕ) : Type 0 where
  major : ℕ
  argument : ℕ
  following : List ℕ
  splits : SplitsHead b major argument following
  simple : major ≡ 7 → (20 ≤ argument) × (argument ≤ 22)
  payload : List ℕ
  payload_is : ((major ≢ 6) × (t.kind ≡ kind_at major argument) × (t.number ≡ number_at major argument) × (length payload ≡ size_at major argument) × (following ≡ payload ++ rest))
      ⊎ ((major ≡ 6) × (argument ≡ 42) × (t.kind ≡ 7) × HasLinkBytes following t.number payload rest)
  place_is : t.place ≡ whole - length (payload ++ rest)

pub by_head_of : (whole : ℕ) (b : List ℕ) (t : Token) (rest : List ℕ) → StandsToken whole b t rest → ByHead whole b t rest
unfolding head kind_at number_at size_at
by_head_of whole b t rest s = by s.head_is
  where
    plain : (m n : ℕ) → m < 8 → n < 2 ^ 64 → s.front ≡ head m n → m ≢ 6 → (m ≡ 7 → (20 ≤ n) × (n ≤ 22)) → t.kind ≡ kind_at m n → t.number ≡ number_at m n → length s.payload ≡ size_at m n → ByHead whole b t rest
    plain m n few fits front other simple kind number size = record {
      major = m;
      argument = n;
      following = s.payload ++ rest;
      splits = (few, fits, s.is ∙ ap (λ x. x ++ (s.payload ++ rest)) front);
      simple = simple;
      payload = s.payload;
      payload_is = inl (other, kind, number, size, refl);
      place_is = s.place_is;
    }

    by : IsHeadOf t.kind t.number s.front (length s.payload) → ByHead whole b t rest
    by (null k n f z) = plain 7 22 (omega arith) (omega arith) f (λ e. omega (arith, e)) (λ e. (omega arith, omega arith)) k n z
    by (no k n f z) = plain 7 20 (omega arith) (omega arith) f (λ e. omega (arith, e)) (λ e. (omega arith, omega arith)) k n z
    by (yes k n f z) = plain 7 21 (omega arith) (omega arith) f (λ e. omega (arith, e)) (λ e. (omega arith, omega arith)) k n z
    by (natural k f z) = plain 0 t.number (omega arith) s.fits f (λ e. omega (arith, e)) (λ e. absurd (omega (arith, e))) k refl z
    by (negative k f z) = plain 1 t.number (omega arith) s.fits f (λ e. omega (arith, e)) (λ e. absurd (omega (arith, e))) k refl z
    by (text k f z) = plain 3 t.number (omega arith) s.fits f (λ e. omega (arith, e)) (λ e. absurd (omega (arith, e))) k refl z
    by (bytes k f z) = plain 2 t.number (omega arith) s.fits f (λ e. omega (arith, e)) (λ e. absurd (omega (arith, e))) k refl z
    by (list k f z) = plain 4 t.number (omega arith) s.fits f (λ e. omega (arith, e)) (λ e. absurd (omega (arith, e))) k refl z
    by (mapping k f z) = plain 5 t.number (omega arith) s.fits f (λ e. omega (arith, e)) (λ e. absurd (omega (arith, e))) k refl z
    by (link k fits f z) = record {
      major = 6;
      argument = 42;
      following = (head 2 (suc t.number) ++ 0x00 ∷ []) ++ (s.payload ++ rest);
      splits = (omega arith, omega arith, s.is ∙ ap (λ x. x ++ (s.payload ++ rest)) f);
      simple = λ e. absurd (omega (arith, e));
      payload = s.payload;
      payload_is = inr (refl, refl, k, record { fits = fits; long = z; is = refl });
      place_is = s.place_is;
    }

-- ---- a token at a head

pub same_head : (m n m' n' : ℕ) (b c d : List ℕ) → SplitsHead b m n c → SplitsHead b m' n' d → (m ≡ m') × (n ≡ n') × (c ≡ d)
same_head m n m' n' b c d h k = head_unique m n m' n' c d h.1 k.1 (sym h.2 ∙ k.2)

pub no_head_no_token : (whole : ℕ) (b : List ℕ) → ¬ BeginsWithHead b → (t : Token) (rest : List ℕ) → ¬ StandsToken whole b t rest
no_head_no_token whole b none t rest s = let k = by_head_of whole b t rest s in none (k.major, k.argument, k.following, k.splits)

pub no_payload_no_token : (whole m n : ℕ) (b c : List ℕ) → SplitsHead b m n c → (m ≡ 2) ⊎ (m ≡ 3) → length c < n → (t : Token) (rest : List ℕ) → ¬ StandsToken whole b t rest
unfolding size_at
no_payload_no_token whole m n b c h string few t rest s =
    let k = by_head_of whole b t rest s in
    let same = same_head m n k.major k.argument b c k.following h k.splits in
    elim k.payload_is [
      | inl p ↦ (
          let size : size_at k.major k.argument ≡ k.argument = elim string [ inl two ↦ ap (λ x. size_at x k.argument) {x = k.major} {y = 2} (sym same.0 ∙ two) | inr three ↦ ap (λ x. size_at x k.argument) {x = k.major} {y = 3} (sym same.0 ∙ three) ] in
          omega (arith, few, same.1, ap length same.2, p.3, size, ap length p.4, length-append k.payload rest))
      | inr p ↦ elim string [ inl two ↦ omega (arith, two, same.0, p.0) | inr three ↦ omega (arith, three, same.0, p.0) ]
    ]

pub no_simple_no_token : (whole n : ℕ) (b c : List ℕ) → SplitsHead b 7 n c → (20 ≤ n → ¬ (n ≤ 22)) → (t : Token) (rest : List ℕ) → ¬ StandsToken whole b t rest
no_simple_no_token whole n b c h none t rest s =
    let k = by_head_of whole b t rest s in
    let same = same_head 7 n k.major k.argument b c k.following h k.splits in
    let in_range = k.simple (sym same.0) in
    none (omega (arith, same.1, in_range.0)) (omega (arith, same.1, in_range.1))

pub no_link_no_token : (whole n : ℕ) (b c : List ℕ) → SplitsHead b 6 n c → (n ≡ 42 → (k : ℕ) (cid more : List ℕ) → ¬ HasLinkBytes c k cid more) → (t : Token) (rest : List ℕ) → ¬ StandsToken whole b t rest
no_link_no_token whole n b c h none t rest s =
    let k = by_head_of whole b t rest s in
    let same = same_head 6 n k.major k.argument b c k.following h k.splits in
    elim k.payload_is [
      | inl p ↦ p.0 (sym same.0)
      | inr p ↦ none (same.1 ∙ p.1) t.number k.payload rest (subst (λ x. HasLinkBytes x t.number k.payload rest) (sym same.2) p.3)
    ]

-- ---- there is one token

pub natural_stands : (whole n : ℕ) (b c : List ℕ) (t : Token) → SplitsHead b 0 n c → t ≡ token 2 n (whole - length c) → StandsToken whole b t c
natural_stands whole n b c t h e = subst (λ x. StandsToken whole b x c) (sym e) record { front = head 0 n; payload = []; fits = h.1; head_is = natural refl refl refl; is = h.2; place_is = refl }

pub negative_stands : (whole n : ℕ) (b c : List ℕ) (t : Token) → SplitsHead b 1 n c → t ≡ token 8 n (whole - length c) → StandsToken whole b t c
negative_stands whole n b c t h e = subst (λ x. StandsToken whole b x c) (sym e) record { front = head 1 n; payload = []; fits = h.1; head_is = negative refl refl refl; is = h.2; place_is = refl }

pub list_stands : (whole n : ℕ) (b c : List ℕ) (t : Token) → SplitsHead b 4 n c → t ≡ token 5 n (whole - length c) → StandsToken whole b t c
list_stands whole n b c t h e = subst (λ x. StandsToken whole b x c) (sym e) record { front = head 4 n; payload = []; fits = h.1; head_is = list refl refl refl; is = h.2; place_is = refl }

pub map_stands : (whole n : ℕ) (b c : List ℕ) (t : Token) → SplitsHead b 5 n c → t ≡ token 6 n (whole - length c) → StandsToken whole b t c
map_stands whole n b c t h e = subst (λ x. StandsToken whole b x c) (sym e) record { front = head 5 n; payload = []; fits = h.1; head_is = mapping refl refl refl; is = h.2; place_is = refl }

-- the payload and what follows it
abbrev payload_split : (n : ℕ) (c : List ℕ) → take n c ++ drop n c ≡ c
payload_split n c = take-append-drop n c

taken_length : (n : ℕ) (c : List ℕ) → n ≤ length c → length (take n c) ≡ n
taken_length n c few = omega (arith, few, length-take n c)

pub bytes_stand : (whole n : ℕ) (b c rest : List ℕ) (t : Token) → SplitsHead b 2 n c → n ≤ length c → rest ≡ drop n c → t ≡ token 4 n (whole - length c) → StandsToken whole b t rest
bytes_stand whole n b c rest t h few r e = subst (λ x. StandsToken whole b x rest) (sym e) (subst (λ x. StandsToken whole b (token 4 n (whole - length c)) x) (sym r)
    record { front = head 2 n; payload = take n c; fits = h.1; head_is = bytes refl refl (taken_length n c few); is = h.2 ∙ ap (λ x. head 2 n ++ x) (sym (payload_split n c)); place_is = ap (λ x. whole - length x) (sym (payload_split n c)) })

pub text_stands : (whole n : ℕ) (b c rest : List ℕ) (t : Token) → SplitsHead b 3 n c → n ≤ length c → rest ≡ drop n c → t ≡ token 3 n (whole - length c) → StandsToken whole b t rest
text_stands whole n b c rest t h few r e = subst (λ x. StandsToken whole b x rest) (sym e) (subst (λ x. StandsToken whole b (token 3 n (whole - length c)) x) (sym r)
    record { front = head 3 n; payload = take n c; fits = h.1; head_is = text refl refl (taken_length n c few); is = h.2 ∙ ap (λ x. head 3 n ++ x) (sym (payload_split n c)); place_is = ap (λ x. whole - length x) (sym (payload_split n c)) })

pub simple_stands : (whole n : ℕ) (b c : List ℕ) (t : Token) → SplitsHead b 7 n c → IsSimpleToken n (whole - length c) t → StandsToken whole b t c
unfolding head
simple_stands whole n b c t h (inl k) = subst (λ x. StandsToken whole b x c) (sym k.1) record { front = 0xf4 ∷ []; payload = []; fits = omega arith; head_is = no refl refl refl refl; is = h.2 ∙ ap (λ x. head 7 x ++ c) k.0; place_is = refl }
simple_stands whole n b c t h (inr (inl k)) = subst (λ x. StandsToken whole b x c) (sym k.1) record { front = 0xf5 ∷ []; payload = []; fits = omega arith; head_is = yes refl refl refl refl; is = h.2 ∙ ap (λ x. head 7 x ++ c) k.0; place_is = refl }
simple_stands whole n b c t h (inr (inr k)) = subst (λ x. StandsToken whole b x c) (sym k.1) record { front = 0xf6 ∷ []; payload = []; fits = omega arith; head_is = null refl refl refl refl; is = h.2 ∙ ap (λ x. head 7 x ++ c) k.0; place_is = refl }

pub link_stands : (whole number n : ℕ) (b c cid rest : List ℕ) (t : Token) → SplitsHead b 6 number c → number ≡ 42 → HasLinkBytes c n cid rest → t ≡ token 7 n (whole - length (cid ++ rest)) → StandsToken whole b t rest
unfolding head
link_stands whole number n b c cid rest t h tag k e = subst (λ x. StandsToken whole b x rest) (sym e) record {
  front = 0xd8 ∷ 0x2a ∷ head 2 (suc n) ++ 0x00 ∷ [];
  payload = cid;
  fits = omega (arith, k.fits);
  head_is = link refl k.fits refl k.long;
  is = h.2 ∙ ap (λ x. head 6 x ++ c) tag ∙ ap (λ x. 0xd8 ∷ 0x2a ∷ x) k.is;
  place_is = refl;
}

-- ---- links

pub link_there : (m k n : ℕ) (b c cid more : List ℕ) → SplitsHead b m k c → HasLinkBytes b n cid more → (m ≡ 2) × (k ≡ suc n) × (c ≡ 0x00 ∷ (cid ++ more))
link_there m k n b c cid more h l = same_head m k 2 (suc n) b c (0x00 ∷ (cid ++ more)) h (omega arith, l.fits, l.is ∙ append_assoc (head 2 (suc n)) (0x00 ∷ []) (cid ++ more))

pub link_nowhere : (b : List ℕ) → ¬ BeginsWithHead b → (n : ℕ) (cid more : List ℕ) → ¬ HasLinkBytes b n cid more
link_nowhere b none n cid more l = none (2, suc n, 0x00 ∷ (cid ++ more), (omega arith, l.fits, l.is ∙ append_assoc (head 2 (suc n)) (0x00 ∷ []) (cid ++ more)))

pub link_other : (m k : ℕ) (b c : List ℕ) → SplitsHead b m k c → ¬ (m ≡ 2) → (n : ℕ) (cid more : List ℕ) → ¬ HasLinkBytes b n cid more
link_other m k b c h other n cid more l = other (link_there m k n b c cid more h l).0

pub link_empty : (m k : ℕ) (b c : List ℕ) → SplitsHead b m k c → length c ≡ 0 → (n : ℕ) (cid more : List ℕ) → ¬ HasLinkBytes b n cid more
link_empty m k b c h none n cid more l = omega (arith, none, ap length (link_there m k n b c cid more h l).2)

pub link_no_zero : (m k first : ℕ) (b c d : List ℕ) → SplitsHead b m k c → c ≡ first ∷ d → ¬ (first ≡ 0) → (n : ℕ) (cid more : List ℕ) → ¬ HasLinkBytes b n cid more
link_no_zero m k first b c d h is other n cid more l = let both : first ∷ d ≡ 0x00 ∷ (cid ++ more) = sym is ∙ (link_there m k n b c cid more h l).2 in other (cc both)

pub link_short : (m k : ℕ) (b c : List ℕ) → SplitsHead b m k c → k < 1 → (n : ℕ) (cid more : List ℕ) → ¬ HasLinkBytes b n cid more
link_short m k b c h none n cid more l = omega (arith, none, (link_there m k n b c cid more h l).1)

pub link_cut : (m k first : ℕ) (b c d : List ℕ) → SplitsHead b m k c → c ≡ first ∷ d → length d < k - 1 → (n : ℕ) (cid more : List ℕ) → ¬ HasLinkBytes b n cid more
link_cut m k first b c d h is few n cid more l =
    let t = link_there m k n b c cid more h l in
    omega (arith, few, t.1, ap length is, ap length t.2, length-append cid more, l.long)

pub link_whole : (k whole : ℕ) (b c d rest : List ℕ) (t : Token) → SplitsHead b 2 k c → c ≡ 0x00 ∷ d → 1 ≤ k → k - 1 ≤ length d → rest ≡ drop (k - 1) d → t ≡ token 7 (k - 1) (whole - length d)
    → (n : ℕ) × (cid : List ℕ) × HasLinkBytes b n cid rest × (t ≡ token 7 n (whole - length (cid ++ rest)))
link_whole k whole b c d rest t h is some few r e =
    let n = k - 1 in
    let more : take n d ++ rest ≡ d = ap (λ x. take n d ++ x) r ∙ payload_split n d in
    let count : suc n ≡ k = omega (arith, some) in (
      n,
      take n d,
      record {
        fits = omega (arith, count, h.1);
        long = taken_length n d few;
        is = h.2 ∙ ap (λ x. head 2 k ++ x) is ∙ ap (λ x. head 2 x ++ (0x00 ∷ d)) (sym count) ∙ ap (λ x. head 2 (suc n) ++ (0x00 ∷ x)) (sym more) ∙ sym (append_assoc (head 2 (suc n)) (0x00 ∷ []) (take n d ++ rest));
      },
      e ∙ ap (λ x. token 7 n (whole - length x)) (sym more),
    )

-- ---- there is one list

-- a token is its parts
token_is : (t u : Token) → t.kind ≡ u.kind → t.number ≡ u.number → t.place ≡ u.place → t ≡ u
token_is t u k n p = ap (λ x. token x t.number t.place) k ∙ ap (λ x. token u.kind x t.place) n ∙ ap (λ x. token u.kind u.number x) p

pub one_token : (whole : ℕ) (b : List ℕ) (t u : Token) (x y : List ℕ) → StandsToken whole b t x → StandsToken whole b u y → (t ≡ u) × (x ≡ y)
one_token whole b t u x y s r =
    let k = by_head_of whole b t x s in
    let l = by_head_of whole b u y r in
    let same = same_head k.major k.argument l.major l.argument b k.following l.following k.splits l.splits in
    elim k.payload_is [
      | inl p ↦ elim l.payload_is [
        | inl q ↦ (
            let size : length k.payload ≡ length l.payload = p.3 ∙ ap₂ size_at same.0 same.1 ∙ sym q.3 in
            let all : k.payload ++ x ≡ l.payload ++ y = sym p.4 ∙ same.2 ∙ q.4 in
            let parts = split_at_length k.payload l.payload x y size all in
            (token_is t u (p.1 ∙ ap₂ kind_at same.0 same.1 ∙ sym q.1) (p.2 ∙ ap₂ number_at same.0 same.1 ∙ sym q.2) (k.place_is ∙ ap (λ z. whole - length z) all ∙ sym l.place_is), parts.1))
        | inr q ↦ absurd (p.0 (same.0 ∙ q.0))
      ]
      | inr p ↦ elim l.payload_is [
        | inl q ↦ absurd (q.0 (sym same.0 ∙ p.0))
        | inr q ↦ (
            let split : (b : List ℕ) (n : ℕ) (cid more : List ℕ) → HasLinkBytes b n cid more → SplitsHead b 2 (suc n) (0x00 ∷ (cid ++ more)) = λ b n cid more h. (omega arith, h.fits, h.is ∙ append_assoc (head 2 (suc n)) (0x00 ∷ []) (cid ++ more)) in
            let other = subst (λ z. HasLinkBytes z u.number l.payload y) (sym same.2) q.3 in
            let heads = same_head 2 (suc t.number) 2 (suc u.number) k.following (0x00 ∷ (k.payload ++ x)) (0x00 ∷ (l.payload ++ y)) (split k.following t.number k.payload x p.3) (split k.following u.number l.payload y other) in
            let number : t.number ≡ u.number = omega (arith, heads.1) in
            let all : k.payload ++ x ≡ l.payload ++ y = let e = heads.2 in cc e in
            let parts = split_at_length k.payload l.payload x y (p.3.long ∙ number ∙ sym other.long) all in
            (token_is t u (p.2 ∙ sym q.2) number (k.place_is ∙ ap (λ z. whole - length z) all ∙ sym l.place_is), parts.1))
      ]
    ]

pub one_row : (whole : ℕ) (b : List ℕ) (ts us : List Token) → AreTokensOf whole b ts → AreTokensOf whole b us → ts ≡ us
one_row whole b [] [] h k = refl
one_row whole b [] (u ∷ us) h k = absurd (h u k.0 k.1)
one_row whole b (t ∷ ts) [] h k = absurd (k t h.0 h.1)
one_row whole b (t ∷ ts) (u ∷ us) h k =
    let same = one_token whole b t u h.0 k.0 h.1 k.1 in
    ap₂ (λ x xs. x ∷ xs) same.0 (one_row whole h.0 ts us h.2 (subst (λ z. AreTokensOf whole z us) (sym same.1) k.2))

-- ---- the tape

-- the tokens that were there, and those still to come
pub record Stood {T : Type 0} (made : Token → T) (whole : ℕ) (b rest : List ℕ) (old now : List T) (count : ℕ) : Type 0 where
  done : List Token
  row : (more : List Token) → AreTokensOf whole rest more → AreTokensOf whole b (done ++ more)
  counted : length done ≡ count
  stands : count ≤ length old → now ≡ map made done ++ drop count old

pub none_stood : {T : Type 0} (made : Token → T) (whole : ℕ) (b : List ℕ) (old : List T) → Stood made whole b b old old 0
none_stood made whole b old = record { done = []; row = λ more h. h; counted = refl; stands = λ room. refl }

pub one_stood : {T : Type 0} (made : Token → T) (whole : ℕ) (b now next : List ℕ) (old before after : List T) (count : ℕ) (first : Token) → length before ≡ length old → Stood made whole b now old before count → StandsToken whole now first next
    → (count < length before → after ≡ set before count (made first)) → Stood made whole b next old after (count + 1)
one_stood made whole b now next old before after count first same s token put = record {
  done = s.done ++ first ∷ [];
  row = λ more h. subst (AreTokensOf whole b) (sym (append_assoc s.done (first ∷ []) more)) (s.row (first ∷ more) (next, token, h));
  counted = omega (arith, length-append s.done (first ∷ []), s.counted);
  stands = put_more made s.done old before after count first same s.counted s.stands put;
}

pub all_stood : {T : Type 0} (made : Token → T) (whole : ℕ) (b now : List ℕ) (old after : List T) (count : ℕ) → ((t : Token) (rest : List ℕ) → ¬ StandsToken whole now t rest) → Stood made whole b now old after count
    → (tokens : List Token) × AreTokensOf whole b tokens × (count ≡ length tokens) × (length tokens ≤ length old → after ≡ map made tokens ++ drop (length tokens) old)
all_stood made whole b now old after count none s = (
  s.done,
  subst (AreTokensOf whole b) (append-nil s.done) (s.row [] none),
  sym s.counted,
  λ room. s.stands (omega (arith, s.counted, room)) ∙ ap (λ n. map made s.done ++ drop n old) (sym s.counted),
)

-- ---- with room, and without

-- entries that have room
roomy : {T : Type 0} (entries old : List T) (n : ℕ) → length entries ≡ n → n ≤ length old → entries ++ drop n old ≡ with_tokens entries old
roomy entries old n long fits =
    ap (λ k. entries ++ drop k old) (sym long)
    ∙ sym (ap (λ (o : Bool). if o then old else entries ++ drop (length entries) old) (le-ltb (length old) (length entries) (omega (arith, long, fits))))

pub with_room : {T : Type 0} (made : Token → T) (b : List ℕ) (old new : List T) (needed : ℕ) → needed ≤ length old → PutsStanding made b old new needed → (tokens : List Token) × AreTokens b tokens × (needed ≡ length tokens) × (new ≡ with_tokens (map made tokens) old)
with_room made b old new needed room k =
    let fits : length k.0 ≤ length old = omega (arith, room, k.2) in
    (k.0, k.1, k.2, k.3 fits ∙ roomy (map made k.0) old (length k.0) (length-map k.0 made) fits)

-- the count of one pass is that of the other
pub same_count : {T U : Type 0} (made : Token → T) (other : Token → U) (b : List ℕ) (none one : List T) (old two : List U) (first second : ℕ) → PutsStanding made b none one first → PutsStanding other b old two second → first ≡ second
same_count made other b none one old two first second k l = k.2 ∙ ap length (one_row (length b) b k.0 l.0 k.1 l.1) ∙ sym l.2

-- ---- what the code says

pub tagged_judged : {P : Type 0} (first : P → Token) (rest : P → List ℕ) (number whole : ℕ) (b : List ℕ) (r : Option P) → number ≡ 42 → StandsLinkIfThere first rest whole b r → StandsTaggedIfThere first rest number whole b r
tagged_judged first rest number whole b None tag none = λ same. none
tagged_judged first rest number whole b (Some p) tag k = (tag, k)

pub tagged_stands : {P : Type 0} (first : P → Token) (rest : P → List ℕ) (number whole : ℕ) (b c : List ℕ) (r : Option P) → SplitsHead b 6 number c → StandsTaggedIfThere first rest number whole c r → StandsTokenIfThere first rest whole b r
tagged_stands first rest number whole b c None h none = no_link_no_token whole number b c h none
tagged_stands first rest number whole b c (Some p) h k = link_stands whole number k.1.0 b c k.1.1 (rest p) (first p) h k.0 k.1.2 k.1.3
