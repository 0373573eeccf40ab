-- Requests as they come in.
use Rattle.std.proofs.Common.{◌≡◌, ◌≢◌, inl, inr, ◌==◌, ◌+◌, ◌-◌, ◌<◌, ℕ, suc, List, [], ◌∷◌, ◌++◌, length, take, drop, get_or, All, true, false, Bool, arith, refl, sym, ap, ◌∙◌, subst, cond, Option, None, Some, IfSome, length-append, length-drop, append_assoc, take-append-drop, drop-cons, eqb-true}
use Rattle.std.proofs.Math.Seq.{take-append_seam}
use Rattle.std.proofs.lemmas.List.{nil_from_length}
use Rattle.std.proofs.lemmas.List.Elements.{All-append, All-cons, All-nil}
use Rattle.std.proofs.KnownBytes.{Consumes-trans}
use Rattle.std.specs.Io.{StopsAt, appended_bytes}
use Rattle.std.specs.Io.KnownBytes.{Consumes, IsAtEnd}
use Rattle.std.specs.Io.BufRead.{take_through, drop_through, DropsThrough}
use Rattle.program_serve.specs.Requests.{AsksFor}
use Rattle.program_serve.specs.Serving.{IsSpent, Pauses, Hears, IsReadTo, HearsAsked}
use Rattle.program_serve.specs.declared.asked.Request.{Request}
use Rattle.program_serve.specs.declared.asked.Asked.{Asked}
use Rattle.program_serve.specs.declared.asked.Asked.TheVariants as asks
use Rattle.program_serve.specs.declared.heard.Pause.TheVariants as pauses
use Rattle.program_serve.specs.declared.heard.Heard.{Heard}
use Rattle.program_serve.specs.declared.heard.Heard.TheVariants as heards

-- ---- lines

-- if no line feed ends what was read, nothing is left
spent_line : (xs : List ℕ) → ((front : List ℕ) → take_through 10 xs ≢ front ++ 10 ∷ []) → drop_through 10 xs ≡ []
spent_line [] none = refl
spent_line (x ∷ xs) none = by_test (x == 10) refl (spent_line xs)
  where
    by_test : (b : Bool) → (x == 10) ≡ b → (((front : List ℕ) → take_through 10 xs ≢ front ++ 10 ∷ []) → drop_through 10 xs ≡ []) → drop_through 10 (x ∷ xs) ≡ []
    by_test true e next = absurd (none [] (ap (λ (t : Bool). cond t (x ∷ []) (x ∷ take_through 10 xs)) e ∙ ap (λ (n : ℕ). n ∷ []) (eqb-true x 10 e)))
    by_test false e next = ap (λ (t : Bool). cond t xs (drop_through 10 xs)) e
        ∙ next (λ front k. none (x ∷ front) (ap (λ (t : Bool). cond t (x ∷ []) (x ∷ take_through 10 xs)) e ∙ ap (λ (l : List ℕ). x ∷ l) k))

spent_to : (before after : Option (List ℕ)) (line : List ℕ) → IfSome before (λ xs. line ≡ take_through 10 xs) → DropsThrough before after 10 → ((front : List ℕ) → line ≢ front ++ 10 ∷ []) → IsSpent before after
spent_to None after line read rest none = tt
spent_to (Some xs) after line read rest none = subst IsAtEnd (sym rest) (spent_line xs (λ front e. none front (read ∙ e)))

pub read_to : (before after : Option (List ℕ)) (old line : List ℕ) (n : ℕ) → old ≡ [] → length line ≡ length old + n → StopsAt (appended_bytes old line) 10 → IfSome before (λ xs. line ≡ old ++ take_through 10 xs)
    → DropsThrough before after 10 → (n ≡ 0 → IsAtEnd before) → Consumes before after (appended_bytes old line) → IsReadTo line before after
read_to before after old line n empty count stops read rest end taken =
    let same : appended_bytes old line ≡ line = ap (λ (o : List ℕ). drop (length o) line) empty in
    let none : length old ≡ 0 = ap length empty in
    record {
      taken = subst (λ (s : List ℕ). Consumes before after s) same taken;
      stops = subst (λ (s : List ℕ). StopsAt s 10) same stops;
      none = λ e. let nothing : length line ≡ 0 = ap length e in end (omega (arith, count, none, nothing));
      last = spent_to before after line (subst (λ (o : List ℕ). IfSome before (λ xs. line ≡ o ++ take_through 10 xs)) empty read) rest;
    }

pub whole_line : (raw line : List ℕ) → raw ≡ line ++ 10 ∷ [] → StopsAt raw 10 → All (λ b. b ≢ 10) line
whole_line raw line is stops =
    let long : length (line ++ 10 ∷ []) - 1 ≡ length line = omega (arith, length-append line (10 ∷ [])) in
    subst (All (λ b. b ≢ 10)) (ap (λ (r : List ℕ). take (length r - 1) r) is ∙ ap (λ (n : ℕ). take n (line ++ 10 ∷ [])) long ∙ take-append_seam line (10 ∷ [])) stops

-- what was read has no line feed if none ends it
pub cut_line : (raw : List ℕ) → 0 < length raw → ((front : List ℕ) → raw ≢ front ++ 10 ∷ []) → StopsAt raw 10 → All (λ b. b ≢ 10) raw
cut_line raw some none stops =
    let at = length raw - 1 in
    let within : at < length raw = omega (arith, some) in
    let tail : drop (suc at) raw ≡ [] = nil_from_length (drop (suc at) raw) (omega (arith, some, length-drop (suc at) raw)) in
    let is : raw ≡ take at raw ++ get_or raw at 0 ∷ [] = sym (take-append-drop at raw) ∙ ap (λ (s : List ℕ). take at raw ++ s) (drop-cons raw at 0 within ∙ ap (λ (s : List ℕ). get_or raw at 0 ∷ s) tail) in
    subst (All (λ b. b ≢ 10)) (sym is) (All-append (λ b. b ≢ 10) (take at raw) (get_or raw at 0 ∷ []) stops
    (All-cons (λ b. b ≢ 10) (get_or raw at 0) [] (λ e. none (take at raw) (is ∙ ap (λ (b : ℕ). take at raw ++ b ∷ []) e)) (All-nil (λ b. b ≢ 10))))

-- ---- blocks

-- an input that is at its end after some bytes were taken is at its end
pub spent_after : (before mid after : Option (List ℕ)) (bs : List ℕ) → Consumes before mid bs → IsSpent mid after → IsSpent before after
spent_after None mid after bs taken spent = tt
spent_after (Some xs) None after bs taken spent = absurd taken
spent_after (Some xs) (Some ys) after bs taken spent = spent

-- ---- requests

module _ (before mid after : Option (List ℕ)) (raw line : List ℕ) (is : raw ≡ line ++ 10 ∷ []) (read : IsReadTo raw before mid) where
  joined : (block : List ℕ) → raw ++ block ≡ line ++ (10 ∷ block)
  joined block = ap (λ (r : List ℕ). r ++ block) is ∙ append_assoc line (10 ∷ []) block

  pub hears : (asked : Asked) (heard : Heard) (block : List ℕ) → AsksFor line asked → HearsAsked asked heard block mid after → Hears heard block before after
  hears (asks.Do r) (heards.Request q) block asking h = (
    raw ++ block,
    record {
      line = line;
      one_line = whole_line raw line is read.stops;
      is = joined block;
      asks_for = subst (λ (s : Request). AsksFor line (asks.Do s)) (sym h.0) asking;
      whole = h.1;
    },
    Consumes-trans before mid after raw block read.taken h.2,
  )
  hears (asks.Do r) (heards.Pause pauses.Cut) block asking h = (
    raw ++ block,
    inr (line, block, r, joined block, whole_line raw line is read.stops, asking, h.0),
    Consumes-trans before mid after raw block read.taken h.1,
    spent_after before mid after raw read.taken h.2,
  )
  hears (asks.Import p) (heards.Pause (pauses.Import path)) block asking h = (raw, line, asks.Import p, (is, whole_line raw line is read.stops), asking, h.0, subst (λ (k : Option (List ℕ)). Consumes before k raw) (sym h.1) read.taken)
  hears (asks.Export p) (heards.Pause (pauses.Export path)) block asking h = (raw, line, asks.Export p, (is, whole_line raw line is read.stops), asking, h.0, subst (λ (k : Option (List ℕ)). Consumes before k raw) (sym h.1) read.taken)
  hears (asks.Do r) (heards.Pause pauses.End) block asking h = absurd h
  hears (asks.Do r) (heards.Pause pauses.Bad) block asking h = absurd h
  hears (asks.Do r) (heards.Pause (pauses.Import path)) block asking h = absurd h.0
  hears (asks.Do r) (heards.Pause (pauses.Export path)) block asking h = absurd h.0
  hears (asks.Import p) (heards.Request q) block asking h = absurd h
  hears (asks.Import p) (heards.Pause pauses.End) block asking h = absurd h
  hears (asks.Import p) (heards.Pause pauses.Cut) block asking h = absurd h
  hears (asks.Import p) (heards.Pause pauses.Bad) block asking h = absurd h
  hears (asks.Import p) (heards.Pause (pauses.Export path)) block asking h = absurd h.0
  hears (asks.Export p) (heards.Request q) block asking h = absurd h
  hears (asks.Export p) (heards.Pause pauses.End) block asking h = absurd h
  hears (asks.Export p) (heards.Pause pauses.Cut) block asking h = absurd h
  hears (asks.Export p) (heards.Pause pauses.Bad) block asking h = absurd h
  hears (asks.Export p) (heards.Pause (pauses.Import path)) block asking h = absurd h.0

-- the input ended within a line
pub cut : (before after : Option (List ℕ)) (raw shown : List ℕ) → shown ≡ raw → 0 < length raw → ((line : List ℕ) → shown ≢ line ++ 10 ∷ []) → IsReadTo raw before after → Pauses pauses.Cut before after
cut before after raw shown same some none read =
    let unended : (line : List ℕ) → raw ≢ line ++ 10 ∷ [] = λ line e. none line (same ∙ e) in (
      raw,
      inl ((λ e. let zero_long : length raw ≡ 0 = ap length e in omega (arith, some, zero_long)), cut_line raw some unended read.stops),
      read.taken,
      read.last unended,
    )

-- a line makes no request
pub bad : (before after : Option (List ℕ)) (raw shown line : List ℕ) → shown ≡ raw → shown ≡ line ++ 10 ∷ [] → ((asked : Asked) → ¬ AsksFor line asked) → IsReadTo raw before after → Pauses pauses.Bad before after
bad before after raw shown line same is none read =
    let whole : raw ≡ line ++ 10 ∷ [] = sym same ∙ is in
    (raw, line, (whole, whole_line raw line whole read.stops), none, read.taken)
