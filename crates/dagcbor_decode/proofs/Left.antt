-- How many bytes are left after what is read in a row.
use Rattle.std.proofs.Common.{◌≡◌, ℕ, ◌-◌, ◌≤◌, List, ◌++◌, length, drop, None, Ok, Err, refl, sym, ap, ap₂, ◌∙◌, subst, arith, length-append}
use Rattle.std.proofs.Math.Seq.{drop-append_seam}
use Rattle.dagcbor_core.specs.Head.{head}
use Rattle.dagcbor_core.specs.Splits.{SplitsHead}
use Rattle.ipld_tree.specs.Spelling.{items_spelling, entries_spelling}
use Rattle.dagcbor_decode.specs.Decode.{Decoded, Why, got, refused, items_of, entries_of, item_of}
use Rattle.dagcbor_decode.specs.Told.{skim, left_of}
use Rattle.dagcbor_decode.proofs.HeadLaws.{AreBytes, bytes_of_rest}
use Rattle.dagcbor_decode.proofs.Sound.{any_got, items_got, entries_got}

pub bytes_after_head : (m n : ℕ) (b c : List ℕ) → SplitsHead b m n c → AreBytes b → AreBytes c
bytes_after_head m n b c h r = bytes_of_rest (head m n) c (subst AreBytes h.2 r)

-- the refusal is kept as it is
pub none_left : {A : Type 0} (q : Decoded A) (w : Why) (k : ℕ) → Err (w, k) ≡ left_of q → refused w k ≡ skim q
none_left (got a rest) w k e = absurd (cc e)
none_left (refused why left) w k e = let p : ◌≡◌ {A = Why × ℕ} (w, k) (why, left) = cc e in ap₂ refused (ap (λ p. p.0) p) (ap (λ p. p.1) p)

pub stops_left : {A : Type 0} (q : Decoded A) (w : Why) (k : ℕ) → skim q ≡ refused w k → Err (w, k) ≡ left_of q
stops_left (got a rest) w k e = absurd (cc e)
stops_left (refused why left) w k e = cc e

-- the last bytes are those that are left
abbrev pub AreLast : {A : Type 0} → List ℕ → ℕ → Decoded A → Type 0
AreLast b left q = (left ≤ length b) × (skim q ≡ got tt (drop (length b - left) b))

last_bytes : (b s rest : List ℕ) (left : ℕ) → b ≡ s ++ rest → left ≡ length rest → (left ≤ length b) × (rest ≡ drop (length b - left) b)
last_bytes b s rest left is e =
    let long : length b ≡ length (s ++ rest) = ap length is in
    let before : length s ≡ length b - left = omega (arith, e, long, length-append s rest) in
    (omega (arith, e, long, length-append s rest), sym (drop-append_seam s rest) ∙ ap (λ x. drop (length s) x) (sym is) ∙ ap (λ n. drop n b) before)

are_last : {A : Type 0} (b : List ℕ) (left : ℕ) (q : Decoded A) → Ok left ≡ left_of q → ((a : A) (rest : List ℕ) → q ≡ got a rest → (s : List ℕ) × (b ≡ s ++ rest)) → AreLast b left q
are_last b left (got a rest) e f =
    let k = f a rest refl in
    let l = last_bytes b k.0 rest left k.1 (cc e) in
    (l.0, ap (got tt) l.1)
are_last b left (refused why n) e f = absurd (cc e)

pub items_left : (steps count left : ℕ) (b : List ℕ) → AreBytes b → Ok left ≡ left_of (items_of (item_of steps) count b) → AreLast b left (items_of (item_of steps) count b)
items_left steps count left b r e = are_last b left (items_of (item_of steps) count b) e (λ us rest is. (items_spelling us, (items_got (item_of steps) steps (any_got steps) count b us rest r is).1.is))

pub entries_left : (steps count left : ℕ) (b : List ℕ) → AreBytes b → Ok left ≡ left_of (entries_of (item_of steps) count None b) → AreLast b left (entries_of (item_of steps) count None b)
entries_left steps count left b r e = are_last b left (entries_of (item_of steps) count None b) e (λ es rest is. (entries_spelling es, (entries_got (item_of steps) steps (any_got steps) count None b es rest r is).1.is))
