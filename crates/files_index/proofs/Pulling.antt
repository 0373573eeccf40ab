-- Bytes and numbers that are taken, one after the other.
use Rattle.std.proofs.Common.{◌≡◌, ℕ, ◌+◌, ◌-◌, ◌≤◌, List, [], ◌++◌, length, take, drop, Option, None, Some, IfSome, Bool, sym, ap, ◌∙◌, subst, arith, append_assoc, length-append, refl, nat_le, le-leb, Result, Ok, Err, ◌∷◌, if◌then◌else◌}
use Rattle.std.proofs.lemmas.List.{take-append-le, drop-append-le, length-take, length-drop}
use Rattle.std.proofs.Math.Seq.{take-append-add, take-append_seam, drop-append_seam}
use Rattle.std.specs.Io.KnownBytes.{Consumes}
use Rattle.std.specs.Int.{Width, w64, byte_len, from_le_bytes}
use Rattle.files_index.specs.Index.{EntryParts}
use Rattle.files_index.specs.Entries.{Taken, Lists, no_last, entry, entry_in, index_of, index_entries, IsRead}
use Rattle.files_index.specs.declared.entries.IndexFault.TheVariants as faults
use Rattle.files_index.specs.declared.entries.IndexError.{IndexError}
use Rattle.files_index.specs.declared.entries.Listing.{Listing}
use borrow.Rule.Slice.PartMut.{put_mid, post_of}

-- the first `filled` bytes of the buffer were filled
abbrev pub PulledSome : Option (List ℕ) → ℕ → List ℕ → Option (List ℕ) → Type 0
PulledSome known filled room left = IfSome known (λ b. (rest : List ℕ) × (b ≡ take filled room ++ rest) × (left ≡ Some rest))

-- the bytes left of known ones
consumed : (rest bs : List ℕ) (new : Option (List ℕ)) → Consumes (Some rest) new bs → (more : List ℕ) × (rest ≡ bs ++ more) × (new ≡ Some more)
consumed rest bs None h = absurd h
consumed rest bs (Some more) h = (more, h, refl)

pub pulled_more : (known left new : Option (List ℕ)) (filled n k : ℕ) (room sub : List ℕ) → filled ≤ length room → n ≤ length sub → Consumes left new (take n sub) → PulledSome known filled room left → PulledSome known (filled + n) (put_mid filled k room sub) new
pulled_more None left new filled n k room sub within fits took h = tt
pulled_more (Some b) left new filled n k room sub within fits took h =
    let w = consumed h.0 (take n sub) new (subst (λ l. Consumes l new (take n sub)) h.2 took) in
    let long : length (take filled room) + n ≡ filled + n = omega (arith, length-take filled room) in
    let both : take (filled + n) (take filled room ++ (sub ++ post_of filled k room)) ≡ take filled room ++ take n (sub ++ post_of filled k room) =
    ap (λ m. take m (take filled room ++ (sub ++ post_of filled k room))) (sym long) ∙ take-append-add (take filled room) (sub ++ post_of filled k room) n in
    let first : take n (sub ++ post_of filled k room) ≡ take n sub = take-append-le n sub (post_of filled k room) fits in
    (w.0, h.1 ∙ ap (λ l. take filled room ++ l) w.1 ∙ sym (append_assoc (take filled room) (take n sub) w.0) ∙ ap (λ l. l ++ w.0) (sym (both ∙ ap (λ l. take filled room ++ l) first)), w.2)

-- the room holds the first bytes, and the others are left
abbrev pub Pulled : Option (List ℕ) → List ℕ → Option (List ℕ) → Type 0
Pulled known room left = IfSome known (λ b. (rest : List ℕ) × (b ≡ room ++ rest) × (left ≡ Some rest))

-- the first bytes, and those after them
front_of : (n : ℕ) (room rest b : List ℕ) → length room ≡ n → b ≡ room ++ rest → (take n b ≡ room) × (drop n b ≡ rest) × (n ≤ length b)
front_of n room rest b long is = (
  ap (λ m. take m b) (sym long) ∙ ap (take (length room)) is ∙ take-append_seam room rest,
  ap (λ m. drop m b) (sym long) ∙ ap (drop (length room)) is ∙ drop-append_seam room rest,
  omega (arith, long, ap length is, length-append room rest),
)

pub number_taken : (w : Width) (known left : Option (List ℕ)) (room : List ℕ) (n : ℕ) → length room ≡ byte_len w → n ≡ from_le_bytes w room → Pulled known room left → IfSome known (λ b. (nat_le (byte_len w) (length b) ≡ Bool.true) × (n ≡ from_le_bytes w (take (byte_len w) b)) × (left ≡ Some (drop (byte_len w) b)))
number_taken w None left room n long is h = tt
number_taken w (Some b) left room n long is h =
    let f = front_of (byte_len w) room h.0 b long h.1 in
    (le-leb (byte_len w) (length b) f.2, is ∙ ap (from_le_bytes w) (sym f.0), h.2 ∙ ap Some (sym f.1))

pub entry_taken : (known left : Option (List ℕ)) (room : List ℕ) (code width : ℕ) (e : EntryParts) (old new : List EntryParts) → length room ≡ width → 8 ≤ width → e ≡ entry_in code (length room - 8) room → new ≡ old ++ e ∷ [] → Pulled known room left → IfSome known (λ b. Lists {A = Unit {0}} no_last (entry code (width - 8) None b) old (Ok tt) new left)
entry_taken None left room code width e old new long wide is pushed h = tt
entry_taken (Some b) left room code width e old new long wide is pushed h =
    let f = front_of width room h.0 b long h.1 in
    let size : length room - 8 ≡ width - 8 = ap (λ n. n - 8) long in
    let within : width - 8 ≤ length room = omega (arith, long) in
    let all : (width - 8) + 8 ≡ width = omega (arith, wide) in
    let digest : take (width - 8) b ≡ take (width - 8) room = ap (take (width - 8)) h.1 ∙ take-append-le (width - 8) room h.0 within in
    let eight : 8 ≤ length (drop (width - 8) room) = omega (arith, length-drop (width - 8) room, long, wide) in
    let offset : take 8 (drop (width - 8) b) ≡ take 8 (drop (width - 8) room) = ap (λ x. take 8 (drop (width - 8) x)) h.1 ∙ ap (take 8) (drop-append-le (width - 8) room h.0 within) ∙ take-append-le 8 (drop (width - 8) room) h.0 eight in
    let same : e ≡ entry_in code (width - 8) b = is ∙ ap (λ n. entry_in code n room) size ∙ sym (λ i. record { hash_code = code; digest = digest i; offset = from_le_bytes w64 (offset i) }) in
    let there : nat_le ((width - 8) + 8) (length b) ≡ Bool.true = le-leb ((width - 8) + 8) (length b) (omega (arith, all, f.2)) in
    let t : Taken = record { entries = entry_in code (width - 8) b ∷ []; last = None; rest = drop ((width - 8) + 8) b } in
    (t, ap (λ v. if v then Ok t else Err faults.Truncated) there, pushed ∙ ap (λ x. old ++ x ∷ []) same, h.2 ∙ ap Some (sym f.1 ∙ ap (λ n. drop n b) (sym all)), refl)

pub index_taken : (r : Result Listing IndexError) (known left : Option (List ℕ)) (room : List ℕ) → length room ≡ 2 → Pulled known room left → IfSome left (λ b. IsRead (index_of room b) r) → IfSome known (λ b. IsRead (index_entries b) r)
index_taken r None left room long h k = tt
index_taken r (Some b) left room long h k =
    let f = front_of 2 room h.0 b long h.1 in
    let there : nat_le 2 (length b) ≡ Bool.true = le-leb 2 (length b) f.2 in
    let whole : index_entries b ≡ index_of room h.0 = ap (λ v. if v then index_of (take 2 b) (drop 2 b) else Err faults.Truncated) there ∙ ap (λ x. index_of x (drop 2 b)) f.0 ∙ ap (index_of room) f.1 in
    subst (λ x. IsRead x r) (sym whole) (subst (λ l. IfSome l (λ c. IsRead (index_of room c) r)) h.2 k)
