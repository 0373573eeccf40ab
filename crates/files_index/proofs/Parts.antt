-- Parts of an index that are taken, one after the other.
use Rattle.std.proofs.Common.{◌≡◌, ℕ, suc, List, [], ◌++◌, Option, None, Some, IfSome, Ok, Err, sym, ap, ◌∙◌, subst, refl, append_assoc, append-nil, true, false, ◌||◌, not, if◌then◌else◌, ◌≤◌, ◌-◌, ◌/◌, ◌%◌, ◌==◌, nat_lt, le-ltb, eq-eqb}
use Rattle.files_index.specs.declared.entries.IndexFault.TheVariants as faults
use Rattle.files_index.specs.Index.{EntryParts}
use Rattle.files_index.specs.Entries.{Part, joined, and_then, times, Lists, Found, keyed, rises, no_last, any_last, is_last, entry, bucket_of, buckets, code_of}
use Rattle.files_index.specs.declared.entries.IndexError.{IndexError}
use Rattle.files_index.specs.declared.entries.IndexError.TheVariants as errors

joined_none : (f : Found) → joined [] f ≡ f
joined_none (Ok t) = refl
joined_none (Err e) = refl

joined_twice : (xs ys : List EntryParts) (f : Found) → joined xs (joined ys f) ≡ joined (xs ++ ys) f
joined_twice xs ys (Ok t) = ap (λ es. Ok (record { entries = es; last = t.last; rest = t.rest })) (sym (append_assoc xs ys t.entries))
joined_twice xs ys (Err e) = refl

-- some parts were taken, and n are left
abbrev pub Mid : Found → Part → ℕ → List EntryParts → List EntryParts → Option ℕ → Option (List ℕ) → Type 0
Mid whole part n old new last left = (rest : List ℕ) × (more : List EntryParts) × (left ≡ Some rest) × (new ≡ old ++ more) × (whole ≡ joined more (times n part last rest))

-- some parts were taken, and n are left, if the bytes are known
abbrev pub Going : Part → ℕ → ℕ → Option (List ℕ) → List EntryParts → List EntryParts → Option ℕ → Option (List ℕ) → Type 0
Going part count n known old new last left = IfSome known (λ b. Mid (times count part None b) part n old new last left)

pub going_none : (part : Part) (count n : ℕ) (known : Option (List ℕ)) (es : List EntryParts) → n ≡ count → Going part count n known es es None known
going_none part count n None es is = tt
going_none part count n (Some b) es is = (b, [], refl, sym (append-nil es), sym (joined_none (times n part None b) ∙ ap (λ m. times m part None b) is))

pub going_more : {A : Type 0} (IsLast : A → Option ℕ → Type 0) (x : A) (part : Part) (count n m : ℕ) (known left after : Option (List ℕ)) (old new newer : List EntryParts) (last next : Option ℕ) → n ≡ suc m
    → ((found : Option ℕ) → IsLast x found → found ≡ next)
    → Going part count n known old new last left → IfSome left (λ b. Lists IsLast (part last b) new (Ok x) newer after) → Going part count m known old newer next after
going_more IsLast x part count n m None left after old new newer last next is so h k = tt
going_more IsLast x part count n m (Some b) left after old new newer last next is so h k =
    let w = subst (λ l. IfSome l (λ c. Lists IsLast (part last c) new (Ok x) newer after)) h.2 k in
    let t = w.0 in
    let whole : times count part None b ≡ joined h.1 (and_then (part last h.0) (times m part)) = h.4 ∙ ap (λ i. joined h.1 (times i part last h.0)) is in
    let one : joined h.1 (and_then (part last h.0) (times m part)) ≡ joined (h.1 ++ t.entries) (times m part t.last t.rest) = ap (λ f. joined h.1 (and_then f (times m part))) w.1 ∙ joined_twice h.1 t.entries (times m part t.last t.rest) in
    (t.rest, h.1 ++ t.entries, w.3, w.2 ∙ ap (λ l. l ++ t.entries) h.3 ∙ append_assoc old h.1 t.entries, whole ∙ one ∙ ap (λ l. joined (h.1 ++ t.entries) (times m part l t.rest)) (so t.last w.4))

pub going_stopped : {A B : Type 0} (IsLast : A → Option ℕ → Type 0) (Last : B → Option ℕ → Type 0) (e : IndexError) (part : Part) (count n m : ℕ) (known left after : Option (List ℕ)) (old new newer : List EntryParts) (last : Option ℕ) → n ≡ suc m
    → Going part count n known old new last left → IfSome left (λ b. Lists IsLast (part last b) new (Err e) newer after) → IfSome known (λ b. Lists Last (times count part None b) old (Err e) newer after)
going_stopped IsLast Last e part count n m None left after old new newer last is h k = tt
going_stopped IsLast Last (errors.Fault e) part count n m (Some b) left after old new newer last is h k =
    let w = subst (λ l. IfSome l (λ c. Lists IsLast (part last c) new (Err (errors.Fault e)) newer after)) h.2 k in
    h.4 ∙ ap (λ i. joined h.1 (times i part last h.0)) is ∙ ap (λ f. joined h.1 (and_then f (times m part))) w
going_stopped IsLast Last errors.Read part count n m (Some b) left after old new newer last is h k = tt
going_stopped IsLast Last errors.OutOfMemory part count n m (Some b) left after old new newer last is h k = tt

pub going_all : {A : Type 0} (Last : A → Option ℕ → Type 0) (x : A) (part : Part) (count n : ℕ) (known left : Option (List ℕ)) (old new : List EntryParts) (last : Option ℕ) → n ≡ 0 → Last x last
    → Going part count n known old new last left → IfSome known (λ b. Lists Last (times count part None b) old (Ok x) new left)
going_all Last x part count n None left old new last is so h = tt
going_all Last x part count n (Some b) left old new last is so h =
    (record { entries = h.1 ++ []; last = last; rest = h.0 }, h.4 ∙ ap (λ i. joined h.1 (times i part last h.0)) is, h.3 ∙ ap (λ l. old ++ l) (sym (append-nil h.1)), h.2, so)

-- the parts that were taken have this hash code or width
pub keyed_taken : {A : Type 0} (Last : A → Option ℕ → Type 0) (x : A) (key : ℕ) (f whole : Found) (old new : List EntryParts) (left : Option (List ℕ)) → whole ≡ keyed key f → Lists Last f old (Ok x) new left → Lists is_last whole old (Ok key) new left
keyed_taken Last x key f whole old new left is h =
    let t = h.0 in
    (record { entries = t.entries; last = Some key; rest = t.rest }, is ∙ ap (keyed key) h.1, h.2, h.3, refl)

bucket_is : (code width size : ℕ) (last : Option ℕ) (b : List ℕ) → 8 ≤ width → width ≤ 72 → rises last width ≡ true → size % width ≡ 0 → bucket_of code last width size b ≡ keyed width (times (size / width) (entry code (width - 8)) None b)
bucket_is code width size last b low high up whole =
    let p : nat_lt width 8 ≡ false = le-ltb width 8 low in
    let q : nat_lt 72 width ≡ false = le-ltb 72 width high in
    let s : (size % width == 0) ≡ true = eq-eqb (size % width) 0 whole in
    λ i. if p i || q i then Err faults.Width
    else (if not (up i) then Err faults.Order
    else (if not (s i) then Err faults.Length
    else keyed width (times (size / width) (entry code (width - 8)) None b)))

pub bucket_taken : {A : Type 0} (x : A) (code width size : ℕ) (last : Option ℕ) (known left : Option (List ℕ)) (old new : List EntryParts) → 8 ≤ width → width ≤ 72 → rises last width ≡ true → size % width ≡ 0
    → IfSome known (λ b. Lists no_last (times (size / width) (entry code (width - 8)) None b) old (Ok x) new left) → IfSome known (λ b. Lists is_last (bucket_of code last width size b) old (Ok width) new left)
bucket_taken x code width size last None left old new low high up whole h = tt
bucket_taken x code width size last (Some b) left old new low high up whole h =
    keyed_taken no_last x width (times (size / width) (entry code (width - 8)) None b) (bucket_of code last width size b) old new left (bucket_is code width size last b low high up whole) h

pub code_taken : {A : Type 0} (x : A) (code : ℕ) (last : Option ℕ) (known left : Option (List ℕ)) (old new : List EntryParts) → rises last code ≡ true
    → IfSome known (λ b. Lists any_last (buckets code b) old (Ok x) new left) → IfSome known (λ b. Lists is_last (code_of last code b) old (Ok code) new left)
code_taken x code last None left old new up h = tt
code_taken x code last (Some b) left old new up h =
    keyed_taken any_last x code (buckets code b) (code_of last code b) old new left (ap (λ v. if not v then Err faults.Order else keyed code (buckets code b)) up) h
