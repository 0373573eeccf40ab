-- A section that an index leads to.
use Rattle.std.proofs.Common.{◌≡◌, ℕ, ◌+◌, ◌-◌, ◌^◌, ◌<◌, ◌≤◌, min, List, [], ◌++◌, length, take, drop, Option, None, Some, IfSome, Result, Ok, Err, IfOk, Vec, Global, sym, ap, ◌∙◌, subst, inl, inr, arith, length-append}
use Rattle.std.proofs.lemmas.Bool.{cases_lt}
use Rattle.std.proofs.lemmas.List.{drop_all}
use Rattle.std.proofs.Math.Seq.{take-append-add}
use Rattle.ipld_tree.specs.Cid.{CidParts, AreCidParts}
use Rattle.ipld_links.specs.Verdicts.{IsVerified}
use Rattle.dagcbor_heads.specs.Reading.{Reading}
use Rattle.files_car.specs.Car.{Section, section_bytes}
use Rattle.files_car.specs.Versions.{length_of}
use Rattle.files_car.specs.Sources.{CarRefuses, RefusesNext, TakesSectionBytes}
use Rattle.files_car.specs.declared.error.CarError.{CarError}
use Rattle.files_car.specs.declared.error.CarError.TheVariants as faults
use Rattle.files_car.proofs.Cars.{section_unique, section_some}
use Rattle.program_parts.specs.Taking.{IsOfBytes}
use Rattle.program_shared.specs.declared.fault.ToolError.{ToolError}
use Rattle.std.specs.Int.{w64}
use Rattle.files_index.specs.Places.{number_in}
use Rattle.files_index.specs.Lookup.{find_bucket, entry_place, IsFirst, IsEntryOf, FindsOffset}
use Rattle.files_index.specs.declared.find.Bucket.{Bucket}
use Rattle.files_index.proofs.Leading.{leads}
use Rattle.program_index.specs.Indexed.{entry_of}
use Rattle.program_index.specs.Layouts.{IsLayout}
use Rattle.program_index.specs.Finds.{BeginsSought, IsListed, GivesWhere, IsSoughtAt, LeadsAt, LeadsIn, LeadsBy}
use Rattle.program_index.specs.declared.layout.Layout.{Layout}

-- a block is returned if a weaker condition holds
pub gives_map : {P Q : Type 0} (r : Result (Option (Vec ℕ Global)) ToolError) → GivesWhere P r → (Q → P) → GivesWhere Q r
gives_map (Ok None) h f = λ q. h (f q)
gives_map (Ok (Some v)) h f = tt
gives_map (Err e) h f = tt

-- the section at the start is the one looked for
pub sought_taken : (name : CidParts) (n : ℕ) (extent rest : Option ℕ) (old new : Reading) (s : Section) (b : List ℕ) → TakesSectionBytes extent old s rest new → old.left ≡ Some b → BeginsSought name n b → (s.0 ≡ name) × IsVerified s
sought_taken name n extent rest old new s b t l h =
    let k = t.1.takes.taken b l in
    let same : s ≡ (name, h.block) = (section_unique s (name, h.block) k.0 h.rest t.0 h.section (sym k.1 ∙ h.is)).0 in
    (ap (λ (x : Section). x.0) same, subst IsVerified (sym same) h.verified)

stands_then : {E : Type 0} (stands : CarError E → List ℕ → Type 0) (old new : Reading) (e : CarError E) (b : List ℕ) → IsOfBytes e → CarRefuses stands old e new → old.left ≡ Some b → stands e b
stands_then stands old new (faults.Read f) b is r l = absurd is
stands_then stands old new faults.OutOfMemory b is r l = absurd is
stands_then stands old new _ b is r l = r.1 b l

-- it is not refused
pub sought_refused : {E : Type 0} (name : CidParts) (n : ℕ) (old new : Reading) (e : CarError E) (b : List ℕ) → IsOfBytes e → CarRefuses (RefusesNext (Some n)) old e new → old.left ≡ Some b → BeginsSought name n b → ⊥
sought_refused {E} name n old new e b is r l h =
    let none = stands_then (RefusesNext (Some n)) old new e b is r l in
    let whole : length (section_bytes (name, h.block)) + (n - length (section_bytes (name, h.block))) ≡ n = omega (arith, h.within) in
    none.1 (name, h.block) (take (n - length (section_bytes (name, h.block))) h.rest)
    (h.section, ap (take n) h.is ∙ (ap (λ m. take m (section_bytes (name, h.block) ++ h.rest)) (sym whole) ∙ take-append-add (section_bytes (name, h.block)) h.rest (n - length (section_bytes (name, h.block)))))

-- no section looked for comes after all bytes
pub sought_far : (name : CidParts) (layout : Layout) (offset : ℕ) (b : List ℕ) → length b < 2 ^ 64 → 2 ^ 64 ≤ layout.begin + offset → IsSoughtAt name layout offset b → ⊥
sought_far name layout offset b below far h =
    let none : drop (layout.begin + offset) b ≡ [] = drop_all (layout.begin + offset) b (omega arith) in
    let same : length (drop (layout.begin + offset) b) ≡ length (section_bytes (name, h.block)) + length h.rest = ap length h.is ∙ length-append (section_bytes (name, h.block)) h.rest in
    absurd (omega (arith, ap length none, same, section_some (name, h.block) h.section))

pub at_least : (m n : ℕ) → (m < n → ⊥) → n ≤ m
at_least m n h = elim (cases_lt m n) [ inl less ↦ absurd (h less) | inr most ↦ most ]

pub sought_section : (name cid : CidParts) (block : List ℕ) (s : Section) → cid ≡ s.0 → block ≡ s.1 → (s.0 ≡ name) × IsVerified s → (cid ≡ name) × IsVerified (cid, block)
sought_section name cid block s p q h = (p ∙ h.0, subst IsVerified (λ i. (sym p i, sym q i)) h.1)

-- ---- for known bytes

pub some_known : {P Q : List ℕ → Type 0} (known : Option (List ℕ)) → IfSome known P → ((b : List ℕ) → P b → Q b) → IfSome known Q
some_known None h f = tt
some_known (Some b) h f = f b h

pub two_known : {P Q R : List ℕ → Type 0} (known : Option (List ℕ)) → IfSome known P → IfSome known Q → ((b : List ℕ) → P b → Q b → R b) → IfSome known R
two_known None h k f = tt
two_known (Some b) h k f = f b h k

pub three_known : {P Q R T : List ℕ → Type 0} (known : Option (List ℕ)) → IfSome known P → IfSome known Q → IfSome known R → ((b : List ℕ) → P b → Q b → R b → T b) → IfSome known T
three_known None h k l f = tt
three_known (Some b) h k l f = f b h k l

pub all_known : {P : List ℕ → Type 0} (known : Option (List ℕ)) → ((b : List ℕ) → P b) → IfSome known P
all_known None f = tt
all_known (Some b) f = f b

pub four_known : {P Q R T U : List ℕ → Type 0} (known : Option (List ℕ)) → IfSome known P → IfSome known Q → IfSome known R → IfSome known T → ((b : List ℕ) → P b → Q b → R b → T b → U b) → IfSome known U
four_known None h k l m f = tt
four_known (Some b) h k l m f = f b h k l m

-- what holds of an answer holds of what it contains
pub found_of : {E : Type 0} (known : Option (List ℕ)) (r : Result (Option ℕ) E) (o p : Option ℕ) (P : List ℕ → List ℕ → Option ℕ → Type 0) (d e : List ℕ) → IfSome known (λ b. length b < 2 ^ 64 → IfOk r (P d b)) → r ≡ Ok o → o ≡ p → d ≡ e → IfSome known (λ b. length b < 2 ^ 64 → P e b p)
found_of {E} None r o p P d e h was is same = tt
found_of {E} (Some b) r o p P d e h was is same = λ below.
    subst (λ x. P x b p) same (subst (P d b) is (subst (λ (x : Result (Option ℕ) E). IfOk x (P d b)) was (h below)))

pub bucket_found : {E : Type 0} (known : Option (List ℕ)) (r : Result (Option Bucket) E) (o p : Option Bucket) (index code hash_code : ℕ) (d e : List ℕ) → IfSome known (λ b. length b < 2 ^ 64 → IfOk r (λ x. x ≡ find_bucket b index code d)) → r ≡ Ok o → o ≡ p → code ≡ hash_code → d ≡ e → IfSome known (λ b. length b < 2 ^ 64 → p ≡ find_bucket b index hash_code e)
bucket_found {E} None r o p index code hash_code d e h was is it same = tt
bucket_found {E} (Some b) r o p index code hash_code d e h was is it same = λ below.
    let k : o ≡ find_bucket b index code d = subst (λ (x : Result (Option Bucket) E). IfOk x (λ x. x ≡ find_bucket b index code d)) was (h below) in
    sym is ∙ (k ∙ (ap (λ n. find_bucket b index n d) it ∙ ap (find_bucket b index hash_code) same))

pub not_led : (name : CidParts) (layout : Layout) (b : List ℕ) → None ≡ find_bucket b layout.index name.hash_code name.digest → LeadsBy name layout b → ⊥
not_led name layout b is h = let clash : None ≡ Some h.0 = is ∙ h.1 in cc clash

pub led_in : (name : CidParts) (layout : Layout) (bucket : Bucket) (b : List ℕ) → Some bucket ≡ find_bucket b layout.index name.hash_code name.digest → LeadsBy name layout b → LeadsIn name layout bucket b
led_in name layout bucket b is h =
    let both : Some h.0 ≡ Some bucket = sym h.1 ∙ sym is in
    let same : h.0 ≡ bucket = cc both in
    subst (λ x. LeadsIn name layout x b) same h.2

-- ---- one entry after the other

-- an entry that leads to a block is not passed over
abbrev pub NotPassed : CidParts → Layout → Bucket → ℕ → ℕ → List ℕ → Type 0
NotPassed name layout bucket first number b = (k : ℕ) → LeadsAt name layout bucket k b → number ≤ first + k

-- the entry of each number up to that
entry_before : (name : CidParts) (layout : Layout) (bucket : Bucket) (first number k : ℕ) (b : List ℕ) → IsFirst b bucket name.digest first → first ≤ number → LeadsAt name layout bucket k b → number ≤ first + k → (offset : ℕ) × IsEntryOf b bucket name.digest number offset
entry_before name layout bucket first number k b f from l up =
    let it = l.leads first f in
    elim (cases_lt number (first + k)) [
      | inl less ↦
          let that = it.3 (number - first) (omega (arith, less, from)) in
          let there : first + (number - first) ≡ number = omega (arith, from) in
          (that.0, subst (λ n. IsEntryOf b bucket name.digest n that.0) there that.1)
      | inr most ↦
          let there : first + k ≡ number = omega (arith, most, up) in
          (it.0, subst (λ n. IsEntryOf b bucket name.digest n it.0) there it.1)
    ]

-- no later entry has the digest
pub no_entry : (name : CidParts) (layout : Layout) (bucket : Bucket) (first number : ℕ) (b : List ℕ) → IsFirst b bucket name.digest first → first ≤ number → NotPassed name layout bucket first number b → FindsOffset bucket name.digest number b None → LeadsIn name layout bucket b → ⊥
no_entry name layout bucket first number b f from up none (k, early, l) =
    let it = entry_before name layout bucket first number k b f from l (up k l) in none l.short it.0 it.1

-- one that does not lead to a block is passed over
pub passed_on : (name : CidParts) (layout : Layout) (bucket : Bucket) (first number offset : ℕ) (b : List ℕ) → IsFirst b bucket name.digest first → NotPassed name layout bucket first number b → IsEntryOf b bucket name.digest number offset → (IsSoughtAt name layout offset b → ⊥) → NotPassed name layout bucket first (number + 1) b
passed_on name layout bucket first number offset b f up e none k l = elim (cases_lt number (first + k)) [
  | inl less ↦ omega (arith, less)
  | inr most ↦
      let it = l.leads first f in
      let there : first + k ≡ number = omega (arith, most, up k l) in
      let same : Some it.0 ≡ Some offset = sym it.1.offset ∙ (ap (λ n. number_in w64 b (entry_place bucket n + length name.digest)) there ∙ e.offset) in
      let one : it.0 ≡ offset = cc same in
      absurd (none (subst (λ o. IsSoughtAt name layout o b) one it.2))
]

-- none of the first 16 leads to a block
pub all_passed : (name : CidParts) (layout : Layout) (bucket : Bucket) (first number : ℕ) (b : List ℕ) → IsFirst b bucket name.digest first → min (first + 16) (2 ^ 64 - 1) ≤ number → NotPassed name layout bucket first number b → LeadsIn name layout bucket b → ⊥
all_passed name layout bucket first number b f far up (k, early, l) = absurd (omega (arith, up k l, early, far, f.within, l.few))

-- ---- the whole

digest_short : (name : CidParts) → AreCidParts name → length name.digest ≤ 64
digest_short name (inl h) = omega (arith, h.3)
digest_short name (inr h) = h.3

-- the index leads to a block that it lists
pub listed_leads : (b : List ℕ) (name : CidParts) (layout : Layout) → IsLayout b layout → IsListed b name → LeadsBy name layout b
listed_leads b name layout is h =
    let k = leads b _ h.entries (entry_of h.offset (name, h.block)) h.before h.index h.entry in (
      k.0,
      ap (λ p. find_bucket b p name.hash_code name.digest) is.index ∙ k.1,
      (
        h.before,
        h.early,
        record {
          whole = k.2;
          few = omega (arith, k.3, h.index.few);
          short = digest_short name h.there.section.0;
          leads = λ n f.
              let it = k.4 n f in (
                h.offset,
                it.0,
                subst (λ n. BeginsSought name (n - h.offset) (drop (layout.begin + h.offset) b)) (sym is.long) (subst (λ p. BeginsSought name (length_of b - h.offset) (drop (p + h.offset) b)) (sym is.begin) h.there),
                it.1,
              );
        },
      ),
    )
