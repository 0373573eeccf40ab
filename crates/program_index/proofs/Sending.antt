-- Texts that are written, one after the other.
use Rattle.std.proofs.Common.{◌≡◌, ℕ, ◌-◌, ◌≤◌, List, [], ◌++◌, length, take, drop, Bool, true, Option, None, Some, IfSome, Result, Ok, Err, IfOk, OnOk, IsErrAnd, inl, inr, sym, ap, ◌∙◌, subst, refl, append-nil, append_assoc, arith}
use Rattle.std.proofs.lemmas.List.{length-take}
use Rattle.std.proofs.Math.Seq.{take-length}
use Rattle.files_car.specs.Car.{Section, car_bytes}
use Rattle.files_car.specs.Versions.{begin_of, length_of, IsFile}
use Rattle.files_index.specs.Index.{index_bytes}
use Rattle.program_parts.specs.Lines.{SaysBoth}
use Rattle.program_shared.specs.declared.fault.ToolError.{ToolError}
use Rattle.program_index.specs.Layouts.{BeginsAt}
use Rattle.program_index.specs.Indexed.{version_2_header, indexed_bytes, IsIndexed, SaysSome}
use Rattle.program_index.specs.Steps.{IsGathered, ArePartsOf, SendsFile}
use Rattle.program_index.specs.declared.gather.Gathered.{Gathered}
use Rattle.program_index.specs.declared.index.Parts.{Parts}
use Rattle.std.proofs.KnownBytes.{Appends-nil, Appends-trans}
use Rattle.program_shared.specs.Writing.{WritesFront}

pub err_ok : {A E : Type 0} (Q : Type 0) (P : E → Type 0) (r : Result A E) → IsErrAnd r P → OnOk r Q
err_ok Q P (Ok a) h = absurd h
err_ok Q P (Err e) h = tt

-- nothing was written
pub front_none : (A E : Type 0) (old : Option (List ℕ)) (e : E) (x : List ℕ) → WritesFront {A = A} {E = E} old old (Err e) x
front_none A E old e x = ([], x, refl, Appends-nil old, tt)

-- the first was not written whole
pub stopped : {A B E : Type 0} (P : E → Type 0) (old new : Option (List ℕ)) (x y : List ℕ) (r : Result A E) (s : Result B E) → IsErrAnd s P → WritesFront old new r x → WritesFront old new s (x ++ y)
stopped P old new x y r s err h = (h.0, h.1 ++ y, ap (λ l. l ++ y) h.2 ∙ append_assoc h.0 h.1 y, h.3, err_ok (h.1 ++ y ≡ []) P s err)

-- the first was written, and then the second, or a prefix of it
pub then_all : {A B E : Type 0} (old mid new : Option (List ℕ)) (x y : List ℕ) (r : Result A E) (a : A) (s : Result B E) → r ≡ Ok a → WritesFront old mid r x → WritesFront mid new s y → WritesFront old new s (x ++ y)
then_all old mid new x y r a s is h k =
    let none : h.1 ≡ [] = subst (λ v. OnOk v (h.1 ≡ [])) is h.4 in
    let whole : x ≡ h.0 = h.2 ∙ (ap (λ l. h.0 ++ l) none ∙ append-nil h.0) in
    (h.0 ++ k.0, k.1, ap (λ l. l ++ y) whole ∙ (ap (λ l. h.0 ++ l) k.2 ∙ sym (append_assoc h.0 k.0 k.1)), Appends-trans old mid new h.0 k.0 h.3 k.3, k.4)

-- an answer that never fails by its source is one that may
pub both_some : (P : Bool → List ℕ → List ℕ → Type 0) (old heard : Option (List ℕ)) (r : Result Bool ToolError) (new after : Option (List ℕ)) → SaysBoth P old heard r new after → SaysSome P old heard r new after
both_some P old heard (Ok w) new after k = k
both_some P old heard (Err e) new after (inl none) = inl none
both_some P old heard (Err e) new after (inr k) = inr (k.0, k.1, k.2, k.3, k.4, k.5, k.7, k.8)

-- the offset of the CARv1 payload
data_there : (b : List ℕ) (place n : ℕ) (roots : List (List ℕ)) (sections : List Section) → BeginsAt b place → IsFile b roots sections → n ≡ length (car_bytes roots sections) → take n (drop place b) ≡ car_bytes roots sections
data_there b place n roots sections begins (car, inl h, is) long =
    let same : b ≡ car_bytes roots sections = sym h.1 ∙ is.is in
    ap (λ p. take n (drop p b)) (begins.whole h.0) ∙ (ap (λ m. take m b) (long ∙ ap length (sym same)) ∙ (take-length b ∙ same))
data_there b place n roots sections begins (car, inr h, is) long =
    let part : length car ≡ length (take (length_of b) (drop (begin_of b) b)) = ap length h.1 in
    let whole : length car ≡ length (car_bytes roots sections) = ap length is.is in
    let short : length car ≤ length_of b = omega (arith, part, length-take (length_of b) (drop (begin_of b) b)) in
    let missing : 0 ≡ length_of b - length car = h.2 in
    let all : n ≡ length_of b = omega (arith, long, whole, missing, short) in
    ap (λ p. take n (drop p b)) (begins.within h.0) ∙ (ap (λ m. take m (drop (begin_of b) b)) all ∙ (sym h.1 ∙ is.is))

-- the three parts were written, or a prefix of them was
pub sent_so : {A : Type 0} (b : List ℕ) (found : Gathered) (parts : Parts) (old new : Option (List ℕ)) (r : Result A ToolError) (s : Result Bool ToolError) (before following : List ℕ) → before ≡ parts.before.items → following ≡ parts.following.items → ArePartsOf b found parts → WritesFront old new r (before ++ (take found.length (drop parts.begin b) ++ following)) → ((Q : Type 0) → OnOk r Q → OnOk s Q) → IfOk s (λ w. w ≡ true) → SendsFile found b old s new
sent_so b found parts old new r s before following first last are h so well = λ gathered.
    let car = car_bytes gathered.roots gathered.sections in
    let one : before ≡ version_2_header (length car) = first ∙ (are.before ∙ ap version_2_header gathered.length) in
    let two : take found.length (drop parts.begin b) ≡ car = data_there b parts.begin found.length gathered.roots gathered.sections are.begin gathered.file gathered.length in
    let three : following ≡ index_bytes found.entries.items = last ∙ are.following in
    let text : before ++ (take found.length (drop parts.begin b) ++ following) ≡ indexed_bytes car (index_bytes found.entries.items) =
    ap (λ l. l ++ (take found.length (drop parts.begin b) ++ following)) one ∙ (ap (λ l. version_2_header (length car) ++ (l ++ following)) two ∙ ap (λ l. version_2_header (length car) ++ (car ++ l)) three) in
    (gathered.roots, gathered.sections, found.entries.items, gathered.file, gathered.entries, well, (h.0, h.1, sym text ∙ h.2, h.3, so (h.1 ≡ []) h.4))

pub said_some : (b : List ℕ) (found : Gathered) (old heard new : Option (List ℕ)) (r : Result Bool ToolError) → IsGathered b found → SendsFile found b old r new → SaysSome (IsIndexed b) old heard r new heard
said_some b found old heard new (Ok w) gathered h =
    let k = h gathered in
    let out : k.6.0 ≡ indexed_bytes (car_bytes k.0 k.1) (index_bytes k.2) = sym (append-nil k.6.0) ∙ (ap (λ l. k.6.0 ++ l) (sym k.6.4) ∙ sym k.6.2) in
    (k.6.0, [], inl (k.0, k.1, k.2, k.3, k.4, out, k.5, refl), k.6.3, Appends-nil heard)
said_some b found old heard new (Err e) gathered h =
    let k = h gathered in
    inr (true, k.6.0, k.6.1, [], [], inl (k.0, k.1, k.2, k.3, k.4, sym k.6.2, refl, refl), k.6.3, Appends-nil heard)

-- what is known from two facts
pub both_known : {P Q R : List ℕ → Type 0} (known : Option (List ℕ)) → IfSome known P → IfSome known Q → ((b : List ℕ) → P b → Q b → R b) → IfSome known R
both_known None h k f = tt
both_known (Some b) h k f = f b h k
