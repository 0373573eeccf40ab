-- Bytes that are copied, one piece after the other.
use Rattle.std.proofs.Common.{◌≡◌, ℕ, ◌+◌, ◌-◌, ◌≤◌, List, [], ◌++◌, take, drop, Option, None, Some, IfSome, Result, Ok, OnOk, IsErrAnd, sym, ap, ◌∙◌, subst, append-nil, append_assoc, arith, refl}
use Rattle.std.proofs.lemmas.List.{drop-drop}
use Rattle.std.proofs.Math.Seq.{take-add}
use Rattle.std.specs.Io.KnownBytes.{Appends}
use Rattle.std.proofs.KnownBytes.{Appends-trans}
use Rattle.program_shared.specs.Writing.{WritesFront}
use Rattle.program_index.proofs.Sending.{err_ok, stopped}

-- what was copied of known bytes
abbrev pub Copied : Option (List ℕ) → ℕ → ℕ → Option (List ℕ) → Option (List ℕ) → Type 0
Copied known begin done old new = IfSome known (λ b. Appends old new (take done (drop begin b)))

-- the bytes up to one place, and those between there and another
parted : (b : List ℕ) (begin done n : ℕ) → take (done + n) (drop begin b) ≡ take done (drop begin b) ++ take n (drop (begin + done) b)
parted b begin done n = take-add done n (drop begin b) ∙ ap (λ l. take done (drop begin b) ++ take n l) (drop-drop done begin b)

-- one more piece
pub copied_more : {A E : Type 0} (known old mid new : Option (List ℕ)) (begin done n : ℕ) (r : Result A E) (a : A) → r ≡ Ok a → Copied known begin done old mid → IfSome known (λ b. WritesFront mid new r (take n (drop (begin + done) b))) → Copied known begin (done + n) old new
copied_more None old mid new begin done n r a is h k = tt
copied_more (Some b) old mid new begin done n r a is h k =
    let none : k.1 ≡ [] = subst (λ v. OnOk v (k.1 ≡ [])) is k.4 in
    let whole : k.0 ≡ take n (drop (begin + done) b) = sym (append-nil k.0) ∙ (ap (λ l. k.0 ++ l) (sym none) ∙ sym k.2) in
    subst (Appends old new) (ap (λ l. take done (drop begin b) ++ l) whole ∙ sym (parted b begin done n)) (Appends-trans old mid new (take done (drop begin b)) k.0 h k.3)

-- a piece was not written whole
pub copied_stopped : {A B E : Type 0} (P : E → Type 0) (known old mid new : Option (List ℕ)) (begin done n count : ℕ) (r : Result A E) (s : Result B E) → IsErrAnd s P → done + n ≤ count → Copied known begin done old mid → IfSome known (λ b. WritesFront mid new r (take n (drop (begin + done) b))) → IfSome known (λ b. WritesFront old new s (take count (drop begin b)))
copied_stopped P None old mid new begin done n count r s err within h k = tt
copied_stopped {A} {B} {E} P (Some b) old mid new begin done n count r s err within h k =
    let first : WritesFront {A = B} {E = E} old new s ((take done (drop begin b) ++ take n (drop (begin + done) b)) ++ take (count - (done + n)) (drop (begin + (done + n)) b)) =
    stopped P old new (take done (drop begin b) ++ take n (drop (begin + done) b)) (take (count - (done + n)) (drop (begin + (done + n)) b)) s s err
    (take done (drop begin b) ++ k.0, k.1, ap (λ l. take done (drop begin b) ++ l) k.2 ∙ sym (append_assoc (take done (drop begin b)) k.0 k.1), Appends-trans old mid new (take done (drop begin b)) k.0 h k.3, err_ok (k.1 ≡ []) P s err) in
    let sum : (done + n) + (count - (done + n)) ≡ count = omega arith in
    subst (WritesFront old new s) (ap (λ l. l ++ take (count - (done + n)) (drop (begin + (done + n)) b)) (sym (parted b begin done n)) ∙ (sym (parted b begin (done + n) (count - (done + n))) ∙ ap (λ m. take m (drop begin b)) sum)) first

-- all was
pub copied_all : (A E : Type 0) (a : A) (known old new : Option (List ℕ)) (begin done count : ℕ) → done ≡ count → Copied known begin done old new → IfSome known (λ b. WritesFront {A = A} {E = E} old new (Ok a) (take count (drop begin b)))
copied_all A E a None old new begin done count is h = tt
copied_all A E a (Some b) old new begin done count is h = (take done (drop begin b), [], ap (λ n. take n (drop begin b)) (sym is) ∙ sym (append-nil (take done (drop begin b))), h, refl)
