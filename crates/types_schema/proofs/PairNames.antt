-- What follows from the result of `of_name`.
use Rattle.std.proofs.Common.{◌≡◌, Bool, true, false, None, Some, if◌then◌else◌, rules}

-- a value that was taken under a test is the value, and the test held
pub taken_under : {A : Type 0} (b : Bool) (v x : A) → (if b then Some v else None) ≡ Some x → (b ≡ true) × (v ≡ x)
taken_under true v x e = search rules
taken_under false v x e = search rules
