-- What contracts see of a reader over a buffered source.
use Rattle.std.specs.Prelude.{◌≡◌, ℕ, ◌+◌, ◌/◌, ◌^◌, ◌<◌, ◌≤◌, Bool, ◌&&◌, true, List, [], ◌∷◌, ◌++◌, length, take, drop, IfSome, nat_le, bytes_eq, if◌then◌else◌, Option, None, Some}
use Rattle.dagcbor_core.specs.Head.{head}

-- whether n bytes may be consumed at once; `None` is no limit
abbrev pub may_consume : ℕ → Option ℕ → Bool
may_consume n None = true
may_consume n (Some most) = nat_le n most

-- the bytes of the source after those taken, if they are known, begin with the copies, and the
-- copies may be consumed; else unknown. If the source has other bytes, they do not describe the
-- reader, because it hands out its copies. That happens only if the bytes of the source were not
-- known when they were copied.
abbrev pub bytes_told : List ℕ → ℕ → Option (List ℕ) → Option ℕ → Option (List ℕ)
bytes_told copies taken None most = None
bytes_told copies taken (Some b) most = if bytes_eq (take (length copies) b) copies && may_consume (length copies) most then Some (drop taken b) else None

-- the copies that a window has of its source's first bytes, how many of these were taken, what it
-- shows after them, how often its source faulted, and how many bytes were looked at
pub record Windowed : Type 0 where
  pub copies : List ℕ
  pub taken : ℕ
  pub shown : List ℕ
  pub faults : ℕ
  pub looked : ℕ

-- known bytes are kept, and begin with what is shown, which is empty only at the end or if `want`
-- is 0
pub record Refills (old new : Option (List ℕ)) (want : ℕ) (shown : List ℕ) : Type 0 where
  pub kept : IfSome old (λ b. new ≡ Some b)
  pub begins : IfSome new (λ b. take (length shown) b ≡ shown)
  pub end : IfSome old (λ b. 0 < want → length shown ≡ 0 → b ≡ [])

-- the bytes begin with a head that has `count` bytes, the first of which is `first`
pub record BeginsWithHeadOf (b : List ℕ) (major argument first count : ℕ) : Type 0 where
  pub major_fits : major < 8
  pub argument_fits : argument < 2 ^ 64
  pub major_of_first : first / 32 ≡ major
  pub counted : count ≡ length (head major argument)
  pub short : count ≤ 9
  pub rest : List ℕ
  pub is : b ≡ head major argument ++ rest
  pub more : List ℕ
  pub starts : b ≡ first ∷ more

-- a head was taken, all of which had been copied
pub record TakesHeadOf (old : Windowed) (major argument first : ℕ) (new : Windowed) : Type 0 where
  pub count : ℕ
  pub found : BeginsWithHeadOf (drop old.taken old.copies) major argument first count
  pub is : new ≡ record {
    copies = old.copies;
    taken = old.taken + count;
    shown = [];
    faults = old.faults;
    looked = old.looked + count;
  }
