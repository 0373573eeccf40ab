-- The shape of a type: what it makes of the data that it is read from.
use Rattle.std.specs.Prelude.{ℕ, zero, suc, ◌+◌, ℤ, pos, negsuc, Bool, true, false, List, [], ◌∷◌, Option, None, Some, option_map, if◌then◌else◌, nat_lt, chars}
use Rattle.ipld_tree.specs.Tree.{Tree, null, boolean, integer, text, bytes, link, any_need}

-- what a type makes of the data that it is read from
pub record Shape (Data V : Type 0) : Type 0 where
  -- the value that the data shows, or `None` if the type does not accept the data
  pub view : Data → Option V
  -- the steps that reading it takes
  pub need : Data → ℕ
  -- whether reading it needs a loan from the input
  pub wants_loan : Bool
  -- whether reading it may take memory, given whether the input lends
  pub memory : Bool → Bool

-- ---- memory

-- never
abbrev pub takes_none : Bool → Bool
takes_none lends = false

-- from any input
abbrev pub takes_some : Bool → Bool
takes_some lends = true

-- only if the input does not lend
abbrev pub unless_lent : Bool → Bool
unless_lent true = false
unless_lent false = true

-- ---- leaves

-- Reading it takes no step and no memory, and needs no loan.
abbrev pub leaf : {V : Type 0} → (Tree → Option V) → Shape Tree V
leaf view = record { view = view; need = λ t. 0; wants_loan = false; memory = takes_none }

-- Reading it takes no step, needs no loan, and takes memory for the value.
abbrev pub owned_leaf : {V : Type 0} → (Tree → Option V) → Shape Tree V
owned_leaf view = record { view = view; need = λ t. 0; wants_loan = false; memory = takes_some }

-- Reading it takes no step, needs no loan, and takes memory only if the input does not lend.
abbrev pub cow_leaf : {V : Type 0} → (Tree → Option V) → Shape Tree V
cow_leaf view = record { view = view; need = λ t. 0; wants_loan = false; memory = unless_lent }

-- Reading it takes no step, needs a loan, and takes memory only if the input does not lend.
abbrev pub lent_leaf : {V : Type 0} → (Tree → Option V) → Shape Tree V
lent_leaf view = record { view = view; need = λ t. 0; wants_loan = true; memory = unless_lent }

-- ---- numbers

-- the number whose head has this major type, 0 or 1, and this argument
abbrev pub number_of : ℕ → ℕ → ℤ
number_of zero n = pos n
number_of (suc kind) n = negsuc n

-- a natural number below the bound
abbrev pub natural_below : ℕ → ℤ → Option ℕ
natural_below bound (pos n) = if nat_lt n bound then Some n else None
natural_below bound (negsuc n) = None

-- a number from - bound to bound - 1; `negsuc n` is - 1 - n
abbrev pub within : ℕ → ℤ → Option ℤ
within bound (pos n) = if nat_lt n bound then Some (pos n) else None
within bound (negsuc n) = if nat_lt n bound then Some (negsuc n) else None

-- what a number shows to a type that accepts some numbers; other trees show nothing
abbrev pub view_number : {V : Type 0} → (ℤ → Option V) → Tree → Option V
view_number accepted (integer n) = accepted n
view_number accepted _ = None

-- a natural number below the bound
abbrev pub view_unsigned : ℕ → Tree → Option ℕ
view_unsigned bound = view_number (natural_below bound)

-- a number from - bound to bound - 1
abbrev pub view_signed : ℕ → Tree → Option ℤ
view_signed bound = view_number (within bound)

-- ---- other leaves

-- null only
abbrev pub view_null : Tree → Option (Unit {0})
view_null null = Some tt
view_null _ = None

-- true or false
abbrev pub view_bool : Tree → Option Bool
view_bool (boolean b) = Some b
view_bool _ = None

-- the bytes of a text
abbrev pub view_text : Tree → Option (List ℕ)
view_text (text s) = Some s
view_text _ = None

-- the element of a list of one
abbrev pub only : List ℕ → Option ℕ
only (c ∷ []) = Some c
only _ = None

-- a text of one character
abbrev pub view_char : Tree → Option ℕ
view_char (text s) = only (chars s)
view_char _ = None

-- the bytes of a byte string
abbrev pub view_bytes : Tree → Option (List ℕ)
view_bytes (bytes s) = Some s
view_bytes _ = None

-- the binary form of the CID
abbrev pub view_link : Tree → Option (List ℕ)
view_link (link cid) = Some cid
view_link _ = None

-- ---- types that accept more

-- Any tree shows itself, with its whole need.
abbrev pub any_tree : Shape Tree Tree
any_tree = record { view = Some; need = any_need; wants_loan = false; memory = takes_some }

-- Any tree is accepted by a type that ignores it.
abbrev pub ignored_item : Shape Tree (Unit {0})
ignored_item = record { view = λ t. Some tt; need = any_need; wants_loan = false; memory = unless_lent }

-- `None` for null, or else what another type sees in the tree
abbrev pub view_option : {V : Type 0} → (Tree → Option V) → Tree → Option (Option V)
view_option view null = Some None
view_option view t = option_map Some (view t)

-- no step for null; for another tree, one step and its need
abbrev pub need_option : (Tree → ℕ) → Tree → ℕ
need_option need null = 0
need_option need t = 1 + need t

-- null, or what another type reads with one step more
abbrev pub option_of : {V : Type 0} → Shape Tree V → Shape Tree (Option V)
option_of shape = record {
  view = view_option shape.view;
  need = need_option shape.need;
  wants_loan = shape.wants_loan;
  memory = shape.memory;
}

-- a value in memory of its own
abbrev pub boxed_of : {V : Type 0} → Shape Tree V → Shape Tree V
boxed_of shape = record shape { memory = takes_some }
