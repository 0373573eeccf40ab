-- A spelling has at least one byte.
use Rattle.std.proofs.Common.{ℕ, ◌+◌, ◌≤◌, ◌^◌, List, [], ◌∷◌, length, Option, None, Some, Bool, true, false, nat_lt, arith, length-append, pos, negsuc, lit≤, if◌then◌else◌}
use Rattle.std.specs.Fmt.{◌++?◌}
use Rattle.dagcbor_core.specs.Head.{head}
use Rattle.ipld_tree.specs.Tree.{Tree, null, boolean, integer, text, bytes, list, mapping, link}
use Rattle.ipld_tree.specs.Spelling.{item_count, entry_count}
use Rattle.ipld_tree.specs.Spelled.{spelled, spelled_head, spelled_bytes, spelled_items, spelled_entries, spelled_tree}
use Rattle.dagcbor_write.specs.Gathering.{AppendsTo, Grows}

abbrev pub NotEmpty : Option (List ℕ) → Type 0
NotEmpty None = Unit {0}
NotEmpty (Some bs) = 1 ≤ length bs

cond_length : (b : Bool) (x y : List ℕ) → 1 ≤ length x → 1 ≤ length y → 1 ≤ length (if b then x else y)
cond_length true x y p q = p
cond_length false x y p q = q

one_more : (b : ℕ) (bs : List ℕ) → 1 ≤ length (b ∷ bs)
one_more b bs = omega arith

pub head_length : (m n : ℕ) → 1 ≤ length (head m n)
unfolding head
head_length m n = search (cond_length, one_more)

NotEmpty_append : (a b : Option (List ℕ)) → NotEmpty a → NotEmpty (a ++? b)
NotEmpty_append None b p = tt
NotEmpty_append (Some a) None p = tt
NotEmpty_append (Some a) (Some b) p = omega (arith, length-append a b)

NotEmpty_if : (b : Bool) (x : List ℕ) → 1 ≤ length x → NotEmpty (if b then Some x else None)
NotEmpty_if true x p = p
NotEmpty_if false x p = tt

NotEmpty_head : (m n : ℕ) (b : Option (List ℕ)) → NotEmpty (spelled_head m n ++? b)
NotEmpty_head m n b = NotEmpty_append (spelled_head m n) b (NotEmpty_if (nat_lt n (2 ^ 64)) (head m n) (head_length m n))

NotEmpty_alone : (m n : ℕ) → NotEmpty (spelled_head m n)
NotEmpty_alone m n = NotEmpty_if (nat_lt n (2 ^ 64)) (head m n) (head_length m n)

pub NotEmpty_spelled : (t : Tree) → NotEmpty (spelled t)
unfolding spelled
NotEmpty_spelled null = lit≤ tt
NotEmpty_spelled (boolean true) = lit≤ tt
NotEmpty_spelled (boolean false) = lit≤ tt
NotEmpty_spelled (integer (pos n)) = NotEmpty_alone 0 n
NotEmpty_spelled (integer (negsuc n)) = NotEmpty_alone 1 n
NotEmpty_spelled (text bs) = NotEmpty_head 3 (length bs) (Some bs)
NotEmpty_spelled (bytes bs) = NotEmpty_head 2 (length bs) (Some bs)
NotEmpty_spelled (list ts) = NotEmpty_head 4 (item_count ts) (spelled_items ts)
NotEmpty_spelled (mapping es) = NotEmpty_head 5 (entry_count es) (spelled_entries es)
NotEmpty_spelled (link cid) = NotEmpty_append (Some (0xd8 ∷ 0x2a ∷ [])) (spelled_bytes 2 (0 ∷ cid)) (lit≤ tt)

pub NotEmpty_tree : (o : Option Tree) → NotEmpty (spelled_tree o)
NotEmpty_tree None = tt
NotEmpty_tree (Some t) = NotEmpty_spelled t

-- bytes that a spelling was appended to are more
grown : (o : Option (List ℕ)) (old new : List ℕ) → NotEmpty o → AppendsTo old new o → length old + 1 ≤ length new
grown None old new e w = absurd w
grown (Some s) old new e w = rw w (omega (arith, length-append old s))

pub grows : (o : Option Tree) (old new : List ℕ) → Grows o old new → length old + 1 ≤ length new
grows o old new g = grown (spelled_tree o) old new (NotEmpty_tree o) g.0
