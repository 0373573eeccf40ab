-- The pairs of some fields of a struct, which are written before others.
use Rattle.std.specs.Prelude.{◌≡◌, ℕ, List, [], ◌∷◌, ◌++◌, Option, None, Some}
use Rattle.std.proofs.Common.{refl, ap}
use Rattle.serde_ipld_dagcbor.specs.Tree.{Tree}
use Rattle.serde_ipld_dagcbor.specs.Trees.{Pair, field, optional}
use Rattle.dagcbor_write.specs.Rows.{rows_join}

-- the pairs before others, which do not depend on the others
pub record LeadingPairs : Type 0 where
  pub before : List Pair → List Pair
  pub joins : (others : List Pair) → before others ≡ before [] ++ others

-- the pairs, if no others come after them
abbrev pub pairs_of : LeadingPairs → List Pair
pairs_of joining = joining.before []

-- a field, and those after it
abbrev pub field_before : List ℕ → Option Tree → LeadingPairs → LeadingPairs
field_before name tree following = record {
  before = λ others. field name tree ∷ following.before others;
  joins = λ others. ap (λ ps. field name tree ∷ ps) (following.joins others);
}

pub optional_leads : {A : Type 0} (name : List ℕ) (tree : A → Option Tree) (o : Option A)
    (following : LeadingPairs) (others : List Pair) → optional name tree o (following.before others)
    ≡ optional name tree o (following.before []) ++ others
optional_leads name tree None following others = following.joins others
optional_leads name tree (Some x) following others =
    ap (λ ps. field name (tree x) ∷ ps) (following.joins others)

-- a field that is left out if it has no value, and those after it
abbrev pub optional_before : {A : Type 0} → List ℕ → (A → Option Tree) → Option A → LeadingPairs
    → LeadingPairs
optional_before name tree o following = record {
  before = λ others. optional name tree o (following.before others);
  joins = optional_leads name tree o following;
}

-- fields, and others after them
abbrev pub both_before : LeadingPairs → LeadingPairs → LeadingPairs
both_before first second = record {
  before = λ others. first.before (second.before others);
  joins = rows_join (pairs_of first) first.before first.joins (pairs_of second) second.before
      second.joins;
}

abbrev pub none_before : LeadingPairs
none_before = record { before = λ others. others; joins = λ others. refl }
