-- The steps of a walk along a path, over bytes that begin with an item.
use Rattle.std.specs.Prelude.{◌≡◌, ℕ, ◌≤◌, List, ◌++◌, Option, MatchOption}
use Rattle.dagcbor_core.specs.Steps.{default_steps}
use Rattle.ipld_tree.specs.Tree.{Tree, Items, Entries, any_need, items_need, entries_need}
use Rattle.ipld_tree.specs.Spelling.{item_count, entry_count, IsFront, AreFronts, AreEntryFronts}
use Rattle.ipld_paths.specs.Paths.{IsItemAt, IsValueOf, IsPart}

-- the bytes end with these
abbrev pub EndsWith : List ℕ → List ℕ → Type 0
EndsWith b end = (before : List ℕ) × (b ≡ before ++ end)

-- the bytes begin with a tree that is read within `default_steps`
abbrev pub BeginsWithTree : List ℕ → Tree → Type 0
BeginsWithTree b t = (rest : List ℕ) × IsFront b t rest × (any_need t ≤ default_steps)

-- the bytes begin with a tree of which `IsSo` holds; `None` exactly if there is no such tree
abbrev pub GivesPart : {A : Type 0} → (A → List ℕ) → (Tree → Type 0) → Option A → Type 0
GivesPart bytes_of IsSo result = MatchOption result ((t : Tree) → ¬ IsSo t)
    (λ a. (t : Tree) × IsSo t × BeginsWithTree (bytes_of a) t)

-- if the bytes begin with n items, that with the index is found
abbrev pub FindsItem : {A : Type 0} → (A → List ℕ) → (b : List ℕ) → (count n : ℕ) → Option A → Type 0
FindsItem bytes_of b count n result = (ts : Items) (rest : List ℕ) → AreFronts b ts rest
    → item_count ts ≡ count → items_need ts ≤ default_steps → GivesPart bytes_of (IsItemAt n ts) result

-- if the bytes begin with n entries, the value of the key is found
abbrev pub FindsValue : {A : Type 0} → (A → List ℕ) → (b : List ℕ) → (count : ℕ) → List ℕ → Option A
    → Type 0
FindsValue bytes_of b count key result = (es : Entries) (rest : List ℕ) → AreEntryFronts b es rest
    → entry_count es ≡ count → entries_need es ≤ default_steps
    → GivesPart bytes_of (IsValueOf key es) result

-- if the bytes begin with a tree, the part to which the segment leads is found
abbrev pub FindsPart : {A : Type 0} → (A → List ℕ) → List ℕ → List ℕ → Option A → Type 0
FindsPart bytes_of b segment result = (t : Tree) → BeginsWithTree b t → GivesPart bytes_of (IsPart segment t) result
