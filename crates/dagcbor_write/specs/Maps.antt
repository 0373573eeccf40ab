-- What the collector of a map is given, holds and does.
use Rattle.std.specs.Prelude.{◌≡◌, ◌⊎◌, ℕ, ◌/◌, Bool, true, false, ◌&&◌, is_none, nat_eq, IsTrue, List, [], ◌∷◌, ◌++◌, length, map, Option, None, Some, option_and_then, IfSome, IsSomeAnd, Any, codes, Result, OnErr}
use Rattle.dagcbor_core.specs.declared.error.EncodeError.{EncodeError}
use Rattle.std.specs.Iterator.{YieldsFirstBy}
use Rattle.ipld_tree.specs.Tree.{Tree, null, text, mapping, IsTree, key_of, all_some, pair_of, repeats_key, entries_tree}
use Rattle.ipld_tree.specs.Spelled.{spelled, spelled_entries, spelled_tree}
use Rattle.dagcbor_write.specs.Pairwise.{Pairwise}
use Rattle.dagcbor_write.specs.Trees.{Pair}
use Rattle.dagcbor_write.specs.Gathering.{RefusedFor, Refused, Collects}

-- the spellings of a key and of its value
abbrev pub Texts : Type 0
Texts = List ℕ × List ℕ

-- what a map was given before its end: the spellings of its entries, in the order given; that of a
-- key that waits for its value; and the number of entries, if the map's head was written
pub record MapState : Type 0 where
  pub entries : List Texts
  pub key : Option (List ℕ)
  pub announced : Option ℕ

-- a map that was begun, with this number of entries announced, or with no number
abbrev pub no_entry_yet : Option ℕ → MapState
no_entry_yet announced = record { entries = []; key = None; announced = announced }

-- whether there are as many entries as were announced, if a number was announced
abbrev pub has_announced : Option ℕ → ℕ → Bool
has_announced None n = true
has_announced (Some m) n = nat_eq n m

-- whether no key waits for its value, and there are as many entries as were announced
abbrev pub is_complete : MapState → Bool
is_complete h = is_none h.key && has_announced h.announced (length h.entries)

-- ---- keys and values

-- whether a spelling is that of a text: major type 3
abbrev pub begins_text : List ℕ → Bool
begins_text [] = false
begins_text (b ∷ bs) = nat_eq (b / 32) 3

-- the spelling of a key, or `None` if the key is not a text
abbrev pub spelled_key : Option Tree → Option (List ℕ)
spelled_key key = option_and_then (λ k. spelled (text k)) (option_and_then key_of key)

-- the message of a refused key: it has no spelling, or is not a text
abbrev pub IsKeyMessage : Option Tree → List ℕ → Type 0
IsKeyMessage key m = RefusedFor (codes "Map key cannot be serialized.") key m
    ⊎ ((m ≡ codes "Map keys must be strings") × (option_and_then key_of key ≡ None))

-- the message of a refused value: it has no spelling
abbrev pub IsValueMessage : Option Tree → List ℕ → Type 0
IsValueMessage value m = RefusedFor (codes "Struct value cannot be serialized.") value m

-- the message is the key's or the value's
abbrev pub IsEntryMessage : Option Tree → Option Tree → List ℕ → Type 0
IsEntryMessage key value m = IsKeyMessage key m ⊎ IsValueMessage value m

-- the spelling of a well-formed key waits for its value
abbrev pub HoldsKey : Option Tree → Option (List ℕ) → Type 0
HoldsKey key None = ⊥
HoldsKey key (Some k) = (spelled_key key ≡ Some k) × IfSome key IsTree

-- a key and a value were appended to the entries
abbrev pub Joins : Option (List ℕ) → Option (List ℕ) → List Texts → List Texts → Type 0
Joins (Some key) (Some value) old new = new ≡ old ++ (key, value) ∷ []
Joins (Some key) None old new = ⊥
Joins None value old new = ⊥

-- the key and the spelling of its well-formed value were appended to the entries
abbrev pub JoinsValue : Option (List ℕ) → Option Tree → List Texts → List Texts → Type 0
JoinsValue key value old new = Joins key (spelled_tree value) old new × IfSome value IsTree

-- the spellings of a well-formed key and value were appended to the entries
abbrev pub JoinsEntry : Option Tree → Option Tree → List Texts → List Texts → Type 0
JoinsEntry key value old new = JoinsValue (spelled_key key) value old new × IfSome key IsTree

-- a key and its value joined the entries, or one of them was refused and the entries did not change
pub record TakesEntry {T E : Type 0} (key value : Option Tree) (Cause : List ℕ → Type 0) (old new : MapState) (r : Result T (EncodeError E)) : Type 0 where
  pub no_key : new.key ≡ None
  pub joins : Collects (λ u. JoinsEntry key value old.entries new.entries) Cause r
  pub kept : OnErr r (new.entries ≡ old.entries)

-- ---- the end of a map

-- the texts are the spellings of the pair
pub record IsSpellingOf (p : Pair) (e : Texts) : Type 0 where
  pub key : spelled_key p.0 ≡ Some e.0
  pub value : spelled_tree p.1 ≡ Some e.1
  pub good_key : IfSome p.0 IsTree
  pub good_value : IfSome p.1 IsTree

-- the texts are the spellings of the pairs, in order
abbrev pub AreSpellingsOf : List Pair → List Texts → Type 0
AreSpellingsOf = Pairwise IsSpellingOf

-- the bytes after the head of a map
abbrev pub entries_text : Option Tree → Option (List ℕ)
entries_text (Some (mapping es)) = spelled_entries es
entries_text o = None

-- what is still to be written of the map of the pairs: all of it, or the bytes after its head if
-- the head was written
abbrev pub map_rest : Bool → List Pair → Option (List ℕ)
map_rest false ps = spelled_tree (entries_tree ps)
map_rest true ps = entries_text (entries_tree ps)

-- the spellings of well-formed pairs were appended to the entries, in order
abbrev pub JoinsPairs : List Pair → List Texts → List Texts → Type 0
JoinsPairs ps old new = (more : List Texts) × AreSpellingsOf ps more × (new ≡ old ++ more)

-- the pairs before one were appended to the entries, and the value of that one was refused
pub record StopsAtPair {E : Type 0} (ps : List Pair) (old new : List Texts) (e : EncodeError E) : Type 0 where
  pub taken : List Pair
  pub refused : Pair
  pub left : List Pair
  pub split : ps ≡ taken ++ refused ∷ left
  pub joined : JoinsPairs taken old new
  pub cause : Refused (IsValueMessage refused.1) e

-- one of the values has no spelling
abbrev pub LacksValue : List Pair → Type 0
LacksValue ps = Any (λ p. spelled_tree p.1 ≡ None) ps

-- the message of a refused value, which may be that of any pair
abbrev pub RefusesAnyValue : List Pair → List ℕ → Type 0
RefusesAnyValue ps m = (m ≡ codes "Struct value cannot be serialized.") × LacksValue ps

-- the items that an iterator has left are these pairs: a call gives the first of them
abbrev pub ShowsPairs : {S A : Type 0} → (S → Option A → S → Type 0) → (A → Pair)
    → (S → List Pair) → Type 0
ShowsPairs {S} {A} gives pair rest = (s : S) (r : Option A) (t : S) → gives s r t
    → YieldsFirstBy pair rest s r t

-- a key of the pairs occurs twice
abbrev pub RepeatsKey : List Pair → Type 0
RepeatsKey ps = IsSomeAnd (all_some (map pair_of ps)) (λ named. IsTrue (repeats_key named))

-- the message of a refused map: a key occurs twice
abbrev pub RefusesKeys : List Pair → List ℕ → Type 0
RefusesKeys ps m = (m ≡ codes "Map keys must be unique") × RepeatsKey ps

-- the messages of a refused struct: a value's, or that of the keys if all values have spellings
abbrev pub RefusesPairs : List Pair → List ℕ → Type 0
RefusesPairs ps m = RefusesAnyValue ps m ⊎ (RefusesKeys ps m × ¬ LacksValue ps)

-- ---- a map in memory

-- the pairs with null for each value, to speak of their keys alone
abbrev pub keys_alone : List Pair → List Pair
keys_alone = map (λ p. (p.0, Some null))

-- the message of a refused key, which may be that of any pair
abbrev pub RefusesAnyKey : List Pair → List ℕ → Type 0
RefusesAnyKey ps m = Any (λ p. IsKeyMessage p.0 m) ps

-- the messages of a refused map: that of one of its keys, of a repeated key, or of a value
abbrev pub RefusesEntries : List Pair → List ℕ → Type 0
RefusesEntries ps m = (RefusesAnyKey ps m ⊎ RefusesKeys (keys_alone ps) m) ⊎ RefusesAnyValue ps m

-- the same messages; with one of a key, nothing was written
abbrev pub RefusesMap : {A : Type 0} → A → A → List Pair → List ℕ → Type 0
RefusesMap old new ps m = ((RefusesAnyKey ps m ⊎ RefusesKeys (keys_alone ps) m) × (new ≡ old))
    ⊎ RefusesAnyValue ps m
