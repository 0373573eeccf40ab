-- What a walk through an item, which hands its links to a sink, returns and refuses.
use Rattle.std.specs.Prelude.{◌≡◌, ◌⊎◌, ◌+◌, ℕ, Bool, true, false, List, [], ◌∷◌, ◌++◌, length, map, Option, Some, Result, MatchResult, Vec, ⊤}
use Rattle.std.specs.declared.alloc.Global.{Global}
use Rattle.dagcbor_heads.specs.Reading.{Reading}
use Rattle.dagcbor_heads.specs.Refusals.{Refuses}
use Rattle.dagcbor_core.specs.declared.error.DecodeError.{DecodeError}
use Rattle.ipld_tree.specs.Cid.{CidParts, cid_bytes}
use Rattle.ipld_tree.specs.Tree.{Tree, link, items_of, Entries, links_of, items_links, entries_links}
use Rattle.ipld_tree.specs.Spelling.{entry_count, IsFront}
use Rattle.dagcbor_items.specs.Untyped.{HasItem, TakesItem}
use Rattle.dagcbor_items.specs.Items.{HasItems, TakesItems}
use Rattle.dagcbor_items.specs.Entries.{HasEntries, TakesEntries}
use Rattle.dagcbor_items.specs.ReadCauses.{ItemCause, ItemsCause, EntriesCause}

-- ---- sinks

-- A sink takes links: it keeps, counts or writes them.
pub record Sink (S : Type 0) : Type 1 where
  -- whether these may be the links, in binary form, that the sink in this state was handed so far
  pub holds : S → List (List ℕ) → Type 0
  -- whether it may refuse a link because it is out of memory
  pub takes_memory : Bool

-- the binary forms of CIDs, in order
abbrev pub forms : List CidParts → List (List ℕ)
forms cids = map cid_bytes cids

-- the sink was handed these links, after those handed to it before
abbrev pub Finds : {S : Type 0} → (S → List (List ℕ) → Type 0) → S → List (List ℕ) → S → Type 0
Finds holds before found after = (links : List (List ℕ)) → holds before links
    → holds after (links ++ found)

-- ---- refusals

-- each of the links is whole in the bytes, in this order
abbrev pub AreLinksIn : List ℕ → List (List ℕ) → Type 0
AreLinksIn b [] = ⊤
AreLinksIn b (cid ∷ cids) = (before at rest : List ℕ) × (b ≡ before ++ at)
    × IsFront at (link cid) rest × AreLinksIn rest cids

-- the bytes contain a whole link
abbrev pub HasLinkIn : List ℕ → Type 0
HasLinkIn b = (cid : List ℕ) × AreLinksIn b (cid ∷ [])

-- when memory may run out: for a string that the input does not lend, or in the sink, if the bytes
-- left, where known, contain a link
abbrev pub WalkLacks : Bool → Reading → Type 0
WalkLacks takes_memory old = (old.lends ≡ false) ⊎ ((takes_memory ≡ true)
    × ((b : List ℕ) → old.left ≡ Some b → HasLinkIn b))

-- the sink was handed some links, each of which is whole in these bytes, if they are known, in this
-- order
pub record HandsLinks {S : Type 0} (sink : Sink S) (left : Option (List ℕ)) (before after : S)
    : Type 0 where
  pub found : List (List ℕ)
  pub finds : Finds sink.holds before found after
  pub stand : (b : List ℕ) → left ≡ Some b → AreLinksIn b found

-- a walk was refused, after some links were handed to the sink
pub record RefusesWalk {E S : Type 0} (sink : Sink S) (could : Type 0)
    (stands : DecodeError E → List ℕ → Type 0) (old : Reading) (before : S) (e : DecodeError E)
    (new : Reading) (after : S) : Type 0 where
  pub refuses : Refuses (record {
    could = could;
    lacks = WalkLacks sink.takes_memory old;
    borrows = ⊥;
    stands = stands;
  }) old e new
  pub handed : HandsLinks sink old.left before after

-- ---- walks

-- A walk passes an item of unknown kind if and only if one is there within the steps left and those
-- already spent on it. The item's links were handed to the sink in order.
abbrev pub WalksItemSpent : {E S : Type 0} → ℕ → Sink S → Reading → S
    → Result (Unit {0}) (DecodeError E) → Reading → S → Type 0
WalksItemSpent spent sink old before result new after = MatchResult result
    (λ _. (t : Tree) × TakesItem spent old t new × Finds sink.holds before (links_of t) after)
    (λ e. RefusesWalk sink (HasItem spent old) (ItemCause (old.steps + spent)) old before e new after)

-- a walk through an item on which no step was spent
abbrev pub WalksItem : {E S : Type 0} → Sink S → Reading → S → Result (Unit {0}) (DecodeError E)
    → Reading → S → Type 0
WalksItem = WalksItemSpent 0

-- a walk through an item that was entered: one step is spent on it
abbrev pub WalksEnteredItem : {E S : Type 0} → Sink S → Reading → S
    → Result (Unit {0}) (DecodeError E) → Reading → S → Type 0
WalksEnteredItem = WalksItemSpent 1

-- A walk passes items if and only if `count` of them are there within the steps left.
abbrev pub WalksItems : {E S : Type 0} → Sink S → ℕ → Reading → S
    → Result (Unit {0}) (DecodeError E) → Reading → S → Type 0
WalksItems sink count old before result new after = MatchResult result
    (λ _. (ts : List Tree) × (length ts ≡ count) × TakesItems old ts new
    × Finds sink.holds before (items_links (items_of ts)) after)
    (λ e. RefusesWalk sink (HasItems count old) (ItemsCause count old.steps) old before e new after)

-- A walk passes entries if and only if `count` of them, in key order, are there within the steps
-- left.
abbrev pub WalksEntries : {E S : Type 0} → Sink S → ℕ → Reading → S
    → Result (Unit {0}) (DecodeError E) → Reading → S → Type 0
WalksEntries sink count old before result new after = MatchResult result
    (λ _. (es : Entries) × (entry_count es ≡ count) × TakesEntries old es new
    × Finds sink.holds before (entries_links es) after)
    (λ e. RefusesWalk sink (HasEntries count old) (EntriesCause count old.steps) old before e new after)

-- The links of an item of unknown kind are read if and only if one is there within the steps left.
-- Memory may run out as in a walk whose sink takes memory.
abbrev pub GathersLinks : {E : Type 0} → Reading → Result (Vec CidParts Global) (DecodeError E)
    → Reading → Type 0
GathersLinks old result new = MatchResult result
    (λ v. (t : Tree) × TakesItem 0 old t new × (forms v.items ≡ links_of t))
    (λ e. Refuses (record {
      could = HasItem 0 old;
      lacks = WalkLacks true old;
      borrows = ⊥;
      stands = ItemCause (old.steps + 0);
    }) old e new)
