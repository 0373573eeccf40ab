-- What a store replies to each request, and its state after it.
use Rattle.std.specs.Prelude.{◌≡◌, ◌⊎◌, ℕ, List, [], ◌∷◌, length, true, false, Option, None, Some}
use Rattle.sqlite_trees.specs.View.{IsClean}
use Rattle.sqlite_trees.specs.declared.store.Store.{Ghosts}
use Rattle.ipld_tree.specs.Cid.{CidParts}
use Rattle.ipld_links.specs.Sound.{IsSound}
use Rattle.store_on_disk.specs.Ends.{Quiet}
use Rattle.store_on_disk.specs.Rows.{name_tree}
use Rattle.store_on_disk.specs.Stored.{IsNamedBy, HoldsOnly, ListsName, GetRefused, StaysSame, FailsByStore, GivesNextName, PutRefused, IsAdded, IsAddedTo, IsTaken, IsCommitted, IsUndone, IsKeptBy}
use Rattle.store_on_disk.specs.Roots.{HasRoots, KeepsRoots, AreRootsAdded, RootsRefused, IsRootTaken}
use Rattle.program_dagstore.specs.Changes.{name_as, IsPutWell}
use Rattle.program_serve.specs.declared.asked.Request.{Request}
use Rattle.program_serve.specs.declared.asked.Request.TheVariants as requests
use Rattle.program_serve.specs.declared.reply.Reply.{Reply}
use Rattle.program_serve.specs.declared.reply.Reply.TheVariants as replies

module _ {S : Type 0} (g : Ghosts S) where
  -- the bytes that are stored under the name, which match it; or nothing is listed under it
  abbrev pub RepliesGet : CidParts → S → Reply → S → Type 0
  RepliesGet name old (replies.Block b) new = IsNamedBy name b.items
      × (IsClean (g.view new) → HoldsOnly (g.view old) name b.items) × StaysSame g old new
  RepliesGet name old replies.Nothing new =
      (IsClean (g.view new) → ¬ ListsName (g.view old) name) × StaysSame g old new
  RepliesGet name old (replies.Refused told) new = GetRefused g name old new told
  RepliesGet name old _ new = ⊥

  -- something is listed under the name, or nothing is
  abbrev pub RepliesHas : CidParts → S → Reply → S → Type 0
  RepliesHas name old replies.Done new =
      (IsClean (g.view new) → ListsName (g.view old) name) × StaysSame g old new
  RepliesHas name old replies.Nothing new =
      (IsClean (g.view new) → ¬ ListsName (g.view old) name) × StaysSame g old new
  RepliesHas name old (replies.Refused told) new = FailsByStore g ⊥ old new told
  RepliesHas name old _ new = ⊥

  -- the first name after the last one; or no name is listed there
  abbrev pub RepliesNext : Option CidParts → S → Reply → S → Type 0
  RepliesNext last old (replies.Name name) new =
      (IsClean (g.view new) → GivesNextName (g.view old) last (Some name)) × StaysSame g old new
  RepliesNext last old replies.Nothing new =
      (IsClean (g.view new) → GivesNextName (g.view old) last None) × StaysSame g old new
  RepliesNext last old (replies.Refused told) new = FailsByStore g ⊥ old new told
  RepliesNext last old _ new = ⊥

  -- this many names are listed
  abbrev pub RepliesCount : S → Reply → S → Type 0
  RepliesCount old (replies.Count n) new =
      (IsClean (g.view new) → n ≡ length ((g.view old).trees name_tree)) × StaysSame g old new
  RepliesCount old (replies.Refused told) new = FailsByStore g ⊥ old new told
  RepliesCount old _ new = ⊥

  -- these are the roots
  abbrev pub RepliesRoots : S → Reply → S → Type 0
  RepliesRoots old (replies.Names names) new =
      (IsClean (g.view new) → HasRoots (g.view old) names.items) × StaysSame g old new
  RepliesRoots old (replies.Refused told) new = FailsByStore g ⊥ old new told
  RepliesRoots old _ new = ⊥

  -- the block is sound under its name, is stored under it, and all is committed
  abbrev pub RepliesPut : ℕ → List ℕ → S → Reply → S → Type 0
  RepliesPut codec b old (replies.Name name) new = (name ≡ name_as codec b)
      × IsPutWell g (name_as codec b) b old new
  RepliesPut codec b old (replies.Refused told) new = PutRefused g (name_as codec b, b) old new told
  RepliesPut codec b old _ new = ⊥

  -- the block is sound under its name, and is stored under it
  abbrev pub RepliesAdd : ℕ → List ℕ → S → Reply → S → Type 0
  RepliesAdd codec b old (replies.Name name) new = (name ≡ name_as codec b)
      × IsSound (name_as codec b, b)
      × (IsClean (g.view new) → IsAdded (g.view old) (g.view new) (name_as codec b) b)
  RepliesAdd codec b old (replies.Refused told) new = PutRefused g (name_as codec b, b) old new told
  RepliesAdd codec b old _ new = ⊥

  -- what was listed under the name is removed; or nothing was
  abbrev pub RepliesRemove : CidParts → S → Reply → S → Type 0
  RepliesRemove name old replies.Done new =
      IsClean (g.view new) → IsTaken (g.view old) (g.view new) name true
  RepliesRemove name old replies.Nothing new =
      IsClean (g.view new) → IsTaken (g.view old) (g.view new) name false
  RepliesRemove name old (replies.Refused told) new = FailsByStore g ⊥ old new told
  RepliesRemove name old _ new = ⊥

  -- the name is a root
  abbrev pub RepliesAddRoot : CidParts → S → Reply → S → Type 0
  RepliesAddRoot name old replies.Done new = KeepsRoots (g.view old)
      × (IsClean (g.view new) → AreRootsAdded (g.view old) (g.view new) (name ∷ []))
  RepliesAddRoot name old (replies.Refused told) new = RootsRefused g (name ∷ []) old new told
  RepliesAddRoot name old _ new = ⊥

  -- the name was a root, and no longer is; or it was not one
  abbrev pub RepliesDropRoot : CidParts → S → Reply → S → Type 0
  RepliesDropRoot name old replies.Done new =
      IsClean (g.view new) → IsRootTaken (g.view old) (g.view new) name true
  RepliesDropRoot name old replies.Nothing new =
      IsClean (g.view new) → IsRootTaken (g.view old) (g.view new) name false
  RepliesDropRoot name old (replies.Refused told) new = FailsByStore g ⊥ old new told
  RepliesDropRoot name old _ new = ⊥

  -- what the transaction saw is committed
  abbrev pub RepliesCommit : S → Reply → S → Type 0
  RepliesCommit old replies.Done new = IsClean (g.view new) → IsCommitted (g.view old) (g.view new)
  RepliesCommit old (replies.Refused told) new = FailsByStore g ⊥ old new told
  RepliesCommit old _ new = ⊥

  -- what was not committed is undone
  abbrev pub RepliesRollback : S → Reply → S → Type 0
  RepliesRollback old replies.Done new = IsClean (g.view new) → IsUndone (g.view old) (g.view new)
  RepliesRollback old _ new = ⊥

  -- what is replied to the request, which has this block
  abbrev pub Replies : Request → List ℕ → S → Reply → S → Type 0
  Replies (requests.Get name) b = RepliesGet name
  Replies (requests.Has name) b = RepliesHas name
  Replies (requests.Put codec n) b = RepliesPut codec b
  Replies (requests.Add codec n) b = RepliesAdd codec b
  Replies (requests.Remove name) b = RepliesRemove name
  Replies (requests.Next last) b = RepliesNext last
  Replies requests.Count b = RepliesCount
  Replies requests.Roots b = RepliesRoots
  Replies (requests.AddRoot name) b = RepliesAddRoot name
  Replies (requests.DropRoot name) b = RepliesDropRoot name
  Replies requests.Commit b = RepliesCommit
  Replies requests.Rollback b = RepliesRollback

  -- what a crash can leave after the request: only what it could leave before or, if the request
  -- commits, what that leaves
  abbrev pub Leaves : Request → List ℕ → S → S → Type 0
  Leaves (requests.Put codec n) b old new = IsKeptBy g old new
      × ((db : _) → g.recovers new db → g.recovers old db ⊎ (IsClean (g.view new)
      → IsAddedTo (g.view old).trees db (name_as codec b) b))
  Leaves requests.Commit b old new = IsKeptBy g old new
      × ((db : _) → g.recovers new db → (db ≡ (g.view old).trees) ⊎ g.recovers old db)
  Leaves request b old new = Quiet g old new
