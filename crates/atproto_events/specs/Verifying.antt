-- What a verified commit event is, and why one is refused (AT Protocol specification, sync).
use Rattle.std.specs.Prelude.{◌≡◌, ◌≢◌, ◌⊎◌, ◌<◌, ◌≤◌, ℕ, Bool, false, true, List, [], ◌∷◌, length, map, Option, None, Some, option_map, string_bytes, ⊤}
use Rattle.std.specs.List.{AllByRecursion}
use Rattle.std.specs.Option.{option_flatten}
use Rattle.std.specs.declared.cmp.Ordering.TheVariants.{Less}
use Rattle.std.specs.Ordering.{nat_cmp, eq_by_cmp}
use Rattle.std.specs.Cmp.Lexicographic.{slice_cmp}
use Rattle.ipld_tree.specs.Cid.{CidParts, cid_cmp}
use Rattle.dagcbor_items.specs.Walks.{forms}
use Rattle.dagcbor_write.specs.Answers.{AreSpellingOf}
use Rattle.ipld_links.specs.Reaching.{Stored}
use Rattle.files_car.specs.Car.{Section, IsCar}
use Rattle.files_car.specs.declared.error.CarError.TheVariants as car
use Rattle.atproto_mst.specs.Changes.{Changed, changes}
use Rattle.atproto_mst.specs.Commits.{unsigned_tree}
use Rattle.atproto_mst.specs.Repos.{IsStoredCommit, CommitRefused}
use Rattle.types_repository.specs.declared.repository.Commit.{Commit}
use Rattle.atproto_mst.specs.declared.repo_error.RepoError.TheVariants as repo
use Rattle.atproto_events.specs.Doing.{LeadsFrom}
use Rattle.atproto_events.specs.Refusing.{UndoRefused}
use Rattle.atproto_events.specs.declared.error.UndoError.TheVariants as undo
use Rattle.files_car.specs.Blocks.{stored_of, BlocksRefused}
use Rattle.types_events.specs.declared.events.CommitEvent.{CommitEvent}
use Rattle.atproto_events.specs.Operations.{HasForm, change_of_op, ChangesRefused}
use Rattle.atproto_events.specs.Roots.{BeginsAt, NoBegin}
use Rattle.atproto_events.specs.declared.body.CommitFrame.{CommitFrame}
use Rattle.atproto_events.specs.declared.verify.Known.{Known}
use Rattle.atproto_events.specs.declared.verify.Verified.{Verified}
use Rattle.atproto_events.specs.declared.refusal.EventError.{EventError}
use Rattle.atproto_events.specs.declared.refusal.EventError.TheVariants as error

-- ---- before its blocks are read

-- the event contains everything, and is within the limits
pub record IsWithinLimits (f : CommitFrame) : Type 0 where
  pub whole : f.event.too_big ≡ false
  pub no_rebase : f.event.rebase ≡ false
  pub few : length f.event.ops.items ≤ 200
  pub short : length f.blocks.now ≤ 2000000

-- the revision comes after the known one, if there is one, in the order of bytes
abbrev pub ComesAfter : List ℕ → Option Known → Type 0
ComesAfter rev None = ⊤
ComesAfter rev (Some known) = slice_cmp nat_cmp known.rev.now rev ≡ Less

-- the root that the event states as the one before, which may be absent or null
abbrev pub root_said : CommitEvent → Option CidParts
root_said e = option_flatten e.prev_data

abbrev pub root_known : Option Known → Option CidParts
root_known known = option_map (λ k. k.root) known

-- ---- its file and its commit

-- whether the first of the roots is the commit
abbrev pub is_first : List CidParts → CidParts → Bool
is_first [] commit = false
is_first (root ∷ others) commit = eq_by_cmp cid_cmp root commit

-- the blocks are a CAR file of these sections, whose first root is the commit
abbrev pub HasSections : CommitFrame → List Section → Type 0
HasSections f ss = (roots : List CidParts) × IsCar f.blocks.now (forms roots) ss × (is_first roots f.event.commit ≡ true)

-- the file's blocks by their names, the last one if a name repeats
abbrev pub HoldsSections : CommitFrame → Stored → Type 0
HoldsSections f stored = (ss : List Section) × HasSections f ss × (stored ≡ stored_of ss)

-- the event's commit is stored, and has the event's repository and revision
pub record IsCommitOf (e : CommitEvent) (stored : Stored) (c : Commit) : Type 0 where
  pub is : IsStoredCommit stored e.commit c
  pub repository : string_bytes c.did ≡ string_bytes e.repo
  pub revision : string_bytes c.rev ≡ string_bytes e.rev

-- ---- the whole

-- A verified event. The signature and its key are not checked.
pub record IsVerifiedEvent (f : CommitFrame) (known : Option Known) (v : Verified) : Type 0 where
  pub limits : IsWithinLimits f
  pub after : ComesAfter (string_bytes f.event.rev) known
  pub begins : BeginsAt (root_said f.event) (root_known known) v.before
  pub forms : AllByRecursion HasForm f.event.ops.items
  pub operations : changes v.changes.items ≡ map change_of_op f.event.ops.items
  pub stored : Stored
  pub file : HoldsSections f stored
  pub commit : IsCommitOf f.event stored v.commit
  pub leads : LeadsFrom stored v.before (changes v.changes.items) v.commit.data
  pub signed : AreSpellingOf (unsigned_tree v.commit) v.signed.items

-- ---- why it is not

-- the event does not contain everything, or is beyond a limit
abbrev pub LimitsRefused : CommitFrame → EventError → Type 0
LimitsRefused f error.TooBig = f.event.too_big ≡ true
LimitsRefused f error.Rebase = f.event.rebase ≡ true
LimitsRefused f error.ManyOperations = 200 < length f.event.ops.items
LimitsRefused f error.ManyBytes = 2000000 < length f.blocks.now
LimitsRefused f _ = ⊥

-- out of memory; the blocks are not a CAR file; or its first root is not the commit
abbrev pub FileRefused : CommitFrame → EventError → Type 0
FileRefused f error.OutOfMemory = ⊤
FileRefused f (error.NoCar e) = (e ≢ car.OutOfMemory) × BlocksRefused f.blocks.now e
FileRefused f error.OtherCommit = (roots : List CidParts) × (ss : List Section) × IsCar f.blocks.now (forms roots) ss
    × (is_first roots f.event.commit ≡ false)
FileRefused f _ = ⊥

-- out of memory; the commit is not read; or it has another repository or revision
abbrev pub CommitRefusedFor : CommitEvent → Stored → EventError → Type 0
CommitRefusedFor e stored error.OutOfMemory = ⊤
CommitRefusedFor e stored (error.NoCommit cause) = (cause ≢ repo.OutOfMemory) × CommitRefused stored e.commit cause
CommitRefusedFor e stored error.OtherRepository = (c : Commit) × IsStoredCommit stored e.commit c × (string_bytes c.did ≢ string_bytes e.repo)
CommitRefusedFor e stored error.OtherRevision = (c : Commit) × IsStoredCommit stored e.commit c × (string_bytes c.rev ≢ string_bytes e.rev)
CommitRefusedFor e stored _ = ⊥

-- out of memory; the changes are not undone; or they lead from another root
abbrev pub LeadRefused : Stored → CidParts → List Changed → CidParts → EventError → Type 0
LeadRefused stored before cs root error.OutOfMemory = UndoRefused stored root cs undo.OutOfMemory
LeadRefused stored before cs root (error.NotUndone e) = (e ≢ undo.OutOfMemory) × UndoRefused stored root cs e
LeadRefused stored before cs root error.LeadsElsewhere = (old : CidParts) × LeadsFrom stored old cs root × (old ≢ before)
LeadRefused stored before cs root _ = ⊥

-- why an event with these blocks is refused
abbrev pub StoredRefused : CommitFrame → Option Known → Stored → EventError → Type 0
StoredRefused f known stored e = CommitRefusedFor f.event stored e
    ⊎ ((c : Commit) × (before : CidParts) × IsCommitOf f.event stored c
    × BeginsAt (root_said f.event) (root_known known) before
    × LeadRefused stored before (map change_of_op f.event.ops.items) c.data e)

-- why an event within the limits is refused
abbrev pub ContentRefused : CommitFrame → Option Known → EventError → Type 0
ContentRefused f known e = ((e ≡ error.NotAfter) × (¬ ComesAfter (string_bytes f.event.rev) known))
    ⊎ (NoBegin (root_said f.event) (root_known known) e ⊎ (ChangesRefused f.event.ops.items e ⊎ (FileRefused f e
    ⊎ ((stored : Stored) × HoldsSections f stored × StoredRefused f known stored e))))

-- why an event is refused; each cause has its own condition
abbrev pub EventRefused : CommitFrame → Option Known → EventError → Type 0
EventRefused f known e = LimitsRefused f e ⊎ (IsWithinLimits f × ContentRefused f known e)
