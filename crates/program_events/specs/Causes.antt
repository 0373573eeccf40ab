-- The lines that say why a frame is not read, or its commit not verified. Out of memory has no
-- line.
use Rattle.std.specs.Prelude.{ℕ, List, [], ◌++◌, codes, ⊤}
use Rattle.ipld_tree.specs.Cid.{CidParts}
use Rattle.program_parts.specs.Lines.{line, missing_line}
use Rattle.program_parts.specs.Names.{fault_name}
use Rattle.program_records.specs.Words.{cause_text, name_fault_line, repo_line}
use Rattle.atproto_events.specs.declared.error.UndoError.{UndoError}
use Rattle.atproto_events.specs.declared.error.UndoError.TheVariants as undo
use Rattle.atproto_events.specs.declared.frame_error.FrameError.{FrameError}
use Rattle.atproto_events.specs.declared.frame_error.FrameError.TheVariants as unread
use Rattle.atproto_events.specs.declared.refusal.EventError.{EventError}
use Rattle.atproto_events.specs.declared.refusal.EventError.TheVariants as error

-- the cause is not out of memory
abbrev pub IsOfFrame : FrameError → Type 0
IsOfFrame unread.OutOfMemory = ⊥
IsOfFrame _ = ⊤

abbrev pub IsOfEvent : EventError → Type 0
IsOfEvent error.OutOfMemory = ⊥
IsOfEvent _ = ⊤

-- why a frame is not read
abbrev pub unread_line : FrameError → List ℕ
unread_line unread.OutOfMemory = []
unread_line unread.NoEnd = line (codes "the bytes are not two items")
unread_line (unread.NoHeader e) = line (codes "the header is not read: " ++ cause_text e)
unread_line (unread.OtherOperation n) = line (codes "the operation of the header is neither 1 nor -1")
unread_line unread.NoKind = line (codes "the header tells no kind")
unread_line (unread.NoBody e) = line (codes "the body is not read: " ++ cause_text e)

-- why operations are not undone
abbrev pub undo_line : UndoError → List ℕ
undo_line undo.OutOfMemory = []
undo_line (undo.MissingNode name) = missing_line name
undo_line (undo.OtherBytes name) = name_fault_line name (codes " other bytes")
undo_line (undo.NoNode name) = name_fault_line name (codes " is no node")
undo_line undo.OtherTree = line (codes "the nodes are not those of a tree")
undo_line undo.KeyLength = line (codes "a key has no byte, or more than 1024")
undo_line undo.OtherState = line (codes "the tree has not what an operation leads to")

-- why a commit is not verified, for causes that have no cause of their own
abbrev pub refused_words : EventError → List ℕ
refused_words error.TooBig = codes "the event does not tell all: tooBig"
refused_words error.Rebase = codes "the event tells of a rebase"
refused_words error.ManyOperations = codes "the event has more than 200 operations"
refused_words error.ManyBytes = codes "the event has more than 2,000,000 bytes of blocks"
refused_words error.NotAfter = codes "the revision does not come after the one that is known"
refused_words error.OtherRoot = codes "prevData is another root than the one that is known"
refused_words error.NoRoot = codes "the event has no prevData, and no root is known"
refused_words error.OtherForm = codes "an operation lacks a record of its action, or has one more"
refused_words error.OtherCommit = codes "the first root of the blocks is not the commit"
refused_words error.OtherRepository = codes "the commit is of another repository"
refused_words error.OtherRevision = codes "the commit is of another revision"
refused_words error.LeadsElsewhere = codes "the operations lead from another root"
refused_words _ = []

-- why the commit of this name is not verified
abbrev pub refused_line : CidParts → EventError → List ℕ
refused_line commit error.OutOfMemory = []
refused_line commit (error.NoCar e) = line (codes "the blocks are no CAR file of version 1: " ++ fault_name e)
refused_line commit (error.NoCommit e) = repo_line commit e
refused_line commit (error.NotUndone e) = undo_line e
refused_line commit e = line (refused_words e)
