-- The numbers returned for frames of a host's stream; `negsuc n` is - 1 - n.
use Rattle.std.specs.Prelude.{ℕ, ℤ, pos, negsuc, List, [], Option, None, Some}
use Rattle.ipld_tree.specs.Cid.{CidParts, cid_bytes}
use Rattle.atproto_events.specs.declared.body.Frame.{Frame}
use Rattle.atproto_events.specs.declared.body.Frame.TheVariants as frame
use Rattle.atproto_events.specs.declared.frame_error.FrameError.{FrameError}
use Rattle.atproto_events.specs.declared.frame_error.FrameError.TheVariants as unread
use Rattle.atproto_events.specs.declared.error.UndoError.{UndoError}
use Rattle.atproto_events.specs.declared.error.UndoError.TheVariants as undo
use Rattle.atproto_events.specs.declared.refusal.EventError.{EventError}
use Rattle.atproto_events.specs.declared.refusal.EventError.TheVariants as error

-- the number of the kind of a frame, at least 0
abbrev pub frame_kind : Frame → ℤ
frame_kind (frame.Commit f) = pos 0
frame_kind (frame.Sync f) = pos 1
frame_kind (frame.Identity e) = pos 2
frame_kind (frame.Account e) = pos 3
frame_kind (frame.Info e) = pos 4
frame_kind (frame.Error e) = pos 5
frame_kind (frame.Other name) = pos 6

-- the number of why no frame is read
abbrev pub frame_code : FrameError → ℤ
frame_code unread.OutOfMemory = negsuc 41
frame_code unread.NoEnd = negsuc 60
frame_code (unread.NoHeader e) = negsuc 61
frame_code (unread.OtherOperation n) = negsuc 62
frame_code unread.NoKind = negsuc 63
frame_code (unread.NoBody e) = negsuc 64

-- the number of why changes cannot be undone
abbrev pub undo_code : UndoError → ℤ
undo_code undo.OutOfMemory = negsuc 41
undo_code (undo.MissingNode node) = negsuc 81
undo_code (undo.OtherBytes node) = negsuc 82
undo_code (undo.NoNode node) = negsuc 83
undo_code undo.OtherTree = negsuc 84
undo_code undo.KeyLength = negsuc 85
undo_code undo.OtherState = negsuc 86

-- the number of why a commit is not verified
abbrev pub event_code : EventError → ℤ
event_code error.OutOfMemory = negsuc 41
event_code error.TooBig = negsuc 67
event_code error.Rebase = negsuc 68
event_code error.ManyOperations = negsuc 69
event_code error.ManyBytes = negsuc 70
event_code error.NotAfter = negsuc 71
event_code error.OtherRoot = negsuc 72
event_code error.NoRoot = negsuc 73
event_code error.OtherForm = negsuc 74
event_code (error.NoCar e) = negsuc 75
event_code error.OtherCommit = negsuc 76
event_code (error.NoCommit e) = negsuc 77
event_code error.OtherRepository = negsuc 78
event_code error.OtherRevision = negsuc 79
event_code error.LeadsElsewhere = negsuc 80
event_code (error.NotUndone e) = undo_code e

-- the node because of which changes cannot be undone
abbrev pub node_of_undo : UndoError → Option CidParts
node_of_undo (undo.MissingNode node) = Some node
node_of_undo (undo.OtherBytes node) = Some node
node_of_undo (undo.NoNode node) = Some node
node_of_undo _ = None

abbrev pub node_of : EventError → Option CidParts
node_of (error.NotUndone e) = node_of_undo e
node_of _ = None

-- the binary form of a CID, or no bytes
abbrev pub form_of : Option CidParts → List ℕ
form_of None = []
form_of (Some c) = cid_bytes c
