-- The body of a frame of each kind.
use Rattle.std.specs.Prelude.{◌≡◌, ◌≢◌, ◌⊎◌, ℕ, List, map, option_map, string_bytes, ⊤}
use Rattle.dagcbor_core.specs.Steps.{default_steps}
use Rattle.dagcbor_core.specs.declared.error.DecodeError.TheVariants as unread
use Rattle.ipld_tree.specs.Cid.{cid_bytes}
use Rattle.dagcbor_read.specs.Whole.{IsWhole, HoldsNoValue}
use Rattle.ipld_links.specs.Blocks.{HasBlock}
use Rattle.types_events.specs.Events.{RepoOpView, CommitEventView, SyncEventView, IdentityEventView, AccountEventView, InfoEventView, ErrorEventView}
use Rattle.types_events.specs.Events.{commit_event_shape, sync_event_shape, identity_event_shape, account_event_shape, info_event_shape, error_event_shape}
use Rattle.types_events.specs.declared.events.RepoOp.{RepoOp}
use Rattle.types_events.specs.declared.events.CommitEvent.{CommitEvent}
use Rattle.types_events.specs.declared.events.SyncEvent.{SyncEvent}
use Rattle.types_events.specs.declared.events.IdentityEvent.{IdentityEvent}
use Rattle.types_events.specs.declared.events.AccountEvent.{AccountEvent}
use Rattle.types_events.specs.declared.events.InfoEvent.{InfoEvent}
use Rattle.types_events.specs.declared.events.ErrorEvent.{ErrorEvent}
use Rattle.atproto_events.specs.Blocks.{event_blocks_shape}
use Rattle.atproto_events.specs.declared.frame_error.FrameError.{FrameError}
use Rattle.atproto_events.specs.declared.frame_error.FrameError.TheVariants as error
use Rattle.atproto_events.specs.declared.kind.Kind.{Kind}
use Rattle.atproto_events.specs.declared.kind.Kind.TheVariants as kind
use Rattle.atproto_events.specs.declared.body.CommitFrame.{CommitFrame}
use Rattle.atproto_events.specs.declared.body.SyncFrame.{SyncFrame}
use Rattle.atproto_events.specs.declared.body.Frame.{Frame}
use Rattle.atproto_events.specs.declared.body.Frame.TheVariants as frame

-- ---- what the values say

abbrev pub op_told : RepoOp → RepoOpView
op_told v = (v.action, (string_bytes v.path, (option_map cid_bytes v.cid, (option_map (option_map cid_bytes) v.prev, tt))))

abbrev pub commit_told : CommitEvent → CommitEventView
commit_told v = (
  v.seq,
  (
    v.rebase,
    (
      v.too_big,
      (
        string_bytes v.repo,
        (
          cid_bytes v.commit,
          (
            string_bytes v.rev,
            (
              option_map string_bytes v.since,
              (
                map op_told v.ops.items,
                (
                  map cid_bytes v.blobs.items,
                  (option_map (option_map cid_bytes) v.prev_data, (string_bytes v.time, tt)),
                ),
              ),
            ),
          ),
        ),
      ),
    ),
  ),
)

abbrev pub sync_told : SyncEvent → SyncEventView
sync_told v = (v.seq, (string_bytes v.did, (string_bytes v.rev, (string_bytes v.time, tt))))

abbrev pub identity_told : IdentityEvent → IdentityEventView
identity_told v = (v.seq, (string_bytes v.did, (string_bytes v.time, (option_map string_bytes v.handle, tt))))

abbrev pub account_told : AccountEvent → AccountEventView
account_told v = (v.seq, (string_bytes v.did, (string_bytes v.time, (v.active, (option_map string_bytes v.status, tt)))))

abbrev pub info_told : InfoEvent → InfoEventView
info_told v = (string_bytes v.name, (option_map string_bytes v.message, tt))

abbrev pub error_told : ErrorEvent → ErrorEventView
error_told v = (string_bytes v.error, (option_map string_bytes v.message, tt))

-- ---- the body

-- the bytes are a body that has this CAR file
abbrev pub HasFile : List ℕ → List ℕ → Type 0
HasFile body file = IsWhole event_blocks_shape default_steps body (file, tt)

abbrev pub IsCommitBody : List ℕ → CommitFrame → Type 0
IsCommitBody body f = IsWhole commit_event_shape default_steps body (commit_told f.event) × HasFile body f.blocks.now

abbrev pub IsSyncBody : List ℕ → SyncFrame → Type 0
IsSyncBody body f = IsWhole sync_event_shape default_steps body (sync_told f.event) × HasFile body f.blocks.now

-- the bytes are a body of this kind, decoded as the frame; the body of another kind is any block
abbrev pub IsBody : Kind → List ℕ → Frame → Type 0
IsBody kind.Commit body (frame.Commit f) = IsCommitBody body f
IsBody kind.Sync body (frame.Sync f) = IsSyncBody body f
IsBody kind.Identity body (frame.Identity e) = IsWhole identity_event_shape default_steps body (identity_told e)
IsBody kind.Account body (frame.Account e) = IsWhole account_event_shape default_steps body (account_told e)
IsBody kind.Info body (frame.Info e) = IsWhole info_event_shape default_steps body (info_told e)
IsBody kind.Error body (frame.Error e) = IsWhole error_event_shape default_steps body (error_told e)
IsBody (kind.Other name) body (frame.Other other) = (other ≡ name) × HasBlock body
IsBody _ body _ = ⊥

-- ---- why it is not read

-- out of memory; or the body is not valid, for this cause
abbrev pub BodyRefused : Type 0 → FrameError → Type 0
BodyRefused none error.OutOfMemory = ⊤
BodyRefused none (error.NoBody e) = none × (e ≢ unread.OutOfMemory)
BodyRefused none _ = ⊥

-- the bytes are not a body of the kind
abbrev pub IsNoBody : Kind → List ℕ → Type 0
IsNoBody kind.Commit body = HoldsNoValue commit_event_shape default_steps body ⊎ HoldsNoValue event_blocks_shape default_steps body
IsNoBody kind.Sync body = HoldsNoValue sync_event_shape default_steps body ⊎ HoldsNoValue event_blocks_shape default_steps body
IsNoBody kind.Identity body = HoldsNoValue identity_event_shape default_steps body
IsNoBody kind.Account body = HoldsNoValue account_event_shape default_steps body
IsNoBody kind.Info body = HoldsNoValue info_event_shape default_steps body
IsNoBody kind.Error body = HoldsNoValue error_event_shape default_steps body
IsNoBody (kind.Other name) body = ¬ HasBlock body
