-- Links as values of a type.
use Rattle.std.proofs.Common.{◌≡◌, true, false, is_err, Result, Ok, Err, MatchResult}
use Rattle.dagcbor_heads.specs.Reading.{Reading}
use Rattle.dagcbor_heads.specs.Refusals.{Refuses}
use Rattle.dagcbor_core.specs.declared.error.DecodeError.{DecodeError}
use Rattle.dagcbor_heads.proofs.Taking.{stays}
use Rattle.dagcbor_heads.proofs.Refusing.{passed_on}
use Rattle.ipld_tree.specs.Cid.{CidParts, cid_bytes}
use Rattle.dagcbor_items.specs.ReadCauses.{LinkCause}
use Rattle.dagcbor_items.specs.Links.{ReadsLink}
use Rattle.dagcbor_read.specs.Deserializers.{DeState, Call}
use Rattle.dagcbor_items.specs.TypedReads.{HasFront, TakesFront, Reads, Anything}
use Rattle.dagcbor_read.specs.Values.{ReadsValue}
use Rattle.dagcbor_items.specs.Shapes.{view_link, leaf}
use Rattle.dagcbor_read.proofs.Progressing.{call_told}

link_read : {E : Type 0} (old new : Reading) (r : Result CidParts (DecodeError E)) → ReadsLink old r new → Reads cid_bytes (leaf view_link) (false ≡ true) (false ≡ true) Anything old r new
link_read old new (Ok c) h = h
link_read old new (Err e) h = passed_on LinkCause Anything old old new e (stays old) (λ x. x) (λ x. absurd x) (λ x. absurd x) (λ b l. (b, l, λ s. tt)) h

-- what a call did on what had not failed
value_read : {E : Type 0} (old new : DeState) (r : Result CidParts (DecodeError E)) → (new.failed ≡ is_err r) × Reads cid_bytes (leaf view_link) (false ≡ true) (false ≡ true) Anything old.input r new.input
    → MatchResult r (λ v. (new.failed ≡ false) × TakesFront (leaf view_link) old.input (cid_bytes v) new.input) (λ e. Refuses (record { could = HasFront (leaf view_link) old.input; lacks = false ≡ true; borrows = false ≡ true; stands = Anything }) old.input e new.input)
value_read old new (Ok v) h = h
value_read old new (Err e) h = h.1

pub link_value : {E : Type 0} (old new : DeState) (r : Result CidParts (DecodeError E)) → Call ReadsLink old r new → ReadsValue cid_bytes (leaf view_link) old r new
link_value old new r h = λ sound. let t = call_told ReadsLink old new r sound h in value_read old new r (t.0, link_read old.input new.input r t.1)
