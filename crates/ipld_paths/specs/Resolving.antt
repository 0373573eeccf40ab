-- Resolving a path over blocks, whatever stores them.
use Rattle.std.specs.Prelude.{◌≡◌, ◌≢◌, ◌↔◌, ◌⊎◌, ℕ, zero, suc, ◌+◌, ◌-◌, ◌^◌, List, [], ◌∷◌, ◌++◌, length, ⊤, Option, None, Some, MatchOption}
use Rattle.ipld_tree.specs.Cid.{CidParts, AreCidParts, cid_bytes}
use Rattle.ipld_tree.specs.Tree.{Tree, link}
use Rattle.dagcbor_decode.specs.Blocks.{IsBlock}
use Rattle.dagcbor_decode.specs.TreeKinds.{kind_of}
use Rattle.dag_pb_model.specs.Model.{IsNodeOf}
use Rattle.dag_pb_model.specs.Refusals.{HasNoModel}
use Rattle.dag_pb_model.specs.declared.error.ModelError.TheVariants.{NameNotText}
use Rattle.ipld_paths.specs.Paths.{segments, At}
use Rattle.ipld_paths.specs.Finding.{StandAt, LeadsInto, HasNoPart}
use Rattle.ipld_links.specs.Sets.{Among}
use Rattle.ipld_links.specs.Reaching.{Stored, AreBytesOf, Lists}
use Rattle.ipld_links.specs.Verdicts.{IsVerified, IsDagCbor, IsDagPb, IsVerdict}
use Rattle.ipld_links.specs.declared.verdict.Verdict.{Verdict}
use Rattle.ipld_links.specs.declared.verdict.Verdict.TheVariants.{Block, Node}
use Rattle.ipld_paths.specs.declared.resolution.End.{End}
use Rattle.ipld_paths.specs.declared.resolution.End.TheVariants as ends
use Rattle.ipld_paths.specs.declared.item.Readable.{Readable}
use Rattle.ipld_paths.specs.declared.item.Readable.TheVariants as readable
use Rattle.ipld_paths.specs.declared.resolution.Step.{Step}
use Rattle.ipld_paths.specs.declared.resolution.Step.TheVariants as steps
use Rattle.ipld_paths.specs.declared.resolution.Resolved.{Resolved}

-- The bytes, of the name's codec, are read as this block of DAG-CBOR: bytes of DAG-CBOR as they
-- are, and a node of DAG-PB as the block of its data model.
abbrev pub IsReadAs : CidParts → List ℕ → List ℕ → Type 0
IsReadAs name b block = (IsDagCbor name × (b ≡ block))
    ⊎ (IsDagPb name × ((t : Tree) × IsNodeOf b t × IsBlock block t))

-- the bytes under the name match it, and are read as this block
abbrev pub IsReadUnder : Stored → CidParts → List ℕ → Type 0
IsReadUnder stored name block = (b : List ℕ) × AreBytesOf stored name b × IsVerified (name, b)
    × IsReadAs name b block

-- In the block that is read under the name, a first part of the path leads to a link to `next`, and
-- the segments `left` are left there.
abbrev pub LeadsOn : Stored → CidParts → List (List ℕ) → CidParts → List (List ℕ) → Type 0
LeadsOn stored name path next left = AreCidParts next × ((b : List ℕ) × (t : Tree) × IsReadUnder stored name b
    × LeadsInto b path left t (link (cid_bytes next)) × (left ≢ []))

-- the verdict says neither that the bytes are a block nor that they are a node
abbrev pub IsNoBlock : Verdict → Type 0
IsNoBlock (Block kind) = ⊥
IsNoBlock Node = ⊥
IsNoBlock _ = ⊤

-- the bytes under the name match it, and are a node without a data
-- model, because the name of a link is not UTF-8
abbrev pub HasNoModelUnder : Stored → CidParts → Type 0
HasNoModelUnder stored name = (b : List ℕ) × AreBytesOf stored name b × IsVerified (name, b)
    × IsDagPb name × HasNoModel b NameNotText

-- the bytes under the name are a node with a data model, for which memory is needed
abbrev pub HasModelUnder : Stored → CidParts → Type 0
HasModelUnder stored name = (b : List ℕ) × AreBytesOf stored name b × IsDagPb name
    × ((t : Tree) × IsNodeOf b t)

-- a node with a data model is under some name
abbrev pub HoldsModel : Stored → Type 0
HoldsModel stored = (name : CidParts) × HasModelUnder stored name

-- How the path ends at the block that is read under the name: at the item at this place; or at an
-- item that is not a link, and the next segment leads nowhere; or no bytes are under the name; or
-- they do not match it, or are not a block; or they are a node without a data model.
abbrev pub EndsAs : Stored → CidParts → List (List ℕ) → End → Type 0
EndsAs stored name path (ends.Item kind place end) = (b : List ℕ) × (t u : Tree) × IsReadUnder stored name b
    × IsBlock b t × At path t u × (kind ≡ kind_of u)
    × ((part : List ℕ) × IsBlock part u × StandAt b place part × (end ≡ place + length part))
EndsAs stored name path (ends.NoSuchPath left) = (b : List ℕ) × (t u : Tree) × IsReadUnder stored name b
    × LeadsInto b path (segments left.now) t u × HasNoPart (segments left.now) u
    × ((cid : List ℕ) → u ≢ link cid)
EndsAs stored name path ends.NotHeld = (b : List ℕ) → ¬ AreBytesOf stored name b
EndsAs stored name path (ends.NoBlock verdict) = (b : List ℕ) × AreBytesOf stored name b
    × IsVerdict (name, b) verdict × IsNoBlock verdict
EndsAs stored name path ends.NoModel = HasNoModelUnder stored name
EndsAs stored name path ends.Endless = ⊤

-- Over n links, the path leads from the block under the name to the one at which it ends.
abbrev pub ResolvesIn : ℕ → Stored → CidParts → List (List ℕ) → Resolved → Type 0
ResolvesIn zero stored name path r = (r.block ≡ name) × (segments r.path.now ≡ path)
    × EndsAs stored name path r.end
ResolvesIn (suc n) stored name path r = (next : CidParts) × (left : List (List ℕ))
    × LeadsOn stored name path next left × ResolvesIn n stored next left r

-- the path is given up only after 2 ^ 64 - 1 blocks
abbrev pub IsEndlessAfter : ℕ → End → Type 0
IsEndlessAfter n ends.Endless = n ≡ 2 ^ 64 - 1
IsEndlessAfter n _ = ⊤

-- the path is resolved over the stored blocks
abbrev pub Resolves : Stored → CidParts → List (List ℕ) → Resolved → Type 0
Resolves stored root path r = (n : ℕ) × ResolvesIn n stored root path r × IsEndlessAfter n r.end

-- ---- the way

-- The path goes on from the block under the name to the first of these, from each to the next, and
-- from the last to no other.
abbrev pub GoesOver : Stored → CidParts → List (List ℕ) → List CidParts → Type 0
GoesOver stored name path [] = (next : CidParts) (left : List (List ℕ)) → ¬ LeadsOn stored name path next left
GoesOver stored name path (next ∷ more) = (left : List (List ℕ)) × LeadsOn stored name path next left
    × GoesOver stored next left more

-- the names of the blocks on the way of the path, in order: the root's, and those it goes
-- over
abbrev pub AreOnTheWay : Stored → CidParts → List (List ℕ) → List CidParts → Type 0
AreOnTheWay stored root path names = (more : List CidParts) × (names ≡ root ∷ more)
    × GoesOver stored root path more

-- Each of the names once, in the order in which they first come.
pub record AreOnceEach (names once : List CidParts) : Type 0 where
  pub lists : Lists (λ q. Among q names) once
  pub order : (before following : List CidParts) (q : CidParts) → names ≡ before ++ q ∷ following
      → ¬ Among q before → (front rest : List CidParts) × (once ≡ front ++ q ∷ rest)
      × ((r : CidParts) → Among r front ↔ Among r before)

-- ---- one block

abbrev pub IsStep : Stored → CidParts → List (List ℕ) → Step → Type 0
IsStep stored name path (steps.Ends end) = EndsAs stored name path end × ((n : ℕ) → IsEndlessAfter n end)
IsStep stored name path (steps.GoesOn next) = LeadsOn stored name path next.block (segments next.path.now)

-- the bytes under the name; `None` if there are none
abbrev pub FindsBytes : {A : Type 0} → (A → List ℕ) → Stored → CidParts → Option A → Type 0
FindsBytes bytes_of stored name None = (b : List ℕ) → ¬ AreBytesOf stored name b
FindsBytes bytes_of stored name (Some a) = AreBytesOf stored name (bytes_of a)

-- ---- parts of a block

-- the bytes of the block from the first place to the second, if an item is there
abbrev pub GivesBetween : {A : Type 0} → (A → List ℕ) → List ℕ → ℕ → ℕ → Option A → Type 0
GivesBetween bytes_of block place end result = (part : List ℕ) → StandAt block place part
    → end ≡ place + length part → MatchOption result ⊥ (λ a. bytes_of a ≡ part)

abbrev pub readable_bytes : Readable → List ℕ
readable_bytes (readable.Stored b) = b.now
readable_bytes (readable.Made v) = v.items
