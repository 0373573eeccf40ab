-- What is under a path of names, read from a store block by block.
use Rattle.std.proofs.Common.{inl, ℕ, List, Bool, Option, Err}
use Rattle.std.proofs.KnownBytes.{Appends-nil}
use Rattle.dag_pb.specs.Node.{LinkParts, NodeParts, IsNode}
use Rattle.ipld_links.specs.Reaching.{Stored}
use Rattle.ipld_links.proofs.Members.{among_map}
use Rattle.program_parts.proofs.Listing.{IsListedTo, GivesLink, next_linked}
use Rattle.program_dagstore.specs.Directories.{IsLinked}
use Rattle.program_dagstore.specs.Said.{SaysAll}
use Rattle.program_dagstore.specs.declared.fault.Fault.{Fault}
use Rattle.program_dagstore.specs.declared.fault.Fault.TheVariants as fault

-- the link that is next leads to the block of this name
pub linked : (stored : Stored) (block links following : List ℕ) (link : LinkParts) (well : Bool) (out : List ℕ) (node : NodeParts) → IsNode block node → IsListedTo stored block links well out → GivesLink links link following → IsLinked node.links stored link.hash
linked stored block links following link well out node is h next = among_map (λ (l : LinkParts). l.hash) link node.links (next_linked stored block links following link well out node is h next)

-- nothing is written
pub none_said : (IsSaid : Bool → List ℕ → List ℕ → Type 0) (old heard : Option (List ℕ)) (e : Fault) → SaysAll IsSaid old heard (Err e) old heard
none_said IsSaid old heard (fault.Store told) = (Appends-nil old, Appends-nil heard)
none_said IsSaid old heard (fault.Tool e) = inl (Appends-nil old, Appends-nil heard)
