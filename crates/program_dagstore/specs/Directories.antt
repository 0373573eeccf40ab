-- What is under a path of names, read from a store block by block.
use Rattle.std.specs.Prelude.{◌≡◌, ◌⊎◌, ℕ, List, map}
use Rattle.ipld_tree.specs.Cid.{CidParts}
use Rattle.dag_pb.specs.Node.{LinkParts, NodeParts, IsNode}
use Rattle.ipld_links.specs.Reaching.{Stored}
use Rattle.ipld_links.specs.Sets.{Among}
use Rattle.files_unix_fs.specs.declared.entity.Entity.TheVariants.{Directory}
use Rattle.program_parts.specs.FileNames.{LeadsByNames}
use Rattle.program_parts.specs.Entries.{IsEntityAt}
use Rattle.program_dagstore.specs.Contents.{IsOnTheWay}

-- ---- which blocks are read

-- one of the links leads to the block of this name
abbrev pub IsLinked : List LinkParts → Stored → CidParts → Type 0
IsLinked links stored name = Among name (map (λ link. link.hash) links)

-- this is the name of the block under the CID; or that block is a directory, and one of its links
-- leads to this name
abbrev pub IsOfEntries : CidParts → Stored → CidParts → Type 0
IsOfEntries cid stored name = (name ≡ cid)
    ⊎ ((b : List ℕ) × IsEntityAt stored cid b Directory
    × ((node : NodeParts) × IsNode b node × IsLinked node.links stored name))

-- the block of this name is on the path's way, or is among those listed for the block to which it
-- leads
abbrev pub IsOfListing : CidParts → List (List ℕ) → Stored → CidParts → Type 0
IsOfListing root path stored name = IsOnTheWay root path stored name
    ⊎ ((found : CidParts) × LeadsByNames stored root path found × IsOfEntries found stored name)
