-- The lines that say why a repository is not read. Out of memory has no line.
use Rattle.std.specs.Prelude.{ℕ, List, [], ◌++◌, codes, decimal, ⊤}
use Rattle.ipld_tree.specs.Cid.{CidParts}
use Rattle.text_cid.specs.Texts.{cid_text}
use Rattle.dagcbor_core.specs.Names.{name_bytes}
use Rattle.dagcbor_core.specs.declared.error.DecodeError.{DecodeError}
use Rattle.dagcbor_core.specs.declared.error.DecodeError.TheVariants as refusals
use Rattle.dagcbor_decode.specs.PrintedNames.{variant_name}
use Rattle.program_parts.specs.Codecs.{codec_text}
use Rattle.program_parts.specs.Lines.{line, missing_line}
use Rattle.atproto_mst.specs.declared.error.MstError.{MstError}
use Rattle.atproto_mst.specs.declared.error.MstError.TheVariants as unread
use Rattle.atproto_mst.specs.declared.repo_error.RepoError.{RepoError}
use Rattle.atproto_mst.specs.declared.repo_error.RepoError.TheVariants as error

-- the cause is not out of memory
abbrev pub IsOfTree : MstError → Type 0
IsOfTree unread.OutOfMemory = ⊥
IsOfTree _ = ⊤

abbrev pub IsOfRepo : RepoError → Type 0
IsOfRepo error.OutOfMemory = ⊥
IsOfRepo (error.Tree e) = IsOfTree e
IsOfRepo _ = ⊤

-- a CID, and what is wrong with it
abbrev pub name_fault_line : CidParts → List ℕ → List ℕ
name_fault_line name words = line (cid_text name ++ words)

-- why a tree is not read
abbrev pub tree_line : MstError → List ℕ
tree_line unread.OutOfMemory = []
tree_line unread.KeyLength = line (codes "a key has no byte, or more than 1024")
tree_line unread.KeyOrder = line (codes "the keys do not rise")
tree_line unread.KeyFront = line (codes "an entry shares more bytes with the key before it than that has")
tree_line (unread.MissingNode name) = missing_line name
tree_line (unread.OtherBytes name) = name_fault_line name (codes " other bytes")
tree_line (unread.NoNode name) = name_fault_line name (codes " is no node")
tree_line (unread.TooDeep name) = name_fault_line name (codes " stands below 129 nodes")
tree_line unread.OtherTree = line (codes "the nodes are not those of the tree of their entries")

-- why a block is not a commit: the message, such as `missing field`; or the name of the error
abbrev pub cause_text : {E : Type 0} → DecodeError E → List ℕ
cause_text (refusals.Msg message) = name_bytes message
cause_text e = variant_name e

-- why the repository of this commit is not read
abbrev pub repo_line : CidParts → RepoError → List ℕ
repo_line name error.OutOfMemory = []
repo_line name error.Missing = missing_line name
repo_line name error.OtherBytes = name_fault_line name (codes " other bytes")
repo_line name (error.NoCommit e) = name_fault_line name (codes " is no commit: " ++ cause_text e)
repo_line name (error.OtherVersion n) =
    name_fault_line name (codes " is a commit of version " ++ decimal n)
repo_line name (error.Tree e) = tree_line e

-- the line for a file without a root
abbrev pub no_root_line : List ℕ
no_root_line = line (codes "the file has no commit: it has no root")

-- the line for a tree that has no record of the key
abbrev pub no_record_line : List ℕ
no_record_line = line (codes "no record has the key")

-- the line for a record whose CID has another codec than DAG-CBOR
abbrev pub other_codec_line : CidParts → List ℕ
other_codec_line name = name_fault_line name (codes " is " ++ (codec_text name.codec ++ codes ", not dag-cbor"))
