-- The CAR file that proves a record.
use Rattle.std.specs.Prelude.{◌≡◌, ◌⊎◌, ℕ, List, [], ◌∷◌, ◌++◌, Bool, true, Option, None, Some, IfSome, option_to_list}
use Rattle.ipld_tree.specs.Cid.{CidParts, cid_bytes}
use Rattle.ipld_links.specs.Reaching.{Stored}
use Rattle.ipld_links.specs.Verdicts.{IsVerified, IsVerdict}
use Rattle.ipld_links.specs.declared.verdict.Verdict.{Verdict}
use Rattle.files_car.specs.Car.{IsCar}
use Rattle.files_car.specs.Reached.{sections_at}
use Rattle.ipld_paths.specs.Resolving.{AreOnceEach}
use Rattle.atproto_mst.specs.Walks.{most_layers}
use Rattle.atproto_mst.specs.Finding.{FindsRecord, FindStops, IsWay}
use Rattle.atproto_mst.specs.Repos.{IsStoredCommit}
use Rattle.types_repository.specs.declared.repository.Commit.{Commit}
use Rattle.atproto_mst.specs.declared.error.MstError.{MstError}
use Rattle.program_parts.specs.Lines.{missing_line, verdict_line}
use Rattle.program_records.specs.Keys.{IsNamedBy}
use Rattle.program_records.specs.Words.{IsOfTree, tree_line}
use Rattle.program_records.specs.Records.{IsToldAlone}
use Rattle.program_records.specs.Commits.{IsNoCommitTold}

-- the CIDs of the blocks that decide: the commit, the nodes on the way to the key, and its record,
-- if the tree has one
abbrev pub deciding : CidParts → List CidParts → Option CidParts → List CidParts
deciding root way found = root ∷ (way ++ option_to_list found)

-- bytes are stored under the record's CID, and match it
abbrev pub IsThereVerified : Stored → CidParts → Type 0
IsThereVerified stored name = (b : List ℕ) × (stored name ≡ Some b) × IsVerified (name, b)

-- The CAR file (version 1) whose root is the commit, of the blocks that decide, each once. The
-- record, if there is one, is stored, and its bytes match its CID.
pub record IsRecordProof (stored : Stored) (root : CidParts) (way : List CidParts) (found : Option CidParts) (out : List ℕ) : Type 0 where
  pub there : IfSome found (IsThereVerified stored)
  pub once : List CidParts
  pub each : AreOnceEach (deciding root way found) once
  pub file : IsCar out (cid_bytes root ∷ []) (sections_at stored once)

-- the bytes do not match the record's CID, and the message is the verdict on them
abbrev pub AreOtherBytesTold : CidParts → List ℕ → Bool → List ℕ → List ℕ → Type 0
AreOtherBytesTold name b well out told = (¬ IsVerified (name, b)) × ((v : Verdict)
    × IsVerdict (name, b) v × IsToldAlone (verdict_line ((name, b), v)) well out told)

-- the record of this CID is not stored, or other bytes are
abbrev pub IsRecordLost : Stored → CidParts → Bool → List ℕ → List ℕ → Type 0
IsRecordLost stored name well out told =
    ((stored name ≡ None) × IsToldAlone (missing_line name) well out told)
    ⊎ ((b : List ℕ) × (stored name ≡ Some b) × AreOtherBytesTold name b well out told)

-- the output is the proof; or there is a record, but it is not stored
abbrev pub IsProofGiven : Stored → CidParts → List CidParts → Option CidParts → Bool → List ℕ → List ℕ → Type 0
IsProofGiven stored root way found well out told =
    (IsRecordProof stored root way found out × (well ≡ true) × (told ≡ []))
    ⊎ ((name : CidParts) × (found ≡ Some name) × IsRecordLost stored name well out told)

-- For the key in the tree of this root: the CAR file of the nodes on its way and of its record, if
-- it has one; or why the record is not known.
abbrev pub IsProofSaid : Stored → List ℕ → CidParts → CidParts → Bool → List ℕ → List ℕ → Type 0
IsProofSaid stored key root tree well out told =
    ((way : List CidParts) × (found : Option CidParts) × IsWay most_layers stored key tree way
    × FindsRecord most_layers stored key tree found × IsProofGiven stored root way found well out told)
    ⊎ ((e : MstError) × FindStops most_layers stored key tree e × IsOfTree e
    × IsToldAlone (tree_line e) well out told)

-- for the key in the tree of the commit of this CID; or that there is no commit
abbrev pub IsProofAt : List ℕ → Stored → CidParts → Bool → List ℕ → List ℕ → Type 0
IsProofAt key stored root well out told = ((c : Commit) × IsStoredCommit stored root c
    × IsProofSaid stored key root c.data well out told)
    ⊎ IsNoCommitTold stored root well out told

-- the same for the key that the word names
abbrev pub IsProofOf : List ℕ → Stored → CidParts → Bool → List ℕ → List ℕ → Type 0
IsProofOf word stored root well out told =
    (key : List ℕ) × IsNamedBy word key × IsProofAt key stored root well out told
