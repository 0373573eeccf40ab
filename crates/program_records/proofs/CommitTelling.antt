-- The output for a commit, and for a record that is proved.
use Rattle.std.proofs.Common.{◌≡◌, ◌⊎◌, inl, inr, ℕ, List, [], ◌∷◌, Bool, true, false, refl, ◌∙◌, subst, sym, Result, Ok, Err, IfErr, IsErrAnd, MatchResult, Vec}
use Rattle.std.specs.declared.alloc.Global.{Global}
use Rattle.ipld_tree.specs.Cid.{CidParts}
use Rattle.ipld_links.specs.Reaching.{Stored}
use Rattle.atproto_mst.specs.Walks.{most_layers}
use Rattle.atproto_mst.specs.Finding.{FindStops}
use Rattle.atproto_mst.specs.Stops.{IsStoredNamed}
use Rattle.atproto_mst.specs.Repos.{IsStoredCommit, CommitRefused}
use Rattle.types_repository.specs.declared.repository.Commit.{Commit}
use Rattle.atproto_mst.specs.declared.error.MstError.{MstError}
use Rattle.atproto_mst.specs.declared.error.MstError.TheVariants.{OutOfMemory}
use Rattle.atproto_mst.specs.declared.repo_error.RepoError.{RepoError}
use Rattle.atproto_mst.specs.declared.repo_error.RepoError.TheVariants as error
use Rattle.program_records.specs.Keys.{IsNamedBy}
use Rattle.program_records.specs.Words.{IsOfRepo, repo_line, no_root_line}
use Rattle.program_records.specs.Repositories.{IsFileHeld}
use Rattle.program_records.specs.Records.{IsToldAlone}
use Rattle.program_records.proofs.Telling.{of_first}
use Rattle.program_records.specs.Commits.{commit_lines, IsNoCommitTold, IsCommitSaid, OfRoots, OfFile, IsCommitFile, IsNoCommitFile}
use Rattle.program_records.specs.Proofs.{IsProofSaid, IsProofAt, IsProofOf}

-- a refusal of the tree, in fewer words
pub refused_so : {A : Type 0} (stored : Stored) (key : List ℕ) (tree : CidParts) (r : Result A MstError) (x : MstError) → IsErrAnd r (λ e. e ≡ x) → ((x ≡ OutOfMemory) × IsStoredNamed stored tree) ⊎ FindStops most_layers stored key tree x → IfErr r (λ e. (e ≡ OutOfMemory) ⊎ FindStops most_layers stored key tree e)
refused_so stored key tree (Ok a) x is h = tt
refused_so stored key tree (Err e) x is (inl k) = inl (is ∙ k.0)
refused_so stored key tree (Err e) x is (inr k) = inr (subst (FindStops most_layers stored key tree) (sym is) k)

pub no_commit : (stored : Stored) (root : CidParts) (e : RepoError) (line : List ℕ) → CommitRefused stored root e → ((c : Commit) → IsStoredCommit stored root c → e ≡ error.OutOfMemory) → IsOfRepo e → line ≡ repo_line root e → IsNoCommitTold stored root false [] line
no_commit stored root e line refused whole is h = ((λ c k. subst IsOfRepo (whole c k) is), (e, refused, is, (refl, refl, h)))

-- ---- of a file

-- a line that is the only message has the form of the relation
pub said_alone : (IsSaid : Bool → List ℕ → List ℕ → Type 0) (line : List ℕ) (well : Bool) (out told : List ℕ) → IsSaid false [] line → IsToldAlone line well out told → IsSaid well out told
said_alone IsSaid line well out told is h =
    subst (λ w. IsSaid w out told) (sym h.0) (subst (λ o. IsSaid false o told) (sym h.1) (subst (IsSaid false []) (sym h.2) is))

-- what holds for the output for a root holds in other words
of_roots : (P Q : Stored → CidParts → Bool → List ℕ → List ℕ → Type 0) (stored : Stored) (roots : List CidParts) (well : Bool) (out told : List ℕ) → ((root : CidParts) → P stored root well out told → Q stored root well out told) → OfRoots P stored roots well out told → OfRoots Q stored roots well out told
of_roots P Q stored [] well out told f h = h
of_roots P Q stored (root ∷ others) well out told f h = f root h

pub of_file : (P Q : Stored → CidParts → Bool → List ℕ → List ℕ → Type 0) (b : List ℕ) (well : Bool) (out told : List ℕ) → ((stored : Stored) (root : CidParts) → P stored root well out told → Q stored root well out told) → OfFile P b well out told → OfFile Q b well out told
of_file P Q b well out told f (inl h) = inl (h.0, h.1, h.2, of_roots P Q h.1 h.0 well out told (f h.1) h.3)
of_file P Q b well out told f (inr h) = inr h

-- a commit read from the stored blocks of a file is read from the file
pub commit_read : (b : List ℕ) (roots : List CidParts) (stored : Stored) (r : Result (CidParts × Commit) (Vec ℕ Global)) → IsFileHeld b roots stored → MatchResult r (λ p. (others : List CidParts) × (roots ≡ p.0 ∷ others) × IsStoredCommit stored p.0 p.1) (λ line. OfRoots IsNoCommitTold stored roots false [] line.items) → MatchResult r (λ p. IsCommitFile b p.0 p.1) (λ line. IsNoCommitFile b line.items)
commit_read b roots stored (Ok p) held h = (h.0, stored, subst (λ rs. IsFileHeld b rs stored) h.1 held, h.2)
commit_read b roots stored (Err line) held h = inl (roots, stored, held, h)

-- the output for a file's commit
pub commit_said : (b : List ℕ) (name : CidParts) (c : Commit) (well : Bool) (out told : List ℕ) → IsCommitFile b name c → well ≡ true → out ≡ commit_lines name c → told ≡ [] → OfFile IsCommitSaid b well out told
commit_said b name c well out told h is lines none = inl (name ∷ h.0, h.1, h.2, inl (c, h.3, is, lines, none))

pub no_commit_said : (b : List ℕ) (line : List ℕ) (well : Bool) (out told : List ℕ) → IsNoCommitFile b line → IsToldAlone line well out told → OfFile IsCommitSaid b well out told
no_commit_said b line well out told is h = of_file IsNoCommitTold IsCommitSaid b well out told (λ stored root k. inr k) (said_alone (OfFile IsNoCommitTold b) line well out told is h)

-- the output for the key, for a file whose first root is a commit, and for one without a commit
pub proof_of_first : (key : List ℕ) (stored : Stored) (roots : List CidParts) (root : CidParts) (c : Commit) (well : Bool) (out told : List ℕ) → ((others : List CidParts) × (roots ≡ root ∷ others) × IsStoredCommit stored root c) → IsProofSaid stored key root c.data well out told → OfRoots (IsProofAt key) stored roots well out told
proof_of_first key stored roots root c well out told first h =
    of_first (λ r. IsProofAt key stored r well out told) (IsToldAlone no_root_line well out told) roots root first.0 first.1 (inl (c, first.2, h))

pub no_proof_said : (key : List ℕ) (stored : Stored) (roots : List CidParts) (line : List ℕ) (well : Bool) (out told : List ℕ) → OfRoots IsNoCommitTold stored roots false [] line → IsToldAlone line well out told → OfRoots (IsProofAt key) stored roots well out told
no_proof_said key stored roots line well out told is h = of_roots IsNoCommitTold (IsProofAt key) stored roots well out told (λ root k. inr k) (said_alone (OfRoots IsNoCommitTold stored roots) line well out told is h)

pub named_said : (word key b : List ℕ) (well : Bool) (out told : List ℕ) → IsNamedBy word key → OfFile (IsProofAt key) b well out told → OfFile (IsProofOf word) b well out told
named_said word key b well out told named h = of_file (IsProofAt key) (IsProofOf word) b well out told (λ stored root k. (key, named, k)) h
