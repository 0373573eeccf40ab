-- The output for a repository's records.
use Rattle.std.proofs.Common.{◌≡◌, inl, inr, ℕ, List, ◌∷◌, Bool, sym, refl, ◌∙◌, subst, Result, Ok, Err, IfOk}
use Rattle.ipld_tree.specs.Cid.{CidParts}
use Rattle.ipld_links.specs.Blocks.{NamedBlock}
use Rattle.ipld_links.specs.Reaching.{Stored}
use Rattle.ipld_links.specs.Verdicts.{IsVerified, IsVerdict}
use Rattle.ipld_links.specs.declared.verdict.Verdict.{Verdict}
use Rattle.ipld_links.specs.declared.verdict.Verdict.TheVariants as verdicts
use Rattle.atproto_mst.specs.Repos.{IsRepo, RepoRefused, IsStoredCommit, CommitRefused}
use Rattle.types_repository.specs.declared.repository.Commit.{Commit}
use Rattle.atproto_mst.specs.declared.entries.MstEntry.{MstEntry}
use Rattle.atproto_mst.specs.declared.repo_error.RepoError.{RepoError}
use Rattle.atproto_mst.specs.declared.repo_error.RepoError.TheVariants.{OutOfMemory}
use Rattle.program_records.specs.Words.{IsOfRepo, repo_line}
use Rattle.program_records.specs.Repositories.{OfFirstRoot, IsUnread}
use Rattle.program_records.specs.Records.{IsToldAlone, IsRecordAt}

-- what holds for an answer holds for it in other words
pub if_ok : {A E : Type 0} {P Q : A → Type 0} (r : Result A E) → IfOk r P → ((a : A) → P a → Q a) → IfOk r Q
if_ok (Ok a) h f = f a h
if_ok (Err e) h f = tt

pub told_as : (line text : List ℕ) (well : Bool) (out told : List ℕ) → line ≡ text → IsToldAlone line well out told → IsToldAlone text well out told
told_as line text well out told is h = (h.0, h.1, h.2 ∙ is)

-- ---- roots

pub of_first : (IsSo : CidParts → Type 0) (IsNone : Type 0) (roots : List CidParts) (root : CidParts) (others : List CidParts) → roots ≡ root ∷ others → IsSo root → OfFirstRoot IsSo IsNone roots
of_first IsSo IsNone roots root others is h = subst (OfFirstRoot IsSo IsNone) (sym is) h

-- ---- refusals

-- out of memory is not a cause that has a line
never_lack : (e : RepoError) → IsOfRepo e → e ≡ OutOfMemory → ⊥
never_lack e is lack = subst IsOfRepo lack is

pub unread_at : (stored : Stored) (root : CidParts) (e : RepoError) (line : List ℕ) → RepoRefused stored root e → ((c : Commit) (records : List MstEntry) → IsRepo stored root c records → e ≡ OutOfMemory) → IsOfRepo e → line ≡ repo_line root e → IsUnread stored root line
unread_at stored root e line refused whole is said = ((λ c records r. never_lack e is (whole c records r)), (e, refused, is, said))

pub no_commit_at : (stored : Stored) (key : List ℕ) (root : CidParts) (e : RepoError) (well : Bool) (out told : List ℕ) → CommitRefused stored root e → ((c : Commit) → IsStoredCommit stored root c → e ≡ OutOfMemory) → IsOfRepo e → IsToldAlone (repo_line root e) well out told → IsRecordAt stored key root well out told
no_commit_at stored key root e well out told refused whole is h = inr ((λ c k. never_lack e is (whole c k)), (e, refused, is, h))

-- ---- the bytes under a record's name

pub never_tested : (s : NamedBlock) → IsVerdict s verdicts.Unverified → IsVerified s → ⊥
never_tested s h (inl k) = h (inl k.0)
never_tested s h (inr k) = h (inr k.0)

pub tested : (s : NamedBlock) (v : Verdict) → IsVerdict s v → (v ≡ verdicts.OtherBytes → ⊥) → (v ≡ verdicts.Unverified → ⊥) → IsVerified s
tested s (verdicts.Block kind) h other none = h.0
tested s (verdicts.Refused e) h other none = h.0
tested s verdicts.NotRead h other none = h.0
tested s verdicts.LinksNotRead h other none = h.0
tested s verdicts.Node h other none = h.0
tested s (verdicts.NoNode e) h other none = h.0
tested s verdicts.OtherBytes h other none = absurd (other refl)
tested s verdicts.Unverified h other none = absurd (none refl)
