-- Commits that are stored, and why one is not read.
use Rattle.std.proofs.Common.{◌≡◌, ℕ, List, Some, Result, refl, sym, ap, ◌∙◌, subst, arith, inr, IfErr}
use Rattle.std.proofs.lemmas.Result.{IfErr-weaker}
use Rattle.sha2.proofs.Facts256.{length-sha256}
use Rattle.ipld_tree.specs.Cid.{CidParts, AreCidParts}
use Rattle.ipld_tree.proofs.Cids.{cid_unique}
use Rattle.dagcbor_write.specs.Answers.{AreSpellingOf}
use Rattle.ipld_links.specs.Names.{block_name}
use Rattle.ipld_links.specs.Reaching.{Stored}
use Rattle.atproto_mst.specs.Keys.{Entry}
use Rattle.atproto_mst.specs.Entries.{IsMst}
use Rattle.atproto_mst.specs.Commits.{commit_tree}
use Rattle.atproto_mst.specs.UnreadCommits.{UnreadCommit}
use Rattle.atproto_mst.specs.Repos.{IsOwnBlock, IsStoredCommit, CommitRefused, RepoRefused}
use Rattle.types_repository.specs.declared.repository.Commit.{Commit}
use Rattle.atproto_mst.specs.declared.repo_error.RepoError.{RepoError}
use Rattle.atproto_mst.specs.declared.repo_error.RepoError.TheVariants as error
use Rattle.atproto_mst.proofs.ShownCommits.{no_commit, one_commit, one_data}

-- the block under the name is no commit
pub unread_refused : (stored : Stored) (name : CidParts) (b : List ℕ) (e : RepoError) → IsOwnBlock stored name b → UnreadCommit b e → CommitRefused stored name e
unread_refused stored name b error.OutOfMemory at h = (b, at.0, at.1)
unread_refused stored name b error.Missing at h = absurd h
unread_refused stored name b error.OtherBytes at h = absurd h
unread_refused stored name b (error.NoCommit e) at h = (b, at, h)
unread_refused stored name b (error.OtherVersion n) at h = absurd h
unread_refused stored name b (error.Tree e) at h = absurd h

one_block : (stored : Stored) (name : CidParts) (b d : List ℕ) → stored name ≡ Some b → stored name ≡ Some d → b ≡ d
one_block stored name b d h k = let same = sym h ∙ k in cc same

-- a stored commit is refused only when out of memory
pub only_memory : (stored : Stored) (name : CidParts) (c : Commit) (e : RepoError) → IsStoredCommit stored name c → CommitRefused stored name e → e ≡ error.OutOfMemory
only_memory stored name c error.OutOfMemory s h = refl
only_memory stored name c error.Missing (version, (b, at, spelled)) h = let clash = sym at.0 ∙ h in absurd (cc clash)
only_memory stored name c error.OtherBytes (version, (b, at, spelled)) (d, is, other) =
    absurd (other (at.1 ∙ ap block_name (one_block stored name b d at.0 is)))
only_memory stored name c (error.NoCommit e) (version, (b, at, spelled)) (d, is, none) =
    absurd (no_commit b c (subst (λ x. UnreadCommit x (error.NoCommit e)) (one_block stored name d b is.0 at.0) none).0 (omega (arith, version)) spelled)
only_memory stored name c (error.OtherVersion n) (version, (b, at, spelled)) (d, o, is, read, of, other) =
    absurd (other (sym of ∙ one_commit b o c (subst (AreSpellingOf (commit_tree o)) (one_block stored name d b is.0 at.0) read) spelled ∙ version))
only_memory stored name c (error.Tree e) s h = absurd h

pub whole_commit : {T : Type 0} (stored : Stored) (name : CidParts) (r : Result T RepoError) → IfErr r (CommitRefused stored name)
    → (c : Commit) → IsStoredCommit stored name c → IfErr r (λ e. e ≡ error.OutOfMemory)
whole_commit stored name r h c s = IfErr-weaker r (CommitRefused stored name) (λ e. e ≡ error.OutOfMemory) (λ e k. only_memory stored name c e s k) h

-- ---- repositories

pub commit_unread : (stored : Stored) (name : CidParts) (e : RepoError) → CommitRefused stored name e → RepoRefused stored name e
commit_unread stored name error.OutOfMemory h = h
commit_unread stored name error.Missing h = h
commit_unread stored name error.OtherBytes h = h
commit_unread stored name (error.NoCommit e) h = h
commit_unread stored name (error.OtherVersion n) h = h
commit_unread stored name (error.Tree e) h = absurd h

name_is_cid : (b : List ℕ) → AreCidParts (block_name b)
name_is_cid b = inr (refl, omega arith, omega arith, omega (arith, length-sha256 b))

-- two commits under one name have the same root, if a tree has it
pub same_root : (stored : Stored) (name : CidParts) (c d : Commit) (es : List Entry) → AreCidParts c.data → IsStoredCommit stored name c → IsStoredCommit stored name d
    → IsMst stored d.data es → IsMst stored c.data es
same_root stored name c d es valid (v, (b, at, spelled)) (w, (o, there, read)) m =
    let block : o ≡ b = one_block stored name o b there.0 at.0 in
    let forms = one_data b c d spelled (subst (AreSpellingOf (commit_tree d)) block read) in
    let same : c.data ≡ d.data = cid_unique c.data d.data valid (subst AreCidParts (sym m.root_is) (name_is_cid _)) forms in
    subst (λ root. IsMst stored root es) (sym same) m
