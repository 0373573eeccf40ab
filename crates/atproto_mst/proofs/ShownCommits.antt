-- What the block of a commit shows.
use Rattle.std.proofs.Common.{◌≡◌, ℕ, ◌^◌, ◌<◌, ◌≤◌, List, [], ◌∷◌, codes, pos, refl, sym, subst, arith, Option, Some, None, option_map, string_bytes}
use Rattle.dagcbor_core.specs.Steps.{default_steps}
use Rattle.ipld_tree.specs.Cid.{CidParts, cid_bytes}
use Rattle.ipld_tree.specs.Tree.{Tree, integer, text, bytes, mapping, link, no_entries, entry, entries_tree, ordered_entries}
use Rattle.ipld_tree.specs.Spelling.{IsSpelling}
use Rattle.ipld_tree.proofs.Ordered.{KeyAndTree, distinct_from_test}
use Rattle.dagcbor_items.specs.Shapes.{leaf, owned_leaf, option_of, view_text, view_bytes, view_link, view_unsigned}
use Rattle.dagcbor_read.specs.Structs.{required_field, no_other_fields}
use Rattle.dagcbor_read.specs.Whole.{IsWhole, HoldsNoValue}
use Rattle.types_schema.proofs.ShownTrees.{IsShownBy, unsigned_shown, text_shown, bytes_shown, closed_shown, required_shown, struct_shown}
use Rattle.dagcbor_write.specs.Trees.{field, option_tree}
use Rattle.dagcbor_write.specs.Answers.{AreSpellingOf}
use Rattle.types_repository.specs.Repository.{CommitView, commit_shape}
use Rattle.types_repository.specs.declared.repository.Commit.{Commit}
use Rattle.atproto_mst.specs.Commits.{commit_tree}
use Rattle.atproto_mst.proofs.Shown.{one_tree, below, link_made, cid_shown, cid_if_any_shown}

abbrev pub commit_meaning : Commit → CommitView
commit_meaning c = (string_bytes c.did, (c.version, (cid_bytes c.data, (string_bytes c.rev, (option_map cid_bytes c.prev, (c.sig.0.items, tt))))))

-- ---- the tree of what is shown

abbrev parts_shown : (did : List ℕ) (version : ℕ) (root rev : List ℕ) (prev : Option (List ℕ)) (sig : List ℕ) → Tree
parts_shown did version root rev prev sig = mapping (entry (codes "did") (text did) (entry (codes "rev") (text rev)
    (entry (codes "sig") (bytes sig) (entry (codes "data") (link root)
    (entry (codes "prev") (link_made prev) (entry (codes "version") (integer (pos version)) no_entries))))))

abbrev commit_shown : CommitView → Tree
commit_shown v = parts_shown v.0 v.1.0 v.1.1.0 v.1.1.1.0 v.1.1.1.1.0 v.1.1.1.1.1.0

parts_written : (did : List ℕ) (version : ℕ) (root : CidParts) (rev : List ℕ) (prev : Option CidParts) (sig : List ℕ)
    → entries_tree (field (codes "did") (Some (text did)) ∷ field (codes "rev") (Some (text rev)) ∷ field (codes "sig") (Some (bytes sig))
    ∷ field (codes "data") (Some (link (cid_bytes root))) ∷ field (codes "prev") (option_tree (λ p. Some (link (cid_bytes p))) prev)
    ∷ field (codes "version") (Some (integer (pos version))) ∷ []) ≡ Some (parts_shown did version (cid_bytes root) rev (option_map cid_bytes prev) sig)
parts_written did version root rev None sig = refl
parts_written did version root rev (Some c) sig = refl

commit_written : (c : Commit) → commit_tree c ≡ Some (commit_shown (commit_meaning c))
commit_written c = parts_written (string_bytes c.did) c.version c.data (string_bytes c.rev) c.prev c.sig.0.items

commit_spelled : (c : Commit) (b : List ℕ) → AreSpellingOf (commit_tree c) b → IsSpelling b (commit_shown (commit_meaning c))
commit_spelled c b h = subst (λ o. AreSpellingOf o b) (commit_written c) h

-- ---- what it shows

parts_view : (did : List ℕ) (version : ℕ) (root rev : List ℕ) (prev : Option (List ℕ)) (sig : List ℕ) → version < 2 ^ 8
    → commit_shape.view (parts_shown did version root rev prev sig) ≡ Some (did, (version, (root, (rev, (prev, (sig, tt))))))
parts_view did version root rev None sig h = rw (below version (2 ^ 8) h) refl
parts_view did version root rev (Some p) sig h = rw (below version (2 ^ 8) h) refl

parts_need : (did : List ℕ) (version : ℕ) (root rev : List ℕ) (prev : Option (List ℕ)) (sig : List ℕ)
    → commit_shape.need (parts_shown did version root rev prev sig) ≤ 256
parts_need did version root rev None sig = omega arith
parts_need did version root rev (Some p) sig = omega arith

-- ---- one tree shows a commit

abbrev commit_pairs : CommitView → List KeyAndTree
commit_pairs v = (codes "did", text v.0) ∷ (codes "version", integer (pos v.1.0)) ∷ (codes "data", link v.1.1.0) ∷ (codes "rev", text v.1.1.1.0) ∷ (codes "prev", link_made v.1.1.1.1.0) ∷ (codes "sig", bytes v.1.1.1.1.1.0) ∷ []

one_shown : IsShownBy commit_shape (λ v. mapping (ordered_entries (commit_pairs v)))
one_shown = struct_shown (required_field (codes "did") (owned_leaf view_text) (required_field (codes "version") (leaf (view_unsigned (2 ^ 8))) (required_field (codes "data") (leaf view_link) (required_field (codes "rev") (owned_leaf view_text) (required_field (codes "prev") (option_of (leaf view_link)) (required_field (codes "sig") (owned_leaf view_bytes) no_other_fields)))))) commit_pairs
    (required_shown (codes "did") (owned_leaf view_text) (λ s. text s) (λ t v w h. text_shown t v h)
    (required_field (codes "version") (leaf (view_unsigned (2 ^ 8))) (required_field (codes "data") (leaf view_link) (required_field (codes "rev") (owned_leaf view_text) (required_field (codes "prev") (option_of (leaf view_link)) (required_field (codes "sig") (owned_leaf view_bytes) no_other_fields)))))
    (λ v. (codes "version", integer (pos v.0)) ∷ (codes "data", link v.1.0) ∷ (codes "rev", text v.1.1.0) ∷ (codes "prev", link_made v.1.1.1.0) ∷ (codes "sig", bytes v.1.1.1.1.0) ∷ [])
    (required_shown (codes "version") (leaf (view_unsigned (2 ^ 8))) (λ n. integer (pos n)) (λ t v w h. unsigned_shown (2 ^ 8) t v h)
    (required_field (codes "data") (leaf view_link) (required_field (codes "rev") (owned_leaf view_text) (required_field (codes "prev") (option_of (leaf view_link)) (required_field (codes "sig") (owned_leaf view_bytes) no_other_fields))))
    (λ v. (codes "data", link v.0) ∷ (codes "rev", text v.1.0) ∷ (codes "prev", link_made v.1.1.0) ∷ (codes "sig", bytes v.1.1.1.0) ∷ [])
    (required_shown (codes "data") (leaf view_link) (λ b. link b) cid_shown
    (required_field (codes "rev") (owned_leaf view_text) (required_field (codes "prev") (option_of (leaf view_link)) (required_field (codes "sig") (owned_leaf view_bytes) no_other_fields)))
    (λ v. (codes "rev", text v.0) ∷ (codes "prev", link_made v.1.0) ∷ (codes "sig", bytes v.1.1.0) ∷ [])
    (required_shown (codes "rev") (owned_leaf view_text) (λ s. text s) (λ t v w h. text_shown t v h)
    (required_field (codes "prev") (option_of (leaf view_link)) (required_field (codes "sig") (owned_leaf view_bytes) no_other_fields))
    (λ v. (codes "prev", link_made v.0) ∷ (codes "sig", bytes v.1.0) ∷ [])
    (required_shown (codes "prev") (option_of (leaf view_link)) link_made cid_if_any_shown
    (required_field (codes "sig") (owned_leaf view_bytes) no_other_fields)
    (λ v. (codes "sig", bytes v.0) ∷ [])
    (required_shown (codes "sig") (owned_leaf view_bytes) (λ b. bytes b) (λ t v w h. bytes_shown t v h)
    no_other_fields
    (λ v. [])
    closed_shown))))))
    (λ v. distinct_from_test (commit_pairs v) refl)

-- ---- commits and blocks

-- commits of one block show the same
pub one_commit : (b : List ℕ) (c d : Commit) → AreSpellingOf (commit_tree c) b → AreSpellingOf (commit_tree d) b → c.version ≡ d.version
one_commit b c d p q =
    let same : commit_shown (commit_meaning c) ≡ commit_shown (commit_meaning d) =
    one_tree b (commit_shown (commit_meaning c)) (commit_shown (commit_meaning d)) (commit_spelled c b p) (commit_spelled d b q) in
    cc same

-- a block that shows nothing is not a commit whose version fits a byte
pub no_commit : (b : List ℕ) (c : Commit) → HoldsNoValue commit_shape default_steps b → c.version < 2 ^ 8 → ¬ AreSpellingOf (commit_tree c) b
no_commit b c h small p = h (commit_meaning c) (
  commit_shown (commit_meaning c),
  commit_spelled c b p,
  parts_view (string_bytes c.did) c.version (cid_bytes c.data) (string_bytes c.rev) (option_map cid_bytes c.prev) c.sig.0.items small,
  parts_need (string_bytes c.did) c.version (cid_bytes c.data) (string_bytes c.rev) (option_map cid_bytes c.prev) c.sig.0.items,
)

-- a block that shows a commit is its spelling
pub commit_read : (b : List ℕ) (c : Commit) → IsWhole commit_shape default_steps b (commit_meaning c) → AreSpellingOf (commit_tree c) b
commit_read b c (t, spelled, shows, need) =
    subst (λ o. AreSpellingOf o b) (sym (commit_written c)) (subst (IsSpelling b) (one_shown t (commit_meaning c) spelled.well_formed shows) spelled)

-- commits of one block have one root
pub one_data : (b : List ℕ) (c d : Commit) → AreSpellingOf (commit_tree c) b → AreSpellingOf (commit_tree d) b → cid_bytes c.data ≡ cid_bytes d.data
one_data b c d p q =
    let same : commit_shown (commit_meaning c) ≡ commit_shown (commit_meaning d) =
    one_tree b (commit_shown (commit_meaning c)) (commit_shown (commit_meaning d)) (commit_spelled c b p) (commit_spelled d b q) in
    cc same
