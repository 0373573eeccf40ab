-- The answer over the blocks on a path's way is the answer for any file.
use Rattle.std.proofs.Common.{◌≡◌, ◌⊎◌, inl, inr, ℕ, List, [], Bool, true, false, sym, ap, ◌∙◌, subst, Some, if◌then◌else◌}
use Rattle.ipld_tree.specs.Cid.{CidParts}
use Rattle.ipld_tree.specs.Tree.{Tree}
use Rattle.text_dag_json.specs.DagJson.{dag_json, has_reserved_key}
use Rattle.dagcbor_decode.specs.Blocks.{IsBlock}
use Rattle.ipld_links.specs.Reaching.{Stored}
use Rattle.ipld_links.specs.Collisions.{Collides}
use Rattle.ipld_paths.specs.Laws.{Leads}
use Rattle.ipld_paths.specs.declared.resolution.End.{End}
use Rattle.ipld_paths.specs.declared.resolution.End.TheVariants as ends
use Rattle.ipld_paths.proofs.Binding.{paths_bind}
use Rattle.ipld_paths.proofs.Reading.{one_block}
use Rattle.program_parts.specs.Lines.{line}
use Rattle.program_parts.specs.Shown.{reserved_line}
use Rattle.program_parts.specs.Ends.{IsNoItem, IsToldAt}
use Rattle.program_parts.specs.Raw.{IsBlockAt}
use Rattle.program_parts.specs.Paths.{IsSaidAt, IsAnswerOf, IsAnswerOfFile}
use Rattle.program_parts.specs.declared.at.Asked.{Asked}
use Rattle.program_parts.specs.declared.at.Asked.TheVariants as asks
use Rattle.program_index.specs.Ways.{IsSettled, HoldsWay}
use Rattle.program_index.proofs.Binding.{IsFailure, failure_binds}
use Rattle.program_dagcar_files.specs.PathAnswers.{IndexLeadsThere, WaysBind}

-- ---- two answers

one_tree : (s o : Stored) (m n : ℕ) (root : CidParts) (path : List (List ℕ)) (u v : Tree) → Leads m s root path (Some u) → Leads n o root path (Some v) → (u ≡ v) ⊎ Collides
one_tree s o m n root path u v h k = elim (paths_bind s o m n root path (Some u) (Some v) h k) [ inl e ↦ inl (let same : Some u ≡ Some v = e in cc same) | inr c ↦ inr c ]

-- the output and the error lines are the same
abbrev IsSame : List ℕ → List ℕ → List ℕ → List ℕ → Type 0
IsSame out told plain heard = ((out ≡ plain) × (told ≡ heard)) ⊎ Collides

abbrev told_of : Tree → List ℕ
told_of u = if has_reserved_key u then reserved_line else []

same_data : (s o : Stored) (root : CidParts) (path : List (List ℕ)) (well also : Bool) (out told plain heard : List ℕ) → IsSaidAt s root path well out told → IsSaidAt o root path also plain heard → IsSame out told plain heard
same_data s o root path well also out told plain heard h k = elim (one_tree s o h.0 k.0 root path h.1 k.1 h.2 k.2) [
  | inl e ↦ inl (h.4 ∙ ap (λ u. line (dag_json u)) e ∙ sym k.4, h.5 ∙ ap told_of e ∙ sym k.5)
  | inr c ↦ inr c
]

same_bytes : (s o : Stored) (root : CidParts) (path : List (List ℕ)) (well also : Bool) (out told plain heard : List ℕ) → IsBlockAt s root path well out told → IsBlockAt o root path also plain heard → IsSame out told plain heard
same_bytes s o root path well also out told plain heard h k = elim (one_tree s o h.0 k.0 root path h.1 k.1 h.2 k.2) [
  | inl e ↦ inl (one_block out plain k.1 (subst (IsBlock out) e h.4) k.4, h.5 ∙ sym k.5)
  | inr c ↦ inr c
]

-- ---- a path that leads to no item

failed : (end : End) → IsSettled end → IsNoItem end → IsFailure end
failed (ends.Item kind place end) is none = none
failed (ends.NoSuchPath left) is none = tt
failed ends.NotHeld is none = is
failed (ends.NoBlock verdict) is none = tt
failed ends.NoModel is none = tt
failed ends.Endless is none = is

told_binds : (s o : Stored) (n : ℕ) (root : CidParts) (path : List (List ℕ)) (u : Tree) (well : Bool) (out told : List ℕ) → HoldsWay s root path → IsToldAt s root path well out told → Leads n o root path (Some u) → Collides
told_binds s o n root path u well out told holds h k = failure_binds n s o root path h.0 u holds.verified h.1 (failed h.0.end (holds.settled h.0 h.1) h.2) k

not_told : {X : Type 0} (o : Stored) (root : CidParts) (path : List (List ℕ)) (out told : List ℕ) → IsToldAt o root path true out told → X
not_told o root path out told h = absurd (let clash : true ≡ false = h.3 in cc clash)

-- ---- the answers

-- the answers over two stores are the same
abbrev Alike : Asked → Type 0
Alike asked = (s o : Stored) (root : CidParts) (path : List (List ℕ)) (out told plain heard : List ℕ) → IsAnswerOf asked root path s true out told → IsAnswerOf asked root path o true plain heard → IsSame out told plain heard

data_alike : Alike asks.Data
data_alike s o root path out told plain heard (inl h) (inl k) = same_data s o root path true true out told plain heard h k
data_alike s o root path out told plain heard (inl h) (inr k) = not_told o root path plain heard k
data_alike s o root path out told plain heard (inr h) k = not_told s root path out told h

bytes_alike : Alike asks.Bytes
bytes_alike s o root path out told plain heard (inl h) (inl k) = same_bytes s o root path true true out told plain heard h k
bytes_alike s o root path out told plain heard (inl h) (inr k) = not_told o root path plain heard k
bytes_alike s o root path out told plain heard (inr h) k = not_told s root path out told h

-- and over the blocks on the way, even if the path leads nowhere
abbrev Bound : Asked → Type 0
Bound asked = (s o : Stored) (root : CidParts) (path : List (List ℕ)) (well : Bool) (out told plain heard : List ℕ) → HoldsWay s root path → IsAnswerOf asked root path s well out told → IsAnswerOf asked root path o true plain heard → ((well ≡ true) × (out ≡ plain) × (told ≡ heard)) ⊎ Collides

well_same : (well : Bool) (out told plain heard : List ℕ) → well ≡ true → IsSame out told plain heard → ((well ≡ true) × (out ≡ plain) × (told ≡ heard)) ⊎ Collides
well_same well out told plain heard is (inl e) = inl (is, e.0, e.1)
well_same well out told plain heard is (inr c) = inr c

data_bound : Bound asks.Data
data_bound s o root path well out told plain heard holds (inl h) (inl k) = well_same well out told plain heard h.3 (same_data s o root path well true out told plain heard h k)
data_bound s o root path well out told plain heard holds (inr h) (inl k) = inr (told_binds s o k.0 root path k.1 well out told holds h k.2)
data_bound s o root path well out told plain heard holds h (inr k) = not_told o root path plain heard k

bytes_bound : Bound asks.Bytes
bytes_bound s o root path well out told plain heard holds (inl h) (inl k) = well_same well out told plain heard h.3 (same_bytes s o root path well true out told plain heard h k)
bytes_bound s o root path well out told plain heard holds (inr h) (inl k) = inr (told_binds s o k.0 root path k.1 well out told holds h k.2)
bytes_bound s o root path well out told plain heard holds h (inr k) = not_told o root path plain heard k

-- ---- the laws

-- if there is an answer for a file, there is one over its sections
of_file : (asked : Asked) (root : CidParts) (path : List (List ℕ)) (b out told : List ℕ) → IsAnswerOfFile asked root path b true out told → (stored : Stored) × IsAnswerOf asked root path stored true out told
of_file asked root path b out told (inl h) = (h.3.0, h.3.2)
of_file asked root path b out told (inr h) = absurd (let clash : true ≡ false = h.0 in cc clash)

bind : (asked : Asked) → Bound asked → WaysBind asked
bind asked bound root path well out told other plain heard h k =
    let file = of_file asked root path other plain heard k in
    bound h.0 file.0 root path well out told plain heard h.1 h.2 file.1

files : (asked : Asked) → Alike asked → (root : CidParts) (path : List (List ℕ)) (b other out told plain heard : List ℕ) → IsAnswerOfFile asked root path b true out told → IsAnswerOfFile asked root path other true plain heard → (out ≡ plain) ⊎ Collides
files asked alike root path b other out told plain heard h k =
    let one = of_file asked root path b out told h in
    let two = of_file asked root path other plain heard k in
    elim (alike one.0 two.0 root path out told plain heard one.1 two.1) [ inl e ↦ inl e.0 | inr c ↦ inr c ]

lead : (asked : Asked) → Alike asked → Bound asked → IndexLeadsThere asked
lead asked alike bound root path b other out told plain heard (inl h) k = files asked alike root path b other out told plain heard h.1 k
lead asked alike bound root path b other out told plain heard (inr h) k = elim h.1 [
  | inl by ↦ elim (bind asked bound root path true out told other plain heard by k) [ inl e ↦ inl e.1 | inr c ↦ inr c ]
  | inr past ↦ elim past.1 [
    | inl q ↦ files asked alike root path b other out q.1.0 plain heard q.1.2 k
    | inr q ↦ absurd (let clash : true ≡ false = q.0 in cc clash)
  ]
]

pub data_ways_bind : WaysBind asks.Data
data_ways_bind = bind asks.Data data_bound

pub bytes_ways_bind : WaysBind asks.Bytes
bytes_ways_bind = bind asks.Bytes bytes_bound

pub data_leads : IndexLeadsThere asks.Data
data_leads = lead asks.Data data_alike data_bound

pub bytes_lead : IndexLeadsThere asks.Bytes
bytes_lead = lead asks.Bytes bytes_alike bytes_bound
