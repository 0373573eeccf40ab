-- The entries of a directory, link by link.
use Rattle.std.proofs.Common.{◌≡◌, inl, inr, ℕ, List, [], ◌∷◌, ◌++◌, Bool, true, false, ◌&&◌, refl, sym, ap, ◌∙◌, subst, append_assoc, append-nil, Result, Ok, Err, IfOk, None, Some, cond, length, Vec, BTreeMap, Global}
use Rattle.std.specs.Map.{lookup}
use Rattle.std.specs.BTreeMap.{is_at, get}
use Rattle.ipld_links.specs.Sets.{Among}
use Rattle.ipld_links.proofs.Members.{at_same, same_at, append_among}
use Rattle.dag_pb.specs.Node.{LinkParts, Field, BeginsWithFields, NodeParts, IsNode, HasNode}
use Rattle.dag_pb.specs.Reads.{links_in}
use Rattle.dag_pb.proofs.Orders.{node_links_in}
use Rattle.files_unix_fs.specs.Reading.{HasRow}
use Rattle.files_unix_fs.specs.Files.{codec_of}
use Rattle.files_unix_fs.specs.Entities.{IsEntity}
use Rattle.files_unix_fs.specs.declared.entity.Entity.{Entity}
use Rattle.files_unix_fs.specs.declared.entity.Entity.TheVariants.{File, Directory}
use Rattle.ipld_tree.specs.Cid.{CidParts, cid_bytes, cid_cmp}
use Rattle.ipld_links.specs.Reaching.{Stored}
use Rattle.program_parts.specs.Lines.{IsSaidOfEach}
use Rattle.program_parts.proofs.Saying.{each_push}
use Rattle.program_parts.specs.declared.stop.Stop.{Stop}
use Rattle.program_parts.specs.Entries.{IsEntityAt, IsNoEntityAt, AreWordsOf, KnowsWords, IsKnown, KeepsWords, IsEntry, entity_words, stop_words, IsListingOf, IsListingUnder}

-- ---- words

pub entity_said : (stored : Stored) (cid : CidParts) (b : List ℕ) (entity : Entity) (words : List ℕ) → IsEntityAt stored cid b entity → words ≡ entity_words entity → AreWordsOf stored cid true words
entity_said stored cid b entity words is same = inl (b, entity, is, refl, same)

pub stop_said : (stored : Stored) (cid : CidParts) (stop : Stop) (words : List ℕ) → IsNoEntityAt stored cid stop → words ≡ stop_words stop → AreWordsOf stored cid false words
stop_said stored cid stop words is same = inr (stop, is, refl, same)

-- no words are known
pub knows_none : (stored : Stored) (known : BTreeMap CidParts (Vec ℕ Global × Bool)) → known.entries ≡ [] → KnowsWords stored known
knows_none stored known none = λ cid said e.
    let free : lookup (is_at (cid_cmp cid)) known.entries ≡ None = ap (λ es. lookup (is_at (cid_cmp cid)) es) none in
    absurd (nothing (sym free ∙ e))
  where
    nothing : {said : Vec ℕ Global × Bool} → None ≡ Some said → ⊥
    nothing e = cc e

-- the words known for a block are right
pub known_said : (stored : Stored) (known : BTreeMap CidParts (Vec ℕ Global × Bool)) (cid : CidParts) (found : Vec ℕ Global × Bool) → KnowsWords stored known → IsKnown known cid (Some found) → AreWordsOf stored cid found.1 found.0.items
known_said stored known cid found h k = subst (λ well. AreWordsOf stored cid well found.0.items) (sym k.2) (subst (AreWordsOf stored cid k.0.1) (sym k.3) (h cid k.0 k.1))

-- the words for one more block
pub knows_more : (stored : Stored) (old new : BTreeMap CidParts (Vec ℕ Global × Bool)) (name : CidParts) (well : Bool) (words : List ℕ) → KnowsWords stored old → KeepsWords name well words old new → AreWordsOf stored name well words → KnowsWords stored new
knows_more stored old new name well words h keeps is = λ q s e. found q s e (is_at (cid_cmp name) q) refl
  where
    differ : false ≡ true → ⊥
    differ e = cc e

    kept : AreWordsOf stored name keeps.0.0.1 keeps.0.0.0.items
    kept = subst (λ w. AreWordsOf stored name w keeps.0.0.0.items) (sym keeps.0.2) (subst (AreWordsOf stored name well) (sym keeps.0.3) is)

    found : (q : CidParts) (s : Vec ℕ Global × Bool) → get cid_cmp new q ≡ Some s → (t : Bool) → is_at (cid_cmp name) q ≡ t → AreWordsOf stored q s.1 s.0.items
    found q s e true t =
        let at = at_same name q t in
        let same : keeps.0.0 ≡ s = cc (sym keeps.0.1 ∙ ap (get cid_cmp new) at ∙ e) in
        subst (λ x. AreWordsOf stored x s.1 s.0.items) at (subst (λ (x : Vec ℕ Global × Bool). AreWordsOf stored name x.1 x.0.items) same kept)
    found q s e false t = h q s (sym (keeps.1 q (λ d. differ (sym t ∙ same_at name q (sym d)))) ∙ e)

-- what an insertion does to the map
pub words_kept : (old new : BTreeMap CidParts (Vec ℕ Global × Bool)) (name : CidParts) (said : Vec ℕ Global × Bool) (well : Bool) (words : List ℕ) → ((q : CidParts) → get cid_cmp new q ≡ cond (is_at (cid_cmp name) q) (Some said) (get cid_cmp old q)) → said.1 ≡ well → said.0.items ≡ words → KeepsWords name well words old new
words_kept old new name said well words put is same = ((said, put name ∙ ap (λ t. cond t (Some said) (get cid_cmp old name)) (same_at name name refl), is, same), λ q other. put q ∙ ap (λ t. cond t (Some said) (get cid_cmp old q)) (apart q other (is_at (cid_cmp name) q) refl))
  where
    apart : (q : CidParts) → (q ≡ name → ⊥) → (t : Bool) → is_at (cid_cmp name) q ≡ t → t ≡ false
    apart q other true t = absurd (other (sym (at_same name q t)))
    apart q other false t = refl

-- ---- the entries

-- The links before those left in the block are listed.
pub record IsListedTo (stored : Stored) (block links : List ℕ) (well : Bool) (out : List ℕ) : Type 0 where
  pub row : HasRow links
  pub done : List LinkParts
  pub listed : IsSaidOfEach (IsEntry stored) done well out
  pub same : (all : List Field) → BeginsWithFields block all [] → (more : List Field) × BeginsWithFields links more []
      × (links_in all ≡ done ++ links_in more)

pub none_listed : (stored : Stored) (block : List ℕ) → HasRow block → IsListedTo stored block block true []
none_listed stored block row = record { row = row; done = []; listed = (refl, refl); same = λ all h. (all, h, refl) }

-- what `next_link` says of a link
abbrev pub GivesLink : List ℕ → LinkParts → List ℕ → Type 0
GivesLink links link following = (row : List Field) → BeginsWithFields links row []
    → (more : List Field) × BeginsWithFields following more [] × (links_in row ≡ link ∷ links_in more)

pub one_listed : (stored : Stored) (block links following : List ℕ) (link : LinkParts) (well first : Bool) (out line : List ℕ) → IsListedTo stored block links well out → GivesLink links link following → IsEntry stored link first line
    → IsListedTo stored block following (well && first) (out ++ line)
one_listed stored block links following link well first out line h next entry = record {
  row = let k = next h.row.0 h.row.1 in (k.0, k.1);
  done = h.done ++ link ∷ [];
  listed = each_push (IsEntry stored) h.done link well first out line h.listed entry;
  same = λ all begins.
      let s = h.same all begins in
      let k = next s.0 s.1 in
      (k.0, k.1, s.2 ∙ ap (λ x. h.done ++ x) k.2 ∙ sym (append_assoc h.done (link ∷ []) (links_in k.0)));
}

pub all_listed : (stored : Stored) (block links : List ℕ) (well : Bool) (out : List ℕ) → IsListedTo stored block links well out → ((row : List Field) → BeginsWithFields links row [] → links_in row ≡ [])
    → (node : NodeParts) → IsNode block node → IsSaidOfEach (IsEntry stored) node.links well out
all_listed stored block links well out h none node is =
    let s = h.same is.0 is.1 in
    subst (λ x. IsSaidOfEach (IsEntry stored) x well out) (sym (append-nil h.done) ∙ sym (ap (λ x. h.done ++ x) (none s.0 s.1)) ∙ sym s.2 ∙ node_links_in is.0 node is.2) h.listed

-- the next link is one of the node's
pub next_linked : (stored : Stored) (block links following : List ℕ) (link : LinkParts) (well : Bool) (out : List ℕ) (node : NodeParts) → IsNode block node → IsListedTo stored block links well out → GivesLink links link following → Among link node.links
next_linked stored block links following link well out node is h next =
    let s = h.same is.0 is.1 in
    let k = next s.0 s.1 in
    subst (Among link) (sym (ap (λ x. h.done ++ x) k.2) ∙ sym s.2 ∙ node_links_in is.0 node is.2) (append_among link h.done (link ∷ links_in k.0) (inr (inl refl)))

-- ---- the listing

-- a directory is a node
pub directory_node : (stored : Stored) (cid : CidParts) (b : List ℕ) → IsEntityAt stored cid b Directory → HasNode b
directory_node stored cid b h = by h.2
  where
    by : IsEntity Directory (codec_of (cid_bytes cid)) b → HasNode b
    by (inl k) = absurd (other k.1)
      where
        other : Directory ≡ File (Some (length b)) → ⊥
        other e = cc e
    by (inr k) = k.1.1.node

pub node_row : (b : List ℕ) → HasNode b → HasRow b
node_row b h = (h.1.0, h.1.1)

pub if_ok_map : {A E : Type 0} (P Q : A → Type 0) (r : Result A E) → ((a : A) → P a → Q a) → IfOk r P → IfOk r Q
if_ok_map P Q (Ok a) f h = f a h
if_ok_map P Q (Err e) f h = h

pub listed_under : (stored : Stored) (cid : CidParts) (b : List ℕ) (entity : Entity) (well : Bool) (out told : List ℕ) → IsEntityAt stored cid b entity → IsListingOf stored cid b entity well out told → IsListingUnder stored cid well out told
listed_under stored cid b entity well out told is h = inl (b, entity, is, h)

-- the output for a directory has its entries
pub entries_listed : (stored : Stored) (cid : CidParts) (b : List ℕ) (node : NodeParts) (well : Bool) (out told : List ℕ) → IsEntityAt stored cid b Directory → IsNode b node → IsSaidOfEach (IsEntry stored) node.links well out → told ≡ [] → IsListingUnder stored cid well out told
entries_listed stored cid b node well out told is has said none = inl (b, Directory, is, ((node, has, said), none))
