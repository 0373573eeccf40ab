-- The links of a node, looked through for a name.
use Rattle.std.proofs.Common.{◌≡◌, ℕ, List, [], ◌∷◌, Option, None, Some, true, false, if◌then◌else◌, refl, sym, ap, ◌∙◌}
use Rattle.ipld_tree.specs.Cid.{CidParts}
use Rattle.dag_pb.specs.Node.{LinkParts, Field, BeginsWithFields, NodeParts, IsNode}
use Rattle.dag_pb.specs.Reads.{links_in}
use Rattle.dag_pb.proofs.Orders.{node_links_in}
use Rattle.files_unix_fs.specs.Reading.{HasRow}
use Rattle.files_unix_fs.specs.Directories.{has_name, link_named}

-- the links that are left have the first link with the name, if there is one
pub record IsSearchedTo (name block links : List ℕ) : Type 0 where
  pub row : HasRow links
  pub same : (all : List Field) → BeginsWithFields block all [] → (more : List Field) × BeginsWithFields links more []
      × (link_named name (links_in all) ≡ link_named name (links_in more))

pub none_searched : (name block : List ℕ) → HasRow block → IsSearchedTo name block block
none_searched name block row = record { row = row; same = λ all h. (all, h, refl) }

-- the answer of `next_link` is this link
abbrev GivesLink : List ℕ → LinkParts → List ℕ → Type 0
GivesLink links link following = (row : List Field) → BeginsWithFields links row []
    → (more : List Field) × BeginsWithFields following more [] × (links_in row ≡ link ∷ links_in more)

pub other_searched : (name block links following : List ℕ) (link : LinkParts) → IsSearchedTo name block links → GivesLink links link following → has_name name link ≡ false → IsSearchedTo name block following
other_searched name block links following link h next other = record {
  row = let k = next h.row.0 h.row.1 in (k.0, k.1);
  same = λ all begins.
      let s = h.same all begins in
      let k = next s.0 s.1 in
      (k.0, k.1, s.2 ∙ ap (link_named name) k.2 ∙ ap (λ t. if t then Some link.hash else link_named name (links_in k.0)) other);
}

pub one_named : (name block links following : List ℕ) (link : LinkParts) → IsSearchedTo name block links → GivesLink links link following → has_name name link ≡ true → (node : NodeParts) → IsNode block node → Some link.hash ≡ link_named name node.links
one_named name block links following link h next same node is =
    let s = h.same is.0 is.1 in
    let k = next s.0 s.1 in
    sym (ap (link_named name) (sym (node_links_in is.0 node is.2)) ∙ s.2 ∙ ap (link_named name) k.2 ∙ ap (λ t. if t then Some link.hash else link_named name (links_in k.0)) same)

pub none_named : (name block links : List ℕ) → IsSearchedTo name block links → ((row : List Field) → BeginsWithFields links row [] → links_in row ≡ []) → (node : NodeParts) → IsNode block node → ◌≡◌ {A = Option CidParts} None (link_named name node.links)
none_named name block links h none node is =
    let s = h.same is.0 is.1 in
    sym (ap (link_named name) (sym (node_links_in is.0 node is.2)) ∙ s.2 ∙ ap (link_named name) (none s.0 s.1))
